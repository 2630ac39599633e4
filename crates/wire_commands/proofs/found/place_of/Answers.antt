use Rattle.std.proofs.Common.{sym, ◌∙◌}
use Rattle.wire_commands.proofs.FoundLemmas.{is_there}
use Rattle.wire_commands.proofs.found.place_of.Goals as goal

pub returns-then-is_word : goal.returns-then-is_word
returns-then-is_word c = (
  c.if-expected-keys.true,
  is_there c.args.keys.now c.args.expected _ c.word.result.now c.args.word.now c.word.ensures c.if-expected-keys.true
      (sym c.is_word.ensures ∙ c.if-is_word.true),
)
