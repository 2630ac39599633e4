use Rattle.std.proofs.Common.{sym, ◌∙◌}
use Rattle.wire_commands.proofs.FoundLemmas.{is_further, is_there}
use Rattle.wire_commands.proofs.found.any_place_of.Goals as goal

pub returns-then-is_word : goal.returns-then-is_word
returns-then-is_word c = (
  c.keys-test.true,
  is_there c.args.keys.now c.keys.place _ c.word.result.now c.args.word.now c.word.ensures c.keys-test.true
      (sym c.is_word.ensures ∙ c.if-is_word.true),
)

pub keys-preserved : goal.keys-preserved
keys-preserved c = c.keys.invariant ∙ is_further c.args.keys.now c.keys.place _ c.word.result.now c.args.word.now c.word.ensures c.keys-test.true
    (sym c.is_word.ensures ∙ c.if-is_word.false)
