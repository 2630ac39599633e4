use Rattle.std.proofs.Common.{refl, sym, ◌∙◌, arith}
use Rattle.wire_commands.proofs.FoundLemmas.{finds_all, knows_all, knows_not, length_words, passes_common, passes_word}
use Rattle.wire_commands.proofs.found.find_values.Goals.{then-not-is_common+in-Some, else-not-is_common}
use Rattle.wire_commands.proofs.found.find_values.Goals as goal

pub members-init : goal.members-init
members-init c = record { known = refl; there = c.requires.none }

pub returns-in_default-clause-known : goal.returns-in_default-clause-known
returns-in_default-clause-known c =
    knows_not _ c.member-item.is c.members-test.true (sym c.is_common.ensures ∙ c.if-not-is_common.true) c.in_default.ensures c.members.invariant

pub members-preserved : goal.members-preserved
members-preserved c = elim c.if-not-is_common.branch [
  | then-not-is_common+in-Some w ↦
      let place = w.in-Some.ensures in
      let long = length_words c.args.keys.now in
      rw w.found-is (passes_word _ w.in-Some.place _ c.requires.distinct c.member-item.is c.members-test.true
      (sym c.is_common.ensures ∙ w.if-not-is_common.true) (omega (arith, place.0, long))
      (omega (arith, long, c.requires.room, c.members.auto.found)) place.1 refl c.members.invariant)
  | else-not-is_common w ↦
      rw w.found-is (passes_common _ c.requires.distinct c.member-item.is c.members-test.true (sym c.is_common.ensures ∙ w.if-not-is_common.false)
      c.members.invariant)
]

pub returns-clause-known : goal.returns-clause-known
returns-clause-known c = knows_all c.members-test.false c.members.invariant

pub returns-clause-found : goal.returns-clause-found
returns-clause-found c = λ told. finds_all c.members-test.false c.members.invariant
