use Rattle.std.proofs.Common.{sym, ◌∙◌, arith}
use Rattle.session_model.specs.Targets.{evaluated, object_of}
use Rattle.std.proofs.lemmas.Grind.{common_steps}
use Rattle.session_effects.proofs.ActionLemmas.{is_there_by, read_as}
use Rattle.session_effects.proofs.WritingLemmas.{sets_property}
use Rattle.session_effects.proofs.writing.set.Goals as goal

pub returns-clause-tries : goal.returns-clause-tries
returns-clause-tries c =
    let slot = c.args.slot.now in
    let r = c.reader-reader.ensures in
    sets_property c.args.caller.now slot c.args.of.now c.args.property.now c.args.value.now c.args.tables.now c.write.new.tables c.write.result
    c.in_ok-object.object c.in_ok-value.value
    (c.in_ok-object.ensures ∙ read_as (λ state object sender. object_of state object sender c.args.of.now) r.tables r.place r.object r.sender)
    (is_there_by _ c.in_ok-class.ensures.refusal)
    (sym (read_as (λ state object sender. evaluated state object sender slot.args.now c.args.value.now) r.tables r.place r.object r.sender)
    ∙ c.in_ok-value.ensures)
    c.write.ensures.writes

pub returns-in_err-object-clause-keeps : goal.returns-in_err-object-clause-keeps
returns-in_err-object-clause-keeps c = grind (arith, common_steps)

pub returns-in_err-class-clause-keeps : goal.returns-in_err-class-clause-keeps
returns-in_err-class-clause-keeps c = grind (arith, common_steps)

pub returns-in_err-value-clause-keeps : goal.returns-in_err-value-clause-keeps
returns-in_err-value-clause-keeps c = grind (arith, common_steps)
