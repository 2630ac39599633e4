use Rattle.std.proofs.Common.{refl}
use Rattle.session_model.specs.Writing.{Removed}
use Rattle.session_effects.proofs.WritingLemmas.{refused_as, set_keeps, writes_dynamic, writes_removed}
use Rattle.session_effects.proofs.writing.write_dynamic.Goals as goal

pub returns-in-Invalid-clause-writes : goal.returns-in-Invalid-clause-writes
returns-in-Invalid-clause-writes c =
    rw c.in-Invalid.is (
      Removed c.args.name.now,
      refl,
      writes_removed c.args.caller.now c.args.object c.args.tables.now c.remove_dynamic.new.self c.requires.placed c.args.name.now
          (rw c.as_str.ensures at c.remove_dynamic.ensures),
    )

pub returns : goal.returns
returns c =
    let e = rw c.in_ok-name.ensures at c.set_dynamic.ensures.ok in
    record {
      writes = writes_dynamic c.args.caller.now c.args.object c.args.name.now c.args.value c.args.tables.now c.set_dynamic.new.self c.set_dynamic.result
          c.requires.placed c.in_default.not-Invalid
          (rw c.in_ok-name.ensures at c.set_dynamic.ensures.refusal) e;
      refused = refused_as _ c.set_dynamic.result c.set_dynamic.ensures.err;
      keeps = set_keeps c.args.caller.now.place c.args.tables.now c.set_dynamic.new.self _ c.set_dynamic.result c.requires.placed c.set_dynamic.ensures.ok
          c.set_dynamic.ensures.err;
    }
