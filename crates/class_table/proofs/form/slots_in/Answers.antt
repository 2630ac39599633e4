use Rattle.std.proofs.Common.{◌∙◌}
use Rattle.serde_json.specs.View.{view}
use Rattle.class_table.specs.Forms.{method_seen}
use Rattle.class_table.specs.Written.{slot_in}
use Rattle.class_table.proofs.EachLemmas.{each_next}
use Rattle.class_table.proofs.form.slots_in.Goals as goal

pub loop-json-preserved : goal.loop-json-preserved
loop-json-preserved c =
    each_next slot_in view method_seen c.args.array.now c.loop-json.json-index c.json-item.result c.loop-json.methods.items c.push.new.self.items
    c.in_ok-slot.slot c.loop-json-test.true c.json-item.is c.in_ok-push.ensures.items c.in_ok-slot.ensures ∙ c.loop-json.invariant
