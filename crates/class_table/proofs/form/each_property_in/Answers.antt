use Rattle.std.proofs.Common.{◌∙◌}
use Rattle.serde_json.specs.View.{view}
use Rattle.class_table.specs.Forms.{property_seen}
use Rattle.class_table.specs.Written.{property_in}
use Rattle.class_table.proofs.EachLemmas.{each_next}
use Rattle.class_table.proofs.form.each_property_in.Goals as goal

pub loop-json-preserved : goal.loop-json-preserved
loop-json-preserved c =
    each_next property_in view property_seen c.args.array.now c.loop-json.json-index c.json-item.result c.loop-json.properties.items c.push.new.self.items
    c.in_ok-property.property c.loop-json-test.true c.json-item.is c.in_ok-push.ensures.items c.in_ok-property.ensures ∙ c.loop-json.invariant
