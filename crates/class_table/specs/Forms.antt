-- A class in JSON, as the code reads it.
use Rattle.std.specs.Prelude.{map, option_map}
use Rattle.serde_json.specs.View.{view}
use Rattle.class_table.specs.declared.form.MethodForm.{MethodForm}
use Rattle.class_table.specs.declared.form.PropertyForm.{PropertyForm}
use Rattle.class_table.specs.declared.form.ClassForm.{ClassForm}
use Rattle.class_table.specs.Written.{WrittenMethod, WrittenProperty, WrittenClass}

abbrev pub method_seen : MethodForm → WrittenMethod
method_seen form = record { signature = form.signature.now; body = option_map (λ json. view json.now) form.body }

abbrev pub property_seen : PropertyForm → WrittenProperty
property_seen form = record { name = form.name.now; kind = form.kind; notify = option_map (λ text. text.now) form.notify; bindable = form.bindable }

abbrev pub class_seen : ClassForm → WrittenClass
class_seen form = record {
  name = form.name.now;
  base = form.base.now;
  methods = map method_seen form.methods.items;
  properties = map property_seen form.properties.items;
}
