-- Descriptions in JSON, with their keys in byte order.
use Rattle.std.specs.Prelude.{codes}
use Rattle.serde_json.specs.Data.{Data, boolean, string, object, no_members, member}
use Rattle.session_model.specs.declared.descriptions.CalleeDescription.{CalleeDescription}
use Rattle.session_model.specs.declared.descriptions.CalleeDescription.TheVariants.{Method, Functor}
use Rattle.session_model.specs.declared.descriptions.ClassDescription.{ClassDescription}
use Rattle.session_model.specs.declared.descriptions.ConnectionDescription.{ConnectionDescription}
use Rattle.session_model.specs.declared.descriptions.DeclaredMethod.{DeclaredMethod}
use Rattle.session_model.specs.declared.descriptions.DeclaredProperty.{DeclaredProperty}
use Rattle.session_model.specs.declared.descriptions.FunctorDescription.{FunctorDescription}
use Rattle.session_model.specs.declared.descriptions.JoinDescription.{JoinDescription}
use Rattle.session_model.specs.declared.descriptions.ObjectDescription.{ObjectDescription}
use Rattle.session_model.specs.declared.descriptions.PropertyDescription.{PropertyDescription}
use Rattle.session_model.specs.declared.descriptions.PublicationDescription.{PublicationDescription}
use Rattle.session_model.specs.declared.line.Spin.{Spin}
use Rattle.session_model.specs.declared.line.Status.{Status}
use Rattle.session_model.specs.declared.meta.MetaObject.{MetaObject}
use Rattle.session_model.specs.declared.named_property.NamedProperty.{NamedProperty}
use Rattle.variant_value.specs.Values.{json_of}
use Rattle.wire_format.specs.Json.{array_of, json_of_error, json_of_kind, json_of_mode, json_of_number, json_or_null}

-- The contents of a class in JSON, with its keys in byte order.
abbrev pub json_of_meta : MetaObject → Data
json_of_meta meta =
    object (member (codes "class") (string meta.class) (
    member (codes "methodOffset") (json_of_number meta.method_offset) (
    member (codes "methods") (array_of string meta.methods) (
    member (codes "properties") (array_of string meta.properties) (
    member (codes "propertyOffset") (json_of_number meta.property_offset) (
    member (codes "super") (json_or_null string meta.superclass) no_members))))))

-- The result of taking events, in JSON.
abbrev pub json_of_spin : Spin → Data
json_of_spin spin =
    object (member (codes "events") (json_of_number spin.events) (
    member (codes "left") (json_of_number spin.left) (
    member (codes "lost") (json_of_number spin.lost) (
    member (codes "mismatched") (json_of_number spin.mismatched) no_members))))

-- The counts of a session, in JSON.
abbrev pub json_of_status : Status → Data
json_of_status status =
    object (member (codes "bindings") (json_of_number status.bindings) (
    member (codes "connections") (json_of_number status.connections) (
    member (codes "group") (json_of_number status.group) (
    member (codes "joins") (json_of_number status.joins) (
    member (codes "lost") (json_of_number status.lost) (
    member (codes "mismatched") (json_of_number status.mismatched) (
    member (codes "objects") (json_of_number status.objects) (
    member (codes "publications") (json_of_number status.publications) (
    member (codes "queued") (json_of_number status.queued) no_members)))))))))

-- A property by its object and its name.
abbrev pub json_of_named_property : NamedProperty → Data
json_of_named_property named =
    object (member (codes "object") (json_of_number named.object) (
    member (codes "property") (string named.property) no_members))

abbrev pub json_of_functor : FunctorDescription → Data
json_of_functor functor =
    object (member (codes "name") (string functor.name) (
    member (codes "state") (boolean functor.keeps_state) (
    member (codes "types") (array_of json_of_kind functor.kinds) no_members)))

abbrev pub json_of_publication : PublicationDescription → Data
json_of_publication publication =
    object (member (codes "name") (string publication.name) (
    member (codes "object") (json_of_number publication.object) (
    member (codes "signal") (string publication.signal) no_members)))

abbrev pub json_of_join : JoinDescription → Data
json_of_join join =
    object (member (codes "from") (string join.from) (
    member (codes "method") (string join.method) (
    member (codes "name") (string join.name) (
    member (codes "object") (json_of_number join.object) (
    member (codes "types") (array_of json_of_kind join.kinds) no_members)))))

abbrev pub json_of_object : ObjectDescription → Data
json_of_object described =
    object (member (codes "blocked") (boolean described.blocked) (
    member (codes "children") (json_of_number described.children) (
    member (codes "class") (string described.class) (
    member (codes "connectionsFrom") (json_of_number described.connections_from) (
    member (codes "connectionsTo") (json_of_number described.connections_to) (
    member (codes "events") (json_of_number described.events) (
    member (codes "level") (json_of_number described.level) (
    member (codes "parent") (json_or_null json_of_number described.parent) no_members))))))))

abbrev pub json_of_declared_property : DeclaredProperty → Data
json_of_declared_property property =
    object (member (codes "bindable") (boolean property.bindable) (
    member (codes "class") (string property.class) (
    member (codes "name") (string property.name) (
    member (codes "notify") (json_or_null string property.notify) (
    member (codes "type") (json_of_kind property.kind) no_members)))))

abbrev pub json_of_declared_method : DeclaredMethod → Data
json_of_declared_method method =
    object (member (codes "class") (string method.class) (
    member (codes "signature") (string method.signature) (
    member (codes "types") (array_of json_of_kind method.kinds) no_members)))

abbrev pub json_of_class : ClassDescription → Data
json_of_class described =
    object (member (codes "class") (string described.class) (
    member (codes "properties") (array_of json_of_declared_property described.properties) (
    member (codes "signals") (array_of json_of_declared_method described.signals) (
    member (codes "slots") (array_of json_of_declared_method described.slots) (
    member (codes "super") (json_or_null string described.superclass) no_members)))))

-- A connection to a method has its receiver, and one to a functor has its context object and its state.
abbrev pub json_of_connection_to : ConnectionDescription → CalleeDescription → Data
json_of_connection_to row (Method method) =
    object (member (codes "connection") (json_of_number row.number) (
    member (codes "method") (string method) (
    member (codes "receiver") (json_of_number row.receiver) (
    member (codes "sender") (json_of_number row.sender) (
    member (codes "signal") (string row.signal) (
    member (codes "single") (boolean row.single) (
    member (codes "type") (json_of_mode row.mode) no_members)))))))
json_of_connection_to row (Functor functor state) =
    object (member (codes "connection") (json_of_number row.number) (
    member (codes "context") (json_of_number row.receiver) (
    member (codes "functor") (string functor) (
    member (codes "sender") (json_of_number row.sender) (
    member (codes "signal") (string row.signal) (
    member (codes "single") (boolean row.single) (
    member (codes "state") (json_of_number state) (
    member (codes "type") (json_of_mode row.mode) no_members))))))))

abbrev pub json_of_connection : ConnectionDescription → Data
json_of_connection row = json_of_connection_to row row.callee

abbrev pub json_of_property : PropertyDescription → Data
json_of_property property =
    object (member (codes "bindable") (boolean property.bindable) (
    member (codes "bound") (boolean property.bound) (
    member (codes "error") (json_or_null json_of_error property.error) (
    member (codes "name") (string property.name) (
    member (codes "notify") (json_or_null string property.notify) (
    member (codes "type") (json_or_null json_of_kind property.kind) (
    member (codes "value") (json_of property.value) no_members)))))))
