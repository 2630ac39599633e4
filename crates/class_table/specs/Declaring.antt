-- The declaration of a class after the classes that exist.
use Rattle.std.specs.Prelude.{◌&&◌, ◌+◌, ℕ, Bool, true, false, List, [], ◌∷◌, ◌++◌, Option, Some, None, Result}
use Rattle.std.specs.Prelude.{Ok, Err, codes, length, map, position, slice_get, nat_le, is_none}
use Rattle.std.specs.Option.{ok_or, option_map_or}
use Rattle.serde_json.specs.Data.{Data}
use Rattle.plain_types.specs.declared.code.Code.{Code}
use Rattle.plain_types.specs.declared.code.Code.TheVariants as code
use Rattle.signature_core.specs.declared.kind.Kind.{Kind}
use Rattle.signature_core.specs.declared.kind.Kind.TheVariants as kind
use Rattle.signature_core.specs.declared.signature.Signature.{Signature}
use Rattle.signature_core.specs.Kinds.{is_same_kind}
use Rattle.signature_core.specs.Reading.{signature_of}
use Rattle.term_core.specs.declared.body.Body.{Body}
use Rattle.term_core.specs.declared.action.SingleAction.TheVariants.{DeleteLater}
use Rattle.term_core.specs.declared.target.Target.TheVariants.{Itself}
use Rattle.term_core.specs.Act.{single_action}
use Rattle.term_core.specs.Bodies.{body_of}
use Rattle.class_table.specs.declared.class.TheConstants.{METHODS, PROPERTIES}
use Rattle.class_table.specs.declared.class.Class.{Class}
use Rattle.class_table.specs.declared.class.Method.{Method}
use Rattle.class_table.specs.declared.class.Property.{Property}
use Rattle.class_table.specs.declared.fault.ClassFaultKind.{ClassFaultKind}
use Rattle.class_table.specs.declared.fault.ClassFaultKind.TheVariants.{NameTaken, NoSuperclass, BadSignature, DeclaredTwice, BadNotify, BadBody, Limit}
use Rattle.class_table.specs.Lookup.{is_same, methods, properties, index_of, signatures, names, text_of, are_distinct_methods, are_distinct_properties}
use Rattle.class_table.specs.Steps.{Read, ◌>>=◌, provided, each}
use Rattle.class_table.specs.Written.{WrittenMethod, WrittenProperty, WrittenClass, class_in}

-- A method with its signature, and with its body in JSON. A signal has no body.
pub record SignedMethod : Type 0 where
  pub signature : Signature
  pub body : Option Data

abbrev pub signed_of : WrittenMethod → Read SignedMethod
signed_of written = do
  signature ← ok_or (signature_of written.signature) BadSignature
  Ok (record { signature = signature; body = written.body })

abbrev pub new_signatures : List SignedMethod → List Signature
new_signatures = map (λ method. method.signature)

abbrev pub new_names : List WrittenProperty → List (List ℕ)
new_names = map (λ property. property.name)

-- The number of the method with a signature. New methods follow those of the superclass.
abbrev pub number_of : List Method → List SignedMethod → Signature → Option ℕ
number_of base new wanted = position (λ there. is_same there wanted) (signatures base ++ new_signatures new)

-- For each method, whether it is a signal.
abbrev pub are_signals : List Method → List SignedMethod → List Bool
are_signals base new = map (λ method. method.is_signal) base ++ map (λ method. is_none method.body) new

abbrev pub is_signal_at : List Method → List SignedMethod → ℕ → Bool
is_signal_at base new number = option_map_or (λ signal. signal) (slice_get (are_signals base new) number) false

-- Whether a signal with these parameters may be the NOTIFY signal of a property of this kind: one parameter of the kind,
-- or none.
abbrev pub tells : Kind → List Kind → Bool
tells kind [] = true
tells kind (first ∷ []) = is_same_kind first kind
tells kind (first ∷ second ∷ rest) = false

-- The number of a property's NOTIFY signal.
unfoldable pub signal_named : List Method → List SignedMethod → Kind → List ℕ → Read ℕ
signal_named base new kind text = do
  wanted ← ok_or (signature_of text) BadNotify
  number ← ok_or (number_of base new wanted) BadNotify
  provided (is_signal_at base new number && tells kind wanted.kinds) BadNotify (Ok number)

abbrev pub notify_of : List Method → List SignedMethod → WrittenProperty → Read (Option ℕ)
notify_of base new written = option_map_or (λ text. signal_named base new written.kind text >>= λ number. Ok (Some number)) written.notify (Ok None)

abbrev pub property_of : List Method → List SignedMethod → WrittenProperty → Read Property
property_of base new written = do
  notify ← notify_of base new written
  Ok (record { name = written.name; kind = written.kind; notify = notify; bindable = written.bindable })

-- The body of a signal with this many parameters, which does nothing.
abbrev pub empty_body : ℕ → Body
empty_body params = record { params = params; actions = [] }

-- The body `[{"deleteLater":"self"}]`.
abbrev pub delete_later_body : Body
delete_later_body = record { params = 0; actions = single_action (DeleteLater Itself) ∷ [] }

-- The fault of a class with a slot whose body has this fault.
abbrev pub body_fault : Code → ClassFaultKind
body_fault code.Limit = Limit
body_fault _ = BadBody

abbrev pub body_in : Result Body Code → Read Body
body_in (Ok body) = Ok body
body_in (Err fault) = Err (body_fault fault)

-- The signal with this signature.
abbrev pub signal_of : Signature → Method
signal_of signature = record { signature = signature; text = text_of signature; is_signal = true; body = empty_body (length signature.kinds) }

-- The slot with this signature and body.
abbrev pub slot_of : Signature → Body → Method
slot_of signature body = record { signature = signature; text = text_of signature; is_signal = false; body = body }

abbrev pub method_of : SignedMethod → Read Method
method_of new = option_map_or
    (λ json. body_in (body_of (length new.signature.kinds) json) >>= λ body. Ok (slot_of new.signature body))
    new.body
    (Ok (signal_of new.signature))

-- Whether nothing is declared twice, superclasses included.
unfoldable pub is_declared_once : List Method → List SignedMethod → List Property → List WrittenProperty → Bool
is_declared_once base new held written =
    are_distinct_methods (signatures base ++ new_signatures new) && are_distinct_properties (names held ++ new_names written)

-- Whether there are at most as many methods and properties as a class may have.
abbrev pub is_within_limits : List Method → List SignedMethod → List Property → List WrittenProperty → Bool
is_within_limits base new held written =
    nat_le (length base + length new) METHODS && nat_le (length held + length written) PROPERTIES

-- The check of a declaration below a superclass: nothing is declared twice, and there is not too much.
abbrev pub may_stand : List Method → List SignedMethod → List Property → List WrittenProperty → Read (Unit {0})
may_stand base new held written =
    provided (is_declared_once base new held written) DeclaredTwice (
    provided (is_within_limits base new held written) Limit (Ok tt))

-- The class of this name that extends the class with this index by these methods and properties.
abbrev pub extending : List Class → ℕ → List ℕ → List Method → List Property → Class
extending classes base name own_methods own_properties = record {
  name = name;
  superclass = Some base;
  method_offset = length (methods classes base);
  property_offset = length (properties classes base);
  methods = own_methods;
  properties = own_properties;
}

-- The class with these methods, and with the properties in JSON.
abbrev pub class_with : List Class → ℕ → WrittenClass → List SignedMethod → Read Class
class_with classes base written new =
    each (property_of (methods classes base) new) written.properties >>= λ own_properties.
    each method_of new >>= λ own_methods.
    Ok (extending classes base written.name own_methods own_properties)

-- The class that is declared below a superclass.
unfoldable pub class_below : List Class → ℕ → WrittenClass → Read Class
class_below classes base written =
    each signed_of written.methods >>= λ new.
    provided (is_declared_once (methods classes base) new (properties classes base) written.properties) DeclaredTwice (
    provided (is_within_limits (methods classes base) new (properties classes base) written.properties) Limit (
    class_with classes base written new))

-- The class in JSON.
unfoldable pub class_of : List Class → Data → Read Class
class_of classes json =
    class_in json >>= λ written.
    provided (is_none (index_of written.name classes)) NameTaken (
    ok_or (index_of written.base classes) NoSuperclass >>= λ base.
    class_below classes base written)

-- The class below which all others are.
abbrev pub q_object : Class
q_object = record {
  name = codes "QObject";
  superclass = None;
  method_offset = 0;
  property_offset = 0;
  methods =
      signal_of (record { name = codes "destroyed"; kinds = [] }) ∷
      signal_of (record { name = codes "objectNameChanged"; kinds = kind.Text ∷ [] }) ∷
      slot_of (record { name = codes "deleteLater"; kinds = [] }) delete_later_body ∷ [];
  properties = record { name = codes "objectName"; kind = kind.Text; notify = Some 1; bindable = true } ∷ [];
}
