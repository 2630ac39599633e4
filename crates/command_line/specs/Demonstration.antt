-- The demonstration classes.
use Rattle.std.specs.Prelude.{ℕ, Bool, true, false, List, [], ◌∷◌, Option, Some, None, codes, length}
use Rattle.plain_types.specs.declared.connection_type.ConnectionType.TheVariants.{Auto}
use Rattle.signature_core.specs.declared.kind.Kind.{Kind}
use Rattle.signature_core.specs.declared.kind.Kind.TheVariants as kind
use Rattle.signature_core.specs.declared.signature.Signature.{Signature}
use Rattle.variant_value.specs.declared.value.Value.TheVariants as v
use Rattle.term_core.specs.declared.action.SingleAction.TheVariants.{Connect, Delete, Disconnect, Emit, Set, SetParent}
use Rattle.term_core.specs.declared.target.Target.TheVariants.{Child, Itself, Sender}
use Rattle.term_core.specs.Act.{Act, single_action}
use Rattle.term_core.specs.Term.{arg, const}
use Rattle.class_table.specs.declared.class.Class.{Class}
use Rattle.class_table.specs.declared.class.Method.{Method}
use Rattle.class_table.specs.declared.class.Property.{Property}
use Rattle.class_table.specs.Declaring.{q_object, signal_of, slot_of}

abbrev pub signature : List ℕ → List Kind → Signature
signature name kinds = record { name = name; kinds = kinds }

-- A signal.
abbrev pub signal : List ℕ → List Kind → Method
signal name kinds = signal_of (signature name kinds)

abbrev pub slot : List ℕ → List Kind → List Act → Method
slot name kinds actions = slot_of (signature name kinds) (record { params = length kinds; actions = actions })

-- A property, with the number of its NOTIFY signal.
abbrev pub property : List ℕ → Kind → Option ℕ → Bool → Property
property name kind notify bindable = record { name = name; kind = kind; notify = notify; bindable = bindable }

-- The signal `ping()`.
abbrev pub ping : Signature
ping = signature (codes "ping") []

-- A class below `QObject`, which has three methods and one property.
abbrev pub below_q_object : List ℕ → List Method → List Property → Class
below_q_object name methods properties = record {
  name = name;
  superclass = Some 0;
  method_offset = 3;
  property_offset = 1;
  methods = methods;
  properties = properties;
}

-- A class that holds values.
abbrev pub cell : Class
cell = below_q_object (codes "Cell") (
    signal (codes "xChanged") (kind.Int ∷ []) ∷
    slot (codes "seen") (kind.Int ∷ []) [] ∷
    slot (codes "setX") (kind.Int ∷ []) (single_action (Set Itself (codes "x") (arg 0)) ∷ []) ∷ []
    ) (
    property (codes "x") kind.Int (Some 3) true ∷
    property (codes "y") kind.Int None true ∷
    property (codes "z") kind.Int None true ∷
    property (codes "flag") kind.Bool None true ∷
    property (codes "big") kind.Ulonglong None false ∷ []
    )

-- Connects the sender's `ping()` to `late()`, and disconnects it from `note()`.
abbrev pub swaps : List Act
swaps =
    single_action (Connect Sender ping Itself (signature (codes "late") []) Auto false false) ∷
    single_action (Disconnect Sender (Some ping) (Some Itself) (Some (signature (codes "note") []))) ∷ []

-- Deletes the sender, and then writes to it.
abbrev pub kills : List Act
kills = single_action (Delete Sender) ∷ single_action (Set Sender (codes "objectName") (const (v.Text (codes "x")))) ∷ []

-- Moves the child `c` out of the tree, and then deletes the sender.
abbrev pub rescues : List Act
rescues = single_action (SetParent (Child (codes "c")) None) ∷ single_action (Delete Sender) ∷ []

-- A class whose slots act while a signal is being sent.
abbrev pub probe : Class
probe = below_q_object (codes "Probe") (
    signal (codes "ping") [] ∷
    slot (codes "note") [] [] ∷
    slot (codes "late") [] [] ∷
    slot (codes "swap") [] swaps ∷
    slot (codes "again") [] (single_action (Emit Sender ping []) ∷ []) ∷
    slot (codes "kill") [] kills ∷
    slot (codes "rescue") [] rescues ∷
    slot (codes "drop") [] (single_action (Delete Itself) ∷ []) ∷ []
    ) []

-- The classes if no class file is given.
unfoldable pub demonstration : List Class
demonstration = q_object ∷ cell ∷ probe ∷ []
