-- Classes in JSON.
use Rattle.std.specs.Prelude.{ℕ, Bool, false, List, [], ◌∷◌, Option, Some, None, Ok, codes, option_map}
use Rattle.std.specs.Option.{ok_or, option_map_or}
use Rattle.serde_json.specs.Data.{Data, Items, no_items, item}
use Rattle.serde_json.specs.Find.{get, as_array, as_bool, as_str}
use Rattle.plain_types.specs.Names.{is_name}
use Rattle.signature_core.specs.declared.kind.Kind.{Kind}
use Rattle.signature_core.specs.Kinds.{kind_named}
use Rattle.term_core.specs.Json.{has_only}
use Rattle.class_table.specs.declared.fault.ClassFaultKind.TheVariants.{BadForm}
use Rattle.class_table.specs.Steps.{Read, ◌>>=◌, provided, each, in_front}

-- A signal, or a slot with its body.
pub record WrittenMethod : Type 0 where
  pub signature : List ℕ
  pub body : Option Data

pub record WrittenProperty : Type 0 where
  pub name : List ℕ
  pub kind : Kind
  pub notify : Option (List ℕ)
  pub bindable : Bool

-- A class, its signals before its slots.
pub record WrittenClass : Type 0 where
  pub name : List ℕ
  pub base : List ℕ
  pub methods : List WrittenMethod
  pub properties : List WrittenProperty

-- The elements of an array.
abbrev pub elements : Items → List Data
elements no_items = []
elements (item json rest) = json ∷ elements rest

abbrev pub array_in : Data → Read (List Data)
array_in json = ok_or (option_map elements (as_array json)) BadForm

-- The value at a key that must be present.
abbrev pub at_key : List ℕ → Data → Read Data
at_key key json = ok_or (get key json) BadForm

-- The value at a key, or a default if the key is absent.
abbrev pub optional : {A : Type 0} → (Data → Read A) → A → List ℕ → Data → Read A
optional read absent key json = option_map_or read (get key json) (Ok absent)

abbrev pub text_in : Data → Read (List ℕ)
text_in json = ok_or (as_str json) BadForm

-- The text at a key that must be present.
abbrev pub member_text : List ℕ → Data → Read (List ℕ)
member_text key json = do
  found ← at_key key json
  text_in found

-- The name at a key that must be present.
abbrev pub name_at : List ℕ → Data → Read (List ℕ)
name_at key json = do
  text ← member_text key json
  provided (is_name text) BadForm (Ok text)

-- The kind whose name is at a key that must be present.
abbrev pub kind_at : List ℕ → Data → Read Kind
kind_at key json = do
  text ← member_text key json
  ok_or (kind_named text) BadForm

abbrev pub truth_in : Data → Read Bool
truth_in json = ok_or (as_bool json) BadForm

-- A text that may be absent, if it is present.
abbrev pub some_text_in : Data → Read (Option (List ℕ))
some_text_in json = do
  text ← text_in json
  Ok (Some text)

-- A signal is the text of its signature.
abbrev pub signal_in : Data → Read WrittenMethod
signal_in json = do
  signature ← text_in json
  Ok (record { signature = signature; body = None })

-- The keys that a slot, a property and a class may have.
abbrev pub slot_keys : List (List ℕ)
slot_keys = codes "sig" ∷ codes "body" ∷ []

abbrev pub property_keys : List (List ℕ)
property_keys = codes "name" ∷ codes "type" ∷ codes "notify" ∷ codes "bindable" ∷ []

abbrev pub class_keys : List (List ℕ)
class_keys = codes "name" ∷ codes "super" ∷ codes "signals" ∷ codes "slots" ∷ codes "properties" ∷ []

-- A slot has a signature and a body.
unfoldable pub slot_in : Data → Read WrittenMethod
slot_in json = do
  signature ← member_text (codes "sig") json
  body ← at_key (codes "body") json
  actions ← array_in body
  provided (has_only slot_keys json) BadForm (Ok (record { signature = signature; body = Some body }))

unfoldable pub property_in : Data → Read WrittenProperty
property_in json = do
  name ← name_at (codes "name") json
  kind ← kind_at (codes "type") json
  notify ← optional some_text_in None (codes "notify") json
  bindable ← optional truth_in false (codes "bindable") json
  provided (has_only property_keys json) BadForm (Ok (record { name = name; kind = kind; notify = notify; bindable = bindable }))

-- The methods of a class: its signals, and then its slots.
unfoldable pub methods_in : Data → Read (List WrittenMethod)
methods_in json = do
  signals ← optional array_in [] (codes "signals") json
  first ← each signal_in signals
  slots ← optional array_in [] (codes "slots") json
  in_front first (each slot_in slots)

unfoldable pub properties_in : Data → Read (List WrittenProperty)
properties_in json = do
  properties ← optional array_in [] (codes "properties") json
  each property_in properties

unfoldable pub class_in : Data → Read WrittenClass
class_in json = do
  name ← name_at (codes "name") json
  base ← name_at (codes "super") json
  methods ← methods_in json
  properties ← properties_in json
  provided (has_only class_keys json) BadForm (Ok (record { name = name; base = base; methods = methods; properties = properties }))
