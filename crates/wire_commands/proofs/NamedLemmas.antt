-- A command uses names for what it sets, publishes and joins.
use Rattle.std.proofs.Common.{ℕ, ◌&&◌, Bool, true, false, List, [], ◌∷◌, ◌++◌, Option, Some, None, IfSome, IsTrue, bytes_eq, codes, if◌then◌else◌, is_some, map}
use Rattle.std.proofs.Common.{option_and_then, option_map, refl}
use Rattle.std.specs.Option.{option_map_or}
use Rattle.std.proofs.lemmas.Bool.{cond_both}
use Rattle.plain_types.specs.Names.{is_name}
use Rattle.serde_json.specs.Data.{Data}
use Rattle.serde_json.specs.Find.{get, as_array, as_bool, as_null, as_str}
use Rattle.json_reading.specs.Fields.{◌>>=◌, elements_of, text_at, when}
use Rattle.session_model.specs.Asked.{Asked}
use Rattle.session_model.specs.Named.{IsNamedAsked}
use Rattle.plain_types.specs.Modes.{mode_named}
use Rattle.plain_types.specs.declared.connection_type.ConnectionType.{ConnectionType}
use Rattle.plain_types.specs.declared.connection_type.ConnectionType.TheVariants.{Auto, Direct, Queued}
use Rattle.event_queue.specs.declared.event.Priority.{Priority}
use Rattle.wire_commands.specs.declared.keys.Holds.{Holds}
use Rattle.wire_commands.specs.declared.keys.Holds.TheVariants as h
use Rattle.wire_commands.specs.Bindings as bindings
use Rattle.wire_commands.specs.Classes as classes
use Rattle.wire_commands.specs.Commands.{asked_of, all_forms}
use Rattle.wire_commands.specs.Events as events
use Rattle.wire_commands.specs.Form.{Form, asked_by, asked_in, form_named}
use Rattle.wire_commands.specs.Held.{Held, absent, any, list, mode, none, number, priority, text, truth, all_held, has_only, held_at, held_by, number_in}
use Rattle.wire_commands.specs.Held.{has_property_keys, object_property, priority_in, reads}
use Rattle.wire_commands.specs.Keys.{Key, key_word, needed, optional}
use Rattle.wire_commands.specs.Properties as properties
use Rattle.wire_commands.specs.Shared.{alone, of_class, of_object, of_property, of_search}
use Rattle.wire_commands.specs.Sharing as sharing
use Rattle.wire_commands.specs.Sharing.{texts_of}
use Rattle.wire_commands.specs.Signals as signals
use Rattle.wire_commands.specs.Trees as trees

abbrev IsNamed : Option Asked → Type 0
IsNamed asked = IfSome asked IsNamedAsked

-- what holds of whatever is found in the end
found : {A B : Type 0} (P : B → Type 0) (o : Option A) (next : A → Option B) → ((x : A) → IfSome (next x) P) → IfSome (o >>= next) P
found P None next each = tt
found P (Some x) next each = each x

-- a command that is asked where something is found
asks : {A : Type 0} (o : Option A) (next : A → Option Asked) → ((x : A) → IsNamed (next x)) → IsNamed (o >>= next)
asks = found IsNamedAsked

mapped_to : {A B : Type 0} (P : B → Type 0) (made : A → B) (o : Option A) → ((x : A) → P (made x)) → IfSome (option_map made o) P
mapped_to P made None each = tt
mapped_to P made (Some x) each = each x

-- this holds of whatever is read as a key holds it
abbrev OfEach : Holds → (Held → Type 0) → Type 0
OfEach h.Name P = (name : List ℕ) → IsTrue (is_name name) → P (text name)
OfEach h.Text P = (t : List ℕ) → P (text t)
OfEach h.Number P = (n : ℕ) → P (number n)
OfEach h.NumberOrNull P = P none × ((n : ℕ) → P (number n))
OfEach h.Truth P = (t : Bool) → P (truth t)
OfEach h.Mode P = P (mode Auto) × P (mode Direct) × P (mode Queued)
OfEach h.Priority P = (p : Priority) → P (priority p)
OfEach h.List P = (elements : List Data) → P (list elements)
OfEach h.Property P = (n : ℕ) (name : List ℕ) → P (object_property n name)
OfEach h.Any P = (json : Data) → P (any json)

-- and of whatever is held at a key
abbrev AtKey : Key → (Held → Type 0) → Type 0
AtKey (needed word holds) P = OfEach holds P
AtKey (optional word holds) P = P absent × OfEach holds P

-- what is asked with what is held at these keys uses names for what it sets, publishes and joins
abbrev AsksNamed : List Key → (List Held → Option Asked) → Type 0
AsksNamed [] asks = IsNamed (asks [])
AsksNamed (key ∷ keys) asks = AtKey key (λ first. AsksNamed keys (λ rest. asks (first ∷ rest)))

-- so does what is asked in each of these forms
abbrev AskNamed : List Form → Type 0
AskNamed [] = Unit {0}
AskNamed (form ∷ forms) = AsksNamed form.keys form.asks × AskNamed forms

-- the texts of an array are there, or nothing is asked
joins_named : AsksNamed sharing.join.keys sharing.join.asks
joins_named = λ from session name named elements target method. asks (texts_of elements) _ (λ kinds. (session, named))

all_forms_named : AskNamed all_forms
unfolding trees.forms properties.forms bindings.forms classes.forms signals.forms events.forms sharing.forms alone of_class of_object of_property of_search
all_forms_named = search (joins_named)

-- a key that is read holds one of these
read_at : (holds : Holds) (P : Held → Type 0) → OfEach holds P → (json : Data) → IfSome (reads holds json) P
read_at h.Name P each json = found P (as_str json) (λ name. when (is_name name) (text name)) (λ name. by name (is_name name) (λ is. is))
  where
    by : (name : List ℕ) (is : Bool) → (IsTrue is → IsTrue (is_name name)) → IfSome (when is (text name)) P
    by name true named = each name (named refl)
    by name false named = tt
read_at h.Text P each json = mapped_to P text (as_str json) each
read_at h.Number P each json = mapped_to P number (number_in json) each
read_at h.NumberOrNull P each json =
    cond_both (is_some (as_null json)) (Some none) (option_map number (number_in json)) (λ held. IfSome held P)
    (λ is. each.0) (λ other. mapped_to P number (number_in json) each.1)
read_at h.Truth P each json = mapped_to P truth (as_bool json) each
read_at h.Mode P each json = mapped_to P mode (option_and_then mode_named (as_str json)) by
  where
    by : (m : ConnectionType) → P (mode m)
    by Auto = each.0
    by Direct = each.1
    by Queued = each.2
read_at h.Priority P each json = mapped_to P priority (priority_in json) each
read_at h.List P each json = by (is_some (as_array json))
  where
    by : (is : Bool) → IfSome (when is (list (elements_of json))) P
    by true = each (elements_of json)
    by false = tt
read_at h.Property P each json =
    found P (get (codes "object") json) _ (λ target. found P (get (codes "property") json) _ (λ named. found P (number_in target) _ (λ n.
    found P (as_str named) _ (λ name. by n name (is_name name && has_property_keys json)))))
  where
    by : (n : ℕ) (name : List ℕ) (is : Bool) → IfSome (when is (object_property n name)) P
    by n name true = each n name
    by n name false = tt
read_at h.Any P each json = each json

held_there : (key : Key) (P : Held → Type 0) → AtKey key P → (json : Data) → IfSome (held_at json key) P
held_there (needed word holds) P each json = found P (get word json) (reads holds) (read_at holds P each)
held_there (optional word holds) P each json = by (get word json)
  where
    by : (value : Option Data) → IfSome (option_map_or (reads holds) value (Some absent)) P
    by None = each.0
    by (Some value) = read_at holds P each.1 value

all_named : (json : Data) (keys : List Key) (asks : List Held → Option Asked) → AsksNamed keys asks → IsNamed (all_held json keys >>= asks)
all_named json [] asks each = each
all_named json (key ∷ keys) asks each = by (held_at json key) (held_there key _ each json) (λ first. all_named json keys (λ rest. asks (first ∷ rest)))
  where
    behind : (first : Held) (rest : Option (List Held)) → IsNamed (rest >>= λ rest. asks (first ∷ rest))
        → IsNamed ((rest >>= λ rest. Some (first ∷ rest)) >>= asks)
    behind first None named = tt
    behind first (Some rest) named = named

    by : (first : Option Held) → IfSome first (λ first. AsksNamed keys (λ rest. asks (first ∷ rest)))
        → ((first : Held) → AsksNamed keys (λ rest. asks (first ∷ rest)) → IsNamed (all_held json keys >>= λ rest. asks (first ∷ rest)))
        → IsNamed ((first >>= λ first. all_held json keys >>= λ rest. Some (first ∷ rest)) >>= asks)
    by None each later = tt
    by (Some first) each later = behind first (all_held json keys) (later first each)

-- what is asked in such a form
form_asks : (json : Data) (form : Form) → AsksNamed form.keys form.asks → IsNamed (asked_in form json)
unfolding asked_in held_by
form_asks json form each =
    cond_both (has_only (map key_word form.keys) json) (all_held json form.keys) None (λ held. IsNamed (held >>= form.asks))
    (λ only. all_named json form.keys form.asks each) (λ more. tt)

-- or by a word in such forms
word_asks : (json : Data) (word : List ℕ) (forms : List Form) → AskNamed forms → IsNamed (asked_by forms word json)
unfolding asked_by
word_asks json word [] each = tt
word_asks json word (form ∷ forms) each = by (bytes_eq word form.word) (form_asks json form each.0) (word_asks json word forms each.1)
  where
    by : (same : Bool) → IsNamed (asked_in form json) → IsNamed (form_named forms word >>= λ form. asked_in form json)
        → IsNamed ((if same then Some form else form_named forms word) >>= λ form. asked_in form json)
    by true here later = here
    by false here later = later

pub asked_named : (json : Data) → IfSome (asked_of json) IsNamedAsked
unfolding asked_of
asked_named json = asks (text_at (codes "do") json) _ (λ word. word_asks json word all_forms all_forms_named)
