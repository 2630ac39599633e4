-- The methods of objects, by signature and by text.
use Rattle.std.specs.Prelude.{ℕ, Bool, false, List, [], Option, Result, Ok, Err, slice_get, if◌then◌else◌}
use Rattle.std.specs.Option.{ok_or, option_map_or}
use Rattle.plain_types.specs.declared.code.Code.{Code}
use Rattle.plain_types.specs.declared.code.Code.TheVariants.{BadSignature, NoSuchMethod}
use Rattle.signature_core.specs.declared.kind.Kind.{Kind}
use Rattle.signature_core.specs.declared.signature.Signature.{Signature}
use Rattle.signature_core.specs.Reading.{signature_of}
use Rattle.class_table.specs.declared.class.Class.{Class}
use Rattle.class_table.specs.declared.class.Method.{Method}
use Rattle.class_table.specs.Lookup.{method_number, methods}
use Rattle.object_tree.specs.declared.row.Row.{Row}
use Rattle.object_tree.specs.Rows.{row_of}
use Rattle.session_model.specs.Settings.{Settings}
use Rattle.session_model.specs.State.{State}

-- The result of a search, or why there is none.
abbrev pub Found : Type 0 → Type 0
Found A = Result A Code

infixl 10 ◌>>=◌
abbrev pub ◌>>=◌ : {A B : Type 0} → Found A → (A → Found B) → Found B
(Ok value) >>= f = f value
(Err code) >>= f = Err code

-- The methods of one of these objects, by index.
abbrev pub methods_by : List Class → List Row → ℕ → List Method
methods_by classes rows object = option_map_or (λ row. methods classes row.class) (row_of rows object) []

-- The methods of an object of a session, by index.
abbrev pub methods_of : Settings → State → ℕ → List Method
methods_of settings state object = methods_by settings.classes state.forest.rows object

-- The method of an object with this index.
abbrev pub method_at : Settings → State → ℕ → ℕ → Option Method
method_at settings state object index = slice_get (methods_of settings state object) index

-- The kinds of the parameters of the method with this index.
abbrev pub kinds_at : List Method → ℕ → List Kind
kinds_at methods index = option_map_or (λ method. method.signature.kinds) (slice_get methods index) []

-- Whether the method with this index is a signal.
abbrev pub is_signal_at : List Method → ℕ → Bool
is_signal_at methods index = option_map_or (λ method. method.is_signal) (slice_get methods index) false

-- The index of the method with this signature.
abbrev pub method_with : List Method → Signature → Found ℕ
method_with methods signature = ok_or (method_number signature methods) NoSuchMethod

-- The index of the signal with this signature. A slot is not a signal.
abbrev pub signal_with : List Method → Signature → Found ℕ
signal_with methods signature = method_with methods signature >>= λ index. if is_signal_at methods index then Ok index else Err NoSuchMethod

-- The signature that a text spells.
abbrev pub signature_in : List ℕ → Found Signature
signature_in text = ok_or (signature_of text) BadSignature

-- The index of the method that a text names.
abbrev pub method_named : List Method → List ℕ → Found ℕ
method_named methods text = signature_in text >>= method_with methods

-- The index of the signal that a text names.
abbrev pub signal_named : List Method → List ℕ → Found ℕ
signal_named methods text = signature_in text >>= signal_with methods
