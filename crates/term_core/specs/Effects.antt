-- The forms in JSON of actions that do one thing.
use Rattle.std.specs.Prelude.{◌&&◌, ◌||◌, ℕ, Bool, false, List, [], ◌∷◌, Option, Some, None, Ok, Err, codes, is_none, is_some, option_and_then}
use Rattle.std.specs.Option.{option_map_or}
use Rattle.serde_json.specs.Data.{Data, null, Items, no_items, item}
use Rattle.serde_json.specs.Find.{get, as_array, as_bool, as_str}
use Rattle.plain_types.specs.declared.code.Code.TheVariants.{BadValue}
use Rattle.signature_core.specs.declared.signature.Signature.{Signature}
use Rattle.signature_core.specs.Reading.{signature_of}
use Rattle.term_core.specs.declared.action.SingleAction.{SingleAction}
use Rattle.term_core.specs.declared.action.SingleAction.TheVariants as e
use Rattle.plain_types.specs.declared.connection_type.ConnectionType.{ConnectionType}
use Rattle.plain_types.specs.declared.connection_type.ConnectionType.TheVariants as mode
use Rattle.plain_types.specs.Modes.{mode_named}
use Rattle.term_core.specs.declared.scope.Scope.{Scope}
use Rattle.term_core.specs.Term.{Term}
use Rattle.term_core.specs.Json.{Read, ◌>>=◌, formed, where_holds, has_only, where_only, at_key, name_in, target_in}
use Rattle.term_core.specs.Forms.{subject_in, term_in}

-- The signature that a text spells.
abbrev pub signature_in : Data → Read Signature
signature_in json = formed (option_and_then signature_of (as_str json))

-- `None` for null, and otherwise what is read.
abbrev pub unless_null : {A : Type 0} → (Data → Read A) → Data → Read (Option A)
unless_null read null = Ok None
unless_null read json = read json >>= λ value. Ok (Some value)

-- The value at a key that may be absent.
abbrev pub optional : {A : Type 0} → (Data → Read A) → List ℕ → Data → Read (Option A)
optional read key json = option_map_or (λ there. read there >>= λ value. Ok (Some value)) (get key json) (Ok None)

-- A truth value at a key; false if the key is absent.
abbrev pub flag_in : List ℕ → Data → Read Bool
flag_in key json = option_map_or (λ there. formed (as_bool there)) (get key json) (Ok false)

-- The connection type.
abbrev pub mode_in : Data → Read ConnectionType
mode_in json = option_map_or (λ there. formed (option_and_then mode_named (as_str there))) (get (codes "type") json) (Ok mode.Auto)

-- The expressions of a list.
abbrev pub terms_in : Scope → Items → Read (List Term)
terms_in scope no_items = Ok []
terms_in scope (item json rest) = term_in scope json >>= λ term. terms_in scope rest >>= λ terms. Ok (term ∷ terms)

-- Each action, by the value at the key that names it, and by the whole object.

abbrev pub set_in : Scope → Data → Data → Read SingleAction
set_in scope json named = where_only (codes "set" ∷ codes "to" ∷ codes "of" ∷ []) json (do
  to ← at_key (codes "to") json
  property ← name_in named
  of ← subject_in json
  value ← term_in scope to
  Ok (e.Set of property value))

abbrev pub emit_in : Scope → Data → Data → Read SingleAction
emit_in scope json named = where_only (codes "emit" ∷ codes "args" ∷ codes "of" ∷ []) json (do
  there ← at_key (codes "args") json
  items ← formed (as_array there)
  signal ← signature_in named
  of ← subject_in json
  args ← terms_in scope items
  Ok (e.Emit of signal args))

abbrev pub connect_in : Data → Data → Read SingleAction
connect_in json named = where_only (codes "connect" ∷ codes "of" ∷ codes "to" ∷ codes "method" ∷ codes "type" ∷ codes "unique" ∷ codes "single" ∷ []) json (do
  receiver ← at_key (codes "to") json
  member ← at_key (codes "method") json
  mode ← mode_in json
  unique ← flag_in (codes "unique") json
  single ← flag_in (codes "single") json
  signal ← signature_in named
  of ← subject_in json
  to ← target_in receiver
  method ← signature_in member
  Ok (e.Connect of signal to method mode unique single))

-- A method is named only together with a receiver.
abbrev pub has_receiver : Data → Bool
has_receiver json = is_none (get (codes "method") json) || is_some (get (codes "to") json)

abbrev pub disconnect_in : Data → Data → Read SingleAction
disconnect_in json named = where_holds (has_receiver json && has_only (codes "disconnect" ∷ codes "of" ∷ codes "to" ∷ codes "method" ∷ []) json) (do
  signal ← unless_null signature_in named
  of ← subject_in json
  to ← optional target_in (codes "to") json
  method ← optional signature_in (codes "method") json
  Ok (e.Disconnect of signal to method))

abbrev pub delete_in : Data → Data → Read SingleAction
delete_in json named = where_only (codes "delete" ∷ []) json (do
  target ← target_in named
  Ok (e.Delete target))

abbrev pub delete_later_in : Data → Data → Read SingleAction
delete_later_in json named = where_only (codes "deleteLater" ∷ []) json (do
  target ← target_in named
  Ok (e.DeleteLater target))

abbrev pub block_in : Data → Data → Read SingleAction
block_in json named = where_only (codes "block" ∷ codes "of" ∷ []) json (do
  on ← formed (as_bool named)
  of ← subject_in json
  Ok (e.Block of on))

abbrev pub set_parent_in : Data → Data → Read SingleAction
set_parent_in json named = where_only (codes "setParent" ∷ codes "of" ∷ []) json (do
  parent ← unless_null target_in named
  of ← subject_in json
  Ok (e.SetParent of parent))

-- The action whose key the object has.
abbrev pub effect_in : Scope → Data → Read SingleAction
effect_in scope json =
    option_map_or (set_in scope json) (get (codes "set") json) (
    option_map_or (emit_in scope json) (get (codes "emit") json) (
    option_map_or (connect_in json) (get (codes "connect") json) (
    option_map_or (disconnect_in json) (get (codes "disconnect") json) (
    option_map_or (delete_in json) (get (codes "delete") json) (
    option_map_or (delete_later_in json) (get (codes "deleteLater") json) (
    option_map_or (block_in json) (get (codes "block") json) (
    option_map_or (set_parent_in json) (get (codes "setParent") json) (Err BadValue))))))))
