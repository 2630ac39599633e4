-- The expression of a `bind`, looked for by its key.
use Rattle.std.proofs.Common.{◌≡◌, ◌∙◌, Bool, true, false, if◌then◌else◌, List, [], ◌∷◌, length, map, get_or}
use Rattle.std.proofs.Common.{Option, Some, None, option_map, option_and_then, codes, refl, sym, ap, ap₂, arith}
use Rattle.serde_json.specs.Data.{Data}
use Rattle.serde_json.specs.Find.{get}
use Rattle.json_reading.specs.Fields.{◌>>=◌}
use Rattle.session_model.specs.Asked.{Asked, Begin, Bind, asked}
use Rattle.wire_commands.specs.declared.held.Held.{Held as HeldInCode}
use Rattle.wire_commands.specs.declared.keys.Holds.TheVariants.{Any, Name, Number}
use Rattle.wire_commands.specs.Bindings.{bind}
use Rattle.wire_commands.specs.Form.{AreHeld, Form, asked_in}
use Rattle.wire_commands.specs.Held.{Held, has_only, held_at, held_seen, held_by, json_of, number_of, reads, text_of}
use Rattle.wire_commands.specs.Keys.{key_word, needed}

-- ---- the third of three values, at a key that holds any JSON

abbrev third : List Held → Option Asked
third (a ∷ b ∷ c ∷ []) = option_map (Bind 0 []) (json_of c)
third held = None

abbrev any_at_all : List Held → Option Asked
any_at_all held = Some Begin

abbrev bound : Option Asked → Option Data
bound (Some (Bind n p to)) = Some to
bound asked = None

bound_is : (json : Option Data) → bound (option_map (Bind 0 []) json) ≡ json
bound_is None = refl
bound_is (Some to) = refl

abbrev in_three : Option Held → Option Held → Option Data → Option (List Held)
in_three first second last =
    first >>= λ a. (second >>= λ b. (option_and_then (reads Any) last >>= λ c. Some (c ∷ [])) >>= λ rest. Some (b ∷ rest)) >>= λ rest. Some (a ∷ rest)

at_third : (test : Bool) (first second : Option Held) (last : Option Data) → ((if test then in_three first second last else None) >>= any_at_all) ≡ Some Begin
    → ((if test then in_three first second last else None) >>= third) ≡ option_map (Bind 0 []) last
at_third false first second last some = absurd (cc)
at_third true None second last some = absurd (cc)
at_third true (Some a) None last some = absurd (cc)
at_third true (Some a) (Some b) None some = absurd (cc)
at_third true (Some a) (Some b) (Some to) some = refl

abbrev of_keys : (List Held → Option Asked) → Form
of_keys asks = record { word = []; keys = bind.keys; asks = asks }

third_is : (json : Data) (a b c : Held) → AreHeld bind.keys json (Some (a ∷ b ∷ c ∷ [])) → json_of c ≡ get (codes "to") json
unfolding asked_in held_by
third_is json a b c held =
    let told : asked_in (of_keys third) json ≡ option_map (Bind 0 []) (json_of c) = held (of_keys third) refl in
    let some : asked_in (of_keys any_at_all) json ≡ Some Begin = held (of_keys any_at_all) refl in
    let object = held_at json (needed (codes "object") Number) in
    let property = held_at json (needed (codes "property") Name) in
    let found = at_third (has_only (map key_word bind.keys) json) object property (get (codes "to") json) some in
    sym (bound_is (json_of c)) ∙ ap bound (sym told ∙ found) ∙ bound_is (get (codes "to") json)

-- what is held at the keys of `bind`, except for the expression
pub bound_to : (json : Data) (a b c : Held) → AreHeld bind.keys json (Some (a ∷ b ∷ c ∷ []))
    → asked_in bind json ≡ (number_of a >>= λ n. text_of b >>= λ p. get (codes "to") json >>= λ to. Some (Bind n p to))
bound_to json a b c held =
    held bind refl ∙ ap (λ found. number_of a >>= λ n. text_of b >>= λ p. found >>= λ to. Some (Bind n p to)) (third_is json a b c held)

-- the same of the values that are read, where there are three
pub bound_among : (json : Data) (held : List HeldInCode) (a b : HeldInCode) → length held ≡ 3 → a ≡ get_or held 0 a → b ≡ get_or held 1 b
    → AreHeld bind.keys json (Some (map held_seen held))
    → asked_in bind json ≡ (number_of (held_seen a) >>= λ n. text_of (held_seen b) >>= λ p. get (codes "to") json >>= λ to. Some (Bind n p to))
bound_among json [] a b long first second held = absurd (omega (arith, long))
bound_among json (x ∷ []) a b long first second held = absurd (omega (arith, long))
bound_among json (x ∷ y ∷ []) a b long first second held = absurd (omega (arith, long))
bound_among json (x ∷ y ∷ z ∷ []) a b long first second held =
    bound_to json (held_seen x) (held_seen y) (held_seen z) held
    ∙ ap₂ (λ c d. number_of (held_seen c) >>= λ n. text_of (held_seen d) >>= λ p. get (codes "to") json >>= λ to. Some (Bind n p to)) (sym first) (sym second)
bound_among json (x ∷ y ∷ z ∷ w ∷ rest) a b long first second held = absurd (omega (arith, long))
