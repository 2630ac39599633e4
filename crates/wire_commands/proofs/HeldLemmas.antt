-- The keys of a command, and what is held at them.
use Rattle.std.proofs.Common.{◌≡◌, ◌<◌, ◌≤◌, ◌+◌, Bool, false, true, drop, take, get_or, length, sym, arith, if◌then◌else◌, ℕ, List, [], ◌∷◌, ◌++◌, Option}
use Rattle.std.proofs.Common.{Some, None, append_assoc, append-nil, map, option_map, refl, ap, ◌∙◌}
use Rattle.std.specs.List.{list_all}
use Rattle.std.proofs.lemmas.List.{drop_all, drop_more, take_all}
use Rattle.serde_json.specs.Data.{Data, object}
use Rattle.json_reading.specs.Fields.{◌>>=◌}
use Rattle.json_reading.specs.declared.field.Member.{Member}
use Rattle.json_reading.specs.Members.{members_in}
use Rattle.json_reading.proofs.ForCallers.{all_keys_in}
use Rattle.wire_commands.specs.declared.keys.Key.{Key as KeyInCode}
use Rattle.wire_commands.specs.declared.held.Held.{Held as HeldInCode}
use Rattle.wire_commands.specs.Held.{Held, all_held, held_by, held_seen, has_only, held_at, is_known}
use Rattle.wire_commands.specs.Keys.{key_seen, key_word}

-- what is read first, as what is held at some keys, in front of what is read next
abbrev pub in_front : {A : Type 0} → List A → Option (List A) → Option (List A)
in_front first rest = option_map (λ next. first ++ next) rest

seen_behind : (all : List HeldInCode) (held : HeldInCode) → map held_seen (all ++ held ∷ []) ≡ map held_seen all ++ held_seen held ∷ []
seen_behind [] held = refl
seen_behind (first ∷ rest) held = ap (λ seen. held_seen first ∷ seen) (seen_behind rest held)

in_front_of : (all : List Held) (held : Held) (rest : Option (List Held))
    → in_front (all ++ held ∷ []) rest ≡ in_front all (rest >>= λ others. Some (held ∷ others))
in_front_of all held None = refl
in_front_of all held (Some others) = ap Some (append_assoc all (held ∷ []) others)

-- and at one more of them
pub one_more : (json : Data) (all : List HeldInCode) (held : HeldInCode) (keys : List KeyInCode) (at : ℕ) (none : KeyInCode) → at < length keys
    → Some (held_seen held) ≡ held_at json (key_seen (get_or keys at none)) →
    in_front (map held_seen (all ++ held ∷ [])) (all_held json (map key_seen (drop (at + 1) keys)))
    ≡ in_front (map held_seen all) (all_held json (map key_seen (drop at keys)))
one_more json all held keys at none within found =
    ap (λ seen. in_front seen (all_held json (map key_seen (drop (at + 1) keys)))) (seen_behind all held)
    ∙ in_front_of (map held_seen all) (held_seen held) (all_held json (map key_seen (drop (at + 1) keys)))
    ∙ ap (λ first. in_front (map held_seen all) (first >>= λ one. all_held json (map key_seen (drop (at + 1) keys)) >>= λ others. Some (one ∷ others))) found
    ∙ ap (λ rest. in_front (map held_seen all) (all_held json (map key_seen rest))) (sym (drop_more keys at none within))

pub only_known : (words : List (List ℕ)) (members : List Member)
    → has_only words (object (members_in members)) ≡ list_all (λ member. is_known words member.key.now) members
unfolding has_only
only_known words members = all_keys_in (is_known words) members

-- what is held at the keys so far is this
abbrev IsHeldTo : Data → List KeyInCode → ℕ → List HeldInCode → Type 0
IsHeldTo json keys at so_far = in_front (map held_seen so_far) (all_held json (map key_seen (drop at keys))) ≡ all_held json (map key_seen keys)

held_if : (json : Data) (keys : List KeyInCode) (known : Bool) → known ≡ has_only (map key_word (map key_seen keys)) json
    → (if known then all_held json (map key_seen keys) else None) ≡ held_by json (map key_seen keys)
unfolding held_by
held_if json keys known is = ap (λ only. if only then all_held json (map key_seen keys) else None) is

-- what is held at all of the keys
pub all_read : (json : Data) (keys : List KeyInCode) (room : List HeldInCode) (at : ℕ)
    → length keys ≤ at → length room ≡ length keys → true ≡ has_only (map key_word (map key_seen keys)) json
    → IsHeldTo json keys at (take at room) → Some (map held_seen room) ≡ held_by json (map key_seen keys)
all_read json keys room at end long known so_far =
    sym (sym (held_if json keys true known)
    ∙ sym so_far
    ∙ ap (λ rest. in_front (map held_seen (take at room)) (all_held json (map key_seen rest))) (drop_all at keys end)
    ∙ ap (λ front. in_front (map held_seen front) (Some [])) (take_all at room (omega (arith, end, long)))
    ∙ ap Some (append-nil (map held_seen room)))

-- nothing, where one of them does not hold what it must
pub none_read : (json : Data) (keys : List KeyInCode) (all : List HeldInCode) (at : ℕ) (none : KeyInCode)
    → at < length keys → None ≡ held_at json (key_seen (get_or keys at none)) → true ≡ has_only (map key_word (map key_seen keys)) json
    → IsHeldTo json keys at all → None ≡ held_by json (map key_seen keys)
none_read json keys all at none within missing known so_far =
    let next : Option Held → Option (List Held) = λ first. first >>= λ one. all_held json (map key_seen (drop (at + 1) keys)) >>=
    λ others. Some (one ∷ others) in
    sym (sym (held_if json keys true known)
    ∙ sym so_far
    ∙ ap (λ rest. in_front (map held_seen all) (all_held json (map key_seen rest))) (drop_more keys at none within)
    ∙ ap (λ first. in_front (map held_seen all) (next first)) (sym missing))

-- nor where there are other keys
pub not_only : (json : Data) (keys : List KeyInCode) → false ≡ has_only (map key_word (map key_seen keys)) json → None ≡ held_by json (map key_seen keys)
not_only json keys more = held_if json keys false more
