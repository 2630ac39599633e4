-- One member more, and what is found then.
use Rattle.std.proofs.Common.{◌≡◌, ℕ, ◌+◌, ◌<◌, List, [], ◌∷◌, ◌++◌, length, take, get_or, slice_get, option_map}
use Rattle.std.proofs.Common.{Some, true, false, bytes_eq, true≢false, refl, sym, ap, ◌∙◌}
use Rattle.std.proofs.lemmas.List.{take_more}
use Rattle.std.proofs.lemmas.Option.{slice_get_read}
use Rattle.std.proofs.lemmas.Slice.Eq.{bytes_eq-Decides}
use Rattle.serde_json.specs.Data.{Data, object, Members, no_members, put}
use Rattle.serde_json.specs.Find.{get_member, as_object}
use Rattle.serde_json.proofs.Views.{get_member-put, get_member-put_other}
use Rattle.json_reading.specs.declared.field.Member.{Member}
use Rattle.json_reading.specs.Members.{data_of, members_from, members_in}

-- data with members are an object
pub object_of : (d : Data) (ms : Members) → Some ms ≡ as_object d → d ≡ object ms
object_of (object found) ms e = let same : ms ≡ found = cc in ap object (sym same)
object_of other ms e = absurd (cc)

pub members_from-push : (found : Members) (ms : List Member) (m : Member)
    → members_from found (ms ++ m ∷ []) ≡ put m.key.now (data_of m.value) (members_from found ms)
members_from-push found [] m = refl
members_from-push found (n ∷ ms) m = members_from-push (put n.key.now (data_of n.value) found) ms m

pub found_at_last : (key : List ℕ) (ms : List Member) (m : Member) → bytes_eq m.key.now key ≡ true
    → get_member key (members_in (ms ++ m ∷ [])) ≡ Some (data_of m.value)
found_at_last key ms m same =
    let is : m.key.now ≡ key = (bytes_eq-Decides m.key.now key).0 same in
    ap (get_member key) (members_from-push no_members ms m) ∙ ap (λ k. get_member key (put k (data_of m.value) (members_in ms))) is
    ∙ get_member-put key (data_of m.value) (members_in ms)

pub found_before_last : (key : List ℕ) (ms : List Member) (m : Member) → bytes_eq m.key.now key ≡ false
    → get_member key (members_in (ms ++ m ∷ [])) ≡ get_member key (members_in ms)
found_before_last key ms m other =
    ap (get_member key) (members_from-push no_members ms m)
    ∙ get_member-put_other key m.key.now (data_of m.value) (members_in ms)
    (λ (e : key ≡ m.key.now). true≢false (sym ((bytes_eq-Decides m.key.now key).1 (sym e)) ∙ other))

-- ---- members looked at from the last one on

-- the member that is looked at is the last of those that are left
looks_at_last : (ms : List Member) (left next : ℕ) (m : Member) → next ≡ left + 1 → left < length ms → m ≡ get_or ms left m
    → members_in (take next ms) ≡ members_in (take left ms ++ m ∷ [])
looks_at_last ms left next m is within item =
    ap (λ k. members_in (take k ms)) is ∙ ap members_in (take_more ms left m within) ∙ ap (λ n. members_in (take left ms ++ n ∷ [])) (sym item)

-- either it has the key
pub key_is_here : (key : List ℕ) (ms : List Member) (left next : ℕ) (m : Member) → next ≡ left + 1 → left < length ms → m ≡ get_or ms left m
    → bytes_eq m.key.now key ≡ true → get_member key (members_in (take next ms)) ≡ option_map (λ n. data_of n.value) (slice_get ms left)
key_is_here key ms left next m is within item same =
    ap (get_member key) (looks_at_last ms left next m is within item) ∙ found_at_last key (take left ms) m same
    ∙ ap (option_map (λ n. data_of n.value)) (sym (slice_get_read ms (length ms) left m refl within item))

-- or one before it may have the key
pub key_is_before : (key : List ℕ) (ms : List Member) (left next : ℕ) (m : Member) → next ≡ left + 1 → left < length ms → m ≡ get_or ms left m
    → bytes_eq m.key.now key ≡ false → get_member key (members_in (take next ms)) ≡ get_member key (members_in (take left ms))
key_is_before key ms left next m is within item other =
    ap (get_member key) (looks_at_last ms left next m is within item) ∙ found_before_last key (take left ms) m other
