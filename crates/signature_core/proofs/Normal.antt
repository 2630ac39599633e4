-- A signature's normal text spells it.
use Rattle.std.proofs.Common.{◌≡◌, ◌∙◌, ◌≤◌, ◌+◌, ◌<◌, ℕ, true, List, [], ◌∷◌, ◌++◌, Some, codes, length, map, get_or, take, refl, sym, ap, append_assoc, arith}
use Rattle.std.specs.List.{join_with_byte}
use Rattle.std.proofs.lemmas.List.{length-map, length-take, map_more}
use Rattle.plain_types.specs.Names.{is_name}
use Rattle.signature_core.specs.declared.kind.Kind.{Kind}
use Rattle.signature_core.specs.declared.signature.Signature.{Signature}
use Rattle.signature_core.specs.Kinds.{kind_name}
use Rattle.signature_core.specs.Grammar.{Params, plain, last, more, Inside, nothing, void, params, Spells, spells, normal_text}
use Rattle.signature_core.specs.Reading.{signature_of, IsNormal}
use Rattle.signature_core.proofs.Complete.{spells_read}
use Rattle.signature_core.proofs.Sound.{signature_spelled}

join_params : (kind : Kind) (kinds : List Kind) → Params (join_with_byte 44 (map kind_name (kind ∷ kinds))) (kind ∷ kinds)
join_params kind [] = last kind (kind_name kind) (plain kind)
join_params kind (next ∷ kinds) = more kind (next ∷ kinds) (kind_name kind) [] [] _ (plain kind) refl refl (join_params next kinds)

join_inside : (kinds : List Kind) → length kinds ≤ 10 → Inside (join_with_byte 44 (map kind_name kinds)) kinds
join_inside [] few = nothing
join_inside (kind ∷ kinds) few = params (kind ∷ kinds) _ (join_params kind kinds) few

pub normal_text_spells : (name : List ℕ) (kinds : List Kind) → is_name name ≡ true → length kinds ≤ 10 → Spells (normal_text name kinds) name kinds
normal_text_spells name kinds named few = spells name kinds [] [] [] (join_with_byte 44 (map kind_name kinds)) [] [] refl named refl refl
    (join_inside kinds few) refl refl

pub normal_text_read : (s : Signature) → IsNormal s → signature_of (normal_text s.name s.kinds) ≡ Some s
normal_text_read s normal = spells_read _ s.name s.kinds (normal_text_spells s.name s.kinds normal.0 normal.1)

-- ---- what is read, in the grammar's words

pub read_iff : (text : List ℕ) (s : Signature) → (signature_of text ≡ Some s → Spells text s.name s.kinds)
    × (Spells text s.name s.kinds → signature_of text ≡ Some s)
read_iff text s = (signature_spelled text s, spells_read text s.name s.kinds)

pub Spells-normal : (text name : List ℕ) (kinds : List Kind) → Spells text name kinds → (is_name name ≡ true) × (length kinds ≤ 10)
Spells-normal _ _ _ (spells name kinds a b c inside d e blank_a named blank_b blank_c between blank_d blank_e) = (named, few inside kinds between)
  where
    few : (s : List ℕ) (kinds : List Kind) → Inside s kinds → length kinds ≤ 10
    few _ _ nothing = omega arith
    few _ _ void = omega arith
    few _ _ (params kinds s some at_most) = at_most

pub read_normal : (text : List ℕ) (s : Signature) → signature_of text ≡ Some s → IsNormal s
read_normal text s e = Spells-normal text s.name s.kinds (signature_spelled text s e)

-- ---- one kind more

join_push : (c : ℕ) (xs : List (List ℕ)) (x : List ℕ) → 0 < length xs → join_with_byte c (xs ++ x ∷ []) ≡ join_with_byte c xs ++ (c ∷ x)
join_push c [] x some = absurd (omega arith)
join_push c (y ∷ []) x some = refl
join_push c (y ∷ z ∷ xs) x some = ap (λ t. y ++ (c ∷ t)) (join_push c (z ∷ xs) x (omega arith)) ∙ sym (append_assoc y (c ∷ join_with_byte c (z ∷ xs)) (c ∷ x))

-- the names of the kinds before the i-th behind this text
abbrev pub names_to : List ℕ → List Kind → ℕ → List ℕ
names_to start kinds i = start ++ join_with_byte 44 (map kind_name (take i kinds))

-- the first kind, and a further one behind a comma: `now` is the text after the step
pub names_to_first : (start : List ℕ) (kinds : List Kind) (i : ℕ) (d : Kind) (now before word : List ℕ) → i < length kinds → i ≤ 0
    → before ≡ names_to start kinds i → word ≡ kind_name (get_or kinds i d) → now ≡ before ++ word → now ≡ names_to start kinds (i + 1)
names_to_first start kinds i d now before word within none kept named pushed =
    let first : i ≡ 0 = omega arith in
    let names = map_more kind_name kinds i d within in
    rw (pushed, kept, named, names, first) (simp append_assoc)

pub names_to_more : (start : List ℕ) (kinds : List Kind) (i : ℕ) (d : Kind) (now before comma word : List ℕ) → i < length kinds → 0 < i
    → before ≡ names_to start kinds i → comma ≡ codes "," → word ≡ kind_name (get_or kinds i d) → now ≡ (before ++ comma) ++ word
    → now ≡ names_to start kinds (i + 1)
names_to_more start kinds i d now before comma word within later kept mark named pushed =
    let names = map_more kind_name kinds i d within in
    let some : 0 < length (map kind_name (take i kinds)) = simp (length-map, length-take) (omega arith) in
    let joined = join_push 44 (map kind_name (take i kinds)) (kind_name (get_or kinds i d)) some in
    rw (pushed, kept, mark, named, names, joined) (simp append_assoc)
