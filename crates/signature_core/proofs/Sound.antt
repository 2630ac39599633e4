-- Each signature that is read is spelled so by the grammar.
use Rattle.std.proofs.Common.{◌≡◌, ◌∙◌, ◌≤◌, ◌==◌, ℕ, zero, suc, Bool, true, false, List, [], ◌∷◌, ◌++◌, Option, Some, None, cond, codes, length, bytes_eq}
use Rattle.std.proofs.Common.{find, refl, sym, ap, subst, append_assoc, arith}
use Rattle.std.specs.Option.{option_map, option_and_then, option_map_or}
use Rattle.std.proofs.lemmas.List.{append-nil, nil_from_length}
use Rattle.std.proofs.lemmas.Bool.{eqb-true, true≢false}
use Rattle.std.proofs.lemmas.Slice.Eq.{bytes_eq-Decides}
use Rattle.plain_types.specs.Names.{is_name, is_name_byte}
use Rattle.signature_core.specs.declared.kind.Kind.{Kind}
use Rattle.signature_core.specs.declared.signature.Signature.{Signature}
use Rattle.signature_core.specs.Kinds.{kind_name, kind_named, every_kind}
use Rattle.signature_core.specs.Grammar.{IsBlank, Space, space, Reference, no_reference, reference, Param, plain, const_before, const_behind, Params, last}
use Rattle.signature_core.specs.Grammar.{more, Inside, nothing, void, params, Spells, spells}
use Rattle.signature_core.specs.Reading.{skip, word, behind_word, behind_mark, behind_reference, param_at, params_at, inside_at, is_end, signature_of}
use Rattle.signature_core.proofs.KindLemmas.{by_kind}
use Rattle.signature_core.proofs.Pieces.{Stops, skip_split, word_split, mark_split}

-- ---- what an answer tells of its parts

and_then_some : {A B : Type 0} (o : Option A) (f : A → Option B) (y : B) → option_and_then f o ≡ Some y → (x : A) × (o ≡ Some x) × (f x ≡ Some y)
and_then_some None f y e = absurd cc
and_then_some (Some x) f y e = (x, refl, e)

map_some : {A B : Type 0} (f : A → B) (o : Option A) (y : B) → option_map f o ≡ Some y → (x : A) × (o ≡ Some x) × (f x ≡ y)
map_some f None y e = absurd cc
map_some f (Some x) y e = (x, refl, cc)

if_some : {A : Type 0} (b : Bool) (x y : A) → cond b (Some x) None ≡ Some y → (b ≡ true) × (x ≡ y)
if_some true x y e = (refl, cc)
if_some false x y e = absurd cc

find_passes : {A : Type 0} (p : A → Bool) (xs : List A) (x : A) → find p xs ≡ Some x → p x ≡ true
find_passes p [] x e = absurd cc
find_passes {A} p (y ∷ xs) x e = step (p y) refl e (find_passes p xs x)
  where
    step : (b : Bool) → p y ≡ b → cond b (Some y) (find p xs) ≡ Some x → (find p xs ≡ Some x → p x ≡ true) → p x ≡ true
    step true passes found later = let same : y ≡ x = cc in let P : A → Type 0 = λ z. p z ≡ true in subst P same passes
    step false fails found later = later found

kind_named_is : (s : List ℕ) (kind : Kind) → kind_named s ≡ Some kind → s ≡ kind_name kind
kind_named_is s kind e = (bytes_eq-Decides s (kind_name kind)).0 (find_passes (λ k. bytes_eq s (kind_name k)) every_kind kind e)

-- ---- a parameter

-- white space stands between two words
IsSpace-between : (gap w x : List ℕ) → IsBlank gap → (Stops is_name_byte (w ++ x) → ⊥) → Stops is_name_byte (gap ++ (w ++ x)) → Space gap
IsSpace-between [] w x blank begins stops = absurd (begins stops)
IsSpace-between (c ∷ gap) w x blank begins stops = space c gap blank

begins-kind : (kind : Kind) (x : List ℕ) → Stops is_name_byte (kind_name kind ++ x) → ⊥
begins-kind kind x = by_kind (λ k. Stops is_name_byte (kind_name k ++ x) → ⊥) true≢false true≢false true≢false true≢false true≢false true≢false kind

-- s begins with a piece for which P holds, with white space behind it, and x is the rest
record Begins (P : List ℕ → Type 0) (s x : List ℕ) : Type 0 where
  piece : List ℕ
  gap : List ℕ
  is_piece : P piece
  is_gap : IsBlank gap
  same : s ≡ piece ++ (gap ++ x)

reference_split : (before s : List ℕ) → IsBlank before → Begins Reference (before ++ s) (behind_reference s)
unfolding behind_reference
reference_split before s blank = step (behind_mark 38 s) refl
  where
    step : (o : Option (List ℕ)) → behind_mark 38 s ≡ o → Begins Reference (before ++ s) (option_map_or (λ (rest : List ℕ). rest) o s)
    step None e = record { piece = []; gap = before; is_piece = no_reference; is_gap = blank; same = refl }
    step (Some x) e =
        let cut = mark_split 38 s x e in
        let all : before ++ s ≡ (before ++ codes "&") ++ (cut.0 ++ x) = ap (λ t. before ++ t) cut.2 ∙ sym (append_assoc before (codes "&") (cut.0 ++ x)) in
        record { piece = before ++ codes "&"; gap = cut.0; is_piece = reference before blank; is_gap = cut.1; same = all }

abbrev ParamAt : List ℕ → Kind → List ℕ → Type 0
ParamAt s kind x = Begins (λ t. Param t kind) s x

-- a parameter of two words, of which one is `const`
two_words : (s one other : List ℕ) (kind : Kind)
    → ((gap mark : List ℕ) → Space gap → Reference mark → Param (one ++ (gap ++ (other ++ mark))) kind)
    → ((x : List ℕ) → Stops is_name_byte (other ++ x) → ⊥) → word s ≡ one → word (behind_word s) ≡ other
    → ParamAt s kind (behind_reference (behind_word (behind_word s)))
two_words s one other kind is_param begins first second =
    let at_one = word_split s in
    let at_other = word_split (behind_word s) in
    let tail = reference_split at_other.0 (behind_word (behind_word s)) at_other.1 in
    let rest : behind_word s ≡ other ++ (at_other.0 ++ behind_word (behind_word s)) = at_other.3
    ∙ ap (λ w. w ++ (at_other.0 ++ behind_word (behind_word s))) second in
    let P : List ℕ → Type 0 = λ t. Stops is_name_byte (at_one.0 ++ t) in
    let apart = IsSpace-between at_one.0 other _ at_one.1 (begins _) (subst P rest at_one.2) in
    let s_is : s ≡ one ++ (at_one.0 ++ (other ++ (tail.piece ++ (tail.gap ++ behind_reference (behind_word (behind_word s)))))) =
    at_one.3 ∙ (ap (λ w. w ++ (at_one.0 ++ behind_word s)) first ∙ ap (λ t. one ++ (at_one.0 ++ t)) (rest ∙ ap (λ t. other ++ t) tail.same)) in
    record {
      piece = one ++ (at_one.0 ++ (other ++ tail.piece));
      gap = tail.gap;
      is_piece = is_param at_one.0 tail.piece apart tail.is_piece;
      is_gap = tail.is_gap;
      same = s_is ∙ simp append_assoc;
    }

plain_split : (s : List ℕ) (kind : Kind) → word s ≡ kind_name kind → ParamAt s kind (behind_word s)
plain_split s kind first =
    let one = word_split s in
    let s_is : s ≡ kind_name kind ++ (one.0 ++ behind_word s) = one.3 ∙ ap (λ w. w ++ (one.0 ++ behind_word s)) first in
    record { piece = kind_name kind; gap = one.0; is_piece = plain kind; is_gap = one.1; same = s_is }

param_split : (s : List ℕ) (kind : Kind) (x : List ℕ) → param_at s ≡ Some (kind, x) → ParamAt s kind x
unfolding param_at
param_split s kind x e = step (bytes_eq (word s) (codes "const")) refl e
  where
    const_is : (w : List ℕ) → bytes_eq w (codes "const") ≡ true → w ≡ codes "const"
    const_is w = (bytes_eq-Decides w (codes "const")).0

    found : (k : Kind) (t : List ℕ) → ParamAt s k t → ◌≡◌ {A = Kind × List ℕ} (k, t) (kind, x) → ParamAt s kind x
    found k t at same = let P : Kind × List ℕ → Type 0 = λ p. ParamAt s p.0 p.1 in subst P same at

    typed : (k : Kind) → kind_named (word s) ≡ Some k → (b : Bool) → bytes_eq (word (behind_word s)) (codes "const") ≡ b
        → ◌≡◌ {A = Kind × List ℕ} (k, cond b (behind_reference (behind_word (behind_word s))) (behind_word s)) (kind, x) → ParamAt s kind x
    typed k named true second same = found k _
        (two_words s (kind_name k) (codes "const") k (const_behind k) (λ x. true≢false) (kind_named_is (word s) k named) (const_is _ second)) same
    typed k named false second same = found k _ (plain_split s k (kind_named_is (word s) k named)) same

    step : (b : Bool) → bytes_eq (word s) (codes "const") ≡ b
        → cond b (option_map {U = Kind × List ℕ} (λ (kind : Kind). (kind, behind_reference (behind_word (behind_word s)))) (kind_named (word (behind_word s))))
        (option_map {U = Kind × List ℕ} (λ (kind : Kind).
        (kind, cond (bytes_eq (word (behind_word s)) (codes "const")) (behind_reference (behind_word (behind_word s))) (behind_word s))) (kind_named (word s)))
        ≡ Some (kind, x) → ParamAt s kind x
    step true first answer =
        let k = map_some {B = Kind × List ℕ} (λ (kind : Kind). (kind, behind_reference (behind_word (behind_word s)))) (kind_named (word (behind_word s)))
        (kind, x) answer in
        found k.0 _
        (two_words s (codes "const") (kind_name k.0) k.0 (const_before k.0) (begins-kind k.0) (const_is (word s) first) (kind_named_is _ k.0 k.1)) k.2
    step false first answer =
        let k = map_some {B = Kind × List ℕ} (λ (kind : Kind).
        (kind, cond (bytes_eq (word (behind_word s)) (codes "const")) (behind_reference (behind_word (behind_word s))) (behind_word s)))
        (kind_named (word s)) (kind, x) answer in
        typed k.0 k.1 (bytes_eq (word (behind_word s)) (codes "const")) refl k.2

-- ---- parameters

-- parameters, at most n
record AreParams (n : ℕ) (kinds : List Kind) (s : List ℕ) : Type 0 where
  are_params : Params s kinds
  few : length kinds ≤ n

abbrev ParamsAt : ℕ → List ℕ → List Kind → List ℕ → Type 0
ParamsAt n s kinds x = Begins (AreParams n kinds) s x

params_split : (n : ℕ) (s : List ℕ) (kinds : List Kind) (x : List ℕ) → params_at n s ≡ Some (kinds, x) → ParamsAt n s kinds x
unfolding params_at
params_split zero s kinds x e = absurd cc
params_split (suc n) s kinds x e =
    let param = and_then_some (param_at s) _ (kinds, x) e in
    step param.0.0 param.0.1 (param_split s param.0.0 param.0.1 param.1) (behind_mark 44 param.0.1) refl param.2 (params_split n)
  where
    found : (ks : List Kind) (t : List ℕ) → ParamsAt (suc n) s ks t → ◌≡◌ {A = List Kind × List ℕ} (ks, t) (kinds, x) → ParamsAt (suc n) s kinds x
    found ks t at same = let P : List Kind × List ℕ → Type 0 = λ p. ParamsAt (suc n) s p.0 p.1 in subst P same at

    step : (kind : Kind) (t : List ℕ) → ParamAt s kind t → (o : Option (List ℕ)) → behind_mark 44 t ≡ o
        → option_map_or (λ (rest : List ℕ). option_map {U = List Kind × List ℕ} (λ (read : List Kind × List ℕ). (kind ∷ read.0, read.1)) (params_at n rest)) o
        (Some (kind ∷ [], t)) ≡ Some (kinds, x) → ((s : List ℕ) (kinds : List Kind) (x : List ℕ) → params_at n s ≡ Some (kinds, x) → ParamsAt n s kinds x)
        → ParamsAt (suc n) s kinds x
    step kind t at None stop answer later =
        let same : ◌≡◌ {A = List Kind × List ℕ} (kind ∷ [], t) (kinds, x) = cc in
        found (kind ∷ []) t (record {
          piece = at.piece;
          gap = at.gap;
          is_piece = record { are_params = last kind at.piece at.is_piece; few = omega arith };
          is_gap = at.is_gap;
          same = at.same;
        }) same
    step kind t at (Some rest) comma answer later =
        let others = map_some {B = List Kind × List ℕ} (λ (read : List Kind × List ℕ). (kind ∷ read.0, read.1)) (params_at n rest) (kinds, x) answer in
        let next = later rest others.0.0 others.0.1 others.1 in
        let cut = mark_split 44 t rest comma in
        let s_is : s ≡ at.piece ++ (at.gap ++ (codes "," ++ (cut.0 ++ (next.piece ++ (next.gap ++ others.0.1))))) = at.same
        ∙ ap (λ t. at.piece ++ (at.gap ++ t)) (cut.2 ∙ ap (λ t. codes "," ++ (cut.0 ++ t)) next.same) in
        let fewer : length (kind ∷ others.0.0) ≤ suc n = let h = next.is_piece.few in omega arith in
        found (kind ∷ others.0.0) others.0.1 (record {
          piece = at.piece ++ (at.gap ++ (codes "," ++ (cut.0 ++ next.piece)));
          gap = next.gap;
          is_piece = record {
            are_params = more kind others.0.0 at.piece at.gap cut.0 next.piece at.is_piece at.is_gap cut.1 next.is_piece.are_params;
            few = fewer;
          };
          is_gap = next.is_gap;
          same = s_is ∙ simp append_assoc;
        }) others.2

-- ---- what stands between the parentheses

abbrev InsideAt : List ℕ → List Kind → List ℕ → Type 0
InsideAt s kinds x = Begins (λ t. Inside t kinds) s x

word_inside : (s w : List ℕ) (kinds : List Kind) (x : List ℕ) → Inside w [] → bytes_eq (word s) w ≡ true
    → ◌≡◌ {A = Option (List Kind × List ℕ)} (Some ([], behind_word s)) (Some (kinds, x)) → InsideAt s kinds x
word_inside s w kinds x inside first answer =
    let cut = word_split s in
    let P : List Kind × List ℕ → Type 0 = λ p. Begins (λ t. Inside t p.0) s p.1 in
    let same : ◌≡◌ {A = List Kind × List ℕ} ([], behind_word s) (kinds, x) = cc in
    let s_is : s ≡ w ++ (cut.0 ++ behind_word s) = cut.3 ∙ ap (λ t. t ++ (cut.0 ++ behind_word s)) ((bytes_eq-Decides (word s) w).0 first) in
    subst P same (record { piece = w; gap = cut.0; is_piece = inside; is_gap = cut.1; same = s_is })

inside_split : (s : List ℕ) (kinds : List Kind) (x : List ℕ) → inside_at s ≡ Some (kinds, x) → InsideAt s kinds x
unfolding inside_at
inside_split s kinds x e = step (bytes_eq (word s) []) (bytes_eq (word s) (codes "void")) refl refl e
  where
    step : (a b : Bool) → bytes_eq (word s) [] ≡ a → bytes_eq (word s) (codes "void") ≡ b
        → cond {A = Option (List Kind × List ℕ)} a (Some ([], behind_word s)) (cond b (Some ([], behind_word s)) (params_at 10 s)) ≡ Some (kinds, x)
        → InsideAt s kinds x
    step true b empty _ answer = word_inside s [] kinds x nothing empty answer
    step false true _ typed answer = word_inside s (codes "void") kinds x void typed answer
    step false false _ _ answer =
        let at = params_split 10 s kinds x answer in
        record { piece = at.piece; gap = at.gap; is_piece = params kinds at.piece at.is_piece.are_params at.is_piece.few; is_gap = at.is_gap; same = at.same }

-- ---- a signature

end_split : (s : List ℕ) → is_end s ≡ true → (gap : List ℕ) × IsBlank gap × (s ≡ codes ")" ++ gap)
unfolding is_end
end_split s e = step (behind_mark 41 s) refl e
  where
    step : (o : Option (List ℕ)) → behind_mark 41 s ≡ o → option_map_or (λ (rest : List ℕ). length rest == 0) o false ≡ true
        → (gap : List ℕ) × IsBlank gap × (s ≡ codes ")" ++ gap)
    step None close empty = absurd cc
    step (Some x) close empty =
        let cut = mark_split 41 s x close in
        let none : x ≡ [] = nil_from_length x (eqb-true (length x) 0 empty) in
        (cut.0, cut.1, cut.2 ∙ ap (λ t. 41 ∷ t) (ap (λ t. cut.0 ++ t) none ∙ append-nil cut.0))

pub signature_spelled : (s : List ℕ) (signature : Signature) → signature_of s ≡ Some signature → Spells s signature.name signature.kinds
unfolding signature_of
signature_spelled s signature e =
    let name = and_then_some (cond (is_name (word (skip s))) (Some (word (skip s))) None) _ signature e in
    let named = if_some (is_name (word (skip s))) (word (skip s)) name.0 name.1 in
    let opened = and_then_some (behind_mark 40 (behind_word (skip s))) _ signature name.2 in
    let inside = and_then_some (inside_at opened.0) _ signature opened.2 in
    let ended = if_some (is_end inside.0.1) _ signature inside.2 in
    let before = skip_split s in
    let at_name = word_split (skip s) in
    let open_cut = mark_split 40 (behind_word (skip s)) opened.0 opened.1 in
    let between = inside_split opened.0 inside.0.0 inside.0.1 inside.1 in
    let close_cut = end_split inside.0.1 ended.0 in
    let last_is : opened.0 ≡ between.piece ++ (between.gap ++ (codes ")" ++ close_cut.0)) = between.same
    ∙ ap (λ t. between.piece ++ (between.gap ++ t)) close_cut.2 in
    let rest_is : behind_word (skip s) ≡ codes "(" ++ (open_cut.0 ++ (between.piece ++ (between.gap ++ (codes ")" ++ close_cut.0)))) = open_cut.2
    ∙ ap (λ t. codes "(" ++ (open_cut.0 ++ t)) last_is in
    let s_is : s ≡ before.0 ++ (word (skip s)
    ++ (at_name.0 ++ (codes "(" ++ (open_cut.0 ++ (between.piece ++ (between.gap ++ (codes ")" ++ close_cut.0))))))) = before.2
    ∙ ap (λ t. before.0 ++ t) (at_name.3 ∙ ap (λ t. word (skip s) ++ (at_name.0 ++ t)) rest_is) in
    let spelled = spells (word (skip s)) inside.0.0 before.0 at_name.0 open_cut.0 between.piece between.gap close_cut.0 before.1 named.0 at_name.1 open_cut.1
    between.is_piece between.is_gap close_cut.1 in
    let P : List ℕ → Type 0 = λ t. Spells t (word (skip s)) inside.0.0 in
    let Q : List ℕ → Type 0 = λ n. Spells s n inside.0.0 in
    let R : Signature → Type 0 = λ g. Spells s g.name g.kinds in
    subst R ended.1 (subst Q named.1 (subst P (sym s_is) spelled))
