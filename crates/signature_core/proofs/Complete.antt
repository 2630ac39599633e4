-- Each text that the grammar spells is read so.
use Rattle.std.proofs.Common.{◌≡◌, ◌∙◌, ◌≤◌, ◌==◌, ◌⊎◌, ℕ, zero, suc, true, false, List, [], ◌∷◌, ◌++◌, Some, None, codes, length, bytes_eq, refl, sym, ap, inl}
use Rattle.std.proofs.Common.{inr, ⊎_elim, append_assoc, arith}
use Rattle.std.specs.List.{list_all}
use Rattle.std.proofs.lemmas.List.{append-nil}
use Rattle.std.proofs.lemmas.Bool.{and_parts, true≢false}
use Rattle.plain_types.specs.Names.{is_name, is_name_byte}
use Rattle.signature_core.specs.declared.kind.Kind.{Kind}
use Rattle.signature_core.specs.Kinds.{kind_name}
use Rattle.signature_core.specs.Grammar.{is_blank, IsBlank, Space, space, Reference, no_reference, reference, Param, plain, const_before, const_behind, Params}
use Rattle.signature_core.specs.Grammar.{last, more, Inside, nothing, void, params, Spells, spells}
use Rattle.signature_core.specs.Reading.{skip, word, behind_word, behind_mark, behind_reference, param_at, params_at, inside_at, is_end, signature_of}
use Rattle.signature_core.proofs.KindLemmas.{by_kind, kind_named-kind_name}
use Rattle.signature_core.proofs.ParamsLemmas.{params_last, params_more, with_front}
use Rattle.signature_core.proofs.Pieces.{Stops, words-name, Stops-gap, IsBlank-append, is_blank_word, skip-append, word-append, behind_word-append}

-- what stands behind a parameter: a comma or a parenthesis
pub record Ends (x : List ℕ) : Type 0 where
  pub no_word : Stops is_name_byte x
  pub no_blank : Stops is_blank x
  pub no_reference_mark : Stops (λ c. c == 38) x

Ends-comma : (x : List ℕ) → Ends (44 ∷ x)
Ends-comma x = record { no_word = refl; no_blank = refl; no_reference_mark = refl }

Ends-close : (x : List ℕ) → Ends (41 ∷ x)
Ends-close x = record { no_word = refl; no_blank = refl; no_reference_mark = refl }

-- ---- a parameter

behind_no_reference : (x : List ℕ) → Stops (λ c. c == 38) x → behind_reference x ≡ x
unfolding behind_reference behind_mark
behind_no_reference [] stops = refl
behind_no_reference (c ∷ x) stops = rw stops refl

behind_a_reference : (x : List ℕ) → behind_reference (38 ∷ x) ≡ skip x
unfolding behind_reference behind_mark
behind_a_reference x = refl

Stops-space : (gap x : List ℕ) → Space gap → Stops is_name_byte (gap ++ x)
Stops-space _ x (space first rest blank) = Stops-gap (first ∷ rest) [] blank tt

IsBlank-space : (gap : List ℕ) → Space gap → IsBlank gap
IsBlank-space _ (space first rest blank) = blank

-- the last word of a parameter with `const`, and what may stand behind it
reference_read : (w mark gap x : List ℕ) → list_all is_name_byte w ≡ true → Reference mark → IsBlank gap → Ends x
    → (word (w ++ (mark ++ (gap ++ x))) ≡ w) × (behind_reference (behind_word (w ++ (mark ++ (gap ++ x)))) ≡ x)
reference_read w _ gap x all no_reference blank ends =
    let stops = Stops-gap gap x blank ends.no_word in (
      word-append w (gap ++ x) all stops,
      ap behind_reference (behind_word-append w gap x all blank stops ends.no_blank) ∙ behind_no_reference x ends.no_reference_mark,
    )
reference_read w _ gap x all (reference before between) blank ends =
    let rest : List ℕ = 38 ∷ (gap ++ x) in
    let same : w ++ ((before ++ codes "&") ++ (gap ++ x)) ≡ w ++ (before ++ rest) = simp append_assoc in
    let stops : Stops is_name_byte (before ++ rest) = Stops-gap before rest between refl in (
      ap word same ∙ word-append w (before ++ rest) all stops,
      ap (λ s. behind_reference (behind_word s)) same
          ∙ (ap behind_reference (behind_word-append w before rest all between stops refl)
          ∙ (behind_a_reference (gap ++ x) ∙ skip-append gap x blank ends.no_blank)),
    )

Stops-kind : (kind : Kind) (x : List ℕ) → Stops is_blank (kind_name kind ++ x)
Stops-kind kind x = by_kind (λ k. Stops is_blank (kind_name k ++ x)) refl refl refl refl refl refl kind

words-kind : (kind : Kind) → list_all is_name_byte (kind_name kind) ≡ true
words-kind = by_kind (λ k. list_all is_name_byte (kind_name k) ≡ true) refl refl refl refl refl refl

const-kind : (kind : Kind) → bytes_eq (kind_name kind) (codes "const") ≡ false
const-kind = by_kind (λ k. bytes_eq (kind_name k) (codes "const") ≡ false) refl refl refl refl refl refl

-- a parameter at the front of s is of this kind, and x stands behind it
record Reads (s : List ℕ) (kind : Kind) (x : List ℕ) : Type 0 where
  first : (word s ≡ kind_name kind) ⊎ (word s ≡ codes "const")
  param : param_at s ≡ Some (kind, x)

param_plain : (s : List ℕ) (kind : Kind) (x : List ℕ) → word s ≡ kind_name kind → behind_word s ≡ x → word x ≡ [] → param_at s ≡ Some (kind, x)
unfolding param_at
param_plain s kind x first behind second = rw (first, const-kind kind, kind_named-kind_name kind, behind, second) refl

param_before : (s : List ℕ) (kind : Kind) (x : List ℕ) → word s ≡ codes "const" → word (behind_word s) ≡ kind_name kind
    → behind_reference (behind_word (behind_word s)) ≡ x → param_at s ≡ Some (kind, x)
unfolding param_at
param_before s kind x first second behind = rw (first, second, kind_named-kind_name kind, behind) refl

param_behind : (s : List ℕ) (kind : Kind) (x : List ℕ) → word s ≡ kind_name kind → word (behind_word s) ≡ codes "const"
    → behind_reference (behind_word (behind_word s)) ≡ x → param_at s ≡ Some (kind, x)
unfolding param_at
param_behind s kind x first second behind = rw (first, const-kind kind, kind_named-kind_name kind, second, behind) refl

word-ends : (x : List ℕ) → Stops is_name_byte x → word x ≡ []
word-ends x stops = word-append [] x refl stops

param_read : (s : List ℕ) (kind : Kind) → Param s kind → (gap x : List ℕ) → IsBlank gap → Ends x → Reads (s ++ (gap ++ x)) kind x
param_read _ _ (plain kind) gap x blank ends =
    let stops = Stops-gap gap x blank ends.no_word in
    let first = word-append (kind_name kind) (gap ++ x) (words-kind kind) stops in
    let behind = behind_word-append (kind_name kind) gap x (words-kind kind) blank stops ends.no_blank in
    record { first = inl first; param = param_plain (kind_name kind ++ (gap ++ x)) kind x first behind (word-ends x ends.no_word) }
param_read _ _ (const_before kind between mark apart ref) gap x blank ends =
    let rest : List ℕ = kind_name kind ++ (mark ++ (gap ++ x)) in
    let s : List ℕ = codes "const" ++ (between ++ rest) in
    let same : (codes "const" ++ (between ++ (kind_name kind ++ mark))) ++ (gap ++ x) ≡ s = simp append_assoc in
    let stops = Stops-space between rest apart in
    let first = word-append (codes "const") (between ++ rest) refl stops in
    let behind = behind_word-append (codes "const") between rest refl (IsBlank-space between apart) stops (Stops-kind kind (mark ++ (gap ++ x))) in
    let tail = reference_read (kind_name kind) mark gap x (words-kind kind) ref blank ends in
    record {
      first = inr (ap word same ∙ first);
      param = ap param_at same ∙ param_before s kind x first (ap word behind ∙ tail.0) (ap (λ t. behind_reference (behind_word t)) behind ∙ tail.1);
    }
param_read _ _ (const_behind kind between mark apart ref) gap x blank ends =
    let rest : List ℕ = codes "const" ++ (mark ++ (gap ++ x)) in
    let s : List ℕ = kind_name kind ++ (between ++ rest) in
    let same : (kind_name kind ++ (between ++ (codes "const" ++ mark))) ++ (gap ++ x) ≡ s = simp append_assoc in
    let stops = Stops-space between rest apart in
    let first = word-append (kind_name kind) (between ++ rest) (words-kind kind) stops in
    let behind = behind_word-append (kind_name kind) between rest (words-kind kind) (IsBlank-space between apart) stops refl in
    let tail = reference_read (codes "const") mark gap x refl ref blank ends in
    record {
      first = inl (ap word same ∙ first);
      param = ap param_at same ∙ param_behind s kind x first (ap word behind ∙ tail.0) (ap (λ t. behind_reference (behind_word t)) behind ∙ tail.1);
    }

-- ---- parameters

Stops-param : (s : List ℕ) (kind : Kind) → Param s kind → (x : List ℕ) → Stops is_blank (s ++ x)
Stops-param _ _ (plain kind) x = Stops-kind kind x
Stops-param _ _ (const_before kind between mark apart ref) x = refl
Stops-param _ _ (const_behind kind between mark apart ref) x = rw append_assoc (Stops-kind kind _)

Stops-params : (s : List ℕ) (kinds : List Kind) → Params s kinds → (x : List ℕ) → Stops is_blank (s ++ x)
Stops-params _ _ (last kind param one) x = Stops-param param kind one x
Stops-params _ _ (more kind kinds param gap between rest one g b others) x = rw append_assoc (Stops-param param kind one _)

behind_mark-gap : (mark : ℕ) (gap x : List ℕ) → (mark == mark) ≡ true → IsBlank gap → Stops is_blank x → behind_mark mark (mark ∷ (gap ++ x)) ≡ Some x
unfolding behind_mark
behind_mark-gap mark gap x same blank stops = rw (same, skip-append gap x blank stops) refl

no_comma : (x : List ℕ) → behind_mark 44 (41 ∷ x) ≡ None
unfolding behind_mark
no_comma x = refl

-- the parameters of s, with x behind them; and the first word of the first
record ReadsAll (n : ℕ) (s : List ℕ) (kinds : List Kind) (x : List ℕ) : Type 0 where
  first : ((kind : Kind) × (word s ≡ kind_name kind)) ⊎ (word s ≡ codes "const")
  params : params_at n s ≡ Some (kinds, x)

first_word : (s : List ℕ) (kind : Kind) → (word s ≡ kind_name kind) ⊎ (word s ≡ codes "const")
    → ((kind : Kind) × (word s ≡ kind_name kind)) ⊎ (word s ≡ codes "const")
first_word s kind (inl e) = inl (kind, e)
first_word s kind (inr e) = inr e

params_read : (s : List ℕ) (kinds : List Kind) → Params s kinds → (n : ℕ) → length kinds ≤ n → (gap x : List ℕ) → IsBlank gap
    → ReadsAll n (s ++ (gap ++ 41 ∷ x)) kinds (41 ∷ x)
params_read _ _ (last kind param one) zero few gap x blank = absurd (omega arith)
params_read _ _ (last kind param one) (suc n) few gap x blank =
    let s : List ℕ = param ++ (gap ++ 41 ∷ x) in
    let read = param_read param kind one gap (41 ∷ x) blank (Ends-close x) in
    record { first = first_word s kind read.first; params = params_last n (suc n) s kind (41 ∷ x) refl read.param (no_comma x) }
params_read _ _ (more kind kinds param gap between rest one g b others) zero few after x blank = absurd (omega arith)
params_read _ _ (more kind kinds param gap between rest one g b others) (suc n) few after x blank =
    let behind : List ℕ = rest ++ (after ++ 41 ∷ x) in
    let s : List ℕ = param ++ (gap ++ (44 ∷ (between ++ behind))) in
    let same : (param ++ (gap ++ (codes "," ++ (between ++ rest)))) ++ (after ++ 41 ∷ x) ≡ s = simp append_assoc in
    let fewer : length kinds ≤ n = omega arith in
    let read = param_read param kind one gap (44 ∷ (between ++ behind)) g (Ends-comma (between ++ behind)) in
    let comma = behind_mark-gap 44 between behind refl b (Stops-params rest kinds others (after ++ 41 ∷ x)) in
    let next = params_read rest kinds others n fewer after x blank in
    record {
      first = first_word _ kind (⊎_elim (λ e. inl (ap word same ∙ e)) (λ e. inr (ap word same ∙ e)) read.first);
      params = ap (params_at (suc n)) same ∙ (params_more n (suc n) s kind _ behind refl read.param comma ∙ ap (with_front (kind ∷ [])) next.params);
    }

-- ---- what stands between the parentheses

inside_empty : (s x : List ℕ) → word s ≡ [] → behind_word s ≡ x → inside_at s ≡ Some ([], x)
unfolding inside_at
inside_empty s x first behind = rw (first, behind) refl

inside_void : (s x : List ℕ) → word s ≡ codes "void" → behind_word s ≡ x → inside_at s ≡ Some ([], x)
unfolding inside_at
inside_void s x first behind = rw (first, behind) refl

inside_params : (s : List ℕ) (kinds : List Kind) (x : List ℕ) → ReadsAll 10 s kinds x → inside_at s ≡ Some (kinds, x)
unfolding inside_at
inside_params s kinds x reads = rw (
  is_not [] (λ kind. by_kind (λ kind. bytes_eq (kind_name kind) [] ≡ false) refl refl refl refl refl refl kind) refl,
  is_not (codes "void") (λ kind. by_kind (λ kind. bytes_eq (kind_name kind) (codes "void") ≡ false) refl refl refl refl refl refl kind) refl,
) reads.params
  where
    is_not : (w : List ℕ) → ((kind : Kind) → bytes_eq (kind_name kind) w ≡ false) → bytes_eq (codes "const") w ≡ false → bytes_eq (word s) w ≡ false
    is_not w kinds_differ const_differs = ⊎_elim (λ k. rw k.1 (kinds_differ k.0)) (λ e. rw e const_differs) reads.first

inside_read : (s : List ℕ) (kinds : List Kind) → Inside s kinds → (before after x : List ℕ) → IsBlank before → IsBlank after
    → inside_at (skip (before ++ (s ++ (after ++ 41 ∷ x)))) ≡ Some (kinds, 41 ∷ x)
inside_read _ _ nothing before after x b a =
    let same : before ++ (after ++ 41 ∷ x) ≡ (before ++ after) ++ 41 ∷ x = sym (append_assoc before after (41 ∷ x)) in
    let opened = ap skip same ∙ skip-append (before ++ after) (41 ∷ x) (IsBlank-append before after b a) refl in
    ap inside_at opened ∙ inside_empty (41 ∷ x) (41 ∷ x) (word-ends (41 ∷ x) refl) (behind_word-append [] [] (41 ∷ x) refl refl refl refl)
inside_read _ _ void before after x b a =
    let s : List ℕ = codes "void" ++ (after ++ 41 ∷ x) in
    let stops = Stops-gap after (41 ∷ x) a refl in
    ap inside_at (skip-append before s b refl) ∙ inside_void s (41 ∷ x) (word-append (codes "void") (after ++ 41 ∷ x) refl stops)
    (behind_word-append (codes "void") after (41 ∷ x) refl a stops refl)
inside_read _ _ (params kinds s some few) before after x b a =
    ap inside_at (skip-append before _ b (Stops-params s kinds some (after ++ 41 ∷ x)))
    ∙ inside_params _ kinds (41 ∷ x) (params_read s kinds some 10 few after x a)

-- ---- a signature

behind_open : (x : List ℕ) → behind_mark 40 (40 ∷ x) ≡ Some (skip x)
unfolding behind_mark
behind_open x = refl

Stops-name : (name : List ℕ) → is_name name ≡ true → (x : List ℕ) → Stops is_blank (name ++ x)
Stops-name [] named x = absurd (true≢false (sym named))
Stops-name (c ∷ name) named x =
    let words = words-name (c ∷ name) named in
    is_blank_word c (and_parts (is_name_byte c) (list_all is_name_byte name) words).0

signature_read : (s name opened rest : List ℕ) (kinds : List Kind) → word (skip s) ≡ name → is_name name ≡ true
    → behind_mark 40 (behind_word (skip s)) ≡ Some opened → inside_at opened ≡ Some (kinds, rest) → is_end rest ≡ true
    → signature_of s ≡ Some (record { name = name; kinds = kinds })
unfolding signature_of
signature_read s name opened rest kinds first named mark inside end = rw (first, named, mark, inside, end) refl

end_read : (gap : List ℕ) → IsBlank gap → is_end (41 ∷ gap) ≡ true
unfolding is_end behind_mark
end_read gap blank =
    let all : skip gap ≡ [] = ap skip (sym (append-nil gap)) ∙ skip-append gap [] blank tt in
    rw all refl

pub spells_read : (s name : List ℕ) (kinds : List Kind) → Spells s name kinds → signature_of s ≡ Some (record { name = name; kinds = kinds })
spells_read _ _ _ (spells name kinds a b c inside d e blank_a named blank_b blank_c between blank_d blank_e) =
    let opened : List ℕ = c ++ (inside ++ (d ++ 41 ∷ e)) in
    let rest : List ℕ = b ++ (40 ∷ opened) in
    let stops = Stops-gap b (40 ∷ opened) blank_b refl in
    let at_name = skip-append a (name ++ rest) blank_a (Stops-name name named rest) in
    let words = words-name name named in
    let first = ap word at_name ∙ word-append name rest words stops in
    let behind = ap behind_word at_name ∙ behind_word-append name b (40 ∷ opened) words blank_b stops refl in
    let mark = ap (behind_mark 40) behind ∙ behind_open opened in
    signature_read _ name (skip opened) (41 ∷ e) kinds first named mark (inside_read inside kinds between c d e blank_c blank_d) (end_read e blank_e)
