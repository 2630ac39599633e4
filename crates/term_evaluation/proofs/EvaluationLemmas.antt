-- The value of an expression: it depends on no property but those that are read, is the same with the
-- arguments put in, and is short.
use Rattle.std.proofs.Common.{◌≡◌, ◌∙◌, ℕ, zero, suc, ◌+◌, ◌&&◌, Bool, true, false, ℤ, ◌+ℤ◌, ◌-ℤ◌, List, [], ◌∷◌, ◌++◌, Option, Some, None, Ok, Err, length}
use Rattle.std.proofs.Common.{nat_le, IsTrue, refl, ap, subst, arith}
use Rattle.std.specs.Prelude.{IfOk, IfSome, ◌^◌, ◌-◌, pos, neg_ℤ, unsigned_abs, if◌then◌else◌, int_lt, slice_get}
use Rattle.std.specs.List.{All}
use Rattle.std.specs.Option.{ok_or, option_map_or, option_or}
use Rattle.std.proofs.lemmas.Bool.Decides.{nat_tests}
use Rattle.std.proofs.lemmas.List.{length-append, get_or_append_left, get_or-append-add}
use Rattle.std.proofs.lemmas.List.Elements.{All-head, All-tail}
use Rattle.plain_types.specs.declared.code.Code.TheVariants.{BadValue, Limit}
use Rattle.signature_core.specs.declared.kind.Kind.TheVariants as k
use Rattle.variant_value.specs.declared.value.Value.{Value}
use Rattle.variant_value.specs.declared.value.Value.TheVariants as v
use Rattle.variant_value.specs.Values.{IsShort, is_within, number_of, truth_in, number_in, text_in, inferred_number}
use Rattle.term_core.specs.declared.operator.Operator.{Operator}
use Rattle.term_core.specs.declared.operator.Operator.TheVariants.{Sum, Difference, Less, Equal, Concatenated}
use Rattle.term_core.specs.declared.target.Target.{Target}
use Rattle.term_core.specs.Term.{Term, const, arg, state, prop, binary, choice, is_short, has_short_texts}
use Rattle.term_evaluation.specs.declared.reading.Read.{Read}
use Rattle.term_evaluation.specs.Evaluation.{eval_by, chosen, standing}
use Rattle.term_evaluation.specs.Laws.{AgreeOn}
use Rattle.term_evaluation.specs.Operations.{of_two, are_equal, number_value, truth_value, text_value, applied}
use Rattle.term_evaluation.specs.Outcomes.{Answer, ◌>>=◌, answer}
use Rattle.term_evaluation.specs.Reading.{reads_of}
use Rattle.term_evaluation.specs.Unfolding.{unfolded_term}

first_part : {X : Type 0} (P : X → Type 0) (xs ys : List X) → All P (xs ++ ys) → All P xs
first_part P xs ys h k d lt = subst P (get_or_append_left xs ys d k lt) (h k d (omega (arith, length-append xs ys)))

last_part : {X : Type 0} (P : X → Type 0) (xs ys : List X) → All P (xs ++ ys) → All P ys
last_part P xs ys h k d lt = subst P (get_or-append-add xs ys k d) (h (length xs + k) d (omega (arith, length-append xs ys)))

-- what stands is the value, whatever is read
pub stands : {O : Type 0} (args : List Value) (read : Target → List ℕ → Answer O) (term : Term) (value : Value) → standing args term ≡ Some value
    → eval_by args read term ≡ Ok value
stands args read (const v) value is = cc
stands args read (arg place) value is = ap (λ (found : Option Value). answer (ok_or found BadValue)) is
stands args read other value is = absurd (cc)

-- two readers answer the same at a property
abbrev Agreed : {O : Type 0} → (Target → List ℕ → Answer O) → (Target → List ℕ → Answer O) → Read → Type 0
Agreed one other read = one read.target read.name ≡ other read.target read.name

pub same_value : {O : Type 0} (term : Term) (args : List Value) (one other : Target → List ℕ → Answer O) → AgreeOn (reads_of term) one other
    → eval_by args one term ≡ eval_by args other term
same_value (prop target name) args one other h = h 0 (record { target = target; name = name }) (omega arith)
same_value (binary operator a b) args one other h =
    let first = same_value a args one other (first_part (Agreed one other) (reads_of a) (reads_of b) h) in
    let second = same_value b args one other (last_part (Agreed one other) (reads_of a) (reads_of b) h) in
    ap (λ r. r >>= λ x. eval_by args one b >>= λ y. answer (applied operator x y)) first
    ∙ ap (λ r. eval_by args other a >>= λ x. r >>= λ y. answer (applied operator x y)) second
same_value (choice test a b) args one other h =
    let branches = last_part (Agreed one other) (reads_of test) (reads_of a ++ reads_of b) h in
    let condition = same_value test args one other (first_part (Agreed one other) (reads_of test) (reads_of a ++ reads_of b) h) in
    let first = same_value a args one other (first_part (Agreed one other) (reads_of a) (reads_of b) branches) in
    let second = same_value b args one other (last_part (Agreed one other) (reads_of a) (reads_of b) branches) in
    ap (λ r. r >>= λ t. chosen (truth_in t) (eval_by args one a) (eval_by args one b)) condition
    ∙ (ap (λ r. eval_by args other test >>= λ t. chosen (truth_in t) r (eval_by args one b)) first
    ∙ ap (λ r. eval_by args other test >>= λ t. chosen (truth_in t) (eval_by args other a) r) second)
same_value leaf args one other h = refl

-- the same with the arguments put in

given : {O : Type 0} (read : Target → List ℕ → Answer O) (o : Option Value) (place : ℕ)
    → answer {O = O} (ok_or o BadValue) ≡ eval_by [] read (option_map_or const o (arg place))
given read None place = refl
given read (Some value) place = refl

pub in_place : {O : Type 0} (term : Term) (args : List Value) (read : Target → List ℕ → Answer O)
    → eval_by args read term ≡ eval_by [] read (unfolded_term args term)
in_place (const value) args read = refl
in_place (arg place) args read = given read (slice_get args place) place
in_place state args read = refl
in_place (prop target name) args read = refl
in_place (binary operator a b) args read =
    ap (λ r. r >>= λ x. eval_by args read b >>= λ y. answer (applied operator x y)) (in_place a args read)
    ∙ ap (λ r. eval_by [] read (unfolded_term args a) >>= λ x. r >>= λ y. answer (applied operator x y)) (in_place b args read)
in_place (choice test a b) args read =
    ap (λ r. r >>= λ t. chosen (truth_in t) (eval_by args read a) (eval_by args read b)) (in_place test args read)
    ∙ (ap (λ r. eval_by [] read (unfolded_term args test) >>= λ t. chosen (truth_in t) r (eval_by args read b)) (in_place a args read)
    ∙ ap (λ r. eval_by [] read (unfolded_term args test) >>= λ t. chosen (truth_in t) (eval_by [] read (unfolded_term args a)) r) (in_place b args read))

-- short values

always : {O : Type 0} (r : Answer O) (f : Value → Answer O) → ((x : Value) → IfOk (f x) IsShort) → IfOk (r >>= f) IsShort
always (Ok x) f h = h x
always (Err cause) f h = tt

short_answer : (O : Type 0) (o : Option Value) → IfSome o IsShort → IfOk (answer {O = O} (ok_or o BadValue)) IsShort
short_answer O None h = tt
short_answer O (Some value) h = h

if_short : (b : Bool) (value : Value) → IsShort value → IfSome (if b then Some value else None) IsShort
if_short true value h = h
if_short false value h = tt

or_short : (o p : Option Value) → IfSome o IsShort → IfSome p IsShort → IfSome (option_or o p) IsShort
or_short None p h k = k
or_short (Some value) p h k = h

number_short : (O : Type 0) (z : Option ℤ) → IfOk (answer {O = O} (number_value z)) IsShort
number_short O None = tt
number_short O (Some z) =
    let int : IfSome (number_of k.Int z) IsShort = if_short (is_within (neg_ℤ (pos (2 ^ 31))) (pos (2 ^ 31 - 1)) z) (v.Int z) tt in
    let longlong : IfSome (number_of k.Longlong z) IsShort = if_short (is_within (neg_ℤ (pos (2 ^ 63))) (pos (2 ^ 63 - 1)) z) (v.Longlong z) tt in
    let ulonglong : IfSome (number_of k.Ulonglong z) IsShort = if_short (is_within (pos 0) (pos (2 ^ 64 - 1)) z) (v.Ulonglong (unsigned_abs z)) tt in
    short_answer O (inferred_number z) (or_short (number_of k.Int z) (option_or (number_of k.Longlong z) (number_of k.Ulonglong z)) int
    (or_short (number_of k.Longlong z) (number_of k.Ulonglong z) longlong ulonglong))

truth_short : (O : Type 0) (truth : Option Bool) → IfOk (answer {O = O} (truth_value truth)) IsShort
truth_short O None = tt
truth_short O (Some b) = tt

text_short : (O : Type 0) (text : Option (List ℕ)) → IfOk (answer {O = O} (text_value text)) IsShort
text_short O None = tt
text_short O (Some text) = by (nat_le (length text) 4096) refl
  where
    by : (b : Bool) → nat_le (length text) 4096 ≡ b → IfOk (answer {O = O} (if b then Ok (v.Text text) else Err Limit)) IsShort
    by true e = grind (arith, nat_tests)
    by false e = tt

applied_short : (O : Type 0) (operator : Operator) (a b : Value) → IfOk (answer {O = O} (applied operator a b)) IsShort
applied_short O Sum a b = number_short _ (of_two number_in (λ x y. x +ℤ y) a b)
applied_short O Difference a b = number_short _ (of_two number_in (λ x y. x -ℤ y) a b)
applied_short O Less a b = truth_short _ (of_two number_in int_lt a b)
applied_short O Equal a b = truth_short _ (are_equal a b)
applied_short O Concatenated a b = text_short _ (of_two text_in (λ x y. x ++ y) a b)

constant_short : (value : Value) → IsTrue (is_short value) → IsShort value
constant_short (v.Text text) h = grind (arith, nat_tests)
constant_short other h = tt

argument_short : (args : List Value) (place : ℕ) → All IsShort args → IfSome (slice_get args place) IsShort
argument_short [] place all = tt
argument_short (value ∷ rest) zero all = All-head IsShort value rest all
argument_short (value ∷ rest) (suc place) all = argument_short rest place (All-tail IsShort value rest all)

either_short : {O : Type 0} (truth : Option Bool) (held failed : Answer O) → IfOk held IsShort → IfOk failed IsShort → IfOk (chosen truth held failed) IsShort
either_short None held failed h k = tt
either_short (Some true) held failed h k = h
either_short (Some false) held failed h k = k

both : (a b : Bool) → IsTrue (a && b) → IsTrue a × IsTrue b
both true true e = (refl, refl)
both true false e = absurd (cc)
both false b e = absurd (cc)

pub short_value : {O : Type 0} (term : Term) (args : List Value) (read : Target → List ℕ → Answer O) → IsTrue (has_short_texts term) → All IsShort args
    → ((target : Target) (name : List ℕ) → IfOk (read target name) IsShort) → IfOk (eval_by args read term) IsShort
short_value (const value) args read h all reads = constant_short value h
short_value (arg place) args read h all reads = short_answer _ (slice_get args place) (argument_short args place all)
short_value state args read h all reads = tt
short_value (prop target name) args read h all reads = reads target name
short_value (binary operator a b) args read h all reads = always (eval_by args read a) _
    (λ x. always (eval_by args read b) _ (λ y. applied_short _ operator x y))
short_value (choice test a b) args read h all reads =
    let first = both (has_short_texts test) (has_short_texts a && has_short_texts b) h in
    let each = both (has_short_texts a) (has_short_texts b) first.1 in
    always (eval_by args read test) _ (λ t. either_short (truth_in t) _ _ (short_value a args read each.0 all reads) (short_value b args read each.1 all reads))
