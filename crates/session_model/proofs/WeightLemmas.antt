-- How many items an agenda weighs.
use Rattle.std.proofs.Common.{◌≡◌, ◌<◌, ◌≤◌, ◌+◌, ◌*◌, ◌==◌, ℕ, Bool, true, false, cond, List, [], ◌∷◌, ◌++◌, length, map, max, reverse, Option, Some, None}
use Rattle.std.proofs.Common.{refl, ap, arith}
use Rattle.std.specs.List.{All}
use Rattle.std.specs.Option.{option_map_or}
use Rattle.std.proofs.Math.Nat.{add-mul, mul-le-mul_left, mul-le-mul_right}
use Rattle.std.proofs.lemmas.List.Elements.{All-append, All-cons, All-head, All-nil, All-tail, All-weaker}
use Rattle.std.proofs.lemmas.List.Sorted.{All-permutation, IsPermutation-reverse}
use Rattle.session_model.proofs.Common.{Value, Acts, acts_of, counts, single_action, more, nothing, when, Class, Method, methods, Connection, Row, row_of}
use Rattle.session_model.proofs.Common.{Functor, acts, functor_at, Act, Call, Detach, Emit, Remove, Item, DeleteChild, Run, RunFunctor, method_at, methods_of}
use Rattle.session_model.proofs.Common.{Most, change_weight, weights, Settings, State}
use Rattle.term_core.specs.Act as term
use Rattle.term_core.specs.Act.{count}
use Rattle.class_table.specs.Lookup.{gathered}
use Rattle.object_tree.specs.Lines.{greatest}
use Rattle.session_model.specs.Run.{action_weight, longest_body, longest_functor, weight}
use Rattle.session_model.proofs.FilterLemmas.{of_slice}

-- no more connections, objects and properties, and bodies that are as long
pub record IsAtMost (one other : Most) : Type 0 where
  pub connections : one.connections ≤ other.connections
  pub objects : one.objects ≤ other.objects
  pub properties : one.properties ≤ other.properties
  pub actions : one.actions ≡ other.actions

-- where there is no more a change weighs no more, nor does an action, nor a body
pub change-more : {m n : Most} → IsAtMost m n → change_weight m ≤ change_weight n
change-more {m} {n} less =
    let above : m.connections + 3 ≤ n.connections + 3 = omega (arith, less.connections) in
    let wider = mul-le-mul_left m.properties above in
    let longer = mul-le-mul_right (n.connections + 3) less.properties in
    omega (arith, wider, longer)

pub action-more : {m n : Most} → IsAtMost m n → action_weight m ≤ action_weight n
action-more less = let change = change-more less in omega (arith, change, less.connections)

pub body-more : {m n : Most} → IsAtMost m n → m.actions * action_weight m ≤ n.actions * action_weight n
body-more {m} {n} less =
    let longer = mul-le-mul_left m.actions (action-more less) in
    let same : m.actions * action_weight n ≡ n.actions * action_weight n = ap (λ k. k * action_weight n) less.actions in
    omega (arith, longer, same)

-- nor does an item
weight-more : {m n : Most} (item : Item) → IsAtMost m n → weight m item ≤ weight n item
weight-more (Emit target signal args depth) less = omega (arith, less.connections)
weight-more (Run target method sender args depth) less = let body = body-more less in omega (arith, body)
weight-more (RunFunctor target functor sender connection args depth) less = let body = body-more less in omega (arith, body)
weight-more (Act action args self sender depth) less = mul-le-mul_left (count action) (action-more less)
weight-more (Detach target depth) less = omega (arith, less.objects)
weight-more (Remove target depth) less = let change = change-more less in omega (arith, change)
weight-more _ less = omega arith

pub weights-more : {m n : Most} (agenda : List Item) → IsAtMost m n → weights m agenda ≤ weights n agenda
weights-more [] less = omega arith
weights-more {m} {n} (item ∷ agenda) less = let first = weight-more item less in let rest = weights-more agenda less in
    omega (arith, first, rest)

pub weights-append : (n : Most) (a b : List Item) → weights n (a ++ b) ≡ weights n a + weights n b
weights-append n [] b = omega arith
weights-append n (item ∷ a) b = let rest = weights-append n a b in omega (arith, rest)

-- an action weighs as much as a single one for each action in it
pub count-some : (action : term.Act) → 1 ≤ count action
count-some (single_action plain) = omega arith
count-some (when test held failed) = omega arith

pub act-some : (n : Most) (action : term.Act) → action_weight n ≤ count action * action_weight n
act-some n action = let times = mul-le-mul_right (action_weight n) (count-some action) in omega (arith, times)

pub weight-some : (n : Most) (item : Item) → 1 ≤ weight n item
weight-some n (Act action args self sender depth) = let some = act-some n action in omega (arith, some)
weight-some n _ = omega arith

-- the actions of a body weigh as much as their number says
pub acts-weight : (n : Most) (body : Acts) (args : List Value) (self sender depth : ℕ)
    → weights n (acts body args self sender depth) ≡ counts body * action_weight n
acts-weight n nothing args self sender depth = omega arith
acts-weight n (more action rest) args self sender depth =
    let later = acts-weight n rest args self sender depth in
    let parts = add-mul (count action) (counts rest) (action_weight n) in
    omega (arith, later, parts)

-- a choice weighs more than either branch, also where what warns takes its place
pub choice-weight : (n : Most) (held failed : Acts) → (counts held * action_weight n < (counts held + counts failed + 1) * action_weight n)
    × (counts failed * action_weight n < (counts held + counts failed + 1) * action_weight n)
choice-weight n held failed =
    let parts = add-mul (counts held + counts failed) 1 (action_weight n) in
    let both = add-mul (counts held) (counts failed) (action_weight n) in
    (omega (arith, parts, both), omega (arith, parts, both))

-- calls weigh one each
pub calls-weight : (n : Most) (args : List Value) (depth : ℕ) (rows : List Connection) → weights n (map (λ row. Call row.number args depth) rows) ≡ length rows
calls-weight n args depth [] = refl
calls-weight n args depth (row ∷ rows) = let rest = calls-weight n args depth rows in omega (arith, rest)

-- children that are to be deleted weigh two each
pub delete_children-weight : (n : Most) (target depth : ℕ) (children : List ℕ)
    → weights n (map (λ child. DeleteChild target child depth) children) ≡ 2 * length children
delete_children-weight n target depth [] = refl
delete_children-weight n target depth (child ∷ rest) = let more = delete_children-weight n target depth rest in omega (arith, more)

-- a list is no greater than its greatest
below_greatest : {X : Type 0} (size : X → ℕ) (xs : List X) → All (λ x. size x ≤ greatest (map size xs)) xs
below_greatest size [] = All-nil (λ x. size x ≤ 0)
below_greatest size (x ∷ xs) =
    All-cons (λ y. size y ≤ max (size x) (greatest (map size xs))) x xs (omega arith)
    (All-weaker (λ y. size y ≤ greatest (map size xs)) (λ y. size y ≤ max (size x) (greatest (map size xs))) (λ y le. omega (arith, le)) xs
    (below_greatest size xs))

-- how many actions the body of a method has, and the longest of those that a class declares itself
abbrev size : Method → ℕ
size method = counts (acts_of method.body.actions)

abbrev longest : Class → ℕ
longest class = greatest (map size class.methods)

-- what a class has from all these classes is no longer than what they declare
gathered-size : (most : ℕ) (classes : List Class) (index : ℕ) → All (λ class. longest class ≤ most) classes
    → All (λ method. size method ≤ most) (gathered (λ index class. class.methods) classes index)
unfolding gathered
gathered-size most [] index few = All-nil (λ method. size method ≤ most)
gathered-size most (class ∷ earlier) index few = by (gathered-size most earlier index few') (λ above. gathered-size most earlier above few')
    (index == length earlier)
  where
    few' : All (λ class. longest class ≤ most) earlier
    few' = All-tail (λ class. longest class ≤ most) class earlier few

    own : All (λ method. size method ≤ most) class.methods
    own = All-weaker (λ (method : Method). size method ≤ longest class) (λ (method : Method). size method ≤ most)
        (λ method le. let its : longest class ≤ most = All-head (λ class. longest class ≤ most) class earlier few in omega (arith, le, its)) class.methods
        (below_greatest size class.methods)

    base : ((above : ℕ) → All (λ method. size method ≤ most) (gathered (λ index class. class.methods) earlier above)) → (above : Option ℕ)
        → All (λ method. size method ≤ most) (option_map_or (λ base. gathered (λ index class. class.methods) earlier base) above [])
    base others None = All-nil (λ method. size method ≤ most)
    base others (Some above) = others above

    by : All (λ method. size method ≤ most) (gathered (λ index class. class.methods) earlier index)
        → ((above : ℕ) → All (λ method. size method ≤ most) (gathered (λ index class. class.methods) earlier above)) → (same : Bool)
        → All (λ method. size method ≤ most) (cond same
        (option_map_or (λ base. gathered (λ index class. class.methods) earlier base) class.superclass [] ++ class.methods)
        (gathered (λ index class. class.methods) earlier index))
    by other others true = All-append (λ method. size method ≤ most)
        (option_map_or (λ base. gathered (λ index class. class.methods) earlier base) class.superclass []) class.methods (base others class.superclass) own
    by other others false = other

-- the body of a method of an object is no longer than the longest one
pub body-size : (settings : Settings) (state : State) (object index : ℕ) (method : Method) → method_at settings state object index ≡ Some method
    → counts (acts_of method.body.actions) ≤ longest_body settings.classes
body-size settings state object index method found = of_slice (λ method. size method ≤ most) (methods_of settings state object) index method found
    (by (row_of state.forest.rows object))
  where
    most : ℕ
    most = longest_body settings.classes

    classes : All (λ class. longest class ≤ longest_body settings.classes) (reverse settings.classes)
    classes = All-permutation (λ class. longest class ≤ longest_body settings.classes) settings.classes (reverse settings.classes)
        (IsPermutation-reverse settings.classes) (below_greatest longest settings.classes)

    by : (row : Option Row) → All (λ method. size method ≤ longest_body settings.classes) (option_map_or (λ row. methods settings.classes row.class) row [])
    by None = All-nil (λ method. size method ≤ longest_body settings.classes)
    by (Some row) = gathered-size (longest_body settings.classes) (reverse settings.classes) row.class classes

-- nor is that of a functor
pub functor-size : (settings : Settings) (index : ℕ) (functor : Functor) → functor_at settings index ≡ Some functor
    → counts (acts_of functor.body.actions) ≤ longest_functor settings.functors
functor-size settings index functor found =
    of_slice (λ functor. functor_size functor ≤ longest_functor settings.functors) settings.functors index functor found
    (below_greatest functor_size settings.functors)
  where
    functor_size : Functor → ℕ
    functor_size functor = counts (acts_of functor.body.actions)
