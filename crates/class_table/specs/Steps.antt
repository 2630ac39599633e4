-- Steps that may find a fault, one after another. The first fault is reported.
use Rattle.std.specs.Prelude.{ℕ, Bool, List, [], ◌∷◌, ◌++◌, Result, Ok, Err, if◌then◌else◌}
use Rattle.class_table.specs.declared.fault.ClassFaultKind.{ClassFaultKind}
use Rattle.class_table.specs.declared.fault.ClassFault.{ClassFault}

-- What is read from a class file, or the kind of its first fault.
abbrev pub Read : Type 0 → Type 0
Read A = Result A ClassFaultKind

infixl 10 ◌>>=◌
abbrev pub ◌>>=◌ : {A B E : Type 0} → Result A E → (A → Result B E) → Result B E
(Ok value) >>= f = f value
(Err fault) >>= f = Err fault

-- What comes next, if the test is passed.
abbrev pub provided : {A : Type 0} → Bool → ClassFaultKind → Read A → Read A
provided test kind next = if test then next else Err kind

-- Each element, read in order.
abbrev pub each : {A B : Type 0} → (A → Read B) → List A → Read (List B)
each f [] = Ok []
each f (x ∷ xs) = f x >>= λ y. each f xs >>= λ ys. Ok (y ∷ ys)

-- These elements, before those that are read.
abbrev pub in_front : {A : Type 0} → List A → Read (List A) → Read (List A)
in_front done rest = rest >>= λ xs. Ok (done ++ xs)

-- What is read, with a fault reported for the class with this number.
abbrev pub numbered : {A : Type 0} → ℕ → Read A → Result A ClassFault
numbered number (Ok value) = Ok value
numbered number (Err kind) = Err (record { kind = kind; class = number })
