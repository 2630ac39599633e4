-- The bindings of properties that are there.
use Rattle.std.proofs.Common.{◌≡◌, ◌∙◌, Bool, true, false, cond, List, [], ◌∷◌, Option, Some, None, filter, find, is_some, option_map, refl, sym, ap}
use Rattle.term_core.specs.Term.{Term}
use Rattle.property_store.specs.Store.{Store}
use Rattle.binding_values.specs.declared.binding.Binding.{Binding}
use Rattle.property_store.specs.declared.property.Property.{Property}
use Rattle.binding_values.specs.Scene.{term_at}
use Rattle.property_store.specs.Property.{is_property}
use Rattle.binding_values.specs.Stored.{cell_in, is_there}
use Rattle.binding_values.proofs.FuelLemmas.{property_eq}

module _ (store : Store) (q : Property) where
  -- a property that is there is bound as before, and one that is not there is not bound
  pub term_there : (bs : List Binding) → term_at (filter (is_there store) bs) q ≡ cond (is_some (cell_in store q)) (term_at bs q) None
  term_there [] = by (is_some (cell_in store q))
    where
      by : (t : Bool) → term_at [] q ≡ cond t (term_at [] q) None
      by true = refl
      by false = refl
  term_there (b ∷ bs) = by (is_property q b.at) refl (is_there store b) refl (is_some (cell_in store q)) refl (term_there bs)
    where
      expr_of : Option Binding → Option Term
      expr_of found = option_map (λ (binding : Binding). binding.expr) found

      wanted : Binding → Bool
      wanted binding = is_property q binding.at

      by : (is : Bool) → is_property q b.at ≡ is → (there : Bool) → is_there store b ≡ there → (here : Bool) → is_some (cell_in store q) ≡ here
          → term_at (filter (is_there store) bs) q ≡ cond here (term_at bs q) None
          → term_at (cond there (b ∷ filter (is_there store) bs) (filter (is_there store) bs)) q ≡ cond here (expr_of (cond is (Some b) (find wanted bs))) None
      by true e true f true g rest = ap (λ t. expr_of (cond t (Some b) (find wanted (filter (is_there store) bs)))) e
      by true e true f false g rest = absurd (let same : true ≡ false = sym f ∙ (ap (λ p. is_some (cell_in store p)) (sym (property_eq q b.at e)) ∙ g) in cc)
      by true e false f true g rest = absurd (let same : false ≡ true = sym f ∙ (ap (λ p. is_some (cell_in store p)) (sym (property_eq q b.at e)) ∙ g) in cc)
      by true e false f false g rest = rest
      by false e true f here g rest = ap (λ t. expr_of (cond t (Some b) (find wanted (filter (is_there store) bs)))) e ∙ rest
      by false e false f here g rest = rest
