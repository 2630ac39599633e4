-- Routes that are made with the first connection.
use Rattle.std.proofs.Common.{◌≡◌, ◌∙◌, ℕ, List, [], ◌∷◌, Option, Some, None, IsSome, Box, Global, get_or, refl, sym, ap, subst, arith}
use Rattle.std.specs.List.{All}
use Rattle.shared_rows.specs.Rows.{Keyed, row_under}
use Rattle.connection_list.specs.declared.connection.Connection.{Connection}
use Rattle.connection_list.specs.declared.routes.Routes.{Routes}
use Rattle.connection_list.specs.Routes.{IsRouted, no_routes, routes_in}

-- what contracts see of routes that were made
pub seen_made : {made : Option (Box Routes Global)} {seen at : Routes} {routes : Box Routes Global} → routes_in made ≡ seen → made ≡ Some routes
    → at ≡ routes.value → at ≡ seen
seen_made view_is is value = value ∙ (sym (ap routes_in is) ∙ view_is)

module _ (made : Option (Box Routes Global)) (seen : Routes) (view_is : routes_in made ≡ seen) (none : made ≡ None) (rows : List (Keyed Connection))
    (routed : IsRouted rows seen) where
  seen_none : seen ≡ no_routes
  seen_none = sym view_is ∙ ap routes_in none

  -- where no routes were made there is no row
  pub all_of_none : (P : Keyed Connection → Type 0) → All P rows
  all_of_none P k default within =
      let there = ((subst (IsRouted rows) seen_none routed).sent (get_or rows k default).row.sender).each k default within refl in
      absurd (omega arith)

  pub none_under : (key : ℕ) → IsSome (row_under rows key) → ⊥
  none_under key = by rows (λ k default within. all_of_none (λ _. ⊥) k default within)
    where
      by : (list : List (Keyed Connection)) → All (λ _. ⊥) list → IsSome (row_under list key) → ⊥
      by [] never some = absurd (cc)
      by (first ∷ list) never some = never 0 first (omega arith)
