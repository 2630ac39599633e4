use Rattle.std.proofs.Common.{◌≡◌, ◌∙◌, IfOk, List, [], ap, map, subst, sym, ℕ}
use Rattle.std.specs.Option.{option_map_or}
use Rattle.property_store.specs.declared.dynamic.Named.{Named}
use Rattle.property_store.specs.Store.{Properties}
use Rattle.property_store.proofs.ReadLemmas.{no_row_read, row_read}
use Rattle.property_store.proofs.stores.Stores.dynamic_names.Goals as goal

pub returns-in-Some : goal.returns-in-Some
returns-in-Some c =
    let one = row_read c.self.invariant c.self.view_is c.requires c.args.object c.in-Some.ensures in
    let P : List (List ℕ) → Type 0 = λ names. IfOk c.names.result (λ result. result ≡ names) in
    subst P (ap (map (λ (named : Named). named.name)) c.as_slice.ensures.value
    ∙ ap (λ o. option_map_or (λ (of : Properties). map (λ (named : Named). named.name) of.dynamic) o []) (sym one)) c.names.ensures

pub returns-in-None : goal.returns-in-None
returns-in-None c =
    c.new.ensures
    ∙ ap (λ o. option_map_or (λ (of : Properties). map (λ (named : Named). named.name) of.dynamic) o [])
    (sym (no_row_read c.self.invariant c.self.view_is c.requires c.args.object c.in-None.ensures))
