-- How what is kept is settled.
use Rattle.std.proofs.Common.{◌≡◌, ◌∙◌, ◌⊎◌, ◌||◌, Bool, true, false, cond, List, [], ◌∷◌, Option, Some, None, All, filter, map, refl, sym, ap, subst, inl, inr}
use Rattle.std.proofs.Common.{⊎_elim, ◌++◌}
use Rattle.std.proofs.lemmas.Bool.{both_ways, cases_Bool, false_from_ne_true}
use Rattle.std.proofs.lemmas.List.Elements.{All-cons, All-contains, All-nil}
use Rattle.property_store.specs.declared.property.Property.{Property}
use Rattle.property_store.specs.Property.{among, is_property}
use Rattle.property_store.specs.Store.{Store}
use Rattle.property_store.specs.Pending.{only}
use Rattle.binding_values.specs.declared.binding.Binding.{Binding}
use Rattle.binding_values.specs.declared.eval_result.CacheEntry.{CacheEntry}
use Rattle.binding_values.specs.declared.eval_result.EvalResult.{EvalResult}
use Rattle.binding_values.specs.EvalResult.{IsClosed, IsKept, IsRight, IsUnbound, IsWithin, Keeping, kept_of}
use Rattle.binding_values.specs.Reached.{AreKeptToo, IsLonger, IsReached}
use Rattle.binding_values.specs.Run.{IsSettled}
use Rattle.binding_values.specs.Scene.{Scene, term_at}
use Rattle.binding_values.specs.Stored.{is_there, scene_of}
use Rattle.binding_values.proofs.ReachedLemmas.{among_contains, longer_among}
use Rattle.binding_values.specs.Right.{IsApart, IsComplete, IsRightBut, IsSpread, IsWhole, unmarked}
use Rattle.binding_values.proofs.CompletenessLemmas.{rest_is_right}
use Rattle.binding_values.proofs.FuelLemmas.{is_itself}

-- what is reached

pub right_more : (scene : Scene) (old new : List Property) (keeping : Keeping) → IsLonger old new → IsRightBut scene (only old) keeping
    → IsRightBut scene (only new) keeping
right_more scene old new keeping longer right part within closed clear =
    right part within closed (λ q kept is. let c = clear q kept is in record { own = was_clear _ c.own; reads = λ k d lt. was_clear _ (c.reads k d lt) })
  where
    was_clear : (q : Property) → among q new ≡ false → among q old ≡ false
    was_clear q off = false_from_ne_true (among q old) (λ on. both_ways (among q new) off (longer_among old new longer q on))

pub whole_more : (scene : Scene) (old new : List Property) (keeping : Keeping) → IsLonger old new → IsWhole scene (only old) keeping
    → IsWhole scene (only new) keeping
whole_more scene old new keeping longer whole q off = whole q
    (false_from_ne_true (among q old) (λ on. both_ways (among q new) off (longer_among old new longer q on)))

module _ (scene : Scene) (before : Keeping) (touched : List Property) (rows : List CacheEntry) (reached : IsReached before touched rows) where
  stays : (q : Property) (kept : EvalResult) → among q touched ≡ false → before q ≡ Some kept → kept_of rows q ≡ Some kept
  stays q kept off is = reached.gone q ∙ (ap (λ b. cond b None (before q)) off ∙ is)

  reached_spread : IsWhole scene (only touched) before → IsSpread scene (only touched) before
  reached_spread whole = record { read = λ q kept is off. reached.unread q kept (stays q kept off is); bound = whole }

  pub rest_right : IsRightBut scene (only touched) before → IsWhole scene (only touched) before → IsRight scene (kept_of rows) × IsClosed scene (kept_of rows)
  rest_right right whole =
      let same : unmarked (only touched) before ≡ kept_of rows = λ i q. sym (reached.gone q) i in
      subst (λ (keeping : Keeping). IsRight scene keeping × IsClosed scene keeping) same
      (rest_is_right scene (only touched) before right (reached_spread whole))

  module _ (whole : IsWhole scene (only touched) before) (after : Keeping) (right : IsRight scene after) (within : IsWithin (kept_of rows) after) where
    pub is_complete : IsClosed scene after → All (IsSettled scene after) touched → IsComplete scene after
    is_complete closed settled = record { right = right; closed = closed; whole = all }
      where
        still : (q : Property) → among q touched ≡ false → IsKept before q ⊎ IsUnbound scene q → IsKept after q ⊎ IsUnbound scene q
        still q off (inl kept) = inl (kept.0, within q kept.0 (stays q kept.0 off kept.1))
        still q off (inr unbound) = inr unbound

        all : (q : Property) → IsKept after q ⊎ IsUnbound scene q
        all q = ⊎_elim
            (λ (on : among q touched ≡ true). All-contains (IsSettled scene after) touched q settled (among_contains q touched on))
            (λ (off : among q touched ≡ false). still q off (whole q off))
            (cases_Bool (among q touched))

    pub is_same : (q : Property) → among q touched ≡ false → after q ≡ before q
    is_same q off = by (whole q off)
      where
        never : IsUnbound scene q → (o : Option EvalResult) → after q ≡ o → o ≡ None
        never unbound None is = refl
        never unbound (Some kept) is = absurd (let bound = (right q kept is).bound in cc)

        none : IsUnbound scene q → (o : Option EvalResult) → before q ≡ o → after q ≡ o
        none unbound None is = never unbound (after q) refl
        none unbound (Some kept) is = within q kept (stays q kept off is)

        by : IsKept before q ⊎ IsUnbound scene q → after q ≡ before q
        by (inl kept) = within q kept.0 (stays q kept.0 off kept.1) ∙ sym kept.1
        by (inr unbound) = none unbound (before q) refl

-- Where nothing is kept of a property that is not bound, and nothing that is kept has read it.
pub apart_so : (scene : Scene) (at : Property) (rows : List CacheEntry) → IsUnbound scene at → IsReached (kept_of rows) (at ∷ []) rows
    → IsApart scene (kept_of rows) at
apart_so scene at rows unbound reached = record {
  absent = reached.gone at ∙ ap (λ t. cond (t || false) None (kept_of rows at)) (is_itself at);
  complete = λ right whole.
      let rest = rest_right scene (kept_of rows) (at ∷ []) rows reached right whole in
      is_complete scene (kept_of rows) (at ∷ []) rows reached whole (kept_of rows) rest.0 (λ q kept is. is) rest.1
      (All-cons (IsSettled scene (kept_of rows)) at [] (inr unbound) (All-nil (IsSettled scene (kept_of rows))));
}

-- where nothing is kept

pub bound_or_not : (store : Store) (bindings : List Binding) → IsWhole (scene_of store bindings) (only (map (λ binding. binding.at) bindings)) (kept_of [])
bound_or_not store bindings q off = inr (by bindings off)
  where
    by : (bs : List Binding) → among q (map (λ (binding : Binding). binding.at) bs) ≡ false → term_at (filter (is_there store) bs) q ≡ None
    by [] off = refl
    by (b ∷ bs) off = one (is_property q b.at) refl (is_there store b) off (by bs)
      where
        one : (t : Bool) → is_property q b.at ≡ t → (u : Bool) → (t || among q (map (λ (binding : Binding). binding.at) bs)) ≡ false
            → (among q (map (λ (binding : Binding). binding.at) bs) ≡ false → term_at (filter (is_there store) bs) q ≡ None)
            → term_at (cond u (b ∷ filter (is_there store) bs) (filter (is_there store) bs)) q ≡ None
        one true same u e rest = absurd (cc)
        one false other true e rest = rw other (rest e)
        one false other false e rest = rest e

-- what was found is kept

pub all_kept : (memory rows after found : List CacheEntry) → memory ≡ rows ++ found → AreKeptToo found rows after → kept_of memory ≡ kept_of after
all_kept memory rows after found parts kept = λ i q. (ap (λ l. kept_of l q) parts ∙ sym (kept q)) i
