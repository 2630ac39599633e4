use Rattle.std.proofs.Common.{◌≡◌, ◌∙◌, ◌+◌, ◌||◌, ◌&&◌, Bool, None, ap, cond, get_or, not, sym, take}
use Rattle.std.specs.Option.{is_some}
use Rattle.std.proofs.lemmas.List.Folds.{list_any_more}
use Rattle.property_store.specs.declared.property.Property.{Property}
use Rattle.property_store.specs.Property.{among, is_property}
use Rattle.property_store.specs.Table.{store_at}
use Rattle.binding_values.specs.Graph.{shown_at, shown_now}
use Rattle.binding_values.proofs.ForCallers.{shown_now_fits}
use Rattle.binding_graph.proofs.GoneLemmas.{absent_too, appended, present_too}
use Rattle.binding_graph.proofs.KnownLemmas.{touched_gone, touched_put}
use Rattle.binding_graph.proofs.show.show_each.Goals as goal
use Rattle.binding_graph.proofs.show.show_each.Goals.{in-Some+in_ok-put, in_default+in_ok-push}

abbrev first : Property
first = record { object = 0; number = 0 }

pub put-requires : goal.put-requires
put-requires c = (shown_now_fits (store_at c.args.stores.now.shelves c.args.place) c.count.ensures.sound c.args.bindings.now c.len.ensures.sound.limited
    (get_or c.args.touched.now c.loop-at.at-index first) c.in-Some.shown (sym c.in_ok-shown.ensures ∙ c.in-Some.is)).0

pub loop-at-preserved : goal.loop-at-preserved
loop-at-preserved c = record {
  shown = λ q. step q ∙ ap (λ t. cond t (shown_now (store_at c.args.stores.now.shelves c.args.place) c.args.bindings.now q) None) (sym (more q));
  absent = λ q. away q
      ∙ ap (λ t. among q c.args.absent.now.items || (t && not (is_some (shown_now (store_at c.args.stores.now.shelves c.args.place) c.args.bindings.now q))))
      (sym (more q));
}
  where
    before : Property → Bool
    before q = among q (take c.loop-at.at-index c.args.touched.now)

    at : Property
    at = get_or c.args.touched.now c.loop-at.at-index first

    more : (q : Property) → among q (take (c.loop-at.at-index + 1) c.args.touched.now) ≡ (before q || is_property q at)
    more q = list_any_more (is_property q) c.args.touched.now c.loop-at.at-index first c.loop-at-test.true

    step : (q : Property) → shown_at c.match-branch-2.now q ≡ cond (before q || is_property q at)
        (shown_now (store_at c.args.stores.now.shelves c.args.place) c.args.bindings.now q) None
    step q = elim c.match-branch-2.branch [
      | in-Some+in_ok-put w ↦ ap (λ now. shown_at now q) w.now-is
          ∙ touched_put (store_at c.args.stores.now.shelves c.args.place) c.args.bindings.now c.loop-at.now before c.loop-at.invariant.shown at w.put.new.self
          w.in-Some.shown (sym c.in_ok-shown.ensures ∙ w.in-Some.is) w.in_ok-put.ensures.put q
      | in_default+in_ok-push w ↦ ap (λ now. shown_at now q) w.now-is ∙ touched_gone
          (store_at c.args.stores.now.shelves c.args.place) c.args.bindings.now c.loop-at.now before c.loop-at.invariant.shown at
          (sym c.in_ok-shown.ensures ∙ w.in_default.is) q
    ]

    away : (q : Property) → among q c.match-branch-2.absent.items ≡ (among q c.args.absent.now.items || ((before q || is_property q at)
        && not (is_some (shown_now (store_at c.args.stores.now.shelves c.args.place) c.args.bindings.now q))))
    away q = elim c.match-branch-2.branch [
      | in-Some+in_ok-put w ↦ rw w.absent-is
          (present_too (store_at c.args.stores.now.shelves c.args.place) c.args.bindings.now before c.args.absent.now.items c.loop-at.absent.items
          c.loop-at.invariant.absent at w.in-Some.shown (sym c.in_ok-shown.ensures ∙ w.in-Some.is) q)
      | in_default+in_ok-push w ↦ rw w.absent-is
          (absent_too (store_at c.args.stores.now.shelves c.args.place) c.args.bindings.now before c.args.absent.now.items c.loop-at.absent.items
          c.loop-at.invariant.absent at w.push.new.self.items
          (λ q. ap (among q) w.in_ok-push.ensures.items ∙ appended c.loop-at.absent.items at q) (sym c.in_ok-shown.ensures ∙ w.in_default.is) q)
    ]
