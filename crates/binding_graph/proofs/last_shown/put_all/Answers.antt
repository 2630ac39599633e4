use Rattle.std.proofs.Common.{◌≡◌, ◌∙◌, ◌<◌, ◌∷◌, List, Some, ap, arith, get_or, rules, subst, suc, sym}
use Rattle.std.specs.Option.{option_map_or}
use Rattle.std.specs.Vec.Iter.{into_iter_items}
use Rattle.binding_values.specs.Graph.{AreShown, shown_at}
use Rattle.binding_values.specs.declared.shown.Shown.{Shown}
use Rattle.binding_graph.specs.declared.shown_object.ShownObject.{ShownObject}
use Rattle.binding_graph.specs.LastShown.{HaveSlots, joined, slots_of}
use Rattle.binding_graph.proofs.LastShownLemmas.{no_slots, slots_there}
use Rattle.binding_graph.proofs.RowLemmas.{merged_next, rest_shown}
use Rattle.binding_graph.proofs.last_shown.put_all.Goals as goal

-- the first of rows that have slots has one
first_slot : (objects : List ShownObject) (row : Shown) (rows rest : List Shown) → HaveSlots objects rows → rows ≡ row ∷ rest
    → row.at.number < slots_of objects row.at.object
first_slot objects row rows rest have is = subst (HaveSlots objects) is have 0 row (omega arith)

pub unreachable-requires : goal.unreachable-requires
unreachable-requires c =
    let left : into_iter_items c.loop-row.row-iterator ≡ c.in-Some.row ∷ into_iter_items c.next.new.self = search rules in
    let none = no_slots c.loop-row.invariant.2.0 (rw c.as_slice.ensures.value at c.in-Err.ensures.gap) in
    omega (
      arith,
      none,
      first_slot c.loop-row.objects.items c.in-Some.row (into_iter_items c.loop-row.row-iterator) (into_iter_items c.next.new.self)
          c.loop-row.invariant.2.2 left,
    )

pub put_at-requires-clause-slot : goal.put_at-requires-clause-slot
put_at-requires-clause-slot c =
    let left : into_iter_items c.loop-row.row-iterator ≡ c.in-Some.row ∷ into_iter_items c.next.new.self = search rules in
    let first = first_slot c.loop-row.objects.items c.in-Some.row (into_iter_items c.loop-row.row-iterator) (into_iter_items c.next.new.self)
    c.loop-row.invariant.2.2 left in
    let place = rw c.as_slice.ensures.value at c.in-Ok.ensures.place in
    record { object = place; number = λ d. omega (arith, first, slots_there c.loop-row.invariant.2.0 place d) }

pub loop-row-preserved : goal.loop-row-preserved
loop-row-preserved c =
    let rest = into_iter_items c.next.new.self in
    let left : into_iter_items c.loop-row.row-iterator ≡ c.in-Some.row ∷ rest = search rules in
    let are : AreShown (c.in-Some.row ∷ rest) = subst AreShown left c.loop-row.invariant.2.1 in
    let have : HaveSlots c.loop-row.objects.items (c.in-Some.row ∷ rest) = subst (HaveSlots c.loop-row.objects.items) left c.loop-row.invariant.2.2 in (
      tt,
      tt,
      (
        c.put_at.ensures.sound,
        rest_shown c.in-Some.row rest are,
        λ k d lt. let was : (get_or rest k d).at.number < slots_of c.loop-row.objects.items (get_or rest k d).at.object = have (suc k) d (omega (arith, lt)) in
            omega (arith, was, c.put_at.ensures.as_many (get_or rest k d).at.object),
        λ q. merged_next c.in-Some.row rest (joined c.loop-row.objects.items) (joined c.put_at.new.objects.items) are c.put_at.ensures.put q
            ∙ (ap (λ left. option_map_or Some (shown_at left q) (shown_at (joined c.loop-row.objects.items) q)) (sym left) ∙ c.loop-row.invariant.2.3 q),
      ),
    )
