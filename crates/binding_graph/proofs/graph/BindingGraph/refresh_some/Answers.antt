use Rattle.std.proofs.Common.{◌∙◌, ap, subst, sym}
use Rattle.property_store.specs.Table.{store_at}
use Rattle.binding_values.specs.Sorted.{IsRising}
use Rattle.binding_values.specs.declared.shown.Shown.{Shown}
use Rattle.binding_graph.proofs.GoneLemmas.{replaced_present}
use Rattle.binding_graph.proofs.SettlingLemmas.{merged_so, told_so, touched_right, touched_whole}
use Rattle.binding_graph.proofs.StepLemmas.{complete_in_step}
use Rattle.binding_graph.proofs.graph.BindingGraph.refresh_some.Goals as goal

pub settle-requires-clause-right : goal.settle-requires-clause-right
settle-requires-clause-right c =
    rw c.take-touched.ensures.taken
    (touched_right c.requires.taken (rw (← c.self.view_is) at c.requires.some) (rw (← c.self.view_is) at c.requires.step))

pub settle-requires-clause-whole : goal.settle-requires-clause-whole
settle-requires-clause-whole c =
    rw c.take-touched.ensures.taken
    (touched_whole c.requires.taken (rw (← c.self.view_is) at c.requires.some) (rw (← c.self.view_is) at c.requires.step))

pub returns : goal.returns
returns c =
    let some = rw (← c.self.view_is) at c.requires.some in
    let step = rw (← c.self.view_is) at c.requires.step in
    let more = rw c.take-touched.ensures.taken at c.in_ok-made.ensures.more in
    let shown = rw c.as_mut_slice.ensures.value at c.in_ok-now.ensures.shown in
    let all = merged_so c.requires.taken some step c.law_sound.ensures.store c.law_sound.ensures.bindings c.settle.new.self c.settle.new.touched.items
    c.in_ok-made.ensures.complete c.in_ok-made.ensures.same more c.in_ok-now.now shown c.replace.new.self c.in_ok-replace.ensures.sound.rising
    (replaced_present (store_at c.args.stores.now.shelves c.args.place) c.self.inside.bindings c.settle.new.touched.items c.show_touched.new.absent.items
    c.in_ok-now.now c.self.inside.last c.replace.new.self (rw (c.as_mut_slice.ensures.value, c.new-absent.ensures.items) at c.in_ok-now.ensures.absent)
    shown (rw c.as_slice.ensures.value at c.in_ok-replace.ensures.replaced)) in
    record {
      told = rw (← c.self.view_is) (λ on. c.in_ok-told.ensures on ∙ sym (told_so c.requires.taken some step c.law_sound.ensures.store
          c.law_sound.ensures.bindings c.settle.new.self c.settle.new.touched.items c.in_ok-made.ensures.complete c.in_ok-made.ensures.same more
          c.in_ok-now.now shown c.args.written (subst (IsRising (λ (shown : Shown). shown.at)) c.now.view_is c.now.invariant.rising)));
      ok = rw (← c.self.view_is) (ap (λ last. record { bindings = c.self.inside.bindings; last = last; depth = c.self.inside.depth }) all);
      err = tt;
      step = complete_in_step c.in_ok-made.ensures.complete all;
    }
