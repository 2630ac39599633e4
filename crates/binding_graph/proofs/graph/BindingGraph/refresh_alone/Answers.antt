use Rattle.std.proofs.Common.{ap}
use Rattle.binding_graph.proofs.AloneLemmas.{complete_alone, fits_alone, last_alone, told_so_alone}
use Rattle.binding_graph.proofs.StepLemmas.{complete_in_step}
use Rattle.binding_graph.proofs.graph.BindingGraph.refresh_alone.Goals as goal

pub put-requires : goal.put-requires
put-requires c = fits_alone c.requires.taken (c.is_only.ensures c.if-not-is_only.false) (rw (← c.self.view_is) at c.requires.step)
    (c.is_apart.ensures c.if-not-is_apart.false) c.law_sound.ensures.store c.law_sound.ensures.bindings c.in-Some.ensures c.in-Ok.ensures
    c.shown_as-shown.ensures

pub returns : goal.returns
returns c =
    let only = c.is_only.ensures c.if-not-is_only.false in
    let step = rw (← c.self.view_is) at c.requires.step in
    let apart = c.is_apart.ensures c.if-not-is_apart.false in
    let all = last_alone c.requires.taken only step apart c.law_sound.ensures.store c.law_sound.ensures.bindings c.in-Some.ensures c.in-Ok.ensures
    c.shown_as-shown.ensures c.put.new.self c.in-Ok-put.ensures.sound c.in-Ok-put.ensures.put in
    record {
      told = rw (← c.self.view_is) (told_so_alone c.requires.taken only step apart c.law_sound.ensures.store c.law_sound.ensures.bindings
          c.in-Some.ensures c.in-Ok.ensures c.shown_as-shown.ensures _ c.in-Ok-put.ensures.told);
      ok = rw (← c.self.view_is) (ap (λ last. record { bindings = c.self.inside.bindings; last = last; depth = c.self.inside.depth }) all);
      none = tt;
      step = complete_in_step (complete_alone c.requires.taken only step apart) all;
    }
