use Rattle.std.proofs.Common.{◌∙◌, ap, subst, sym}
use Rattle.binding_graph.specs.Cache.{cache_at}
use Rattle.binding_graph.specs.Inside.{split}
use Rattle.binding_graph.specs.Step.{InStep}
use Rattle.binding_graph.proofs.PlaceLemmas.{nothing_behind, opened_in_step, opened_kept}
use Rattle.binding_graph.proofs.bindings.Bindings.open.Goals as goal

pub returns-clause-nothing : goal.returns-clause-nothing
returns-clause-nothing c =
    ap (λ table. cache_at (split table).caches c.open.result) c.open.ensures.opened
    ∙ (opened_kept c.self.inside.graphs c.open.result ∙ nothing_behind c.self.inside.graphs c.open.result c.open.ensures.place)

pub returns-clause-others : goal.returns-clause-others
returns-clause-others c =
    rw (← c.self.view_is) (λ other apart. ap (λ table. cache_at (split table).caches other) c.open.ensures.opened
    ∙ opened_kept c.self.inside.graphs other)

pub returns-clause-step : goal.returns-clause-step
returns-clause-step c = rw (← c.self.view_is)
    (λ stores step. subst (λ table. InStep stores (split table)) (sym c.open.ensures.opened) (opened_in_step stores c.self.inside.graphs step))
