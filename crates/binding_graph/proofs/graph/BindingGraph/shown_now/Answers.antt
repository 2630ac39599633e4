use Rattle.std.proofs.Common.{◌∙◌, sym}
use Rattle.std.proofs.lemmas.Bool.{not-true}
use Rattle.property_store.specs.Marks.{has_marks}
use Rattle.binding_graph.proofs.StepLemmas.{clean_is_complete}
use Rattle.binding_graph.proofs.graph.BindingGraph.shown_now.Goals as goal

pub show_kept-requires-clause-complete : goal.show_kept-requires-clause-complete
show_kept-requires-clause-complete c =
    clean_is_complete (rw (← c.self.view_is) at c.requires.step) (sym c.has_written.ensures ∙ c.if-not-has_written.true)
    (not-true (has_marks c.self.inside.pending) (sym c.is_empty.ensures ∙ c.if-is_empty.true))
