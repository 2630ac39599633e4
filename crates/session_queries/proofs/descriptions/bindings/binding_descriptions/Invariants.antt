use Rattle.session_model.specs.BindingDescriptions.{follows, listed_after, binding_description}
use Rattle.session_queries.specs.Views.{its_settings, its_state}
use Rattle.session_queries.proofs.BindingsLemmas.{ListedTo}
use Rattle.session_queries.proofs.descriptions.bindings.binding_descriptions.Given as goal

-- those so far, and then those to come
abbrev pub invariant-rows : goal.invariant-rows
invariant-rows l = ListedTo (binding_description (its_settings l.session) (its_state l.session))
    (λ binding. follows (listed_after (its_state l.session) l.after) binding.at) (its_state l.session).graph.bindings 1000 l.row-index l.listed
