use Rattle.binding_graph.proofs.LastShownLemmas.{all_put}
use Rattle.binding_graph.proofs.last_shown.LastShown.from_showing.Goals as goal

pub returns : goal.returns
returns c = all_put c.args.showing c.new-last.result c.replace.new.self c.rows.ensures.sound c.in_ok-replace.ensures.sound c.new-last.ensures
    c.in_ok-replace.ensures.replaced
