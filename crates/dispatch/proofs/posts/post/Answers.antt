use Rattle.std.proofs.Common.{sym, subst, refl, ◌∙◌}
use Rattle.session_model.specs.Arriving.{posts_by}
use Rattle.session_tables.specs.Reaching.{Reaches}
use Rattle.session_tables.specs.Tables.{state_at}
use Rattle.session_tables.proofs.ForCallers.{reaches_changed, changes_same}
use Rattle.dispatch.proofs.AgendaLemmas.{posts_none}
use Rattle.dispatch.proofs.posts.post.Goals as goal

pub returns-then-not-is_published-clause-reaches : goal.returns-then-not-is_published-clause-reaches
returns-then-not-is_published-clause-reaches c =
    let classes = c.args.caller.now.setup.now.classes in
    let from = c.args.caller.now.name.now in
    let place = c.args.caller.now.place in
    let old = c.args.tables.now in
    subst (λ posts. Reaches classes from place posts old old c.args.failing c.args.failing)
    (sym (posts_none classes (state_at old place) c.args.object c.args.signal c.args.args.now (sym c.is_published.ensures ∙ c.if-not-is_published.true)))
    (reaches_changed classes from place old old c.args.failing (changes_same old old place refl) refl)

pub returns-clause-reaches : goal.returns-clause-reaches
returns-clause-reaches c =
    let classes = c.args.caller.now.setup.now.classes in
    let from = c.args.caller.now.name.now in
    let place = c.args.caller.now.place in
    let old = c.args.tables.now in
    subst (λ kinds. Reaches classes from place (posts_by c.args.object c.args.signal kinds c.args.args.now (state_at old place).desk.publications) old
    c.deliver.new.self c.args.failing c.deliver.result) c.kinds_at.ensures c.deliver.ensures.reaches
