use Rattle.std.proofs.Common.{◌≡◌, ◌<◌, length, take, ap, refl, subst, ◌∙◌, arith}
use Rattle.publish_board.specs.Table.{desk_at}
use Rattle.session_model.specs.Arriving.{posts_by}
use Rattle.session_model.specs.State.{State}
use Rattle.session_tables.specs.Reaching.{Reaches, posts_at}
use Rattle.session_tables.specs.Tables.{session_at}
use Rattle.session_tables.proofs.PostLemmas.{posts_next, reaches_all, reaches_first, reaches_strangers}
use Rattle.session_tables.proofs.ReachingLemmas.{after_posts_stranger, reaches_twice}
use Rattle.session_tables.proofs.tables.Tables.deliver.Goals as goal

pub publications-preserved : goal.publications-preserved
publications-preserved c =
    let classes = c.args.sending.now.classes.now in
    let from = c.args.sending.now.from.now in
    let place = c.args.sending.now.place in
    let old = c.args.self.now in
    let kinds = c.args.sending.now.kinds.now in
    let args = c.args.sending.now.args.now in
    let object = c.args.sending.now.object in
    let signal = c.args.sending.now.signal in
    let index = c.publications.index in
    let rows = (desk_at old.desks place).publications in
    let count : length c.publications-count.result.now ≡ length rows = ap length c.publications-count.ensures in
    let test = c.publications-test.true in
    let within : index < length rows = omega (arith, count, test) in
    record {
      reaches = subst (λ posts. Reaches classes from place posts old c.post_by-failing.new.self c.args.failing c.post_by-failing.result)
          (posts_next object signal kinds args rows index within)
          (reaches_twice classes from place (posts_by object signal kinds args (take index rows))
          (posts_at (desk_at old.desks place) index object signal kinds args) old c.publications.self c.post_by-failing.new.self c.args.failing
          c.publications.failing c.post_by-failing.result c.requires
          c.publications.invariant.reaches
          (subst (λ desk. Reaches classes from place (posts_at desk index object signal kinds args) c.publications.self c.post_by-failing.new.self
          c.publications.failing c.post_by-failing.result)
          (ap (λ (state : State). state.desk) c.publications.invariant.own) c.post_by-failing.ensures.reaches));
      own = c.post_by-failing.ensures.own ∙ c.publications.invariant.own;
    }

pub returns-in_default-clause-reaches : goal.returns-in_default-clause-reaches
returns-in_default-clause-reaches c =
    let classes = c.args.sending.now.classes.now in
    let from = c.args.sending.now.from.now in
    let place = c.args.sending.now.place in
    let old = c.args.self.now in
    let end = length old.failed.places in
    let posts = posts_by c.args.sending.now.object c.args.sending.now.signal c.args.sending.now.kinds.now c.args.sending.now.args.now
    (desk_at old.desks place).publications in
    reaches_all classes from place posts end old old c.args.failing c.args.failing (omega arith)
    (reaches_strangers classes from place posts 0 end old old c.args.failing c.args.failing (omega arith) (λ at up. refl)
    (λ at up under placed. after_posts_stranger classes from posts (session_at old at) (c.in_default.ensures at up placed.5))
    (reaches_first classes from place posts old c.args.failing))
