use Rattle.std.proofs.Common.{◌≡◌, ◌≤◌, ◌<◌, ◌+◌, ◌-◌, ℕ, false, eqb, length, ap, sym, subst, ◌∙◌, IsFalse, arith}
use Rattle.std.proofs.lemmas.Bool.Decides.{nat_tests}
use Rattle.shared_rows.specs.Table.{IsPlace}
use Rattle.publish_board.specs.Desk.{listens_to}
use Rattle.publish_board.specs.Table.{IsFirstWith, desk_at}
use Rattle.session_model.specs.State.{State}
use Rattle.session_tables.specs.Reaching.{Reaches, ReachesBy, only_at, post_at}
use Rattle.session_tables.specs.Tables.{session_at}
use Rattle.session_tables.proofs.PostLemmas.{heard_row, post_unheard, posts_sent, reaches_all, reaches_next, reaches_strangers}
use Rattle.session_tables.proofs.ReachingLemmas.{placed_shaped, session_unchanged}
use Rattle.session_tables.proofs.tables.Tables.post_by.Goals as goal

pub joiners-smaller : goal.joiners-smaller
joiners-smaller c =
    let its = c.index-publications-index-in-joiners.result in
    let first : IsFirstWith (listens_to c.args.sending.now.from.now its.name) c.joiners.self.desks c.joiners.least c.in-Some.at = c.in-Some.ensures.next in
    let there = first.is_place in
    let up = first.from_least in
    let desks = (c.joiners.invariant.reaches.shape.even c.requires.placed.7).desks in
    let places = c.reach-failing.ensures.reaches.shape.places in
    let less : length c.reach-failing.new.self.failed.places - (c.in-Some.at + 1) < length c.joiners.self.failed.places - c.joiners.least =
    omega (arith, there, up, desks, places) in
    less

pub reach-failing-requires-clause-found : goal.reach-failing-requires-clause-found
reach-failing-requires-clause-found c =
    let place = c.args.sending.now.place in
    let now = c.joiners.self in
    c.in-Some.ensures.found
    ∙ sym (heard_row c.publications-in-joiners.result.now (desk_at now.desks place).publications c.args.index c.args.sending.now.from.now
    (desk_at now.desks c.in-Some.at).joins c.index-publications-index-in-joiners.result c.publications-in-joiners.ensures
    (subst (λ (state : State). c.args.index < length state.desk.publications) (sym c.joiners.invariant.own) c.requires.within)
    c.index-publications-index-in-joiners.is)

pub joiners-preserved : goal.joiners-preserved
joiners-preserved c =
    let classes = c.args.sending.now.classes.now in
    let from = c.args.sending.now.from.now in
    let place = c.args.sending.now.place in
    let old = c.args.self.now in
    let now = c.joiners.self in
    let new = c.reach-failing.new.self in
    let least = c.joiners.least in
    let at = c.in-Some.at in
    let kinds = c.args.sending.now.kinds.now in
    let args = c.args.sending.now.args.now in
    let posts = post_at (desk_at old.desks place) c.args.index kinds args in
    let its = c.index-publications-index-in-joiners.result in
    let alike = ap (λ (state : State). state.desk.publications) c.joiners.invariant.own in
    let first : IsFirstWith (listens_to from its.name) now.desks least at = c.in-Some.ensures.next in
    let there = first.is_place in
    let up = first.from_least in
    let desks = (c.joiners.invariant.reaches.shape.even c.requires.placed.7).desks in
    let places = c.reach-failing.ensures.reaches.shape.places in
    record {
      reaches = reaches_next classes from place posts at old now new c.args.failing c.joiners.failing c.reach-failing.result c.requires.placed
          (reaches_strangers classes from place posts least at old now c.args.failing c.joiners.failing up c.joiners.invariant.rest
          (λ other from_least under placed. post_unheard classes from c.publications-in-joiners.result.now (desk_at old.desks place).publications c.args.index
          kinds args its (session_at now other) (c.publications-in-joiners.ensures ∙ alike) c.requires.within c.index-publications-index-in-joiners.is
          (first.before other from_least under))
          c.joiners.invariant.reaches)
          (subst (λ desk. ReachesBy classes from place (only_at at (post_at desk c.args.index kinds args)) now new c.joiners.failing c.reach-failing.result)
          (ap (λ (state : State). state.desk) c.joiners.invariant.own) c.reach-failing.ensures.reaches);
      rest = λ other above.
          let apart : eqb other at ≡ false = grind (arith, nat_tests, above) in
          session_unchanged now new at other c.reach-failing.ensures.only apart ∙ c.joiners.invariant.rest other (omega (arith, above, up));
      own = c.reach-failing.ensures.own ∙ c.joiners.invariant.own;
      within = omega (arith, there, desks, places);
    }

pub returns-in_default-clause-reaches : goal.returns-in_default-clause-reaches
returns-in_default-clause-reaches c =
    let classes = c.args.sending.now.classes.now in
    let from = c.args.sending.now.from.now in
    let place = c.args.sending.now.place in
    let old = c.args.self.now in
    let now = c.joiners.self in
    let row = c.index-publications-index.result in
    let kinds = c.args.sending.now.kinds.now in
    let args = c.args.sending.now.args.now in
    let posts = post_at (desk_at old.desks place) c.args.index kinds args in
    let end = length old.failed.places in
    let shape = c.joiners.invariant.reaches.shape in
    let within = c.joiners.invariant.within in
    let places = shape.places in
    let its = c.index-publications-index-in-joiners.result in
    let alike = ap (λ (state : State). state.desk.publications) c.joiners.invariant.own in
    let none : (other : ℕ) → c.joiners.least ≤ other → IsPlace now.desks other
    → IsFalse (listens_to from its.name (desk_at now.desks other)) = c.in_default.ensures.next in
    subst (λ posts. Reaches classes from place posts old now c.args.failing c.joiners.failing)
    (posts_sent c.publications.result.now (desk_at old.desks place).publications c.args.index c.args.sending.now.object c.args.sending.now.signal kinds
    args row c.publications.ensures c.requires.within c.index-publications-index.is (sym c.publishes.ensures ∙ c.if-not-publishes.false))
    (reaches_all classes from place posts end old now c.args.failing c.joiners.failing (omega arith)
    (reaches_strangers classes from place posts c.joiners.least end old now c.args.failing c.joiners.failing
    (omega (arith, within, places)) c.joiners.invariant.rest
    (λ other up under placed. post_unheard classes from c.publications-in-joiners.result.now (desk_at old.desks place).publications c.args.index kinds args its
    (session_at now other) (c.publications-in-joiners.ensures ∙ alike) c.requires.within c.index-publications-index-in-joiners.is
    (none other up (placed_shaped old now other shape placed).5))
    c.joiners.invariant.reaches))

pub returns-after-joiners-clause-reaches : goal.returns-after-joiners-clause-reaches
returns-after-joiners-clause-reaches c =
    let classes = c.args.sending.now.classes.now in
    let from = c.args.sending.now.from.now in
    let place = c.args.sending.now.place in
    let old = c.args.self.now in
    let now = c.joiners.self in
    let row = c.index-publications-index.result in
    let kinds = c.args.sending.now.kinds.now in
    let args = c.args.sending.now.args.now in
    let posts = post_at (desk_at old.desks place) c.args.index kinds args in
    let past = c.joiners-test.false in
    let count = c.len-count.ensures in
    subst (λ posts. Reaches classes from place posts old now c.args.failing c.joiners.failing)
    (posts_sent c.publications.result.now (desk_at old.desks place).publications c.args.index c.args.sending.now.object c.args.sending.now.signal kinds
    args row c.publications.ensures c.requires.within c.index-publications-index.is (sym c.publishes.ensures ∙ c.if-not-publishes.false))
    (reaches_all classes from place posts c.joiners.least old now c.args.failing c.joiners.failing (omega (arith, past, count)) c.joiners.invariant.reaches)
