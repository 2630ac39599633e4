use Rattle.std.proofs.Common.{Result, Ok, Err, OnOk, All, subst}
use Rattle.property_store.specs.Table.{store_at}
use Rattle.binding_values.specs.EvalResult.{kept_of}
use Rattle.binding_values.specs.Run.{IsSettled}
use Rattle.binding_values.specs.Stored.{scene_of}
use Rattle.binding_values.proofs.SettlingLemmas.{is_complete, is_same, rest_right, right_more, whole_more}
use Rattle.binding_values.proofs.settling.resettle.Goals as goal

pub refresh-requires : goal.refresh-requires
refresh-requires c =
    let scene = scene_of (store_at c.args.stores.now.shelves c.args.place) c.args.bindings.now in
    let rest = rest_right scene (kept_of c.args.kept.now) c.reach.new.touched.items c.reach.new.self c.in_ok-reach.ensures.reached
    (right_more scene c.args.touched.now.items c.reach.new.touched.items (kept_of c.args.kept.now) c.in_ok-reach.ensures.longer c.requires.right)
    (whole_more scene c.args.touched.now.items c.reach.new.touched.items (kept_of c.args.kept.now) c.in_ok-reach.ensures.longer c.requires.whole) in
    record { ready = c.requires.ready; right = rest.0; closed = rest.1 }

-- where it ended well
all_four : {T E P Q R S X : Type 0} (r : Result T E) → (P → Q → R → S → X) → OnOk r P → OnOk r Q → OnOk r R → OnOk r S → OnOk r X
all_four (Ok v) f p q r s = f p q r s
all_four (Err e) f p q r s = tt

both : {T E P Q X : Type 0} (r : Result T E) → (P → Q → X) → OnOk r P → OnOk r Q → OnOk r X
both (Ok v) f p q = f p q
both (Err e) f p q = tt

pub returns-clause-complete : goal.returns-clause-complete
returns-clause-complete c =
    let scene = scene_of (store_at c.args.stores.now.shelves c.args.place) c.args.bindings.now in
    let whole = whole_more scene c.args.touched.now.items c.reach.new.touched.items (kept_of c.args.kept.now) c.in_ok-reach.ensures.longer c.requires.whole in
    all_four c.refresh.result
    (λ right within closed settled. is_complete scene (kept_of c.args.kept.now) c.reach.new.touched.items c.reach.new.self c.in_ok-reach.ensures.reached whole
    (kept_of c.refresh.new.kept) right within closed (subst (All (IsSettled scene (kept_of c.refresh.new.kept))) c.as_slice.ensures.value settled))
    c.refresh.ensures.right c.refresh.ensures.within c.refresh.ensures.closed c.refresh.ensures.settled

pub returns-clause-same : goal.returns-clause-same
returns-clause-same c =
    let scene = scene_of (store_at c.args.stores.now.shelves c.args.place) c.args.bindings.now in
    let whole = whole_more scene c.args.touched.now.items c.reach.new.touched.items (kept_of c.args.kept.now) c.in_ok-reach.ensures.longer c.requires.whole in
    both c.refresh.result
    (λ right within. is_same scene (kept_of c.args.kept.now) c.reach.new.touched.items c.reach.new.self c.in_ok-reach.ensures.reached whole
    (kept_of c.refresh.new.kept) right within)
    c.refresh.ensures.right c.refresh.ensures.within
