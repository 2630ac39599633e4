use Rattle.std.proofs.Common.{◌≡◌, Some, length, min, refl}
use Rattle.metad_c.proofs.HandleLemmas.{fetches_none, fetches_some}
use Rattle.metad_c.proofs.metad_inner_output.Goals as goal

pub returns-in_default : goal.returns-in_default
returns-in_default c =
    fetches_none c.args.handle.now.loose.value c.take.new.self.loose.value c.args.into.now c.in_default.ensures.found c.take.ensures.left

pub returns : goal.returns
returns c =
    let found : c.args.handle.now.loose.value ≡ Some c.in-Some.kept.value = c.in-Some.ensures.found in
    let was : c.args.handle.now.loose.value ≡ Some c.deref_mut.result.now = cc in
    let count = c.fetch-count in
    let said = c.deref_mut.result.now.output.said in
    let counted : count.result ≡ min (length said.items) (length c.args.into.now) = cc (count.ensures.count, said.ok.0) in
    fetches_some c.args.handle.now.loose.value _ c.deref_mut.result.now _ c.args.into.now count.new.into count.result was c.of.ensures
    (record { counted = counted; fetched = count.ensures.fetched; rest = count.ensures.rest; server = refl })
