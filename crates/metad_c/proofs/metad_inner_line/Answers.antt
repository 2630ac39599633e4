use Rattle.std.proofs.Common.{◌≡◌, Some}
use Rattle.wire_format.specs.Input.{piece_of}
use Rattle.metad_c.proofs.HandleLemmas.{serves_none, serves_some}
use Rattle.metad_c.proofs.metad_inner_line.Goals as goal

pub returns-in_default : goal.returns-in_default
returns-in_default c =
    serves_none c.args.handle.now.loose.value c.take.new.self.loose.value (piece_of c.args.line.now) c.in_default.ensures.found c.take.ensures.left

pub returns : goal.returns
returns c =
    let found : c.args.handle.now.loose.value ≡ Some c.in-Some.kept.value = c.in-Some.ensures.found in
    let was : c.args.handle.now.loose.value ≡ Some c.deref_mut.result.now = cc in
    serves_some c.args.handle.now.loose.value _ c.deref_mut.result.now c.serve-outcome.new.kept (piece_of c.args.line.now) c.serve-outcome.result
    c.status.result was c.of.ensures c.status.ensures c.serve-outcome.ensures
