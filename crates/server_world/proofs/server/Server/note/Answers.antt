use Rattle.std.proofs.lemmas.Result.{on_ok_weaker}
use Rattle.session_model.specs.Asked.{tag}
use Rattle.server_world.specs.Server.{seen_as}
use Rattle.server_world.proofs.NotingLemmas.{noted_at}
use Rattle.server_world.proofs.server.Server.note.Goals as goal

pub returns-clause-ok : goal.returns-clause-ok
returns-clause-ok g c =
    let right = noted_at (seen_as c.args.self.now) (tag c.args.given.now) c.place_for-place.result c.in_ok-joiners.joiners.items c.place_for-place.ensures.there
    c.place_for-place.ensures.is c.in_ok-joiners.ensures in
    on_ok_weaker c.add.result (λ is. (_, right, is)) c.add.ensures.ok
