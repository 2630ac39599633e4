use Rattle.std.proofs.Common.{refl, sym}
use Rattle.server_world.specs.Server.{seen_as}
use Rattle.server_world.proofs.ServerLemmas.{anew_absent}
use Rattle.server_world.proofs.server.Server.reset.Goals as goal

pub returns-in_default : goal.returns-in_default
returns-in_default g c = record {
  anew = anew_absent (seen_as c.args.self.now) c.args.session.now (sym c.in_default.ensures) c.law_sound.ensures.sound;
  names = refl;
}
