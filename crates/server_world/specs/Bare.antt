-- Contracts see the same of a server without its functor table as of one with it.
use Rattle.server_world.specs.declared.bare.BareServer.{BareServer}
use Rattle.server_world.specs.Server.{Server}

abbrev pub seen_bare : BareServer → Server
seen_bare server = record { engine = server.core; memory_refused = server.memory_refused }
