-- What contracts see of an engine: everything but its functor table, whose effect the other parts define.
use Rattle.session_engine.specs.declared.engine.Engine.{Engine}
use Rattle.session_engine.specs.Core.{EngineState}

abbrev pub seen_engine : {x : _} {f : _} {g : _} → Engine x f g → EngineState
seen_engine engine = engine.core
