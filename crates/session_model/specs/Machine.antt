-- The machine of the sessions, for the theory of isolated sessions.
use Rattle.std.specs.Prelude.{ℕ, List, bytes_eq}
use Rattle.isolation.specs.Machine.{Machine, IsLawful}
use Rattle.session_model.specs.State.{State}
use Rattle.session_model.specs.declared.line.Line.{Line}
use Rattle.session_model.specs.declared.post.Post.{Post}
use Rattle.session_model.specs.Asked.{Asked}
use Rattle.session_model.specs.Thread.{Settings, does, arrives, joins_name, accepts_join}

-- The machine of a server with these settings.
abbrev pub machine : Settings → Machine (List ℕ) State Asked Line Post
machine settings = record { same = bytes_eq; does = does settings; arrives = arrives settings.classes; names = joins_name; accepts = accepts_join settings }

abbrev pub IsMetadLawful : Type 0
IsMetadLawful = (settings : Settings) → IsLawful (machine settings)
