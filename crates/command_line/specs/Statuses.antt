-- The exit status if the command line gives no options.
use Rattle.std.specs.Prelude.{ℕ}
use Rattle.clap.specs.declared.error.kind.ErrorKind.{ErrorKind}
use Rattle.clap.specs.declared.error.kind.ErrorKind.TheVariants.{DisplayHelp, DisplayVersion, OutOfMemory}

-- The exit status: 0 after help, 5 if memory ran out, 2 after a mistake.
abbrev pub status_for : ErrorKind → ℕ
status_for DisplayHelp = 0
status_for DisplayVersion = 0
status_for OutOfMemory = 5
status_for _ = 2
