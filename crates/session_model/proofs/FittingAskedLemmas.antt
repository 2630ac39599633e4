-- What a command asks fits.
use Rattle.session_model.proofs.Common.{Settings, State}
use Rattle.session_model.specs.declared.command.Command.{Command}
use Rattle.session_model.specs.declared.command.Command.TheVariants as c
use Rattle.session_model.specs.Asked.{asked}
use Rattle.session_model.specs.Fitting.{IsFittingAsked}

-- no command asks for an operation that connects: it names a signal and a method by their texts
pub asked_fits : (settings : Settings) (state : State) (command : Command) → IsFittingAsked settings state (asked command)
asked_fits settings state (c.New class parent) = tt
asked_fits settings state _ = tt
