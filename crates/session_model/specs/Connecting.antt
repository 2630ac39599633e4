-- Connections to be made, and connections to be broken.
use Rattle.std.specs.Prelude.{ℕ, Bool, Option, Some, None, Ok, Err, if◌then◌else◌}
use Rattle.std.specs.Option.{option_map_or, option_transpose}
use Rattle.plain_types.specs.declared.code.Code.TheVariants.{DoesNotFit}
use Rattle.signature_core.specs.Kinds.{fits}
use Rattle.plain_types.specs.declared.callee.Callee.TheVariants.{Functor, Method}
use Rattle.plain_types.specs.declared.connection_type.ConnectionType.{ConnectionType}
use Rattle.connection_list.specs.declared.connection.NewConnection.{NewConnection}
use Rattle.connection_list.specs.declared.pattern.Pattern.{Pattern}
use Rattle.connection_list.specs.declared.pattern.Receiver.{Receiver}
use Rattle.session_model.specs.Functors.{params_at}
use Rattle.session_model.specs.Methods.{Found, ◌>>=◌, kinds_at, methods_of}
use Rattle.session_model.specs.Settings.{Settings}
use Rattle.session_model.specs.State.{State}

-- Whether the signal's parameters fit those of the method.
abbrev pub fits_at : Settings → State → ℕ → ℕ → ℕ → ℕ → Bool
fits_at settings state sender signal receiver method =
    fits (kinds_at (methods_of settings state sender) signal) (kinds_at (methods_of settings state receiver) method)

-- Whether the signal's parameters fit those of the functor.
abbrev pub fits_functor : Settings → State → ℕ → ℕ → ℕ → Bool
fits_functor settings state sender signal functor = fits (kinds_at (methods_of settings state sender) signal) (params_at settings functor)

-- The connection between a signal and a method, if both were found and fit.
abbrev pub new_connection : Settings → State → ℕ → Found ℕ → ℕ → Found ℕ → ConnectionType → Bool → Found NewConnection
new_connection settings state sender signal receiver method mode single =
    signal >>= λ s. method >>= λ m.
    if fits_at settings state sender s receiver m
    then Ok (record { sender = sender; signal = s; receiver = receiver; callee = Method m; mode = mode; single = single })
    else Err DoesNotFit

-- The connection between a signal and a functor, if both were found and fit. The receiver is the functor's context
-- object.
abbrev pub new_functor_connection : Settings → State → ℕ → Found ℕ → ℕ → Found ℕ → ConnectionType → Bool → Found NewConnection
new_functor_connection settings state sender signal context functor mode single =
    signal >>= λ s. functor >>= λ f.
    if fits_functor settings state sender s f
    then Ok (record { sender = sender; signal = s; receiver = context; callee = Functor f; mode = mode; single = single })
    else Err DoesNotFit

-- The receiving end of a pattern. A method is looked for only if a receiver is named.
abbrev pub receiver_with : (ℕ → Option (Found ℕ)) → Option ℕ → Found (Option Receiver)
receiver_with method receiver =
    option_map_or (λ object. option_transpose (method object) >>= λ m. Ok (Some (record { object = object; method = m }))) receiver (Ok None)

-- The pattern for a sender's connections with this signal, receiver and method, if they were found.
abbrev pub pattern_with : ℕ → Option (Found ℕ) → Option ℕ → (ℕ → Option (Found ℕ)) → Found Pattern
pattern_with sender signal receiver method =
    option_transpose signal >>= λ s. receiver_with method receiver >>= λ r.
    Ok (record { sender = sender; signal = s; receiver = r })
