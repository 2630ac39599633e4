-- The methods of objects in the session of a command.
use Rattle.std.specs.Prelude.{ℕ, List, Option, Ok}
use Rattle.class_table.specs.declared.class.Method.{Method}
use Rattle.class_table.specs.Lookup.{method_number}
use Rattle.session_model.specs.Methods.{Found, ◌>>=◌, methods_of, signature_in}
use Rattle.session_tables.specs.declared.tables.Tables.{Tables}
use Rattle.session_tables.specs.Tables.{state_at}
use Rattle.session_effects.specs.declared.session_context.SessionContext.{SessionContext}
use Rattle.session_effects.specs.Setup.{settings_of}

abbrev pub its_methods : SessionContext → Tables → ℕ → List Method
its_methods caller tables object = methods_of (settings_of caller.setup.now) (state_at tables caller.place) object

-- The index of the method that a text names, if it is one of these.
abbrev pub number_named : List Method → List ℕ → Found (Option ℕ)
number_named methods text = signature_in text >>= λ signature. Ok (method_number signature methods)
