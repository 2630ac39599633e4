-- The functors of a server, by index and by name.
use Rattle.std.specs.Prelude.{ℕ, List, [], Option, slice_get}
use Rattle.std.specs.Option.{ok_or, option_map_or}
use Rattle.plain_types.specs.declared.code.Code.TheVariants.{NoSuchFunctor}
use Rattle.signature_core.specs.declared.kind.Kind.{Kind}
use Rattle.stored_slots.specs.declared.functor.Functor.{Functor}
use Rattle.stored_slots.specs.Functors.{index_of}
use Rattle.session_model.specs.Methods.{Found}
use Rattle.session_model.specs.Settings.{Settings}

-- The functor with this index.
abbrev pub functor_at : Settings → ℕ → Option Functor
functor_at settings index = slice_get settings.functors index

-- The kinds of the parameters of the functor with this index.
abbrev pub params_at : Settings → ℕ → List Kind
params_at settings index = option_map_or (λ functor. functor.params) (functor_at settings index) []

-- The index of the functor with this name.
abbrev pub functor_named : Settings → List ℕ → Found ℕ
functor_named settings name = ok_or (index_of name settings.functors) NoSuchFunctor
