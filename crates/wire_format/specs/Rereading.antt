-- The expression of a binding, written and read again.
use Rattle.std.specs.Prelude.{◌≡◌, Ok}
use Rattle.serde_json.specs.Data.{Data}
use Rattle.term_core.specs.Forms.{binding_term_of}
use Rattle.term_core.specs.Term.{Term}
use Rattle.wire_format.specs.Terms.{json_of_term}

-- What is written for the expression of a binding is read as the same expression.
abbrev pub AreReadAgain : Type 0
AreReadAgain = (json : Data) (term : Term) → binding_term_of json ≡ Ok term → binding_term_of (json_of_term term) ≡ Ok term
