-- The descriptions of publications and joins.
use Rattle.std.specs.Prelude.{ℕ, List, []}
use Rattle.std.specs.Option.{option_map_or}
use Rattle.class_table.specs.Lookup.{method_text}
use Rattle.publish_board.specs.declared.join.Join.{Join}
use Rattle.publish_board.specs.declared.publication.Publication.{Publication}
use Rattle.session_model.specs.declared.descriptions.JoinDescription.{JoinDescription}
use Rattle.session_model.specs.declared.descriptions.PublicationDescription.{PublicationDescription}
use Rattle.session_model.specs.Methods.{method_at}
use Rattle.session_model.specs.Settings.{Settings}
use Rattle.session_model.specs.State.{State}

-- The text of an object's method with this index; empty if there is none.
abbrev pub text_at : Settings → State → ℕ → ℕ → List ℕ
text_at settings state object index = option_map_or method_text (method_at settings state object index) []

abbrev pub publication_description : Settings → State → Publication → PublicationDescription
publication_description settings state row = record { name = row.name; object = row.object; signal = text_at settings state row.object row.signal }

abbrev pub join_description : Settings → State → Join → JoinDescription
join_description settings state join = record {
  from = join.from;
  kinds = join.kinds;
  method = text_at settings state join.object join.method;
  name = join.name;
  object = join.object;
}
