-- Topics of joins: a session, or what it publishes under a name. No public clause cites this module.
use Rattle.std.specs.Prelude.{ℕ, ◌&&◌, ◌++◌, Bool, List, [], Option, Some, None, bytes_eq}
use Rattle.std.specs.Hash.{HashWrites, str}
use Rattle.std.specs.Option.{option_eq, option_map}
use Rattle.publish_board.specs.declared.join.Join.{Join}
use Rattle.publish_board.specs.declared.topic.Sought.{Sought}
use Rattle.publish_board.specs.declared.topic.Topic.{Topic}
use Rattle.publish_board.specs.Rows.{is_from, listens}

-- Whether a join is to this session and, if a name is given, to what it publishes under that name.
abbrev pub joins_to : List ℕ → Option (List ℕ) → Join → Bool
joins_to from None = is_from from
joins_to from (Some name) = listens from name

-- Whether a join is of the topic.
abbrev pub is_of : Topic → Join → Bool
is_of topic = joins_to topic.from topic.name

-- Whether two topics are equal.
abbrev pub is_same : Topic → Topic → Bool
is_same topic other = bytes_eq topic.from other.from && option_eq bytes_eq topic.name other.name

-- The topic that is looked for.
abbrev pub topic_of : Sought → Topic
topic_of sought = record { from = sought.from.now; name = option_map (λ name. name.now) sought.name }

-- What a name, if there is one, writes to a hash.
abbrev pub name_fed : Option (List ℕ) → HashWrites
name_fed None = []
name_fed (Some name) = str name

-- What a topic writes to a hash.
abbrev pub topic_fed : Topic → HashWrites
topic_fed topic = str topic.from ++ name_fed topic.name
