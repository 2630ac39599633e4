-- Every listed topic has a place. No public clause cites this module.
use Rattle.std.specs.Prelude.{◌≡◌, ◌==◌, Bool, false, length}
use Rattle.std.specs.Option.{option_map_or}
use Rattle.indexmap.specs.IndexMap.{IndexMap, get}
use Rattle.shared_rows.specs.Links.{Linked}
use Rattle.publish_board.specs.declared.listed.Listed.{Listed}
use Rattle.publish_board.specs.declared.topic.Topic.{Topic}
use Rattle.publish_board.specs.Topics.{is_same}

-- Whether the topic is listed without a place.
abbrev pub is_empty_at : {S : Type 0} → IndexMap Topic (Linked Listed) S → Topic → Bool
is_empty_at lists topic = option_map_or (λ list. length list.links == 0) (get is_same lists topic) false

abbrev pub AreFilled : {S : Type 0} → IndexMap Topic (Linked Listed) S → Type 0
AreFilled lists = (topic : Topic) → is_empty_at lists topic ≡ false
