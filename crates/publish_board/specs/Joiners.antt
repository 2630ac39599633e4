-- The places that are listed under each topic. No public clause cites this module.
use Rattle.std.specs.Prelude.{◌≡◌, ℕ, ◌<◌, ◌≤◌, ◌==◌, ◌&&◌, Bool, true, false, Option, Some, None, count_by, nat_lt}
use Rattle.std.specs.Option.{option_map_or}
use Rattle.indexmap.specs.IndexMap.{get}
use Rattle.shared_rows.specs.Table.{Table}
use Rattle.publish_board.specs.declared.joiners.Joiners.{Joiners}
use Rattle.publish_board.specs.declared.topic.Topic.{Topic}
use Rattle.publish_board.specs.Desk.{Desk}
use Rattle.publish_board.specs.Listed.{count_in}
use Rattle.publish_board.specs.Table.{desk_at}
use Rattle.publish_board.specs.Topics.{is_of, is_same}

-- How many joins of a place are listed under the topic.
abbrev pub count_at : Joiners → Topic → ℕ → ℕ
count_at joiners topic place = option_map_or (λ list. count_in list.links place) (get is_same joiners.lists topic) 0

-- Whether the place is listed under the topic.
abbrev pub is_listed : Joiners → Topic → ℕ → Bool
is_listed joiners topic place = nat_lt 0 (count_at joiners topic place)

-- Whether two pairs of a topic and a place are equal.
abbrev pub is_pair : Topic → ℕ → Topic → ℕ → Bool
is_pair topic place other at = is_same topic other && place == at

-- The first number from `least` on that passes a test; `None` if no number passes.
abbrev pub IsFirstOf : (ℕ → Bool) → ℕ → Option ℕ → Type 0
IsFirstOf test least (Some first) = (least ≤ first) × (test first ≡ true) × ((other : ℕ) → least ≤ other → other < first → test other ≡ false)
IsFirstOf test least None = (other : ℕ) → least ≤ other → test other ≡ false

-- For each topic, as many joins of a place are listed as the place has.
abbrev pub AreListed : Joiners → Table Desk → Type 0
AreListed joiners desks = (topic : Topic) (place : ℕ) → count_at joiners topic place ≡ count_by (is_of topic) (desk_at desks place).joins
