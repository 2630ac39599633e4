use Rattle.std.proofs.Common.{◌≡◌, ◌≤◌, ◌-◌, ℕ, length}
use Rattle.session_tables.specs.Reaching.{ReachesBy, post_at}
use Rattle.session_tables.specs.Tables.{session_at, state_at}
use Rattle.publish_board.specs.Table.{desk_at}
use Rattle.session_tables.proofs.PostLemmas.{below}
use Rattle.session_tables.proofs.tables.Tables.post_by.Given as goal

-- so far the places below this one have the post, and the others are as they were
abbrev pub invariant-joiners : goal.invariant-joiners
invariant-joiners l = record {
  reaches : ReachesBy l.sending.classes.now l.sending.from.now l.sending.place
      (below l.sending.classes.now l.sending.from.now l.sending.place l.least
      (post_at (desk_at l.fn.self.desks l.sending.place) l.index l.sending.kinds.now l.sending.args.now)) l.fn.self l.self l.fn.failing l.failing;
  rest : (at : ℕ) → l.least ≤ at → session_at l.self at ≡ session_at l.fn.self at;
  own : state_at l.self l.sending.place ≡ state_at l.fn.self l.sending.place;
  within : l.least ≤ length l.self.failed.places;
}

abbrev pub decreases-joiners : goal.decreases-joiners
decreases-joiners l = length l.self.failed.places - l.least
