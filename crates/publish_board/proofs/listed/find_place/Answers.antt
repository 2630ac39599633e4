use Rattle.publish_board.proofs.PlaceLemmas.{found_none, found_other, found_some}
use Rattle.publish_board.proofs.listed.find_place.Goals as goal

pub returns-in_default : goal.returns-in_default
returns-in_default c =
    found_none c.args.list.now.links (record { place = c.args.place; further = 0 }) c.in_default.ensures.sound c.in_default.ensures.first

pub returns-then-listed-place : goal.returns-then-listed-place
returns-then-listed-place c =
    found_some c.args.list.now.links (record { place = c.args.place; further = 0 }) c.in-Some.ensures.sound c.in-Some.listed c.in-Some.ensures.first
    c.if-listed-place.true

pub returns-else-listed-place : goal.returns-else-listed-place
returns-else-listed-place c =
    found_other c.args.list.now.links (record { place = c.args.place; further = 0 }) c.in-Some.ensures.sound c.in-Some.listed c.in-Some.ensures.first
    c.if-listed-place.false
