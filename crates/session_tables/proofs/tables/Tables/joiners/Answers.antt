use Rattle.std.proofs.Common.{◌≡◌, ◌+◌, ◌∷◌, ◌++◌, [], sym, subst, arith}
use Rattle.std.proofs.lemmas.Grind.{common_steps}
use Rattle.publish_board.specs.Table.{IsFirstJoiner}
use Rattle.session_tables.proofs.JoiningLemmas.{ArePassing, joins, joiners_found, passing_first, passing_next}
use Rattle.session_tables.proofs.tables.Tables.joiners.Goals as goal

pub joiners-init : goal.joiners-init
joiners-init c = passing_first (joins c.args.self.now c.args.from.now) c.new-places.result.items c.new-places.ensures.items

pub joiners-preserved : goal.joiners-preserved
joiners-preserved c =
    let passes = joins c.args.self.now c.args.from.now in
    let place = c.in-Some.place in
    let first : IsFirstJoiner c.args.self.now.desks c.args.from.now c.joiners.least place = c.in-Some.ensures in
    let next : c.in_ok-least.least ≡ place + 1 = grind (arith, common_steps, c.checked_add.ensures, c.ok_or.ensures.value, c.in_ok-least.was) in
    let items : c.push.new.self.items ≡ c.joiners.places.items ++ place ∷ [] = c.in_ok-push.ensures.items in
    subst (λ least. ArePassing passes least c.push.new.self.items) (sym next)
    (subst (ArePassing passes (place + 1)) (sym items)
    (passing_next passes c.joiners.least place c.joiners.places.items first.from_least first.joins first.before c.joiners.invariant))

pub returns : goal.returns
returns c = joiners_found c.args.self.now c.args.from.now c.joiners.least c.joiners.places.items c.in_default.ensures c.joiners.invariant
