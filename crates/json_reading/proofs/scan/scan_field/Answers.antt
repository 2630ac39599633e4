use Rattle.std.proofs.Common.{◌≡◌, get_or, append-nil, arith}
use Rattle.json.specs.Print.{print_from}
use Rattle.std.proofs.lemmas.Grind.{common_steps}
use Rattle.json_reading.proofs.ItemLemmas.{list_stands}
use Rattle.json_reading.proofs.scan.scan_field.Goals as goal

pub returns-then-byte_at-eq91 : goal.returns-then-byte_at-eq91
returns-then-byte_at-eq91 c =
    let bracket : get_or c.args.text.now c.args.at 0 ≡ 91 = cc in
    let found = c.in_ok-items.ensures in
    (list_stands c.args.text.now _ c.args.at c.in_ok-items.end bracket found.0, found.1)

pub returns : goal.returns
unfolding print_from
returns c = rw append-nil c.in_ok-scalar.ensures

pub overflow_add-at : goal.overflow_add-at
overflow_add-at c = grind (arith, common_steps)
