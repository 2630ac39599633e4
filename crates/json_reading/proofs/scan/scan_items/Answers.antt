use Rattle.std.proofs.Common.{◌≡◌, get_or, refl, arith}
use Rattle.json.specs.Print.{print_from}
use Rattle.std.proofs.lemmas.Grind.{common_steps}
use Rattle.json_reading.proofs.ItemLemmas.{AllFit-push, item_grown_by_comma, item_grown_to_end, no_items_stand}
use Rattle.json_reading.proofs.scan.scan_items.Goals as goal

pub returns-then-byte_at-eq93 : goal.returns-then-byte_at-eq93
returns-then-byte_at-eq93 c =
    let bracket : get_or c.args.text.now c.args.from 0 ≡ 93 = cc in
    rw c.new-found.ensures.items (no_items_stand c.args.text.now c.args.from bracket, tt)

pub items-init : goal.items-init
unfolding print_from
items-init c = rw c.new-found.ensures.items (record { text = refl; fit = tt; later = omega arith })

pub items-preserved : goal.items-preserved
items-preserved c =
    let so_far = c.items.invariant in
    let found = c.in_ok-item.ensures in
    let comma : get_or c.args.text.now c.in_ok-item.next 0 ≡ 44 = cc in
    rw c.in_ok-push.ensures.items
    (record {
      text = item_grown_by_comma c.args.text.now _ _ c.args.from c.items.at c.in_ok-item.next so_far.text found.0 comma;
      fit = AllFit-push _ _ so_far.fit found.1;
      later = omega (arith, found.0.later);
    })

pub returns-in-93 : goal.returns-in-93
returns-in-93 c =
    let so_far = c.items.invariant in
    let found = c.in_ok-item.ensures in
    let bracket : get_or c.args.text.now c.in_ok-item.next 0 ≡ 93 = cc in
    rw c.in_ok-push.ensures.items (
      item_grown_to_end c.args.text.now _ _ c.args.from c.items.at c.in_ok-item.next so_far.later so_far.text found.0 bracket,
      AllFit-push _ _ so_far.fit found.1,
    )

pub overflow_add-result : goal.overflow_add-result
overflow_add-result c = grind (arith, common_steps)
