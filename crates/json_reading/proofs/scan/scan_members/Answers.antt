use Rattle.std.proofs.Common.{◌≡◌, ◌++◌, drop, get_or, sym, ap, ◌∙◌, arith}
use Rattle.json_reading.proofs.Grammar.{reads_members}
use Rattle.json_reading.proofs.Printing.{AreSpelled-push, grown_by_comma, grown_to_end, nothing_opened, tokens-closed}
use Rattle.json_reading.proofs.Standing.{byte_stands}
use Rattle.json_reading.proofs.scan.scan_members.Goals as goal

pub members-init : goal.members-init
members-init c =
    let d = c.args.text.now in
    let first : get_or d 0 0 ≡ 123 = cc in
    let brace = byte_stands d 0 123 first (omega arith) in
    rw c.in_ok-found.ensures.items (record { text = brace.text ∙ ap (λ l. l ++ drop 1 d) (sym nothing_opened); spelled = tt; within = brace.within })

pub members-preserved : goal.members-preserved
members-preserved c =
    let d = c.args.text.now in
    let so_far = c.members.invariant in
    let found = c.in_ok-member.ensures in
    let comma : get_or d c.in_ok-member.end 0 ≡ 44 = cc in
    rw c.in_ok-push.ensures.items
    (record {
      text = grown_by_comma d _ _ c.members.at c.in_ok-member.end so_far.text so_far.spelled found.0 comma;
      spelled = AreSpelled-push _ _ so_far.spelled found.1;
      within = (byte_stands d c.in_ok-member.end 44 comma (omega arith)).within;
    })

pub returns-in-125 : goal.returns-in-125
returns-in-125 c =
    let d = c.args.text.now in
    let so_far = c.members.invariant in
    let found = c.in_ok-member.ensures in
    let brace : get_or d c.in_ok-member.end 0 ≡ 125 = cc in
    let spelled = AreSpelled-push _ _ so_far.spelled found.1 in
    let whole = grown_to_end d _ _ c.members.at c.in_ok-member.end so_far.text so_far.spelled found.0 brace (omega arith) in
    rw c.in_ok-push.ensures.items (reads_members d _ spelled (tokens-closed d _ spelled whole))
