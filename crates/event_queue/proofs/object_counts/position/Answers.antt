use Rattle.std.proofs.Common.{◌-◌, length, refl}
use Rattle.event_queue.proofs.EntryLemmas.{guessed, is_alone, is_before, is_last, is_there, none_first}
use Rattle.event_queue.proofs.object_counts.position.Goals as goal

pub returns-in_default : goal.returns-in_default
returns-in_default c =
    is_alone c.args.entries.now.items c.args.object c.requires (none_first c.args.entries.now.items c.in_default.ensures.variant.1)

pub returns-then-object-first : goal.returns-then-object-first
returns-then-object-first c =
    is_before c.args.entries.now.items c.args.object c.requires c.in-Some.first c.in-Some.ensures.lookup c.if-object-first.true

pub get-there-requires : goal.get-there-requires
get-there-requires c =
    guessed c.min-guess.result (c.args.object - c.in-Some.first.object) c.len.result (length c.args.entries.now.items) c.min-guess.ensures c.len.ensures
    (c.in-Some.ensures.variant.0 refl)

pub returns-then-there-object : goal.returns-then-there-object
returns-then-there-object c =
    is_there c.args.entries.now.items c.args.object c.requires c.min-guess.result c.get-there.result
    (guessed c.min-guess.result (c.args.object - c.in-Some.first.object) c.len.result (length c.args.entries.now.items) c.min-guess.ensures c.len.ensures
    (c.in-Some.ensures.variant.0 refl))
    c.get-there.ensures c.if-there-object.true

pub returns-then-object-there : goal.returns-then-object-there
returns-then-object-there c =
    is_last c.args.entries.now.items c.args.object c.requires c.in-Some.first c.in-Some.ensures.lookup c.if-object-first.false c.min-guess.result
    c.get-there.result
    (guessed c.min-guess.result (c.args.object - c.in-Some.first.object) c.len.result (length c.args.entries.now.items) c.min-guess.ensures c.len.ensures
    (c.in-Some.ensures.variant.0 refl))
    c.len.result c.len.ensures c.min-guess.ensures (c.get-there.ensures c.get-there.result) c.if-object-there.true
