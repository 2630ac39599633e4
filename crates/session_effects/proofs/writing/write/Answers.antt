use Rattle.std.proofs.Common.{Ok, rules}
use Rattle.variant_value.specs.Values.{IsShort}
use Rattle.session_effects.proofs.WritingLemmas.{named_declared, named_undeclared}
use Rattle.session_effects.proofs.writing.write.Goals as goal

pub returns-in-Declared-clause-writes : goal.returns-in-Declared-clause-writes
returns-in-Declared-clause-writes c =
    let is_short : IsShort c.args.value = search rules in
    let done = rw (c.in-Declared.is, c.as_str-2.ensures) at c.in_ok-number.ensures.writes in
    named_declared c.args.caller.now c.args.object c.args.property.now c.args.value c.args.tables.now c.write_named.new.self c.requires.placed is_short
    c.in-Declared.number c.in-Declared.changed done c.args.class c.requires.class c.news_of.result c.news_of.ensures

pub returns-in_ok-write_dynamic-in-Undeclared-clause-writes : goal.returns-in_ok-write_dynamic-in-Undeclared-clause-writes
returns-in_ok-write_dynamic-in-Undeclared-clause-writes c =
    let is_short : IsShort c.args.value = search rules in
    let none = rw (c.in-Undeclared.is, c.as_str-2.ensures) at c.in_ok-number.ensures.writes in
    named_undeclared c.args.caller.now c.args.object c.args.property.now c.args.value c.args.tables.now c.write_named.new.self c.requires.placed is_short
    c.in-Undeclared.value none c.write_dynamic.new.tables (Ok _) c.in_ok-write_dynamic-in-Undeclared.ensures.writes
