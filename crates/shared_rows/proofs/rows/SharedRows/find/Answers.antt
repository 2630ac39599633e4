use Rattle.std.proofs.Common.{sym}
use Rattle.shared_rows.proofs.KeptLemmas.{number_absent, number_found, number_stands, seen_by}
use Rattle.shared_rows.proofs.rows.SharedRows.find.Goals as goal

pub position-requires : goal.position-requires
position-requires g c = (seen_by c.self.invariant c.self.view_is c.requires c.get-entries.ensures).entries.rising

pub returns-in-Some : goal.returns-in-Some
returns-in-Some g c =
    let seen = seen_by c.self.invariant c.self.view_is c.requires c.get-entries.ensures in
    let entry = c.get.ensures c.get.result in
    record { found = sym (number_found seen c.in-Some.ensures.found entry); stands = number_stands seen c.in-Some.ensures.found entry; sound = seen.sound }

pub returns-in-None : goal.returns-in-None
returns-in-None g c =
    let seen = seen_by c.self.invariant c.self.view_is c.requires c.get-entries.ensures in
    record { found = sym (number_absent seen c.args.number c.in-None.ensures.absent); stands = tt; sound = seen.sound }
