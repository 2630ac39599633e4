use Rattle.std.proofs.Common.{◌≡◌, ◌∙◌, ◌<◌, Some, ap, rules, subst, sym}
use Rattle.shared_rows.specs.Rows.{Keyed, rows_at}
use Rattle.connection_list.specs.declared.connection.Connection.{Connection}
use Rattle.connection_list.specs.declared.routes.Routes.{Routes}
use Rattle.connection_list.specs.Routes.{Loses, buckets_of, link_of, received_of, sent_of}
use Rattle.connection_list.proofs.GoneLemmas.{links_without, one_gone, short_key}
use Rattle.connection_list.proofs.LazyLemmas.{none_under, seen_made}
use Rattle.connection_list.proofs.routes.LazyRoutes.take_out.Goals as goal

pub unreachable-requires : goal.unreachable-requires
unreachable-requires c = none_under c.self.inside.made c.args.self.now c.self.view_is c.in_default.is
    (rows_at c.args.rows.now c.args.place) c.requires.kept.routed c.args.key c.requires.stands

pub overflow_cast-key : goal.overflow_cast-key
overflow_cast-key c =
    let short : c.args.key < 4294967296 = short_key c.args.place c.args.key c.remove-row.result c.args.rows.now c.remove-row.new.self c.args.self.now
    c.args.self.now c.requires.place c.requires.kept c.remove-row.ensures.row in search rules

pub returns-clause-gone : goal.returns-clause-gone
returns-clause-gone c =
    let is = seen_made c.self.view_is c.in-Some.is c.deref_mut.ensures.value in
    let keyed : Keyed Connection = record { key = c.args.key; row = c.remove-row.result } in
    one_gone c.args.place c.args.key c.remove-row.result c.args.rows.now c.remove-row.new.self c.args.self.now c.unlink.new.self c.requires.place
    c.requires.kept c.remove-row.ensures.row c.remove-row.ensures.rest
    (c.unlink.ensures.number ∙ ap (λ (seen : Routes). seen.last_number) is)
    (subst (λ (seen : Routes). Loses (sent_of keyed) seen.sent c.unlink.new.self.sent) is c.unlink.ensures.sent)
    (subst (λ (seen : Routes). Loses (received_of keyed) seen.received c.unlink.new.self.received) is c.unlink.ensures.received)

pub returns-clause-links : goal.returns-clause-links
returns-clause-links c = λ received row under.
    let is = seen_made c.self.view_is c.in-Some.is c.deref_mut.ensures.value in
    let found : Some row ≡ Some c.remove-row.result = sym under ∙ c.remove-row.ensures.row in
    let same : c.remove-row.result ≡ row = cc in
    let keyed : Keyed Connection = record { key = c.args.key; row = c.remove-row.result } in
    subst (λ row. Loses (link_of received (record { key = c.args.key; row = row })) (buckets_of received c.args.self.now)
    (buckets_of received c.unlink.new.self)) same
    (links_without c.args.self.now c.unlink.new.self keyed
    (subst (λ (seen : Routes). Loses (sent_of keyed) seen.sent c.unlink.new.self.sent) is c.unlink.ensures.sent)
    (subst (λ (seen : Routes). Loses (received_of keyed) seen.received c.unlink.new.self.received) is c.unlink.ensures.received)
    received)
