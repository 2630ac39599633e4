use Rattle.std.proofs.Common.{arith, ◌∙◌, ◌+◌, ◌<◌, ap, rules}
use Rattle.shared_rows.specs.Paired.{paired_tables}
use Rattle.shared_rows.specs.Table.{with_place}
use Rattle.connection_list.specs.Rows.{numbered}
use Rattle.connection_list.specs.Routes.{place_of}
use Rattle.connection_list.proofs.AddedLemmas.{connected_kept, connected_view, number_above, number_fits, number_next, reserved_kept, reserved_view}
use Rattle.connection_list.proofs.SeenLemmas.{seen, seen_anyhow}
use Rattle.connection_list.proofs.table.Connections.connect.Goals as goal

pub get_mut-routes-requires : goal.get_mut-routes-requires
get_mut-routes-requires c = (seen_anyhow c.self.invariant c.self.view_is c.requires).routes_place

pub invariant_of-self : goal.invariant_of-self
invariant_of-self c = reserved_kept (seen c.self.invariant c.self.view_is c.requires c.get_mut-routes.ensures.value) c.reserve.ensures.same

pub returns-in_err-reserve-clause-err : goal.returns-in_err-reserve-clause-err
returns-in_err-reserve-clause-err c =
    let same = reserved_view (seen c.self.invariant c.self.view_is c.requires c.get_mut-routes.ensures.value) c.reserve.ensures.same in
    search rules

pub overflow_add-last_number : goal.overflow_add-last_number
overflow_add-last_number c =
    let short : c.last_number.result + 1 < 4294967296 =
    omega (
      arith,
      number_fits (seen c.self.invariant c.self.view_is c.requires c.get_mut-routes.ensures.value)
          c.reserve.ensures.same c.args.new c.args.unique c.in_default.ensures.refusal,
    ) in
    search rules

pub push-requires-clause-place : goal.push-requires-clause-place
push-requires-clause-place c = (seen_anyhow c.self.invariant c.self.view_is c.requires).rows_place

pub push-requires-clause-number : goal.push-requires-clause-number
push-requires-clause-number c =
    number_above (seen c.self.invariant c.self.view_is c.requires c.get_mut-routes.ensures.value) c.reserve.ensures.same c.args.new c.args.unique
    c.in_default.ensures.refusal (c.numbered-row.ensures ∙ ap (λ n. numbered (n + 1) c.args.new) c.last_number.ensures)

pub invariant_of-self-in_err-key : goal.invariant_of-self-in_err-key
invariant_of-self-in_err-key c = rw c.in_err-key.ensures.err
    (reserved_kept (seen c.self.invariant c.self.view_is c.requires c.get_mut-routes.ensures.value) c.reserve.ensures.same)

pub returns-in_err-key-clause-err : goal.returns-in_err-key-clause-err
returns-in_err-key-clause-err c =
    let same = ap (λ rows. paired_tables place_of rows (with_place c.self.inside.routes c.args.place c.reserve.new.self)) c.in_err-key.ensures.err
    ∙ reserved_view (seen c.self.invariant c.self.view_is c.requires c.get_mut-routes.ensures.value) c.reserve.ensures.same in
    search rules

pub invariant_of-self-2 : goal.invariant_of-self-2
invariant_of-self-2 c =
    connected_kept (seen c.self.invariant c.self.view_is c.requires c.get_mut-routes.ensures.value) c.reserve.ensures.same c.args.new c.args.unique
    c.in_default.ensures.refusal (c.numbered-row.ensures ∙ ap (λ n. numbered (n + 1) c.args.new) c.last_number.ensures) c.in_ok-key.key
    c.in_ok-key.ensures.added c.in_ok-key.ensures.vacant c.in_ok-key.ensures.short c.add.ensures.number c.add.ensures.routed

pub returns-clause-number : goal.returns-clause-number
returns-clause-number c =
    number_next (seen c.self.invariant c.self.view_is c.requires c.get_mut-routes.ensures.value) c.reserve.ensures.same c.args.new c.args.unique
    c.in_default.ensures.refusal (c.numbered-row.ensures ∙ ap (λ n. numbered (n + 1) c.args.new) c.last_number.ensures)

pub returns-clause-ok : goal.returns-clause-ok
returns-clause-ok c =
    connected_view (seen c.self.invariant c.self.view_is c.requires c.get_mut-routes.ensures.value) c.reserve.ensures.same c.args.new c.args.unique
    c.in_default.ensures.refusal (c.numbered-row.ensures ∙ ap (λ n. numbered (n + 1) c.args.new) c.last_number.ensures) c.in_ok-key.key
    c.in_ok-key.ensures.added c.in_ok-key.ensures.vacant c.in_ok-key.ensures.short c.add.ensures.number c.add.ensures.routed
