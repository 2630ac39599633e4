use Rattle.std.proofs.Common.{length, ◌∙◌, ◌-◌, sym, ap, subst, arith}
use Rattle.std.specs.List.{All}
use Rattle.server_world.specs.Noting.{IsWithin}
use Rattle.server_world.proofs.NotesLemmas.{row_keeps, row_passes, row_within}
use Rattle.server_world.proofs.notes.Notes.kept.Goals as goal

pub matters-requires-clause-session : goal.matters-requires-clause-session
matters-requires-clause-session c =
    let within = subst (All (IsWithin c.args.sessions)) (sym c.self.view_is) c.requires.within in
    let here = row_within _ c.self.inside.lists.items _ _ _ (c.rows.number - 1) _ _ c.index-row.result.now (omega arith)
    c.index-row.ensures (omega arith) within c.rows.invariant in
    omega (arith, here.0, c.deref.ensures.len)

pub matters-requires-clause-joiners : goal.matters-requires-clause-joiners
matters-requires-clause-joiners c =
    let within = subst (All (IsWithin c.args.sessions)) (sym c.self.view_is) c.requires.within in
    let here = row_within _ c.self.inside.lists.items _ _ _ (c.rows.number - 1) _ _ c.index-row.result.now (omega arith)
    c.index-row.ensures (omega arith) within c.rows.invariant in
    rw (c.joiners_of.ensures, c.deref-in-rows.ensures.value, c.deref.ensures.value) here.1

pub index_mut-requires-then-matters : goal.index_mut-requires-then-matters
index_mut-requires-then-matters c =
    let within = subst (All (IsWithin c.args.sessions)) (sym c.self.view_is) c.requires.within in
    let here = row_within _ c.self.inside.lists.items _ _ _ (c.rows.number - 1) _ _ c.index-row.result.now (omega arith)
    c.index-row.ensures (omega arith) within c.rows.invariant in
    omega (arith, here.0, c.deref.ensures.len, ap (λ xs. length xs) c.deref.ensures.value)

pub rows-preserved-then-matters : goal.rows-preserved-then-matters
rows-preserved-then-matters c =
    let within = subst (All (IsWithin c.args.sessions)) (sym c.self.view_is) c.requires.within in
    let tells = rw (c.joiners_of.ensures, c.deref-in-rows.ensures.value, c.deref.ensures.value) at c.matters.ensures in
    let back = row_keeps _ c.self.inside.lists.items _ _ _ (c.rows.number - 1) _ _ c.index-row.result.now (omega arith)
    c.index-row.ensures (omega arith) within c.rows.invariant
    (sym tells ∙ c.if-matters.true) in
    rw c.in_ok-push.ensures.items back

pub rows-preserved : goal.rows-preserved
rows-preserved c =
    let within = subst (All (IsWithin c.args.sessions)) (sym c.self.view_is) c.requires.within in
    let tells = rw (c.joiners_of.ensures, c.deref-in-rows.ensures.value, c.deref.ensures.value) at c.matters.ensures in
    row_passes _ c.self.inside.lists.items _ _ _ (c.rows.number - 1) _ _ c.index-row.result.now (omega arith)
    c.index-row.ensures (omega arith) within c.rows.invariant
    (sym tells ∙ c.if-matters.false)
