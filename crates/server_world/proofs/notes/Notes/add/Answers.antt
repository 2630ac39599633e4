use Rattle.std.proofs.Common.{arith, ◌∙◌, ◌∷◌, ◌++◌, ℕ, List, [], ap, ap₂}
use Rattle.std.proofs.lemmas.Result.{MatchResult-from_err}
use Rattle.isolation.specs.Slice.{Note}
use Rattle.server_world.specs.declared.notes.Row.{Row}
use Rattle.server_world.specs.NotedInside.{noted}
use Rattle.server_world.proofs.NotesLemmas.{noted_more, noted_stays}
use Rattle.server_world.proofs.notes.Notes.add.Goals as goal

pub returns-in_err-list-clause-err : goal.returns-in_err-list-clause-err
returns-in_err-list-clause-err c =
    let same = ap (λ rows. noted rows c.number_of.new.lists.items) c.reserve.ensures.items
    ∙ noted_stays c.self.inside.rows.items c.self.inside.lists.items c.number_of.new.lists.items c.self.invariant.noted c.number_of.ensures.kept
    ∙ c.self.view_is in
    MatchResult-from_err _ _ _ c.from_residual-in_err-list.ensures.0 (λ error. same)

pub returns-clause-ok : goal.returns-clause-ok
returns-clause-ok c =
    let row : Row = record { session = c.in-Ok.short; list = c.in_ok-list.list } in
    ap (λ rows. noted rows c.number_of.new.lists.items) (c.push_reserved.ensures.items ∙ ap (λ (rows : List Row). rows ++ row ∷ []) c.reserve.ensures.items)
    ∙ noted_more c.self.inside.rows.items c.self.inside.lists.items c.number_of.new.lists.items c.in-Ok.short c.in_ok-list.list c.args.joiners.items
    c.self.invariant.noted c.number_of.ensures.kept c.in_ok-list.ensures.is
    ∙ ap₂ (λ (notes : List (Note ℕ)) (session : ℕ). notes ++ (let note : Note ℕ = record { session = session; joiners = c.args.joiners.items } in note) ∷ [])
    c.self.view_is (omega (arith, c.in-Ok.ensures))
