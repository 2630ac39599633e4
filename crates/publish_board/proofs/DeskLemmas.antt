-- Desks without some of their rows.
use Rattle.std.proofs.Common.{◌≡◌, ◌∙◌, Bool, false, filter, Option, Some, sym, ap, subst, arith}
use Rattle.std.specs.declared.alloc.Global.{Global}
use Rattle.std.specs.declared.boxed.Box.{Box}
use Rattle.std.proofs.lemmas.List.Kept.{AllPairs-filter}
use Rattle.std.proofs.lemmas.List.Sums.{count_by-le-length, length-filter}
use Rattle.publish_board.specs.declared.publication.Publication.{Publication}
use Rattle.publish_board.specs.declared.rows.Rows.{Rows}
use Rattle.publish_board.specs.Rows.{has_name}
use Rattle.publish_board.specs.Desk.{Desk, IsSound}
use Rattle.publish_board.specs.Inside.{desk_in, desk_of}

-- with some of its publications
sound_filtered : (desk : Desk) (kept : Publication → Bool) → IsSound desk → IsSound (record desk { publications = filter kept desk.publications })
sound_filtered desk kept sound = record {
  few_publications = omega (arith, sound.few_publications, length-filter kept desk.publications, count_by-le-length kept desk.publications);
  few_joins = sound.few_joins;
  distinct = AllPairs-filter (λ earlier later. has_name later.name earlier ≡ false) kept desk.publications sound.distinct;
}

-- rows that were made stay sound without some of their publications
pub sound_without : (made : Option (Box Rows Global)) (rows : Box Rows Global) (old new : Rows) (kept : Publication → Bool) → IsSound (desk_of made)
    → made ≡ Some rows → old ≡ rows.value
    → desk_in new ≡ record (desk_in old) { publications = filter kept (desk_in old).publications } → IsSound (desk_in new)
sound_without made rows old new kept sound some is after =
    subst IsSound (sym after) (sound_filtered (desk_in old) kept (subst IsSound (ap desk_of some ∙ ap desk_in (sym is)) sound))
