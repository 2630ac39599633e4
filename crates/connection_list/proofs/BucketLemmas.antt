-- Links in buckets.
use Rattle.std.proofs.Common.{◌≡◌, ◌≢◌, ◌∙◌, ◌⊎◌, ℕ, ◌+◌, ◌<◌, ◌≤◌, Bool, true, false, List, [], ◌∷◌, ◌++◌, length, filter, get_or, map, set}
use Rattle.std.proofs.Common.{sym, ap, subst, arith, ⊎_elim, inl, inr}
use Rattle.std.specs.List.{All, Any, Contains}
use Rattle.std.proofs.lemmas.Bool.{cases_Bool, cases_eq, cases_lt}
use Rattle.std.proofs.lemmas.List.{get_or-set_other, get_or-set_same, get_or_default, get_or_past, length-set}
use Rattle.std.proofs.lemmas.Nat.{mod_below}
use Rattle.std.proofs.lemmas.List.Elements.{All-contains, Contains-append_left, Contains-push, Contains-push_cases}
use Rattle.shared_rows.specs.Links.{Linked, with_link, without_link}
use Rattle.shared_rows.specs.Rows.{Keyed}
use Rattle.shared_rows.proofs.LinkedLemmas.{all_from, any_of, contains_from, contains_kept, contains_map, contains_mapped}
use Rattle.shared_rows.proofs.LinkedLemmas.{with_cases, with_itself, with_others, without_from, without_others}
use Rattle.connection_list.specs.declared.connection.Connection.{Connection}
use Rattle.connection_list.specs.declared.link.Link.{Link}
use Rattle.connection_list.specs.Buckets.{AreDivided, Bucketed, Changes, HasSame, HaveSame, bucket_number, bucket_of}
use Rattle.connection_list.specs.declared.buckets.TheConstants.{BUCKETS}
use Rattle.connection_list.specs.Routes.{IsLinkedAt, link_cmp}
use Rattle.connection_list.proofs.LinkLemmas.{link_same, link_total}

module _ (link_of : Keyed Connection → Link) where
  -- what the links of an object say of a row, and of a link
  link_there : (rows : List (Keyed Connection)) (object : ℕ) {links : List Link} → IsLinkedAt link_of rows object links → (row : Keyed Connection)
      → Contains rows row → (link_of row).object ≡ object → Contains links (link_of row)
  link_there rows object {links} linked row there is =
      All-contains (λ r. (link_of r).object ≡ object → Contains links (link_of r)) rows row linked.each there is

  row_there : (rows : List (Keyed Connection)) (object : ℕ) {links : List Link} → IsLinkedAt link_of rows object links → (link : Link)
      → Contains links link → link.object ≡ object → (row : Keyed Connection) × Contains rows row × (link_of row ≡ link)
  row_there rows object {links} linked link there is =
      let any = All-contains (λ l. l.object ≡ object → Any (λ r. link_of r ≡ l) rows) links link linked.all there is in
      (any.1, (any.0, any.2, any.3), any.4)

  are_linked : (rows : List (Keyed Connection)) (object : ℕ) (links : List Link)
      → ((row : Keyed Connection) → Contains rows row → (link_of row).object ≡ object → Contains links (link_of row))
      → ((link : Link) → Contains links link → link.object ≡ object → (row : Keyed Connection) × Contains rows row × (link_of row ≡ link))
      → IsLinkedAt link_of rows object links
  are_linked rows object links each all = record {
    each = all_from (λ row. (link_of row).object ≡ object → Contains links (link_of row)) rows each;
    all = all_from (λ link. link.object ≡ object → Any (λ row. link_of row ≡ link) rows) links
        (λ link there is. let row = all link there is in any_of (λ r. link_of r ≡ link) rows row.0 row.1 row.2);
  }

  -- one more row, with its link in the bucket of its object
  pub linked_push : (rows : List (Keyed Connection)) (row : Keyed Connection) (object : ℕ) {old new : List Link} → IsLinkedAt link_of rows object old
      → (new ≡ with_link link_cmp old (link_of row)) ⊎ ((object ≢ (link_of row).object) × (new ≡ old)) → IsLinkedAt link_of (rows ++ row ∷ []) object new
  linked_push rows row object {old} {new} linked change = are_linked (rows ++ row ∷ []) object new
      (λ r there is. ⊎_elim
      (λ stood.
      let before = link_there rows object linked r stood is in
      ⊎_elim
      (λ here. rw here (with_others link_total link_same old (link_of row) (link_of r) before))
      (λ elsewhere. rw elsewhere.1 before)
      change)
      (λ last. ⊎_elim
      (λ here.
      rw here (subst (λ k. Contains (with_link link_cmp old (link_of row)) (link_of k)) last (with_itself link_total link_same old (link_of row))))
      (λ elsewhere. absurd (elsewhere.0 (sym is ∙ ap (λ k. (link_of k).object) (sym last))))
      change)
      (Contains-push_cases rows row r there))
      (λ link there is.
      let from : Contains old link → (r : Keyed Connection) × Contains (rows ++ row ∷ []) r × (link_of r ≡ link) = λ stood.
      let r = row_there rows object linked link stood is in (r.0, Contains-append_left rows (row ∷ []) r.0 r.1, r.2) in
      ⊎_elim
      (λ here. ⊎_elim from
      (λ last. (row, Contains-push rows row, last))
      (with_cases link_total link_same old (link_of row) link (rw here at there)))
      (λ elsewhere. from (rw elsewhere.1 at there))
      change)

  -- rows go that have one link, with that link
  pub linked_gone : (keep : Keyed Connection → Bool) (rows : List (Keyed Connection)) (gone : Link) (object : ℕ) {old new : List Link}
      → IsLinkedAt link_of rows object old → All (λ row. keep row ≡ true → link_of row ≢ gone) rows → All (λ row. keep row ≡ false → link_of row ≡ gone) rows
      → (new ≡ without_link link_cmp old gone) ⊎ ((object ≢ gone.object) × (new ≡ old)) → IsLinkedAt link_of (filter keep rows) object new
  linked_gone keep rows gone object {old} {new} linked stay go change = are_linked (filter keep rows) object new
      (λ row there is.
      let kept = contains_from keep rows row there in
      let before = link_there rows object linked row kept.0 is in
      ⊎_elim
      (λ here. rw here (without_others link_total link_same old gone (link_of row) before
      (All-contains (λ r. keep r ≡ true → link_of r ≢ gone) rows row stay kept.0 kept.1)))
      (λ elsewhere. rw elsewhere.1 before)
      change)
      (λ link there is.
      let left : Contains old link × (link ≢ gone) = ⊎_elim
      (λ here. without_from link_total link_same old gone link (rw here at there))
      (λ elsewhere. (rw elsewhere.1 at there, λ same. elsewhere.0 (sym is ∙ ap (λ (l : Link). l.object) same)))
      change in
      let row = row_there rows object linked link left.0 is in
      ⊎_elim
      (λ keeps. (row.0, contains_kept keep rows row.0 row.1 keeps, row.2))
      (λ goes. absurd (left.1 (sym row.2 ∙ All-contains (λ r. keep r ≡ false → link_of r ≡ gone) rows row.0 go row.1 goes)))
      (cases_Bool (keep row.0)))

  -- the links of an object are the same
  pub linked_same : (rows : List (Keyed Connection)) (object : ℕ) {old new : List Link} → IsLinkedAt link_of rows object old → HasSame object old new
      → IsLinkedAt link_of rows object new
  linked_same rows object {old} {new} linked same = are_linked rows object new
      (λ row there is. same.kept (link_of row) (link_there rows object linked row there is) is)
      (λ link there is. row_there rows object linked link (same.from link there) is)

  -- rows change and keep their links
  pub linked_map : (change : Keyed Connection → Keyed Connection) → ((row : Keyed Connection) → link_of (change row) ≡ link_of row)
      → (rows : List (Keyed Connection)) (object : ℕ) {links : List Link} → IsLinkedAt link_of rows object links
      → IsLinkedAt link_of (map change rows) object links
  linked_map change keeps rows object {links} linked = are_linked (map change rows) object links
      (λ row there is.
      let from = contains_mapped change rows row there in
      let same : link_of from.0 ≡ link_of row = sym (keeps from.0) ∙ ap link_of from.2 in
      subst (Contains links) same (link_there rows object linked from.0 from.1 (ap (λ (l : Link). l.object) same ∙ is)))
      (λ link there is. let row = row_there rows object linked link there is in (change row.0, contains_map change rows row.0 row.1, keeps row.0 ∙ row.2))

-- buckets that have the same links
same_changed : (owner : ℕ) (old new : Bucketed) → Changes (λ links. links) owner old new → HaveSame old new
same_changed owner old new changes object =
    let same : (bucket_of object new).links ≡ (bucket_of object old).links = ⊎_elim (λ here. here) (λ elsewhere. elsewhere.1) (changes object) in
    record {
      kept = λ link there is. subst (λ list. Contains list link) (sym same) there;
      from = λ link there. subst (λ list. Contains list link) same there;
    }

pub same_itself : (buckets : Bucketed) → HaveSame buckets buckets
same_itself buckets object = record { kept = λ link there is. there; from = λ link there. there }

pub same_twice : (first second third : Bucketed) → HaveSame first second → HaveSame second third → HaveSame first third
same_twice first second third one two object = record {
  kept = λ link there is. (two object).kept link ((one object).kept link there is) is;
  from = λ link there. (one object).from link ((two object).from link there);
}

-- the bucket of an object, read among many or where there are none
module _ {old : Bucketed} {few : Linked Link} {many : List (Linked Link)} (view_is : record { few = few; many = many } ≡ old) (owner : ℕ) {number : ℕ}
    (number_is : number ≡ bucket_number owner) where
  pub changes_many : (change : List Link → List Link) (here after : Linked Link) → number < length many → here ≡ get_or many number here
      → after.links ≡ change here.links → Changes change owner old (record { few = few; many = set many number after })
  changes_many change here after within is changed =
      subst (λ before. Changes change owner before (record { few = few; many = set many number after })) view_is
      (λ object. ⊎_elim
      (λ same. inl
      (ap (λ n. (get_or (set many number after) n few).links) same
      ∙ (ap (λ (l : Linked Link). l.links) (get_or-set_same many number after few within)
      ∙ (changed ∙ (ap (λ (l : Linked Link). change l.links) (is ∙ get_or_default many number here few within)
      ∙ ap (λ n. change (get_or many n few).links) (sym same))))))
      (λ differ. inr (
        λ same. differ (ap bucket_number same ∙ sym number_is),
        ap (λ (l : Linked Link). l.links) (get_or-set_other many number (bucket_number object) after few differ),
      ))
      (cases_eq (bucket_number object) number))

  pub changes_few : (change : List Link → List Link) (after : Linked Link) → length many ≤ number → after.links ≡ change few.links
      → Changes change owner old (record { few = after; many = many })
  changes_few change after past changed =
      subst (λ before. Changes change owner before (record { few = after; many = many })) view_is
      (λ object. ⊎_elim
      (λ inside. inr (
        λ same. absurd (omega (arith, inside, ap bucket_number same)),
        ap (λ (l : Linked Link). l.links) (get_or_default many (bucket_number object) after few inside),
      ))
      (λ outside. inl
      (ap (λ (l : Linked Link). l.links) (get_or_past many (bucket_number object) after outside)
      ∙ (changed ∙ ap (λ (l : Linked Link). change l.links) (sym (get_or_past many (bucket_number object) few outside)))))
      (cases_lt (bucket_number object) (length many)))

  -- a bucket whose links stay, with more room
  pub same_many : (here after : Linked Link) → number < length many → here ≡ get_or many number here → after.links ≡ here.links
      → HaveSame old (record { few = few; many = set many number after })
  same_many here after within is same = same_changed owner old (record { few = few; many = set many number after })
      (changes_many (λ links. links) here after within is same)

  pub same_few : (after : Linked Link) → length many ≤ number → after.links ≡ few.links → HaveSame old (record { few = after; many = many })
  same_few after past same = same_changed owner old (record { few = after; many = many }) (changes_few (λ links. links) after past same)

abbrev blank : Linked Link
blank = record { links = []; capacity = 0 }

-- buckets have the links before a position, each in the bucket of its object, and no others
pub record AreHeld (links : List Link) (at : ℕ) (many : List (Linked Link)) : Type 0 where
  pub size : length many ≡ BUCKETS
  pub kept : (k : ℕ) (d : Link) → k < at → k < length links
      → Contains (get_or many (bucket_number (get_or links k d).object) blank).links (get_or links k d)
  pub from : (number : ℕ) → number < BUCKETS → (link : Link) → Contains (get_or many number blank).links link → Contains links link

pub held_all : (links : List Link) (at : ℕ) (many : List (Linked Link)) → length links ≤ at → AreHeld links at many → AreDivided links many
held_all links at many all held object default =
    let within : bucket_number object < length many = omega (arith, mod_below object BUCKETS (omega arith)) in
    let same : get_or many (bucket_number object) blank ≡ get_or many (bucket_number object) default =
    get_or_default many (bucket_number object) blank default within in
    record {
      kept = λ link there is.
          let here : Contains (get_or many (bucket_number link.object) blank).links link =
          subst (λ (l : Link). Contains (get_or many (bucket_number l.object) blank).links l) there.2
          (held.kept there.0 link (omega arith) there.1) in
          subst (λ (b : Linked Link). Contains b.links link) same (subst (λ o. Contains (get_or many (bucket_number o) blank).links link) is here);
      from = λ link there. held.from (bucket_number object) (omega arith) link
          (subst (λ (b : Linked Link). Contains b.links link) (sym same) there);
    }

module _ {links : List Link} {at : ℕ} {many : List (Linked Link)} (held : AreHeld links at many) {link : Link} (within : at < length links)
    (is : (default : Link) → link ≡ get_or links at default) {number : ℕ} (number_is : number ≡ bucket_number link.object) (bound : number < BUCKETS)
    (here after : Linked Link) (here_is : here ≡ get_or many number here) (changed : after.links ≡ with_link link_cmp here.links link) where
  inside : number < length many
  inside = omega arith

  now_here : (get_or (set many number after) number blank).links ≡ with_link link_cmp (get_or many number blank).links link
  now_here = ap (λ (l : Linked Link). l.links) (get_or-set_same many number after blank inside)
      ∙ (changed ∙ ap (λ (l : Linked Link). with_link link_cmp l.links link) (here_is ∙ get_or_default many number here blank inside))

  now_other : (other : ℕ) → other ≢ number → (get_or (set many number after) other blank).links ≡ (get_or many other blank).links
  now_other other differ = ap (λ (l : Linked Link). l.links) (get_or-set_other many number other after blank differ)

  still : (x : Link) → Contains (get_or many (bucket_number x.object) blank).links x
      → Contains (get_or (set many number after) (bucket_number x.object) blank).links x
  still x there = ⊎_elim
      (λ same.
      let before : Contains (get_or many number blank).links x = subst (λ n. Contains (get_or many n blank).links x) same there in
      subst (λ n. Contains (get_or (set many number after) n blank).links x) (sym same)
      (subst (λ list. Contains list x) (sym now_here) (with_others link_total link_same (get_or many number blank).links link x before)))
      (λ differ. subst (λ list. Contains list x) (sym (now_other (bucket_number x.object) differ)) there)
      (cases_eq (bucket_number x.object) number)

  new : Contains (get_or (set many number after) (bucket_number link.object) blank).links link
  new = subst (λ n. Contains (get_or (set many number after) n blank).links link) number_is
      (subst (λ list. Contains list link) (sym now_here) (with_itself link_total link_same (get_or many number blank).links link))

  -- one more is held
  pub held_more : AreHeld links (at + 1) (set many number after)
  held_more = record {
    size = length-set many number after ∙ held.size;
    kept = λ k d low behind. ⊎_elim
        (λ front. still (get_or links k d) (held.kept k d front behind))
        (λ last. let same : at ≡ k = omega arith in
        subst (λ (l : Link). Contains (get_or (set many number after) (bucket_number l.object) blank).links l) (is d ∙ ap (λ n. get_or links n d) same) new)
        (cases_lt k at);
    from = λ other low x there. ⊎_elim
        (λ same. ⊎_elim
        (held.from number bound x)
        (λ last. subst (Contains links) last (at, within, sym (is link)))
        (with_cases link_total link_same (get_or many number blank).links link x
        (subst (λ list. Contains list x) now_here (subst (λ n. Contains (get_or (set many number after) n blank).links x) same there))))
        (λ differ. held.from other low x (subst (λ list. Contains list x) (now_other other differ) there))
        (cases_eq other number);
  }
