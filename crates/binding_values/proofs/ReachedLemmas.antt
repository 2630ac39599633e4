-- What a change reaches, of what is kept.
use Rattle.std.proofs.Common.{◌≡◌, ◌∙◌, ◌||◌, ℕ, ◌+◌, ◌<◌, ◌≤◌, Bool, true, false, cond, not, List, [], ◌∷◌, ◌++◌, Option, Some, None, Result, Ok, Err, OnOk}
use Rattle.std.proofs.Common.{All, Contains, find, is_some, length, get_or, option_map, take}
use Rattle.std.proofs.Common.{append_assoc, length-append, refl, sym, ap, subst, suc, arith, ⊎_elim}
use Rattle.std.specs.Prelude.{OnErr}
use Rattle.std.specs.List.{AllWithin}
use Rattle.std.proofs.lemmas.Bool.{both_ways, cases_lt, false_from_ne_true, or_left}
use Rattle.std.proofs.lemmas.List.{take_more, take-append-le}
use Rattle.std.proofs.lemmas.List.Elements.{All-contains, All-more, All-weaker, filter_passes}
use Rattle.std.proofs.lemmas.List.Folds.{list_any-append}
use Rattle.std.proofs.lemmas.List.Sums.{length-filter, count_by-le-length}
use Rattle.shared_rows.proofs.LinkedLemmas.{contains_first, contains_later}
use Rattle.property_store.proofs.ForCallers.{filter_all}
use Rattle.property_store.specs.declared.property.Property.{Property}
use Rattle.property_store.specs.Property.{among, is_property}
use Rattle.binding_values.specs.declared.eval_result.CacheEntry.{CacheEntry}
use Rattle.binding_values.specs.declared.eval_result.EvalResult.{EvalResult}
use Rattle.binding_values.specs.declared.readers.Edge.{Edge}
use Rattle.binding_values.specs.declared.kept_rows.KeptRow.{KeptRow}
use Rattle.binding_values.specs.Keeping.{IsPut, entries, standing}
use Rattle.binding_values.specs.EvalResult.{IsWithin, Keeping, kept_of}
use Rattle.binding_values.specs.Reached.{AreKeptToo, AreLetGo, HasReaders, IsLonger, IsReached, IsUnread, without}
use Rattle.binding_values.specs.Readers.{AreAmong, AreFewer, IsEdgeAt, IsStart, edge_of, is_ahead, leads_from}
use Rattle.binding_values.proofs.FuelLemmas.{is_itself, property_eq}
use Rattle.binding_values.proofs.ReaderLemmas.{ahead_apart, leads_itself}
use Rattle.binding_values.proofs.SortedLemmas.{is_property_sym}

-- what is kept of the others

pub kept_without : (at : Property) (rows : List CacheEntry) (q : Property) → kept_of (without at rows) q ≡ cond (is_property at q) None (kept_of rows q)
kept_without at [] q = by (is_property at q)
  where
    by : (t : Bool) → None ≡ (let o : Option EvalResult = cond t None None in o)
    by true = refl
    by false = refl
kept_without at (row ∷ rows) q = by (is_property q row.at) (is_property at row.at) refl refl (kept_without at rows q)
  where
    own : is_property q row.at ≡ true → is_property at row.at ≡ is_property at q
    own same = ap (is_property at) (sym (property_eq q row.at same))

    by : (t u : Bool) → is_property q row.at ≡ t → is_property at row.at ≡ u → kept_of (without at rows) q ≡ cond (is_property at q) None (kept_of rows q)
        → kept_of (cond (not u) (row ∷ without at rows) (without at rows)) q
        ≡ cond (is_property at q) None (option_map (λ (row : CacheEntry). row.kept)
        (cond t (Some row) (find (λ (row : CacheEntry). is_property q row.at) rows)))
    by true true same goes rest = let here : is_property at q ≡ true = sym (own same) ∙ goes in rw here (rest ∙ rw here refl)
    by true false same stays rest = let here : is_property at q ≡ false = sym (own same) ∙ stays in rw (here, same) refl
    by false true other goes rest = rest
    by false false other stays rest = rw other rest

other_kept : (at : Property) (rows : List CacheEntry) (q : Property) (kept : EvalResult) → kept_of (without at rows) q ≡ Some kept
    → (is_property at q ≡ false) × (kept_of rows q ≡ Some kept)
other_kept at rows q kept is = by (is_property at q) (sym (kept_without at rows q) ∙ is)
  where
    by : (t : Bool) → cond t None (kept_of rows q) ≡ Some kept → (t ≡ false) × (kept_of rows q ≡ Some kept)
    by true e = absurd (cc)
    by false e = (refl, e)

pub without_twice : (at : Property) (rows : List CacheEntry) → without at (without at rows) ≡ without at rows
without_twice at rows = filter_all (λ (row : CacheEntry). not (is_property at row.at)) (without at rows)
    (filter_passes (λ (row : CacheEntry). not (is_property at row.at)) rows)

-- what was read knows its readers

pub readers_within : (some more : List CacheEntry) (edges : List Edge) → IsWithin (kept_of some) (kept_of more) → HasReaders more edges → HasReaders some edges
readers_within some more edges within has q kept is = has q kept (within q kept is)

pub readers_without : (at : Property) (rows : List CacheEntry) (edges : List Edge) → HasReaders rows edges → HasReaders (without at rows) edges
readers_without at rows edges has = readers_within (without at rows) rows edges (λ q kept is. (other_kept at rows q kept is).1) has

pub readers_more : (rows : List CacheEntry) (edges more : List Edge) → AreAmong edges more → HasReaders rows edges → HasReaders rows more
readers_more rows edges more among has q kept is k d lt = among _ (has q kept is k d lt)

pub readers_fewer : (at : Property) (rows : List CacheEntry) (old new : List Edge) → AreFewer at old new → HasReaders (without at rows) old
    → HasReaders (without at rows) new
readers_fewer at rows old new fewer has q kept is k d lt = fewer.others (get_or kept.reads k d) q (other_kept at rows q kept is).0 (has q kept is k d lt)

pub unread_within : (edges : List Edge) (old new : List CacheEntry) → IsWithin (kept_of new) (kept_of old) → (q : Property) → IsUnread edges old q
    → IsUnread edges new q
unread_within edges old new within q unread reader there = by (kept_of new reader) refl
  where
    by : (o : Option EvalResult) → kept_of new reader ≡ o → o ≡ None
    by None is = refl
    by (Some kept) is = absurd (let gone = sym (unread reader there) ∙ within reader kept is in cc)

-- touched properties

longer_itself : (l : List Property) → IsLonger l l
longer_itself l = ([], sym (end l))
  where
    end : (l : List Property) → l ++ [] ≡ l
    end [] = refl
    end (x ∷ xs) = ap (λ ys. x ∷ ys) (end xs)

pub longer_then : (a b c : List Property) → IsLonger a b → IsLonger b c → IsLonger a c
longer_then a b c ab bc = (ab.0 ++ bc.0, bc.1 ∙ (ap (λ l. l ++ bc.0) ab.1 ∙ append_assoc a ab.0 bc.0))

pub longer_push : (old new : List Property) (x : Property) → IsLonger old new → IsLonger old (new ++ x ∷ [])
longer_push old new x longer = longer_then old new (new ++ x ∷ []) longer (x ∷ [], refl)

pub longer_among : (old new : List Property) → IsLonger old new → (q : Property) → among q old ≡ true → among q new ≡ true
longer_among old new longer q there = ap (among q) longer.1 ∙ (list_any-append (is_property q) old longer.0 ∙ or_left (among q old) (among q longer.0) there)

pub longer_length : (old new : List Property) → IsLonger old new → length old ≤ length new
longer_length old new longer = omega (arith, length-append old longer.0, ap length longer.1)

pub longer_take : (old new : List Property) → IsLonger old new → (n : ℕ) → n ≤ length old → take n new ≡ take n old
longer_take old new longer n within = ap (take n) longer.1 ∙ take-append-le n old longer.0 within

pub among_contains : (q : Property) (marks : List Property) → among q marks ≡ true → Contains marks q
among_contains q [] h = absurd (cc)
among_contains q (m ∷ marks) h = by (is_property q m) refl h (among_contains q marks)
  where
    by : (t : Bool) → is_property q m ≡ t → (t || among q marks) ≡ true → (among q marks ≡ true → Contains marks q) → Contains (m ∷ marks) q
    by true e h next = subst (Contains (m ∷ marks)) (sym (property_eq q m e)) (contains_first m marks)
    by false e h next = contains_later m q marks (next h)

-- what is let go of

pub none_gone : (rows : List CacheEntry) → AreLetGo (kept_of rows) [] rows
none_gone rows q = refl

pub one_gone : (before : Keeping) (touched : List Property) (at : Property) (rows : List CacheEntry) → AreLetGo before touched rows
    → AreLetGo before (touched ++ at ∷ []) (without at rows)
one_gone before touched at rows gone q = kept_without at rows q
    ∙ (ap (λ o. cond (is_property at q) None o) (gone q) ∙ (by (is_property at q) (among q touched) ∙ ap (λ b. cond b None (before q)) (sym joined)))
  where
    joined : among q (touched ++ at ∷ []) ≡ (among q touched || (is_property at q || false))
    joined = list_any-append (is_property q) touched (at ∷ []) ∙ ap (λ b. among q touched || (b || false)) (is_property_sym q at)

    by : (t u : Bool) → cond t None (cond u None (before q)) ≡ cond (u || (t || false)) None (before q)
    by true true = refl
    by true false = refl
    by false true = refl
    by false false = refl

-- Where nothing is kept of a property, it is let go already.
pub gone_already : (at : Property) (rows : List CacheEntry) → kept_of rows at ≡ None → AreLetGo (kept_of rows) (at ∷ []) rows
gone_already at rows none q = by (is_property q at) refl
  where
    by : (t : Bool) → is_property q at ≡ t → kept_of rows q ≡ cond (t || false) None (kept_of rows q)
    by true e = ap (kept_of rows) (property_eq q at e) ∙ none
    by false e = refl

-- where nothing is kept of a property, nothing changes where it goes
pub none_gone_more : (before : Keeping) (touched : List Property) (at : Property) (rows : List CacheEntry) → kept_of rows at ≡ None
    → AreLetGo before touched rows → AreLetGo before touched (without at rows)
none_gone_more before touched at rows none gone q = kept_without at rows q ∙ (by (is_property at q) refl ∙ gone q)
  where
    by : (t : Bool) → is_property at q ≡ t → cond t None (kept_of rows q) ≡ kept_of rows q
    by true e = sym (ap (kept_of rows) (sym (property_eq at q e)) ∙ none)
    by false e = refl

-- what is kept of a property makes one entry fewer where it goes
pub one_fewer : (at : Property) (rows : List CacheEntry) → is_some (kept_of rows at) ≡ true → length (without at rows) < length rows
one_fewer at [] there = absurd (cc)
one_fewer at (row ∷ rows) there = by (is_property at row.at) refl there (one_fewer at rows)
  where
    fewer : length (without at rows) ≤ length rows
    fewer = omega (
      arith,
      length-filter (λ (row : CacheEntry). not (is_property at row.at)) rows,
      count_by-le-length (λ (row : CacheEntry). not (is_property at row.at)) rows,
    )

    by : (t : Bool) → is_property at row.at ≡ t
        → is_some (option_map (λ (row : CacheEntry). row.kept) (cond t (Some row) (find (λ (row : CacheEntry). is_property at row.at) rows))) ≡ true
        → (is_some (kept_of rows at) ≡ true → length (without at rows) < length rows)
        → length (cond (not t) (row ∷ without at rows) (without at rows)) < suc (length rows)
    by true e there rest = omega (arith, fewer)
    by false e there rest = let less = rest there in omega (arith, less)

pub no_more : (at : Property) (rows : List CacheEntry) → length (without at rows) ≤ length rows
no_more at rows = omega (
  arith,
  length-filter (λ (row : CacheEntry). not (is_property at row.at)) rows,
  count_by-le-length (λ (row : CacheEntry). not (is_property at row.at)) rows,
)

within_without : (at : Property) (rows : List CacheEntry) → IsWithin (kept_of (without at rows)) (kept_of rows)
within_without at rows q kept is = (other_kept at rows q kept is).1

pub gone_more : (before : Keeping) (touched : List Property) (k : ℕ) (default : Property) (rows : List CacheEntry) → k < length touched
    → AreLetGo before (take k touched) rows → AreLetGo before (take (k + 1) touched) (without (get_or touched k default) rows)
gone_more before touched k default rows within gone = subst (λ some. AreLetGo before some (without (get_or touched k default) rows))
    (sym (more touched k within)) (one_gone before (take k touched) (get_or touched k default) rows gone)
  where
    more : (l : List Property) (k : ℕ) → k < length l → take (k + 1) l ≡ take k l ++ get_or l k default ∷ []
    more l k lt = take_more l k default lt

-- a reader is touched where something was kept of it

not_some : {A : Type 0} (o : Option A) → is_some o ≡ false → o ≡ None
not_some None none = refl
not_some (Some a) none = absurd (cc)

touch_gone : (stood : Bool) (before : Keeping) (old new : List Property) (reader : Property) (rows after : List CacheEntry)
    → stood ≡ is_some (kept_of rows reader) → new ≡ cond stood (old ++ reader ∷ []) old → after ≡ without reader rows
    → AreLetGo before old rows → AreLetGo before new after
touch_gone true before old new reader rows after is new_is after_is gone =
    subst (λ touched. AreLetGo before touched after) (sym new_is)
    (subst (AreLetGo before (old ++ reader ∷ [])) (sym after_is) (one_gone before old reader rows gone))
touch_gone false before old new reader rows after is new_is after_is gone =
    subst (λ touched. AreLetGo before touched after) (sym new_is)
    (subst (AreLetGo before old) (sym after_is) (none_gone_more before old reader rows (not_some (kept_of rows reader) (sym is)) gone))

touch_longer : (stood : Bool) (first old new : List Property) (reader : Property) → new ≡ cond stood (old ++ reader ∷ []) old → IsLonger first old
    → IsLonger first new
touch_longer true first old new reader new_is longer = subst (IsLonger first) (sym new_is) (longer_push first old reader longer)
touch_longer false first old new reader new_is longer = subst (IsLonger first) (sym new_is) longer

touch_less : (stood : Bool) (old new : List Property) (reader : Property) (rows after : List CacheEntry) → stood ≡ is_some (kept_of rows reader)
    → new ≡ cond stood (old ++ reader ∷ []) old → after ≡ without reader rows → length after + length new ≤ length rows + length old
touch_less true old new reader rows after is new_is after_is =
    let fewer = one_fewer reader rows (sym is) in
    omega (arith, fewer, ap length new_is, ap length after_is, length-append old (reader ∷ []))
touch_less false old new reader rows after is new_is after_is =
    let fewer = no_more reader rows in
    omega (arith, fewer, ap length new_is, ap length after_is)

-- what has read a property is stale, and so for those before it

pub unread_more : (old new : List Property) (edges : List Edge) (rows fewer : List CacheEntry) (at : ℕ) (d : Property) → at < length old → IsLonger old new
    → IsWithin (kept_of fewer) (kept_of rows) → All (IsUnread edges rows) (take at old) → IsUnread edges fewer (get_or old at d)
    → All (IsUnread edges fewer) (take (at + 1) new)
unread_more old new edges rows fewer at d lt longer within all here =
    subst (All (IsUnread edges fewer)) (sym (longer_take old new longer (at + 1) (omega (arith, lt))))
    (All-more (IsUnread edges fewer) old at d lt
    (All-weaker (IsUnread edges rows) (IsUnread edges fewer) (unread_within edges rows fewer within) (take at old) all) here)

-- where nothing that is kept has read what is touched
pub nothing_reads : (before : Keeping) (touched : List Property) (rows all : List CacheEntry) (edges : List Edge) → AreLetGo before touched rows
    → All (IsUnread edges rows) touched → IsWithin (kept_of rows) (kept_of all) → HasReaders all edges → IsReached before touched rows
nothing_reads before touched rows all edges gone unread within has = record {
  gone = gone;
  unread = λ q kept is k d lt. false_from_ne_true (among (get_or kept.reads k d) touched) (λ on.
      let none = All-contains (IsUnread edges rows) touched (get_or kept.reads k d) unread (among_contains (get_or kept.reads k d) touched on) q
      (has q kept (within q kept is) k d lt) in
      let both : None ≡ Some kept = sym none ∙ is in cc);
}

-- the edges before a position of a property lead to nothing that is kept
abbrev pub AreDone : List Edge → List CacheEntry → Property → ℕ → Type 0
AreDone edges rows read at = AllWithin (λ edge. leads_from read edge ≡ true
    → kept_of rows (record { object = edge.reader_object; number = edge.reader_number }) ≡ None) edges 0 at

pub done_first : (edges : List Edge) (rows : List CacheEntry) (read : Property) (at : ℕ) → AllWithin (λ edge. is_ahead read edge ≡ true) edges 0 at
    → AreDone edges rows read at
done_first edges rows read at ahead k d low high leads = absurd (ahead_apart read (get_or edges k d) (ahead k d low high) leads)

done_next : (edges : List Edge) (rows : List CacheEntry) (read reader : Property) (at : ℕ) → IsEdgeAt edges at (edge_of read reader)
    → AreDone edges rows read at → AreDone edges (without reader rows) read (at + 1)
done_next edges rows read reader at is done k d low high leads = ⊎_elim
    (λ (front : k < at). none_without (record { object = (get_or edges k d).reader_object; number = (get_or edges k d).reader_number })
    (done k d low front leads))
    (λ (behind : at ≤ k).
    let here : get_or edges k d ≡ edge_of read reader = ap (λ n. get_or edges n d) (let same : k ≡ at = omega (arith, behind, high) in same) ∙ is.here d in
    subst (λ (edge : Edge). kept_of (without reader rows) (record { object = edge.reader_object; number = edge.reader_number }) ≡ None) (sym here)
    (kept_without reader rows reader ∙ ap (λ t. cond t None (kept_of rows reader)) (is_itself reader)))
    (cases_lt k at)
  where
    none_without : (q : Property) → kept_of rows q ≡ None → kept_of (without reader rows) q ≡ None
    none_without q none = kept_without reader rows q ∙ by (is_property reader q)
      where
        by : (t : Bool) → cond t None (kept_of rows q) ≡ None
        by true = refl
        by false = none

pub done_all : (edges : List Edge) (rows : List CacheEntry) (read : Property) (at : ℕ) → AreDone edges rows read at
    → AllWithin (λ edge. leads_from read edge ≡ false) edges at (length edges) → IsUnread edges rows read
done_all edges rows read at done past reader there = All-contains
    (λ (edge : Edge). leads_from read edge ≡ true → kept_of rows (record { object = edge.reader_object; number = edge.reader_number }) ≡ None)
    edges (edge_of read reader) all there (leads_itself read reader)
  where
    all : All (λ (edge : Edge). leads_from read edge ≡ true
        → kept_of rows (record { object = edge.reader_object; number = edge.reader_number }) ≡ None) edges
    all k d lt leads = ⊎_elim
        (λ (front : k < at). done k d (omega arith) front leads)
        (λ (behind : at ≤ k). absurd (both_ways _ (past k d behind lt) leads))
        (cases_lt k at)

-- rows behind others

first_kept : Option EvalResult → Option EvalResult → Option EvalResult
first_kept None later = later
first_kept (Some kept) later = Some kept

kept_join : (xs ys : List CacheEntry) (q : Property) → kept_of (xs ++ ys) q ≡ first_kept (kept_of xs q) (kept_of ys q)
unfolding first_kept
kept_join [] ys q = refl
kept_join (x ∷ xs) ys q = by (is_property q x.at) (kept_join xs ys q)
  where
    by : (t : Bool) → kept_of (xs ++ ys) q ≡ first_kept (kept_of xs q) (kept_of ys q)
        → option_map (λ (row : CacheEntry). row.kept) (cond t (Some x) (find (λ (row : CacheEntry). is_property q row.at) (xs ++ ys)))
        ≡ first_kept (option_map (λ (row : CacheEntry). row.kept) (cond t (Some x) (find (λ (row : CacheEntry). is_property q row.at) xs))) (kept_of ys q)
    by true rest = refl
    by false rest = rest

pub kept_put : (row : CacheEntry) (old new : List CacheEntry) → IsPut row old new → kept_of old row.at ≡ None → AreKeptToo (row ∷ []) old new
unfolding first_kept
kept_put row old new put none q = put q ∙ (by (is_property q row.at) refl (kept_of old q) refl ∙ sym (kept_join old (row ∷ []) q))
  where
    by : (t : Bool) → is_property q row.at ≡ t → (o : Option EvalResult) → kept_of old q ≡ o
        → cond t (Some row.kept) o ≡ first_kept o (option_map (λ (row : CacheEntry). row.kept) (cond t (Some row) None))
    by true same None is = refl
    by true same (Some kept) is = absurd (let gone : None ≡ Some kept = sym none ∙ (ap (kept_of old) (sym (property_eq q row.at same)) ∙ is) in cc)
    by false other None is = refl
    by false other (Some kept) is = refl

pub kept_already : (row : CacheEntry) (old : List CacheEntry) → is_some (kept_of old row.at) ≡ true → AreKeptToo (row ∷ []) old old
unfolding first_kept
kept_already row old there q = by (is_property q row.at) refl (kept_of old q) refl ∙ sym (kept_join old (row ∷ []) q)
  where
    by : (t : Bool) → is_property q row.at ≡ t → (o : Option EvalResult) → kept_of old q ≡ o
        → o ≡ first_kept o (option_map (λ (row : CacheEntry). row.kept) (cond t (Some row) None))
    by true same None is = absurd
        (let gone : false ≡ true = sym (ap is_some is) ∙ (ap (λ (p : Property). is_some (kept_of old p)) (property_eq q row.at same) ∙ there) in cc)
    by true same (Some kept) is = refl
    by false other None is = refl
    by false other (Some kept) is = refl

pub kept_next : (rows after : List CacheEntry) (row : CacheEntry) (rest all : List CacheEntry) → AreKeptToo (row ∷ []) rows after
    → ((q : Property) → kept_of (rows ++ row ∷ rest) q ≡ kept_of all q) → (q : Property) → kept_of (after ++ rest) q ≡ kept_of all q
kept_next rows after row rest all same before q =
    kept_join after rest q ∙ (ap (λ o. first_kept o (kept_of rest q)) (same q)
    ∙ (sym (kept_join (rows ++ row ∷ []) rest q) ∙ (ap (λ l. kept_of l q) (append_assoc rows (row ∷ []) rest) ∙ before q)))

-- where a property is put, what was kept of it is nothing to what is kept then
pub put_over : (row : CacheEntry) (old between new : List CacheEntry)
    → ((q : Property) → is_property row.at q ≡ false → kept_of between q ≡ kept_of old q) → IsPut row between new → IsPut row old new
put_over row old between new same put q = put q ∙ by (is_property q row.at) refl
  where
    by : (t : Bool) → is_property q row.at ≡ t → cond t (Some row.kept) (kept_of between q) ≡ cond t (Some row.kept) (kept_of old q)
    by true e = refl
    by false e = same q (is_property_sym row.at q ∙ e)

pub same_without : (at : Property) (rows : List CacheEntry) (q : Property) → is_property at q ≡ false → kept_of (without at rows) q ≡ kept_of rows q
same_without at rows q differs = kept_without at rows q ∙ ap (λ t. cond t None (kept_of rows q)) differs

-- with what is put, what it has read knows its reader
pub readers_put : (row : CacheEntry) (old new : List CacheEntry) (edges : List Edge) → IsPut row old new
    → All (λ read. Contains edges (edge_of read row.at)) row.kept.reads → HasReaders old edges → HasReaders new edges
readers_put row old new edges put added has q kept is = by (is_property q row.at) refl (sym (put q) ∙ is)
  where
    by : (t : Bool) → is_property q row.at ≡ t → cond t (Some row.kept) (kept_of old q) ≡ Some kept → All (λ read. Contains edges (edge_of read q)) kept.reads
    by true same e =
        let one : row.kept ≡ kept = cc in
        subst (λ (p : Property). All (λ read. Contains edges (edge_of read p)) kept.reads) (sym (property_eq q row.at same))
        (subst (λ (k : EvalResult). All (λ read. Contains edges (edge_of read row.at)) k.reads) one added)
    by false other e = has q kept e

-- what a look-up says of what is kept

pub some_there : {A B : Type 0} (f : A → B) (o : Option A) (p : Option B) → option_map f o ≡ p → is_some o ≡ true → is_some p ≡ true
some_there f None p e there = absurd (cc)
some_there f (Some a) p e there = ap is_some (sym e)

pub by_result : {T E P Q X : Type 0} (r : Result T E) → (P → X) → (Q → X) → OnOk r P → OnErr r Q → X
by_result (Ok v) ok err p q = ok p
by_result (Err e) ok err p q = err q

-- readers of a property that were touched, from where its edges begin to a position
pub record AreTouched (edges : List Edge) (read : Property) (first rows : List KeptRow) (before touched : List Property) (at : ℕ) : Type 0 where
  pub gone : (keeping : Keeping) → AreLetGo keeping before (standing first) → AreLetGo keeping touched (standing rows)
  pub same : entries rows ≡ entries first
  pub within : IsWithin (kept_of (standing rows)) (kept_of (standing first))
  pub longer : IsLonger before touched
  pub less : length (standing rows) + length touched ≤ length (standing first) + length before
  pub done : AreDone edges (standing rows) read at
  pub ahead : AllWithin (λ edge. is_ahead read edge ≡ false) edges at (length edges)

pub touched_first : (edges : List Edge) (read : Property) (rows : List KeptRow) (touched : List Property) (at : ℕ) → IsStart edges read at
    → AreTouched edges read rows rows touched touched at
touched_first edges read rows touched at start = record {
  gone = λ keeping was. was;
  same = refl;
  within = λ q kept is. is;
  longer = longer_itself touched;
  less = omega arith;
  done = done_first edges (standing rows) read at start.0;
  ahead = start.1;
}

-- the next one
pub touched_next : {edges : List Edge} {read : Property} {first rows : List KeptRow} {before touched : List Property} {at : ℕ}
    → AreTouched edges read first rows before touched at → (reader : Property) (next : ℕ) → IsEdgeAt edges at (edge_of read reader) → next ≡ at + 1
    → (stood : Bool) → stood ≡ is_some (kept_of (standing rows) reader) → (new : List Property) → new ≡ cond stood (touched ++ reader ∷ []) touched
    → (after : List KeptRow) → standing after ≡ without reader (standing rows) → entries after ≡ entries rows
    → AreTouched edges read first after before new next
touched_next {edges} {read} {first} {rows} {before} {touched} {at} it reader next edge next_is stood stood_is new new_is after after_is same = record {
  gone = λ keeping was. touch_gone stood keeping touched new reader (standing rows) (standing after) stood_is new_is after_is (it.gone keeping was);
  same = same ∙ it.same;
  within = λ q kept there. it.within q kept (within_without reader (standing rows) q kept (ap (λ rows. kept_of rows q) (sym after_is) ∙ there));
  longer = touch_longer stood before touched new reader new_is it.longer;
  less = let less = touch_less stood touched new reader (standing rows) (standing after) stood_is new_is after_is in omega (arith, less, it.less);
  done = subst (λ rows. AreDone edges rows read next) (sym after_is) (subst (AreDone edges (without reader (standing rows)) read) (sym next_is)
      (done_next edges (standing rows) read reader at edge it.done));
  ahead = λ k d low high. it.ahead k d (omega (arith, low, next_is)) high;
}
