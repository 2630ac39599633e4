use Rattle.std.proofs.Common.{◌∙◌, ◌∷◌, [], All, Contains, OnOk, ap, subst, sym}
use Rattle.std.proofs.lemmas.Result.{on_ok_weaker}
use Rattle.binding_values.specs.declared.eval_result.CacheEntry.{CacheEntry}
use Rattle.binding_values.specs.EvalResult.{kept_of}
use Rattle.binding_values.specs.Keeping.{entries, standing}
use Rattle.binding_values.specs.Reached.{AreKeptToo, HasReaders}
use Rattle.binding_values.specs.Readers.{edge_of}
use Rattle.binding_values.proofs.ReachedLemmas.{by_result, kept_put, put_over, readers_more, readers_put, same_without}
use Rattle.binding_values.proofs.kept_index.keep.Goals as goal

pub returns-in_default-clause-kept : goal.returns-in_default-clause-kept
returns-in_default-clause-kept c = c.in_default.ensures.kept

pub returns-in_default-clause-readers : goal.returns-in_default-clause-readers
returns-in_default-clause-readers c = c.in_default.ensures.readers c.args.readers.now c.requires

pub let_go-requires : goal.let_go-requires
let_go-requires c = subst (λ rows. HasReaders (entries rows) c.args.readers.now) (sym c.in-Some.ensures.left.1) c.requires

pub returns-in_err-add_all-clause-readers : goal.returns-in_err-add_all-clause-readers
returns-in_err-add_all-clause-readers c =
    readers_more (entries c.let_go.new.rows) c.let_go.new.readers c.add_all.new.self c.add_all.ensures.more c.let_go.ensures.readers

pub returns-clause-kept : goal.returns-clause-kept
returns-clause-kept c =
    let row : CacheEntry = c.in-Some.row in
    let left = c.in-Some.ensures.left in
    subst (λ rows. OnOk c.put.result (AreKeptToo (c.args.row ∷ []) (standing rows) (standing c.put.new.self))) left.1
    (subst (λ (row : CacheEntry). OnOk c.put.result (AreKeptToo (row ∷ []) (standing c.renew.new.self) (standing c.put.new.self))) left.0
    (on_ok_weaker c.put.result
    (λ put. kept_put row (standing c.renew.new.self) (standing c.put.new.self)
    (put_over row (standing c.renew.new.self) (standing c.let_go.new.rows) (standing c.put.new.self)
    (λ q differs. ap (λ rows. kept_of rows q) c.let_go.ensures.standing ∙ same_without row.at (standing c.renew.new.self) q differs) put)
    (rw (left.0, left.1) left.2))
    c.put.ensures.standing))

pub returns-clause-readers : goal.returns-clause-readers
returns-clause-readers c =
    let led : HasReaders (entries c.let_go.new.rows) c.add_all.new.self =
    readers_more (entries c.let_go.new.rows) c.let_go.new.readers c.add_all.new.self c.add_all.ensures.more c.let_go.ensures.readers in
    by_result c.put.result
    (λ put. readers_put c.in-Some.row (entries c.let_go.new.rows) (entries c.put.new.self) c.add_all.new.self put
    (subst (All (λ read. Contains c.add_all.new.self (edge_of read c.in-Some.row.at))) c.as_slice.ensures c.in_ok-add_all.ensures.added) led)
    (λ same. subst (λ rows. HasReaders (entries rows) c.add_all.new.self) (sym same) led)
    c.put.ensures.entries c.put.ensures.err
