use Rattle.std.proofs.Common.{◌≡◌, ◌∷◌, ◌+◌, drop, ap, sym, subst, ◌∙◌, Ok, arith}
use Rattle.std.proofs.lemmas.List.{drop_more}
use Rattle.session_engine.proofs.Common.{Answers, reads_refusal, state_at}
use Rattle.session_model.specs.Operations.{behind}
use Rattle.session_engine.proofs.BindingsLemmas.{read_passed, read_refused}
use Rattle.session_engine.proofs.bindings.check_reads.Goals as goal

pub returns-in_err-check_read : goal.returns-in_err-check_read
returns-in_err-check_read c =
    let state = state_at c.args.tables.now c.args.place in
    let reads = c.as_slice-read-items.result.now in
    let i = c.reads.read-index in
    let read = c.read-item.result in
    let there : drop i reads ≡ read ∷ drop (i + 1) reads = drop_more reads i read (omega arith) ∙ ap (λ read. read ∷ drop (i + 1) reads) (sym c.read-item.is) in
    subst (λ refusal. Answers c.from_residual-in_err-check_read.result (behind refusal (Ok (tt {0}))))
    (ap (reads_refusal state c.args.object) (sym there) ∙ c.reads.invariant)
    (read_refused state c.args.object read (drop (i + 1) reads) c.in_err-check_read.field-0.0 _ c.from_residual-in_err-check_read.ensures.1
    c.in_err-check_read.ensures)

pub reads-preserved : goal.reads-preserved
reads-preserved c =
    let state = state_at c.args.tables.now c.args.place in
    let reads = c.as_slice-read-items.result.now in
    let i = c.reads.read-index in
    let read = c.read-item.result in
    let there : drop i reads ≡ read ∷ drop (i + 1) reads = drop_more reads i read (omega arith) ∙ ap (λ read. read ∷ drop (i + 1) reads) (sym c.read-item.is) in
    sym (read_passed state c.args.object read (drop (i + 1) reads) c.in_ok-check_read.ensures) ∙ ap (reads_refusal state c.args.object) (sym there)
    ∙ c.reads.invariant
