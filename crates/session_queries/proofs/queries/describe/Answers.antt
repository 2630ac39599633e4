use Rattle.std.proofs.Common.{Ok, sym, ap, slice_get, ◌∙◌}
use Rattle.std.specs.Option.{option_copied}
use Rattle.session_model.specs.declared.line.Answer.TheVariants as a
use Rattle.session_model.specs.Classes.{described}
use Rattle.session_model.proofs.ForCallers.{described_at}
use Rattle.session_queries.proofs.ReadingLemmas.{behind_first, behind_second, refused_reading}
use Rattle.session_queries.proofs.QueriesLemmas.{class_index_there, described_is}
use Rattle.session_queries.proofs.QueriesLemmas.{some_none}
use Rattle.session_queries.proofs.queries.describe.Goals as goal

pub returns-in_err-index : goal.returns-in_err-index
returns-in_err-index c = refused_reading _ _ _ c.in_err-index.field-0.0 _ c.from_residual.ensures.1 (behind_first _ _ _ c.in_err-index.ensures.refusal)

pub unreachable-requires : goal.unreachable-requires
unreachable-requires c =
    let classes = c.args.session.caller.now.setup.now.classes in
    let there = class_index_there classes c.args.class.now c.in_ok-index.ensures.refusal in
    some_none _ (sym (sym (ap option_copied c.in_default.is) ∙ c.class_row.ensures.value ∙ ap (slice_get classes) c.in_ok-index.ensures.index ∙ there.1))

pub returns : goal.returns
returns c =
    let classes = c.args.session.caller.now.setup.now.classes in
    record {
      returns =
          behind_second _ _ c.in_ok-index.ensures.refusal
          ∙ ap (λ index. Ok (a.Meta (described classes index))) (sym c.in_ok-index.ensures.index)
          ∙ ap (λ meta. Ok (a.Meta meta)) (described_at classes c.in_ok-index.index c.in-Some.row.now (sym c.in-Some.ensures.value)
          ∙ described_is classes c.in_ok-index.index c.in-Some.row.now _ _ _ _ _ _ c.in_ok-copy.ensures c.in-Some.ensures.has.method_offset
          c.in_ok-method_texts.ensures
          c.in_ok-property_names.ensures c.in-Some.ensures.has.property_offset c.in_ok-superclass_name.ensures ∙ sym c.in_ok-new.ensures);
    }
