use Rattle.std.proofs.Common.{◌∙◌, [], None, ap, map}
use Rattle.term_evaluation.specs.Stating.{put_in}
use Rattle.term_evaluation.specs.Unfolding.{act_by}
use Rattle.term_evaluation.proofs.StatingLemmas.{body_copied}
use Rattle.term_evaluation.proofs.substitution.copied_body.Goals as goal

pub returns : goal.returns
returns c = body_copied c.args.body.now c.from_vec.result
    (c.from_vec.ensures ∙ (c.in_ok-actions.ensures ∙ ap (map (act_by (put_in None []))) c.as_slice.ensures))
