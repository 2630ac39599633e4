use Rattle.std.proofs.Common.{◌∙◌, Some, ap, map}
use Rattle.term_evaluation.specs.Stating.{put_in}
use Rattle.term_evaluation.specs.Unfolding.{act_by}
use Rattle.term_evaluation.proofs.StatingLemmas.{put_in_both}
use Rattle.term_evaluation.proofs.substitution.unfold.Goals as goal

pub returns : goal.returns
returns c =
    c.from_vec.ensures
    ∙ (c.in_ok-actions.ensures
    ∙ (ap (map (act_by (put_in (Some c.args.state) c.args.args.now))) c.as_slice.ensures
    ∙ put_in_both c.args.state c.args.args.now c.args.body.now))
