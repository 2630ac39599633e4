use Rattle.std.proofs.Common.{arith}
use Rattle.std.proofs.lemmas.Grind.{common_steps}
use Rattle.std.proofs.lemmas.List.Elements.{filter_map-append}
use Rattle.term_evaluation.proofs.meeting.+meet_form.Goals as goal

pub meet_form-returns-else-not-take-clause-noted : goal.meet_form-returns-else-not-take-clause-noted
meet_form-returns-else-not-take-clause-noted g t c = grind (arith, common_steps, filter_map-append)

pub meet_form-returns-in-Some-true-clause-noted : goal.meet_form-returns-in-Some-true-clause-noted
meet_form-returns-in-Some-true-clause-noted g t c = grind (arith, common_steps, filter_map-append)

pub meet_form-returns-in-Some-false-clause-noted : goal.meet_form-returns-in-Some-false-clause-noted
meet_form-returns-in-Some-false-clause-noted g t c = grind (arith, common_steps, filter_map-append)
