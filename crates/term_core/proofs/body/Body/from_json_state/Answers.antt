use Rattle.serde_json.specs.View.{view}
use Rattle.term_core.specs.Bodies.{limited_body}
use Rattle.term_core.proofs.BodyLemmas.{answered, answers_next, functor_body_read}
use Rattle.term_core.proofs.body.Body.from_json_state.Goals as goal

pub returns-clause-answers : goal.returns-clause-answers
returns-clause-answers c = answers_next c.limited.result _ c.in_ok-actions.actions (limited_body c.args.params) c.in_ok-actions.ensures c.limited.ensures

pub returns-clause-params : goal.returns-clause-params
returns-clause-params c = (answered c.args.params c.limited.result _ (returns-clause-answers c) (functor_body_read c.args.params (view c.args.json.now))).0

pub returns-clause-sound : goal.returns-clause-sound
returns-clause-sound c = (answered c.args.params c.limited.result _ (returns-clause-answers c) (functor_body_read c.args.params (view c.args.json.now))).1
