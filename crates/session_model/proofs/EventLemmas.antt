-- The rules by which events are taken, one for each way that it goes; and the rule of each command for
-- events: why it is refused, what it does where it is not, and what it keeps of a session.
use Rattle.std.proofs.Common.{List, None, Ok, [], ap, arith, false, refl, subst, true, ℕ, ◌++◌, ◌<◌, ◌==◌, ◌∙◌, ◌∷◌, ◌≡◌}
use Rattle.std.proofs.lemmas.Bool.{cond-false, cond-true}
use Rattle.std.proofs.lemmas.Bool.Decides.{nat_tests}
use Rattle.std.proofs.lemmas.List.Elements.{All-cons, All-nil}
use Rattle.session_model.proofs.Common.{Event, event_items, step, operation_refusal, with_operation, Execution, begun, first_taken, used_up, replies}
use Rattle.session_model.proofs.Common.{IsFittingOperation, IsFittingItem, IsRightPost, Spin, puts, IsNamedItem, does_found, State, Operation}
use Rattle.session_model.proofs.KeepingLemmas.{Keeps, found_keeps, ran, stays}
use Rattle.session_model.specs.Agenda.{spun}
use Rattle.session_model.specs.Asked.{Do, Spin as spin}
use Rattle.session_model.specs.Operations.{operation_answer}
use Rattle.session_model.specs.Execution.{turn_taken}
use Rattle.session_model.specs.Events.{spins}
use Rattle.session_model.specs.Refusing.{refusal}
use Rattle.session_model.specs.Thread.{Settings, performs}
use Rattle.session_model.specs.Items as to_do

module _ (settings : Settings) (doing : Execution) where
  -- where there is no event, nothing is taken
  pub spin_empty : doing.state.queue.events ≡ [] → step settings Spin doing ≡ puts [] doing
  spin_empty none = ap (spun settings doing) none

  module _ (first : Event) (later : List Event) (has : doing.state.queue.events ≡ first ∷ later) where
    -- an event that finds no turn left is not taken, and no later one either
    pub spin_spent : doing.turns ≡ 0 → step settings Spin doing ≡ puts [] (used_up doing)
    spin_spent none =
        let is : (doing.turns == 0) ≡ true = grind (arith, nat_tests, none) in
        ap (spun settings doing) has ∙ cond-true (doing.turns == 0) _ _ is

    -- the first event takes a turn where one is left, and what it comes to is done before the next one
    -- is taken
    pub spin_taken : 0 < doing.turns → step settings Spin doing ≡ puts (event_items settings doing.state first ++ Spin ∷ []) (first_taken (turn_taken doing))
    unfolding turn_taken
    spin_taken some =
        let is : (doing.turns == 0) ≡ false = grind (arith, nat_tests, some) in
        ap (spun settings doing) has ∙ cond-false (doing.turns == 0) _ _ is

module _ (settings : Settings) (self : List ℕ) (state : State) where
  pub refusal_spin : refusal settings self state spin ≡ None
  unfolding refusal
  refusal_spin = refl

  pub performs_spin : performs settings self state spin ≡ spins settings state
  unfolding performs
  performs_spin = refl

  pub refusal_do : (operation : Operation) → refusal settings self state (Do operation) ≡ operation_refusal state operation
  unfolding refusal
  refusal_do operation = refl

  pub performs_do : (operation : Operation) → performs settings self state (Do operation)
      ≡ replies (with_operation state operation) (operation_answer state operation)
  unfolding performs
  performs_do operation = refl

module _ (settings : Settings) (state : State) where
  pub spin_keeps : Keeps settings state spin (spins settings state)
  spin_keeps = ran (Spin ∷ to_do.ReplySpun ∷ []) (begun settings state) (record {
    none = refl;
    leaves = stays;
    items = λ fits. All-cons (IsFittingItem settings state) Spin (to_do.ReplySpun ∷ []) tt
        (All-cons (IsFittingItem settings state) to_do.ReplySpun [] tt (All-nil (IsFittingItem settings state)));
    posts = All-nil IsRightPost;
    names = λ are is named. All-cons IsNamedItem Spin (to_do.ReplySpun ∷ []) tt (All-cons IsNamedItem to_do.ReplySpun [] tt (All-nil IsNamedItem));
  })

  pub do_keeps : (operation : Operation) → operation_refusal state operation ≡ None → Keeps settings state (Do operation) (does_found state (Ok operation))
  do_keeps operation passed = found_keeps (Ok operation) passed
      (λ other is may. let same : operation ≡ other = cc in subst (IsFittingOperation settings state.forest.rows) same may)
