-- What each command keeps of a session, and by that the laws of sessions.
use Rattle.std.proofs.Common.{List, None, Option, Some, arith, refl, ℕ, ◌≡◌}
use Rattle.session_model.proofs.Common.{Code, Asked, Settings, State}
use Rattle.session_model.proofs.BindLemmas.{begin_keeps, bind_keeps, end_keeps, unbind_keeps}
use Rattle.session_model.proofs.DeclaredLemmas.{item_declared, post_declared}
use Rattle.session_model.proofs.EventLemmas.{do_keeps, spin_keeps}
use Rattle.session_model.proofs.FittingItemLemmas.{item_fits}
use Rattle.session_model.proofs.FittingPostLemmas.{first_fits, post_fits}
use Rattle.session_model.proofs.KeepingLemmas.{FitsBefore, Keeps, refused, stays, told_one}
use Rattle.session_model.proofs.LawLemmas.{empty_sound, post_sound}
use Rattle.session_model.proofs.NamedLemmas.{by_item, empty_named, post_named}
use Rattle.session_model.proofs.PropertyLemmas.{set_keeps}
use Rattle.session_model.proofs.SharingLemmas.{join_keeps, leave_keeps, publish_keeps, reset_keeps, unpublish_keeps}
use Rattle.session_model.proofs.SignalLemmas.{connect_functor_keeps, connect_keeps, disconnect_keeps, disconnect_one_keeps, invoke_keeps}
use Rattle.session_model.proofs.TreeLemmas.{delete_keeps, new_keeps}
use Rattle.session_model.specs.Asked.{Ask, Begin, Bind, Connect, ConnectFunctor, Delete, Disconnect, DisconnectOne, Do, End, Invoke, Join, Leave, New}
use Rattle.session_model.specs.Asked.{Publish, Reset, Set, Spin, Unbind, Unpublish}
use Rattle.session_model.specs.Effects.{unless}
use Rattle.session_model.specs.Laws.{KeepsDeclared, KeepsFitting, KeepsNamed, KeepsSound}
use Rattle.session_model.specs.Refusing.{refusal}
use Rattle.session_model.specs.Thread.{does, performs}

performed_keeps : (settings : Settings) (self : List ℕ) (state : State) (asked : Asked) → refusal settings self state asked ≡ None
    → Keeps settings state asked (performs settings self state asked)
unfolding refusal performs
performed_keeps settings self state (New class parent) passed = new_keeps settings state class parent passed
performed_keeps settings self state (Delete target) passed = delete_keeps settings state target
performed_keeps settings self state (Set target property value) passed = set_keeps settings state target property value
performed_keeps settings self state (Connect sender signal receiver method mode unique single) passed =
    connect_keeps settings state sender signal receiver method mode unique single passed
performed_keeps settings self state (ConnectFunctor sender signal context functor mode unique single) passed =
    connect_functor_keeps settings state sender signal context functor mode unique single passed
performed_keeps settings self state (DisconnectOne connection) passed = disconnect_one_keeps settings state connection
performed_keeps settings self state (Disconnect sender signal receiver method) passed = disconnect_keeps settings state sender signal receiver method passed
performed_keeps settings self state (Invoke target method args mode priority) passed = invoke_keeps settings state target method args mode priority passed
performed_keeps settings self state Spin passed = spin_keeps settings state
performed_keeps settings self state (Do operation) passed = do_keeps settings state operation passed
performed_keeps settings self state (Publish target signal name) passed = publish_keeps settings state target signal name passed
performed_keeps settings self state (Unpublish name) passed = unpublish_keeps settings state name
performed_keeps settings self state (Join from name types target method) passed = join_keeps settings state self from name types target method passed
performed_keeps settings self state (Leave from name target method) passed = leave_keeps settings state from name target method
performed_keeps settings self state (Bind target property to) passed = bind_keeps settings state target property to passed
performed_keeps settings self state (Unbind target property) passed = unbind_keeps settings state target property
performed_keeps settings self state Begin passed = begin_keeps settings state passed
performed_keeps settings self state End passed = end_keeps settings state
performed_keeps settings self state (Ask query) passed = told_one refl stays
performed_keeps settings self state Reset passed = reset_keeps settings state

-- a refused command leaves the session
pub command_keeps : (settings : Settings) (self : List ℕ) (state : State) (asked : Asked) → Keeps settings state asked (does settings self state asked)
unfolding does
command_keeps settings self state asked = by (refusal settings self state asked) (performed_keeps settings self state asked)
  where
    by : (refusal : Option Code) → (refusal ≡ None → Keeps settings state asked (performs settings self state asked))
        → Keeps settings state asked (unless refusal state (performs settings self state asked))
    by None keeps = keeps refl
    by (Some code) keeps = refused

pub keeps_sound : KeepsSound
keeps_sound = record {
  at_first = empty_sound;
  by_command = λ settings self state asked. (command_keeps settings self state asked).leaves.sound;
  by_post = post_sound;
}

pub keeps_declared : KeepsDeclared
keeps_declared = record {
  at_first = λ classes index default within. absurd (omega arith);
  by_item = item_declared;
  by_command = λ settings self state asked. (command_keeps settings self state asked).leaves.declared;
  by_post = post_declared;
}

pub keeps_fitting : KeepsFitting
keeps_fitting = record {
  at_first = first_fits;
  by_item = item_fits;
  by_command = λ settings self state asked are may sound declared fit.
      (let keeps = command_keeps settings self state asked in
      let fits : FitsBefore settings state asked = record { are = are; may = may; sound = sound; declared = declared; fit = fit } in
      (keeps.leaves.fitting fits, keeps.posts fits));
  by_post = post_fits;
}

pub keeps_named : KeepsNamed
keeps_named = record {
  at_first = empty_named;
  by_item = λ settings item agenda doing are items named. by_item settings are item agenda doing items named;
  by_command = λ settings self state asked. (command_keeps settings self state asked).leaves.named;
  by_post = post_named;
}
