-- Each item leaves a session that fits the classes and the functors, and what it comes to fits.
use Rattle.std.proofs.Common.{◌≡◌, ◌+◌, ℕ, Bool, true, false, List, [], ◌∷◌, ◌++◌, Option, Some, None, Ok, is_some, slice_get, refl, sym, ap, subst, ◌∙◌}
use Rattle.std.specs.List.{All, list_all}
use Rattle.std.specs.Option.{option_map_or}
use Rattle.std.proofs.lemmas.Bool.{and_parts}
use Rattle.std.proofs.lemmas.List.Elements.{All-append, All-cons, All-head, All-map, All-nil, All-tail, All-weaker}
use Rattle.session_model.proofs.Common.{Signature, Value, IsShort, SingleAction, Acts, acts_of, more, nothing, is_within_limits, Term, Method, methods, Row}
use Rattle.session_model.proofs.Common.{object_refusal, children, is_there, row_of, Functor, AreArguments, after, with_state, DESTROYED, Operation}
use Rattle.session_model.proofs.Common.{absence, act_operation, acts, branch, emission, call_line, functor_line, functor_ran, ran, step, behind}
use Rattle.session_model.proofs.Common.{Execution, severed, line_told, stepped, AreSettings, IsCall, IsFittingOperation, IsFittingItem, IsSent}
use Rattle.session_model.proofs.Common.{functor_at, Act, Detach, Emit, Remove, Item, DeleteChild, Next, puts, ◌>>=◌}
use Rattle.session_model.proofs.Common.{kinds_at, method_at, methods_by, methods_of, signal_with, Settings, comes_to, IsDeclared, IsWhole, State}
use Rattle.session_model.proofs.Common.{without_object, functor_state, all_converted, all_evaluated, object_of, with_writing, written, written_property}
use Rattle.term_core.specs.declared.action.SingleAction.TheVariants as e
use Rattle.term_core.specs.Act.{are_limited}
use Rattle.plain_types.specs.declared.callee.Callee.TheVariants as callee
use Rattle.session_model.specs.declared.operation.Operation.TheVariants as d
use Rattle.session_model.specs.Absence.{named_absence}
use Rattle.session_model.specs.Acts.{connection, pattern}
use Rattle.session_model.specs.Agenda.{delete_children}
use Rattle.session_model.specs.Execution.{dying}
use Rattle.session_model.specs.Fitting.{IsFittingUnderWay}
use Rattle.session_model.specs.Methods.{method_with}
use Rattle.session_model.specs.Targets.{named_object_of}
use Rattle.session_model.proofs.FittingArgumentLemmas.{all_evaluated_short, converted_arguments, short_arguments}
use Rattle.session_model.proofs.FittingCallLemmas.{callee_gone_comes, functor_comes, method_comes, sends_comes, takes_comes}
use Rattle.session_model.proofs.StepLemmas.{Cases, step_cases}
use Rattle.session_model.proofs.FittingChangeLemmas.{Carries, Comes, done_carries, dying_carries, fits_writing, no_item, one_item, severed_carries}
use Rattle.session_model.proofs.FittingChangeLemmas.{told_carries, stepped_carries, used_up_carries}
use Rattle.session_model.proofs.DeclaredLemmas.{item_declared}
use Rattle.session_model.proofs.ForestLemmas.{each_marked, of_row}
use Rattle.session_model.proofs.FoundLemmas.{found_past, then_found}
use Rattle.session_model.proofs.ItemLemmas.{item_under_way}
use Rattle.session_model.proofs.FittingFoundLemmas.{connection_fits, operation_fits, method_there, pattern_fits, signal_there}
use Rattle.session_model.proofs.FittingClassLemmas.{Fits, HaveClasses, class_at, fits_own, fits_whole, has_method, own_classes}
use Rattle.session_model.proofs.FittingTableLemmas.{destroyed, first_method, functor_limited, method_limited}
use Rattle.session_model.proofs.FittingLaterLemmas.{classes_stay, item_stays}
use Rattle.session_model.proofs.FittingToldLemmas.{change_fits}

-- the actions of a body that keeps to the limits fit, over short arguments
acts_fit : (settings : Settings) (state : State) (body : Acts) (args : List Value) (self sender depth : ℕ) → are_limited body ≡ true → All IsShort args
    → All (IsFittingItem settings state) (acts body args self sender depth)
acts_fit settings state nothing args self sender depth limited short = All-nil (IsFittingItem settings state)
acts_fit settings state (more action rest) args self sender depth limited short =
    All-cons (IsFittingItem settings state) (Act action args self sender depth) (acts rest args self sender depth) ((and_parts _ _ limited).0, short)
    (acts_fit settings state rest args self sender depth (and_parts _ _ limited).1 short)

module _ (settings : Settings) (are : AreSettings settings) where
  -- the method of an object keeps to the limits
  body_limited : (rows : List Row) (target index : ℕ) (method : Method) → slice_get (methods_by settings.classes rows target) index ≡ Some method
      → are_limited (acts_of method.body.actions) ≡ true
  body_limited rows target index method is = by (row_of rows target) is
    where
      by : (row : Option Row) → slice_get (option_map_or (λ row. methods settings.classes row.class) row []) index ≡ Some method
          → are_limited (acts_of method.body.actions) ≡ true
      by None e = absurd (cc)
      by (Some row) e = method_limited settings are row.class index method e

  -- `destroyed()` may be sent of every object
  destroyed_sent : (rows : List Row) → HaveClasses settings rows → (target : ℕ) → is_there rows target ≡ true → IsSent settings rows target DESTROYED []
  destroyed_sent rows classes target there = by (row_of rows target) refl there
    where
      by : (row : Option Row) → row_of rows target ≡ row → is_some row ≡ true → IsSent settings rows target DESTROYED []
      by None is e = absurd (cc)
      by (Some row) is e =
          let class = of_row (λ number class dying. is_some (slice_get settings.classes class) ≡ true) rows target row is classes in
          let first : slice_get (methods_by settings.classes rows target) 0 ≡ Some destroyed =
          ap (λ row. slice_get (option_map_or (λ (row : Row). methods settings.classes row.class) row []) 0) is
          ∙ first_method settings are row.class class in
          record {
            signal_there = ap (λ found. option_map_or (λ (method : Method). method.is_signal) found false) first;
            arguments = subst (λ kinds. AreArguments kinds [])
                (sym (ap (λ found. option_map_or (λ (method : Method). method.signature.kinds) found []) first)) tt;
          }

  module _ (doing : Execution) (on : Carries settings doing.state.forest.rows doing) where
    abbrev rows : List Row
    rows = doing.state.forest.rows

    -- a slot that is run does what its body says
    runs_comes : (target index sender : ℕ) (args : List Value) (depth : ℕ)
        → (is_there rows target ≡ true → IsCall settings rows target (callee.Method index) args) → (method : Method)
        → method_at settings doing.state target index ≡ Some method → Comes settings rows (ran doing target sender args depth method)
    runs_comes target index sender args depth fit method is = record {
      carries = told_carries doing on (call_line method target sender args);
      items = acts_fit settings (line_told doing (call_line method target sender args)).state (acts_of method.body.actions) args target sender (depth + 1)
          (body_limited rows target index method is)
          (short_arguments _ args (fit (has_method settings.classes rows target index method is)).arguments);
    }

    runs_functor_comes : (target index sender connection : ℕ) (args : List Value) (depth : ℕ) → IsCall settings rows target (callee.Functor index) args
        → (functor : Functor) → functor_at settings index ≡ Some functor
        → Comes settings rows (functor_ran doing target sender connection args depth functor)
    runs_functor_comes target index sender connection args depth fit functor is =
        let new = line_told doing (functor_line functor target sender args) in
        let state = functor_state doing.state connection in
        let next = after functor.next state args in
        record {
          carries = stepped_carries new (told_carries doing on (functor_line functor target sender args)) connection next;
          items = acts_fit settings (stepped new connection next).state (acts_of (with_state state functor.body).actions) args target sender (depth + 1)
              (functor_limited settings are index state functor is) (short_arguments _ args fit.arguments);
        }

    chooses_comes : (held failed : Acts) (args : List Value) (self sender depth : ℕ) (truth : Bool) → are_limited held ≡ true → are_limited failed ≡ true
        → All IsShort args → Comes settings rows (puts (acts (branch truth held failed) args self sender depth) doing)
    chooses_comes held failed args self sender depth true one other short =
        record { carries = on; items = acts_fit settings doing.state held args self sender depth one short }
    chooses_comes held failed args self sender depth false one other short =
        record { carries = on; items = acts_fit settings doing.state failed args self sender depth other short }

    -- another state is told of
    telling_comes : IsWhole doing.state → (depth : ℕ) (after : State) (written : _) → Fits settings rows after → IsWhole after
        → IsDeclared settings.classes after → Comes settings rows (comes_to settings doing depth after written)
    telling_comes before depth after written fit whole declared =
        record { carries = record { fits = fit; posts = on.posts }; items = change_fits settings are.table after whole declared doing before depth written }

    made : (one other : Operation) → IsFittingOperation settings rows one → one ≡ other → IsFittingOperation settings rows other
    made one other fits same = subst (IsFittingOperation settings rows) same fits

    module _ (whole : IsWhole doing.state) (self sender : ℕ) (args : List Value) where
      -- a signal of an object's class is sent with values of its kinds
      emission_sent : All IsShort args → (of : ℕ) (signal : Signature) (sent : List Term) → list_all is_within_limits sent ≡ true → (emitted : ℕ × List Value)
          → emission settings doing.state self sender args of signal sent ≡ Ok emitted → IsSent settings rows of emitted.0 emitted.1
      emission_sent short of signal sent limited emitted e =
          let methods = methods_of settings doing.state of in
          let (index, is, e) = then_found (signal_with methods signal) _ e in
          let (values, so, e) = then_found (all_evaluated doing.state self sender args sent) _ e in
          let (converted, its, e) = then_found (all_converted (kinds_at methods index) values) _ e in
          let same : (index, converted) ≡ emitted = cc in
          subst (λ (emitted : ℕ × List Value). IsSent settings rows of emitted.0 emitted.1) same (record {
            signal_there = signal_there methods signal index is;
            arguments = converted_arguments (kinds_at methods index) values converted
                (all_evaluated_short doing.state whole.properties whole.graph self sender args sent values short limited so) its;
          })

      -- the operation of an action fits
      act_fits : (plain : SingleAction) (operation : Operation) → act_operation settings doing.state self sender plain ≡ Some (Ok operation)
          → IsFittingOperation settings rows operation
      act_fits (e.Connect of signal to method mode unique single) operation is =
          let found : behind (object_refusal rows sends) (behind (object_refusal rows gets)
          (connection settings doing.state sends signal gets method mode single >>= λ new. Ok (d.Connect new unique))) ≡ Ok operation = cc in
          operation_fits settings rows (connection settings doing.state sends signal gets method mode single) unique
          (connection_fits settings doing.state sends (signal_with (methods_of settings doing.state sends) signal)
          (signal_there (methods_of settings doing.state sends) signal)
          gets (method_with (methods_of settings doing.state gets) method) (method_there (methods_of settings doing.state gets) method) mode single)
          operation (found_past (object_refusal rows gets) _ operation (found_past (object_refusal rows sends) _ operation found))
        where
          sends : ℕ
          sends = object_of doing.state self sender of

          gets : ℕ
          gets = object_of doing.state self sender to
      act_fits (e.Disconnect of signal to method) operation is = pattern_fits settings rows
          (absence doing.state (object_of doing.state self sender of)) (named_absence doing.state (named_object_of doing.state self sender to))
          (pattern settings doing.state (object_of doing.state self sender of) signal (named_object_of doing.state self sender to) method) operation (cc)
      act_fits (e.DeleteLater target) operation is = made (d.DeleteLater (object_of doing.state self sender target)) operation tt (cc)
      act_fits (e.Block of on') operation is = made (d.Block (object_of doing.state self sender of) on') operation tt (cc)
      act_fits (e.SetParent of parent) operation is =
          made (d.SetParent (object_of doing.state self sender of) (named_object_of doing.state self sender parent)) operation tt (cc)
      act_fits (e.Set of property value) operation is = absurd (cc)
      act_fits (e.Emit of signal sent) operation is = absurd (cc)
      act_fits (e.Delete target) operation is = absurd (cc)

    -- an object that begins to die sends `destroyed()`
    deleted : HaveClasses settings rows → (target depth : ℕ) →
        Comes settings rows (puts (Emit target DESTROYED [] depth ∷ Detach target depth ∷ Remove target depth ∷ []) (dying doing target))
    unfolding dying
    deleted classes target depth = record {
      carries = dying_carries doing on target;
      items = All-cons Fit (Emit target DESTROYED [] depth) (Detach target depth ∷ Remove target depth ∷ [])
          (destroyed_sent (dying doing target).state.forest.rows
          (each_marked HasClass HasClass doing.state.forest target (λ class dying has. has) (λ number class dying apart has. has) classes) target)
          (All-cons Fit (Detach target depth) (Remove target depth ∷ []) tt (All-cons Fit (Remove target depth) [] tt (All-nil Fit)));
    }
      where
        HasClass : ℕ → ℕ → Bool → Type 0
        HasClass number class dying = is_some (slice_get settings.classes class) ≡ true

        Fit : Item → Type 0
        Fit = IsFittingItem settings (dying doing target).state

    delete_children_come : (target depth : ℕ) → Comes settings rows (puts (delete_children doing target depth) (severed doing target))
    unfolding delete_children
    delete_children_come target depth = record {
      carries = severed_carries doing on target;
      items = All-map (IsFittingItem settings (severed doing target).state) (λ child. DeleteChild target child depth) (children rows (Some target))
          (λ index default within. tt);
    }

    -- what an item comes to
    abbrev FitsAfter : Item → Next → Type 0
    FitsAfter item next = IsFittingItem settings doing.state item → IsWhole next.doing.state → IsDeclared settings.classes next.doing.state
        → Comes settings rows next

    fit_cases : IsWhole doing.state → HaveClasses settings rows → Cases settings doing FitsAfter
    fit_cases whole classes = record {
      rests = λ item leaves fit after declared. no_item on;
      tells = λ item said leaves fit after declared. no_item (told_carries doing on said);
      uses_up = λ item leaves fit after declared. no_item (used_up_carries doing on);
      too_deep = λ target signal args depth fit after declared. one_item on tt;
      sends = λ target signal args depth row is fit after declared.
          sends_comes settings doing on whole.connections target signal args depth (fit (ap is_some is)).arguments;
      callee_gone = λ number args depth connection is fit after declared. callee_gone_comes settings doing on number args depth fit connection is;
      calls_method = λ number args depth connection is index method to found. (
        λ fit after declared. (method_comes settings doing on number args depth fit connection is index method to found).0,
        λ fit after declared. (method_comes settings doing on number args depth fit connection is index method to found).1,
      );
      calls_functor = λ number args depth connection is index functor to found. (
        λ fit after declared. (functor_comes settings doing on number args depth fit connection is index functor to found).0,
        λ fit after declared. (functor_comes settings doing on number args depth fit connection is index functor to found).1,
      );
      runs = λ target index sender args depth method is fit after declared. runs_comes target index sender args depth fit method is;
      runs_functor = λ target index sender connection args depth functor is fit after declared.
          runs_functor_comes target index sender connection args depth fit functor is;
      refused = λ action args self sender depth code fit after declared. one_item on tt;
      emits = λ of signal sent args self sender depth emitted is fit after declared.
          one_item on (λ there. emission_sent whole self sender args fit.1 (object_of doing.state self sender of) signal sent fit.0 emitted is);
      deletes = λ target args self sender depth fit after declared.
          one_item on tt;
      writes = λ of property value args self sender depth given writing is fit after declared.
          let target = object_of doing.state self sender of in
          telling_comes whole depth (with_writing doing.state target writing) (written_property target writing)
          (fits_writing doing.state target writing on.fits) after declared;
      does = λ plain args self sender depth operation is passed fit after declared.
          no_item (done_carries doing on operation (act_fits whole self sender args plain operation is));
      chooses = λ test held failed args self sender depth truth fit after declared.
          let both = (and_parts _ _ fit.0).1 in
          chooses_comes held failed args self sender depth truth (and_parts _ _ both).0 (and_parts _ _ both).1 fit.1;
      dies = λ target depth living fit after declared. deleted classes target depth;
      detaches = λ target depth fit after declared. delete_children_come target depth;
      deletes_child = λ parent child depth fit after declared. one_item on tt;
      removes = λ target depth fit after declared. telling_comes whole depth (without_object doing.state target) None on.fits after declared;
      takes = λ first later is some fit after declared. takes_comes settings doing on first later is;
    }

-- each item leaves a session that fits, and an agenda that fits it
pub item_fits : (settings : Settings) (item : Item) (agenda : List Item) (doing : Execution) → AreSettings settings
    → IsFittingUnderWay settings (item ∷ agenda) doing
    → IsFittingUnderWay settings ((step settings item doing).items ++ agenda) (step settings item doing).doing
item_fits settings item agenda doing are under =
    let before = under.under_way.whole in
    let next = step settings item doing in
    let under_way = item_under_way settings item agenda doing under.under_way in
    let declared = item_declared settings item doing under.declared in
    let on : Carries settings doing.state.forest.rows doing = record { fits = fits_own under.fitting; posts = under.posts } in
    let comes = step_cases settings doing (FitsAfter settings are doing on) (fit_cases settings are doing on before under.fitting.objects) item
    (All-head (IsFittingItem settings doing.state) item agenda under.items) under_way.whole declared in
    let kept = classes_stay (λ number class. class_at doing.state.forest.rows number ≡ Some class) settings item doing
    (own_classes before.forest) in
    let classes = classes_stay (λ number class. is_some (slice_get settings.classes class) ≡ true) settings item doing under.fitting.objects in
    record {
      under_way = under_way;
      declared = declared;
      fitting = fits_whole doing.state.forest.rows under_way.whole kept classes comes.carries.fits;
      items = All-append (IsFittingItem settings next.doing.state) next.items agenda comes.items
          (All-weaker (IsFittingItem settings doing.state) (IsFittingItem settings next.doing.state)
          (item_stays settings item doing under_way.whole kept) agenda (All-tail (IsFittingItem settings doing.state) item agenda under.items));
      posts = comes.carries.posts;
    }
