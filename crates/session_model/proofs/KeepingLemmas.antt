-- What a command keeps of a session, in one record; and what keeps it: a state that is replied, a state that is
-- told of, items that are done to their end, and an operation.
use Rattle.isolation.specs.Machine.{Effect}
use Rattle.property_store.specs.declared.property.Property.{Property as At}
use Rattle.std.proofs.Common.{Bool, Err, List, None, Ok, Option, Some, [], ap, false, is_some, refl, slice_get, subst, sym, true, ◌++◌, ◌||◌, ◌∷◌, ◌≡◌}
use Rattle.std.proofs.lemmas.List.Elements.{All-append, All-cons, All-nil}
use Rattle.std.specs.List.{All, list_any}
use Rattle.session_model.proofs.Common.{Join, Code, Asked, operation_refusal, found_refusal, with_operation, Execution, begun, does_next, replies, AreSettings}
use Rattle.session_model.proofs.Common.{IsFitting, IsFittingOperation, IsFittingItem, IsRightPost, Item, Next, Found, AreNamed, IsNamedItem, run, Settings}
use Rattle.session_model.proofs.Common.{changes, comes_to, does_found, IsDeclared, IsSound, State, IsWhole, is_gone, Operation, Answer, Line, Post, Store}
use Rattle.session_model.proofs.Common.{Graph, Rows, Queue, Desk}
use Rattle.session_model.proofs.DeclaredLemmas.{operation_declared, run_declared}
use Rattle.session_model.proofs.FittingChangeLemmas.{fits_operation}
use Rattle.session_model.proofs.FittingClassLemmas.{class_at, fits_own, fits_whole, own_classes, AllFit}
use Rattle.session_model.proofs.FittingItemLemmas.{item_fits}
use Rattle.session_model.proofs.FittingLaterLemmas.{operation_classes}
use Rattle.session_model.proofs.FittingToldLemmas.{change_fits}
use Rattle.session_model.proofs.LawLemmas.{operation_sound, keeps_under_way, replies_stay, run_sound}
use Rattle.session_model.proofs.NamedLemmas.{named_beside, operation_named, run_named, tells_named}
use Rattle.session_model.proofs.RunLemmas.{run_keeps, run_shrinks}
use Rattle.session_model.proofs.ShowingLemmas.{tells_stay}
use Rattle.session_model.specs.Asked.{Join as AsksJoin}
use Rattle.session_model.specs.Effects.{ended, refuses}
use Rattle.session_model.specs.Fitting.{IsFittingAsked, IsFittingUnderWay}
use Rattle.session_model.specs.Named.{IsNamedAsked}
use Rattle.session_model.specs.declared.operation.Operation.TheVariants as d
use Rattle.session_model.specs.Items as to_do

-- every join that is there was there before
abbrev pub Falls : State → State → Type 0
Falls old new = (test : Join → Bool) → list_any test new.desk.joins ≡ true → list_any test old.desk.joins ≡ true

-- a join is asked for
abbrev pub is_join_asked : Asked → Bool
is_join_asked (AsksJoin from name types target method) = true
is_join_asked _ = false

-- a command that fits, before it is done, and a session that does
pub record FitsBefore (settings : Settings) (state : State) (asked : Asked) : Type 0 where
  pub are : AreSettings settings
  pub may : IsFittingAsked settings state asked
  pub sound : IsSound state
  pub declared : IsDeclared settings.classes state
  pub fit : IsFitting settings state

-- what holds of a session after a command, each by what held before
pub record Leaves (settings : Settings) (state : State) (asked : Asked) (after : State) : Type 0 where
  pub sound : IsSound state → IsSound after
  pub declared : IsSound state → IsDeclared settings.classes state → IsDeclared settings.classes after
  pub fitting : FitsBefore settings state asked → IsFitting settings after
  pub named : AreSettings settings → IsNamedAsked asked → AreNamed state → AreNamed after
  pub joins : is_join_asked asked ≡ false → Falls state after

-- and of what a command comes to: what it posts is right
pub record Keeps (settings : Settings) (state : State) (asked : Asked) (effect : Effect State Line Post) : Type 0 where
  pub leaves : Leaves settings state asked effect.state
  pub posts : FitsBefore settings state asked → All IsRightPost effect.posts

-- what a command has to do first, and the session then
pub record Begins (settings : Settings) (state : State) (asked : Asked) (agenda : List Item) (doing : Execution) : Type 0 where
  pub none : list_any is_gone agenda ≡ false
  pub leaves : Leaves settings state asked doing.state
  pub items : FitsBefore settings state asked → All (IsFittingItem settings doing.state) agenda
  pub posts : All IsRightPost doing.posts
  pub names : AreSettings settings → IsNamedAsked asked → AreNamed state → All IsNamedItem agenda

-- the objects stay, with other values, bindings, connections, events, publications and joins
abbrev holding : State → Store → Graph → Rows → Queue → Desk → State
holding state store graph connections queue desk =
    record state { store = store; graph = graph; connections = connections; queue = queue; desk = desk }

-- no operation makes a join
operation_falls : (state : State) (operation : Operation) → Falls state (with_operation state operation)
operation_falls state (d.Connect new unique) = λ test held. held
operation_falls state _ = λ test held. held

module _ {settings : Settings} {state : State} {asked : Asked} where
  -- the session stays as it is
  pub stays : Leaves settings state asked state
  stays = record {
    sound = λ sound. sound;
    declared = λ sound declared. declared;
    fitting = λ fits. fits.fit;
    named = λ are is named. named;
    joins = λ plain test held. held;
  }

  -- the objects stay
  pub leaves_with : {store : Store} {graph : Graph} {connections : Rows} {queue : Queue} {desk : Desk}
      → (IsSound state → IsWhole (holding state store graph connections queue desk))
      → (IsDeclared settings.classes state → IsDeclared settings.classes (holding state store graph connections queue desk))
      → (FitsBefore settings state asked → AllFit settings state.forest.rows queue connections desk)
      → (IsNamedAsked asked → AreNamed state → AreNamed (holding state store graph connections queue desk))
      → (is_join_asked asked ≡ false → Falls state (holding state store graph connections queue desk))
      → Leaves settings state asked (holding state store graph connections queue desk)
  leaves_with whole declared fits named joins = record {
    sound = λ sound. record { whole = whole sound; living = sound.living };
    declared = λ sound. declared;
    fitting = λ before. (let fit = fits before in record
        { objects = before.fit.objects; events = fit.events; connections = fit.connections; publications = fit.publications; joins = fit.joins });
    named = λ are. named;
    joins = joins;
  }

  -- and so do values, publications and joins
  pub leaves_beside : {graph : Graph} {connections : Rows} {queue : Queue}
      → (IsSound state → IsWhole (holding state state.store graph connections queue state.desk))
      → (IsFitting settings state → AllFit settings state.forest.rows queue connections state.desk)
      → Leaves settings state asked (holding state state.store graph connections queue state.desk)
  leaves_beside whole fits = leaves_with whole (λ declared. declared) (λ before. fits before.fit)
      (λ asked named. named_beside state named _ refl refl) (λ plain test held. held)

  pub told_one : {effect : Effect State Line Post} → effect.posts ≡ [] → Leaves settings state asked effect.state → Keeps settings state asked effect
  told_one none leaves = record { leaves = leaves; posts = λ fits. subst (All IsRightPost) (sym none) (All-nil IsRightPost) }

  -- it replies, and the session is another one
  pub replied : {after : State} {answer : Answer} → Leaves settings state asked after → Keeps settings state asked (replies after answer)
  replied leaves = told_one refl leaves

  -- it is refused
  pub refused : {code : Code} → Keeps settings state asked (refuses state code)
  refused = told_one refl stays

  -- an agenda is done to its end
  pub ran : (agenda : List Item) (doing : Execution) → Begins settings state asked agenda doing → Keeps settings state asked (ended (run settings agenda doing))
  ran agenda doing begins = record {
    leaves = record {
      sound = λ sound. run_sound settings agenda doing begins.none (begins.leaves.sound sound);
      declared = λ sound declared. run_declared settings agenda doing (begins.leaves.declared sound declared);
      fitting = λ fits. (end fits).fitting;
      named = λ are is named. run_named settings are agenda doing (begins.names are is named, begins.leaves.named are is named);
      joins = λ plain test held. begins.leaves.joins plain test ((run_shrinks settings agenda doing).joins test held);
    };
    posts = λ fits. (end fits).posts;
  }
    where
      end : FitsBefore settings state asked → IsFittingUnderWay settings [] (run settings agenda doing)
      end fits = run_keeps settings (IsFittingUnderWay settings) (λ item agenda doing. item_fits settings item agenda doing fits.are) agenda doing (record {
        under_way = keeps_under_way.at_first agenda doing.state begins.none (begins.leaves.sound fits.sound);
        declared = begins.leaves.declared fits.sound fits.declared;
        fitting = begins.leaves.fitting fits;
        items = begins.items fits;
        posts = begins.posts;
      })

  -- and it replies behind it
  pub done : (next : Next) (answer : Answer) → Begins settings state asked next.items next.doing → Keeps settings state asked (does_next settings next answer)
  done next answer begins = ran (next.items ++ to_do.Reply answer ∷ []) next.doing (record {
    none = replies_stay next.items answer begins.none;
    leaves = begins.leaves;
    items = λ fits. All-append (IsFittingItem settings next.doing.state) next.items (to_do.Reply answer ∷ []) (begins.items fits)
        (All-cons (IsFittingItem settings next.doing.state) (to_do.Reply answer) [] tt (All-nil (IsFittingItem settings next.doing.state)));
    posts = begins.posts;
    names = λ are is named. All-append IsNamedItem next.items (to_do.Reply answer ∷ []) (begins.names are is named)
        (All-cons IsNamedItem (to_do.Reply answer) [] tt (All-nil IsNamedItem));
  })

  -- one item is done first, whatever was taken of the turns
  pub one_begins : {item : Item} {doing : Execution} → doing.state ≡ state → doing.posts ≡ [] → is_gone item ≡ false
      → (FitsBefore settings state asked → IsFittingItem settings state item) → IsNamedItem item → Begins settings state asked (item ∷ []) doing
  one_begins {item} same none stays_there fits named = record {
    none = ap (λ b. b || false) stays_there;
    leaves = subst (Leaves settings state asked) (sym same) stays;
    items = λ before. subst (λ state. All (IsFittingItem settings state) (item ∷ [])) (sym same)
        (All-cons (IsFittingItem settings state) item [] (fits before) (All-nil (IsFittingItem settings state)));
    posts = subst (All IsRightPost) (sym none) (All-nil IsRightPost);
    names = λ are is names. All-cons IsNamedItem item [] named (All-nil IsNamedItem);
  }

  pub nothing_begins : {doing : Execution} → doing.state ≡ state → doing.posts ≡ [] → Begins settings state asked [] doing
  nothing_begins {doing} same none = record {
    none = refl;
    leaves = subst (Leaves settings state asked) (sym same) stays;
    items = λ fits. All-nil (IsFittingItem settings doing.state);
    posts = subst (All IsRightPost) (sym none) (All-nil IsRightPost);
    names = λ are is named. All-nil IsNamedItem;
  }

  -- another state is told of
  pub told : (after : State) (written : Option At) (answer : Answer) → Leaves settings state asked after
      → Keeps settings state asked (does_next settings (comes_to settings (begun settings state) 0 after written) answer)
  told after written answer leaves = done (comes_to settings (begun settings state) 0 after written) answer (record {
    none = tells_stay settings after 0 (changes state after written);
    leaves = leaves;
    items = λ fits. change_fits settings fits.are.table after (leaves.sound fits.sound).whole (leaves.declared fits.sound fits.declared)
        (begun settings state) fits.sound.whole 0 written;
    posts = All-nil IsRightPost;
    names = λ are is named. tells_named settings after 0 (changes state after written);
  })

  -- an operation that fits is done
  operation_leaves : (operation : Operation) → operation_refusal state operation ≡ None
      → (IsFittingAsked settings state asked → IsFittingOperation settings state.forest.rows operation)
      → Leaves settings state asked (with_operation state operation)
  operation_leaves operation passed may = record {
    sound = λ sound. operation_sound (begun settings state) operation passed sound;
    declared = λ sound declared. operation_declared settings.classes state declared operation;
    fitting = λ fits. fits_whole state.forest.rows
        (operation_sound (begun settings state) operation passed fits.sound).whole
        (operation_classes (λ number class. class_at state.forest.rows number ≡ Some class) state operation (own_classes fits.sound.whole.forest))
        (operation_classes (λ number class. is_some (slice_get settings.classes class) ≡ true) state operation fits.fit.objects)
        (fits_operation state operation (may fits.may) (fits_own fits.fit));
    named = λ are is named. operation_named (begun settings state) named operation;
    joins = λ plain. operation_falls state operation;
  }

  pub found_keeps : (found : Found Operation) → found_refusal state found ≡ None
      → ((operation : Operation) → found ≡ Ok operation → IsFittingAsked settings state asked → IsFittingOperation settings state.forest.rows operation)
      → Keeps settings state asked (does_found state found)
  found_keeps (Err code) passed may = refused
  found_keeps (Ok operation) passed may = replied (operation_leaves operation passed (may operation refl))
