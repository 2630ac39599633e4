-- What fits objects of some rows fits those of others where they have the same classes.
use Rattle.std.proofs.Common.{◌≡◌, ℕ, true, List, [], ◌++◌, Option, Some, None, is_some, slice_get, refl, sym, ap, subst, ◌∙◌}
use Rattle.std.specs.List.{All}
use Rattle.std.specs.Option.{option_map, option_map_or, option_or}
use Rattle.std.proofs.lemmas.List.Folds.{find-append}
use Rattle.session_model.proofs.Common.{fits, Value, Class, Method, methods, Callee, Event, Queue, Row, Forest, is_there, row_of, Join, AreArguments, kinds_of}
use Rattle.session_model.proofs.Common.{IsCall, IsConnected, IsFitting, IsFittingEvent, IsJoined, IsPublished, IsSent, MayBeConnected, is_signal_at, kinds_at}
use Rattle.session_model.proofs.Common.{methods_by, Settings, IsWhole, OfDesk, State, Rows, Desk}
use Rattle.plain_types.specs.declared.callee.Callee.TheVariants as callee
use Rattle.event_queue.specs.declared.event.Event.TheVariants as event
use Rattle.event_queue.specs.Queue.{object_of}
use Rattle.object_tree.specs.Forest as tree
use Rattle.object_tree.specs.Rows.{has_number}
use Rattle.object_tree.proofs.ForCallers.{at_place}
use Rattle.session_model.specs.Fitting.{IsCallee, kinds_called}
use Rattle.session_model.proofs.ConnectionLemmas.{Ends}
use Rattle.session_model.proofs.ForestLemmas.{of_row}

-- the class of an object
abbrev pub class_at : List Row → ℕ → Option ℕ
class_at rows number = option_map (λ row. row.class) (row_of rows number)

-- it is the same among other rows
abbrev pub SameClass : List Row → List Row → ℕ → Type 0
SameClass old new number = class_at new number ≡ class_at old number

-- so it has the same methods
methods_same : (classes : List Class) (old new : List Row) (number : ℕ) → SameClass old new number
    → methods_by classes new number ≡ methods_by classes old number
methods_same classes old new number same = sym (by (row_of new number)) ∙ ap (λ class. option_map_or (methods classes) class []) same ∙ by (row_of old number)
  where
    by : (row : Option Row) → option_map_or (methods classes) (option_map (λ (row : Row). row.class) row) []
        ≡ option_map_or (λ row. methods classes row.class) row []
    by None = refl
    by (Some row) = refl

-- an object that has a method is there
pub has_method : (classes : List Class) (rows : List Row) (number index : ℕ) (method : Method) → slice_get (methods_by classes rows number) index ≡ Some method
    → is_there rows number ≡ true
has_method classes rows number index method is = by (row_of rows number) is
  where
    by : (row : Option Row) → slice_get (option_map_or (λ row. methods classes row.class) row []) index ≡ Some method → is_some row ≡ true
    by None e = absurd (cc)
    by (Some row) e = refl

module _ (settings : Settings) (old new : List Row) where
  callee_moved : (number : ℕ) (to : Callee) → SameClass old new number → IsCallee settings old number to → IsCallee settings new number to
  callee_moved number (callee.Method index) same there = ap (λ methods. is_some (slice_get methods index)) (methods_same settings.classes old new number same)
      ∙ there
  callee_moved number (callee.Functor index) same there = there

  kinds_moved : (number : ℕ) (to : Callee) → SameClass old new number → kinds_called settings new number to ≡ kinds_called settings old number to
  kinds_moved number (callee.Method index) same = ap (λ methods. kinds_at methods index) (methods_same settings.classes old new number same)
  kinds_moved number (callee.Functor index) same = refl

  pub call_moved : (number : ℕ) (to : Callee) (args : List Value) → SameClass old new number → IsCall settings old number to args
      → IsCall settings new number to args
  call_moved number to args same call = record {
    callee = callee_moved number to same call.callee;
    arguments = subst (λ kinds. AreArguments kinds args) (sym (kinds_moved number to same)) call.arguments;
  }

  signal_moved : (number signal : ℕ) → SameClass old new number → is_signal_at (methods_by settings.classes old number) signal ≡ true
      → is_signal_at (methods_by settings.classes new number) signal ≡ true
  signal_moved number signal same there = ap (λ methods. is_signal_at methods signal) (methods_same settings.classes old new number same) ∙ there

  pub arguments_moved : (number signal : ℕ) (args : List Value) → SameClass old new number → AreArguments (kinds_of settings.classes old number signal) args
      → AreArguments (kinds_of settings.classes new number signal) args
  arguments_moved number signal args same = subst (λ kinds. AreArguments kinds args) (sym (kinds_moved number (callee.Method signal) same))

  pub sent_moved : (number signal : ℕ) (args : List Value) → SameClass old new number → IsSent settings old number signal args
      → IsSent settings new number signal args
  sent_moved number signal args same sent =
      record { signal_there = signal_moved number signal same sent.signal_there; arguments = arguments_moved number signal args same sent.arguments }

  event_moved : (event : Event) → SameClass old new (object_of event) → IsFittingEvent settings old event → IsFittingEvent settings new event
  event_moved (event.Call call) same fit = call_moved call.object call.callee call.args same fit
  event_moved (event.Deletion target) same fit = tt

  connected_moved : (sender signal receiver : ℕ) (to : Callee) → SameClass old new sender → SameClass old new receiver
      → MayBeConnected settings old sender signal receiver to → MayBeConnected settings new sender signal receiver to
  connected_moved sender signal receiver to one other may = record {
    signal_there = signal_moved sender signal one may.signal_there;
    callee = callee_moved receiver to other may.callee;
    fitting = ap (λ kinds. fits kinds (kinds_called settings new receiver to)) (kinds_moved sender (callee.Method signal) one)
        ∙ ap (fits (kinds_of settings.classes old sender signal)) (kinds_moved receiver to other) ∙ may.fitting;
  }

  joined_moved : (join : Join) → SameClass old new join.object → IsJoined settings old join → IsJoined settings new join
  joined_moved join same fit = record {
    callee = callee_moved join.object (callee.Method join.method) same fit.callee;
    fitting = ap (fits join.kinds) (kinds_moved join.object (callee.Method join.method) same) ∙ fit.fitting;
    few = fit.few;
  }

-- these events, connections, publications and joins fit the objects of these rows
pub record AllFit (settings : Settings) (rows : List Row) (queue : Queue) (joined : Rows) (desk : Desk) : Type 0 where
  pub events : All (IsFittingEvent settings rows) queue.events
  pub connections : All (IsConnected settings rows) joined.rows
  pub publications : All (IsPublished settings rows) desk.publications
  pub joins : All (IsJoined settings rows) desk.joins

-- what a session holds fits the objects of these rows
abbrev pub Fits : Settings → List Row → State → Type 0
Fits settings rows state = AllFit settings rows state.queue state.connections state.desk

-- of its own rows
pub fits_own : {settings : Settings} {state : State} → IsFitting settings state → Fits settings state.forest.rows state
fits_own fit = record { events = fit.events; connections = fit.connections; publications = fit.publications; joins = fit.joins }

abbrev pub HaveClasses : Settings → List Row → Type 0
HaveClasses settings rows = All (λ row. is_some (slice_get settings.classes row.class) ≡ true) rows

-- it fits others where all objects that it names have the same classes there
pub fits_moved : {settings : Settings} (old : List Row) {new : State} (S : ℕ → Type 0) → ((number : ℕ) → S number → SameClass old new.forest.rows number)
    → All (λ event. S (object_of event)) new.queue.events → Ends S new.connections.rows → OfDesk S new.desk → HaveClasses settings new.forest.rows
    → Fits settings old new → IsFitting settings new
fits_moved {settings} old {new} S same events ends desk classes fit = record {
  objects = classes;
  events = λ index default within. event_moved settings old new.forest.rows _ (same _ (events index default within)) (fit.events index default within);
  connections = λ index default within. (let it = ends index default within in connected_moved settings old new.forest.rows _ _ _ _ (same _ it.sender)
      (same _ it.receiver) (fit.connections index default within));
  publications = λ index default within. signal_moved settings old new.forest.rows _ _ (same _ (desk.publications index default within))
      (fit.publications index default within);
  joins = λ index default within. joined_moved settings old new.forest.rows _ (same _ (desk.joins index default within)) (fit.joins index default within);
}

-- each object of a session has the class that it has
pub own_classes : {forest : Forest} → tree.IsSound forest → All (λ row. class_at forest.rows row.number ≡ Some row.class) forest.rows
own_classes {forest} sound index default within =
    ap (option_map (λ (row : Row). row.class)) (at_place (λ row. row) _ forest.rows index default sound.numbers_rise within refl).0

-- where each object has the class that it had, that is found
pub kept_class : (old new : List Row) → All (λ row. class_at old row.number ≡ Some row.class) new → (number : ℕ) → is_there new number ≡ true
    → SameClass old new number
kept_class old new kept number there = by (row_of new number) refl there
  where
    by : (row : Option Row) → row_of new number ≡ row → is_some row ≡ true → option_map (λ (row : Row). row.class) row ≡ class_at old number
    by None is e = absurd (cc)
    by (Some row) is e = sym (of_row (λ number class dying. class_at old number ≡ Some class) new number row is kept)

-- and so was the object there
pub was_there : (old new : List Row) (number : ℕ) → is_there new number ≡ true → SameClass old new number → is_there old number ≡ true
was_there old new number there same = by (row_of old number) (row_of new number) there same
  where
    by : (one other : Option Row) → is_some other ≡ true → option_map (λ (row : Row). row.class) other ≡ option_map (λ (row : Row). row.class) one
        → is_some one ≡ true
    by (Some row) other e f = refl
    by None None e f = absurd (cc)
    by None (Some row) e f = absurd (cc)

-- an object keeps its class where more stand behind the rows
pub more_classes : (rows more : List Row) (number : ℕ) → is_there rows number ≡ true → SameClass rows (rows ++ more) number
more_classes rows more number there = ap (option_map (λ (row : Row). row.class)) (find-append (has_number number) rows more ∙ by (row_of rows number) there)
  where
    by : (row : Option Row) → is_some row ≡ true → option_or row (row_of more number) ≡ row
    by None e = absurd (cc)
    by (Some row) e = refl

-- a session as it was, but for its objects, properties and bindings, fits still
pub fits_whole : {settings : Settings} (old : List Row) {new : State} → IsWhole new → All (λ row. class_at old row.number ≡ Some row.class) new.forest.rows
    → HaveClasses settings new.forest.rows → Fits settings old new → IsFitting settings new
fits_whole old {new} whole kept classes fit =
    fits_moved old (λ number. is_there new.forest.rows number ≡ true) (kept_class old new.forest.rows kept) whole.meant
    (λ index default within. (let it = whole.ends index default within in record { sender = it.sender; receiver = it.receiver })) whole.named classes fit
