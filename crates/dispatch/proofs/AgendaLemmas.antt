-- An agenda by nested calls.
use Rattle.std.proofs.Common.{
  ◌≡◌,
  ◌<◌,
  ◌≤◌,
  ◌+◌,
  ◌-◌,
  ◌*◌,
  ◌==◌,
  ◌&&◌,
  ◌||◌,
  map,
  filter,
  nat_lt,
  nat_le,
  ℕ,
  suc,
  Bool,
  true,
  false,
  cond,
  not,
  is_some,
  List,
}
use Rattle.std.proofs.Common.{[], ◌∷◌, ◌++◌, Option, Some, None, find, refl, sym, subst, ap, ◌∙◌, if◌then◌else◌, arith}
use Rattle.std.proofs.Common.{Ok, Err, ⊎_elim, ◌⊎◌}
use Rattle.std.proofs.Math.Nat.{mul-le-mul_left, mul-suc}
use Rattle.std.proofs.lemmas.List.{append-nil}
use Rattle.std.specs.List.{AllByRecursion, list_any}
use Rattle.std.proofs.lemmas.Bool.{cond-false, cond-true, ne_eqb}
use Rattle.std.proofs.lemmas.List.Elements.{recursion_from_All}
use Rattle.std.proofs.lemmas.Bool.Decides.{nat_tests}
use Rattle.plain_types.specs.declared.code.Code.{Code}
use Rattle.plain_types.specs.declared.code.Code.TheVariants.{Limit, TurnsUsedUp}
use Rattle.plain_types.specs.declared.fault.Fault.{Fault}
use Rattle.plain_types.specs.declared.fault.Fault.TheVariants.{Refused, Memory}
use Rattle.plain_types.specs.Answers.{Answers}
use Rattle.variant_value.specs.declared.value.Value.{Value}
use Rattle.plain_types.specs.declared.callee.Callee.{Callee}
use Rattle.term_core.specs.Term.{Term}
use Rattle.connection_list.specs.declared.connection.Connection.{Connection}
use Rattle.connection_list.specs.Rows.{IsRising, IsSound, has_number, is_next}
use Rattle.connection_list.proofs.ForCallers.{rising_head, rising_tail}
use Rattle.object_tree.specs.declared.row.Row.{Row}
use Rattle.object_tree.specs.Rows.{row_of}
use Rattle.term_core.specs.Act.{Act, Acts, acts_of, when}
use Rattle.session_model.specs.declared.call.TheConstants.{DESTROYED, NESTED_SIGNALS}
use Rattle.session_model.specs.declared.line.Line.{Line}
use Rattle.session_model.specs.declared.line.Line.TheVariants.{Warning}
use Rattle.session_model.specs.Acts as model
use Rattle.session_model.specs.Agenda.{callee_called, connection_of, is_held_back, step}
use Rattle.session_model.specs.Targets.{truth_evaluated}
use Rattle.session_model.specs.declared.post.Post.{Post}
use Rattle.class_table.specs.declared.class.Class.{Class}
use Rattle.publish_board.specs.declared.publication.Publication.{Publication}
use Rattle.publish_board.specs.Rows.{publishes}
use Rattle.session_model.specs.Arriving.{kinds_of, post_of, posts_of}
use Rattle.session_model.specs.Execution.{Execution, in_state, posting, single_shot_broken, line_told, turn_taken, used_up}
use Rattle.session_model.specs.Items.{Call, Emit, Item, Next, Warn, puts}
use Rattle.session_model.specs.Run.{longest_functor, run}
use Rattle.session_model.specs.Settings.{Settings}
use Rattle.session_model.specs.State.{State, without_connections}
use Rattle.session_model.proofs.ForCallers as rule
use Rattle.session_model.proofs.ForCallers.{
  find-passes,
  run_later,
  living_rows,
  calls_to,
  emission_end,
  emission_first,
  emission_next,
  remaining,
  after_first,
}
use Rattle.session_model.proofs.ForCallers.{at_end, by_change, by_step, run_shrinks, falls, Shrinks}
use Rattle.session_tables.specs.declared.tables.Tables.{Tables}
use Rattle.session_tables.specs.Tables.{IsPlaced, state_at, with_state}
use Rattle.session_tables.proofs.ForCallers.{state_with}
use Rattle.session_effects.specs.declared.slot.Slot.{Slot}
use Rattle.dispatch.specs.declared.command_output.CommandOutput.{CommandOutput}
use Rattle.session_effects.specs.Actions.{act_of}
use Rattle.session_effects.specs.declared.session_context.SessionContext.{SessionContext}
use Rattle.session_effects.specs.Setup.{settings_of}
use Rattle.dispatch.specs.CommandOutput.{Warns, doing_at, spent, with_line}

-- how many calls and deletions there can still be
abbrev pub left_at : ℕ → Tables → CommandOutput → ℕ
left_at place tables output = output.turns + living_rows (state_at tables place).forest.rows

-- what each of them counts for, where the longest body of a functor has so many actions
unfoldable pub rounds : ℕ → ℕ → ℕ
rounds longest left = (100 + 2 * longest) * left

pub rounds_fewer : (longest new old : ℕ) → new ≤ old → rounds longest new ≤ rounds longest old
unfolding rounds
rounds_fewer longest new old le = mul-le-mul_left (100 + 2 * longest) le

pub rounds_one_less : (longest new old : ℕ) → new + 1 ≤ old → rounds longest new + 100 + 2 * longest ≤ rounds longest old
unfolding rounds
rounds_one_less longest new old less =
    let one : (100 + 2 * longest) * suc new ≡ (100 + 2 * longest) * new + (100 + 2 * longest) = mul-suc (100 + 2 * longest) new in
    let fewer : (100 + 2 * longest) * suc new ≤ (100 + 2 * longest) * old = mul-le-mul_left (100 + 2 * longest) (omega (arith, less)) in
    omega (arith, one, fewer)

-- how many actions the longest body of the functors has
abbrev pub longest_of : SessionContext → ℕ
longest_of caller = longest_functor (settings_of caller.setup.now).functors

-- how much is left to do: each way round the calls takes a turn or an object that lives, which counts for
-- more than any rank
abbrev pub left_to_do : SessionContext → Tables → CommandOutput → ℕ → ℕ
left_to_do caller tables output rank = rounds (longest_of caller) (left_at caller.place tables output) + rank

-- with as much left it is the rank that falls, and with less any rank may rise by what one counts for
module _ (caller : SessionContext) (old new : Tables) (before after : CommandOutput) (rank next : ℕ) where
  pub rank_falls : left_at caller.place new after ≤ left_at caller.place old before → next < rank
      → left_to_do caller new after next < left_to_do caller old before rank
  rank_falls fewer less = let rounds = rounds_fewer (longest_of caller) (left_at caller.place new after) (left_at caller.place old before) fewer in
      omega (arith, rounds, less)

  pub round_falls : left_at caller.place new after + 1 ≤ left_at caller.place old before → next < rank + 100 + 2 * longest_of caller
      → left_to_do caller new after next < left_to_do caller old before rank
  round_falls one_less within = let rounds = rounds_one_less (longest_of caller) (left_at caller.place new after)
      (left_at caller.place old before) one_less in
      omega (arith, rounds, within)

-- no call gives turns back, or makes an object
pub left_falls : (settings : Settings) (agenda : List Item) (place : ℕ) (old new : Tables) (before after : CommandOutput) (earlier posts : List Post)
    → run settings agenda (doing_at place old before earlier) ≡ doing_at place new after posts → left_at place new after ≤ left_at place old before
left_falls settings agenda place old new before after earlier posts does =
    let shrinks : Shrinks (doing_at place old before earlier) (doing_at place new after posts) =
    subst (Shrinks (doing_at place old before earlier)) does (run_shrinks settings agenda (doing_at place old before earlier)) in
    omega (arith, shrinks.turns, shrinks.living)

-- nor does an item that is done, whatever it puts in front
pub left_stepped : (settings : Settings) (item : Item) (items : List Item) (place : ℕ) (old new : Tables) (output : CommandOutput) (earlier : List Post)
    → step settings item (doing_at place old output earlier) ≡ puts items (doing_at place new output earlier)
    → left_at place new output ≤ left_at place old output
left_stepped settings item items place old new output earlier is =
    let shrinks : Shrinks (doing_at place old output earlier) (doing_at place new output earlier) =
    subst (λ (next : Next). Shrinks (doing_at place old output earlier) next.doing) is
    (falls settings item (doing_at place old output earlier)).shrinks in
    omega (arith, shrinks.turns, shrinks.living)

-- a single-shot connection that goes leaves as much
pub left_shot : (place : ℕ) (connection : Connection) (old new : Tables) (output : CommandOutput) → IsPlaced old place
    → new ≡ with_state old place (if connection.single then without_connections (state_at old place) (has_number connection.number) else state_at old place)
    → left_at place new output ≤ left_at place old output
left_shot place connection old new output placed e =
    let there : living_rows (state_at new place).forest.rows ≡ living_rows
    (if connection.single then without_connections (state_at old place) (has_number connection.number) else state_at old place).forest.rows =
    ap (λ (state : State). living_rows state.forest.rows) (state_with old new place _ placed e) in
    omega (arith, there, as_many connection.single)
  where
    as_many : (b : Bool) → living_rows (if b then without_connections (state_at old place) (has_number connection.number) else state_at old place).forest.rows
        ≡ living_rows (state_at old place).forest.rows
    as_many true = refl
    as_many false = refl

-- a connection that was found among those above a number has a greater one
found_above : (least : ℕ) (test : Connection → Bool) (rows : List Connection) (row : Connection)
    → AllByRecursion (λ (row : Connection). least < row.number) rows → find test rows ≡ Some row → least < row.number
found_above least test [] row above e = absurd (cc)
found_above least test (first ∷ rows) row above e = by (test first) e (found_above least test rows row above.1)
  where
    by : (passed : Bool) → cond passed (Some first) (find test rows) ≡ Some row → (find test rows ≡ Some row → least < row.number) → least < row.number
    by true e rest = let is : first ≡ row = cc in subst (λ (row : Connection). least < row.number) is above.0
    by false e rest = rest e

-- a connection that was found is the one that stands under its number
pub found_stands : (test : Connection → Bool) (rows : List Connection) (row : Connection) → IsRising rows → find test rows ≡ Some row
    → find (has_number row.number) rows ≡ Some row
found_stands test [] row rising e = absurd (cc)
found_stands test (first ∷ rows) row rising e = by (test first) e (found_stands test rows row (rising_tail first rows rising))
  where
    above : AllByRecursion (λ (later : Connection). first.number < later.number) rows
    above = recursion_from_All (λ (later : Connection). first.number < later.number) rows (rising_head first rows rising)

    same : (n : ℕ) → (n == n) ≡ true
    same n = grind (arith, nat_tests)

    by : (passed : Bool) → cond passed (Some first) (find test rows) ≡ Some row → (find test rows ≡ Some row → find (has_number row.number) rows ≡ Some row)
        → find (has_number row.number) (first ∷ rows) ≡ Some row
    by true e rest =
        let is : first ≡ row = cc in
        cond-true (first.number == row.number) (Some first) _ (ap (λ (r : Connection). r.number == row.number) is ∙ same row.number)
        ∙ ap (λ (r : Connection). Some r) is
    by false e rest =
        let more = found_above first.number test rows row above e in
        let other : (first.number == row.number) ≡ false = grind (arith, nat_tests, more) in
        cond-false (first.number == row.number) (Some first) _ other ∙ rest e

-- is a signal held back, by what was looked at
pub is_held : (blocked : Bool) (signal : ℕ) → blocked ≡ true → (signal ≡ DESTROYED → ⊥) → (blocked && not (signal == DESTROYED)) ≡ true
is_held blocked signal is other =
    let e : (signal == DESTROYED) ≡ false = ne_eqb signal DESTROYED other in
    ap (λ b. b && not (signal == DESTROYED)) is ∙ ap not e

pub is_let_through : (blocked : Bool) (signal : ℕ) → ((blocked ≡ true) × (signal ≡ DESTROYED)) ⊎ (blocked ≡ false)
    → (blocked && not (signal == DESTROYED)) ≡ false
is_let_through blocked signal either = ⊎_elim
    (λ both. let e : (signal == DESTROYED) ≡ true = grind (arith, nat_tests, both.1) in ap (λ b. b && not (signal == DESTROYED)) both.0 ∙ ap not e)
    (λ free. ap (λ b. b && not (signal == DESTROYED)) free)
    either

-- a signal that is not published is not posted
pub posts_none : (classes : List Class) (state : State) (target signal : ℕ) (args : List Value)
    → list_any (publishes target signal) state.desk.publications ≡ false → posts_of classes state target signal args ≡ []
posts_none classes state target signal args none = ap (map (post_of (kinds_of classes state.forest.rows target signal) args))
    (by state.desk.publications none)
  where
    by : (rows : List Publication) → list_any (publishes target signal) rows ≡ false → filter (publishes target signal) rows ≡ []
    by [] none = refl
    by (row ∷ rows) none = one (publishes target signal row) none (by rows)
      where
        one : (passed : Bool) → (passed || list_any (publishes target signal) rows) ≡ false
            → (list_any (publishes target signal) rows ≡ false → filter (publishes target signal) rows ≡ [])
            → cond passed (row ∷ filter (publishes target signal) rows) (filter (publishes target signal) rows) ≡ []
        one true none rest = absurd (cc)
        one false none rest = rest none

-- a session that posts nothing more is as it was
posting_none : (doing : Execution) → posting doing [] ≡ doing
unfolding posting
posting_none doing = ap (λ posts. record doing { posts = posts }) (append-nil doing.posts)

-- and one whose posts were delivered has them behind the others
pub posting_is : (place : ℕ) (old new : Tables) (before after : CommandOutput) (earlier more : List Post) → state_at new place ≡ state_at old place
    → after ≡ record before { failing = after.failing }
    → posting (doing_at place old before earlier) more ≡ doing_at place new after (earlier ++ more)
unfolding posting
posting_is place old new before after earlier more own same =
    ap (λ (state : State). record {
      state = state;
      turns = before.turns;
      spent = before.spent;
      taken = before.taken;
      lines = before.lines;
      posts = earlier ++ more;
    }) (sym own)
    ∙ ap (λ (output : CommandOutput). doing_at place new output (earlier ++ more)) (sym same)

module _ (settings : Settings) (target signal : ℕ) (args : List Value) (depth : ℕ) where
  -- an object that has gone sends nothing
  pub emission_absent : (doing : Execution) → None ≡ row_of doing.state.forest.rows target → run settings (Emit target signal args depth ∷ []) doing ≡ doing
  emission_absent doing none = by_change settings (Emit target signal args depth) doing doing
      (rule.emit_absent settings target signal args depth doing (ap is_some (sym none)))

  module _ (doing : Execution) (row : Row) (there : Some row ≡ row_of doing.state.forest.rows target) where
    -- a signal of a blocked object is not sent
    pub emission_held_back : is_held_back signal row ≡ true → run settings (Emit target signal args depth ∷ []) doing ≡ doing
    emission_held_back held = by_change settings (Emit target signal args depth) doing doing
        (rule.emit_held_back settings target signal args depth doing row (sym there) held)

    module _ (sent : is_held_back signal row ≡ false) where
      -- one that is nested too deep is warned of
      pub emission_deep : (new : Execution) → NESTED_SIGNALS ≤ depth → run settings (Warn Limit (Some target) ∷ []) doing ≡ new
          → run settings (Emit target signal args depth ∷ []) doing ≡ new
      emission_deep new deep does = by_step settings (Emit target signal args depth) doing _
          (rule.emit_deep settings target signal args depth doing row (sym there) sent deep) ∙ does

      -- an emission that begins is posted, and has all connections of the signal before it
      pub emission_begins : depth < NESTED_SIGNALS → IsSound doing.state.connections → (new : Execution)
          → posting doing (posts_of settings.classes doing.state target signal args) ≡ new
          → run settings (calls_to settings args depth (remaining target signal doing.state.connections.last_number 0 doing.state.connections.rows)) new
          ≡ run settings (Emit target signal args depth ∷ []) doing
      emission_begins shallow sound new posts =
          sym (by_step settings (Emit target signal args depth) doing _ (rule.emit_calls settings target signal args depth doing row (sym there) sent shallow)
          ∙ ap (λ agenda. run settings agenda (posting doing (posts_of settings.classes doing.state target signal args)))
          (emission_first settings target signal args depth doing sound)
          ∙ ap (run settings (calls_to settings args depth (remaining target signal doing.state.connections.last_number 0 doing.state.connections.rows)))
          posts)

  -- a signal that is not published and that nothing is connected to comes to nothing, whether its object is there or not, blocked or not
  pub emission_unheard : (doing : Execution) → depth < NESTED_SIGNALS → IsSound doing.state.connections
      → posts_of settings.classes doing.state target signal args ≡ []
      → is_some (find (is_next target signal 0 doing.state.connections.last_number) doing.state.connections.rows) ≡ false
      → run settings (Emit target signal args depth ∷ []) doing ≡ doing
  emission_unheard doing shallow sound unpublished unheard = by_row (row_of doing.state.forest.rows target) refl
    where
      none : (found : Option Connection) → is_some found ≡ false → found ≡ None
      none None e = refl
      none (Some connection) e = absurd (cc)

      sent : (row : Row) → Some row ≡ row_of doing.state.forest.rows target → (held : Bool) → is_held_back signal row ≡ held
          → run settings (Emit target signal args depth ∷ []) doing ≡ doing
      sent row there true held = emission_held_back doing row there held
      sent row there false free =
          sym (emission_begins doing row there free shallow sound doing (ap (posting doing) unpublished ∙ posting_none doing))
          ∙ emission_end settings target signal args depth doing.state.connections.last_number 0 doing
          (none (find (is_next target signal 0 doing.state.connections.last_number) doing.state.connections.rows) unheard)

      by_row : (found : Option Row) → row_of doing.state.forest.rows target ≡ found → run settings (Emit target signal args depth ∷ []) doing ≡ doing
      by_row None e = emission_absent doing (sym e)
      by_row (Some row) e = sent row (sym e) (is_held_back signal row) refl

  -- the next connection is called, and those behind it are left
  pub emission_goes_on : (up_to after : ℕ) (old middle new : Execution) (next : Connection) → IsSound middle.state.connections
      → up_to ≤ middle.state.connections.last_number
      → find (is_next target signal after up_to) middle.state.connections.rows ≡ Some next
      → run settings (Call next.number args depth ∷ []) middle ≡ new
      → run settings (calls_to settings args depth (remaining target signal up_to after middle.state.connections.rows)) middle ≡ old
      → run settings (calls_to settings args depth (remaining target signal up_to next.number new.state.connections.rows)) new ≡ old
  emission_goes_on up_to after old middle new next sound most found called before =
      sym (ap (λ (done : Execution). run settings (calls_to settings args depth (remaining target signal up_to next.number done.state.connections.rows)) done)
      called)
      ∙ sym (emission_next settings target signal args depth up_to after middle next sound most found)
      ∙ before

  -- the numbers of connections do not fall
  pub last_stays : (up_to : ℕ) (middle new : Execution) (next : Connection) → up_to ≤ middle.state.connections.last_number
      → run settings (Call next.number args depth ∷ []) middle ≡ new → up_to ≤ new.state.connections.last_number
  last_stays up_to middle new next most called =
      subst (λ (doing : Execution). up_to ≤ doing.state.connections.last_number) called
      (let later = (run_later settings (Call next.number args depth ∷ []) middle).last in omega (arith, later, most))

-- what was told
pub told_is : (place : ℕ) (tables : Tables) (before after : CommandOutput) (earlier : List Post) (line : Line) → after ≡ with_line before line
    → line_told (doing_at place tables before earlier) line ≡ doing_at place tables after earlier
unfolding line_told
told_is place tables before after earlier line e = ap (λ (output : CommandOutput). doing_at place tables output earlier) (sym e)

-- that no turn is left is told once
pub spent_is : (place : ℕ) (tables : Tables) (before after : CommandOutput) (earlier : List Post) → after ≡ spent before
    → used_up (doing_at place tables before earlier) ≡ doing_at place tables after earlier
unfolding used_up
spent_is place tables before after earlier e = by before.spent ∙ ap (λ (output : CommandOutput). doing_at place tables output earlier) (sym e)
  where
    by : (b : Bool) → (if b then doing_at place tables before earlier
        else record (doing_at place tables before earlier) { spent = true; lines = before.lines ++ Warning TurnsUsedUp None ∷ [] })
        ≡ doing_at place tables (if b then before else record
        { lines = before.lines ++ Warning TurnsUsedUp None ∷ []; turns = before.turns; spent = true; taken = before.taken; failing = before.failing })
        earlier
    by true = refl
    by false = refl

-- a warning is told
pub warn_done : (settings : Settings) (place : ℕ) (tables : Tables) (before after : CommandOutput) (earlier : List Post) (code : Code) (object : Option ℕ)
    → after ≡ with_line before (Warning code object)
    → run settings (Warn code object ∷ []) (doing_at place tables before earlier) ≡ doing_at place tables after earlier
warn_done settings place tables before after earlier code object e =
    by_change settings (Warn code object) (doing_at place tables before earlier) _ (rule.warn_told settings
    (doing_at place tables before earlier) code object)
    ∙ told_is place tables before after earlier (Warning code object) e

module _ (settings : Settings) (slot : Slot) (place : ℕ) (tables : Tables) (before after : CommandOutput) (earlier : List Post) where
  -- a refused action warns
  pub warned : (item : Item) (code : Code) → step settings item (doing_at place tables before earlier)
      ≡ puts (Warn code (Some slot.object) ∷ []) (doing_at place tables before earlier) → after ≡ with_line before (Warning code (Some slot.object))
      → run settings (item ∷ []) (doing_at place tables before earlier) ≡ doing_at place tables after earlier
  warned item code is e = by_step settings item (doing_at place tables before earlier) _ is
      ∙ warn_done settings place tables before after earlier code (Some slot.object) e

  -- so a choice whose test has no truth
  pub test_warned : (test : Term) (held failed : Acts) (fault : Fault)
      → Answers {T = Bool} (Err fault) (truth_evaluated (state_at tables place) slot.object slot.sender slot.args.now test)
      → Warns fault slot.object before after
      → run settings (act_of slot (when test held failed) ∷ []) (doing_at place tables before earlier) ≡ doing_at place tables after earlier
  test_warned test held failed (Refused code) why e = warned (act_of slot (when test held failed)) code
      (rule.when_faulty settings slot.object slot.sender slot.args.now slot.depth (doing_at place tables before earlier) test held failed code why) e
  test_warned test held failed Memory why e = absurd e

-- the branch that a choice takes is done
module _ (settings : Settings) (slot : Slot) (doing : Execution) (test : Term) (held failed : Acts) where
  pub branch_done : (truth : Bool) (new : Execution) → truth_evaluated doing.state slot.object slot.sender slot.args.now test ≡ Ok truth
      → run settings (model.acts (if truth then held else failed) slot.args.now slot.object slot.sender slot.depth) doing ≡ new
      → run settings (act_of slot (when test held failed) ∷ []) doing ≡ new
  branch_done true new is does = by_step settings (act_of slot (when test held failed)) doing _
      (rule.when_held settings slot.object slot.sender slot.args.now slot.depth doing test held failed is) ∙ does
  branch_done false new is does = by_step settings (act_of slot (when test held failed)) doing _
      (rule.when_failed settings slot.object slot.sender slot.args.now slot.depth doing test held failed is) ∙ does

-- the actions of a slot are an item each
pub acts_are : (slot : Slot) (actions : List Act) → model.acts (acts_of actions) slot.args.now slot.object slot.sender slot.depth ≡ map (act_of slot) actions
acts_are slot [] = refl
acts_are slot (action ∷ rest) = ap (λ items. act_of slot action ∷ items) (acts_are slot rest)

-- the output when a call has taken its turn
abbrev pub taken : CommandOutput → CommandOutput
taken before = record before { turns = before.turns - 1 }

-- a call takes a turn, and a single-shot connection goes
module _ (caller : SessionContext) (connection : Connection) (args : List Value) (depth : ℕ) (old new : Tables) (before : CommandOutput) where
  abbrev its_settings : Settings
  its_settings = settings_of caller.setup.now

  abbrev pub shot_state : State
  shot_state = if connection.single then without_connections (state_at old caller.place) (has_number connection.number) else state_at old caller.place

  module _ (earlier : List Post) (placed : IsPlaced old caller.place)
      (standing : connection_of (doing_at caller.place old before earlier) connection.number ≡ Some connection) where
    pub call_spent : (after : CommandOutput) → before.turns ≡ 0 → after ≡ spent before
        → run its_settings (Call connection.number args depth ∷ []) (doing_at caller.place old before earlier) ≡ doing_at caller.place old after earlier
    call_spent after none e =
        by_change its_settings (Call connection.number args depth) (doing_at caller.place old before earlier) _
        (rule.call_spent its_settings connection.number args depth (doing_at caller.place old before earlier) connection standing none)
        ∙ spent_is caller.place old before after earlier e

    module _ (e : new ≡ with_state old caller.place shot_state) (some : 0 < before.turns) where
      is_shot : single_shot_broken (turn_taken (doing_at caller.place old before earlier)) connection ≡ doing_at caller.place new (taken before) earlier
      unfolding single_shot_broken turn_taken
      is_shot = by connection.single ∙ ap (λ (state : State). in_state (doing_at caller.place old (taken before) earlier) state)
          (sym (state_with old new caller.place shot_state placed e))
        where
          by : (b : Bool) → (if b then in_state (doing_at caller.place old (taken before) earlier)
              (without_connections (state_at old caller.place) (has_number connection.number)) else doing_at caller.place old (taken before) earlier)
              ≡ in_state (doing_at caller.place old (taken before) earlier)
              (if b then without_connections (state_at old caller.place) (has_number connection.number) else state_at old caller.place)
          by true = refl
          by false = refl

      -- what it calls is called then
      pub call_taken : (called : Callee) → connection.callee ≡ called → (done : Execution)
          → (let next = callee_called its_settings connection args depth (doing_at caller.place new
          (taken before) earlier) called in run its_settings next.items
          next.doing) ≡ done
          → run its_settings (Call connection.number args depth ∷ []) (doing_at caller.place old before earlier) ≡ done
      call_taken called is done does =
          by_step its_settings (Call connection.number args depth) (doing_at caller.place old before earlier) _
          (rule.call_taken its_settings connection.number args depth (doing_at caller.place old before earlier) connection standing some)
          ∙ ap (λ (called : Callee).
          let next = callee_called its_settings connection args depth
          (single_shot_broken (turn_taken (doing_at caller.place old before earlier)) connection) called in run its_settings next.items next.doing)
          is
          ∙ ap (λ (doing : Execution). let next = callee_called its_settings connection args depth doing called in run its_settings next.items next.doing)
          is_shot
          ∙ does

-- the next connection is above the last one that was called, and not above the last of all
pub next_within : (target signal after up_to : ℕ) (row : Connection) → is_next target signal after up_to row ≡ true
    → (after < row.number) × (row.number ≤ up_to)
next_within target signal after up_to row passes =
    let above : nat_lt after row.number ≡ true = first_of (nat_lt after row.number) _ passes in
    let below : nat_le row.number up_to ≡ true = first_of (nat_le row.number up_to) _ (second_of (nat_lt after row.number) _ passes) in
    (grind (arith, nat_tests, above), grind (arith, nat_tests, below))
  where
    first_of : (a b : Bool) → (a && b) ≡ true → a ≡ true
    first_of true b e = refl
    first_of false b e = e

    second_of : (a b : Bool) → (a && b) ≡ true → b ≡ true
    second_of true b e = e
    second_of false b e = absurd (cc)

-- so fewer are left
pub next_smaller : (target signal after up_to : ℕ) (rows : List Connection) (row : Connection) → find (is_next target signal after up_to) rows ≡ Some row
    → up_to - row.number < up_to - after
next_smaller target signal after up_to rows row found =
    let within = next_within target signal after up_to row (find-passes (is_next target signal after up_to) rows row found) in
    omega (arith, within.0, within.1)
