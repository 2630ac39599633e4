-- An agenda is run to its end.
use Rattle.std.specs.Prelude.{◌≡◌, ◌+◌, ◌*◌, ℕ, zero, suc, List, [], ◌∷◌, ◌++◌, length, map, filter, max}
use Rattle.term_core.specs.Act.{acts_of, count, counts}
use Rattle.class_table.specs.declared.class.Class.{Class}
use Rattle.connection_list.specs.declared.limit.TheConstants.{CONNECTIONS}
use Rattle.object_tree.specs.Lines.{greatest}
use Rattle.binding_values.specs.Stored.{properties_in}
use Rattle.stored_slots.specs.declared.functor.Functor.{Functor}
use Rattle.session_model.specs.Agenda.{is_living, step}
use Rattle.session_model.specs.Execution.{Execution}
use Rattle.session_model.specs.Items.{Act, Call, Detach, Delete, Emit, Remove, Item, DeleteChild, Reply, ReplySpun, Run, RunFunctor, Spin, Warn, WarnOf}
use Rattle.session_model.specs.Settings.{Settings}

-- The execution after at most this many items. What an item leads to is put in front of the others.
abbrev pub steps : Settings → ℕ → List Item → Execution → Execution
steps settings zero agenda doing = doing
steps settings (suc most) [] doing = doing
steps settings (suc most) (item ∷ agenda) doing = steps settings most ((step settings item doing).items ++ agenda) (step settings item doing).doing

-- How many objects are not dying.
unfoldable pub living : Execution → ℕ
living doing = length (filter is_living doing.state.forest.rows)

-- The number of actions in the longest body of these classes, those in branches included.
abbrev pub longest_body : List Class → ℕ
longest_body classes = greatest (map (λ class. greatest (map (λ method. counts (acts_of method.body.actions)) class.methods)) classes)

-- The number of actions in the longest body of these functors, those in branches included.
abbrev pub longest_functor : List Functor → ℕ
longest_functor functors = greatest (map (λ functor. counts (acts_of functor.body.actions)) functors)

-- Bounds for the whole run of an agenda. None of its items makes an object.
pub record Most : Type 0 where
  pub connections : ℕ
  pub objects : ℕ
  -- The declared properties of all objects.
  pub properties : ℕ
  pub actions : ℕ

abbrev pub most : Settings → Execution → Most
most settings doing = record {
  connections = max CONNECTIONS (length doing.state.connections.rows);
  objects = length doing.state.forest.rows;
  properties = length (properties_in doing.state.store);
  actions = max (longest_body settings.classes) (longest_functor settings.functors);
}

-- The most items of a change: for each property a warning, and its NOTIFY signal.
abbrev pub change_weight : Most → ℕ
change_weight most = most.properties * (most.connections + 3)

-- The most items of an action: a change, a signal, or a warning.
abbrev pub action_weight : Most → ℕ
action_weight most = change_weight most + most.connections + 3

-- The most items that an item leads to, if no further call is made and no further object is deleted.
abbrev pub weight : Most → Item → ℕ
weight most (Emit target signal args depth) = most.connections + 2
weight most (Call number args depth) = 1
weight most (Run target method sender args depth) = most.actions * action_weight most + 1
weight most (RunFunctor target functor sender connection args depth) = most.actions * action_weight most + 1
weight most (Act action args self sender depth) = count action * action_weight most
weight most (Warn code object) = 1
weight most (WarnOf at error) = 1
weight most (Delete target depth) = 1
weight most Spin = 1
weight most ReplySpun = 1
weight most (Detach target depth) = 2 * most.objects + 1
weight most (DeleteChild parent child depth) = 2
weight most (Remove target depth) = change_weight most + 1
weight most (Reply answer) = 1

abbrev pub weights : Most → List Item → ℕ
weights most [] = 0
weights most (item ∷ agenda) = weight most item + weights most agenda

-- The most items of a call.
abbrev pub turn_weight : Most → ℕ
turn_weight most = most.actions * action_weight most + most.connections + 3

-- The most items of a deletion.
abbrev pub deletion_weight : Most → ℕ
deletion_weight most = 2 * most.objects + change_weight most + most.connections + 4

-- A number of steps that is enough to reach the end.
unfoldable pub enough : Settings → List Item → Execution → ℕ
enough settings agenda doing =
    doing.turns * turn_weight (most settings doing) + living doing * deletion_weight (most settings doing) + weights (most settings doing) agenda

-- The execution after an agenda is done to its end.
unfoldable pub run : Settings → List Item → Execution → Execution
run settings agenda doing = steps settings (enough settings agenda doing) agenda doing

-- The run of an agenda does its first item, then what that leads to, and then the others. Two agendas are done one after
-- the other.
pub record RunsToItsEnd : Type 0 where
  pub at_end : (settings : Settings) (doing : Execution) → run settings [] doing ≡ doing
  pub at_item : (settings : Settings) (item : Item) (agenda : List Item) (doing : Execution)
      → run settings (item ∷ agenda) doing ≡ run settings ((step settings item doing).items ++ agenda) (step settings item doing).doing
  pub in_parts : (settings : Settings) (one other : List Item) (doing : Execution)
      → run settings (one ++ other) doing ≡ run settings other (run settings one doing)
