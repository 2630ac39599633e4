-- The items of an agenda: what a session still has to do.
use Rattle.std.specs.Prelude.{ℕ, List, Option}
use Rattle.plain_types.specs.declared.code.Code.{Code}
use Rattle.variant_value.specs.declared.value.Value.{Value}
use Rattle.binding_values.specs.declared.property.BindingError.{BindingError}
use Rattle.property_store.specs.declared.property.Property.{Property}
use Rattle.term_core.specs.Act as term
use Rattle.session_model.specs.declared.line.Answer.{Answer}
use Rattle.session_model.specs.Execution.{Execution}

-- An item. Its depth is that of the signals that it sends.
pub data Item : Type 0 where
  -- Sends a signal, which is given by its index among the methods of the object's class.
  Emit : (target signal : ℕ) (args : List Value) (depth : ℕ) → Item
  -- Calls the callee of the connection with this number, unless the connection is broken by then.
  Call : (connection : ℕ) (args : List Value) (depth : ℕ) → Item
  -- Runs the slot with this index. The sender 0 means that there is none.
  Run : (target method sender : ℕ) (args : List Value) (depth : ℕ) → Item
  -- Runs the functor with this index for the connection with this number. The target is its context object.
  RunFunctor : (target functor sender connection : ℕ) (args : List Value) (depth : ℕ) → Item
  -- Does an action in the body of a slot or functor that runs for `self` with these arguments.
  Act : (action : term.Act) (args : List Value) (self sender depth : ℕ) → Item
  -- Warns of a code, and names an object.
  Warn : (code : Code) (object : Option ℕ) → Item
  -- Warns of the error of a bound property.
  WarnOf : (at : Property) (error : BindingError) → Item
  -- Deletes an object, unless it is gone or dying.
  Delete : (target depth : ℕ) → Item
  -- Removes what ties a dying object to others, and then deletes its children.
  Detach : (target depth : ℕ) → Item
  -- Deletes a child, unless it is gone, dying or has another parent by then.
  DeleteChild : (parent child depth : ℕ) → Item
  -- Removes a dying object.
  Remove : (target depth : ℕ) → Item
  -- Takes events, one after another, until there are no more.
  Spin : Item
  -- Replies to the command.
  Reply : Answer → Item
  -- Replies how many events were taken, and the counts of those that were not.
  ReplySpun : Item

-- The effect of an item: the items to be done first, and the session after it.
pub record Next : Type 0 where
  pub items : List Item
  pub doing : Execution

-- Puts items in front of the agenda.
abbrev pub puts : List Item → Execution → Next
puts items doing = record { items = items; doing = doing }
