-- Writes to properties, and their announcements.
use Rattle.std.specs.Prelude.{◌≡◌, ℕ, List, [], ◌∷◌, Result, Ok, Err}
use Rattle.std.specs.List.{filter_map}
use Rattle.std.specs.Option.{option_map_or}
use Rattle.plain_types.specs.declared.fault.Fault.{Fault}
use Rattle.plain_types.specs.declared.fault.Fault.TheVariants.{Refused, Memory}
use Rattle.variant_value.specs.declared.value.Value.{Value}
use Rattle.binding_values.specs.declared.change.Change.{Change}
use Rattle.property_store.specs.declared.property.Property.{Property}
use Rattle.session_model.specs.Execution.{Execution, in_state}
use Rattle.session_model.specs.Items.{Emit, Item, WarnOf, puts}
use Rattle.session_model.specs.Methods.{Found}
use Rattle.session_model.specs.Settings.{Settings}
use Rattle.session_model.specs.Showing.{property_at, told_as, told_value}
use Rattle.session_model.specs.State.{State, shown}
use Rattle.session_model.specs.Writing.{Writing, written}
use Rattle.session_tables.specs.declared.tables.Tables.{Tables}
use Rattle.session_tables.specs.Tables.{state_at}
use Rattle.session_effects.specs.declared.announcing.Announcement.{Announcement}
use Rattle.session_effects.specs.declared.announcing.Announcement.TheVariants.{Warning, Signal}
use Rattle.session_effects.specs.declared.announcing.PendingAnnouncements.{PendingAnnouncements}
use Rattle.session_effects.specs.declared.announcing.PendingAnnouncements.TheVariants.{Nothing, One, Several}
use Rattle.session_effects.specs.declared.announcing.NotifySignal.{NotifySignal}
use Rattle.session_effects.specs.declared.session_context.SessionContext.{SessionContext}
use Rattle.session_effects.specs.Setup.{settings_of}

module _ (settings : Settings) (state : State) where
  -- The arguments of a NOTIFY signal: the value that its property shows, if the signal has a parameter.
  abbrev pub notice_args : NotifySignal → List Value
  notice_args notice = told_value settings state notice.object (shown state notice.object notice.property).0 notice.signal

  -- The items that announce changes, at a depth.
  abbrev pub told_items : ℕ → List Change → List Item
  told_items depth changes = filter_map (λ change. told_as settings state depth change.at change.told) changes

  -- The items for what is to be announced, at a depth.
  abbrev pub items_of : ℕ → PendingAnnouncements → List Item
  items_of depth Nothing = []
  items_of depth (One notice) = Emit notice.object notice.signal (notice_args notice) depth ∷ []
  items_of depth (Several changes) = told_items depth changes

  -- The name of a property, as its object's class declares it.
  abbrev pub name_of : Property → List ℕ
  name_of at = option_map_or (λ property. property.name) (property_at settings state at.object at.number) []

-- The item of an announcement, at a depth.
abbrev pub announced : ℕ → Announcement → Item
announced depth (Warning at error) = WarnOf at error
announced depth (Signal sent) = Emit sent.object sent.signal sent.args depth

-- A write has these announcements and leaves these tables, at every depth, for all earlier lines and any number of
-- turns.
abbrev pub Writes : SessionContext → ℕ → Writing → Tables → PendingAnnouncements → Tables → Type 0
Writes caller object writing old told new = (depth : ℕ) (doing : Execution) →
    written (settings_of caller.setup.now) (in_state doing (state_at old caller.place)) object depth writing
    ≡ puts (items_of (settings_of caller.setup.now) (state_at new caller.place) depth told) (in_state doing (state_at new caller.place))

-- The write was made, or has its refusal, unless memory ran out.
abbrev pub TriesToWrite : {T : Type 0} → SessionContext → ℕ → Found Writing → Tables → (T → PendingAnnouncements) → Tables → Result T Fault → Type 0
TriesToWrite caller object wanted old told new (Ok value) = (writing : Writing) × (wanted ≡ Ok writing) × Writes caller object writing old (told value) new
TriesToWrite caller object wanted old told new (Err (Refused code)) = wanted ≡ Err code
TriesToWrite caller object wanted old told new (Err Memory) = Unit {0}
