use Rattle.std.proofs.Common.{◌≡◌, ◌++◌, ℕ, drop, map}
use Rattle.session_tables.specs.Tables.{state_at}
use Rattle.session_effects.specs.Setup.{settings_of}
use Rattle.session_effects.specs.Writing.{announced, told_items}
use Rattle.session_effects.proofs.announcing.announcements.Given as goal

abbrev pub invariant-loop-change : goal.invariant-loop-change
invariant-loop-change l = record {
  same : l.change-items ≡ l.fn.changes;
  told : (depth : ℕ) → map (announced depth) l.told ++ told_items (settings_of l.caller.setup.now) (state_at l.tables l.caller.place) depth
      (drop l.change-index l.change-items)
      ≡ told_items (settings_of l.caller.setup.now) (state_at l.tables l.caller.place) depth l.change-items;
}
