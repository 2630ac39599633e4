use Rattle.std.proofs.Common.{subst, sym, arith}
use Rattle.shared_rows.specs.Rows.{rows_at}
use Rattle.std.proofs.lemmas.Grind.{common_steps}
use Rattle.property_store.specs.Store.{IsSound}
use Rattle.property_store.proofs.PlaceLemmas.{store_sound}
use Rattle.property_store.proofs.ReadLemmas.{place_open, store_read}
use Rattle.property_store.proofs.stores.Stores.count.Goals as goal

pub returns-clause-sound : goal.returns-clause-sound
returns-clause-sound c =
    subst IsSound (sym (store_read c.self.invariant c.self.view_is c.requires))
    (store_sound c.self.inside.layouts (rows_at c.self.inside.rows c.args.place) c.len.ensures.sound
    (c.self.invariant.sound c.args.place _ (place_open c.self.invariant c.self.view_is c.requires)))

pub len-requires : goal.len-requires
len-requires c = grind (arith, common_steps)

pub returns-clause-count : goal.returns-clause-count
returns-clause-count c = grind (arith, common_steps)
