use Rattle.std.proofs.Common.{◌≡◌, None, rules}
use Rattle.property_store.specs.Store.{properties_of}
use Rattle.property_store.specs.Table.{store_at}
use Rattle.property_store.proofs.PlaceLemmas.{unchanged_store}
use Rattle.property_store.proofs.StoreLemmas.{without_absent}
use Rattle.property_store.proofs.stores.Stores.drop_object.Goals as goal

-- there is no such object
nobody : (c : goal.Else-is_some) → properties_of (store_at c.args.self.now.shelves c.args.place) c.args.object ≡ None
nobody c = search rules

pub returns-else-is_some-clause-stores : goal.returns-else-is_some-clause-stores
returns-else-is_some-clause-stores c = search (rules, unchanged_store, without_absent)
