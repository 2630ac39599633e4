use Rattle.std.proofs.Common.{arith}
use Rattle.std.proofs.lemmas.Grind.{common_steps}
use Rattle.property_store.proofs.PlaceLemmas.{shelves_seen, store_there}
use Rattle.property_store.proofs.StoreLemmas.{next_shown}
use Rattle.property_store.proofs.stores.Stores.next_object.Goals as goal

pub returns : goal.returns
returns c = grind (arith, common_steps, next_shown, store_there, shelves_seen)
