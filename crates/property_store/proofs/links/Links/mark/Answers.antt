use Rattle.std.proofs.Common.{rules}
use Rattle.std.proofs.lemmas.Option.{slice_get-get_or}
use Rattle.property_store.proofs.LinkLemmas.{marking, marking_as}
use Rattle.property_store.proofs.links.Links.mark.Goals as goal
use Rattle.property_store.proofs.links.Links.mark.Goals.{in-Many, in-One}

pub returns : goal.returns
returns c = search (rules, in-One, marking_as, marking, in-Many, slice_get-get_or)
