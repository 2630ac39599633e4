use Rattle.object_tree.proofs.KeptLemmas.{sound_anyhow}
use Rattle.object_tree.proofs.forests.Forests.law_sound.Goals as goal

pub returns : goal.returns
returns c = sound_anyhow c.self.invariant c.self.view_is c.args.place c.requires
