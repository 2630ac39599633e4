use Rattle.binding_values.proofs.ChainLemmas.{chain_law}
use Rattle.binding_values.proofs.laws.law_chains.Goals as goal

pub returns : goal.returns
returns c = chain_law
