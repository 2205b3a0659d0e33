use Rattle.it_chain.proofs.Alikes.{noise_alike}
use Rattle.it_chain.proofs.laws.noise_is_alike.Goals as goal

pub returns : goal.returns
returns c = noise_alike
