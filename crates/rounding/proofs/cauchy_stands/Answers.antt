use Rattle.rounding.proofs.Cauchy.{cauchy, cauchy_weighted}
use Rattle.rounding.proofs.cauchy_stands.Goals as goal

pub returns : goal.returns
returns c = (cauchy, cauchy_weighted)
