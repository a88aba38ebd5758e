use Rattle.rounding.proofs.Rounding.{nearest_laws}
use Rattle.rounding.proofs.Roots.{root_laws}
use Rattle.rounding.proofs.rounding_laws_stand.Goals as goal

pub returns : goal.returns
returns c = record { quotients = nearest_laws; roots = root_laws }
