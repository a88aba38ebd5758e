use Rattle.base_shear.proofs.Accelerations.{acceleration_law}
use Rattle.base_shear.proofs.Periods.{period_law}
use Rattle.base_shear.proofs.base_shear_laws_stand.Goals as goal

pub returns : goal.returns
returns c = record { periods = period_law; accelerations = acceleration_law }
