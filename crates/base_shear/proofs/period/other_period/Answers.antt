use Rattle.std.proofs.Common.{arith}
use Rattle.base_shear.proofs.Periods.{other_least}
use Rattle.base_shear.proofs.period.other_period.Goals as goal

pub returns : goal.returns
returns c = other_least c.args.roof.value c.args.base c.isqrt-root.result (omega arith) c.isqrt-root.ensures.square_le c.isqrt-root.ensures.next_square_gt
