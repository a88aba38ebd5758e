use Rattle.sheet.proofs.Standing.{carried}
use Rattle.sheet.proofs.standing_is_carried.Goals as goal

pub returns : goal.returns
returns c = carried
