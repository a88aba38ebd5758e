use Rattle.standard.proofs.Verdicts.{verdict_law}
use Rattle.standard.proofs.verdict_law_stands.Goals as goal

pub returns : goal.returns
returns c = verdict_law
