use Rattle.std.proofs.Common.{rules, arith, ◌≤◌}
use Rattle.base_shear.proofs.Periods.{some}
use Rattle.base_shear.proofs.shaking.Shaking.code_base_shear.Goals as goal

-- no period of a building is 0, so one that is out of range is too long
pub returns-in_err-period : goal.returns-in_err-period
returns-in_err-period g c =
    let p : 1 ≤ c.natural_period-natural.result = rw c.natural_period-natural.ensures.is (some c.args.self.now.site.now.terms.formula c.args.roof.value c.args.self.now.site.now.accepted (omega arith)) in
    search (rules, p)
