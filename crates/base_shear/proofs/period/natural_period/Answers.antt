use Rattle.std.proofs.Common.{sym, subst, arith}
use Rattle.standard.specs.declared.terms.Formula.{Formula}
use Rattle.standard.specs.declared.terms.Formula.TheVariants.{ConcreteFrame, SteelFrame}
use Rattle.base_shear.proofs.FrameTables.{known_frame, concrete_right, steel_right}
use Rattle.base_shear.specs.declared.tables.TheConstants.{CONCRETE_FRAME, STEEL_FRAME}
use Rattle.base_shear.specs.Periods.{IsPeriod}
use Rattle.base_shear.proofs.Periods.{period_only}
use Rattle.base_shear.proofs.period.natural_period.Goals as goal

pub returns-in-ConcreteFrame : goal.returns-in-ConcreteFrame
returns-in-ConcreteFrame c = let h = known_frame ConcreteFrame c.args.site.now.terms.formula CONCRETE_FRAME concrete_right c.args.roof.value c.frame_period.result (omega arith) (omega arith) c.frame_period.ensures c.in-ConcreteFrame.is c.args.site.now.accepted in record { is = h.0; least = h.1 }

pub returns-in-SteelFrame : goal.returns-in-SteelFrame
returns-in-SteelFrame c = let h = known_frame SteelFrame c.args.site.now.terms.formula STEEL_FRAME steel_right c.args.roof.value c.frame_period-in-SteelFrame.result (omega arith) (omega arith) c.frame_period-in-SteelFrame.ensures c.in-SteelFrame.is c.args.site.now.accepted in record { is = h.0; least = h.1 }

pub returns-in-Other-clause-is : goal.returns-in-Other-clause-is
returns-in-Other-clause-is c = period_only c.args.site.now.terms.formula c.args.roof.value c.other_period.result c.args.site.now.accepted (subst (λ (f : Formula). IsPeriod f c.args.roof.value c.other_period.result) (sym c.in-Other.is) c.other_period.ensures)
