use Rattle.methods.proofs.Designs.{kept}
use Rattle.methods.proofs.scale.Scale.design_shear.Goals as goal

pub returns-then-base-code : goal.returns-then-base-code
returns-then-base-code c = kept c.args.self.now.code.value c.args.self.now.base c.args.combined c.if-base-code.true
