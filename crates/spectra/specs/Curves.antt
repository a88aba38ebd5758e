-- The steps that a site curve holds.
use Rattle.std.specs.Prelude.{List}
use Rattle.fixed_list.specs.Items.{items_of}
use Rattle.spectra.specs.declared.curve.SiteCurve.{SiteCurve}
use Rattle.spectra.specs.declared.curve.Step.{Step}

abbrev pub steps_of : SiteCurve → List Step
steps_of c = items_of c.steps
