use Rattle.std.proofs.Common.{◌≡◌, ℕ, ◌<◌, ◌≤◌, length, get_or}
use Rattle.arrayvec.specs.ArrayVec.{array_vec_len}
use Rattle.methods.specs.ModalRuns.{modal_combined}
use Rattle.methods.specs.Outcomes.{shears_up_to}
use Rattle.methods.specs.Views.{floors_in, modes_in}
use Rattle.methods.proofs.storeys.Modal.combined_shears.Given as goal

abbrev pub invariant-loop-i : goal.invariant-loop-i
invariant-loop-i g l = record {
  counted : array_vec_len l.shears ≡ l.i;
  taken : l.shears.items ≡ shears_up_to (modal_combined l.self.shaking.now.site.now.terms (g.C.Spectrum.ordinate l.self.shaking.now.spectrum.now) (g.R.Rule.squared l.self.rule.now) (floors_in l.self.shapes.now) (modes_in l.self.shapes.now)) l.i;
  small : (k : ℕ) → k < length l.shears.items → get_or l.shears.items k 0 ≤ 6480000;
}
