-- Design shears: the nearest to the combined ones × the scale. Assumes nothing.
use Rattle.std.proofs.Common.{◌≡◌, ℕ, ◌*◌, ◌<◌, ◌≤◌, ltb, mul_comm, arith}
use Rattle.rounding.proofs.Rounding.{close, whole}
use Rattle.std.proofs.lemmas.Bool.{cond_both, ltb-true, lt-ltb, le-ltb}
use Rattle.formulas.specs.Modal.{scale_over, scale_under, design_shear}
use Rattle.formulas.specs.Exact.{DesignNear}
use Rattle.formulas.specs.Theorems.{CombinedTheorems}
use Rattle.formulas.proofs.Combined.{combined_near}

-- nothing is divided by 0
under_some : (code combined : ℕ) → (combined < code → 1 ≤ combined) → 1 ≤ scale_under code combined
under_some code combined h = cond_both (ltb combined code) combined 1 (λ u. 1 ≤ u) (λ e. h (ltb-true combined code e)) (λ e. omega arith)

pub design_near : (code combined c : ℕ) → (combined < code → 1 ≤ combined) → DesignNear code combined c (design_shear code combined c)
design_near code combined c h = omega (arith, close (c * scale_over code combined) (scale_under code combined) (under_some code combined h))

pub design_raised : (code combined : ℕ) → combined < code → 1 ≤ combined → design_shear code combined combined ≡ code
design_raised code combined l p = rw (lt-ltb combined code l, mul_comm combined code) (whole code combined p)

pub design_kept : (code combined : ℕ) → code ≤ combined → design_shear code combined combined ≡ combined
design_kept code combined l = rw (le-ltb combined code l) (whole combined 1 (omega arith))

pub combined_theorems : CombinedTheorems
combined_theorems = record { near = combined_near; design = design_near; base = λ code combined h. ((λ l. design_raised code combined l (h l)), design_kept code combined) }
