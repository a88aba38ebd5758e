-- The ledger of a list of calls, all made with one site, one spectrum and one rule.
use Rattle.std.specs.Prelude.{ℕ, List, fold}
use Rattle.standard.specs.declared.fraction.Fraction.{Fraction}
use Rattle.standard.specs.declared.terms.SiteTerms.{SiteTerms}
use Rattle.combination.specs.declared.response.Response.{Response}
use Rattle.sheet.specs.declared.call.Call.{Call}
use Rattle.sheet.specs.declared.call.Call.TheVariants.{Floor, Reweigh, Mode, Strike, Static, Modal}
use Rattle.sheet.specs.Ledgers.{Asked, floor, reweigh, mode, strike, static, modal, Ledger, opened, step}
use Rattle.sheet.specs.Modes.{typed}

-- a call with what it is made with
abbrev pub asked : SiteTerms → (ℕ → Fraction) → (List Response → ℕ) → Call → Asked
asked s sa q (Floor h w) = floor h w
asked s sa q (Reweigh i w) = reweigh i w
asked s sa q (Mode m) = mode m.period m.count (typed m)
asked s sa q (Strike k) = strike k
asked s sa q Static = static s sa
asked s sa q Modal = modal s sa q

-- the ledger that was fed the calls alone
abbrev pub ledger_of : SiteTerms → (ℕ → Fraction) → (List Response → ℕ) → List Call → Ledger
ledger_of s sa q calls = fold (λ ℓ call. step ℓ (asked s sa q call)) opened calls
