-- What a deck asks is fair: the code's curve keeps its law, and so does every rule that has a number. Assumes nothing.
use Rattle.std.proofs.Common.{rules}
use Rattle.standard.specs.declared.terms.SiteTerms.{SiteTerms}
use Rattle.standard.specs.declared.terms.Soil.{Soil}
use Rattle.spectra.specs.Spectra.{SpectrumLaw, code_curve}
use Rattle.base_shear.specs.Periods.{BaseGoes}
use Rattle.combination.specs.declared.choice.RuleChoice.{RuleChoice}
use Rattle.combination.specs.declared.choice.RuleChoice.TheVariants.{SumOfSquares, AbsoluteSum, GroupedSumOfSquares, GroupedAbsoluteSum}
use Rattle.combination.specs.Choice.{chosen, rule_numbered}
use Rattle.combination.specs.Laws.{Laws}
use Rattle.combination.specs.Squared.{squares, squared_total}
use Rattle.combination.specs.GroupsLaws
use Rattle.combination.proofs.SquaresLaws
use Rattle.combination.specs.TotalLaws
use Rattle.records.specs.Rows as rows
use Rattle.records.specs.Rows.{Row}
use Rattle.sheet.specs.Faultless.{Fair}
use Rattle.deck.specs.Books.{Deed, accept, ask, deed}

pub code_lawful : (soil : Soil) → SpectrumLaw (code_curve soil)
code_lawful soil = search rules

pub rule_lawful : (c : RuleChoice) → Laws (chosen c)
rule_lawful SumOfSquares = SquaresLaws.laws
rule_lawful AbsoluteSum = TotalLaws.laws
rule_lawful GroupedSumOfSquares = GroupsLaws.laws squares SquaresLaws.laws
rule_lawful GroupedAbsoluteSum = GroupsLaws.laws squared_total TotalLaws.laws

-- every call that a record asks for is fair at an accepted site
abbrev pub FairAt : SiteTerms → Deed → Type 0
FairAt t (accept values) = Unit {0}
FairAt t (ask own call) = Fair (call t)

pub fair_deed : (t : SiteTerms) → BaseGoes t.formula → (row : Row) → FairAt t (deed row)
fair_deed t goes (rows.site values) = tt
fair_deed t goes (rows.floor h w) = tt
fair_deed t goes (rows.reweigh i w) = tt
fair_deed t goes (rows.mode p c ys) = tt
fair_deed t goes (rows.strike k) = tt
fair_deed t goes rows.static = (code_lawful t.soil, goes)
fair_deed t goes (rows.modal rule) = (code_lawful t.soil, goes, rule_lawful (rule_numbered rule))
