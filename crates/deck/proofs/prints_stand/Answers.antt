use Rattle.std.proofs.Common.{◌≡◌, ℕ, ◌*◌, not, ◌&&◌, eqb, ltb, List, [], ◌∷◌, length, Some, Ok, refl, ap, ◌∙◌, subst}
use Rattle.std.specs.Fmt.{digits}
use Rattle.standard.specs.declared.fault.Ground.TheVariants.{NoFloors, PeriodTooLong, ModalWeightShort, NoCombinedShear}
use Rattle.standard.specs.declared.terms.Soil.TheVariants.{Hard}
use Rattle.standard.specs.Faults.{refusal, Verdict, verdict}
use Rattle.rounding.specs.Rounding.{nearest, nearestℤ}
use Rattle.spectra.specs.Spectra.{code_curve}
use Rattle.base_shear.proofs.SampleFigures.{frame_period}
use Rattle.combination.specs.Choice.{chosen, rule_numbered}
use Rattle.combination.specs.Squared.{squares}
use Rattle.formulas.specs.Buildings.{W}
use Rattle.formulas.specs.Modal.{modal_weights}
use Rattle.methods.specs.ModalRuns.{modal_combined}
use Rattle.methods.specs.Outcomes.{code_shear}
use Rattle.print.specs.declared.storeys.Figures.{Figures}
use Rattle.print.specs.Texts.{text_of}
use Rattle.records.specs.Rows as rows
use Rattle.sheet.specs.Contents.{Reading, reading_of}
use Rattle.sheet.specs.Faultless.{combined_in, design_in, force_in}
use Rattle.sheet.specs.Floors.{counted}
use Rattle.sheet.specs.Ledgers.{Asked, modal, Ledger, refusals, step_by}
use Rattle.sheet.specs.Ledgers as asks
use Rattle.sheet.specs.Readings.{expected}
use Rattle.sheet.specs.Samples.{frame, frame_floors, slow, quick, Samples}
use Rattle.deck.specs.Books.{Book, book_of, turned, verdict_in}
use Rattle.deck.specs.Desks.{DeskStands}
use Rattle.deck.specs.Prints.{read_text}
use Rattle.deck.specs.Samples.{PrintLaw, FramePrint, card, frame_deck}
use Rattle.deck.proofs.prints_stand.Goals as goal

law : PrintLaw
law d b h = (let p : reading_of d.sheet ≡ expected b.ledger = (λ j i. h.sheet.stands.reads i j) in ap read_text p)

-- the book before the run
abbrev before : Book
before = record { site = Some frame; ledger = record { floors = frame_floors; modes = slow ∷ quick ∷ []; last = Some (asks.mode 190 2 quick.ordinates) } }

abbrev run : Asked
run = modal frame (code_curve Hard) (chosen (rule_numbered 1))

abbrev ended : Book
ended = record { site = Some frame; ledger = record { floors = frame_floors; modes = slow ∷ quick ∷ []; last = Some run } }

-- the verdict on the run at the period t and the combined base shear x
abbrev verdict_at : ℕ → ℕ → Verdict
verdict_at t x =
    verdict
    (refusal NoFloors 0 (eqb (length (counted frame_floors)) 0)
    ∷ (refusal PeriodTooLong t (ltb 4000 t)
    ∷ (refusal ModalWeightShort (modal_weights (counted frame_floors) (slow ∷ quick ∷ [])) (ltb (10 * modal_weights (counted frame_floors) (slow ∷ quick ∷ [])) (9 * W (counted frame_floors)))
    ∷ (refusal NoCombinedShear 0 (eqb x 0 && not (eqb (code_shear frame (code_curve Hard) (counted frame_floors)) 0)) ∷ []))))

accepted : modal_combined frame (code_curve Hard) squares (counted frame_floors) (slow ∷ quick ∷ []) 1 ≡ 1215 → verdict (refusals frame_floors (slow ∷ quick ∷ []) run) ≡ Ok tt
unfolding nearest nearestℤ counted
accepted e = λ j. verdict_at (frame_period j) (e j)

booked : book_of frame_deck ≡ turned (verdict_in before (card (rows.byte_of "C" ∷ (1 ∷ [])))) before (Ok (rows.modal 1))
booked = refl

-- the figures of two storeys' readings
abbrev pub figures_of_two : Reading → Reading → List Figures
figures_of_two r1 r2 = record { design = design_in r1; force = force_in r1 } ∷ (record { design = design_in r2; force = force_in r2 } ∷ [])

sample : Samples → FramePrint
unfolding digits
sample s d h =
    let a = accepted (ap combined_in s.squares_1) in
    let b : book_of frame_deck ≡ ended = booked ∙ ap (λ (v : Verdict). turned v before (Ok (rows.modal 1))) a ∙ ap (λ (v : Verdict). record { site = Some frame; ledger = step_by v before.ledger run }) a in
    law d ended (subst (λ (k : Book). DeskStands d k) b h) ∙ (λ j. text_of (figures_of_two (s.squares_1 j) (s.squares_2 j)))

pub returns : goal.returns
returns c = record { law = law; sample = sample c.samples_stand.ensures }
