use Rattle.std.proofs.Common.{◌≡◌, ℕ, ◌<◌, get_or, pos, arith, rules}
use Rattle.records.specs.Ordinates.{ordinate_at}
use Rattle.records.proofs.FirstOrdinates.{first_ordinates}
use Rattle.records.proofs.FromCalls.{made_by}
use Rattle.records.proofs.ordinates.decode_ordinates.Goals as goal

pub returns : goal.returns
returns c =
    let each : (k : ℕ) → k < 40 → get_or c.from_fn.result k (pos 0) ≡ ordinate_at c.args.bytes.now k =
    λ k below. made_by _ (ordinate_at c.args.bytes.now) _ (λ i y q h. search rules) c.from_fn.result (pos 0) 40 k c.from_fn.ensures.items below in
    record {
      each = each;
      first = λ n most. first_ordinates c.args.bytes.now c.from_fn.result (λ k below. each k (omega arith)) n (omega arith);
    }
