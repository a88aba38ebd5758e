use Rattle.std.proofs.Common.{◌+◌, get_or, rules}
use Rattle.records.proofs.Fields.{number_copied}
use Rattle.records.proofs.FromCalls.{made_by}
use Rattle.records.proofs.read.field.Goals as goal

pub returns : goal.returns
returns g c = number_copied c.from_fn.result c.args.bytes.now c.args.place g.row.N
    (λ j below. made_by _ (λ k. get_or c.args.bytes.now (c.args.place + k) 0) _ (λ i y q k. search rules) c.from_fn.result 0 g.row.N j c.from_fn.ensures.items below)
