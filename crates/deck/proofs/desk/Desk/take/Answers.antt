use Rattle.std.proofs.Common.{rules}
use Rattle.records.specs.Rows.{record_of}
use Rattle.deck.specs.Desks.{Takes}
use Rattle.deck.proofs.Standing.{carries_on}
use Rattle.deck.proofs.desk.Desk.take.Goals as goal

pub returns-clause-carries : goal.returns-clause-carries
returns-clause-carries c =
    let taken : Takes c.args.self.now (record_of c.args.bytes.now) c.take_read.result c.take_read.new.self = search rules in
    carries_on c.args.self.now c.take_read.new.self c.args.bytes.now c.take_read.result taken
