use Rattle.script.proofs.Keeping.{row_law}
use Rattle.script.proofs.line.Line.row.Goals as goal

pub returns : goal.returns
returns c = record { value = c.bytes_before.ensures; law = λ bs e. row_law c.args.end c.bytes_before.result _ bs e c.bytes_before.ensures }
