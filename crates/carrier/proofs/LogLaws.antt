-- What the proofs of a log's functions need besides the usual steps.
use Rattle.std.proofs.Math.Seq.{take-set-lt}
use Rattle.std.proofs.lemmas.Grind.{common_steps}

pub ruleset log_steps = (common_steps, take-set-lt)
