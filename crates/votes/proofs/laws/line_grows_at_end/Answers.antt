use Rattle.votes.proofs.Growing.{line_begins}
use Rattle.votes.proofs.laws.line_grows_at_end.Goals as goal

pub returns : goal.returns
returns c = line_begins
