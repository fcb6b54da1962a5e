use Rattle.votes.proofs.Deciding.{one_majority, locked_has, locked_by}
use Rattle.votes.proofs.laws.one_majority.Goals as goal

pub returns : goal.returns
returns c = record { one = one_majority; locked = λ vs n. (locked_has vs n, locked_by vs n) }
