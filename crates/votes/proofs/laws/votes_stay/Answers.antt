use Rattle.std.proofs.Common.{◌≡◌, get_or, Some, None}
use Rattle.votes.specs.Slots.{Votes}
use Rattle.votes.proofs.Deciding.{vote_kept}
use Rattle.votes.proofs.Growing.{slot_stays}
use Rattle.votes.proofs.laws.votes_stay.Goals as goal

pub returns : goal.returns
returns c gateways t later slot gateway n e = slot_stays (λ (vs : Votes). get_or vs gateway None ≡ Some n) (λ vs j m fresh v. vote_kept vs gateway n j m fresh v) gateways t later slot e
