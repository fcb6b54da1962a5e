use Rattle.std.proofs.Common.{◌≡◌, true}
use Rattle.votes.specs.Slots.{Votes, closed}
use Rattle.votes.proofs.Deciding.{closed_kept}
use Rattle.votes.proofs.Growing.{slot_stays}
use Rattle.votes.proofs.laws.closed_stays.Goals as goal

pub returns : goal.returns
returns c gateways t later slot e = slot_stays (λ (vs : Votes). closed vs ≡ true) closed_kept gateways t later slot e
