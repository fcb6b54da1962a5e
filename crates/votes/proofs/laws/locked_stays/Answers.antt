use Rattle.std.proofs.Common.{◌≡◌, Some}
use Rattle.votes.specs.Slots.{Votes, locked}
use Rattle.votes.proofs.Deciding.{locked_kept}
use Rattle.votes.proofs.Growing.{slot_stays}
use Rattle.votes.proofs.laws.locked_stays.Goals as goal

pub returns : goal.returns
returns c gateways t later slot n e = slot_stays (λ (vs : Votes). locked vs ≡ Some n) (λ vs j m fresh l. locked_kept vs j n m fresh l) gateways t later slot e
