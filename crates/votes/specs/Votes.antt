-- The votes that slots in memory hold.
use Rattle.votes.specs.declared.slots.Slots.{Slots}
use Rattle.votes.specs.Tables.{Table}
use Rattle.votes.specs.Kept.{table_of}

-- the votes of the gateways in every slot
abbrev pub votes_in : Slots → Table
votes_in s = table_of s.gateways s.votes.now
