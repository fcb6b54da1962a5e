-- What a vote table means as a carrier.
use Rattle.std.specs.Prelude.{ℕ}
use Rattle.carrier.specs.Logs.{log_meaning}
use Rattle.carrier.specs.Meaning.{Meaning, with_line}
use Rattle.votes.specs.declared.table.VoteTable.{VoteTable}
use Rattle.votes.specs.Tables.{Table, line_of, after_vote}
use Rattle.votes.specs.Votes.{votes_in}

-- the votes that it holds
abbrev pub votes_of : VoteTable → Table
votes_of t = votes_in t.voting.slots

-- its line is that of the votes
abbrev pub meaning_of : VoteTable → Meaning
meaning_of t = with_line (log_meaning t.voting.log) (line_of (votes_of t))

-- the votes that it holds after one more
abbrev pub votes_after : VoteTable → ℕ → Table
votes_after t w = after_vote (meaning_of t).gateways (meaning_of t).count (votes_of t) w
