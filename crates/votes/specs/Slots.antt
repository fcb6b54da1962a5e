-- A slot: the vote of each gateway, and what the votes decide.
use Rattle.std.specs.Prelude.{ℕ, ◌+◌, ◌/◌, Bool, false, cond, not, ◌&&◌, List, length, is_some, Some, None, count_by, Option, ◌==◌, nat_le}
use Rattle.std.specs.List.{find, list_all}
use Rattle.std.specs.Option.{option_flatten}
use Rattle.votes.specs.declared.slot.Outcome.{Outcome}
use Rattle.votes.specs.declared.slot.Outcome.TheVariants.{Open, Locked, Closed}

-- the votes in a slot, one for each gateway: none yet, or the number voted for
abbrev pub Votes : Type 0
Votes = List (Option ℕ)

-- whether a vote is for the number n
abbrev pub is_for : ℕ → Option ℕ → Bool
is_for n None = false
is_for n (Some m) = m == n

-- how many have voted for n
abbrev pub votes_for : ℕ → Votes → ℕ
votes_for n vs = count_by (is_for n) vs

-- half the gateways rounded down, plus 1
abbrev pub majority : Votes → ℕ
majority vs = length vs / 2 + 1

-- whether a vote is for a number that a majority has voted for
abbrev pub wins : Votes → Option ℕ → Bool
wins vs None = false
wins vs (Some n) = nat_le (majority vs) (votes_for n vs)

-- the first of some votes that wins
abbrev pub winner : Votes → Votes → Option ℕ
winner vs more = option_flatten (find (wins vs) more)

-- the number that the slot is locked on: one that a majority has voted for
abbrev pub locked : Votes → Option ℕ
locked vs = winner vs vs

-- whether every gateway has voted
abbrev pub all_voted : Votes → Bool
all_voted vs = list_all is_some vs

-- a slot is closed when all have voted and no number has a majority
abbrev pub closed : Votes → Bool
closed vs = all_voted vs && not (is_some (locked vs))

-- locked where there is a locked number, else closed or open
abbrev pub outcome_by : Option ℕ → Bool → Outcome
outcome_by (Some n) shut = Locked n
outcome_by None shut = cond shut Closed Open

-- what the votes in a slot decide
abbrev pub outcome_of : Votes → Outcome
outcome_of vs = outcome_by (locked vs) (closed vs)
