-- The table of all slots, the line that it makes, and what a vote does.
use Rattle.std.specs.Prelude.{ℕ, ◌/◌, ◌%◌, Bool, cond, not, ◌&&◌, List, [], ◌∷◌, length, replicate, is_some, Some, None, Option, nat_lt, slice_index_or, slice_set}
use Rattle.votes.specs.declared.slot.Outcome.{Outcome}
use Rattle.votes.specs.declared.slot.Outcome.TheVariants.{Open, Locked, Closed}
use Rattle.votes.specs.declared.vote.Vote.{Vote}
use Rattle.votes.specs.Slots.{Votes, outcome_of}

-- the votes of every slot, in slot order
abbrev pub Table : Type 0
Table = List Votes

-- the line from a slot on: a locked slot puts its number before the rest, a closed one nothing, and an open one ends the line
abbrev pub line_from : Outcome → List ℕ → List ℕ
line_from (Locked n) rest = n ∷ rest
line_from Closed rest = rest
line_from Open rest = []

-- the line: the locked numbers in slot order, up to the first open slot
abbrev pub line_of : Table → List ℕ
line_of [] = []
line_of (vs ∷ more) = line_from (outcome_of vs) (line_of more)

-- a vote in one word is number × 65,536 + slot × 16 + gateway: its gateway
abbrev pub gateway_of : ℕ → ℕ
gateway_of w = w % 16

-- the slot of a vote
abbrev pub slot_of : ℕ → ℕ
slot_of w = w / 16 % 4096

-- the number that a vote is for
abbrev pub number_of : ℕ → ℕ
number_of w = w / 65536

-- the vote that a word says
abbrev pub vote_of : ℕ → Vote
vote_of w = record { number = number_of w; slot = slot_of w; gateway = gateway_of w }

-- what a gateway has voted for in a slot
abbrev pub vote_at : Table → ℕ → ℕ → Option ℕ
vote_at t slot gateway = slice_index_or (slice_index_or t slot []) gateway None

-- whether a vote is valid: its gateway, slot and number exist, and the gateway has not voted in the slot
abbrev pub is_valid_vote : ℕ → ℕ → Table → Vote → Bool
is_valid_vote gateways count t v = nat_lt v.gateway gateways && (nat_lt v.slot (length t) && (nat_lt v.number count && not (is_some (vote_at t v.slot v.gateway))))

-- the same of the vote that a word says
abbrev pub is_valid : ℕ → ℕ → Table → ℕ → Bool
is_valid gateways count t w = is_valid_vote gateways count t (vote_of w)

-- the table with one vote more
abbrev pub with_vote : Table → ℕ → ℕ → ℕ → Table
with_vote t slot gateway number = slice_set t slot (slice_set (slice_index_or t slot []) gateway (Some number))

-- the table after a vote, which does nothing unless it is valid
abbrev pub after_cast : ℕ → ℕ → Table → Vote → Table
after_cast gateways count t v = cond (is_valid_vote gateways count t v) (with_vote t v.slot v.gateway v.number) t

-- the same for the vote that a word says
abbrev pub after_vote : ℕ → ℕ → Table → ℕ → Table
after_vote gateways count t w = after_cast gateways count t (vote_of w)

-- the table after votes one by one, each with the count at its time
abbrev pub after_votes : ℕ → Table → List (ℕ × ℕ) → Table
after_votes gateways t [] = t
after_votes gateways t (v ∷ more) = after_votes gateways (after_vote gateways v.0 t v.1) more

-- a slot in which nobody has voted
abbrev pub no_votes : ℕ → Votes
no_votes gateways = replicate gateways None

-- a table in which nobody has voted
abbrev pub empty_table : ℕ → ℕ → Table
empty_table gateways slots = replicate slots (no_votes gateways)
