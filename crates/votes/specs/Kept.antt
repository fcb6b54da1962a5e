-- What the vote table keeps true of its memory.
use Rattle.std.specs.Prelude.{◌≡◌, ℕ, ◌+◌, ◌≤◌, Bool, true, false, List, ◌++◌, map, length, take, drop, replicate, Some, None, Option, nat_lt}
use Rattle.std.specs.List.{prefix_len}
use Rattle.votes.specs.declared.slot.Slot.{Slot}
use Rattle.votes.specs.declared.slot.Outcome.{Outcome}
use Rattle.votes.specs.declared.slot.Outcome.TheVariants.{Open, Locked, Closed}
use Rattle.votes.specs.Slots.{Votes, outcome_of}
use Rattle.votes.specs.Tables.{Table, line_of, vote_at}

-- the table that slots in memory hold for a number of gateways
abbrev pub table_of : ℕ → List Slot → Table
table_of gateways memory = map (λ slot. take gateways slot.votes) memory

-- a slot in memory without votes
abbrev pub empty_slot : Slot
empty_slot = record { votes = replicate 8 None }

-- whether a slot is locked or closed
abbrev pub is_decided : Outcome → Bool
is_decided Open = false
is_decided (Locked n) = true
is_decided Closed = true

-- the first open slot, or the number of slots where all are decided
abbrev pub first_open : Table → ℕ
first_open t = prefix_len (λ (vs : Votes). is_decided (outcome_of vs)) t

-- whether a vote is for a number below the count
abbrev pub is_known : ℕ → Option ℕ → Bool
is_known count None = true
is_known count (Some n) = nat_lt n count

-- every vote is for a number below the count
abbrev pub Known : ℕ → Table → Type 0
Known count t = (slot gateway : ℕ) → is_known count (vote_at t slot gateway) ≡ true

-- the slots before `at` are decided, and the line so far is what they add to it
abbrev pub Written : Table → List ℕ → ℕ → Type 0
Written t line at = (line ++ line_of (drop at t) ≡ line_of t) × (at + first_open (drop at t) ≡ first_open t) × (length line ≤ at) × (at ≤ length t)

-- the line is that of the table, and `at` is the first open slot
abbrev pub Cached : Table → List ℕ → ℕ → Type 0
Cached t line at = (line ≡ line_of t) × (at ≡ first_open t)
