-- Laws of voting: they hold of every table, whatever is voted later, each later vote with the count at its time.
use Rattle.std.specs.Prelude.{◌≡◌, ℕ, ◌≤◌, true, List, [], map, length, take, Some, slice_index_or}
use Rattle.votes.specs.Slots.{Votes, votes_for, majority, locked, closed}
use Rattle.votes.specs.Tables.{Table, line_of, vote_at, after_votes, empty_table}

-- at most one number has a majority in a slot
abbrev pub OneMajority : Type 0
OneMajority = (vs : Votes) (m n : ℕ) → majority vs ≤ votes_for m vs → majority vs ≤ votes_for n vs → m ≡ n

-- a slot is locked on a number exactly where that number has a majority
abbrev pub LockedByMajority : Type 0
LockedByMajority = (vs : Votes) (n : ℕ) → (locked vs ≡ Some n → majority vs ≤ votes_for n vs) × (majority vs ≤ votes_for n vs → locked vs ≡ Some n)

-- a locked slot stays locked on its number
abbrev pub LockedStays : Type 0
LockedStays = (gateways : ℕ) (t : Table) (later : List (ℕ × ℕ)) (slot n : ℕ) → locked (slice_index_or t slot []) ≡ Some n → locked (slice_index_or (after_votes gateways t later) slot []) ≡ Some n

-- a closed slot stays closed
abbrev pub ClosedStays : Type 0
ClosedStays = (gateways : ℕ) (t : Table) (later : List (ℕ × ℕ)) (slot : ℕ) → closed (slice_index_or t slot []) ≡ true → closed (slice_index_or (after_votes gateways t later) slot []) ≡ true

-- the line only grows at its end
abbrev pub LineGrowsAtEnd : Type 0
LineGrowsAtEnd = (gateways : ℕ) (t : Table) (later : List (ℕ × ℕ)) → take (length (line_of t)) (line_of (after_votes gateways t later)) ≡ line_of t

-- a vote, once cast, is never changed
abbrev pub VotesStay : Type 0
VotesStay = (gateways : ℕ) (t : Table) (later : List (ℕ × ℕ)) (slot gateway n : ℕ) → vote_at t slot gateway ≡ Some n → vote_at (after_votes gateways t later) slot gateway ≡ Some n

-- the line of one slot and three gateways after votes at a count of 6
abbrev pub line_of_three : List ℕ → List ℕ
line_of_three ws = line_of (after_votes 3 (empty_table 3 1) (map (λ w. (6, w)) ws))
