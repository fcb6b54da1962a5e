-- A line in lent memory, and what holds of its numbers and of places in it.
use Rattle.std.specs.Prelude.{ℕ, ◌<◌, ◌≤◌, List, length, take, slice_index}
use Rattle.carrier.specs.declared.line.Line.{Line}

-- the numbers in the line
abbrev pub numbers : Line → List ℕ
numbers l = take l.len l.memory.now

-- every number is below n
abbrev pub AllBelow : ℕ → List ℕ → Type 0
AllBelow n xs = (i : ℕ) → i < length xs → slice_index xs i < n

-- no number is above n
abbrev pub NoneAbove : ℕ → List ℕ → Type 0
NoneAbove n xs = (i : ℕ) → slice_index xs i ≤ n
