-- Lines as they are read: what is kept of their bytes, and the row that they give at their end.
use Rattle.std.specs.Prelude.{◌≡◌, ℕ, ◌-◌, Bool, true, false, cond, List, [], ◌∷◌, ◌++◌, length, take, Some, None, Ok, Err, fold, Option, Result, ◌==◌, nat_lt, slice_index}
use Rattle.std.specs.Borrow.{Bor}
use Rattle.script.specs.declared.fault.TooLong.{TooLong}
use Rattle.script.specs.declared.line.Line.{Line}
use Rattle.script.specs.declared.line.End.{End}
use Rattle.script.specs.declared.line.End.TheVariants.{LineFeed, Script}
use Rattle.script.specs.Buffers.{held}
use Rattle.script.specs.Bytes.{carriage_return}

-- what is kept of a line: its first bytes, and whether more came
pub record Kept : Type 0 where
  pub first : List ℕ
  pub more : Bool

-- the bytes that a line holds
abbrev pub kept : Line → Kept
kept line = record { first = held line.bytes; more = line.more }

-- a line with no byte
abbrev pub nothing : Kept
nothing = record { first = []; more = false }

-- one more byte: 65 are kept
abbrev pub keep : Kept → ℕ → Kept
keep k b =
    cond (nat_lt (length k.first) 65) (record { first = k.first ++ (b ∷ []); more = k.more }) (record { first = k.first; more = true })

-- whether no byte came
abbrev pub blank : Kept → Bool
blank k = length k.first == 0

-- bytes, one after the other
abbrev pub keep_all : List ℕ → Kept
keep_all bs = fold keep nothing bs

-- the bytes without a carriage return at their end
abbrev pub without_return : List ℕ → List ℕ
without_return bs = cond (slice_index bs (length bs - 1) == carriage_return) (take (length bs - 1) bs) bs

-- the bytes of a line before its end
abbrev pub before_end : End → List ℕ → List ℕ
before_end LineFeed bs = without_return bs
before_end Script bs = bs

-- a row of at most 64 bytes, or none
abbrev pub within_64 : List ℕ → Option (List ℕ)
within_64 bs = cond (nat_lt 64 (length bs)) None (Some bs)

-- the row of what is kept
abbrev pub kept_row : End → Kept → Option (List ℕ)
kept_row end k = cond k.more None (within_64 (before_end end k.first))

-- an answer is this row, or that the line is too long
abbrev pub gives : Result (Bor (List ℕ)) TooLong → Option (List ℕ) → Type 0
gives (Ok s) o = o ≡ Some s.now
gives (Err e) o = o ≡ None
