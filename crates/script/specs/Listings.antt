-- The listing: one line for each row of the script.
use Rattle.std.specs.Prelude.{◌≡◌, ℕ, List, [], ◌∷◌, ◌++◌, ℤ, pos, Some, None, codes, decimal, Ok, Err, Option, Result}
use Rattle.base.specs.Refusals.{number}
use Rattle.base.specs.declared.refusal.Refusal.{Refusal}
use Rattle.base.specs.declared.refusal.Refusal.TheVariants.{Layout}
use Rattle.script.specs.declared.fault.Cause.{Cause}
use Rattle.script.specs.declared.fault.Cause.TheVariants.{Shape, Letter, Fill, Number, Header}
use Rattle.script.specs.declared.event.Event.{Event}
use Rattle.script.specs.declared.fault.RowFault.{RowFault}
use Rattle.script.specs.declared.listing.Answered.{Answered}
use Rattle.script.specs.declared.listing.Entry.{Entry as Shown}
use Rattle.script.specs.Bytes.{byte, line_end}
use Rattle.script.specs.Events.{letter_of}
use Rattle.script.specs.Buffers.{value_text}

-- the first line of a listing
abbrev pub listing_header : List ℕ
listing_header = codes "row,event,answer,value,outcome" ++ line_end

-- the word for a cause
abbrev pub cause_word : Cause → List ℕ
cause_word Shape = codes "shape"
cause_word Letter = codes "letter"
cause_word Fill = codes "fill"
cause_word Number = codes "number"
cause_word Header = codes "header"

-- what the listing says of a row, after its number
pub record Entry : Type 0 where
  pub letter : ℕ
  pub answer : ℕ
  pub value : Option ℤ
  pub outcome : List ℕ

-- an entry that is listed has these fields
abbrev pub Shows : Shown → Entry → Type 0
Shows shown entry = (shown.letter ≡ entry.letter) × (shown.answer ≡ entry.answer) × (shown.value ≡ entry.value) × (shown.outcome.now ≡ entry.outcome)

-- a served event answers 0, and a refused one the refusal's number
abbrev pub answered : Event → Result (Option ℤ) Refusal → Entry
answered e (Ok v) = record { letter = letter_of e; answer = 0; value = v; outcome = [] }
answered e (Err r) = record { letter = letter_of e; answer = number r; value = None; outcome = [] }

-- a fault answers the number of the layout's refusal
abbrev pub entry_of : Result Answered RowFault → Entry
entry_of (Ok a) = answered a.event a.answer
entry_of (Err f) = record { letter = byte "?"; answer = number Layout; value = Some (pos f.field); outcome = cause_word f.cause }

-- the five fields with commas between them
abbrev pub entry_text : ℕ → Entry → List ℕ
entry_text row e =
    decimal row ++ (codes "," ++ ((e.letter ∷ []) ++ (codes "," ++ (decimal e.answer ++ (codes "," ++ (value_text e.value ++ (codes "," ++ (e.outcome ++ line_end))))))))

-- the line of a row
abbrev pub row_text : ℕ → Result Answered RowFault → List ℕ
row_text row l = entry_text row (entry_of l)
