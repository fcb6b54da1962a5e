-- The pieces of a listing's line make its text, and fit.
use Rattle.std.proofs.Common.{◌≡◌, ℕ, ◌≤◌, List, [], ◌∷◌, ◌++◌, length, take, decimal, ℤ, Ok, Err, Option, Result, ap, ◌∙◌, append_assoc, arith, length-append}
use Rattle.std.proofs.lemmas.List.{take_all}
use Rattle.base.specs.declared.refusal.Refusal.{Refusal}
use Rattle.script.specs.declared.event.Event.{Event}
use Rattle.script.specs.declared.fault.Cause.{Cause}
use Rattle.script.specs.declared.fault.Cause.TheVariants.{Shape, Letter, Fill, Number, Header}
use Rattle.script.specs.declared.fault.RowFault.{RowFault}
use Rattle.script.specs.declared.listing.Answered.{Answered}
use Rattle.script.specs.Buffers.{value_text}
use Rattle.script.specs.Listings.{cause_word, Entry, answered, entry_of, entry_text}

word_short : (c : Cause) → length (cause_word c) ≤ 6
word_short Shape = omega arith
word_short Letter = omega arith
word_short Fill = omega arith
word_short Number = omega arith
word_short Header = omega arith

answered_short : (e : Event) (r : Result (Option ℤ) Refusal) → length (answered e r).outcome ≤ 6
answered_short e (Ok v) = omega arith
answered_short e (Err r) = omega arith

pub outcome_short : (l : Result Answered RowFault) → length (entry_of l).outcome ≤ 6
outcome_short (Ok a) = answered_short a.event a.answer
outcome_short (Err f) = word_short f.cause

-- the pieces in the order in which they are written
abbrev pub pieces : ℕ → Entry → List ℕ
pieces row e =
    (((((((decimal row ++ (44 ∷ e.letter ∷ 44 ∷ [])) ++ decimal e.answer) ++ (44 ∷ [])) ++ value_text e.value) ++ (44 ∷ [])) ++ e.outcome) ++ (13 ∷ 10 ∷ []))

pub entry_written : (row : ℕ) (e : Entry) (now : List ℕ) → now ≡ take 96 (pieces row e) → length (decimal row) ≤ 20 → length (decimal e.answer) ≤ 10 → length (value_text e.value) ≤ 20 → length e.outcome ≤ 6 → now ≡ entry_text row e
entry_written row e now h a b c d =
    let flat : pieces row e ≡ entry_text row e = simp append_assoc in
    let short : length (entry_text row e) ≤ 96 = simp length-append (omega arith) in
    h ∙ ap (take 96) flat ∙ take_all 96 (entry_text row e) short

pub same_text : (row : ℕ) (e f : Entry) → e.letter ≡ f.letter → e.answer ≡ f.answer → e.value ≡ f.value → e.outcome ≡ f.outcome → entry_text row e ≡ entry_text row f
same_text row e f p q r s = cc
