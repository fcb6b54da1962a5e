use Rattle.std.proofs.Common.{ℕ, ◌≤◌, List, [], length, sym, ◌∙◌, subst}
use Rattle.script.specs.Listings.{Entry, entry_of}
use Rattle.script.proofs.Clipping.{then_piece}
use Rattle.script.proofs.Entries.{outcome_short, entry_written, same_text}
use Rattle.script.proofs.listing.list_row.Goals as goal

pub returns : goal.returns
returns c =
    let made = c.from-entry.result in
    let is = c.from-entry.ensures in
    let entry : Entry = record { letter = made.letter; answer = made.answer; value = made.value; outcome = made.outcome.now } in
    let row = then_piece 96 [] _ _ _ c.new-text.ensures c.extend_number.ensures.adds in
    let letter = then_piece 96 _ _ _ _ row c.extend.ensures in
    let answer = then_piece 96 _ _ _ _ (then_piece 96 _ _ _ _ letter c.extend_number-2.ensures.adds) c.extend-2.ensures in
    let value = then_piece 96 _ _ _ _ (then_piece 96 _ _ _ _ answer c.extend_value.ensures.adds) c.extend-3.ensures in
    let last = then_piece 96 _ _ _ _ (then_piece 96 _ _ _ _ value c.extend-4.ensures) c.extend-5.ensures in
    let short : length entry.outcome ≤ 6 = subst (λ (zs : List ℕ). length zs ≤ 6) (sym is.3) (outcome_short c.args.listed) in
    entry_written c.args.row entry _ last c.extend_number.ensures.short c.extend_number-2.ensures.short c.extend_value.ensures.short short ∙ same_text c.args.row entry (entry_of c.args.listed) is.0 is.1 is.2 is.3
