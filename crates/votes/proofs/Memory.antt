-- The table that slots in memory hold.
use Rattle.std.proofs.Common.{◌≡◌, ℕ, ◌<◌, ◌≤◌, List, [], length, get_or, take, set, replicate, Some, None, sym, ap, ◌∙◌}
use lib.LanesLaws.{map-replicate}
use lib.Seq.{take-set-lt}
use Rattle.std.proofs.lemmas.List.{get_or-map, length-map, map-set, take-replicate}
use Rattle.votes.specs.declared.slot.Slot.{Slot}
use Rattle.votes.specs.Slots.{Votes}
use Rattle.votes.specs.Tables.{with_vote, empty_table}
use Rattle.votes.specs.Kept.{table_of, empty_slot}

abbrev pub blank : Slot
blank = record { votes = [] }

pub length_table : (g : ℕ) (memory : List Slot) → length (table_of g memory) ≡ length memory
length_table g memory = length-map memory _

pub slot_in : (g : ℕ) (memory : List Slot) (k : ℕ) → k < length memory → get_or (table_of g memory) k [] ≡ take g (get_or memory k blank).votes
slot_in g memory k h = get_or-map (λ (slot : Slot). take g slot.votes) memory k blank [] h

pub vote_stored : (g : ℕ) (memory : List Slot) (k j n : ℕ) → k < length memory → j < g → table_of g (set memory k (record { votes = set (get_or memory k blank).votes j (Some n) })) ≡ with_vote (table_of g memory) k j n
vote_stored g memory k j n h l =
    map-set (λ (slot : Slot). take g slot.votes) memory k _
    ∙ ap (λ (vs : Votes). set (table_of g memory) k vs) (take-set-lt g (get_or memory k blank).votes j (Some n) l ∙ ap (λ (vs : Votes). set vs j (Some n)) (sym (slot_in g memory k h)))

pub table_cleared : (g slots : ℕ) → g ≤ 8 → table_of g (replicate slots empty_slot) ≡ empty_table g slots
table_cleared g slots h = map-replicate (λ (slot : Slot). take g slot.votes) slots empty_slot ∙ ap (λ (vs : Votes). replicate slots vs) (take-replicate g 8 None h)
