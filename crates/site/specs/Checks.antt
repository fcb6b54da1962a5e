-- The tables of refusals once more, over the fields of the site's record and the lengths of what it is lent: what the
-- code asks. That they give what the calls' own tables give is proved.
use Rattle.std.specs.Prelude.{ℕ, ◌+◌, ◌*◌, Bool, cond, not, ◌&&◌, ◌||◌, [], ◌∷◌, Some, None, Ok, Err, Option, Result, ◌==◌, nat_le, nat_lt}
use Rattle.base.specs.Limits.{outside}
use Rattle.base.specs.declared.refusal.Refusal.{Refusal}
use Rattle.base.specs.declared.refusal.Refusal.TheVariants.{Limits, Carrier, UnknownGateway, UnknownChange, UnknownSetting, NoChangeLeft, NotOpen, Overwritten, Full}
use Rattle.base.specs.Refusals.{Checks, first}
use Rattle.protocol.specs.declared.records.Change.{Change}
use Rattle.protocol.specs.declared.records.Cell.{Cell}
use Rattle.protocol.specs.Calls.{is_none, depth_in}
use Rattle.protocol.specs.View.{is_open}
use Rattle.site.specs.declared.site.Site.{Site}
use Rattle.site.specs.Tables.{message_count, change_count, gateway_count, record_of}

-- a condition on the tables that are lent, or on a number in the call, with its refusal
abbrev pub Check : Type 0
Check = Bool × Refusal

abbrev pub short_cells : {V : Type 0} → Site V → ℕ → Check
short_cells s cells = (nat_lt cells (s.settings * gateway_count s), Limits)

abbrev pub short_notes : {V : Type 0} → Site V → ℕ → Check
short_notes s notes = (nat_lt notes (16 * s.limit), Limits)

abbrev pub short_updates : {V : Type 0} → Site V → ℕ → Check
short_updates s updates = (nat_lt updates (8 * s.limit), Limits)

abbrev pub no_gateway : {V : Type 0} → Site V → ℕ → Check
no_gateway s g = (nat_le (gateway_count s) g, UnknownGateway)

abbrev pub no_change : {V : Type 0} → Site V → ℕ → Check
no_change s k = (nat_le (change_count s) k, UnknownChange)

abbrev pub no_setting : {V : Type 0} → Site V → ℕ → Check
no_setting s st = (nat_le s.settings st, UnknownSetting)

abbrev pub not_open : Change → Check
not_open c = (not (is_open c.state), NotOpen)

abbrev pub asked_start : (gateways count settings limit cells initial : ℕ) → Checks
asked_start gateways count settings limit cells initial =
    ((outside 1 8 gateways, Limits)
    ∷ (outside 1 64 settings, Limits)
    ∷ (outside 1 256 limit, Limits)
    ∷ (nat_lt cells (settings * gateways), Limits)
    ∷ (nat_lt initial settings, Limits)
    ∷ (not (count == 0), Carrier)
    ∷ [])

abbrev pub may_start : (gateways count settings limit cells initial : ℕ) → Option Refusal
may_start gateways count settings limit cells initial = first (asked_start gateways count settings limit cells initial)

abbrev pub asked_open : {V : Type 0} → Site V → ℕ → Checks
asked_open s g = no_gateway s g ∷ (nat_le s.limit (change_count s), NoChangeLeft) ∷ []

abbrev pub may_open : {V : Type 0} → Site V → ℕ → Option Refusal
may_open s g = first (asked_open s g)

abbrev pub asked_abandon : {V : Type 0} → Site V → ℕ → Checks
asked_abandon s k = no_change s k ∷ not_open (record_of s k) ∷ []

abbrev pub may_abandon : {V : Type 0} → Site V → ℕ → Option Refusal
may_abandon s k = first (asked_abandon s k)

abbrev pub asked_stir : {V : Type 0} → Site V → ℕ → ℕ → Checks
asked_stir s count gateways =
    ((not (count == message_count s) || not (gateways == gateway_count s), Carrier)
    ∷ [])

abbrev pub may_stir : {V : Type 0} → Site V → ℕ → ℕ → Option Refusal
may_stir s count gateways = first (asked_stir s count gateways)

abbrev pub asked_look : {V : Type 0} → Site V → ℕ → ℕ → ℕ → Checks
asked_look s cells g st = short_cells s cells ∷ no_gateway s g ∷ no_setting s st ∷ []

abbrev pub may_look : {V : Type 0} → Site V → ℕ → ℕ → ℕ → Option Refusal
may_look s cells g st = first (asked_look s cells g st)

-- where the home cell of a setting lies in the table of cells
abbrev pub home_index : {V : Type 0} → Site V → Change → ℕ → ℕ
home_index s c st = s.settings * c.home + st

-- what a cell answers to a change that opened at this depth
abbrev pub home_answer : {V : Type 0} → ℕ → Option (Cell V) → Option (Result V Refusal)
home_answer opened None = None
home_answer opened (Some c) = Some (cond (nat_lt opened c.depth) (Err Overwritten) (Ok c.value))

-- what is asked where only the home cell can answer, of a change with so many notes
abbrev pub asked_late : {V : Type 0} → Option V → ℕ → Option (Cell V) → ℕ → Checks
asked_late known opened cell notes =
    ((is_none known && nat_lt opened (depth_in cell), Overwritten)
    ∷ (is_none known && nat_le 16 notes, Full)
    ∷ [])

abbrev pub late_checks : {V : Type 0} → Option V → ℕ → Option (Cell V) → ℕ → Option Refusal
late_checks known opened cell notes = first (asked_late known opened cell notes)

abbrev pub asked_read : {V : Type 0} → Site V → (cells notes updates : ℕ) → ℕ → ℕ → Checks
asked_read s cells notes updates k st =
    short_cells s cells ∷ short_notes s notes ∷ short_updates s updates ∷ no_change s k ∷ no_setting s st ∷ not_open (record_of s k) ∷ []

abbrev pub may_read : {V : Type 0} → Site V → (cells notes updates : ℕ) → ℕ → ℕ → Option Refusal
may_read s cells notes updates k st = first (asked_read s cells notes updates k st)

abbrev pub asked_write : {V : Type 0} → Site V → ℕ → ℕ → ℕ → Checks
asked_write s updates k st = short_updates s updates ∷ no_change s k ∷ no_setting s st ∷ not_open (record_of s k) ∷ []

abbrev pub may_write : {V : Type 0} → Site V → ℕ → ℕ → ℕ → Option Refusal
may_write s updates k st = first (asked_write s updates k st)

abbrev pub asked_submit : {V : Type 0} → Site V → (notes updates : ℕ) → ℕ → Checks
asked_submit s notes updates k = short_notes s notes ∷ short_updates s updates ∷ no_change s k ∷ not_open (record_of s k) ∷ []

abbrev pub may_submit : {V : Type 0} → Site V → (notes updates : ℕ) → ℕ → Option Refusal
may_submit s notes updates k = first (asked_submit s notes updates k)
