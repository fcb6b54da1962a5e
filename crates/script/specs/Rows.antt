-- What a row of a script says.
use Rattle.std.specs.Prelude.{ℕ, ◌+◌, Bool, true, false, cond, not, ◌&&◌, List, [], ◌∷◌, length, take, drop, Some, None, Ok, Err, codes, Option, Result, ◌==◌, nat_lt}
use Rattle.std.specs.List.{position_or_len}
use Rattle.script.specs.declared.event.Event.{Event}
use Rattle.script.specs.declared.event.Filling.{Filling}
use Rattle.script.specs.declared.event.Filling.TheVariants.{Required, Optional, Empty}
use Rattle.script.specs.declared.fault.BadNumber.{BadNumber}
use Rattle.script.specs.declared.fault.Cause.{Cause}
use Rattle.script.specs.declared.fault.Cause.TheVariants.{Shape, Letter, Fill, Number}
use Rattle.script.specs.declared.fault.FieldFault.{FieldFault}
use Rattle.script.specs.declared.fault.RowFault.{RowFault}
use Rattle.script.specs.declared.row.Row.{Row}
use Rattle.script.specs.Bytes.{byte}
use Rattle.script.specs.Events.{event_of, layout_of}
use Rattle.script.specs.Numbers.{read_number, read_watts}

-- the first line of a script
abbrev pub script_header : List ℕ
script_header = codes "event,a,b,c"

-- a byte is a comma
abbrev pub is_comma : ℕ → Bool
is_comma c = c == byte ","

-- the place of the first comma, or the length
abbrev pub comma_at : List ℕ → ℕ
comma_at s = position_or_len is_comma s

-- whether there is a comma
abbrev pub has_comma : List ℕ → Bool
has_comma s = nat_lt (comma_at s) (length s)

-- the bytes before the first comma
abbrev pub before : List ℕ → List ℕ
before s = take (comma_at s) s

-- the bytes after the first comma
abbrev pub after : List ℕ → List ℕ
after s = drop (comma_at s + 1) s

-- three commas
abbrev pub four_fields : List ℕ → Bool
four_fields s = has_comma s && (has_comma (after s) && (has_comma (after (after s)) && not (has_comma (after (after (after s))))))

-- at most 64 bytes, and four fields
abbrev pub shaped : List ℕ → Bool
shaped s = not (nat_lt 64 (length s)) && four_fields s

-- the event of a field: its only byte is a letter
abbrev pub read_event : List ℕ → Option Event
read_event [] = None
read_event (c ∷ []) = event_of c
read_event (c ∷ d ∷ cs) = None

-- whether a field is to be read, by what is asked of it and whether it is empty
abbrev pub to_read : Filling → Bool → Result Bool Cause
to_read Required true = Err Fill
to_read Required false = Ok true
to_read Optional empty = Ok (not empty)
to_read Empty true = Ok false
to_read Empty false = Err Fill

-- the number in a field
abbrev pub field_value : {V : Type 0} → Result V BadNumber → Result (Option V) Cause
field_value (Ok v) = Ok (Some v)
field_value (Err e) = Err Number

-- the number in a field that is to be read
abbrev pub value_if : {V : Type 0} → Result Bool Cause → Result V BadNumber → Result (Option V) Cause
value_if (Ok true) r = field_value r
value_if (Ok false) r = Ok None
value_if (Err c) r = Err c

-- the value of a field, or the cause of its fault
abbrev pub read_field : {V : Type 0} → (List ℕ → Result V BadNumber) → Filling → List ℕ → Result (Option V) Cause
read_field read f s = value_if (to_read f (length s == 0)) (read s)

-- a field's answer with the cause alone
abbrev pub by_cause : {V : Type 0} {F : ℕ} → Result V (FieldFault F) → Result V Cause
by_cause (Ok v) = Ok v
by_cause (Err e) = Err e.cause

-- a fault in the field n
abbrev pub fault : ℕ → Cause → RowFault
fault n c = record { field = n; cause = c }

-- goes on with the value of the field n
abbrev pub then_row : {V : Type 0} → ℕ → Result V Cause → (V → Result Row RowFault) → Result Row RowFault
then_row n (Ok v) f = f v
then_row n (Err c) f = Err (fault n c)

-- the row of an event and its three fields
abbrev pub read_fields : Event → List ℕ → List ℕ → List ℕ → Result Row RowFault
read_fields e a b c =
    then_row 2 (read_field read_number (layout_of e).a a) (λ x.
    then_row 3 (read_field read_number (layout_of e).b b) (λ y.
    then_row 4 (read_field read_watts (layout_of e).c c) (λ z. Ok (record { event = e; a = x; b = y; c = z }))))

-- goes on with the event of the first field
abbrev pub then_fields : Option Event → (Event → Result Row RowFault) → Result Row RowFault
then_fields None f = Err (fault 1 Letter)
then_fields (Some e) f = f e

-- what a line says, without its line end
abbrev pub read_row : List ℕ → Result Row RowFault
read_row s =
    cond (shaped s)
    (then_fields (read_event (before s)) (λ e. read_fields e (before (after s)) (before (after (after s))) (after (after (after s)))))
    (Err (fault 5 Shape))

-- a field has a value if that is required, and none if it is to be empty
abbrev pub filled_as : {V : Type 0} → Filling → Option V → Type 0
filled_as Required (Some v) = Unit {0}
filled_as Required None = ⊥
filled_as Optional o = Unit {0}
filled_as Empty (Some v) = ⊥
filled_as Empty None = Unit {0}

-- a row has exactly the fields that its event requires
abbrev pub filled_as_its_layout_asks : Row → Type 0
filled_as_its_layout_asks row =
    filled_as (layout_of row.event).a row.a × filled_as (layout_of row.event).b row.b × filled_as (layout_of row.event).c row.c
