-- The events of a script: their letters, and what each asks of its fields.
use Rattle.std.specs.Prelude.{ℕ, cond, List, [], ◌∷◌, Some, None, Option, ◌==◌}
use Rattle.script.specs.declared.event.Event.{Event}
use Rattle.script.specs.declared.event.Event.TheVariants.{Start, Open, Read, Write, Submit, Abandon, Stir, Look}
use Rattle.script.specs.declared.event.Filling.{Filling}
use Rattle.script.specs.declared.event.Filling.TheVariants.{Required, Empty}
use Rattle.script.specs.declared.event.Layout.{Layout}
use Rattle.script.specs.Bytes.{byte}

-- the letter of each event
abbrev pub letter_of : Event → ℕ
letter_of Start = byte "S"
letter_of Open = byte "O"
letter_of Read = byte "R"
letter_of Write = byte "W"
letter_of Submit = byte "C"
letter_of Abandon = byte "A"
letter_of Stir = byte "T"
letter_of Look = byte "P"

-- the events, in the order of their layouts
abbrev pub all_events : List Event
all_events = Start ∷ Open ∷ Read ∷ Write ∷ Submit ∷ Abandon ∷ Stir ∷ Look ∷ []

-- the first of the events whose letter it is
abbrev pub lettered : ℕ → List Event → Option Event
lettered c [] = None
lettered c (e ∷ es) = cond (c == letter_of e) (Some e) (lettered c es)

-- the event that a letter stands for
abbrev pub event_of : ℕ → Option Event
event_of c = lettered c all_events

-- a layout of an event
abbrev pub layout : Event → Filling → Filling → Filling → Layout
layout e a b c = record { event = e; a = a; b = b; c = c }

-- which of a, b and c each event fills
abbrev pub layout_of : Event → Layout
layout_of Start = layout Start Required Required Required
layout_of Open = layout Open Required Empty Empty
layout_of Read = layout Read Required Required Empty
layout_of Write = layout Write Required Required Required
layout_of Submit = layout Submit Required Empty Empty
layout_of Abandon = layout Abandon Required Empty Empty
layout_of Stir = layout Stir Required Empty Empty
layout_of Look = layout Look Required Required Empty
