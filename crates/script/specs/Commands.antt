-- What a row asks for, under the names of its fields.
use Rattle.std.specs.Prelude.{ℕ, ℤ, Option}
use Rattle.std.specs.Option.{option_map, option_and_then}
use Rattle.script.specs.declared.event.Event.{Event}
use Rattle.script.specs.declared.event.Event.TheVariants as event
use Rattle.script.specs.declared.row.Row.{Row}
use Rattle.script.specs.declared.command.Command.{Command}
use Rattle.script.specs.declared.command.Command.TheVariants.{Start, Open, Read, Write, Submit, Abandon, Stir, Look}

-- a command of two fields, or of three, where they are there
abbrev pub with_two : (ℕ → ℕ → Command) → Option ℕ → Option ℕ → Option Command
with_two f a b = option_and_then (λ x. option_map (f x) b) a

abbrev pub with_three : (ℕ → ℕ → ℤ → Command) → Option ℕ → Option ℕ → Option ℤ → Option Command
with_three f a b c = option_and_then (λ x. option_and_then (λ y. option_map (f x y) c) b) a

-- what an event asks for with its fields
abbrev pub by_event : Event → Option ℕ → Option ℕ → Option ℤ → Option Command
by_event event.Start a b c = with_three Start a b c
by_event event.Open a b c = option_map Open a
by_event event.Read a b c = with_two Read a b
by_event event.Write a b c = with_three Write a b c
by_event event.Submit a b c = option_map Submit a
by_event event.Abandon a b c = option_map Abandon a
by_event event.Stir a b c = option_map Stir a
by_event event.Look a b c = with_two Look a b

-- the command of a row
abbrev pub command_of : Row → Option Command
command_of row = by_event row.event row.a row.b row.c
