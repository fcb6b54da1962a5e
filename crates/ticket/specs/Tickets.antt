-- A ticket stands for the number of the change that it opened.
use Rattle.std.specs.Prelude.{ℕ, Ok, Err, Result}
use Rattle.base.specs.declared.refusal.Refusal.{Refusal}
use Rattle.ticket.specs.declared.Ticket.{Ticket}

abbrev pub numbered : Result Ticket Refusal → Result ℕ Refusal
numbered (Ok t) = Ok t.change
numbered (Err e) = Err e
