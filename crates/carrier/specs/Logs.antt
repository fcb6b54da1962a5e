-- What a log means, and what its calls do beyond those of every carrier.
use Rattle.std.specs.Prelude.{ℕ, Bool, cond, ◌&&◌, [], ◌∷◌, ◌++◌, length, replicate, nat_lt}
use Rattle.base.specs.Bounded.{listed}
use Rattle.base.specs.Refusals.{left}
use Rattle.carrier.specs.declared.log.Log.{Log}
use Rattle.carrier.specs.Limits.{log_refused}
use Rattle.carrier.specs.Lines.{numbers}
use Rattle.carrier.specs.Meaning.{Meaning, with_line}

-- what the log holds, in the words of the broadcast
abbrev pub log_meaning : Log → Meaning
log_meaning l = record { gateways = length (listed l.places); capacity = l.capacity; count = l.count; line = numbers l.line; places = listed l.places }

-- how many numbers its line can hold
abbrev pub log_limit : Log → ℕ
log_limit l = length l.line.memory.now

-- a carrier at its start: nothing is given or in the line, and every place is 0
abbrev pub at_start : ℕ → ℕ → Meaning
at_start gateways capacity = record { gateways = gateways; capacity = capacity; count = 0; line = []; places = replicate gateways 0 }

-- a new log; one that is made from refused numbers serves no gateway and gives no number
abbrev pub new_log : ℕ → ℕ → ℕ → Meaning
new_log gateways capacity limit = left (log_refused gateways capacity limit) (at_start 0 0) (at_start gateways capacity)

abbrev pub new_limit : ℕ → ℕ → ℕ → ℕ
new_limit gateways capacity limit = left (log_refused gateways capacity limit) 0 limit

-- append: w joins the line if it was given and the line is below its limit
abbrev pub joins : ℕ → ℕ → Meaning → Bool
joins limit w m = nat_lt w m.count && nat_lt (length m.line) limit

abbrev pub joined : ℕ → ℕ → Meaning → ℕ
joined limit w m = cond (joins limit w m) 1 0

abbrev pub after_append : ℕ → ℕ → Meaning → Meaning
after_append limit w m = cond (joins limit w m) (with_line m (m.line ++ (w ∷ []))) m
