-- What a wire means.
use Rattle.std.specs.Prelude.{ℕ}
use Rattle.base.specs.Refusals.{left}
use Rattle.carrier.specs.Logs.{log_meaning, log_limit, at_start}
use Rattle.carrier.specs.Meaning.{Meaning}
use Rattle.wire.specs.declared.Wire.{Wire}
use Rattle.wire.specs.Limits.{wire_refused}

-- what the wire holds, in the words of the broadcast
abbrev pub wire_meaning : Wire → Meaning
wire_meaning w = log_meaning w.log

-- how many numbers its line can hold
abbrev pub line_limit : Wire → ℕ
line_limit w = log_limit w.log

-- a wire that is made from refused numbers serves no gateway and gives no number
abbrev pub made : ℕ → ℕ → ℕ → ℕ → Meaning
made gateways capacity limit room = left (wire_refused gateways capacity limit room) (at_start 0 0) (at_start gateways capacity)

abbrev pub made_limit : ℕ → ℕ → ℕ → ℕ → ℕ
made_limit gateways capacity limit room = left (wire_refused gateways capacity limit room) 0 limit
