use Rattle.std.proofs.Common.{◌≡◌, ◌^◌, ◌<◌, drop}
use Rattle.script.specs.Numbers.{read_digits}
use Rattle.script.proofs.number.digits.Given as goal

abbrev pub invariant-loop-byte : goal.invariant-loop-byte
invariant-loop-byte l = (l.n < 2 ^ 32) × (read_digits l.n (drop l.byte-index l.s) ≡ read_digits 0 l.s)
