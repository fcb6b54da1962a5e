use Rattle.std.proofs.Common.{◌≡◌, ◌++◌, take}
use Rattle.script.specs.Buffers.{held}
use Rattle.script.proofs.buffer.Buffer.extend.Given as goal

abbrev pub invariant-loop-byte : goal.invariant-loop-byte
invariant-loop-byte g l = held l.self ≡ take g.row.N (held l.initial.self ++ take l.byte-index l.bytes)
