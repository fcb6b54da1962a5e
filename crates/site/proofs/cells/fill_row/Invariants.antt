use Rattle.std.proofs.Common.{◌≡◌, map, take}
use Rattle.protocol.specs.Calls.{initial_cell}
use Rattle.site.proofs.cells.fill_row.Given as goal

abbrev pub invariant-loop-i : goal.invariant-loop-i
invariant-loop-i g l = take l.i l.cells ≡ map initial_cell (take l.i l.value-items)
