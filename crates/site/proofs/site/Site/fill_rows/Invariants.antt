use Rattle.std.proofs.Common.{◌≡◌, ℕ, ◌*◌, ◌<◌, map, take, drop}
use Rattle.protocol.specs.Calls.{initial_cell}
use Rattle.site.specs.Tables.{row, gateway_count}
use Rattle.site.proofs.site.Site.fill_rows.Given as goal

abbrev pub invariant-loop-g : goal.invariant-loop-g
invariant-loop-g g l =
    ((k : ℕ) → k < l.g → row l.self.settings k l.cells ≡ map initial_cell (take l.self.settings l.fn.initial))
    × (drop (l.self.settings * gateway_count l.self) l.cells ≡ drop (l.self.settings * gateway_count l.self) l.initial.cells)
