use Rattle.protocol.specs.Paths.{bound}
use Rattle.protocol.proofs.paths.+depth.Given as goal

abbrev pub decreases-depth : goal.decreases-depth
decreases-depth l = bound l.end
