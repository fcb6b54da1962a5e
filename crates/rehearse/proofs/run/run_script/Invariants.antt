use Rattle.std.proofs.Common.{◌-◌, ◌^◌}
use Rattle.rehearse.proofs.run.run_script.Given as goal

abbrev pub decreases-loop-event : goal.decreases-loop-event
decreases-loop-event g l = 2 ^ 64 - l.desk.row
