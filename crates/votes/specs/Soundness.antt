-- Every vote table is sound, as its log is: the log's line is that of the votes.
use Rattle.std.specs.Prelude.{◌≡◌}
use Rattle.std.proofs.Common.{ap, subst}
use Rattle.carrier.specs.Logs.{log_meaning}
use Rattle.carrier.specs.Meaning.{Sound, with_line}
use Rattle.carrier.specs.Soundness.{log_sound}
use Rattle.votes.specs.declared.table.VoteTable.{VoteTable}
use Rattle.votes.specs.Means.{meaning_of}

pub meaning_of_log : (t : VoteTable) → log_meaning t.voting.log ≡ meaning_of t
meaning_of_log t = ap (with_line (log_meaning t.voting.log)) t.line_cached.0

pub table_sound : (t : VoteTable) → Sound (meaning_of t)
table_sound t = subst Sound (meaning_of_log t) (log_sound t.voting.log)
