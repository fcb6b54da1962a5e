use Rattle.std.proofs.Common.{◌≡◌}
use Rattle.carrier.specs.Meaning.{with_line}
use Rattle.carrier.specs.Logs.{log_meaning, log_limit}
use Rattle.votes.specs.Kept.{Written}
use Rattle.votes.specs.Votes.{votes_in}
use Rattle.votes.proofs.table.Voting.write_on.Given as goal

abbrev pub invariant-loop-at : goal.invariant-loop-at
invariant-loop-at l =
    record {
      slots : l.self.slots ≡ l.fn.self.slots;
      log : log_meaning l.self.log ≡ with_line (log_meaning l.fn.self.log) (log_meaning l.self.log).line;
      limit : log_limit l.self.log ≡ log_limit l.fn.self.log;
      written : Written (votes_in l.self.slots) (log_meaning l.self.log).line l.at;
    }
