use Rattle.std.proofs.Common.{length, ap, ◌∙◌}
use Rattle.votes.specs.Kept.{table_of}
use Rattle.votes.proofs.Memory.{table_cleared}
use Rattle.votes.proofs.slots.Slots.new.Goals as goal

pub returns-clause-votes : goal.returns-clause-votes
returns-clause-votes c = ap (table_of c.args.gateways) c.clear.ensures ∙ table_cleared c.args.gateways (length c.args.votes.now) c.requires
