use Rattle.std.proofs.Common.{sym, ◌∙◌, arith}
use Rattle.std.proofs.lemmas.Bool.{cond-true}
use Rattle.votes.specs.Votes.{votes_in}
use Rattle.votes.proofs.Growing.{valid_parts}
use Rattle.votes.proofs.Memory.{length_table, vote_stored}
use Rattle.votes.proofs.slots.Slots.cast.Goals as goal

pub returns-then-is_valid-clause-votes : goal.returns-then-is_valid-clause-votes
returns-then-is_valid-clause-votes c =
    let s = c.args.self.now in
    let v = c.args.vote in
    let b = sym c.if-is_valid.ensures in
    let a = valid_parts s.gateways c.args.count (votes_in s) v b in
    let l = length_table s.gateways s.votes.now in
    vote_stored s.gateways s.votes.now v.slot v.gateway v.number (omega (arith, a.1)) a.0 ∙ sym (cond-true _ _ _ b)
