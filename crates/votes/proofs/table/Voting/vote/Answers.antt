use Rattle.std.proofs.Common.{ℕ, sym, subst}
use Rattle.carrier.specs.Logs.{log_meaning}
use Rattle.votes.specs.Tables.{Table}
use Rattle.votes.specs.Kept.{Known, Written, Cached}
use Rattle.votes.specs.Votes.{votes_in}
use Rattle.votes.proofs.Growing.{written_after, cached_after, known_after}
use Rattle.votes.proofs.table.Voting.vote.Goals as goal

pub write_on-requires-clause-known : goal.write_on-requires-clause-known
write_on-requires-clause-known c =
    let s = c.args.self.now in
    let known : Known c.count.result (votes_in s.slots) = subst (λ (n : ℕ). Known n (votes_in s.slots)) (sym c.count.ensures) c.requires.known in
    subst (λ (n : ℕ). Known n (votes_in c.cast.new.self)) c.count.ensures (subst (Known c.count.result) (sym c.cast.ensures.votes) (known_after s.slots.gateways c.count.result (votes_in s.slots) c.args.vote known))

pub write_on-requires-clause-written : goal.write_on-requires-clause-written
write_on-requires-clause-written c =
    let s = c.args.self.now in
    let m = log_meaning s.log in
    subst (λ (t : Table). Written t m.line s.first_open) (sym c.cast.ensures.votes) (written_after s.slots.gateways c.count.result (votes_in s.slots) c.args.vote m.line s.first_open c.requires.cached)

pub returns-else-vote-self-clause-cached : goal.returns-else-vote-self-clause-cached
returns-else-vote-self-clause-cached c =
    let s = c.args.self.now in
    let m = log_meaning s.log in
    subst (λ (t : Table). Cached t m.line s.first_open) (sym c.cast.ensures.votes) (cached_after s.slots.gateways c.count.result (votes_in s.slots) c.args.vote m.line s.first_open c.if-vote-self.false c.requires.cached)
