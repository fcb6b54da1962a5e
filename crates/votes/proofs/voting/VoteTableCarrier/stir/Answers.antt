use Rattle.std.proofs.Common.{ℕ, length, take, sym, ap, ◌∙◌, subst, arith}
use Rattle.carrier.specs.Meaning.{Meaning, with_line}
use Rattle.carrier.specs.Logs.{log_meaning}
use Rattle.votes.specs.Tables.{line_of}
use Rattle.votes.specs.Kept.{Known}
use Rattle.votes.specs.Votes.{votes_in}
use Rattle.votes.proofs.Growing.{length_after, known_after, cast_begins, cast_longer}
use Rattle.votes.proofs.voting.VoteTableCarrier.stir.Goals as goal

pub invariant_of-self : goal.invariant_of-self
invariant_of-self c =
    let s = c.args.self.now in
    let v = s.voting in
    let t = votes_in v.slots in
    let count = (log_meaning v.log).count in
    let n = c.vote.ensures in
    let now = c.vote.new.self in
    let l = ap length n.votes in
    let same = length_after v.slots.gateways count t c.from.result in
    let known : Known count (votes_in now.slots) = subst (Known count) (sym n.votes) (known_after v.slots.gateways count t c.from.result s.votes_known) in
    record {
      gateways_of_log = n.gateways ∙ (s.gateways_of_log ∙ sym (ap (λ (m : Meaning). m.gateways) n.log));
      few_slots = omega (arith, s.few_slots);
      slots_within_limit = omega (arith, n.limit, s.slots_within_limit);
      votes_known = subst (λ (k : ℕ). Known k (votes_in now.slots)) (sym (ap (λ (m : Meaning). m.count) n.log)) known;
      line_cached = n.cached;
    }

pub overflow_sub-result : goal.overflow_sub-result
overflow_sub-result c =
    let v = c.args.self.now.voting in
    let l = ap length (ap line_of c.vote.ensures.votes) in
    omega (arith, cast_longer v.slots.gateways (log_meaning v.log).count (votes_in v.slots) c.from.result)

pub returns-clause-stirred : goal.returns-clause-stirred
returns-clause-stirred c =
    let v = c.args.self.now.voting in
    let t = votes_in v.slots in
    let count = (log_meaning v.log).count in
    let line = ap line_of c.vote.ensures.votes in
    let l = ap length line in
    record {
      only_the_line = ap (λ (m : Meaning). with_line m (line_of (votes_in c.vote.new.self.slots))) c.vote.ensures.log;
      begins_as_before = ap (take (length (line_of t))) line ∙ cast_begins v.slots.gateways count t c.from.result;
      joined_are_counted = omega (arith, cast_longer v.slots.gateways count t c.from.result);
    }
