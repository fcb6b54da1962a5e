use Rattle.std.proofs.Common.{◌≡◌, true, ◌+◌, ◌<◌, [], ◌∷◌, ◌++◌, length, get_or, sym, ap, ◌∙◌, subst, arith}
use Rattle.std.proofs.lemmas.Bool.{and_from, lt-ltb, cond-true}
use Rattle.carrier.specs.Meaning.{Meaning, with_line}
use Rattle.carrier.specs.Logs.{log_meaning, log_limit, joins}
use Rattle.votes.specs.declared.slots.Slots.{Slots}
use Rattle.votes.specs.declared.slot.Outcome.TheVariants.{Locked}
use Rattle.votes.specs.declared.table.Voting.{Voting}
use Rattle.votes.specs.Slots.{outcome_of}
use Rattle.votes.specs.Kept.{Known}
use Rattle.votes.specs.Votes.{votes_in}
use Rattle.votes.proofs.Growing.{locked_known, written_as, written_closed, written_locked}
use Rattle.votes.proofs.table.Voting.write_on.Goals as goal
use Rattle.votes.proofs.table.Voting.write_on.Goals.{in-Closed, in-Locked}

pub loop-at-preserved : goal.loop-at-preserved
loop-at-preserved c =
    let s = c.loop-at.self in
    let at = c.loop-at.at in
    let i = c.loop-at.invariant in
    let t = votes_in s.slots in
    let m = log_meaning s.log in
    let before = log_meaning c.args.self.now.log in
    let next = c.match-outcome.self in
    let same = ap (λ (x : Slots). length (votes_in x)) i.slots in
    let here : at < length t = omega arith in
    elim c.match-outcome.branch [
      | in-Closed w ↦
          let log = ap (λ (v : Voting). log_meaning v.log) w.self-is in
          record {
            slots = ap (λ (v : Voting). v.slots) w.self-is ∙ i.slots;
            log = log ∙ (i.log ∙ ap (λ (x : Meaning). with_line before x.line) (sym log));
            limit = ap (λ (v : Voting). log_limit v.log) w.self-is ∙ i.limit;
            written = written_as t (votes_in next.slots) m.line (log_meaning next.log).line (at + 1) (ap (λ (v : Voting). votes_in v.slots) w.self-is) (ap (λ (x : Meaning). x.line) log) (written_closed t m.line at here (sym w.in-Closed.is ∙ c.outcome.ensures) i.written);
          }
      | in-Locked w ↦
          let n = w.from.result in
          let o : Locked n ≡ outcome_of (get_or t at []) = ap Locked w.from.ensures ∙ (sym w.in-Locked.is ∙ c.outcome.ensures) in
          let known : Known before.count t = subst (λ (x : Slots). Known before.count (votes_in x)) (sym i.slots) c.requires.known in
          let given : n < m.count = omega (arith, locked_known before.count t at n known (sym o), ap (λ (x : Meaning). x.count) i.log) in
          let room : length m.line < log_limit s.log = omega (arith, i.written.2, i.limit, c.requires.fits) in
          let j : joins (log_limit s.log) n m ≡ true = and_from _ _ (lt-ltb n m.count given) (lt-ltb (length m.line) (log_limit s.log) room) in
          let log : log_meaning next.log ≡ with_line m (m.line ++ (n ∷ [])) = ap (λ (v : Voting). log_meaning v.log) w.self-is ∙ (w.append.ensures.after ∙ cond-true _ _ m j) in
          record {
            slots = ap (λ (v : Voting). v.slots) w.self-is ∙ i.slots;
            log = log ∙ (ap (λ (x : Meaning). with_line x (m.line ++ (n ∷ []))) i.log ∙ ap (λ (x : Meaning). with_line before x.line) (sym log));
            limit = ap (λ (v : Voting). log_limit v.log) w.self-is ∙ (w.append.ensures.limit ∙ i.limit);
            written = written_as t (votes_in next.slots) (m.line ++ (n ∷ [])) (log_meaning next.log).line (at + 1) (ap (λ (v : Voting). votes_in v.slots) w.self-is) (ap (λ (x : Meaning). x.line) log) (written_locked t m.line at n here o i.written);
          }
    ]
