use Rattle.std.proofs.Common.{◌≡◌, ℕ, ◌<◌, ◌≤◌, List, [], length, take, sym, ◌∙◌, subst, arith}
use Rattle.std.proofs.lemmas.Grind.{common_steps}
use Rattle.carrier.specs.Logs.{log_meaning, log_limit}
use Rattle.votes.specs.Tables.{Table, empty_table}
use Rattle.votes.specs.Kept.{Known, Cached}
use Rattle.votes.specs.Votes.{votes_in}
use Rattle.votes.proofs.Growing.{empty_known, empty_cached}
use Rattle.votes.proofs.table.VoteTable.new.Goals as goal
use Rattle.votes.proofs.table.VoteTable.new.Goals.{in-Ok, in-Err}

pub invariant_of-result : goal.invariant_of-result
invariant_of-result c =
    let g = c.gateways.result in
    let n = length (take c.match-check.room c.args.votes.now) in
    let t = votes_in c.new-slots.result in
    let m = log_meaning c.new-log.result in
    let held : t ≡ empty_table g n = c.new-slots.ensures.votes in
    let fits : length t ≤ log_limit c.new-log.result = elim c.match-check.branch [ in-Ok w ↦ grind (arith, common_steps) | in-Err w ↦ grind (arith, common_steps) ] in
    let few : length t ≤ 1024 = elim c.match-check.branch [ in-Ok w ↦ grind (arith, common_steps) | in-Err w ↦ grind (arith, common_steps) ] in
    let some : 0 < n → 0 < g = λ h. elim c.match-check.branch [ in-Ok w ↦ grind (arith, common_steps) | in-Err w ↦ grind (arith, common_steps) ] in
    let count : m.count ≡ 0 = grind (arith, common_steps) in
    let line : m.line ≡ [] = grind (arith, common_steps) in
    let known : Known 0 t = subst (Known 0) (sym held) (empty_known g n) in
    let cached : Cached t [] 0 = subst (λ (x : Table). Cached x [] 0) (sym held) (empty_cached g n some) in
    record {
      gateways_of_log = c.new-slots.ensures.gateways ∙ c.gateways.ensures.answer;
      few_slots = few;
      slots_within_limit = fits;
      votes_known = subst (λ (k : ℕ). Known k t) (sym count) known;
      line_cached = subst (λ (xs : List ℕ). Cached t xs 0) (sym line) cached;
    }
