use Rattle.std.proofs.Common.{◌≡◌, ℕ, min, List, [], length, replicate, ap, ◌∙◌, arith}
use Rattle.std.proofs.lemmas.List.{length-replicate}
use Rattle.carrier.specs.Meaning.{Meaning}
use Rattle.carrier.proofs.log.Log.empty.Goals as goal

pub returns-clause-meaning : goal.returns-clause-meaning
returns-clause-meaning c =
    let n = c.args.gateways in
    let start : ℕ → List ℕ → Meaning = λ gateways places. record { gateways = gateways; capacity = c.args.capacity; count = 0; line = []; places = places } in
    let few : min n 8 ≡ n = omega (arith, c.requires.gateways) in
    let places = c.filled.ensures ∙ ap (λ m. replicate m 0) few in
    ap (λ ps. start (length ps) ps) places ∙ ap (λ g. start g (replicate n 0)) (length-replicate n 0)
