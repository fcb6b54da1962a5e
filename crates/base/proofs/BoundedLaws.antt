-- What the proofs of a bounded list's functions need besides the usual steps.
use Rattle.std.proofs.Common.{◌≡◌, ℕ, ◌≤◌, List, length, take, min, replicate, ap, ◌∙◌, arith}
use Rattle.std.proofs.Math.Seq.{take-set-lt}
use Rattle.std.proofs.lemmas.List.{drop-set-lt, length-take-le, take-replicate}
use Rattle.std.proofs.lemmas.Grind.{common_steps}

-- as many elements as are taken
pub length_front : {X : Type 0} (n m : ℕ) (xs : List X) → n ≤ m → length xs ≡ m → length (take n xs) ≡ n
length_front n m xs l e = length-take-le n xs (omega arith)

-- the front of as many times x as there are places
pub front_of_filled : {X : Type 0} (m places n : ℕ) (x : X) → m ≡ min n places → take m (replicate places x) ≡ replicate (min n places) x
front_of_filled m places n x e =
    let l : min n places ≤ places = omega arith in
    ap (λ k. take k (replicate places x)) e ∙ take-replicate (min n places) places x l

pub ruleset bounded_steps = (common_steps, take-set-lt, drop-set-lt, length_front, front_of_filled)
