-- What the checking call refuses.
use Rattle.std.specs.Prelude.{ℕ, [], ◌∷◌, Option, nat_lt}
use Rattle.base.specs.declared.refusal.Refusal.{Refusal}
use Rattle.base.specs.declared.refusal.Refusal.TheVariants.{Limits}
use Rattle.base.specs.Limits.{outside}
use Rattle.base.specs.Refusals.{first}

-- refused are numbers outside their limits, and memory for fewer slots; the last two are the lengths of the memory
abbrev pub votes_refused : ℕ → ℕ → ℕ → ℕ → ℕ → Option Refusal
votes_refused gateways capacity slots votes line = first ((outside 1 8 gateways, Limits) ∷ (outside 1 1024 capacity, Limits) ∷ (outside 1 1024 slots, Limits) ∷ (nat_lt votes slots, Limits) ∷ (nat_lt line slots, Limits) ∷ [])
