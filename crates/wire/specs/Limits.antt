-- The numbers that a wire is made from.
use Rattle.std.specs.Prelude.{ℕ, [], ◌∷◌, Option, nat_lt}
use Rattle.base.specs.declared.refusal.Refusal.{Refusal}
use Rattle.base.specs.declared.refusal.Refusal.TheVariants.{Limits}
use Rattle.base.specs.Limits.{outside}
use Rattle.base.specs.Refusals.{first}

-- why no wire is made from these numbers over so much memory
abbrev pub wire_refused : ℕ → ℕ → ℕ → ℕ → Option Refusal
wire_refused gateways capacity limit room = first ((outside 1 8 gateways, Limits) ∷ (outside 1 1024 capacity, Limits) ∷ (outside 1 2048 limit, Limits) ∷ (nat_lt room limit, Limits) ∷ [])
