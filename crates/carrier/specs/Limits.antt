-- The numbers that a log is made from.
use Rattle.std.specs.Prelude.{ℕ, [], ◌∷◌, Option}
use Rattle.base.specs.declared.refusal.Refusal.{Refusal}
use Rattle.base.specs.declared.refusal.Refusal.TheVariants.{Limits}
use Rattle.base.specs.Limits.{outside}
use Rattle.base.specs.Refusals.{first}

-- why no log is made for so many gateways and numbers, with a line of at most so many
abbrev pub log_refused : ℕ → ℕ → ℕ → Option Refusal
log_refused gateways capacity limit = first ((outside 1 8 gateways, Limits) ∷ (outside 1 1024 capacity, Limits) ∷ (outside 1 2048 limit, Limits) ∷ [])
