-- Limits of numbers.
use Rattle.std.specs.Prelude.{ℕ, Bool, ◌||◌, nat_lt}

-- whether n is not one of low to high
abbrev pub outside : ℕ → ℕ → ℕ → Bool
outside low high n = nat_lt n low || nat_lt high n
