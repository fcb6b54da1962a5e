-- Equality of the numbers that values hold.
use Rattle.std.specs.Prelude.{Bool, ◌&&◌, ℤ, int_le}

-- whether two signed numbers are equal
abbrev pub equal : ℤ → ℤ → Bool
equal a b = int_le a b && int_le b a
