-- A list of bounded length.
use Rattle.std.specs.Prelude.{ℕ, List, take, drop}
use Rattle.base.specs.declared.bounded.Bounded.{Bounded}

-- the elements of the list
abbrev pub listed : {T : Type 0} {n : ℕ} → Bounded T n → List T
listed b = take b.len b.array

-- what lies in the places behind it
abbrev pub unused : {T : Type 0} {n : ℕ} → Bounded T n → List T
unused b = drop b.len b.array
