-- The bounded list: the first `count` elements of lent memory, or all of it where the count is larger.
use Rattle.std.specs.Prelude.{◌≡◌, ℕ, ◌+◌, ◌<◌, ◌≤◌, Bool, cond, ◌&&◌, List, [], ◌∷◌, length, take, drop, Some, None, position, find, option_map, Option, MatchOption, ◌==◌, nat_lt, slice_set}

-- the index of the first element with the key q, or none
abbrev pub found : {X : Type 0} → (X → ℕ) → ℕ → List X → Option ℕ
found key q xs = position (λ x. key x == q) xs

-- the value of the first element with the key q, or none
abbrev pub lookup : {X V : Type 0} → (X → ℕ) → (X → V) → ℕ → List X → Option V
lookup key val q xs = option_map val (find (λ x. key x == q) xs)

-- x in the place of the first element with its key, or behind the last
abbrev pub put_in : {X : Type 0} → (X → ℕ) → X → List X → List X
put_in key x [] = x ∷ []
put_in key x (y ∷ ys) = cond (key y == key x) (x ∷ ys) (y ∷ put_in key x ys)

-- append: whether the memory has a place behind the list
abbrev pub has_room : {X : Type 0} → List X → ℕ → Bool
has_room mem count = nat_lt count (length mem)

abbrev pub appended : {X : Type 0} → List X → ℕ → Option ℕ
appended mem count = cond (has_room mem count) (Some (count + 1)) None

abbrev pub after_append : {X : Type 0} → List X → ℕ → X → List X
after_append mem count x = cond (has_room mem count) (slice_set mem count x) mem

-- replace: whether the list has an element at the index
abbrev pub has_element : {X : Type 0} → List X → ℕ → ℕ → Bool
has_element mem count at = nat_lt at count && nat_lt at (length mem)

abbrev pub after_replace : {X : Type 0} → List X → ℕ → ℕ → X → List X
after_replace mem count at x = cond (has_element mem count at) (slice_set mem at x) mem

-- a write into the memory: its answer, and what it leaves
pub record Written {X : Type 0} (answer : Option ℕ) (next mem' : List X) (r : Option ℕ) : Type 0 where
  pub answers : r ≡ answer
  pub leaves : mem' ≡ next

-- the memory is too short for the list, and is as it was
pub record NotStored {X : Type 0} (xs mem mem' : List X) : Type 0 where
  pub no_room : length mem < length xs
  pub unaltered : mem' ≡ mem

-- the memory holds the list in its first n places, and from there on what it held
pub record Stored {X : Type 0} (xs mem mem' : List X) (n : ℕ) : Type 0 where
  pub counted : n ≡ length xs
  pub within : n ≤ length mem
  pub list : take n mem' ≡ xs
  pub rest : drop n mem' ≡ drop n mem

-- put: the list with x put in is stored, and its length answered, where the memory has room for it
abbrev pub Put : {X : Type 0} → (X → ℕ) → X → List X → ℕ → List X → Option ℕ → Type 0
Put key x mem count mem' r = MatchOption r (NotStored (put_in key x (take count mem)) mem mem') (Stored (put_in key x (take count mem)) mem mem')
