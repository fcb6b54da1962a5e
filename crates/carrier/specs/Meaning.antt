-- What a carrier means: one line of message numbers, and for each gateway a place in it.
use Rattle.std.specs.Prelude.{◌≡◌, ℕ, ◌+◌, ◌<◌, ◌≤◌, Bool, cond, ◌&&◌, List, length, take, Some, None, Option, ◌==◌, nat_lt, slice_index, slice_set}

pub record Meaning : Type 0 where
  -- how many gateways are served
  pub gateways : ℕ
  -- how many numbers can be given in all
  pub capacity : ℕ
  -- how many numbers were given: 0 up to this are known
  pub count : ℕ
  -- the numbers in their common order (the log); it may repeat, omit and reorder them
  pub line : List ℕ
  -- how much of the line each gateway has taken (its cursor)
  pub places : List ℕ

-- what every carrier shows of its meaning
pub record Sound (m : Meaning) : Type 0 where
  pub line_below_count : (i : ℕ) → i < length m.line → slice_index m.line i < m.count
  pub place_within_line : (g : ℕ) → g < m.gateways → slice_index m.places g ≤ length m.line
  pub place_for_each_gateway : length m.places ≡ m.gateways

-- the same meaning with another count, line or list of places
abbrev pub with_count : Meaning → ℕ → Meaning
with_count m n = record { gateways = m.gateways; capacity = m.capacity; count = n; line = m.line; places = m.places }

abbrev pub with_line : Meaning → List ℕ → Meaning
with_line m l = record { gateways = m.gateways; capacity = m.capacity; count = m.count; line = l; places = m.places }

abbrev pub with_places : Meaning → List ℕ → Meaning
with_places m ps = record { gateways = m.gateways; capacity = m.capacity; count = m.count; line = m.line; places = ps }

-- offer: the count is the new number
abbrev pub full : Meaning → Bool
full m = m.count == m.capacity

abbrev pub offered : Meaning → Option ℕ
offered m = cond (full m) None (Some m.count)

abbrev pub after_offer : Meaning → Meaning
after_offer m = cond (full m) m (with_count m (m.count + 1))

-- take: whether there is a number at the gateway's place
abbrev pub waits : Meaning → ℕ → Bool
waits m g = nat_lt g m.gateways && nat_lt (slice_index m.places g) (length m.line)

abbrev pub taken : Meaning → ℕ → Option ℕ
taken m g = cond (waits m g) (Some (slice_index m.line (slice_index m.places g))) None

abbrev pub after_take : Meaning → ℕ → Meaning
after_take m g = cond (waits m g) (with_places m (slice_set m.places g (slice_index m.places g + 1))) m

-- stir, on a carrier at large: the line may have grown at its end, by as many numbers as are answered
pub record Stirred (m m' : Meaning) (joined : ℕ) : Type 0 where
  pub only_the_line : m' ≡ with_line m m'.line
  pub begins_as_before : take (length m.line) m'.line ≡ m.line
  pub joined_are_counted : length m'.line ≡ length m.line + joined
