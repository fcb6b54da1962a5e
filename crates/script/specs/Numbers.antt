-- Numbers as a script writes them.
use Rattle.std.specs.Prelude.{ℕ, ◌+◌, ◌-◌, ◌*◌, ◌^◌, Bool, cond, not, ◌&&◌, List, [], ◌∷◌, length, drop, ℤ, pos, neg_ℤ, Ok, Err, Result, ◌==◌, nat_lt, slice_index}
use Rattle.std.specs.Char.{is_ascii_digit}
use Rattle.std.specs.Str.{all_ascii_digits}
use Rattle.script.specs.declared.fault.BadNumber.{BadNumber}
use Rattle.script.specs.Bytes.{byte}

-- the value of decimal digits after those of n
abbrev pub value_after : ℕ → List ℕ → ℕ
value_after n [] = n
value_after n (c ∷ cs) = value_after (n * 10 + (c - byte "0")) cs

-- a value where it passes the test, else a bad number
abbrev pub number_if : {V : Type 0} → Bool → V → Result V BadNumber
number_if ok v = cond ok (Ok v) (Err (record {}))

-- the number n with one digit more, in 32 bits
abbrev pub with_digit : ℕ → ℕ → Result ℕ BadNumber
with_digit n c = number_if (is_ascii_digit c && nat_lt (n * 10 + (c - byte "0")) (2 ^ 32)) (n * 10 + (c - byte "0"))

-- what digits say after those of n: a number of 32 bits
abbrev pub read_digits : ℕ → List ℕ → Result ℕ BadNumber
read_digits n ds = number_if (all_ascii_digits ds && nat_lt (value_after n ds) (2 ^ 32)) (value_after n ds)

-- not empty, and no 0 before another byte
abbrev pub unpadded : List ℕ → Bool
unpadded bs = nat_lt 0 (length bs) && not (slice_index bs 0 == (byte "0") && nat_lt 1 (length bs))

-- decimal, 0 to 4294967295, without leading zeros
abbrev pub read_number : List ℕ → Result ℕ BadNumber
read_number bs = cond (unpadded bs) (read_digits 0 bs) (Err (record {}))

-- watts from 0 on: at most 2147483647
abbrev pub upward : ℕ → Result ℤ BadNumber
upward n = number_if (nat_lt n (2 ^ 31)) (pos n)

-- watts below 0: 1 to 2147483648 of them
abbrev pub downward : ℕ → Result ℤ BadNumber
downward n = number_if (nat_lt 0 n && nat_lt n (2 ^ 31 + 1)) (neg_ℤ (pos n))

-- goes on with the number after the sign
abbrev pub then_watts : Result ℕ BadNumber → (ℕ → Result ℤ BadNumber) → Result ℤ BadNumber
then_watts (Ok n) f = f n
then_watts (Err e) f = Err e

-- watts: a number, after `-` where it is negative
abbrev pub read_watts : List ℕ → Result ℤ BadNumber
read_watts bs = cond (slice_index bs 0 == (byte "-")) (then_watts (read_number (drop 1 bs)) downward) (then_watts (read_number bs) upward)
