-- What one more byte does to a number.
use Rattle.std.proofs.Common.{◌≡◌, ℕ, ◌+◌, ◌-◌, ◌*◌, ◌^◌, ◌≤◌, true, false, List, [], ◌∷◌, Ok, Err, ◌∙◌, ⊎_elim, le_trans, le_refl, arith}
use Rattle.std.specs.Char.{is_ascii_digit}
use Rattle.std.specs.Str.{all_ascii_digits}
use Rattle.std.proofs.lemmas.Bool.{le-ltb, lt-ltb, and_left, and_right, and_from, cond-true, cond-false, cases_Bool, cases_lt}
use Rattle.script.specs.declared.fault.BadNumber.{BadNumber}
use Rattle.script.specs.Numbers.{value_after, with_digit, read_digits}

pub value_grows : (n : ℕ) (ds : List ℕ) → n ≤ value_after n ds
value_grows n [] = le_refl n
value_grows n (c ∷ cs) = le_trans (omega arith) (value_grows (n * 10 + (c - 48)) cs)

-- past 32 bits there is no way back
pub read_past : (n : ℕ) (ds : List ℕ) → 2 ^ 32 ≤ n → read_digits n ds ≡ Err (record {})
read_past n ds h = cond-false _ _ _ (and_right (all_ascii_digits ds) _ (le-ltb _ _ (le_trans h (value_grows n ds))))

-- a byte that is no digit ends it
pub read_stop : (n c : ℕ) (cs : List ℕ) → is_ascii_digit c ≡ false → read_digits n (c ∷ cs) ≡ Err (record {})
read_stop n c cs e = cond-false _ _ _ (and_left _ _ (and_left _ _ e))

pub read_more : (n c : ℕ) (cs : List ℕ) → is_ascii_digit c ≡ true → read_digits n (c ∷ cs) ≡ read_digits (n * 10 + (c - 48)) cs
read_more n c cs e = rw e

-- a byte that gives no number with n leaves no number of 32 bits
pub read_no_digit : (n c : ℕ) (x : BadNumber) (cs : List ℕ) → Err x ≡ with_digit n c → read_digits n (c ∷ cs) ≡ Err (record {})
read_no_digit n c x cs h =
    let v = n * 10 + (c - 48) in
    ⊎_elim
    (λ e.
    ⊎_elim
    (λ l. let w : with_digit n c ≡ Ok v = cond-true _ _ _ (and_from _ _ e (lt-ltb _ _ l)) in absurd (cc))
    (λ l. read_more n c cs e ∙ read_past v cs l)
    (cases_lt v (2 ^ 32)))
    (λ e. read_stop n c cs e)
    (cases_Bool (is_ascii_digit c))
