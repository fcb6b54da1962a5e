-- A line keeps its first 65 bytes, which tell its row.
use Rattle.std.proofs.Common.{◌≡◌, ℕ, ◌+◌, ◌-◌, ◌<◌, ◌≤◌, true, false, eqb, List, [], ◌∷◌, ◌++◌, length, get_or, take, fold, Result, sym, refl, ap, ◌∙◌, subst, ⊎_elim, arith, Bor}
use Rattle.std.proofs.lemmas.List.{append_assoc, append-nil, length_push, length-take-le}
use Rattle.std.proofs.lemmas.Bool.{lt-ltb, le-ltb, cond-true, cond-false, cases_lt, cond_both}
use Rattle.script.specs.declared.fault.TooLong.{TooLong}
use Rattle.script.specs.declared.line.End.{End}
use Rattle.script.specs.declared.line.End.TheVariants.{LineFeed, Script}
use Rattle.script.specs.Lines.{Kept, keep, keep_all, without_return, before_end, within_64, kept_row, gives}

keep_short : (xs : List ℕ) (b : ℕ) → length xs < 65 → keep (record { first = xs; more = false }) b ≡ record { first = xs ++ (b ∷ []); more = false }
keep_short xs b h = cond-true _ _ _ (lt-ltb _ _ h)

keep_full : (k : Kept) (b : ℕ) → 65 ≤ length k.first → keep k b ≡ record { first = k.first; more = true }
keep_full k b h = cond-false _ _ _ (le-ltb _ _ h)

-- bytes that fit are kept
pub keep_fitting : (xs bs : List ℕ) → length xs + length bs ≤ 65 → fold keep (record { first = xs; more = false }) bs ≡ record { first = xs ++ bs; more = false }
keep_fitting xs [] h = rw append-nil
keep_fitting xs (b ∷ bs) h =
    let short : length xs < 65 = omega arith in
    let room : length (xs ++ (b ∷ [])) + length bs ≤ 65 = rw length_push (omega arith) in
    ap (λ (k : Kept). fold keep k bs) (keep_short xs b short) ∙ keep_fitting (xs ++ (b ∷ [])) bs room ∙ ap (λ (ys : List ℕ). record { first = ys; more = false }) (append_assoc xs (b ∷ []) bs)

-- that more came stays known
pub keep_more : (k : Kept) (bs : List ℕ) → 65 ≤ length k.first → k.more ≡ true → (fold keep k bs).more ≡ true
keep_more k [] h e = e
keep_more k (b ∷ bs) h e = ap (λ (j : Kept). (fold keep j bs).more) (keep_full k b h) ∙ keep_more (record { first = k.first; more = true }) bs h refl

pub keep_over : (xs bs : List ℕ) → length xs ≤ 65 → 65 < length xs + length bs → (fold keep (record { first = xs; more = false }) bs).more ≡ true
keep_over xs [] h over = absurd (omega arith)
keep_over xs (b ∷ bs) h over =
    ⊎_elim
    (λ short. ap (λ (k : Kept). (fold keep k bs).more) (keep_short xs b short) ∙ keep_over (xs ++ (b ∷ [])) bs (rw length_push (omega arith)) (rw length_push (omega arith)))
    (λ full. ap (λ (k : Kept). (fold keep k bs).more) (keep_full (record { first = xs; more = false }) b full) ∙ keep_more (record { first = xs; more = true }) bs full refl)
    (cases_lt (length xs) 65)

pub length_without_return : (bs : List ℕ) → length bs ≤ length (without_return bs) + 1
length_without_return bs =
    cond_both (eqb (get_or bs (length bs - 1) 0) 13) (take (length bs - 1) bs) bs (λ ys. length bs ≤ length ys + 1)
    (λ e. let h : length bs - 1 ≤ length bs = omega arith in omega (arith, length-take-le (length bs - 1) bs h))
    (λ e. omega arith)

pub length_before_end : (end : End) (bs : List ℕ) → length bs ≤ length (before_end end bs) + 1
length_before_end LineFeed bs = length_without_return bs
length_before_end Script bs = omega arith

-- the row of what is kept of a line is the row of all its bytes
pub kept_row_of_all : (end : End) (bs : List ℕ) → kept_row end (keep_all bs) ≡ within_64 (before_end end bs)
kept_row_of_all end bs =
    ⊎_elim
    (λ over.
    let long : 64 < length (before_end end bs) = omega (arith, length_before_end end bs) in
    cond-true _ _ _ (keep_over [] bs (omega arith) (omega arith)) ∙ sym (cond-true _ _ _ (lt-ltb _ _ long)))
    (λ fits. ap (kept_row end) (keep_fitting [] bs (omega arith)))
    (cases_lt 65 (length bs))

pub row_law : (end : End) (r : Result (Bor (List ℕ)) TooLong) (k : Kept) (bs : List ℕ) → k ≡ keep_all bs → gives r (kept_row end k) → gives r (within_64 (before_end end bs))
row_law end r k bs e h = subst (gives r) (ap (kept_row end) e ∙ kept_row_of_all end bs) h
