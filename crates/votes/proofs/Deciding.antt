-- One more vote in a slot, and what it leaves decided.
use Rattle.std.proofs.Common.{◌≡◌, ℕ, ◌+◌, ◌<◌, ◌≤◌, Bool, true, false, cond, eqb, [], ◌∷◌, length, get_or, set, is_some, Some, None, count_by, Option, sym, refl, ap, ◌∙◌, subst, ⊎_elim, zero-le, not-suc-le-zero, arith}
use Rattle.std.specs.List.{find}
use Rattle.std.specs.Option.{option_flatten}
use Rattle.std.proofs.lemmas.List.Folds.{list_all_at}
use Rattle.std.proofs.lemmas.List.{length-set, set_past, get_or-set_other}
use Rattle.std.proofs.lemmas.List.Sums.{sum_by-cons, sum_by-set}
use Rattle.std.proofs.lemmas.Bool.{true≢false, both_ways, leb-true, le-leb, eqb-true, cases_eq, cases_lt, cases_Bool, cond-true, cond-false, and_parts, not-true}
use Rattle.std.proofs.lemmas.Bool.Decides.{nat_tests}
use Rattle.votes.specs.declared.slot.Outcome.TheVariants.{Open}
use Rattle.votes.specs.Slots.{Votes, is_for, votes_for, majority, wins, winner, locked, all_voted, closed, outcome_by, outcome_of}

pub none_is : (v : Option ℕ) → is_some v ≡ false → v ≡ None
none_is None e = refl
none_is (Some n) e = absurd (true≢false e)

-- what a vote that passes a test adds to a count
abbrev one : Bool → ℕ
one b = cond b 1 0

-- a vote is for at most one of two numbers
for_one : (m n : ℕ) → (m ≡ n → ⊥) → (v : Option ℕ) → one (is_for m v) + one (is_for n v) ≤ 1
for_one m n ne None = zero-le
for_one m n ne (Some k) = grind (arith, nat_tests)

votes_apart : (m n : ℕ) → (m ≡ n → ⊥) → (vs : Votes) → votes_for m vs + votes_for n vs ≤ length vs
votes_apart m n ne [] = zero-le
votes_apart m n ne (v ∷ vs) =
    omega (arith, for_one m n ne v, sum_by-cons (λ x. one (is_for m x)) v vs, sum_by-cons (λ x. one (is_for n x)) v vs, votes_apart m n ne vs)

pub one_majority : (vs : Votes) (m n : ℕ) → majority vs ≤ votes_for m vs → majority vs ≤ votes_for n vs → m ≡ n
one_majority vs m n a b = ⊎_elim (λ e. e) (λ ne. absurd (let both = votes_apart m n ne vs in omega arith)) (cases_eq m n)

-- the locked number is the one with a majority
winner_wins : (vs more : Votes) (n : ℕ) → winner vs more ≡ Some n → wins vs (Some n) ≡ true
winner_wins vs [] n e = let z : ◌≡◌ {A = ℕ} 0 1 = cc in absurd (let f : ⊥ = omega arith in f)
winner_wins vs (v ∷ more) n e =
    ⊎_elim (λ b. subst (λ (x : Option ℕ). wins vs x ≡ true) (sym (ap option_flatten (cond-true (wins vs v) (Some v) (find (wins vs) more) b)) ∙ e) b) (λ b. winner_wins vs more n (sym (ap option_flatten (cond-false (wins vs v) (Some v) (find (wins vs) more) b)) ∙ e)) (cases_Bool (wins vs v))

won_by : (vs : Votes) (n : ℕ) → majority vs ≤ votes_for n vs → (v : Option ℕ) → wins vs v ≡ true → v ≡ Some n
won_by vs n h None b = absurd (true≢false (sym b))
won_by vs n h (Some m) b = ap Some (one_majority vs m n (leb-true _ _ b) h)

not_for : (vs : Votes) (n : ℕ) → majority vs ≤ votes_for n vs → (v : Option ℕ) → wins vs v ≡ false → one (is_for n v) ≡ 0
not_for vs n h None b = refl
not_for vs n h (Some m) b = cond-false _ _ _ (⊎_elim (λ e. absurd (both_ways _ b (subst (λ (k : ℕ). wins vs (Some k) ≡ true) (sym (eqb-true m n e)) (le-leb _ _ h)))) (λ e. e) (cases_Bool (eqb m n)))

winner_is : (vs : Votes) (n : ℕ) → majority vs ≤ votes_for n vs → (more : Votes) → 0 < votes_for n more → winner vs more ≡ Some n
winner_is vs n h [] some = absurd (not-suc-le-zero some)
winner_is vs n h (v ∷ more) some =
    ⊎_elim (λ b. ap option_flatten (cond-true (wins vs v) (Some v) (find (wins vs) more) b) ∙ won_by vs n h v b)
    (λ b. ap option_flatten (cond-false (wins vs v) (Some v) (find (wins vs) more) b) ∙ winner_is vs n h more (omega (arith, sum_by-cons (λ x. one (is_for n x)) v more, not_for vs n h v b)))
    (cases_Bool (wins vs v))

pub locked_has : (vs : Votes) (n : ℕ) → locked vs ≡ Some n → majority vs ≤ votes_for n vs
locked_has vs n e = leb-true _ _ (winner_wins vs vs n e)

pub locked_by : (vs : Votes) (n : ℕ) → majority vs ≤ votes_for n vs → locked vs ≡ Some n
locked_by vs n h = winner_is vs n h vs (omega arith)

-- a first vote takes nothing from a count
count_set : (p : Option ℕ → Bool) → p None ≡ false → (vs : Votes) (g : ℕ) (v : Option ℕ) → is_some (get_or vs g None) ≡ false → g < length vs → count_by p (set vs g v) ≡ count_by p vs + one (p v)
count_set p z vs g v e h =
    let old : one (p (get_or vs g None)) ≡ 0 = ap (λ (x : Option ℕ). one (p x)) (none_is _ e) ∙ cond-false _ _ _ z in
    let sums = sum_by-set (λ x. one (p x)) vs g v None h in
    omega arith

votes_kept : (vs : Votes) (g m : ℕ) (v : Option ℕ) → is_some (get_or vs g None) ≡ false → votes_for m vs ≤ votes_for m (set vs g v)
votes_kept vs g m v e =
    ⊎_elim (λ h. omega (arith, count_set (is_for m) refl vs g v e h)) (λ h. omega (arith, ap (votes_for m) (set_past vs g v h))) (cases_lt g (length vs))

-- what is decided stays decided
pub locked_kept : (vs : Votes) (g m n : ℕ) → is_some (get_or vs g None) ≡ false → locked vs ≡ Some m → locked (set vs g (Some n)) ≡ Some m
locked_kept vs g m n e l = locked_by (set vs g (Some n)) m (omega (arith, locked_has vs m l, votes_kept vs g m (Some n) e, length-set vs g (Some n)))

-- where all have voted there is no first vote
none_left : (vs : Votes) (g n : ℕ) → is_some (get_or vs g None) ≡ false → all_voted vs ≡ true → length vs ≤ g
none_left vs g n e all = ⊎_elim (λ h. absurd (both_ways _ (list_all_at (is_some {T = ℕ}) vs g None h e) all)) (λ h. h) (cases_lt g (length vs))

pub closed_kept : (vs : Votes) (g n : ℕ) → is_some (get_or vs g None) ≡ false → closed vs ≡ true → closed (set vs g (Some n)) ≡ true
closed_kept vs g n e c = ap closed (set_past vs g (Some n) (none_left vs g n e (and_parts (all_voted vs) _ c).0)) ∙ c

pub closed_unlocked : (vs : Votes) → closed vs ≡ true → locked vs ≡ None
closed_unlocked vs c = none_is (locked vs) (not-true _ (and_parts (all_voted vs) _ c).1)

by_cases : (o o' : Option ℕ) (b b' : Bool) → ((m : ℕ) → o ≡ Some m → o' ≡ Some m) → (b ≡ true → (b' ≡ true) × (o' ≡ None)) → (outcome_by o b ≡ Open → ⊥) → outcome_by o' b' ≡ outcome_by o b
by_cases (Some m) o' b b' l c shut = ap (λ (x : Option ℕ). outcome_by x b') (l m refl)
by_cases None o' true b' l c shut = ap (λ (x : Option ℕ). outcome_by x b') (c refl).1 ∙ cond-true _ _ _ (c refl).0
by_cases None o' false b' l c shut = absurd (shut refl)

pub outcome_kept : (vs : Votes) (g n : ℕ) → is_some (get_or vs g None) ≡ false → (outcome_of vs ≡ Open → ⊥) → outcome_of (set vs g (Some n)) ≡ outcome_of vs
outcome_kept vs g n e =
    by_cases (locked vs) _ (closed vs) _ (λ m l. locked_kept vs g m n e l)
    (λ c. let c' = closed_kept vs g n e c in (c', closed_unlocked (set vs g (Some n)) c'))

-- a vote stays as it was cast
pub vote_kept : (vs : Votes) (i m g n : ℕ) → is_some (get_or vs g None) ≡ false → get_or vs i None ≡ Some m → get_or (set vs g (Some n)) i None ≡ Some m
vote_kept vs i m g n e v =
    get_or-set_other vs g i (Some n) None (λ (same : i ≡ g). true≢false (sym (ap is_some v) ∙ (ap (λ (k : ℕ). is_some (get_or vs k None)) same ∙ e))) ∙ v
