-- One more vote in the table, and how the line grows.
use Rattle.std.proofs.Common.{◌≡◌, ℕ, zero, suc, ◌+◌, ◌<◌, ◌≤◌, Bool, true, false, cond, ltb, ◌≢◌, List, [], ◌∷◌, ◌++◌, length, get_or, take, drop, set, is_some, Some, None, Option, sym, refl, ap, ◌∙◌, subst, ⊎_elim, append_assoc, suc-le-suc, zero-le, not-suc-le-zero, zero-add, one-add, arith}
use Rattle.std.specs.List.{find}
use Rattle.std.specs.Option.{option_flatten}
use Rattle.std.proofs.lemmas.List.{get_or-set_same, get_or-set_other, length-set, length_push, length-append, append-nil, at_drop_more, at_drop_all, take_at}
use Rattle.std.proofs.lemmas.List.Sums.{prefix_len-drop_yes as leading-drop-yes, prefix_len-drop_no, prefix_len-drop_all, prefix_len-le-length}
use Rattle.std.proofs.lemmas.Bool.{true≢false, ltb-true, lt-ltb, cases_eq, cases_lt, cases_Bool, cond_both, cond-true, cond-false, and_parts, not-true}
use Rattle.votes.specs.declared.slot.Outcome.{Outcome}
use Rattle.votes.specs.declared.slot.Outcome.TheVariants.{Open, Locked, Closed}
use Rattle.votes.specs.declared.vote.Vote.{Vote}
use Rattle.votes.specs.Slots.{Votes, wins, winner, locked, closed, outcome_by, outcome_of}
use Rattle.votes.specs.Tables.{Table, line_from, line_of, vote_of, vote_at, is_valid_vote, after_cast, after_vote, after_votes, no_votes, empty_table}
use Rattle.votes.specs.Kept.{is_decided, first_open, is_known, Known, Written, Cached}
use Rattle.votes.proofs.Deciding.{outcome_kept}

-- what a valid vote tells
pub valid_parts : (g count : ℕ) (t : Table) (v : Vote) → is_valid_vote g count t v ≡ true → (v.gateway < g) × (v.slot < length t) × (v.number < count) × (is_some (vote_at t v.slot v.gateway) ≡ false)
valid_parts g count t v e =
    let a = and_parts (ltb v.gateway g) _ e in
    let b = and_parts (ltb v.slot (length t)) _ a.1 in
    let c = and_parts (ltb v.number count) _ b.1 in
    (ltb-true _ _ a.0, ltb-true _ _ b.0, ltb-true _ _ c.0, not-true _ c.1)

-- after a vote a slot is as before, or has one first vote more
pub slot_after : (P : Votes → Type 0) (g count : ℕ) (t : Table) (v : Vote) (k : ℕ) → P (get_or t k []) → (is_valid_vote g count t v ≡ true → is_some (get_or (get_or t k []) v.gateway None) ≡ false → P (set (get_or t k []) v.gateway (Some v.number))) → P (get_or (after_cast g count t v) k [])
slot_after P g count t v k same more =
    let s = v.slot in
    let new : ℕ → Votes = λ i. set (get_or t i []) v.gateway (Some v.number) in
    cond_both (is_valid_vote g count t v) _ _ (λ (x : Table). P (get_or x k []))
    (λ b.
    let a = valid_parts g count t v b in
    ⊎_elim
    (λ e.
    subst P (sym (ap (λ (i : ℕ). get_or (set t s (new s)) i []) e ∙ (get_or-set_same t s (new s) [] a.1 ∙ ap new (sym e))))
    (more b (subst (λ (i : ℕ). is_some (get_or (get_or t i []) v.gateway None) ≡ false) (sym e) a.3)))
    (λ ne. subst P (sym (get_or-set_other t s k (new s) [] ne)) same) (cases_eq k s))
    (λ b. same)

pub length_after : (g count : ℕ) (t : Table) (v : Vote) → length (after_cast g count t v) ≡ length t
length_after g count t v = cond_both (is_valid_vote g count t v) _ _ (λ (x : Table). length x ≡ length t) (λ b. length-set t v.slot _) (λ b. refl)

-- what a first vote keeps of a slot, all votes keep
pub slot_stays : (P : Votes → Type 0) → ((vs : Votes) (j n : ℕ) → is_some (get_or vs j None) ≡ false → P vs → P (set vs j (Some n))) → (g : ℕ) (t : Table) (ws : List (ℕ × ℕ)) (k : ℕ) → P (get_or t k []) → P (get_or (after_votes g t ws) k [])
slot_stays P step g t [] k p = p
slot_stays P step g t (w ∷ ws) k p = slot_stays P step g (after_vote g w.0 t w.1) ws k (slot_after P g w.0 t (vote_of w.1) k p (λ b e. step (get_or t k []) _ _ e p))

pub length_stays : (g : ℕ) (t : Table) (ws : List (ℕ × ℕ)) → length (after_votes g t ws) ≡ length t
length_stays g t [] = refl
length_stays g t (w ∷ ws) = length_stays g (after_vote g w.0 t w.1) ws ∙ length_after g w.0 t (vote_of w.1)

pub outcome_stays : (g : ℕ) (t : Table) (ws : List (ℕ × ℕ)) (k : ℕ) → (outcome_of (get_or t k []) ≡ Open → ⊥) → outcome_of (get_or (after_votes g t ws) k []) ≡ outcome_of (get_or t k [])
outcome_stays g t ws k shut =
    slot_stays (λ (vs : Votes). outcome_of vs ≡ outcome_of (get_or t k [])) (λ vs j n e p. outcome_kept vs j n e (λ o. shut (sym p ∙ o)) ∙ p) g t ws k refl

-- the slots before the first open one are decided
decided_shut : (o : Outcome) (f : ℕ) → 0 < cond (is_decided o) (1 + f) 0 → o ≡ Open → ⊥
decided_shut o f h e = let z : cond (is_decided o) (1 + f) 0 ≡ 0 = ap (λ (x : Outcome). cond (is_decided x) (1 + f) 0) e in omega arith

passed_le : (b : Bool) (f : ℕ) → cond b (1 + f) 0 ≤ suc f
passed_le true f = omega arith
passed_le false f = zero-le

pub before_open : (t : Table) (k : ℕ) → k < first_open t → outcome_of (get_or t k []) ≡ Open → ⊥
before_open [] k h = absurd (not-suc-le-zero h)
before_open (vs ∷ t) zero h = decided_shut (outcome_of vs) (first_open t) h
before_open (vs ∷ t) (suc k) h = before_open t k (omega (arith, passed_le (is_decided (outcome_of vs)) (first_open t)))

-- where the slots before the first open one keep their outcomes, the line grows by what comes from there on
abbrev Grown : Table → ℕ → List ℕ → Type 0
Grown t f xs = (line_of t ≡ xs ++ line_of (drop f t)) × (first_open t ≡ f + first_open (drop f t))

grow_first : (vs : Votes) (t : Table) (f : ℕ) (xs : List ℕ) (o : Outcome) → (0 < cond (is_decided o) (1 + f) 0 → outcome_of vs ≡ o) → (0 < cond (is_decided o) (1 + f) 0 → Grown t f xs) → Grown (vs ∷ t) (cond (is_decided o) (1 + f) 0) (line_from o xs)
grow_first vs t f xs Open same more = (refl, sym (zero-add _))
grow_first vs t f xs (Locked n) same more =
    let e = same (omega arith) in
    let i = more (omega arith) in
    subst (λ (k : ℕ). Grown (vs ∷ t) k (n ∷ xs)) (sym (one-add f))
    (ap (λ (x : Outcome). line_from x (line_of t)) e ∙ ap (λ (ys : List ℕ). n ∷ ys) i.0, ap (λ (x : Outcome). cond (is_decided x) (1 + first_open t) 0) e ∙ omega (arith, i.1))
grow_first vs t f xs Closed same more =
    let e = same (omega arith) in
    let i = more (omega arith) in
    subst (λ (k : ℕ). Grown (vs ∷ t) k xs) (sym (one-add f))
    (ap (λ (x : Outcome). line_from x (line_of t)) e ∙ i.0, ap (λ (x : Outcome). cond (is_decided x) (1 + first_open t) 0) e ∙ omega (arith, i.1))

passed_some : (b : Bool) (f : ℕ) → 0 < cond b (1 + f) 0 → cond b (1 + f) 0 ≡ suc f
passed_some true f h = one-add f
passed_some false f h = absurd (not-suc-le-zero h)

pub grow : (t t' : Table) → length t' ≡ length t → ((k : ℕ) → k < first_open t → outcome_of (get_or t' k []) ≡ outcome_of (get_or t k [])) → Grown t' (first_open t) (line_of t)
grow [] t' l h = (refl, sym (zero-add _))
grow (vs ∷ t) [] l h = absurd (omega arith)
grow (vs ∷ t) (vs' ∷ t') l h =
    grow_first vs' t' (first_open t) (line_of t) (outcome_of vs) (h 0)
    (λ some. grow t t' (omega arith) (λ k b. h (suc k) (omega (arith, passed_some (is_decided (outcome_of vs)) (first_open t) some))))

-- the line only ever grows at its end
pub line_grows : (g : ℕ) (t : Table) (ws : List (ℕ × ℕ)) → Grown (after_votes g t ws) (first_open t) (line_of t)
line_grows g t ws = grow t (after_votes g t ws) (length_stays g t ws) (λ k h. outcome_stays g t ws k (before_open t k h))

pub line_begins : (g : ℕ) (t : Table) (ws : List (ℕ × ℕ)) → take (length (line_of t)) (line_of (after_votes g t ws)) ≡ line_of t
line_begins g t ws = ap (take (length (line_of t))) (line_grows g t ws).0 ∙ take_at (line_of t) _ _ refl

-- the line within the table
line_first : (o : Outcome) (xs : List ℕ) (f : ℕ) → length xs ≤ f → length (line_from o xs) ≤ cond (is_decided o) (1 + f) 0
line_first Open xs f h = zero-le
line_first (Locked n) xs f h = omega arith
line_first Closed xs f h = omega arith

pub line_le : (t : Table) → length (line_of t) ≤ first_open t
line_le [] = zero-le
line_le (vs ∷ t) = line_first (outcome_of vs) (line_of t) (first_open t) (line_le t)

pub open_le : (t : Table) → first_open t ≤ length t
open_le t = prefix_len-le-length (λ (vs : Votes). is_decided (outcome_of vs)) t

-- nothing joins the line from an open slot on
ends_at : (t : Table) (f : ℕ) → (f < length t → outcome_of (get_or t f []) ≡ Open) → (line_of (drop f t) ≡ []) × (first_open (drop f t) ≡ 0)
ends_at t f h =
    ⊎_elim
    (λ l. (at_drop_more line_of t f [] l ∙ ap (λ (o : Outcome). line_from o (line_of (drop (f + 1) t))) (h l), prefix_len-drop_no (λ (vs : Votes). is_decided (outcome_of vs)) t f [] l (ap is_decided (h l))))
    (λ l. (at_drop_all line_of t f l, prefix_len-drop_all (λ (vs : Votes). is_decided (outcome_of vs)) t f l)) (cases_lt f (length t))

pub is_open : (o : Outcome) → is_decided o ≡ false → o ≡ Open
is_open Open e = refl
is_open (Locked n) e = absurd (true≢false e)
is_open Closed e = absurd (true≢false e)

-- the first open slot is open
open_at : (t : Table) → first_open t < length t → outcome_of (get_or t (first_open t) []) ≡ Open
open_at t h =
    let f = first_open t in
    let p = λ (vs : Votes). is_decided (outcome_of vs) in
    let none : first_open (drop f t) ≡ 0 = omega (arith, (grow t t refl (λ k l. refl)).1) in
    is_open (outcome_of (get_or t f [])) (⊎_elim (λ b. absurd (let e = leading-drop-yes p t f [] h b in let z : ⊥ = omega arith in z)) (λ b. b) (cases_Bool (p (get_or t f []))))

-- one slot further while the line is written
one_slot : (t : Table) (at : ℕ) (o : Outcome) → at < length t → o ≡ outcome_of (get_or t at []) → line_of (drop at t) ≡ line_from o (line_of (drop (at + 1) t))
one_slot t at o h e = at_drop_more line_of t at [] h ∙ ap (λ (x : Outcome). line_from x (line_of (drop (at + 1) t))) (sym e)

one_decided : (t : Table) (at : ℕ) (o : Outcome) → at < length t → o ≡ outcome_of (get_or t at []) → is_decided o ≡ true → first_open (drop at t) ≡ 1 + first_open (drop (at + 1) t)
one_decided t at o h e b = leading-drop-yes (λ (vs : Votes). is_decided (outcome_of vs)) t at [] h (ap is_decided (sym e) ∙ b)

pub written_as : (t t' : Table) (line line' : List ℕ) (at : ℕ) → t' ≡ t → line' ≡ line → Written t line at → Written t' line' at
written_as t t' line line' at e f i = subst (λ (x : Table). Written x line' at) (sym e) (subst (λ (xs : List ℕ). Written t xs at) (sym f) i)

pub written_closed : (t : Table) (line : List ℕ) (at : ℕ) → at < length t → Closed ≡ outcome_of (get_or t at []) → Written t line at → Written t line (at + 1)
written_closed t line at h e i =
    let f = one_decided t at Closed h e refl in
    (ap (λ (ys : List ℕ). line ++ ys) (sym (one_slot t at Closed h e)) ∙ i.0, omega (arith, i.1), omega (arith, i.2), omega arith)

pub written_locked : (t : Table) (line : List ℕ) (at n : ℕ) → at < length t → Locked n ≡ outcome_of (get_or t at []) → Written t line at → Written t (line ++ (n ∷ [])) (at + 1)
written_locked t line at n h e i =
    let f = one_decided t at (Locked n) h e refl in
    (rw append_assoc (ap (λ (ys : List ℕ). line ++ ys) (sym (one_slot t at (Locked n) h e)) ∙ i.0), omega (arith, i.1), omega (arith, i.2, length_push line n), omega arith)

-- the line is written once the next slot is open or there is none
pub written_all : (t : Table) (line : List ℕ) (at : ℕ) → (at < length t → outcome_of (get_or t at []) ≡ Open) → Written t line at → Cached t line at
written_all t line at h i =
    let z = ends_at t at h in
    (sym (append-nil _) ∙ (ap (λ (ys : List ℕ). line ++ ys) (sym z.0) ∙ i.0), omega (arith, i.1, z.1))

-- a vote in the first open slot leaves the line to be written on, and a vote in another leaves it as it is
outcomes_after : (g count : ℕ) (t : Table) (v : Vote) (k : ℕ) → k < first_open t → outcome_of (get_or (after_cast g count t v) k []) ≡ outcome_of (get_or t k [])
outcomes_after g count t v k h =
    slot_after (λ (vs : Votes). outcome_of vs ≡ outcome_of (get_or t k [])) g count t v k refl (λ b e. outcome_kept (get_or t k []) _ _ e (before_open t k h))

cast_grows : (g count : ℕ) (t : Table) (v : Vote) → Grown (after_cast g count t v) (first_open t) (line_of t)
cast_grows g count t v = grow t (after_cast g count t v) (length_after g count t v) (outcomes_after g count t v)

pub cast_begins : (g count : ℕ) (t : Table) (v : Vote) → take (length (line_of t)) (line_of (after_cast g count t v)) ≡ line_of t
cast_begins g count t v = ap (take (length (line_of t))) (cast_grows g count t v).0 ∙ take_at (line_of t) _ _ refl

pub cast_longer : (g count : ℕ) (t : Table) (v : Vote) → length (line_of t) ≤ length (line_of (after_cast g count t v))
cast_longer g count t v = omega (arith, ap length (cast_grows g count t v).0, length-append (line_of t) (line_of (drop (first_open t) (after_cast g count t v))))

pub written_after : (g count : ℕ) (t : Table) (v : Vote) (line : List ℕ) (at : ℕ) → Cached t line at → Written (after_cast g count t v) line at
written_after g count t v line at i =
    let t' = after_cast g count t v in
    let e = cast_grows g count t v in (
      ap (λ (xs : List ℕ). xs ++ line_of (drop at t')) i.0 ∙ (ap (λ (k : ℕ). line_of t ++ line_of (drop k t')) i.1 ∙ sym e.0),
      ap (λ (k : ℕ). k + first_open (drop k t')) i.1 ∙ sym e.1,
      omega (arith, i.1, ap length i.0, line_le t),
      omega (arith, i.1, open_le t, length_after g count t v),
    )

pub cached_after : (g count : ℕ) (t : Table) (v : Vote) (line : List ℕ) (at : ℕ) → v.slot ≢ at → Cached t line at → Cached (after_cast g count t v) line at
cached_after g count t v line at ne i =
    written_all (after_cast g count t v) line at
    (λ h.
    cond_both (is_valid_vote g count t v) _ _ (λ (x : Table). outcome_of (get_or x at []) ≡ Open)
    (λ b. ap outcome_of (get_or-set_other t v.slot at _ [] (λ e. ne (sym e))) ∙ still (omega (arith, h, length_after g count t v))) (λ b. still (omega (arith, h, length_after g count t v))))
    (written_after g count t v line at i)
  where
    still : at < length t → outcome_of (get_or t at []) ≡ Open
    still h = subst (λ (k : ℕ). k < length t → outcome_of (get_or t k []) ≡ Open) (sym i.1) (open_at t) h

-- numbers of the line are below the count
winner_known : (count : ℕ) (vs more : Votes) (n : ℕ) → ((j : ℕ) → is_known count (get_or more j None) ≡ true) → winner vs more ≡ Some n → n < count
winner_known count vs [] n h e = let z : ◌≡◌ {A = ℕ} 0 1 = cc in omega arith
winner_known count vs (v ∷ more) n h e =
    ⊎_elim (λ b. ltb-true n count (subst (λ (x : Option ℕ). is_known count x ≡ true) (sym (ap option_flatten (cond-true (wins vs v) (Some v) (find (wins vs) more) b)) ∙ e) (h 0)))
    (λ b. winner_known count vs more n (λ j. h (suc j)) (sym (ap option_flatten (cond-false (wins vs v) (Some v) (find (wins vs) more) b)) ∙ e)) (cases_Bool (wins vs v))

by_locked : (o : Option ℕ) (b : Bool) (n : ℕ) → outcome_by o b ≡ Locked n → o ≡ Some n
by_locked (Some m) b n e = cc
by_locked None true n e = cc
by_locked None false n e = cc

pub locked_known : (count : ℕ) (t : Table) (at n : ℕ) → Known count t → outcome_of (get_or t at []) ≡ Locked n → n < count
locked_known count t at n h e = let vs = get_or t at [] in winner_known count vs vs n (h at) (by_locked (locked vs) (closed vs) n e)

set_known : (count : ℕ) (vs : Votes) (i n : ℕ) → n < count → ((j : ℕ) → is_known count (get_or vs j None) ≡ true) → (j : ℕ) → is_known count (get_or (set vs i (Some n)) j None) ≡ true
set_known count [] i n l h j = refl
set_known count (v ∷ vs) zero n l h zero = lt-ltb n count l
set_known count (v ∷ vs) zero n l h (suc j) = h (suc j)
set_known count (v ∷ vs) (suc i) n l h zero = h 0
set_known count (v ∷ vs) (suc i) n l h (suc j) = set_known count vs i n l (λ k. h (suc k)) j

pub known_after : (g count : ℕ) (t : Table) (v : Vote) → Known count t → Known count (after_cast g count t v)
known_after g count t v h k =
    slot_after (λ (vs : Votes). (j : ℕ) → is_known count (get_or vs j None) ≡ true) g count t v k (h k)
    (λ b e. set_known count (get_or t k []) v.gateway v.number (valid_parts g count t v b).2 (h k))

-- the table without votes
pub no_vote_at : (g slots slot gateway : ℕ) → vote_at (empty_table g slots) slot gateway ≡ None
no_vote_at g zero slot gateway = refl
no_vote_at g (suc slots) zero gateway = none g gateway
  where
    none : (g j : ℕ) → get_or (no_votes g) j None ≡ None
    none zero j = refl
    none (suc g) zero = refl
    none (suc g) (suc j) = none g j
no_vote_at g (suc slots) (suc slot) gateway = no_vote_at g slots slot gateway

pub empty_known : (g slots : ℕ) → Known 0 (empty_table g slots)
empty_known g slots k j = ap (is_known 0) (no_vote_at g slots k j)

none_wins : (vs : Votes) (g : ℕ) → winner vs (no_votes g) ≡ None
none_wins vs zero = refl
none_wins vs (suc g) = none_wins vs g

none_open : (g : ℕ) → 0 < g → outcome_of (no_votes g) ≡ Open
none_open zero h = absurd (not-suc-le-zero h)
none_open (suc g) h = ap (λ (o : Option ℕ). outcome_by o false) (none_wins (no_votes (suc g)) (suc g))

pub empty_cached : (g slots : ℕ) → (0 < slots → 0 < g) → Cached (empty_table g slots) [] 0
empty_cached g zero h = (refl, refl)
empty_cached g (suc slots) h =
    let e = none_open g (h (suc-le-suc zero-le)) in
    (sym (ap (λ (o : Outcome). line_from o (line_of (empty_table g slots))) e), sym (ap (λ (o : Outcome). cond (is_decided o) (1 + first_open (empty_table g slots)) 0) e))
