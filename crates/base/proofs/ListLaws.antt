-- The laws of the bounded list.
use Rattle.std.proofs.Common.{◌≡◌, ℕ, suc, ◌+◌, ◌<◌, ◌≤◌, min, Bool, true, false, cond, not, eqb, List, [], ◌∷◌, ◌++◌, length, take, drop, set, Some, None, filter, find, option_map, Option, sym, refl, ap, ◌∙◌, ⊎_elim, arith, MatchOption}
use lib.Seq.{take-set-lt}
use Rattle.std.proofs.lemmas.Bool.{lt-ltb, le-ltb, eq-eqb, ne_eqb, eqb-true, and_from, cond-true, cond-false, cond_both, cases_lt}
use Rattle.std.proofs.lemmas.List.Filters.{FiltersInPlace}
use Rattle.std.specs.List.{position_or_len}
use Rattle.std.proofs.lemmas.List.Sums.{prefix_len-le-length}
use Rattle.std.proofs.lemmas.List.{length-take-le, length-set, length-take, length_push, take_min, take_more_set, drop_min, drop-set-lt}
use Rattle.base.specs.Lists.{found, lookup, put_in, appended, after_append, after_replace, Written, Stored, Put}

-- the front of the list, where its length was computed
pub front : {X : Type 0} (m n : ℕ) (xs : List X) → m ≡ min n (length xs) → take m xs ≡ take n xs
front m n xs e = ap (λ k. take k xs) e ∙ take_min n xs

module _ {X : Type 0} (key : X → ℕ) where
  -- the index of the first element with the key q, or the length
  abbrev pub place : ℕ → List X → ℕ
  place q xs = position_or_len (λ x. eqb (key x) q) xs

  -- what was found, by the place
  pub found_some : (q : ℕ) (xs : List X) (i : ℕ) → found key q xs ≡ Some i → (i ≡ place q xs) × (i < length xs)
  found_some q xs i e =
      ⊎_elim (λ l. let s : found key q xs ≡ Some (place q xs) = cond-true _ _ _ (lt-ltb _ _ l) in let p : i ≡ place q xs = cc in (p, omega arith))
      (λ l. let s : found key q xs ≡ None = cond-false _ _ _ (le-ltb _ _ l) in let z : ◌≡◌ {A = ℕ} 0 1 = cc in absurd (omega arith))
      (cases_lt (place q xs) (length xs))

  pub found_none : (q : ℕ) (xs : List X) → found key q xs ≡ None → place q xs ≡ length xs
  found_none q xs e =
      ⊎_elim (λ l. let s : found key q xs ≡ Some (place q xs) = cond-true _ _ _ (lt-ltb _ _ l) in let z : ◌≡◌ {A = ℕ} 0 1 = cc in absurd (omega arith))
      (λ l. omega (arith, prefix_len-le-length (λ x. not (eqb (key x) q)) xs))
      (cases_lt (place q xs) (length xs))

  -- put_in, by the place
  pub put_in_there : (x : X) (xs : List X) → place (key x) xs < length xs → put_in key x xs ≡ set xs (place (key x) xs) x
  put_in_there x [] l = absurd (omega arith)
  put_in_there x (y ∷ ys) l =
      elim (eqb (key y) (key x)) as (λ b. cond (not b) (1 + place (key x) ys) 0 < suc (length ys) → cond b (x ∷ ys) (y ∷ put_in key x ys) ≡ set (y ∷ ys) (cond (not b) (1 + place (key x) ys) 0) x)
      [ true ↦ (λ _. refl) | false ↦ (λ h. let e : 1 + place (key x) ys ≡ suc (place (key x) ys) = omega arith in rw e (ap (λ zs. y ∷ zs) (put_in_there x ys (omega arith)))) ] l

  pub put_in_behind : (x : X) (xs : List X) → place (key x) xs ≡ length xs → put_in key x xs ≡ xs ++ (x ∷ [])
  put_in_behind x [] l = refl
  put_in_behind x (y ∷ ys) l =
      elim (eqb (key y) (key x)) as (λ b. cond (not b) (1 + place (key x) ys) 0 ≡ suc (length ys) → cond b (x ∷ ys) (y ∷ put_in key x ys) ≡ (y ∷ ys) ++ (x ∷ []))
      [ true ↦ (λ h. absurd (omega (arith, h))) | false ↦ (λ h. ap (λ zs. y ∷ zs) (put_in_behind x ys (omega (arith, h)))) ] l

  -- what replace stores where find found the key
  pub put_replaced : (x : X) (mem : List X) (count end at : ℕ) → end ≡ min count (length mem) → found key (key x) (take end mem) ≡ Some at → Stored (put_in key x (take count mem)) mem (after_replace mem end at x) end
  put_replaced x mem count end at e f =
      let t : take end mem ≡ take count mem = ap (λ n. take n mem) e ∙ take_min count mem in
      let n : length (take end mem) ≡ end = simp length-take (omega arith) in
      let i = found_some (key x) (take end mem) at f in
      let l : at < end = omega arith in
      let p : put_in key x (take end mem) ≡ set (take end mem) at x = put_in_there x (take end mem) (omega arith) ∙ ap (λ j. set (take end mem) j x) (sym i.0) in
      let w : after_replace mem end at x ≡ set mem at x = cond-true _ _ _ (and_from _ _ (lt-ltb at end l) (lt-ltb at (length mem) (omega arith))) in
      rw (← t, w) (record { counted = sym (ap length p ∙ length-set (take end mem) at x ∙ n); within = omega arith; list = take-set-lt end mem at x l ∙ sym p; rest = drop-set-lt end mem at x l })

  -- what append stores where find found no such key
  pub put_appended : (x : X) (mem : List X) (count end : ℕ) → end ≡ min count (length mem) → found key (key x) (take end mem) ≡ None → Put key x mem count (after_append mem end x) (appended mem end)
  put_appended x mem count end e f =
      let t : take end mem ≡ take count mem = ap (λ n. take n mem) e ∙ take_min count mem in
      let n : length (take end mem) ≡ end = simp length-take (omega arith) in
      let p = put_in_behind x (take end mem) (found_none (key x) (take end mem) f) in
      let k : length (put_in key x (take end mem)) ≡ end + 1 = ap length p ∙ length_push (take end mem) x ∙ ap (λ j. j + 1) n in
      rw (← t)
      (⊎_elim (λ l. rw (lt-ltb end (length mem) l) (record { counted = sym k; within = omega arith; list = take_more_set mem end x l ∙ sym p; rest = drop-set-lt (end + 1) mem end x (omega arith) }))
      (λ l. rw (le-ltb end (length mem) l) (record { no_room = omega arith; unaltered = refl }))
      (cases_lt end (length mem)))

  -- either of them puts x in
  pub put_written : (x : X) (mem mem' : List X) (count end : ℕ) (o r : Option ℕ) → end ≡ min count (length mem) → o ≡ found key (key x) (take end mem) → MatchOption o (Written (appended mem end) (after_append mem end x) mem' r) (λ at. Written (Some end) (after_replace mem end at x) mem' r) → Put key x mem count mem' r
  put_written x mem mem' count end None r e f w = rw (w.answers, w.leaves) (put_appended x mem count end e (sym f))
  put_written x mem mem' count end (Some at) r e f w = rw (w.answers, w.leaves) (put_replaced x mem count end at e (sym f))

module _ {X : Type 0} (key : X → ℕ) where
  find_put_in_same : (x : X) (xs : List X) → find (λ y. eqb (key y) (key x)) (put_in key x xs) ≡ Some x
  find_put_in_same x [] = cond-true _ _ _ (eq-eqb (key x) (key x) refl)
  find_put_in_same x (y ∷ ys) =
      cond_both (eqb (key y) (key x)) (x ∷ ys) (y ∷ put_in key x ys) (λ zs. find (λ z. eqb (key z) (key x)) zs ≡ Some x)
      (λ _. cond-true _ _ _ (eq-eqb (key x) (key x) refl))
      (λ e. cond-false _ _ _ e ∙ find_put_in_same x ys)

  find_put_in_other : (x : X) (q : ℕ) (xs : List X) → (key x ≡ q → ⊥) → find (λ y. eqb (key y) q) (put_in key x xs) ≡ find (λ y. eqb (key y) q) xs
  find_put_in_other x q [] n = cond-false _ _ _ (ne_eqb (key x) q n)
  find_put_in_other x q (y ∷ ys) n =
      cond_both (eqb (key y) (key x)) (x ∷ ys) (y ∷ put_in key x ys) (λ zs. find (λ z. eqb (key z) q) zs ≡ find (λ z. eqb (key z) q) (y ∷ ys))
      (λ e. cond-false _ _ _ (ne_eqb (key x) q n) ∙ sym (cond-false _ _ _ (ne_eqb (key y) q (λ f. n (sym (eqb-true (key y) (key x) e) ∙ f)))))
      (λ _. ap (cond (eqb (key y) q) (Some y)) (find_put_in_other x q ys n))

  module _ {V : Type 0} (val : X → V) where
    -- lookup, by the first element
    pub lookup_first : (q : ℕ) (x : X) (xs : List X) → lookup key val q (x ∷ xs) ≡ cond (eqb (key x) q) (Some (val x)) (lookup key val q xs)
    lookup_first q x xs =
        elim (eqb (key x) q) as (λ b. option_map val (cond b (Some x) (find (λ y. eqb (key y) q) xs)) ≡ cond b (Some (val x)) (lookup key val q xs)) [ true ↦ refl | false ↦ refl ]

    -- lookup after put_in: the value of x under its key, and what there was under any other
    pub lookup_put_in_same : (x : X) (xs : List X) → lookup key val (key x) (put_in key x xs) ≡ Some (val x)
    lookup_put_in_same x xs = ap (option_map val) (find_put_in_same x xs)

    pub lookup_put_in_other : (x : X) (q : ℕ) (xs : List X) → (key x ≡ q → ⊥) → lookup key val q (put_in key x xs) ≡ lookup key val q xs
    lookup_put_in_other x q xs n = ap (option_map val) (find_put_in_other x q xs n)

-- what a filter loop over the list leaves
pub keeping_list : {X : Type 0} {p : X → Bool} {xs ys : List X} {n : ℕ} (count end : ℕ) → end ≡ min count (length xs) → FiltersInPlace p xs ys n end → take n ys ≡ filter p (take count xs)
keeping_list {p = p} {xs = xs} count end e k = k.front ∙ ap (λ m. filter p (take m xs)) e ∙ ap (filter p) (take_min count xs)

pub keeping_count : {X : Type 0} {p : X → Bool} {xs ys : List X} {n : ℕ} (count end : ℕ) → end ≡ min count (length xs) → FiltersInPlace p xs ys n end → n ≡ length (filter p (take count xs))
keeping_count {ys = ys} {n = n} count end e k =
    let l : n ≤ length ys = omega (arith, k.behind, k.within, k.long) in
    sym (length-take-le n ys l) ∙ ap length (keeping_list count end e k)

pub keeping_rest : {X : Type 0} {p : X → Bool} {xs ys : List X} {n : ℕ} (count end : ℕ) → end ≡ min count (length xs) → FiltersInPlace p xs ys n end → drop count ys ≡ drop count xs
keeping_rest {xs = xs} {ys = ys} count end e k =
    let a : end ≡ min count (length ys) = omega (arith, k.long) in
    sym (drop_min count ys) ∙ ap (λ m. drop m ys) (sym a) ∙ k.rest ∙ ap (λ m. drop m xs) e ∙ drop_min count xs
