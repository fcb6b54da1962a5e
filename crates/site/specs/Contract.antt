-- What the calls promise. One shape serves them all: a call answers the first refusal of its table and leaves every byte
-- of the site, the carrier and the tables as it stood, or it answers and leaves exactly what its definition says.
use Rattle.std.specs.Prelude.{◌≡◌, ℕ, ◌+◌, ◌*◌, Bool, List, length, take, drop, Some, None, Ok, Err, Option, Result}
use Rattle.base.specs.declared.refusal.Refusal.{Refusal}
use Rattle.base.specs.Refusals.{told, left}
use Rattle.carrier.specs.Meaning.{Meaning, Stirred}
use Rattle.protocol.specs.declared.records.Note.{Note}
use Rattle.protocol.specs.declared.records.Update.{Update}
use Rattle.protocol.specs.declared.records.Cell.{Cell}
use Rattle.protocol.specs.Calls.{new_refused, started, open_refused, after_open, read_refused, read_value, after_read, write_refused, after_write, submit_refused, updates_left, after_submit, abandon_refused, after_abandon, stir_refused, look_refused, look_value}
use Rattle.site.specs.declared.site.Site.{Site}
use Rattle.site.specs.Tables.{view}

-- r answers a call on a site that was v before it and is v' after it; `unaltered` says that all memory is as it stood
pub record Call {A W : Type 0} (refusal : Option Refusal) (answer : Option A) (next : W) (r : Result A Refusal) (v v' : W) (unaltered : Type 0) : Type 0 where
  pub answers : Some r ≡ told refusal answer
  pub leaves : v' ≡ left refusal v next
  pub refusal_alters_nothing : (e : Refusal) → refusal ≡ Some e → unaltered

-- a table outside its row k, of w elements, is as it was
pub record SameBeside {X : Type 0} (w k : ℕ) (xs xs' : List X) : Type 0 where
  pub as_long : length xs' ≡ length xs
  pub in_front : take (w * k) xs' ≡ take (w * k) xs
  pub behind : drop (w * k + w) xs' ≡ drop (w * k + w) xs

-- Tables that a call is not lent may hold anything, so its contract speaks of all of them.

-- Site::open
abbrev pub Opens : {V : Type 0} → Site V → ℕ → Result ℕ Refusal → Site V → Type 0
Opens {V} s g r s' = (ns : List (Note V)) (us : List (Update V)) (xs : List (Cell V)) →
    let v = view s ns us xs in
    Call (open_refused v g) (Some (length v.changes)) (after_open v g) r v (view s' ns us xs) (s' ≡ s)

-- Site::read
abbrev pub Reads : {V : Type 0} → Site V → List (Cell V) → List (Note V) → List (Update V) → ℕ → ℕ → Result V Refusal → Site V → List (Note V) → Type 0
Reads s xs ns us k st r s' ns' =
    let v = view s ns us xs in
    Call (read_refused v k st) (read_value v k st) (after_read v k st) r v (view s' ns' us xs) ((s' ≡ s) × (ns' ≡ ns))

-- Site::write
abbrev pub Writes : {V : Type 0} → Site V → List (Update V) → ℕ → ℕ → V → Result (Unit {0}) Refusal → Site V → List (Update V) → Type 0
Writes {V} s us k st x r s' us' = (ns : List (Note V)) (xs : List (Cell V)) →
    let v = view s ns us xs in
    Call (write_refused v k st x) (Some tt) (after_write v k st x) r v (view s' ns us' xs) ((s' ≡ s) × (us' ≡ us))

-- Site::submit
abbrev pub Submits : {V : Type 0} → (V → V → Bool) → Site V → List (Note V) → List (Update V) → ℕ → Result ℕ Refusal → Site V → List (Update V) → Type 0
Submits {V} alike s ns us k r s' us' = (xs : List (Cell V)) →
    let v = view s ns us xs in
    Call (submit_refused v k) (Some (updates_left alike v k)) (after_submit alike v k) r v (view s' ns us' xs) ((s' ≡ s) × (us' ≡ us))

-- Site::abandon
abbrev pub Abandons : {V : Type 0} → Site V → ℕ → Result (Unit {0}) Refusal → Site V → Type 0
Abandons {V} s k r s' = (ns : List (Note V)) (us : List (Update V)) (xs : List (Cell V)) →
    let v = view s ns us xs in
    Call (abandon_refused v k) (Some tt) (after_abandon v k) r v (view s' ns us xs) (s' ≡ s)

-- Site::look: the site and the tables are only read
abbrev pub Looks : {V : Type 0} → Site V → List (Cell V) → ℕ → ℕ → Result V Refusal → Type 0
Looks {V} s xs g st r = (ns : List (Note V)) (us : List (Update V)) →
    let v = view s ns us xs in
    Some r ≡ told (look_refused v g st) (look_value v g st)

-- Site::stir: what the carrier answers and does is its own; the site is only read
pub record StirAnswers (refusal : Option Refusal) (r : Result ℕ Refusal) (m m' : Meaning) (unaltered : Type 0) : Type 0 where
  pub refuses : (e : Refusal) → refusal ≡ Some e → (r ≡ Err e) × unaltered
  pub serves : refusal ≡ None → (n : ℕ) × (r ≡ Ok n) × Stirred m m' n

abbrev pub Stirs : {V : Type 0} → Site V → Meaning → Result ℕ Refusal → Meaning → Type 0 → Type 0
Stirs {V} s m r m' unaltered = (ns : List (Note V)) (us : List (Update V)) (xs : List (Cell V)) →
    StirAnswers (stir_refused (view s ns us xs) m) r m m' unaltered

-- Site::new: a site that is seen as started over the carrier m, or nothing
pub record Starts {V : Type 0} (m : Meaning) (settings limit : ℕ) (initial : List V) (xs : List (Cell V)) (r : Result (Site V) Refusal) (xs' : List (Cell V)) : Type 0 where
  pub refuses : (e : Refusal) → new_refused m settings limit (length xs) (length initial) ≡ Some e → (r ≡ Err e) × (xs' ≡ xs)
  pub serves : new_refused m settings limit (length xs) (length initial) ≡ None → (s : Site V) × (r ≡ Ok s) × ((ns : List (Note V)) (us : List (Update V)) → view s ns us xs' ≡ started m settings limit initial (record { cells = length xs; notes = length ns; updates = length us }))
  pub beyond : drop (settings * m.gateways) xs' ≡ drop (settings * m.gateways) xs
