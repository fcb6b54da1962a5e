-- Each call's table of refusals gives what the code asks.
use Rattle.std.proofs.Common.{◌≡◌, ℕ, ◌*◌, false, not, ◌||◌, eqb, ltb, leb, List, [], ◌∷◌, ◌++◌, length, refl, ap, ◌∙◌}
use Rattle.std.proofs.lemmas.Bool.{leb-false}
use Rattle.base.specs.declared.refusal.Refusal.TheVariants.{Full}
use Rattle.base.specs.Refusals.{Checks, first}
use Rattle.carrier.specs.Meaning.{Meaning}
use Rattle.protocol.specs.declared.records.Note.{Note}
use Rattle.protocol.specs.declared.records.Update.{Update}
use Rattle.protocol.specs.declared.records.Cell.{Cell}
use Rattle.protocol.specs.Calls.{or_else, known, not_open, with_update, open_checks, open_refused, read_checks, read_refused, write_checks, write_refused, submit_checks, submit_refused, abandon_checks, abandon_refused, stir_checks, stir_refused, look_checks, look_refused}
use Rattle.protocol.specs.Paths.{depth}
use Rattle.protocol.specs.View.{ChangeView, change_at, cell_at, is_open}
use Rattle.site.specs.declared.site.Site.{Site}
use Rattle.site.specs.Checks.{asked_late, asked_open, may_open, asked_read, may_read, asked_write, may_write, asked_submit, may_submit, asked_abandon, may_abandon, asked_stir, may_stir, asked_look, may_look}
use Rattle.site.specs.Tables.{view, change_count, message_count, record_of}
use Rattle.site.proofs.CallLaws.{first_agree, first_append}
use Rattle.site.proofs.ViewLaws.{messages_count, changes_count, gateways_count, change_is}

module _ {V : Type 0} (s : Site V) (ns : List (Note V)) (us : List (Update V)) (xs : List (Cell V)) where
  -- whether the change is open
  state_is : (k : ℕ) → leb (change_count s) k ≡ false → not_open (view s ns us xs) k ≡ not (is_open (record_of s k).state)
  state_is k h = ap (λ c. not (is_open c.state)) (change_is s ns us xs k (leb-false _ _ h))

  pub open_asked : (g : ℕ) → open_refused (view s ns us xs) g ≡ may_open s g
  unfolding view open_refused
  open_asked g = first_agree (open_checks (view s ns us xs) g) (asked_open s g) (ap (λ n. leb n g) (gateways_count s ns us xs), refl, λ _. (ap (λ n. leb s.limit n) (changes_count s ns us xs), refl, λ _. tt))

  pub abandon_asked : (k : ℕ) → abandon_refused (view s ns us xs) k ≡ may_abandon s k
  unfolding view abandon_refused
  abandon_asked k = first_agree (abandon_checks (view s ns us xs) k) (asked_abandon s k) (ap (λ n. leb n k) (changes_count s ns us xs), refl, λ h. (state_is k h, refl, λ _. tt))

  pub stir_asked : (m : Meaning) → stir_refused (view s ns us xs) m ≡ may_stir s m.count m.gateways
  unfolding view stir_refused
  stir_asked m =
      first_agree (stir_checks (view s ns us xs) m) (asked_stir s m.count m.gateways)
      (ap (λ n. not (eqb m.count n) || not (eqb m.gateways (length (view s ns us xs).gateways))) (messages_count s ns us xs) ∙ ap (λ n. not (eqb m.count (message_count s)) || not (eqb m.gateways n)) (gateways_count s ns us xs), refl, λ _. tt)

  pub look_asked : (g st : ℕ) → look_refused (view s ns us xs) g st ≡ may_look s (length xs) g st
  unfolding view look_refused
  look_asked g st =
      first_agree (look_checks (view s ns us xs) g st) (asked_look s (length xs) g st)
      (ap (λ n. ltb (length xs) (s.settings * n)) (gateways_count s ns us xs), refl, λ _. (ap (λ n. leb n g) (gateways_count s ns us xs), refl, λ _. (refl, refl, λ _. tt)))

  pub write_asked : (k st : ℕ) (x : V) → write_refused (view s ns us xs) k st x ≡ or_else (may_write s (length us) k st) (first ((ltb 8 (length (with_update (change_at (view s ns us xs) k) st x).updates), Full) ∷ []))
  unfolding view write_refused
  write_asked k st x =
      let late : Checks = (ltb 8 (length (with_update (change_at (view s ns us xs) k) st x).updates), Full) ∷ [] in
      first_agree (write_checks (view s ns us xs) k st x) (asked_write s (length us) k st ++ late)
      (refl, refl, λ _. (ap (λ n. leb n k) (changes_count s ns us xs), refl, λ h. (refl, refl, λ _. (state_is k h, refl, λ _. (refl, refl, λ _. tt)))))
      ∙ first_append (asked_write s (length us) k st) late

  pub submit_asked : (k : ℕ) → submit_refused (view s ns us xs) k ≡ may_submit s (length ns) (length us) k
  unfolding view submit_refused
  submit_asked k =
      first_agree (submit_checks (view s ns us xs) k) (asked_submit s (length ns) (length us) k)
      (refl, refl, λ _. (refl, refl, λ _. (ap (λ n. leb n k) (changes_count s ns us xs), refl, λ h. (state_is k h, refl, λ _. tt))))

  -- what is asked of a change, as it is seen, where only the home cell can answer
  abbrev pub asked_home : ChangeView V → ℕ → Checks
  asked_home c st = asked_late (known c st) (depth (view s ns us xs).messages c.opening) (cell_at (view s ns us xs) c.home st) (length c.notes)

  pub read_asked : (k st : ℕ) → read_refused (view s ns us xs) k st ≡ or_else (may_read s (length xs) (length ns) (length us) k st) (first (asked_home (change_at (view s ns us xs) k) st))
  unfolding view read_refused
  read_asked k st =
      first_agree (read_checks (view s ns us xs) k st) (asked_read s (length xs) (length ns) (length us) k st ++ asked_home (change_at (view s ns us xs) k) st)
      (ap (λ n. ltb (length xs) (s.settings * n)) (gateways_count s ns us xs), refl, λ _. (refl, refl, λ _. (refl, refl, λ _. (ap (λ n. leb n k) (changes_count s ns us xs), refl, λ h. (refl, refl, λ _. (state_is k h, refl, λ _. (refl, refl, λ _. (refl, refl, λ _. tt))))))))
      ∙ first_append (asked_read s (length xs) (length ns) (length us) k st) (asked_home (change_at (view s ns us xs) k) st)
