-- Every call keeps what holds of the site and its carrier.
use Rattle.std.proofs.Common.{◌≡◌, ℕ, ◌+◌, ◌<◌, ◌≤◌, Bool, cond, eqb, List, [], ◌∷◌, ◌++◌, map, length, get_or, take, set, replicate, Some, None, Option, sym, refl, ap, ◌∙◌, subst, inl, inr, arith}
use Rattle.std.proofs.lemmas.List.{length-set, length_push, length-replicate, get_or-set_same, get_or-set_other, get_or_append_left, get_or_push, get_or-replicate, get_or_past, take_all}
use Rattle.std.proofs.lemmas.Bool.{cases_Bool, cases_eq, cases_lt, eqb-true, not-false}
use Rattle.std.specs.List.{slice_get}
use Rattle.protocol.specs.declared.records.Cell.{Cell}
use Rattle.protocol.specs.declared.records.Role.TheVariants.{Follower, Leader}
use Rattle.protocol.specs.declared.records.State.TheVariants.{Open, Submitted, Abandoned}
use Rattle.protocol.specs.Paths.{bound, path, depth}
use Rattle.protocol.specs.View.{ChangeView, GatewayView, no_change, no_gateway, change_at, gateway_at, with_changes, with_change}
use Rattle.protocol.specs.Calls.{new_checks, initial_cell, started, opened, or_else, own_update, own_note, known, value_in, home_cell, with_note, with_update, submitted, with_state}
use Rattle.protocol.specs.Roles.{head}
use Rattle.protocol.specs.Certify.{updates_of, new_message}
use Rattle.protocol.proofs.PathLaws.{path_none}
use Rattle.runs.specs.Runs.{World, with_site, Start, initial_settings, begun, ServedNew, Entry, History, Reached, new, then}
use Rattle.runs.specs.Law.{Begins}
use Rattle.runs.proofs.Paths.{begins_itself, named_known, tip_after}
use Rattle.runs.proofs.Settings.{none_not_some}
use Rattle.runs.proofs.Cells.{cells_after, cells_append, shallow_cell, note_for, note_for_push}
use Rattle.runs.proofs.Served.{none_holds, Served, refuses, opens_change, reads_known, reads_cell, writes_value, submits_change, abandons_change, elects_leader, recalls_leader, decides_change, stirs_line, takes_nothing, discards_message, applies_message, looks_up, serve}
use Rattle.runs.proofs.State.{cells_at, ChangeOk, MessageOk, Inv, tip_known, keep_changes, keep_role, keep_message, keep_stirred, keep_discarded, keep_applied}

pub open_not_submitted : Open ≡ Submitted → ⊥
open_not_submitted e = let z : ◌≡◌ {A = ℕ} 0 1 = cc in omega arith

pub abandoned_not_open : Abandoned ≡ Open → ⊥
abandoned_not_open e = let z : ◌≡◌ {A = ℕ} 0 1 = cc in omega arith

pub abandoned_not_submitted : Abandoned ≡ Submitted → ⊥
abandoned_not_submitted e = let z : ◌≡◌ {A = ℕ} 0 1 = cc in omega arith

-- what holds of an element and of the default holds wherever a list of that element is read
pub at_replicate : {A : Type 0} (P : A → Type 0) (n g : ℕ) (x d : A) → P x → P d → P (get_or (replicate n x) g d)
at_replicate P n g x d px pd =
    elim (cases_lt g n) [
      | inl l ↦ subst P (sym (get_or-replicate n g x d l)) px
      | inr l ↦ subst P (sym (get_or_past (replicate n x) g d (let r = length-replicate n x in omega arith))) pd
    ]

nothing_below_zero : (l : List ℕ) → ((j : ℕ) → j < length l → get_or l j 0 < 0) → l ≡ []
nothing_below_zero [] h = refl
nothing_below_zero (n ∷ l) h = absurd (let z = h 0 (omega arith) in omega arith)

-- what a change knows of no setting, it has neither an update nor a note for
pub not_known : {V : Type 0} (u n : Option V) → or_else u n ≡ None → (u ≡ None) × (n ≡ None)
not_known None n e = (refl, e)
not_known (Some x) n e = absurd (none_not_some x (sym e))

module _ {V : Type 0} where
  kept_at_start : (b : Start V) → ServedNew b → Inv b (begun b)
  unfolding started
  kept_at_start b s =
      let m = b.carrier in
      let a = none_holds (new_checks m b.settings b.limit b.room.cells (length b.initial)) s.served in
      let c : m.count ≡ 0 = eqb-true _ _ (not-false _ a.1.1.1.1.1.0) in
      let x : GatewayView V = record { tip = None; role = Follower; cells = map initial_cell (initial_settings b) } in
      let e : m.line ≡ [] = nothing_below_zero m.line (λ j l. (let z = s.sound.line_below_count j l in omega arith)) in
      record {
        sound = s.sound;
        counted = c;
        paired = sym (length-replicate m.gateways x);
        same_settings = refl;
        enough_cells = rw (length-replicate m.gateways x) a.1.1.1.0;
        heads_known = λ g. at_replicate (λ (y : GatewayView V). bound (head y.role) ≤ 0) m.gateways g x no_gateway (omega arith) (omega arith);
        tips = λ g l. at_replicate (λ (y : GatewayView V). y.tip ≡ None) m.gateways g x no_gateway refl refl ∙ sym (ap (λ z. tip_after [] None (take (get_or m.places g 0) z)) e ∙ ap (tip_after [] None) (take_all (get_or m.places g 0) [] (omega arith)));
        cells = λ g l.
            (let r : get_or (replicate m.gateways x) g no_gateway ≡ x = get_or-replicate m.gateways g x no_gateway (let r = length-replicate m.gateways x in omega arith) in
            ap (λ (y : GatewayView V). y.cells) r ∙ sym (ap (cells_after (updates_of (begun b).site) 0 (map initial_cell (initial_settings b))) (ap (λ (y : GatewayView V). path [] y.tip) r ∙ path_none [])));
        changes = λ k l. absurd (omega arith);
        messages = λ n l. absurd (omega arith);
      }

  module _ (b : Start V) (w : World V) (i : Inv b w) where
    -- an open change in place of another
    keep_change : (k : ℕ) (c : ChangeView V) → k < length w.site.changes → (change_at w.site k).state ≡ Open → ChangeOk w.site (initial_settings b) c → Inv b (with_site w (with_change w.site k c))
    keep_change k c l st ok =
        keep_changes b w i (set w.site.changes k c)
        (λ j h s.
        (let ne : j ≡ k → ⊥ = λ q. open_not_submitted (sym st ∙ ap (λ z. (change_at w.site z).state) (sym q) ∙ s) in
        (subst (λ z. j < z) (sym (length-set w.site.changes k c)) h, get_or-set_other w.site.changes k j c no_change ne)))
        (λ j h.
        elim (cases_eq j k) [
          | inl q ↦ subst (λ z. ChangeOk w.site (initial_settings b) (get_or (set w.site.changes k c) z no_change)) (sym q) (subst (ChangeOk w.site (initial_settings b)) (sym (get_or-set_same w.site.changes k c no_change l)) ok)
          | inr q ↦ subst (ChangeOk w.site (initial_settings b)) (sym (get_or-set_other w.site.changes k j c no_change q)) (i.changes j (rw (length-set w.site.changes k c) at h))
        ])

    -- a change with the same home, opening point and notes
    same_notes : (k : ℕ) (c : ChangeView V) → k < length w.site.changes → c.home ≡ (change_at w.site k).home → c.opening ≡ (change_at w.site k).opening → c.notes ≡ (change_at w.site k).notes → ChangeOk w.site (initial_settings b) c
    same_notes k c l eh eo en =
        let r = i.changes k l in
        record {
          at_home = subst (λ z. z < length w.site.gateways) (sym eh) r.at_home;
          opening_known = subst (λ z. bound z ≤ length w.site.messages) (sym eo) r.opening_known;
          opening_applied = subst (λ z. Begins (path w.site.messages z) (path w.site.messages (gateway_at w.site c.home).tip)) (sym eo) (subst (λ z. Begins (path w.site.messages (change_at w.site k).opening) (path w.site.messages (gateway_at w.site z).tip)) (sym eh) r.opening_applied);
          notes_held = λ s x e. ap (λ z. value_in (slice_get (cells_at w.site (initial_settings b) z) s)) eo ∙ r.notes_held s x (ap (λ ns. note_for ns s) (sym en) ∙ e);
        }

    note_held : (k s : ℕ) (c : Cell V) → k < length w.site.changes → known (change_at w.site k) s ≡ None → home_cell w.site k s ≡ Some c → c.depth ≤ depth w.site.messages (change_at w.site k).opening → ChangeOk w.site (initial_settings b) (with_note (change_at w.site k) s (Some c.value))
    note_held k s c l n h d =
        let r = i.changes k l in
        let o = path w.site.messages (change_at w.site k).opening in
        let home = (change_at w.site k).home in
        let at-opening : slice_get (cells_at w.site (initial_settings b) (change_at w.site k).opening) s ≡ Some c =
        shallow_cell (updates_of w.site) (0 + length o) (cells_at w.site (initial_settings b) (change_at w.site k).opening) r.opening_applied.0 s c
        (ap (λ z. slice_get z s) (sym (cells_append (updates_of w.site) 0 (map initial_cell (initial_settings b)) o r.opening_applied.0) ∙ ap (cells_after (updates_of w.site) 0 (map initial_cell (initial_settings b))) (sym r.opening_applied.1) ∙ sym (i.cells home r.at_home)) ∙ h)
        (omega arith) in
        record {
          at_home = r.at_home;
          opening_known = r.opening_known;
          opening_applied = r.opening_applied;
          notes_held = λ t x e.
              (let f : cond (eqb s t) (Some c.value) (own_note (change_at w.site k) t) ≡ Some x = sym (note_for_push (change_at w.site k).notes s t c.value (not_known (own_update (change_at w.site k) s) (own_note (change_at w.site k) s) n).1) ∙ e in
              elim (cases_Bool (eqb s t)) [
                | inl y ↦ ap (λ z. value_in (slice_get (cells_at w.site (initial_settings b) (change_at w.site k).opening) z)) (sym (eqb-true s t y)) ∙ ap value_in at-opening ∙ rw y at f
                | inr y ↦ r.notes_held t x (rw y at f)
              ]);
        }

    keep_open : (g : ℕ) → g < length w.site.gateways → Inv b (with_site w (with_changes w.site (w.site.changes ++ (opened w.site g ∷ []))))
    keep_open g l =
        let cs = w.site.changes in
        let longer = length_push cs (opened w.site g) in
        keep_changes b w i (cs ++ (opened w.site g ∷ []))
        (λ k h s. (omega arith, get_or_append_left cs (opened w.site g ∷ []) no_change k h))
        (λ k h.
        elim (cases_lt k (length cs)) [
          | inl y ↦ subst (ChangeOk w.site (initial_settings b)) (sym (get_or_append_left cs (opened w.site g ∷ []) no_change k y)) (i.changes k y)
          | inr y ↦
              subst (ChangeOk w.site (initial_settings b)) (sym (get_or_push cs (opened w.site g) no_change k (omega arith)))
              (record { at_home = l; opening_known = tip_known b w i g l; opening_applied = begins_itself (path w.site.messages (gateway_at w.site g).tip); notes_held = λ s x e. absurd (none_not_some x e) })
        ])

  keep_served : (b : Start V) (alike : V → V → Bool) (w : World V) {e : Entry V} {w' : World V} → Inv b w → Served alike w e w' → Inv b w'
  keep_served b alike w i (refuses e r) = i
  keep_served b alike w i (opens_change g l) = keep_open b w i g l
  keep_served b alike w i (reads_known k s x l st e) = i
  keep_served b alike w i (reads_cell k s c l st n h d) = keep_change b w i k (with_note (change_at w.site k) s (Some c.value)) l st (note_held b w i k s c l n h d)
  keep_served b alike w i (writes_value k s x l st) = keep_change b w i k (with_update (change_at w.site k) s x) l st (same_notes b w i k (with_update (change_at w.site k) s x) l refl refl refl)
  keep_served b alike w i (submits_change k n l st) = keep_change b w i k (submitted alike (change_at w.site k)) l st (same_notes b w i k (submitted alike (change_at w.site k)) l refl refl refl)
  keep_served b alike w i (abandons_change k l st) = keep_change b w i k (with_state (change_at w.site k) Abandoned) l st (same_notes b w i k (with_state (change_at w.site k) Abandoned) l refl refl refl)
  keep_served b alike w i (elects_leader g named l k p) = keep_role b w i g (Leader (or_else named (gateway_at w.site g).tip)) l (named_known named (gateway_at w.site g).tip (length w.site.messages) k (tip_known b w i g l))
  keep_served b alike w i (recalls_leader g l ld) = keep_role b w i g Follower l (omega arith)
  keep_served b alike w i (decides_change g k lg lk ld st nd between eb eo) =
      let x = new_message w.site g k in
      let ok : MessageOk w.site x.precedent x = record { behind_precedent = refl; change = change_at w.site k; change_known = lk; found = refl; submitted = st; not_decided = nd; between = between; behind_opening = eb; right_outcome = eo } in
      let next = keep_message b w i x (i.heads_known g) ok in
      keep_role b _ next g (Leader (Some (length w.site.messages))) lg (let n = length_push w.site.messages x in omega arith)
  keep_served b alike w i (stirs_line x m joined st so) = keep_stirred b w i m joined st so
  keep_served b alike w i (takes_nothing g) = i
  keep_served b alike w i (discards_message g n l h e f) = keep_discarded b w i g n l h e f
  keep_served b alike w i (applies_message g n l h e t) = keep_applied b w i g n l h e t
  keep_served b alike w i (looks_up g s x) = i

  pub kept : (b : Start V) (alike : V → V → Bool) {h : History V} {w : World V} → Reached alike b h w → Inv b w
  kept b alike (new s) = kept_at_start b s
  kept b alike (then {w = w} r s) = keep_served b alike w (kept b alike r) (serve alike w s)
