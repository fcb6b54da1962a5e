-- What a history says, against what the site holds.
use Rattle.std.proofs.Common.{◌≡◌, ℕ, ◌<◌, ◌≤◌, Bool, true, false, not, ◌&&◌, eqb, List, [], ◌∷◌, ◌++◌, length, Some, None, Ok, Option, sym, refl, ap, ◌∙◌, subst, ap₂, inl, inr, arith}
use Rattle.std.proofs.lemmas.List.{append-nil, length-set, length_push, get_or_append_left, get_or_push, get_or_past, flat_map_more}
use Rattle.std.proofs.lemmas.Bool.{cases_Bool, cases_lt, eq-eqb, ne_eqb, eqb-true, and_from, and_left, and_right, and_parts, cond-true, cond-false}
use Rattle.std.specs.List.{flat_map}
use Rattle.protocol.specs.declared.answers.Delivery.{Delivery}
use Rattle.protocol.specs.declared.answers.Delivery.TheVariants.{Nothing, Discard}
use Rattle.protocol.specs.declared.records.Message.{Message}
use Rattle.protocol.specs.declared.records.Outcome.{Outcome}
use Rattle.protocol.specs.declared.records.Outcome.TheVariants.{Commit, Abort}
use Rattle.protocol.specs.declared.records.Role.{Role}
use Rattle.protocol.specs.declared.records.Role.TheVariants.{Follower, Leader}
use Rattle.protocol.specs.declared.records.State.TheVariants.{Open, Submitted, Abandoned}
use Rattle.protocol.specs.Paths.{no_message, bound, path}
use Rattle.protocol.specs.View.{View, ChangeView, GatewayView, no_change, no_gateway, change_at, gateway_at, with_changes, with_change}
use Rattle.protocol.specs.Calls.{opened, or_else, is_none, own_update, own_note, started, with_note, with_update, submitted, with_state}
use Rattle.protocol.specs.Roles.{with_role, with_gateway}
use Rattle.protocol.specs.Certify.{message_at, new_message, outcome_of, with_message}
use Rattle.protocol.specs.Deliver.{report, is_home, advanced}
use Rattle.protocol.proofs.PathLaws.{path_none}
use Rattle.runs.specs.Runs.{World, Start, begun, Entry, opens, reads, writes, submits, abandons, elects, recalls, certifies, stirs, delivers, looks, History, Reached, new, then}
use Rattle.runs.specs.Words.{when, first_said, last_said, applied_message, applied_in, applied, Decision, decision_in, decision, read_in, write_in, last_write, note_from, note, unrepeated, wrote, submit_in, was_submitted, home_in, home, before_opening, applied_at, opening}
use Rattle.runs.proofs.Paths.{path_extends}
use Rattle.runs.proofs.Settings.{none_not_some, none_or_some}
use Rattle.runs.proofs.Cells.{note_for_push, Distinct, update_for_put_in, distinct_put_in, update_left, distinct_left}
use Rattle.runs.proofs.Served.{Refused, Served, refuses, opens_change, reads_known, reads_cell, writes_value, submits_change, abandons_change, elects_leader, recalls_leader, decides_change, stirs_line, takes_nothing, discards_message, applies_message, looks_up, serve}
use Rattle.runs.proofs.State.{each_after_set, Inv, tip_known, path_next}
use Rattle.runs.proofs.Kept.{open_not_submitted, abandoned_not_open, abandoned_not_submitted, at_replicate, not_known, kept}

or_else_none : {A : Type 0} (o : Option A) → or_else o None ≡ o
or_else_none None = refl
or_else_none (Some a) = refl

or_else_again : {A : Type 0} (a b c : Option A) → or_else a (or_else b c) ≡ or_else (or_else a b) c
or_else_again None b c = refl
or_else_again (Some a) b c = refl

or_else_there : {A : Type 0} (o c : Option A) (a : A) → o ≡ Some a → or_else o c ≡ o
or_else_there None c a e = absurd (none_not_some a e)
or_else_there (Some b) c a e = refl

pub when_none : {A : Type 0} (t : Bool) → when {A = A} t None ≡ None
when_none true = refl
when_none false = refl

-- an applied message is reported with its number
pub reported : (o : Outcome) (t : Bool) (n : ℕ) → applied_message (Some (report o t n)) ≡ n ∷ []
reported Commit t n = refl
reported Abort true n = refl
reported Abort false n = refl

-- a history with one entry more

module _ {V : Type 0} where
  pub first_said_push : {A : Type 0} (f : Entry V → Option A) (h : History V) (e : Entry V) → first_said f (h ++ (e ∷ [])) ≡ or_else (first_said f h) (f e)
  first_said_push f [] e = or_else_none (f e)
  first_said_push f (x ∷ h) e = ap (or_else (f x)) (first_said_push f h e) ∙ or_else_again (f x) (first_said f h) (f e)

  last_said_push : {A : Type 0} (f : Entry V → Option A) (h : History V) (e : Entry V) → last_said f (h ++ (e ∷ [])) ≡ or_else (f e) (last_said f h)
  last_said_push f [] e = sym (or_else_none (f e))
  last_said_push f (x ∷ h) e = ap (λ z. or_else z (f x)) (last_said_push f h e) ∙ sym (or_else_again (f e) (last_said f h) (f x))

  pub applied_push : (h : History V) (e : Entry V) (g : ℕ) → applied (h ++ (e ∷ [])) g ≡ applied h g ++ applied_in g e
  applied_push h e g = sym (flat_map_more (applied_in g) [] h e)

  note_from_again : (r w n l o : Option V) → note_from r w (note_from n l o) ≡ note_from (note_from r w n) (or_else l w) o
  note_from_again (Some x) w n l o = refl
  note_from_again None (Some y) n None o = refl
  note_from_again None (Some y) n (Some z) o = refl
  note_from_again None None n l o = ap (λ z. note_from n z o) (sym (or_else_none l))

  note_push : (h : History V) (e : Entry V) (k s : ℕ) → note (h ++ (e ∷ [])) k s ≡ note_from (note h k s) (last_write h k s) (note_from (read_in k s e) (write_in k s e) None)
  note_push [] e k s = refl
  note_push (x ∷ h) e k s =
      ap (note_from (read_in k s x) (write_in k s x)) (note_push h e k s)
      ∙ note_from_again (read_in k s x) (write_in k s x) (note h k s) (last_write h k s) (note_from (read_in k s e) (write_in k s e) None)

  -- a later entry does not alter what came before an opening
  before_opened : (h : History V) (e : Entry V) (k g : ℕ) → home h k ≡ Some g → before_opening (h ++ (e ∷ [])) k ≡ before_opening h k
  before_opened [] e k g q = absurd (none_not_some g q)
  before_opened (x ∷ h) e k g q =
      elim (none_or_some (home_in k x)) [
        | inl y ↦ rw y (ap (λ z. x ∷ z) (before_opened h e k g (rw y at q)))
        | inr y ↦ rw y.1
      ]

  before_first : (h : History V) (e : Entry V) (k g : ℕ) → home h k ≡ None → home_in k e ≡ Some g → before_opening (h ++ (e ∷ [])) k ≡ h
  before_first [] e k g q o = rw o
  before_first (x ∷ h) e k g q o =
      elim (none_or_some (home_in k x)) [
        | inl y ↦ rw y (ap (λ z. x ∷ z) (before_first h e k g (rw y at q) o))
        | inr y ↦ absurd (none_not_some y.0 (sym (rw y.1 at q)))
      ]

  opening_stays : (h : History V) (e : Entry V) (k g : ℕ) → home h k ≡ Some g → opening (h ++ (e ∷ [])) k ≡ opening h k
  opening_stays h e k g q =
      ap₂ applied_at (before_opened h e k g q) (first_said_push (home_in k) h e ∙ or_else_there (home h k) (home_in k e) g q)

  submitted_stays : (h : History V) (e : Entry V) (k : ℕ) → was_submitted h k ≡ true → was_submitted (h ++ (e ∷ [])) k ≡ true
  submitted_stays h e k q =
      elim (none_or_some (first_said (submit_in k) h)) [
        | inl y ↦ absurd (false_not_true (ap (λ o. not (is_none o)) (sym y) ∙ q))
        | inr y ↦ ap (λ o. not (is_none o)) (first_said_push (submit_in k) h e ∙ or_else_there (first_said (submit_in k) h) (submit_in k e) y.0 y.1) ∙ q
      ]
    where
      false_not_true : false ≡ true → ⊥
      false_not_true x = let z : ◌≡◌ {A = ℕ} 0 1 = cc in omega arith

  -- an entry that says nothing
  pub record Silent (e : Entry V) : Type 0 where
    pub no_applied : (g : ℕ) → applied_in g e ≡ []
    pub no_decision : (n : ℕ) → decision_in n e ≡ None
    pub no_read : (k s : ℕ) → read_in k s e ≡ None
    pub no_write : (k s : ℕ) → write_in k s e ≡ None
    pub no_home : (k : ℕ) → home_in k e ≡ None

  pub silent_refused : (e : Entry V) → Refused e → Silent e
  silent_refused (opens g r) (x, q) = record { no_applied = λ _. refl; no_decision = λ _. refl; no_read = λ _ _. refl; no_write = λ _ _. refl; no_home = λ k. rw q }
  silent_refused (reads k s r) (x, q) = record { no_applied = λ _. refl; no_decision = λ _. refl; no_read = λ j t. rw q (when_none (eqb k j && eqb s t)); no_write = λ _ _. refl; no_home = λ _. refl }
  silent_refused (writes k s y r) (x, q) = record { no_applied = λ _. refl; no_decision = λ _. refl; no_read = λ _ _. refl; no_write = λ j t. rw q (when_none (eqb k j && eqb s t)); no_home = λ _. refl }
  silent_refused (submits k r) (x, q) = record { no_applied = λ _. refl; no_decision = λ _. refl; no_read = λ _ _. refl; no_write = λ _ _. refl; no_home = λ _. refl }
  silent_refused (abandons k r) (x, q) = record { no_applied = λ _. refl; no_decision = λ _. refl; no_read = λ _ _. refl; no_write = λ _ _. refl; no_home = λ _. refl }
  silent_refused (elects g m r) (x, q) = record { no_applied = λ _. refl; no_decision = λ _. refl; no_read = λ _ _. refl; no_write = λ _ _. refl; no_home = λ _. refl }
  silent_refused (recalls g r) (x, q) = record { no_applied = λ _. refl; no_decision = λ _. refl; no_read = λ _ _. refl; no_write = λ _ _. refl; no_home = λ _. refl }
  silent_refused (certifies g k r) (x, q) = record { no_applied = λ _. refl; no_decision = λ n. rw q; no_read = λ _ _. refl; no_write = λ _ _. refl; no_home = λ _. refl }
  silent_refused (stirs y r) (x, q) = record { no_applied = λ _. refl; no_decision = λ _. refl; no_read = λ _ _. refl; no_write = λ _ _. refl; no_home = λ _. refl }
  silent_refused (delivers g r) (x, q) = record { no_applied = λ j. rw q (ap applied_message (when_none (eqb g j))); no_decision = λ _. refl; no_read = λ _ _. refl; no_write = λ _ _. refl; no_home = λ _. refl }
  silent_refused (looks g s r) (x, q) = record { no_applied = λ _. refl; no_decision = λ _. refl; no_read = λ _ _. refl; no_write = λ _ _. refl; no_home = λ _. refl }

  pub silent_delivery : (g : ℕ) (d : Delivery) → applied_message (Some d) ≡ [] → Silent (delivers g (Ok d))
  silent_delivery g d q = record { no_applied = λ j. quiet (eqb g j); no_decision = λ _. refl; no_read = λ _ _. refl; no_write = λ _ _. refl; no_home = λ _. refl }
    where
      quiet : (t : Bool) → applied_message (when t (Some d)) ≡ []
      quiet true = q
      quiet false = refl

  -- reads and writes that an entry does not have
  note_unaltered : (h : History V) (e : Entry V) (k s : ℕ) → read_in k s e ≡ None → write_in k s e ≡ None → note (h ++ (e ∷ [])) k s ≡ note h k s
  note_unaltered h e k s r w = note_push h e k s ∙ ap₂ (λ a b. note_from (note h k s) (last_write h k s) (note_from a b None)) r w ∙ nothing (note h k s) (last_write h k s)
    where
      nothing : (n l : Option V) → note_from n l None ≡ n
      nothing (Some x) l = refl
      nothing None (Some y) = refl
      nothing None None = refl

  write_unaltered : (h : History V) (e : Entry V) (k s : ℕ) → write_in k s e ≡ None → last_write (h ++ (e ∷ [])) k s ≡ last_write h k s
  write_unaltered h e k s w = last_said_push (write_in k s) h e ∙ ap (λ z. or_else z (last_write h k s)) w

  -- a read of what the change knows adds no note
  note_known : (n l : Option V) (x : V) (later : Option V) → or_else l n ≡ Some x → note_from n l later ≡ n
  note_known None None x later e = absurd (none_not_some x e)
  note_known None (Some y) x later e = refl
  note_known (Some y) l x later e = refl

  module _ (alike : V → V → Bool) where
    pub record ChangeSaid (h : History V) (ms : List Message) (k : ℕ) (c : ChangeView V) : Type 0 where
      pub home_said : home h k ≡ Some c.home
      pub opening_said : opening h k ≡ path ms c.opening
      pub notes_said : (s : ℕ) → note h k s ≡ own_note c s
      pub writes_said : c.state ≡ Open → (s : ℕ) → last_write h k s ≡ own_update c s
      pub distinct : Distinct c.updates
      pub left_said : c.state ≡ Submitted → (s : ℕ) → own_update c s ≡ wrote alike h k s
      pub sent_said : c.state ≡ Submitted → was_submitted h k ≡ true

    pub record UnusedSaid (h : History V) (k : ℕ) : Type 0 where
      pub no_home : home h k ≡ None
      pub no_notes : (s : ℕ) → note h k s ≡ None
      pub no_writes : (s : ℕ) → last_write h k s ≡ None

    pub record Said (h : History V) (v : View V) : Type 0 where
      pub applied_said : (g : ℕ) → applied h g ≡ path v.messages (gateway_at v g).tip
      pub decided_said : (n : ℕ) → n < length v.messages → decision h n ≡ Some (record { change = (message_at v n).change; outcome = (message_at v n).outcome })
      pub undecided_said : (n : ℕ) → length v.messages ≤ n → decision h n ≡ None
      pub changes_said : (k : ℕ) → k < length v.changes → ChangeSaid h v.messages k (change_at v k)
      pub unused_said : (k : ℕ) → length v.changes ≤ k → UnusedSaid h k

    change_kept : (h : History V) (e : Entry V) (ms ms' : List Message) (k : ℕ) (c : ChangeView V) → ((s : ℕ) → note (h ++ (e ∷ [])) k s ≡ note h k s) → ((s : ℕ) → last_write (h ++ (e ∷ [])) k s ≡ last_write h k s) → path ms' c.opening ≡ path ms c.opening → ChangeSaid h ms k c → ChangeSaid (h ++ (e ∷ [])) ms' k c
    change_kept h e ms ms' k c en ew eo r =
        record {
          home_said = first_said_push (home_in k) h e ∙ or_else_there (home h k) (home_in k e) c.home r.home_said ∙ r.home_said;
          opening_said = opening_stays h e k c.home r.home_said ∙ r.opening_said ∙ sym eo;
          notes_said = λ s. en s ∙ r.notes_said s;
          writes_said = λ o s. ew s ∙ r.writes_said o s;
          distinct = r.distinct;
          left_said = λ o s. r.left_said o s ∙ sym (ap₂ (unrepeated alike) (en s) (ew s));
          sent_said = λ o. submitted_stays h e k (r.sent_said o);
        }

    unused_kept : (h : History V) (e : Entry V) (k : ℕ) → home_in k e ≡ None → ((s : ℕ) → note (h ++ (e ∷ [])) k s ≡ note h k s) → ((s : ℕ) → last_write (h ++ (e ∷ [])) k s ≡ last_write h k s) → UnusedSaid h k → UnusedSaid (h ++ (e ∷ [])) k
    unused_kept h e k eh en ew r =
        record {
          no_home = first_said_push (home_in k) h e ∙ ap₂ or_else r.no_home eh;
          no_notes = λ s. en s ∙ r.no_notes s;
          no_writes = λ s. ew s ∙ r.no_writes s;
        }

    decision_kept : (h : History V) (e : Entry V) (n : ℕ) → decision_in n e ≡ None → decision (h ++ (e ∷ [])) n ≡ decision h n
    decision_kept h e n q = first_said_push (decision_in n) h e ∙ ap (or_else (decision h n)) q ∙ or_else_none (decision h n)

    said_silent : (h : History V) (e : Entry V) (v : View V) → Silent e → Said h v → Said (h ++ (e ∷ [])) v
    said_silent h e v q r =
        let en : (k s : ℕ) → note (h ++ (e ∷ [])) k s ≡ note h k s = λ k s. note_unaltered h e k s (q.no_read k s) (q.no_write k s) in
        let ew : (k s : ℕ) → last_write (h ++ (e ∷ [])) k s ≡ last_write h k s = λ k s. write_unaltered h e k s (q.no_write k s) in
        record {
          applied_said = λ g. applied_push h e g ∙ ap (λ z. applied h g ++ z) (q.no_applied g) ∙ append-nil (applied h g) ∙ r.applied_said g;
          decided_said = λ n l. decision_kept h e n (q.no_decision n) ∙ r.decided_said n l;
          undecided_said = λ n l. decision_kept h e n (q.no_decision n) ∙ r.undecided_said n l;
          changes_said = λ k l. change_kept h e v.messages v.messages k (change_at v k) (en k) (ew k) refl (r.changes_said k l);
          unused_said = λ k l. unused_kept h e k (q.no_home k) (en k) (ew k) (r.unused_said k l);
        }

    -- another role leaves what the history speaks of as it is
    said_role : (h : History V) (v : View V) (g : ℕ) (x : Role) → g < length v.gateways → Said h v → Said h (with_role v g x)
    said_role h v g x l r =
        record {
          applied_said = each_after_set v.gateways g (record { tip = (gateway_at v g).tip; role = x; cells = (gateway_at v g).cells }) no_gateway (λ j y. applied h j ≡ path v.messages y.tip) l (r.applied_said g) (λ j q. r.applied_said j);
          decided_said = r.decided_said;
          undecided_said = r.undecided_said;
          changes_said = r.changes_said;
          unused_said = r.unused_said;
        }

    -- change k is another, by an entry that speaks of no other change
    said_change : (h : History V) (e : Entry V) (v : View V) (k : ℕ) (c : ChangeView V) → k < length v.changes → ((g : ℕ) → applied_in g e ≡ []) → ((n : ℕ) → decision_in n e ≡ None) → ((j : ℕ) → home_in j e ≡ None)
        → ((j s : ℕ) → (j ≡ k → ⊥) → (read_in j s e ≡ None) × (write_in j s e ≡ None)) → ChangeSaid (h ++ (e ∷ [])) v.messages k c → Said h v → Said (h ++ (e ∷ [])) (with_change v k c)
    said_change h e v k c l qa qd qh qo here r =
        let en : (j : ℕ) → (j ≡ k → ⊥) → (s : ℕ) → note (h ++ (e ∷ [])) j s ≡ note h j s = λ j ne s. (let q = qo j s ne in note_unaltered h e j s q.0 q.1) in
        let ew : (j : ℕ) → (j ≡ k → ⊥) → (s : ℕ) → last_write (h ++ (e ∷ [])) j s ≡ last_write h j s = λ j ne s. write_unaltered h e j s (qo j s ne).1 in
        let same = length-set v.changes k c in
        record {
          applied_said = λ g. applied_push h e g ∙ ap (λ z. applied h g ++ z) (qa g) ∙ append-nil (applied h g) ∙ r.applied_said g;
          decided_said = λ n b. decision_kept h e n (qd n) ∙ r.decided_said n b;
          undecided_said = λ n b. decision_kept h e n (qd n) ∙ r.undecided_said n b;
          changes_said = λ j b.
              each_after_set v.changes k c no_change (λ j x. j < length v.changes → ChangeSaid (h ++ (e ∷ [])) v.messages j x) l (λ _. here)
              (λ j ne b. change_kept h e v.messages v.messages j (change_at v j) (en j ne) (ew j ne) refl (r.changes_said j b)) j (rw same at b);
          unused_said = λ j b.
              (let b' : length v.changes ≤ j = rw same at b in
              let ne : j ≡ k → ⊥ = λ q. omega arith in
              unused_kept h e j (qh j) (en j ne) (ew j ne) (r.unused_said j b'));
        }

    other_key : (k j s t : ℕ) → (j ≡ k → ⊥) → (eqb k j && eqb s t) ≡ false
    other_key k j s t ne = and_left (eqb k j) (eqb s t) (ne_eqb k j (λ q. ne (sym q)))

    -- new
    said_at_start : (b : Start V) → Said [] (begun b).site
    unfolding started
    said_at_start b =
        record {
          applied_said = λ g. sym (ap (λ o. path [] o) (at_replicate (λ (y : GatewayView V). y.tip ≡ None) b.carrier.gateways g _ no_gateway refl refl) ∙ path_none []);
          decided_said = λ n l. absurd (omega arith);
          undecided_said = λ n l. refl;
          changes_said = λ k l. absurd (omega arith);
          unused_said = λ k l. record { no_home = refl; no_notes = λ s. refl; no_writes = λ s. refl };
        }

    -- open
    said_open : (h : History V) (v : View V) (g : ℕ) → Said h v → Said (h ++ (opens g (Ok (length v.changes)) ∷ [])) (with_changes v (v.changes ++ (opened v g ∷ [])))
    said_open h v g r =
        let e : Entry V = opens g (Ok (length v.changes)) in
        let cs = v.changes in
        let longer = length_push cs (opened v g) in
        let en : (k s : ℕ) → note (h ++ (e ∷ [])) k s ≡ note h k s = λ k s. note_unaltered h e k s refl refl in
        let ew : (k s : ℕ) → last_write (h ++ (e ∷ [])) k s ≡ last_write h k s = λ k s. write_unaltered h e k s refl in
        record {
          applied_said = λ j. applied_push h e j ∙ append-nil (applied h j) ∙ r.applied_said j;
          decided_said = λ n l. decision_kept h e n refl ∙ r.decided_said n l;
          undecided_said = λ n l. decision_kept h e n refl ∙ r.undecided_said n l;
          changes_said = λ k l.
              elim (cases_lt k (length cs)) [
                | inl y ↦ subst (ChangeSaid (h ++ (e ∷ [])) v.messages k) (sym (get_or_append_left cs (opened v g ∷ []) no_change k y)) (change_kept h e v.messages v.messages k (change_at v k) (en k) (ew k) refl (r.changes_said k y))
                | inr y ↦
                    (let q : k ≡ length cs = omega arith in
                    let u = r.unused_said k y in
                    let at_home : home_in k e ≡ Some g = rw (eq-eqb (length cs) k (sym q)) in
                    let hs : home (h ++ (e ∷ [])) k ≡ Some g = first_said_push (home_in k) h e ∙ ap₂ or_else u.no_home at_home in
                    subst (ChangeSaid (h ++ (e ∷ [])) v.messages k) (sym (get_or_push cs (opened v g) no_change k (sym q)))
                    (record {
                      home_said = hs;
                      opening_said = ap₂ applied_at (before_first h e k g u.no_home at_home) hs ∙ r.applied_said g;
                      notes_said = λ s. en k s ∙ u.no_notes s;
                      writes_said = λ o s. ew k s ∙ u.no_writes s;
                      distinct = tt;
                      left_said = λ o s. absurd (open_not_submitted o);
                      sent_said = λ o. absurd (open_not_submitted o);
                    }))
              ];
          unused_said = λ k l. unused_kept h e k (rw (ne_eqb (length cs) k (λ q. omega arith))) (en k) (ew k) (r.unused_said k (omega arith));
        }

    -- a read that adds no note
    said_read : (h : History V) (v : View V) (k s : ℕ) (x : V) → note_from (note h k s) (last_write h k s) (Some x) ≡ note h k s → Said h v → Said (h ++ (reads k s (Ok x) ∷ [])) v
    said_read h v k s x q r =
        let e : Entry V = reads k s (Ok x) in
        let en : (j t : ℕ) → note (h ++ (e ∷ [])) j t ≡ note h j t = λ j t.
        elim (cases_Bool (eqb k j && eqb s t)) [
          | inl y ↦
              (let p = and_parts (eqb k j) (eqb s t) y in
              note_push h e j t ∙ ap (λ z. note_from (note h j t) (last_write h j t) (note_from (when z (Some x)) None None)) y
              ∙ subst (λ z. note_from (note h z t) (last_write h z t) (Some x) ≡ note h z t) (eqb-true k j p.0) (subst (λ z. note_from (note h k z) (last_write h k z) (Some x) ≡ note h k z) (eqb-true s t p.1) q))
          | inr f ↦ note_unaltered h e j t (rw f) refl
        ] in
        let ew : (j t : ℕ) → last_write (h ++ (e ∷ [])) j t ≡ last_write h j t = λ j t. write_unaltered h e j t refl in
        record {
          applied_said = λ g. applied_push h e g ∙ append-nil (applied h g) ∙ r.applied_said g;
          decided_said = λ n l. decision_kept h e n refl ∙ r.decided_said n l;
          undecided_said = λ n l. decision_kept h e n refl ∙ r.undecided_said n l;
          changes_said = λ j l. change_kept h e v.messages v.messages j (change_at v j) (en j) (ew j) refl (r.changes_said j l);
          unused_said = λ j l. unused_kept h e j refl (en j) (ew j) (r.unused_said j l);
        }

    -- certify
    said_decided : (h : History V) (v : View V) (g k : ℕ) → ((j : ℕ) → bound (gateway_at v j).tip ≤ length v.messages) → ((j : ℕ) → j < length v.changes → bound (change_at v j).opening ≤ length v.messages) → Said h v
        → Said (h ++ (certifies g k (Ok (record { number = length v.messages; outcome = outcome_of v g k })) ∷ [])) (with_message v (new_message v g k))
    said_decided h v g k tips openings r =
        let e : Entry V = certifies g k (Ok (record { number = length v.messages; outcome = outcome_of v g k })) in
        let ms = v.messages in
        let x = new_message v g k in
        let longer = length_push ms x in
        record {
          applied_said = λ j. applied_push h e j ∙ append-nil (applied h j) ∙ r.applied_said j ∙ sym (path_extends ms (x ∷ []) (gateway_at v j).tip (tips j));
          decided_said = λ n l.
              elim (cases_lt n (length ms)) [
                | inl y ↦
                    decision_kept h e n (rw (ne_eqb (length ms) n (λ q. omega arith))) ∙ r.decided_said n y
                    ∙ ap (λ (z : Message). Some (said z)) (sym (get_or_append_left ms (x ∷ []) no_message n y))
                | inr y ↦
                    (let q : length ms ≡ n = omega arith in
                    first_said_push (decision_in n) h e ∙ ap₂ or_else (r.undecided_said n y) (ap (λ z. when z (Some (said x))) (eq-eqb (length ms) n q))
                    ∙ ap (λ (z : Message). Some (said z)) (sym (get_or_push ms x no_message n q)))
              ];
          undecided_said = λ n l. decision_kept h e n (rw (ne_eqb (length ms) n (λ q. omega arith))) ∙ r.undecided_said n (omega arith);
          changes_said = λ j l. change_kept h e ms (ms ++ (x ∷ [])) j (change_at v j) (λ s. note_unaltered h e j s refl refl) (λ s. write_unaltered h e j s refl) (path_extends ms (x ∷ []) (change_at v j).opening (openings j l)) (r.changes_said j l);
          unused_said = λ j l. unused_kept h e j refl (λ s. note_unaltered h e j s refl refl) (λ s. write_unaltered h e j s refl) (r.unused_said j l);
        }
      where
        said : Message → Decision
        said z = record { change = z.change; outcome = z.outcome }

    -- deliver
    said_applied : (h : History V) (v : View V) (g n : ℕ) → g < length v.gateways → path v.messages (Some n) ≡ path v.messages (gateway_at v g).tip ++ (n ∷ []) → Said h v
        → Said (h ++ (delivers g (Ok (report (message_at v n).outcome (is_home v g n) n)) ∷ [])) (with_gateway v g (advanced v g n))
    said_applied h v g n l p r =
        let d = report (message_at v n).outcome (is_home v g n) n in
        let e : Entry V = delivers g (Ok d) in
        record {
          applied_said =
              each_after_set v.gateways g (advanced v g n) no_gateway (λ j y. applied (h ++ (e ∷ [])) j ≡ path v.messages y.tip) l
              (applied_push h e g ∙ ap (λ z. applied h g ++ z) (ap (λ z. applied_message (when z (Some d))) (eq-eqb g g refl) ∙ reported (message_at v n).outcome (is_home v g n) n) ∙ ap (λ z. z ++ (n ∷ [])) (r.applied_said g) ∙ sym p)
              (λ j ne. applied_push h e j ∙ ap (λ z. applied h j ++ applied_message (when z (Some d))) (ne_eqb g j (λ q. ne (sym q))) ∙ append-nil (applied h j) ∙ r.applied_said j);
          decided_said = λ m b. decision_kept h e m refl ∙ r.decided_said m b;
          undecided_said = λ m b. decision_kept h e m refl ∙ r.undecided_said m b;
          changes_said = λ j b. change_kept h e v.messages v.messages j (change_at v j) (λ s. note_unaltered h e j s refl refl) (λ s. write_unaltered h e j s refl) refl (r.changes_said j b);
          unused_said = λ j b. unused_kept h e j refl (λ s. note_unaltered h e j s refl refl) (λ s. write_unaltered h e j s refl) (r.unused_said j b);
        }

    pub any_tip_known : (b : Start V) (w : World V) → Inv b w → (g : ℕ) → bound (gateway_at w.site g).tip ≤ length w.site.messages
    any_tip_known b w i g =
        elim (cases_lt g (length w.site.gateways)) [
          | inl y ↦ tip_known b w i g y
          | inr y ↦ subst (λ (z : GatewayView V). bound z.tip ≤ length w.site.messages) (sym (get_or_past w.site.gateways g no_gateway y)) (omega arith)
        ]

    said_served : (b : Start V) (h : History V) (w : World V) {e : Entry V} {w' : World V} → Inv b w → Said h w.site → Served alike w e w' → Said (h ++ (e ∷ [])) w'.site
    said_served b h w i r (refuses e q) = said_silent h e w.site (silent_refused e q) r
    said_served b h w i r (opens_change g l) = said_open h w.site g r
    said_served b h w i r (reads_known k s x l st q) =
        let c = r.changes_said k l in
        said_read h w.site k s x (note_known (note h k s) (last_write h k s) x (Some x) (ap₂ or_else (c.writes_said st s) (c.notes_said s) ∙ q)) r
    said_served b h w i r (reads_cell k s c l st q hc d) =
        let e : Entry V = reads k s (Ok c.value) in
        let u = r.changes_said k l in
        let none = not_known (own_update (change_at w.site k) s) (own_note (change_at w.site k) s) q in
        said_change h e w.site k (with_note (change_at w.site k) s (Some c.value)) l (λ g. refl) (λ n. refl) (λ j. refl) (λ j t ne. (rw (other_key k j s t ne), refl))
        (record {
          home_said = first_said_push (home_in k) h e ∙ or_else_none (home h k) ∙ u.home_said;
          opening_said = opening_stays h e k (change_at w.site k).home u.home_said ∙ u.opening_said;
          notes_said = λ t.
              elim (cases_Bool (eqb s t)) [
                | inl y ↦
                    (let q' = eqb-true s t y in
                    note_push h e k t ∙ ap (λ z. note_from (note h k t) (last_write h k t) (note_from (when z (Some c.value)) None None)) (and_from (eqb k k) (eqb s t) (eq-eqb k k refl) y)
                    ∙ subst (λ z. note_from (note h k z) (last_write h k z) (Some c.value) ≡ Some c.value) q' (ap₂ (λ a z. note_from a z (Some c.value)) (u.notes_said s ∙ none.1) (u.writes_said st s ∙ none.0))
                    ∙ sym (note_for_push (change_at w.site k).notes s t c.value none.1 ∙ cond-true _ _ _ y))
                | inr f ↦ note_unaltered h e k t (rw (and_right (eqb k k) (eqb s t) f)) refl ∙ u.notes_said t ∙ sym (note_for_push (change_at w.site k).notes s t c.value none.1 ∙ cond-false _ _ _ f)
              ];
          writes_said = λ o t. write_unaltered h e k t refl ∙ u.writes_said o t;
          distinct = u.distinct;
          left_said = λ o t. absurd (open_not_submitted (sym st ∙ o));
          sent_said = λ o. absurd (open_not_submitted (sym st ∙ o));
        }) r
    said_served b h w i r (writes_value k s x l st) =
        let e : Entry V = writes k s x (Ok tt) in
        let u = r.changes_said k l in
        said_change h e w.site k (with_update (change_at w.site k) s x) l (λ g. refl) (λ n. refl) (λ j. refl) (λ j t ne. (refl, rw (other_key k j s t ne)))
        (record {
          home_said = first_said_push (home_in k) h e ∙ or_else_none (home h k) ∙ u.home_said;
          opening_said = opening_stays h e k (change_at w.site k).home u.home_said ∙ u.opening_said;
          notes_said = λ t. note_push h e k t ∙ written_later (note h k t) (last_write h k t) (write_in k t e) ∙ u.notes_said t;
          writes_said = λ o t.
              last_said_push (write_in k t) h e
              ∙ elim (cases_Bool (eqb s t)) [
                | inl y ↦ ap (λ z. or_else (when z (Some x)) (last_write h k t)) (and_from (eqb k k) (eqb s t) (eq-eqb k k refl) y) ∙ sym (update_for_put_in (change_at w.site k).updates s t x ∙ cond-true _ _ _ y)
                | inr f ↦ ap (λ z. or_else (when z (Some x)) (last_write h k t)) (and_right (eqb k k) (eqb s t) f) ∙ u.writes_said st t ∙ sym (update_for_put_in (change_at w.site k).updates s t x ∙ cond-false _ _ _ f)
              ];
          distinct = distinct_put_in (change_at w.site k).updates s x u.distinct;
          left_said = λ o t. absurd (open_not_submitted (sym st ∙ o));
          sent_said = λ o. absurd (open_not_submitted (sym st ∙ o));
        }) r
      where
        written_later : (n l y : Option V) → note_from n l (note_from None y None) ≡ n
        written_later (Some z) l y = refl
        written_later None (Some z) y = refl
        written_later None None None = refl
        written_later None None (Some z) = refl
    said_served b h w i r (submits_change k n l st) =
        let e : Entry V = submits k (Ok n) in
        let u = r.changes_said k l in
        said_change h e w.site k (submitted alike (change_at w.site k)) l (λ g. refl) (λ m. refl) (λ j. refl) (λ j t ne. (refl, refl))
        (record {
          home_said = first_said_push (home_in k) h e ∙ or_else_none (home h k) ∙ u.home_said;
          opening_said = opening_stays h e k (change_at w.site k).home u.home_said ∙ u.opening_said;
          notes_said = λ t. note_unaltered h e k t refl refl ∙ u.notes_said t;
          writes_said = λ o t. absurd (open_not_submitted (sym o));
          distinct = distinct_left alike (change_at w.site k).notes (change_at w.site k).updates u.distinct;
          left_said = λ o t.
              update_left alike (change_at w.site k).notes (change_at w.site k).updates t u.distinct
              ∙ sym (ap₂ (unrepeated alike) (note_unaltered h e k t refl refl ∙ u.notes_said t) (write_unaltered h e k t refl ∙ u.writes_said st t));
          sent_said = λ o. ap (λ z. not (is_none z)) (first_said_push (submit_in k) h e) ∙ sent (first_said (submit_in k) h) (eq-eqb k k refl);
        }) r
      where
        sent : (o : Option ℕ) → eqb k k ≡ true → not (is_none (or_else o (when (eqb k k) (Some n)))) ≡ true
        sent None q = rw q
        sent (Some a) q = refl
    said_served b h w i r (abandons_change k l st) =
        let e : Entry V = abandons k (Ok tt) in
        let u = r.changes_said k l in
        said_change h e w.site k (with_state (change_at w.site k) Abandoned) l (λ g. refl) (λ m. refl) (λ j. refl) (λ j t ne. (refl, refl))
        (record {
          home_said = first_said_push (home_in k) h e ∙ or_else_none (home h k) ∙ u.home_said;
          opening_said = opening_stays h e k (change_at w.site k).home u.home_said ∙ u.opening_said;
          notes_said = λ t. note_unaltered h e k t refl refl ∙ u.notes_said t;
          writes_said = λ o t. absurd (abandoned_not_open o);
          distinct = u.distinct;
          left_said = λ o t. absurd (abandoned_not_submitted o);
          sent_said = λ o. absurd (abandoned_not_submitted o);
        }) r
    said_served b h w i r (elects_leader g named l k p) =
        said_role (h ++ (elects g named (Ok tt) ∷ [])) w.site g _ l
        (said_silent h (elects g named (Ok tt)) w.site (record { no_applied = λ _. refl; no_decision = λ _. refl; no_read = λ _ _. refl; no_write = λ _ _. refl; no_home = λ _. refl }) r)
    said_served b h w i r (recalls_leader g l ld) =
        said_role (h ++ (recalls g (Ok tt) ∷ [])) w.site g Follower l
        (said_silent h (recalls g (Ok tt)) w.site (record { no_applied = λ _. refl; no_decision = λ _. refl; no_read = λ _ _. refl; no_write = λ _ _. refl; no_home = λ _. refl }) r)
    said_served b h w i r (decides_change g k lg lk ld st nd between eb eo) =
        said_role _ (with_message w.site (new_message w.site g k)) g (Leader (Some (length w.site.messages))) lg
        (said_decided h w.site g k (any_tip_known b w i) (λ j l. (i.changes j l).opening_known) r)
    said_served b h w i r (stirs_line x m flat_map st so) =
        said_silent h (stirs x (Ok flat_map)) w.site (record { no_applied = λ _. refl; no_decision = λ _. refl; no_read = λ _ _. refl; no_write = λ _ _. refl; no_home = λ _. refl }) r
    said_served b h w i r (takes_nothing g) = said_silent h (delivers g (Ok Nothing)) w.site (silent_delivery g Nothing refl) r
    said_served b h w i r (discards_message g n l hw q f) = said_silent h (delivers g (Ok (Discard n))) w.site (silent_delivery g (Discard n) refl) r
    said_served b h w i r (applies_message g n l hw q t) = said_applied h w.site g n l (path_next b w i g n l hw q t) r
    said_served b h w i r (looks_up g s x) =
        said_silent h (looks g s (Ok x)) w.site (record { no_applied = λ _. refl; no_decision = λ _. refl; no_read = λ _ _. refl; no_write = λ _ _. refl; no_home = λ _. refl }) r

    pub said : (b : Start V) {h : History V} {w : World V} → Reached alike b h w → Said h w.site
    said b (new s) = said_at_start b
    said b (then {h = h} {w = w} r s) = said_served b h w (kept b alike r) (said b r) (serve alike w s)
