-- What the broadcast promises holds after every list of calls.
use Rattle.std.proofs.Common.{◌≡◌, ℕ, ◌<◌, ◌≤◌, Bool, true, false, eqb, List, [], ◌∷◌, ◌++◌, length, get_or, Some, None, Ok, Err, Option, sym, refl, ap, ◌∙◌, subst, inl, inr, append_assoc, arith, length-append}
use Rattle.std.proofs.lemmas.List.{append-nil, get_or_push, same_from_push}
use Rattle.std.proofs.ByRecursion.{All-weaker}
use Rattle.std.proofs.lemmas.Bool.{cases_lt, eq-eqb, both_ways, or_parts}
use Rattle.std.specs.List.{AllByRecursion}
use Rattle.protocol.specs.declared.answers.Certified.{Certified}
use Rattle.protocol.specs.declared.answers.Delivery.{Delivery}
use Rattle.protocol.specs.declared.answers.Delivery.TheVariants.{Nothing, Discard}
use Rattle.protocol.specs.declared.records.Message.{Message}
use Rattle.protocol.specs.declared.records.Outcome.{Outcome}
use Rattle.protocol.specs.declared.records.Role.TheVariants.{Leader}
use Rattle.protocol.specs.Paths.{no_message, lower, bound, prior, path}
use Rattle.protocol.specs.View.{View, GatewayView, no_gateway, gateway_at, with_changes, with_change}
use Rattle.protocol.specs.Calls.{started}
use Rattle.protocol.specs.Roles.{head, has}
use Rattle.protocol.specs.Certify.{message_at, history, decides, new_message}
use Rattle.protocol.specs.Deliver.{same_point, report, is_home}
use Rattle.protocol.proofs.PathLaws.{path_some}
use Rattle.runs.specs.Runs.{World, Start, begun, Entry, opens, reads, writes, submits, abandons, elects, recalls, certifies, stirs, delivers, looks, History, Reached, new, then}
use Rattle.runs.specs.Words.{when, applied_message, applied, Decision, decision, was_submitted, home}
use Rattle.runs.specs.Broadcast.{last, Reign, with_applied, InReign, messages, WasCertified, ForAnother, Broadcast, Broadcasts}
use Rattle.runs.proofs.Paths.{named_known, last_view, same_point_true, lower_known, path_extends, path_before}
use Rattle.runs.proofs.Settings.{none_not_some, some_same}
use Rattle.runs.proofs.Served.{Refused, Served, refuses, opens_change, reads_known, reads_cell, writes_value, submits_change, abandons_change, elects_leader, recalls_leader, decides_change, stirs_line, takes_nothing, discards_message, applies_message, looks_up, serve}
use Rattle.runs.proofs.State.{all_right, Inv, tip_known, taken_known}
use Rattle.runs.proofs.Kept.{at_replicate, kept}
use Rattle.runs.proofs.Said.{reported, Said, said}
use Rattle.runs.proofs.Reigns.{last_path, follower_not_leader, is_leader, Leads, Reigns, reigns_quiet, reigns_view, reigns_delivered, reigns_elected, reigns_recalled, reigns_decided, reigns_applied}

not_same_point : (a b : Option ℕ) → same_point a b ≡ false → a ≡ b → ⊥
not_same_point a b f e = both_ways (same_point a b) f (ap (λ z. same_point z b) e ∙ itself b)
  where
    itself : (o : Option ℕ) → same_point o o ≡ true
    itself None = refl
    itself (Some n) = eq-eqb n n refl

-- the path of a message behind the last one
new_path : (ms : List Message) (x : Message) → bound x.precedent ≤ length ms → path (ms ++ (x ∷ [])) (Some (length ms)) ≡ path ms x.precedent ++ (length ms ∷ [])
new_path ms x k =
    let m : get_or (ms ++ (x ∷ [])) (length ms) no_message ≡ x = get_or_push ms x no_message (length ms) refl in
    let p : prior (ms ++ (x ∷ [])) (length ms) ≡ x.precedent = ap (λ (z : Message). lower (length ms) z.precedent) m ∙ lower_known (length ms) x.precedent k in
    path_some (ms ++ (x ∷ [])) (length ms) ∙ ap (λ z. z ++ (length ms ∷ [])) (ap (path (ms ++ (x ∷ []))) p ∙ path_extends ms (x ∷ []) x.precedent k)

module _ {V : Type 0} where
  refused_reign : (e : Entry V) → Refused e → (h : History V) (v : View V) → Reigns h v → Reigns (h ++ (e ∷ [])) v
  refused_reign (opens i r) q h v s = reigns_quiet h (opens i r) v refl (λ _ _ _. refl) s
  refused_reign (reads k t r) q h v s = reigns_quiet h (reads k t r) v refl (λ _ _ _. refl) s
  refused_reign (writes k t x r) q h v s = reigns_quiet h (writes k t x r) v refl (λ _ _ _. refl) s
  refused_reign (submits k r) q h v s = reigns_quiet h (submits k r) v refl (λ _ _ _. refl) s
  refused_reign (abandons k r) q h v s = reigns_quiet h (abandons k r) v refl (λ _ _ _. refl) s
  refused_reign (elects i m r) (x, q) h v s = rw q (reigns_quiet h (elects i m (Err x)) v refl (λ _ _ _. refl) s)
  refused_reign (recalls i r) (x, q) h v s = rw q (reigns_quiet h (recalls i (Err x)) v refl (λ _ _ _. refl) s)
  refused_reign (certifies i k r) (x, q) h v s = rw q (reigns_quiet h (certifies i k (Err x)) v refl (λ _ _ _. refl) s)
  refused_reign (stirs y r) q h v s = reigns_quiet h (stirs y r) v refl (λ _ _ _. refl) s
  refused_reign (delivers i r) (x, q) h v s = rw q (reigns_quiet h (delivers i (Err x)) v refl (λ j _ a. still (eqb i j) a) s)
    where
      still : (t : Bool) (a : Option Reign) → with_applied a (applied_message (when t None)) ≡ a
      still true None = refl
      still true (Some a) = ap (λ z. Some (record { initial = a.initial; certified = a.certified; applied = z })) (append-nil a.applied)
      still false None = refl
      still false (Some a) = ap (λ z. Some (record { initial = a.initial; certified = a.certified; applied = z })) (append-nil a.applied)
  refused_reign (looks i t r) q h v s = reigns_quiet h (looks i t r) v refl (λ _ _ _. refl) s

  module _ (alike : V → V → Bool) (b : Start V) where
    reigns_served : (h : History V) (w : World V) {e : Entry V} {w' : World V} → Inv b w → Said alike h w.site → Reigns h w.site → Served alike w e w' → Reigns (h ++ (e ∷ [])) w'.site
    reigns_served h w i q r (refuses e x) = refused_reign e x h w.site r
    reigns_served h w i q r (opens_change g l) = reigns_view _ w.site (with_changes w.site _) refl refl (reigns_quiet h (opens g (Ok (length w.site.changes))) w.site refl (λ _ _ _. refl) r)
    reigns_served h w i q r (reads_known k s x l st e) = reigns_quiet h (reads k s (Ok x)) w.site refl (λ _ _ _. refl) r
    reigns_served h w i q r (reads_cell k s c l st n hc d) = reigns_view _ w.site (with_change w.site k _) refl refl (reigns_quiet h (reads k s (Ok c.value)) w.site refl (λ _ _ _. refl) r)
    reigns_served h w i q r (writes_value k s x l st) = reigns_view _ w.site (with_change w.site k _) refl refl (reigns_quiet h (writes k s x (Ok tt)) w.site refl (λ _ _ _. refl) r)
    reigns_served h w i q r (submits_change k n l st) = reigns_view _ w.site (with_change w.site k _) refl refl (reigns_quiet h (submits k (Ok n)) w.site refl (λ _ _ _. refl) r)
    reigns_served h w i q r (abandons_change k l st) = reigns_view _ w.site (with_change w.site k _) refl refl (reigns_quiet h (abandons k (Ok tt)) w.site refl (λ _ _ _. refl) r)
    reigns_served h w i q r (elects_leader g named l k p) = reigns_elected h w.site g named l (named_known named (gateway_at w.site g).tip (length w.site.messages) k (tip_known b w i g l)) (q.applied_said g) r
    reigns_served h w i q r (recalls_leader g l ld) = reigns_recalled h w.site g l r
    reigns_served h w i q r (decides_change g k lg lk ld st nd between eb eo) = reigns_decided h w.site g k lg ld i.heads_known (new_path w.site.messages (new_message w.site g k) (i.heads_known g)) r
    reigns_served h w i q r (stirs_line x m joined st so) = reigns_quiet h (stirs x (Ok joined)) w.site refl (λ _ _ _. refl) r
    reigns_served h w i q r (takes_nothing g) = reigns_delivered h g Nothing w.site refl r
    reigns_served h w i q r (discards_message g n l hw e f) = reigns_delivered h g (Discard n) w.site refl r
    reigns_served h w i q r (applies_message g n l hw e t) = reigns_applied h w.site g n l r
    reigns_served h w i q r (looks_up g s x) = reigns_quiet h (looks g s (Ok x)) w.site refl (λ _ _ _. refl) r

    reigns_at_start : Reigns [] (begun b).site
    unfolding started
    reigns_at_start =
        record {
          messages_said = refl;
          leaders_said = λ g o e. absurd (at_replicate (λ (y : GatewayView V). y.role ≡ Leader o → ⊥) b.carrier.gateways g _ no_gateway (follower_not_leader o) (follower_not_leader o) e);
        }

    reigns : {h : History V} {w : World V} → Reached alike b h w → Reigns h w.site
    reigns (new s) = reigns_at_start
    reigns (then {h = h} {w = w} r s) = reigns_served h w (kept b alike r) (said alike b r) (reigns r) (serve alike w s)

    -- what holds of each entry, right after the calls before it

    record RightlyCertified (h : History V) (g k : ℕ) (c : Certified) : Type 0 where
      numbered : c.number ≡ length (messages h)
      reigning : InReign h g
      was_sent : was_submitted h k ≡ true
      first_time : AllByRecursion (ForAnother h k) reigning.0.certified

    record RightlyDelivered (h : History V) (g : ℕ) (d : Delivery) : Type 0 where
      certain : (n : ℕ) → applied_message (Some d) ≡ n ∷ [] → WasCertified h n
      as_certified : (n : ℕ) (x : Decision) → applied_message (Some d) ≡ n ∷ [] → decision h n ≡ Some x → d ≡ report x.outcome (same_point (home h x.change) (Some g)) n
      in_order : (n : ℕ) → applied_message (Some d) ≡ n ∷ [] → prior (messages h) n ≡ last (applied h g)
      out_of_order : (n : ℕ) → d ≡ Discard n → prior (messages h) n ≡ last (applied h g) → ⊥

    abbrev Promised : History V → Entry V → Type 0
    Promised h (certifies g k (Ok c)) = RightlyCertified h g k c
    Promised h (certifies g k (Err e)) = Unit {0}
    Promised h (delivers g (Ok d)) = RightlyDelivered h g d
    Promised h (delivers g (Err e)) = Unit {0}
    Promised h (opens g r) = Unit {0}
    Promised h (reads k s r) = Unit {0}
    Promised h (writes k s x r) = Unit {0}
    Promised h (submits k r) = Unit {0}
    Promised h (abandons k r) = Unit {0}
    Promised h (elects g m r) = Unit {0}
    Promised h (recalls g (Ok u)) = InReign h g
    Promised h (recalls g (Err e)) = Unit {0}
    Promised h (stirs x r) = Unit {0}
    Promised h (looks g s r) = Unit {0}

    promised_refused : (h : History V) (e : Entry V) → Refused e → Promised h e
    promised_refused h (opens g r) q = tt
    promised_refused h (reads k s r) q = tt
    promised_refused h (writes k s x r) q = tt
    promised_refused h (submits k r) q = tt
    promised_refused h (abandons k r) q = tt
    promised_refused h (elects g m r) q = tt
    promised_refused h (recalls g r) (x, q) = rw q tt
    promised_refused h (certifies g k r) (x, q) = rw q tt
    promised_refused h (stirs x r) q = tt
    promised_refused h (delivers g r) (x, q) = rw q tt
    promised_refused h (looks g s r) q = tt

    module _ (h : History V) (w : World V) (i : Inv b w) (q : Said alike h w.site) (r : Reigns h w.site) where
      abbrev v : View V
      v = w.site

      -- of messages that do not decide a change, each is for another
      all_others : (k : ℕ) (p : List ℕ) → decides v k p ≡ false → AllByRecursion (λ n. eqb (message_at v n).change k ≡ false) p
      all_others k [] e = tt
      all_others k (n ∷ p) e = let parts = or_parts (eqb (message_at v n).change k) (decides v k p) e in (parts.0, all_others k p parts.1)

      -- the change of a message, as the history has it
      change_said : (n : ℕ) (x : Decision) → decision h n ≡ Some x → (n < length v.messages) × ((message_at v n).change ≡ x.change)
      change_said n x e =
          elim (cases_lt n (length v.messages)) [
            | inl l ↦ (l, ap (λ (z : Decision). z.change) (some_same _ x (sym (q.decided_said n l) ∙ e)))
            | inr l ↦ absurd (none_not_some x (sym (q.undecided_said n l) ∙ e))
          ]

      other_said : (k n : ℕ) → eqb (message_at v n).change k ≡ false → ForAnother h k n
      other_said k n f x e c = both_ways (eqb (message_at v n).change k) f (eq-eqb _ _ ((change_said n x e).1 ∙ c))

      same_message : (d : Delivery) (m n : ℕ) → applied_message (Some d) ≡ m ∷ [] → applied_message (Some d) ≡ n ∷ [] → m ≡ n
      same_message d m n a c = let s : m ∷ [] ≡ n ∷ [] = sym a ∙ c in let z : m ≡ n = cc in z

      empty_not_one : (n : ℕ) → [] ≡ n ∷ [] → ⊥
      empty_not_one n e = let z : ◌≡◌ {A = ℕ} 0 1 = cc in omega arith

      same_discard : (m n : ℕ) → Discard m ≡ Discard n → m ≡ n
      same_discard m n e = cc

      nothing_not_discard : (n : ℕ) → Nothing ≡ Discard n → ⊥
      nothing_not_discard n e = let z : ◌≡◌ {A = ℕ} 0 1 = cc in omega arith

      report_not_discard : (o : Outcome) (t : Bool) (m n : ℕ) → report o t m ≡ Discard n → ⊥
      report_not_discard o t m n e = empty_not_one m (sym (ap (λ z. applied_message (Some z)) e) ∙ reported o t m)

      tip_said : (g : ℕ) → last (applied h g) ≡ (gateway_at v g).tip
      tip_said g = ap last (q.applied_said g) ∙ last_path v.messages (gateway_at v g).tip

      in_reign : (g : ℕ) (o : Option ℕ) → Leads h v.messages g o → InReign h g
      in_reign g o l = (l.now, l.reigning, subst (λ z. AllByRecursion (λ n. has (path z l.now.initial ++ l.now.certified) n ≡ true) l.now.applied) r.messages_said (subst (λ z. AllByRecursion (λ n. has z n ≡ true) l.now.applied) l.history_said l.applied_own))

      promised_certify : (g k : ℕ) (c : Certified) → c.number ≡ length v.messages → Leads h v.messages g (head (gateway_at v g).role) → decides v k (history v g) ≡ false → was_submitted h k ≡ true → RightlyCertified h g k c
      unfolding in_reign
      promised_certify g k c n l nd su =
          record {
            numbered = n ∙ ap length r.messages_said;
            reigning = in_reign g (head (gateway_at v g).role) l;
            was_sent = su;
            first_time = All-weaker (λ n. eqb (message_at v n).change k ≡ false) (ForAnother h k) (λ n. other_said k n) l.now.certified
                (all_right (λ n. eqb (message_at v n).change k ≡ false) (path v.messages l.now.initial) l.now.certified (subst (AllByRecursion (λ n. eqb (message_at v n).change k ≡ false)) l.history_said (all_others k (history v g) nd)));
          }

      -- an answer, as the history has the decision and the home
      report_said : (g n : ℕ) (x : Decision) → n < length v.messages → decision h n ≡ Some x → report (message_at v n).outcome (is_home v g n) n ≡ report x.outcome (same_point (home h x.change) (Some g)) n
      report_said g n x l f =
          let c = q.changes_said (message_at v n).change (i.messages n l).change_known in
          let e : record { change = (message_at v n).change; outcome = (message_at v n).outcome } ≡ x = some_same _ x (sym (q.decided_said n l) ∙ f) in
          ap (λ z. report (message_at v n).outcome (same_point z (Some g)) n) (sym c.home_said) ∙ ap (λ (z : Decision). report z.outcome (same_point (home h z.change) (Some g)) n) e

      promised_served : {e : Entry V} {w' : World V} → Served alike w e w' → Promised h e
      promised_served (refuses e x) = promised_refused h e x
      promised_served (opens_change g l) = tt
      promised_served (reads_known k s x l st e) = tt
      promised_served (reads_cell k s c l st n hc d) = tt
      promised_served (writes_value k s x l st) = tt
      promised_served (submits_change k n l st) = tt
      promised_served (abandons_change k l st) = tt
      promised_served (elects_leader g named l k p) = tt
      promised_served (recalls_leader g l ld) = in_reign g (head (gateway_at v g).role) (r.leaders_said g (head (gateway_at v g).role) (is_leader (gateway_at v g).role ld))
      promised_served (decides_change g k lg lk ld st nd between eb eo) =
          promised_certify g k _ refl (r.leaders_said g (head (gateway_at v g).role) (is_leader (gateway_at v g).role ld)) nd ((q.changes_said k lk).sent_said st)
      promised_served (stirs_line x m joined st so) = tt
      promised_served (takes_nothing g) =
          record { certain = λ n e. absurd (empty_not_one n e); as_certified = λ n x e. absurd (empty_not_one n e); in_order = λ n e. absurd (empty_not_one n e); out_of_order = λ n e. absurd (nothing_not_discard n e) }
      promised_served (discards_message g n l hw e f) =
          record {
            certain = λ m x. absurd (empty_not_one m x);
            as_certified = λ m y x. absurd (empty_not_one m x);
            in_order = λ m x. absurd (empty_not_one m x);
            out_of_order = λ m x y. not_same_point _ _ f (ap (λ z. prior z n) r.messages_said ∙ ap (prior (messages h)) (same_discard n m x) ∙ y ∙ tip_said g);
          }
      promised_served (applies_message g n l hw e t) =
          let d = report (message_at v n).outcome (is_home v g n) n in
          let same : (m : ℕ) → applied_message (Some d) ≡ m ∷ [] → n ≡ m = λ m x. same_message d n m (reported (message_at v n).outcome (is_home v g n) n) x in
          record {
            certain = λ m x. subst (WasCertified h) (same m x) (record { change = (message_at v n).change; outcome = (message_at v n).outcome }, q.decided_said n (taken_known b w i g n l hw e));
            as_certified = λ m y x f. subst (λ z. d ≡ report y.outcome (same_point (home h y.change) (Some g)) z) (same m x) (report_said g n y (taken_known b w i g n l hw e) (ap (decision h) (same m x) ∙ f));
            in_order = λ m x. subst (λ z. prior (messages h) z ≡ last (applied h g)) (same m x) (ap (λ z. prior z n) (sym r.messages_said) ∙ same_point_true _ _ t ∙ sym (tip_said g));
            out_of_order = λ m x y. absurd (report_not_discard (message_at v n).outcome (is_home v g n) n m x);
          }
      promised_served (looks_up g s x) = tt

    nothing_follows : (before later : History V) (e : Entry V) → [] ≡ before ++ (e ∷ later) → ⊥
    nothing_follows before later e q = let l = ap length q in let n = length-append before (e ∷ later) in omega arith

    promised : {h : History V} {w : World V} → Reached alike b h w → (before later : History V) (e : Entry V) → h ≡ before ++ (e ∷ later) → Promised before e
    promised (new s) before later e q = absurd (nothing_follows before later e q)
    promised (then {h = h} {w = w} {e = x} r s) before later e q =
        elim (last_view later) [
          | inl z ↦
              (let p = same_from_push h before x e (q ∙ ap (λ t. before ++ (e ∷ t)) z) in
              subst (λ t. Promised t e) p.0 (subst (Promised h) p.1 (promised_served h w (kept b alike r) (said alike b r) (reigns r) (serve alike w s))))
          | inr z ↦
              (let p = same_from_push h (before ++ (e ∷ z.0)) x z.1 (q ∙ ap (λ t. before ++ (e ∷ t)) z.2 ∙ sym (append_assoc before (e ∷ z.0) (z.1 ∷ []))) in
              promised r before z.0 e p.0)
        ]

    decided_once : (h : History V) (w : World V) → Inv b w → Said alike h w.site → Reigns h w.site → (g : ℕ) (earlier between later : List ℕ) (m n : ℕ) (x : Decision) → applied h g ≡ earlier ++ (m ∷ (between ++ (n ∷ later))) → decision h m ≡ Some x → ForAnother h x.change n
    decided_once h w i q r g earlier between later m n x e d y f c =
        let ms = w.site.messages in
        let p : path ms (gateway_at w.site g).tip ≡ (earlier ++ (m ∷ between)) ++ (n ∷ later) = sym (q.applied_said g) ∙ e ∙ sym (append_assoc earlier (m ∷ between) (n ∷ later)) in
        let known : n < length ms = (change_said h w i q r n y f).0 in
        let before = path_before ms (earlier ++ (m ∷ between)) n (gateway_at w.site g).tip later p in
        let others = all_others h w i q r (message_at w.site n).change (path ms (prior ms n)) (i.messages n known).not_decided in
        let here = (all_right (λ j. eqb (message_at w.site j).change (message_at w.site n).change ≡ false) earlier (m ∷ between) (subst (AllByRecursion (λ j. eqb (message_at w.site j).change (message_at w.site n).change ≡ false)) (sym before) others)).0 in
        both_ways _ here (eq-eqb _ _ ((change_said h w i q r m x d).1 ∙ sym c ∙ sym (change_said h w i q r n y f).1))

    pub broadcast : (h : History V) (w : World V) → Reached alike b h w → Broadcast h w
    broadcast h w r =
        record {
          precedent = (reigns r).messages_said;
          precedent_is_lower = subst (λ z. (n : ℕ) → n < length z → prior z n ≡ (get_or z n no_message).precedent) (reigns r).messages_said (λ n l. ((kept b alike r).messages n l).behind_precedent);
          number = λ before g k c n. (promised r before n.0 (certifies g k (Ok c)) n.1).numbered;
          leader_reign = λ before g k c n. (promised r before n.0 (certifies g k (Ok c)) n.1).reigning;
          leader_reign_to_recall = λ before g n. promised r before n.0 (recalls g (Ok tt)) n.1;
          validity = λ before g n d x e. (promised r before x.0 (delivers g (Ok d)) x.1).certain n e;
          validity_of_answers = λ before g n d x p e f. (promised r before p.0 (delivers g (Ok d)) p.1).as_certified n x e f;
          validity_once = decided_once h w (kept b alike r) (said alike b r) (reigns r);
          leader_validity = λ before g k c n. (promised r before n.0 (certifies g k (Ok c)) n.1).was_sent;
          leader_validity_once = λ before g k c x n e.
              (let p = promised r before n.0 (certifies g k (Ok c)) n.1 in
              subst (λ (z : Reign). AllByRecursion (ForAnother before k) z.certified) (some_same p.reigning.0 x (sym p.reigning.1 ∙ e)) p.first_time);
          order = λ before g n d x e. (promised r before x.0 (delivers g (Ok d)) x.1).in_order n e;
          order_only = λ before g n x e. (promised r before x.0 (delivers g (Ok (Discard n))) x.1).out_of_order n refl e;
        }

pub broadcasts : {V : Type 0} (alike : V → V → Bool) → Broadcasts alike
broadcasts alike b h w r = broadcast alike b h w r
