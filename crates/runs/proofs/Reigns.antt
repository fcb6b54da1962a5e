-- What the broadcast promises holds after every list of calls.
use Rattle.std.proofs.Common.{◌≡◌, ℕ, ◌<◌, ◌≤◌, Bool, true, false, cond, eqb, List, [], ◌∷◌, ◌++◌, length, get_or, Some, None, Ok, Option, sym, refl, ap, ◌∙◌, subst, ap₂, inl, inr, append_assoc, arith}
use Rattle.std.proofs.lemmas.List.{append-nil, length_push}
use Rattle.std.proofs.ByRecursion.{All-append, All-weaker}
use Rattle.std.proofs.lemmas.Bool.{cases_Bool, eq-eqb, ne_eqb, both_ways, or_left, or_right}
use Rattle.std.specs.List.{AllByRecursion}
use Rattle.protocol.specs.declared.answers.Certified.{Certified}
use Rattle.protocol.specs.declared.answers.Delivery.{Delivery}
use Rattle.protocol.specs.declared.records.Message.{Message}
use Rattle.protocol.specs.declared.records.Role.{Role}
use Rattle.protocol.specs.declared.records.Role.TheVariants.{Follower, Leader}
use Rattle.protocol.specs.Paths.{bound, prior, path}
use Rattle.protocol.specs.View.{View, GatewayView, no_gateway, gateway_at}
use Rattle.protocol.specs.Calls.{or_else}
use Rattle.protocol.specs.Roles.{leads, head, has, with_role, with_gateway}
use Rattle.protocol.specs.Certify.{message_at, history, outcome_of, new_message, with_message}
use Rattle.protocol.specs.Deliver.{role_after, advanced, report, is_home}
use Rattle.protocol.proofs.PathLaws.{path_none, path_some}
use Rattle.runs.specs.Runs.{Entry, elects, recalls, certifies, delivers, History}
use Rattle.runs.specs.Words.{when, applied_message, applied_in, applied}
use Rattle.runs.specs.Broadcast.{last, Reign, elected, with_certified, with_applied, reign_after, reign_from, reign, history_end, message_in, messages_from, messages}
use Rattle.runs.proofs.Paths.{path_extends}
use Rattle.runs.proofs.State.{each_after_set}
use Rattle.runs.proofs.Said.{reported}

-- the last message of a sequence

pub last_push : (p : List ℕ) (n : ℕ) → last (p ++ (n ∷ [])) ≡ Some n
last_push [] n = refl
last_push (x ∷ p) n = ap (λ z. or_else z (Some x)) (last_push p n)

-- a path ends in its point
pub last_path : (ms : List Message) (o : Option ℕ) → last (path ms o) ≡ o
last_path ms None = ap last (path_none ms)
last_path ms (Some m) = ap last (path_some ms m) ∙ last_push (path ms (prior ms m)) m

has_there : (p : List ℕ) (n : ℕ) → has (p ++ (n ∷ [])) n ≡ true
has_there [] n = or_left (eqb n n) false (eq-eqb n n refl)
has_there (x ∷ p) n = or_right (eqb x n) (has (p ++ (n ∷ [])) n) (has_there p n)

has_longer : (p : List ℕ) (m n : ℕ) → has p n ≡ true → has (p ++ (m ∷ [])) n ≡ true
has_longer [] m n e = absurd (both_ways false refl e)
has_longer (x ∷ p) m n e =
    elim (cases_Bool (eqb x n)) [
      | inl y ↦ or_left (eqb x n) (has (p ++ (m ∷ [])) n) y
      | inr f ↦ or_right (eqb x n) (has (p ++ (m ∷ [])) n) (has_longer p m n (rw f at e))
    ]

pub follower_not_leader : (o : Option ℕ) → Follower ≡ Leader o → ⊥
follower_not_leader o e = let z : ◌≡◌ {A = ℕ} 0 1 = cc in omega arith

same_head : (o p : Option ℕ) → Leader o ≡ Leader p → o ≡ p
same_head o p e = cc

pub is_leader : (x : Role) → leads x ≡ true → x ≡ Leader (head x)
is_leader Follower e = absurd (both_ways false refl e)
is_leader (Leader o) e = refl

module _ {V : Type 0} where
  -- a history with one entry more
  reign_from_push : (g : ℕ) (done : List ℕ) (r : Option Reign) (h : History V) (e : Entry V) → reign_from g done r (h ++ (e ∷ [])) ≡ reign_after g (done ++ applied h g) (reign_from g done r h) e
  reign_from_push g done r [] e = ap (λ z. reign_after g z r e) (sym (append-nil done))
  reign_from_push g done r (x ∷ h) e =
      reign_from_push g (done ++ applied_in g x) (reign_after g done r x) h e
      ∙ ap (λ z. reign_after g z (reign_from g (done ++ applied_in g x) (reign_after g done r x) h) e) (append_assoc done (applied_in g x) (applied h g))

  reign_push : (h : History V) (e : Entry V) (g : ℕ) → reign (h ++ (e ∷ [])) g ≡ reign_after g (applied h g) (reign h g) e
  reign_push h e g = reign_from_push g [] None h e

  messages_from_push : (before h : History V) (e : Entry V) → messages_from before (h ++ (e ∷ [])) ≡ messages_from before h ++ message_in (before ++ h) e
  messages_from_push before [] e = append-nil (message_in before e) ∙ ap (λ z. message_in z e) (sym (append-nil before))
  messages_from_push before (x ∷ h) e =
      ap (λ z. message_in before x ++ z) (messages_from_push (before ++ (x ∷ [])) h e ∙ ap (λ z. messages_from (before ++ (x ∷ [])) h ++ message_in z e) (append_assoc before (x ∷ []) h))
      ∙ sym (append_assoc (message_in before x) (messages_from (before ++ (x ∷ [])) h) (message_in (before ++ (x ∷ h)) e))

  messages_push : (h : History V) (e : Entry V) → messages (h ++ (e ∷ [])) ≡ messages h ++ message_in h e
  messages_push h e = messages_from_push [] h e

  -- gateway g leads, with head o
  pub record Leads (h : History V) (ms : List Message) (g : ℕ) (o : Option ℕ) : Type 0 where
    pub now : Reign
    pub reigning : reign h g ≡ Some now
    pub head_said : history_end (Some now) ≡ o
    pub initial_known : bound now.initial ≤ length ms
    pub history_said : path ms o ≡ path ms now.initial ++ now.certified
    pub applied_own : AllByRecursion (λ n. has (path ms o) n ≡ true) now.applied

  pub record Reigns (h : History V) (v : View V) : Type 0 where
    pub messages_said : v.messages ≡ messages h
    pub leaders_said : (g : ℕ) (o : Option ℕ) → (gateway_at v g).role ≡ Leader o → Leads h v.messages g o

  leads_kept : (h : History V) (e : Entry V) (ms : List Message) (g : ℕ) (o : Option ℕ) → reign (h ++ (e ∷ [])) g ≡ reign h g → Leads h ms g o → Leads (h ++ (e ∷ [])) ms g o
  leads_kept h e ms g o q r = record { now = r.now; reigning = q ∙ r.reigning; head_said = r.head_said; initial_known = r.initial_known; history_said = r.history_said; applied_own = r.applied_own }

  -- an entry that makes no message and alters no reign
  pub reigns_quiet : (h : History V) (e : Entry V) (v : View V) → message_in h e ≡ [] → ((g : ℕ) (done : List ℕ) (r : Option Reign) → reign_after g done r e ≡ r) → Reigns h v → Reigns (h ++ (e ∷ [])) v
  reigns_quiet h e v qm qr r =
      record {
        messages_said = r.messages_said ∙ sym (messages_push h e ∙ ap (λ z. messages h ++ z) qm ∙ append-nil (messages h));
        leaders_said = λ g o q. leads_kept h e v.messages g o (reign_push h e g ∙ qr g (applied h g) (reign h g)) (r.leaders_said g o q);
      }

  -- the same, where the site has other changes
  pub reigns_view : (h : History V) (v v' : View V) → v'.messages ≡ v.messages → v'.gateways ≡ v.gateways → Reigns h v → Reigns h v'
  reigns_view h v v' em eg r =
      record {
        messages_said = em ∙ r.messages_said;
        leaders_said = λ g o q. subst (λ z. Leads h z g o) (sym em) (r.leaders_said g o (ap (λ z. (get_or z g no_gateway).role) (sym eg) ∙ q));
      }

  -- a delivery adds to each reign what its gateway applied
  leads_applied : (h : History V) (i : ℕ) (d : Delivery) (ms : List Message) (g : ℕ) (o : Option ℕ) → AllByRecursion (λ n. has (path ms o) n ≡ true) (applied_message (when (eqb i g) (Some d))) → Leads h ms g o → Leads (h ++ (delivers i (Ok d) ∷ [])) ms g o
  leads_applied h i d ms g o a r =
      let p = applied_message (when (eqb i g) (Some d)) in
      record {
        now = record { initial = r.now.initial; certified = r.now.certified; applied = r.now.applied ++ p };
        reigning = reign_push h (delivers i (Ok d)) g ∙ ap (λ z. with_applied z p) r.reigning;
        head_said = r.head_said;
        initial_known = r.initial_known;
        history_said = r.history_said;
        applied_own = All-append (λ n. has (path ms o) n ≡ true) r.now.applied p r.applied_own a;
      }

  pub reigns_delivered : (h : History V) (i : ℕ) (d : Delivery) (v : View V) → applied_message (Some d) ≡ [] → Reigns h v → Reigns (h ++ (delivers i (Ok d) ∷ [])) v
  reigns_delivered h i d v q r =
      record {
        messages_said = r.messages_said ∙ sym (messages_push h (delivers i (Ok d)) ∙ append-nil (messages h));
        leaders_said = λ g o e. leads_applied h i d v.messages g o (subst (AllByRecursion (λ n. has (path v.messages o) n ≡ true)) (sym (none (eqb i g))) tt) (r.leaders_said g o e);
      }
    where
      none : (t : Bool) → applied_message (when t (Some d)) ≡ []
      none true = q
      none false = refl

  -- election and recall
  pub reigns_elected : (h : History V) (v : View V) (g : ℕ) (named : Option ℕ) → g < length v.gateways → bound (or_else named (gateway_at v g).tip) ≤ length v.messages → applied h g ≡ path v.messages (gateway_at v g).tip → Reigns h v → Reigns (h ++ (elects g named (Ok tt) ∷ [])) (with_role v g (Leader (or_else named (gateway_at v g).tip)))
  reigns_elected h v g named l k ap-said r =
      let e : Entry V = elects g named (Ok tt) in
      let o = or_else named (gateway_at v g).tip in
      let x : GatewayView V = record { tip = (gateway_at v g).tip; role = Leader o; cells = (gateway_at v g).cells } in
      let q : or_else named (last (applied h g)) ≡ o = ap (or_else named) (ap last ap-said ∙ last_path v.messages (gateway_at v g).tip) in
      record {
        messages_said = r.messages_said ∙ sym (messages_push h e ∙ append-nil (messages h));
        leaders_said =
            each_after_set v.gateways g x no_gateway (λ j y. (p : Option ℕ) → y.role ≡ Leader p → Leads (h ++ (e ∷ [])) v.messages j p) l
            (λ p s. subst (Leads (h ++ (e ∷ [])) v.messages g) (same_head o p s)
            (record {
              now = elected o;
              reigning = reign_push h e g ∙ ap (λ z. cond z (Some (elected (or_else named (last (applied h g))))) (reign h g)) (eq-eqb g g refl) ∙ ap (λ z. Some (elected z)) q;
              head_said = refl;
              initial_known = k;
              history_said = sym (append-nil (path v.messages o));
              applied_own = tt;
            }))
            (λ j ne p s. leads_kept h e v.messages j p (reign_push h e j ∙ ap (λ z. cond z (Some (elected (or_else named (last (applied h j))))) (reign h j)) (ne_eqb g j (λ z. ne (sym z)))) (r.leaders_said j p s));
      }

  pub reigns_recalled : (h : History V) (v : View V) (g : ℕ) → g < length v.gateways → Reigns h v → Reigns (h ++ (recalls g (Ok tt) ∷ [])) (with_role v g Follower)
  reigns_recalled h v g l r =
      let e : Entry V = recalls g (Ok tt) in
      let x : GatewayView V = record { tip = (gateway_at v g).tip; role = Follower; cells = (gateway_at v g).cells } in
      record {
        messages_said = r.messages_said ∙ sym (messages_push h e ∙ append-nil (messages h));
        leaders_said =
            each_after_set v.gateways g x no_gateway (λ j y. (p : Option ℕ) → y.role ≡ Leader p → Leads (h ++ (e ∷ [])) v.messages j p) l
            (λ p s. absurd (follower_not_leader p s))
            (λ j ne p s. leads_kept h e v.messages j p (reign_push h e j ∙ ap (λ z. cond z None (reign h j)) (ne_eqb g j (λ z. ne (sym z)))) (r.leaders_said j p s));
      }

  -- certify
  pub reigns_decided : (h : History V) (v : View V) (g k : ℕ) → g < length v.gateways → leads (gateway_at v g).role ≡ true → ((j : ℕ) → bound (head (gateway_at v j).role) ≤ length v.messages) → path (v.messages ++ (new_message v g k ∷ [])) (Some (length v.messages)) ≡ history v g ++ (length v.messages ∷ []) → Reigns h v
      → Reigns (h ++ (certifies g k (Ok (record { number = length v.messages; outcome = outcome_of v g k })) ∷ [])) (with_role (with_message v (new_message v g k)) g (Leader (Some (length v.messages))))
  reigns_decided h v g k l ld known longer r =
      let c : Certified = record { number = length v.messages; outcome = outcome_of v g k } in
      let e : Entry V = certifies g k (Ok c) in
      let ms = v.messages in
      let m = new_message v g k in
      let n = length ms in
      let o = head (gateway_at v g).role in
      let x : GatewayView V = record { tip = (gateway_at v g).tip; role = Leader (Some n); cells = (gateway_at v g).cells } in
      let s = r.leaders_said g o (is_leader (gateway_at v g).role ld) in
      let more = length_push ms m in
      record {
        messages_said = sym (messages_push h e ∙ ap₂ (λ a p. a ++ (record { precedent = p; change = k; outcome = outcome_of v g k } ∷ [])) (sym r.messages_said) (ap history_end s.reigning ∙ s.head_said));
        leaders_said =
            each_after_set v.gateways g x no_gateway (λ j y. (p : Option ℕ) → y.role ≡ Leader p → Leads (h ++ (e ∷ [])) (ms ++ (m ∷ [])) j p) l
            (λ p q. subst (Leads (h ++ (e ∷ [])) (ms ++ (m ∷ [])) g) (same_head (Some n) p q)
            (record {
              now = record { initial = s.now.initial; certified = s.now.certified ++ (n ∷ []); applied = s.now.applied };
              reigning = reign_push h e g ∙ ap (λ z. cond z (with_certified (reign h g) n) (reign h g)) (eq-eqb g g refl) ∙ ap (λ z. with_certified z n) s.reigning;
              head_said = ap (λ z. or_else z s.now.initial) (last_push s.now.certified n);
              initial_known = (let z = s.initial_known in omega arith);
              history_said = longer ∙ ap (λ z. z ++ (n ∷ [])) s.history_said ∙ append_assoc (path ms s.now.initial) s.now.certified (n ∷ []) ∙ ap (λ z. z ++ (s.now.certified ++ (n ∷ []))) (sym (path_extends ms (m ∷ []) s.now.initial s.initial_known));
              applied_own = All-weaker (λ z. has (path ms o) z ≡ true) (λ z. has (path (ms ++ (m ∷ [])) (Some n)) z ≡ true) (λ z q. ap (λ a. has a z) longer ∙ has_longer (path ms o) n z q) s.now.applied s.applied_own;
            }))
            (λ j ne p q.
            (let t = leads_kept h e ms j p (reign_push h e j ∙ ap (λ z. cond z (with_certified (reign h j) n) (reign h j)) (ne_eqb g j (λ z. ne (sym z)))) (r.leaders_said j p q) in
            let kp : bound p ≤ length ms = subst (λ (z : Role). bound (head z) ≤ length ms) q (known j) in
            record {
              now = t.now;
              reigning = t.reigning;
              head_said = t.head_said;
              initial_known = (let z = t.initial_known in omega arith);
              history_said = path_extends ms (m ∷ []) p kp ∙ t.history_said ∙ ap (λ z. z ++ t.now.certified) (sym (path_extends ms (m ∷ []) t.now.initial t.initial_known));
              applied_own = subst (λ a. AllByRecursion (λ z. has a z ≡ true) t.now.applied) (sym (path_extends ms (m ∷ []) p kp)) t.applied_own;
            }));
      }

  -- deliver
  still_leads : (v : View V) (n : ℕ) (x : Role) (o : Option ℕ) → role_after v n x ≡ Leader o → (x ≡ Leader o) × (has (path v.messages o) n ≡ true)
  still_leads v n Follower o e = absurd (follower_not_leader o e)
  still_leads v n (Leader p) o e =
      elim (cases_Bool (has (path v.messages p) n)) [
        | inl t ↦ (let q : Leader p ≡ Leader o = rw t at e in (q, subst (λ z. has (path v.messages z) n ≡ true) (same_head p o q) t))
        | inr f ↦ absurd (follower_not_leader o (rw f at e))
      ]

  pub reigns_applied : (h : History V) (v : View V) (g n : ℕ) → g < length v.gateways → Reigns h v → Reigns (h ++ (delivers g (Ok (report (message_at v n).outcome (is_home v g n) n)) ∷ [])) (with_gateway v g (advanced v g n))
  reigns_applied h v g n l r =
      let d = report (message_at v n).outcome (is_home v g n) n in
      let e : Entry V = delivers g (Ok d) in
      record {
        messages_said = r.messages_said ∙ sym (messages_push h e ∙ append-nil (messages h));
        leaders_said =
            each_after_set v.gateways g (advanced v g n) no_gateway (λ j y. (p : Option ℕ) → y.role ≡ Leader p → Leads (h ++ (e ∷ [])) v.messages j p) l
            (λ p q.
            (let s = still_leads v n (gateway_at v g).role p q in
            leads_applied h g d v.messages g p (subst (AllByRecursion (λ z. has (path v.messages p) z ≡ true)) (sym (ap (λ z. applied_message (when z (Some d))) (eq-eqb g g refl) ∙ reported (message_at v n).outcome (is_home v g n) n)) (s.1, tt)) (r.leaders_said g p s.0)))
            (λ j ne p q. leads_applied h g d v.messages j p (subst (AllByRecursion (λ z. has (path v.messages p) z ≡ true)) (sym (ap (λ z. applied_message (when z (Some d))) (ne_eqb g j (λ z. ne (sym z))))) tt) (r.leaders_said j p q));
      }
