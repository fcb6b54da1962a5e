-- The calls that are served, each with what its refusals leave out: what proofs by cases go over.
use Rattle.std.proofs.Common.{◌≡◌, ℕ, ◌+◌, ◌<◌, ◌≤◌, Bool, true, false, cond, not, ◌&&◌, ltb, leb, List, [], ◌∷◌, ◌++◌, length, get_or, set, Some, None, Ok, Err, Option, Result, sym, refl, ap, ◌∙◌, subst, inl, inr, arith}
use Rattle.std.proofs.lemmas.List.{set-get_or}
use Rattle.std.proofs.lemmas.List.Prefix.{front_rest}
use Rattle.std.proofs.lemmas.Bool.{not-false, eqb-true, cond-true, cond-false, cases_Bool, both_ways, or_parts, ltb-false, leb-false}
use Rattle.std.specs.List.{AllByRecursion}
use Rattle.base.specs.declared.refusal.Refusal.{Refusal}
use Rattle.base.specs.Refusals.{Checks, first, answered, left, told}
use Rattle.carrier.specs.Meaning.{Meaning, Sound, Stirred, with_count, with_places, full, after_offer, waits, taken, after_take}
use Rattle.protocol.specs.declared.answers.Delivery.TheVariants.{Nothing, Discard}
use Rattle.protocol.specs.declared.records.Cell.{Cell}
use Rattle.protocol.specs.declared.records.Outcome.TheVariants.{Commit, Abort}
use Rattle.protocol.specs.declared.records.Role.TheVariants.{Follower, Leader}
use Rattle.protocol.specs.declared.records.State.{State}
use Rattle.protocol.specs.declared.records.State.TheVariants.{Open, Submitted, Abandoned}
use Rattle.protocol.specs.Paths.{bound, path, depth}
use Rattle.protocol.specs.View.{View, change_at, gateway_at, is_open, with_changes, with_change}
use Rattle.protocol.specs.Calls.{open_checks, open_refused, opened, after_open, or_else, is_none, known, depth_in, home_cell, value_in, read_checks, read_refused, read_value, with_note, noted, after_read, with_update, write_checks, write_refused, after_write, submitted, submit_checks, submit_refused, updates_left, after_submit, abandon_checks, abandon_refused, with_state, after_abandon, stir_refused, look_refused, look_value}
use Rattle.protocol.specs.Roles.{leads, head, lacks, with_gateway, with_role, no_history, elect_checks, elect_refused, after_elect, recall_checks, recall_refused, after_recall}
use Rattle.protocol.specs.Certify.{message_at, is_submitted, history, decides, conflict, behind, outcome_of, certify_checks, certify_refused, new_message, certified, with_message, after_certify}
use Rattle.protocol.specs.Deliver.{deliver_checks, deliver_refused, applies, advanced, report, is_home, delivered_of, delivered, after_message, after_deliver}
use Rattle.runs.specs.Runs.{World, with_site, with_carrier, Entry, opens, reads, writes, submits, abandons, elects, recalls, certifies, stirs, delivers, looks, Step, by_open, by_read, by_write, by_submit, by_abandon, by_elect, by_recall, by_certify, by_stir, by_deliver, by_look}
use Rattle.runs.specs.Law.{Begins}
use Rattle.runs.proofs.Paths.{not_lacking, begins_itself}
use Rattle.runs.proofs.Settings.{none_not_some, some_same}

-- an answer that is a refusal
abbrev pub Refused : {V : Type 0} → Entry V → Type 0
Refused (opens g r) = (e : Refusal) × (r ≡ Err e)
Refused (reads k s r) = (e : Refusal) × (r ≡ Err e)
Refused (writes k s x r) = (e : Refusal) × (r ≡ Err e)
Refused (submits k r) = (e : Refusal) × (r ≡ Err e)
Refused (abandons k r) = (e : Refusal) × (r ≡ Err e)
Refused (elects g m r) = (e : Refusal) × (r ≡ Err e)
Refused (recalls g r) = (e : Refusal) × (r ≡ Err e)
Refused (certifies g k r) = (e : Refusal) × (r ≡ Err e)
Refused (stirs x r) = (e : Refusal) × (r ≡ Err e)
Refused (delivers g r) = (e : Refusal) × (r ≡ Err e)
Refused (looks g s r) = (e : Refusal) × (r ≡ Err e)

-- gateway g's place moves on by one
abbrev pub moved : Meaning → ℕ → Meaning
moved m g = with_places m (set m.places g (get_or m.places g 0 + 1))

pub data Served {V : Type 0} (alike : V → V → Bool) (w : World V) : Entry V → World V → Type 0 where
  refuses : (e : Entry V) → Refused e → Served alike w e w
  opens_change : (g : ℕ) → g < length w.site.gateways → Served alike w (opens g (Ok (length w.site.changes))) (with_site w (with_changes w.site (w.site.changes ++ (opened w.site g ∷ []))))
  reads_known : (k s : ℕ) (x : V) → k < length w.site.changes → (change_at w.site k).state ≡ Open → known (change_at w.site k) s ≡ Some x → Served alike w (reads k s (Ok x)) w
  reads_cell : (k s : ℕ) (c : Cell V) → k < length w.site.changes → (change_at w.site k).state ≡ Open → known (change_at w.site k) s ≡ None → home_cell w.site k s ≡ Some c → c.depth ≤ depth w.site.messages (change_at w.site k).opening → Served alike w (reads k s (Ok c.value)) (with_site w (with_change w.site k (with_note (change_at w.site k) s (Some c.value))))
  writes_value : (k s : ℕ) (x : V) → k < length w.site.changes → (change_at w.site k).state ≡ Open → Served alike w (writes k s x (Ok tt)) (with_site w (with_change w.site k (with_update (change_at w.site k) s x)))
  submits_change : (k n : ℕ) → k < length w.site.changes → (change_at w.site k).state ≡ Open → Served alike w (submits k (Ok n)) (with_site w (with_change w.site k (submitted alike (change_at w.site k))))
  abandons_change : (k : ℕ) → k < length w.site.changes → (change_at w.site k).state ≡ Open → Served alike w (abandons k (Ok tt)) (with_site w (with_change w.site k (with_state (change_at w.site k) Abandoned)))
  elects_leader : (g : ℕ) (named : Option ℕ) → g < length w.site.gateways → bound named ≤ length w.site.messages → Begins (path w.site.messages (gateway_at w.site g).tip) (path w.site.messages (or_else named (gateway_at w.site g).tip)) → Served alike w (elects g named (Ok tt)) (with_site w (with_role w.site g (Leader (or_else named (gateway_at w.site g).tip))))
  recalls_leader : (g : ℕ) → g < length w.site.gateways → leads (gateway_at w.site g).role ≡ true → Served alike w (recalls g (Ok tt)) (with_site w (with_role w.site g Follower))
  decides_change : (g k : ℕ) → g < length w.site.gateways → k < length w.site.changes → leads (gateway_at w.site g).role ≡ true → (change_at w.site k).state ≡ Submitted → decides w.site k (history w.site g) ≡ false
      → (between : List ℕ) → history w.site g ≡ path w.site.messages (change_at w.site k).opening ++ between → outcome_of w.site g k ≡ cond (conflict w.site (change_at w.site k) between) Abort Commit
      → Served alike w (certifies g k (Ok (record { number = length w.site.messages; outcome = outcome_of w.site g k })))
      (record { site = with_role (with_message w.site (new_message w.site g k)) g (Leader (Some (length w.site.messages))); carrier = with_count w.carrier (w.carrier.count + 1) })
  stirs_line : (x : ℕ) (m : Meaning) (joined : ℕ) → Stirred w.carrier m joined → Sound m → Served alike w (stirs x (Ok joined)) (with_carrier w m)
  takes_nothing : (g : ℕ) → Served alike w (delivers g (Ok Nothing)) w
  discards_message : (g n : ℕ) → g < length w.site.gateways → waits w.carrier g ≡ true → n ≡ get_or w.carrier.line (get_or w.carrier.places g 0) 0 → applies w.site g n ≡ false → Served alike w (delivers g (Ok (Discard n))) (with_carrier w (moved w.carrier g))
  applies_message : (g n : ℕ) → g < length w.site.gateways → waits w.carrier g ≡ true → n ≡ get_or w.carrier.line (get_or w.carrier.places g 0) 0 → applies w.site g n ≡ true → Served alike w (delivers g (Ok (report (message_at w.site n).outcome (is_home w.site g n) n))) (record { site = with_gateway w.site g (advanced w.site g n); carrier = moved w.carrier g })
  looks_up : (g s : ℕ) (x : V) → Served alike w (looks g s (Ok x)) w

-- where a call is not refused, none of its conditions holds
pub none_holds : (cs : Checks) → first cs ≡ None → AllByRecursion (λ c. c.0 ≡ false) cs
none_holds [] e = tt
none_holds (c ∷ cs) e =
    elim (cases_Bool c.0) [
      | inl t ↦ absurd (none_not_some c.1 (sym (rw t at e)))
      | inr f ↦ (f, none_holds cs (rw f at e))
    ]

is_open_state : (s : State) → not (is_open s) ≡ false → s ≡ Open
is_open_state Open e = refl
is_open_state Submitted e = absurd (both_ways true e refl)
is_open_state Abandoned e = absurd (both_ways true e refl)

is_submitted_state : (s : State) → not (is_submitted s) ≡ false → s ≡ Submitted
is_submitted_state Open e = absurd (both_ways true e refl)
is_submitted_state Submitted e = refl
is_submitted_state Abandoned e = absurd (both_ways true e refl)

module _ {V : Type 0} (alike : V → V → Bool) (w : World V) where
  abbrev v : View V
  v = w.site

  serve_open : (g : ℕ) (o : Option Refusal) → open_refused v g ≡ o → Served alike w (opens g (answered o (length v.changes))) (left o w (with_site w (after_open v g)))
  unfolding open_refused after_open
  serve_open g (Some e) h = refuses (opens g (Err e)) (e, refl)
  serve_open g None h = let a = none_holds (open_checks v g) h in opens_change g (leb-false _ _ a.0)

  told_some : {A : Type 0} (e : Refusal) (a : Option A) (r : Result A Refusal) → told (Some e) a ≡ Some r → r ≡ Err e
  told_some e a r h = sym (some_same (Err e) r h)

  told_none : {A : Type 0} (a : Option A) (r : Result A Refusal) → told None a ≡ Some r → (x : A) × (a ≡ Some x) × (r ≡ Ok x)
  told_none None r h = absurd (none_not_some r h)
  told_none (Some x) r h = (x, refl, sym (some_same (Ok x) r h))

  not_overwritten : (d : ℕ) (o : Option (Cell V)) (c : Cell V) → o ≡ Some c → ltb d (depth_in o) ≡ false → c.depth ≤ d
  not_overwritten d None c e h = absurd (none_not_some c e)
  not_overwritten d (Some x) c e h = let y : x ≡ c = some_same x c e in subst (λ (z : Cell V). z.depth ≤ d) y (ltb-false d x.depth h)

  serve_read_by : (k s : ℕ) (x : V) → k < length v.changes → (change_at v k).state ≡ Open → (o : Option V) (c : Option (Cell V)) → known (change_at v k) s ≡ o → home_cell v k s ≡ c → ((is_none o && ltb (depth v.messages (change_at v k).opening) (depth_in c)) ≡ false) → or_else o (value_in c) ≡ Some x
      → Served alike w (reads k s (Ok x)) (with_site w (with_change v k (noted (change_at v k) s o (value_in c))))
  serve_read_by k s x l st (Some y) c eo ec h r =
      let z : with_site w (with_change v k (change_at v k)) ≡ w = ap (λ cs. with_site w (with_changes v cs)) (set-get_or v.changes k _) in
      subst (λ u. Served alike w (reads k s (Ok x)) u) (sym z) (reads_known k s x l st (eo ∙ r))
  serve_read_by k s x l st None None eo ec h r = absurd (none_not_some x r)
  serve_read_by k s x l st None (Some c) eo ec h r =
      let e : c.value ≡ x = some_same c.value x r in
      subst (λ y. Served alike w (reads k s (Ok y)) (with_site w (with_change v k (with_note (change_at v k) s (Some c.value))))) e
      (reads_cell k s c l st eo ec (ltb-false (depth v.messages (change_at v k).opening) c.depth h))

  serve_read : (k s : ℕ) (r : Result V Refusal) (o : Option Refusal) → read_refused v k s ≡ o → told o (read_value v k s) ≡ Some r → Served alike w (reads k s r) (left o w (with_site w (after_read v k s)))
  unfolding read_refused read_value after_read
  serve_read k s r (Some e) h t = refuses (reads k s r) (e, told_some e (read_value v k s) r t)
  serve_read k s r None h t =
      let a = none_holds (read_checks v k s) h in
      let x = told_none (read_value v k s) r t in
      rw x.2 (serve_read_by k s x.0 (leb-false _ _ a.1.1.1.0) (is_open_state _ a.1.1.1.1.1.0) (known (change_at v k) s) (home_cell v k s) refl refl a.1.1.1.1.1.1.0 x.1)

  serve_write : (k s : ℕ) (x : V) (o : Option Refusal) → write_refused v k s x ≡ o → Served alike w (writes k s x (answered o tt)) (left o w (with_site w (after_write v k s x)))
  unfolding write_refused after_write
  serve_write k s x (Some e) h = refuses (writes k s x (Err e)) (e, refl)
  serve_write k s x None h = let a = none_holds (write_checks v k s x) h in writes_value k s x (leb-false _ _ a.1.0) (is_open_state _ a.1.1.1.0)

  serve_submit : (k : ℕ) (o : Option Refusal) → submit_refused v k ≡ o → Served alike w (submits k (answered o (updates_left alike v k))) (left o w (with_site w (after_submit alike v k)))
  unfolding submit_refused after_submit
  serve_submit k (Some e) h = refuses (submits k (Err e)) (e, refl)
  serve_submit k None h = let a = none_holds (submit_checks v k) h in submits_change k (updates_left alike v k) (leb-false _ _ a.1.1.0) (is_open_state _ a.1.1.1.0)

  serve_abandon : (k : ℕ) (o : Option Refusal) → abandon_refused v k ≡ o → Served alike w (abandons k (answered o tt)) (left o w (with_site w (after_abandon v k)))
  unfolding abandon_refused after_abandon
  serve_abandon k (Some e) h = refuses (abandons k (Err e)) (e, refl)
  serve_abandon k None h = let a = none_holds (abandon_checks v k) h in abandons_change k (leb-false _ _ a.0) (is_open_state _ a.1.0)

  elect_named : (g : ℕ) (named : Option ℕ) → g < length v.gateways → no_history v g named ≡ false → Served alike w (elects g named (Ok tt)) (with_site w (with_role v g (Leader (or_else named (gateway_at v g).tip))))
  elect_named g None l h = elects_leader g None l (omega arith) (begins_itself _)
  elect_named g (Some m) l h =
      let p = or_parts (leb (length v.messages) m) (lacks (path v.messages (Some m)) (gateway_at v g).tip) h in
      elects_leader g (Some m) l (leb-false (length v.messages) m p.0) (not_lacking v.messages (gateway_at v g).tip (Some m) p.1)

  serve_elect : (g : ℕ) (named : Option ℕ) (o : Option Refusal) → elect_refused v g named ≡ o → Served alike w (elects g named (answered o tt)) (left o w (with_site w (after_elect v g named)))
  unfolding elect_refused after_elect
  serve_elect g named (Some e) h = refuses (elects g named (Err e)) (e, refl)
  serve_elect g named None h = let a = none_holds (elect_checks v g named) h in elect_named g named (leb-false _ _ a.0) a.1.1.0

  serve_recall : (g : ℕ) (o : Option Refusal) → recall_refused v g ≡ o → Served alike w (recalls g (answered o tt)) (left o w (with_site w (after_recall v g)))
  unfolding recall_refused after_recall
  serve_recall g (Some e) h = refuses (recalls g (Err e)) (e, refl)
  serve_recall g None h = let a = none_holds (recall_checks v g) h in recalls_leader g (leb-false _ _ a.0) (not-false _ a.1.0)

  serve_certify : (g k : ℕ) (o : Option Refusal) → certify_refused v w.carrier g k ≡ o → Served alike w (certifies g k (answered o (certified v w.carrier g k))) (left o w (record { site = after_certify v w.carrier g k; carrier = after_offer w.carrier }))
  unfolding certify_refused after_certify certified
  serve_certify g k (Some e) h = refuses (certifies g k (Err e)) (e, refl)
  serve_certify g k None h =
      let a = none_holds (certify_checks v w.carrier g k) h in
      let c : w.carrier.count ≡ length v.messages = eqb-true _ _ (not-false _ (or_parts _ _ a.1.1.0).0) in
      let f : full w.carrier ≡ false = (or_parts _ _ a.1.1.1.1.1.1.1.1.1.0).1 in
      let n : after_offer w.carrier ≡ with_count w.carrier (w.carrier.count + 1) = cond-false _ _ _ f in
      let b = not_lacking v.messages (change_at v k).opening (head (gateway_at v g).role) a.1.1.1.1.1.1.1.1.0 in
      let r : behind v (change_at v k).opening (history v g) ≡ b.0 = front_rest (history v g) (path v.messages (change_at v k).opening) b.0 b.1 in
      let s = decides_change g k (leb-false _ _ a.1.1.1.0) (leb-false _ _ a.1.1.1.1.0) (not-false _ a.1.1.1.1.1.0) (is_submitted_state _ a.1.1.1.1.1.1.0) a.1.1.1.1.1.1.1.0
      b.0 b.1 (ap (λ z. cond (conflict v (change_at v k) z) Abort Commit) r) in
      subst (λ z. Served alike w (certifies g k (Ok (record { number = w.carrier.count; outcome = outcome_of v g k }))) (record { site = with_role (with_message v (new_message v g k)) g (Leader (Some w.carrier.count)); carrier = z })) (sym n)
      (subst (λ z. Served alike w (certifies g k (Ok (record { number = z; outcome = outcome_of v g k }))) (record { site = with_role (with_message v (new_message v g k)) g (Leader (Some z)); carrier = with_count w.carrier (w.carrier.count + 1) })) (sym c) s)

  serve_stir : (x : ℕ) (m : Meaning) (joined : ℕ) → Stirred w.carrier m joined → Sound m → (o : Option Refusal) → stir_refused v w.carrier ≡ o → Served alike w (stirs x (answered o joined)) (left o w (with_carrier w m))
  serve_stir x m joined st so (Some e) h = refuses (stirs x (Err e)) (e, refl)
  serve_stir x m joined st so None h = stirs_line x m joined st so

  serve_message : (g n : ℕ) → g < length v.gateways → waits w.carrier g ≡ true → n ≡ get_or w.carrier.line (get_or w.carrier.places g 0) 0 → Served alike w (delivers g (Ok (delivered_of v g (Some n)))) (record { site = after_message v g (Some n); carrier = moved w.carrier g })
  serve_message g n l h e =
      elim (cases_Bool (applies v g n)) [
        | inl t ↦ rw t (applies_message g n l h e t)
        | inr f ↦ rw f (discards_message g n l h e f)
      ]

  serve_taken : (g : ℕ) → g < length v.gateways → Served alike w (delivers g (Ok (delivered_of v g (taken w.carrier g)))) (record { site = after_message v g (taken w.carrier g); carrier = after_take w.carrier g })
  serve_taken g l =
      elim (cases_Bool (waits w.carrier g)) [
        | inl t ↦
            (let n = get_or w.carrier.line (get_or w.carrier.places g 0) 0 in
            let a : taken w.carrier g ≡ Some n = cond-true _ _ _ t in
            let b : after_take w.carrier g ≡ moved w.carrier g = cond-true _ _ _ t in
            subst (λ o. Served alike w (delivers g (Ok (delivered_of v g o))) (record { site = after_message v g o; carrier = after_take w.carrier g })) (sym a)
            (subst (λ z. Served alike w (delivers g (Ok (delivered_of v g (Some n)))) (record { site = after_message v g (Some n); carrier = z })) (sym b) (serve_message g n l t refl)))
        | inr f ↦
            (let a : taken w.carrier g ≡ None = cond-false _ _ _ f in
            let b : after_take w.carrier g ≡ w.carrier = cond-false _ _ _ f in
            subst (λ o. Served alike w (delivers g (Ok (delivered_of v g o))) (record { site = after_message v g o; carrier = after_take w.carrier g })) (sym a)
            (subst (λ z. Served alike w (delivers g (Ok Nothing)) (record { site = v; carrier = z })) (sym b) (takes_nothing g)))
      ]

  serve_deliver : (g : ℕ) (o : Option Refusal) → deliver_refused v w.carrier g ≡ o → Served alike w (delivers g (answered o (delivered v w.carrier g))) (left o w (record { site = after_deliver v w.carrier g; carrier = after_take w.carrier g }))
  unfolding deliver_refused delivered after_deliver
  serve_deliver g (Some e) h = refuses (delivers g (Err e)) (e, refl)
  serve_deliver g None h = let a = none_holds (deliver_checks v w.carrier g) h in serve_taken g (leb-false _ _ a.1.1.1.0)

  serve_look : (g s : ℕ) (r : Result V Refusal) (o : Option Refusal) → told o (look_value v g s) ≡ Some r → Served alike w (looks g s r) w
  serve_look g s r (Some e) t = refuses (looks g s r) (e, told_some e (look_value v g s) r t)
  serve_look g s r None t = let x = told_none (look_value v g s) r t in rw x.2 (looks_up g s x.0)

  pub serve : {e : Entry V} {w' : World V} → Step alike w e w' → Served alike w e w'
  serve (by_open g) = serve_open g (open_refused v g) refl
  serve (by_read k s r t) = serve_read k s r (read_refused v k s) refl t
  serve (by_write k s x) = serve_write k s x (write_refused v k s x) refl
  serve (by_submit k) = serve_submit k (submit_refused v k) refl
  serve (by_abandon k) = serve_abandon k (abandon_refused v k) refl
  serve (by_elect g named) = serve_elect g named (elect_refused v g named) refl
  serve (by_recall g) = serve_recall g (recall_refused v g) refl
  serve (by_certify g k) = serve_certify g k (certify_refused v w.carrier g k) refl
  serve (by_stir x m joined a b) = serve_stir x m joined a b (stir_refused v w.carrier) refl
  serve (by_deliver g) = serve_deliver g (deliver_refused v w.carrier g) refl
  serve (by_look g s r t) = serve_look g s r (look_refused v g s) t
