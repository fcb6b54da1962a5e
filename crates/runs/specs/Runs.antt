-- Lists of calls on one site and its carrier: each call with its answer, what it does, and where a list of calls leads.
use Rattle.std.specs.Prelude.{◌≡◌, ℕ, Bool, List, [], ◌∷◌, ◌++◌, length, take, Some, None, Option, Result}
use Rattle.base.specs.declared.refusal.Refusal.{Refusal}
use Rattle.base.specs.Refusals.{answered, left, told}
use Rattle.carrier.specs.Meaning.{Meaning, Sound, Stirred, after_offer, after_take}
use Rattle.protocol.specs.declared.answers.Certified.{Certified}
use Rattle.protocol.specs.declared.answers.Delivery.{Delivery}
use Rattle.protocol.specs.View.{Room, View}
use Rattle.protocol.specs.Calls.{new_refused, started, open_refused, after_open, read_refused, read_value, after_read, write_refused, after_write, submit_refused, updates_left, after_submit, abandon_refused, after_abandon, stir_refused, look_refused, look_value}
use Rattle.protocol.specs.Roles.{elect_refused, after_elect, recall_refused, after_recall}
use Rattle.protocol.specs.Certify.{certify_refused, certified, after_certify}
use Rattle.protocol.specs.Deliver.{deliver_refused, delivered, after_deliver}

-- a site and its carrier
pub record World (V : Type 0) : Type 0 where
  pub site : View V
  pub carrier : Meaning

-- the same carrier with another site
abbrev pub with_site : {V : Type 0} → World V → View V → World V
with_site w v = record { site = v; carrier = w.carrier }

-- the same site with another carrier
abbrev pub with_carrier : {V : Type 0} → World V → Meaning → World V
with_carrier w m = record { site = w.site; carrier = m }

-- what new is called with
pub record Start (V : Type 0) : Type 0 where
  pub carrier : Meaning
  pub settings : ℕ
  pub limit : ℕ
  pub initial : List V
  pub room : Room

-- the initial settings: one value for each
abbrev pub initial_settings : {V : Type 0} → Start V → List V
initial_settings b = take b.settings b.initial

-- the world that new leaves
abbrev pub begun : {V : Type 0} → Start V → World V
begun b = record { site = started b.carrier b.settings b.limit b.initial b.room; carrier = b.carrier }

-- new is served on a sound carrier
pub record ServedNew {V : Type 0} (b : Start V) : Type 0 where
  pub sound : Sound b.carrier
  pub served : new_refused b.carrier b.settings b.limit b.room.cells (length b.initial) ≡ None

-- a call, with its answer
pub data Entry (V : Type 0) : Type 0 where
  opens : (gateway : ℕ) → Result ℕ Refusal → Entry V
  reads : (change setting : ℕ) → Result V Refusal → Entry V
  writes : (change setting : ℕ) → V → Result (Unit {0}) Refusal → Entry V
  submits : (change : ℕ) → Result ℕ Refusal → Entry V
  abandons : (change : ℕ) → Result (Unit {0}) Refusal → Entry V
  elects : (gateway : ℕ) → Option ℕ → Result (Unit {0}) Refusal → Entry V
  recalls : (gateway : ℕ) → Result (Unit {0}) Refusal → Entry V
  certifies : (gateway change : ℕ) → Result Certified Refusal → Entry V
  stirs : ℕ → Result ℕ Refusal → Entry V
  delivers : (gateway : ℕ) → Result Delivery Refusal → Entry V
  looks : (gateway setting : ℕ) → Result V Refusal → Entry V

-- calls with their answers, the earliest first
abbrev pub History : Type 0 → Type 0
History V = List (Entry V)

-- one call: it answers and leaves what its definition says; what a stir appends to the line is the carrier's own
pub data Step {V : Type 0} (alike : V → V → Bool) (w : World V) : Entry V → World V → Type 0 where
  by_open : (g : ℕ) →
      Step alike w (opens g (answered (open_refused w.site g) (length w.site.changes))) (left (open_refused w.site g) w (with_site w (after_open w.site g)))
  by_read : (k s : ℕ) (r : Result V Refusal) → told (read_refused w.site k s) (read_value w.site k s) ≡ Some r →
      Step alike w (reads k s r) (left (read_refused w.site k s) w (with_site w (after_read w.site k s)))
  by_write : (k s : ℕ) (x : V) →
      Step alike w (writes k s x (answered (write_refused w.site k s x) tt)) (left (write_refused w.site k s x) w (with_site w (after_write w.site k s x)))
  by_submit : (k : ℕ) →
      Step alike w (submits k (answered (submit_refused w.site k) (updates_left alike w.site k))) (left (submit_refused w.site k) w (with_site w (after_submit alike w.site k)))
  by_abandon : (k : ℕ) →
      Step alike w (abandons k (answered (abandon_refused w.site k) tt)) (left (abandon_refused w.site k) w (with_site w (after_abandon w.site k)))
  by_elect : (g : ℕ) (named : Option ℕ) →
      Step alike w (elects g named (answered (elect_refused w.site g named) tt)) (left (elect_refused w.site g named) w (with_site w (after_elect w.site g named)))
  by_recall : (g : ℕ) →
      Step alike w (recalls g (answered (recall_refused w.site g) tt)) (left (recall_refused w.site g) w (with_site w (after_recall w.site g)))
  by_certify : (g k : ℕ) →
      Step alike w (certifies g k (answered (certify_refused w.site w.carrier g k) (certified w.site w.carrier g k))) (left (certify_refused w.site w.carrier g k) w (record { site = after_certify w.site w.carrier g k; carrier = after_offer w.carrier }))
  by_stir : (x : ℕ) (m : Meaning) (joined : ℕ) → Stirred w.carrier m joined → Sound m →
      Step alike w (stirs x (answered (stir_refused w.site w.carrier) joined)) (left (stir_refused w.site w.carrier) w (with_carrier w m))
  by_deliver : (g : ℕ) →
      Step alike w (delivers g (answered (deliver_refused w.site w.carrier g) (delivered w.site w.carrier g))) (left (deliver_refused w.site w.carrier g) w (record { site = after_deliver w.site w.carrier g; carrier = after_take w.carrier g }))
  by_look : (g s : ℕ) (r : Result V Refusal) → told (look_refused w.site g s) (look_value w.site g s) ≡ Some r →
      Step alike w (looks g s r) w

-- where a list of calls leads: new, and then any calls in any order
pub data Reached {V : Type 0} (alike : V → V → Bool) (b : Start V) : History V → World V → Type 0 where
  new : ServedNew b → Reached alike b [] (begun b)
  then : {h : History V} {w w' : World V} {e : Entry V} → Reached alike b h w → Step alike w e w' → Reached alike b (h ++ (e ∷ [])) w'
