-- What a history says, read off its calls and answers alone. A sequence of messages has the earliest first; a point in it
-- is given by the messages up to and with that point, and the start by none.
use Rattle.std.specs.Prelude.{ℕ, suc, Bool, true, false, cond, not, ◌&&◌, List, [], ◌∷◌, Some, None, Ok, Err, Option, Result, ◌==◌}
use Rattle.std.specs.List.{flat_map}
use Rattle.base.specs.declared.refusal.Refusal.{Refusal}
use Rattle.protocol.specs.declared.answers.Delivery.{Delivery}
use Rattle.protocol.specs.declared.answers.Delivery.TheVariants.{Nothing, Discard, Commit, Abort, Restart}
use Rattle.protocol.specs.declared.records.Outcome.{Outcome}
use Rattle.protocol.specs.declared.records.Outcome.TheVariants as outcome
use Rattle.protocol.specs.Calls.{or_else, is_none, is_same}
use Rattle.runs.specs.Runs.{Entry, opens, reads, writes, submits, abandons, elects, recalls, certifies, stirs, delivers, looks, History}

-- what a served call gives
abbrev pub given : {A : Type 0} → Result A Refusal → Option A
given (Ok a) = Some a
given (Err e) = None

-- an answer, where a condition holds
abbrev pub when : {A : Type 0} → Bool → Option A → Option A
when true o = o
when false o = None

-- what the first entry says that says anything
abbrev pub first_said : {V A : Type 0} → (Entry V → Option A) → History V → Option A
first_said f [] = None
first_said f (e ∷ h) = or_else (f e) (first_said f h)

-- what the last entry says that says anything
abbrev pub last_said : {V A : Type 0} → (Entry V → Option A) → History V → Option A
last_said f [] = None
last_said f (e ∷ h) = or_else (last_said f h) (f e)

-- the message that a delivery applied
abbrev pub applied_message : Option Delivery → List ℕ
applied_message None = []
applied_message (Some Nothing) = []
applied_message (Some (Discard n)) = []
applied_message (Some (Commit n)) = n ∷ []
applied_message (Some (Abort n)) = n ∷ []
applied_message (Some (Restart n)) = n ∷ []

-- what an entry says that gateway g applied
abbrev pub applied_in : {V : Type 0} → ℕ → Entry V → List ℕ
applied_in g (delivers i r) = applied_message (when (i == g) (given r))
applied_in g (opens i r) = []
applied_in g (reads k s r) = []
applied_in g (writes k s x r) = []
applied_in g (submits k r) = []
applied_in g (abandons k r) = []
applied_in g (elects i m r) = []
applied_in g (recalls i r) = []
applied_in g (certifies i k r) = []
applied_in g (stirs x r) = []
applied_in g (looks i s r) = []

-- the messages that gateway g has applied, in its order
abbrev pub applied : {V : Type 0} → History V → ℕ → List ℕ
applied h g = flat_map (applied_in g) h

-- a change, and how it was decided
pub record Decision : Type 0 where
  pub change : ℕ
  pub outcome : Outcome

-- what an entry says of message m
abbrev pub decision_in : {V : Type 0} → ℕ → Entry V → Option Decision
decision_in m (certifies g k (Ok c)) = when (c.number == m) (Some (record { change = k; outcome = c.outcome }))
decision_in m (certifies g k (Err e)) = None
decision_in m (opens g r) = None
decision_in m (reads k s r) = None
decision_in m (writes k s x r) = None
decision_in m (submits k r) = None
decision_in m (abandons k r) = None
decision_in m (elects g n r) = None
decision_in m (recalls g r) = None
decision_in m (stirs x r) = None
decision_in m (delivers g r) = None
decision_in m (looks g s r) = None

-- the change that message m is for, with the outcome: what its certify answered
abbrev pub decision : {V : Type 0} → History V → ℕ → Option Decision
decision h m = first_said (decision_in m) h

-- what an entry says that change k read of setting s
abbrev pub read_in : {V : Type 0} → ℕ → ℕ → Entry V → Option V
read_in k s (reads j t r) = when (j == k && t == s) (given r)
read_in k s (opens g r) = None
read_in k s (writes j t x r) = None
read_in k s (submits j r) = None
read_in k s (abandons j r) = None
read_in k s (elects g m r) = None
read_in k s (recalls g r) = None
read_in k s (certifies g j r) = None
read_in k s (stirs x r) = None
read_in k s (delivers g r) = None
read_in k s (looks g t r) = None

-- a value that was written, where the write was served
abbrev pub where_served : {V : Type 0} → Option (Unit {0}) → V → Option V
where_served None x = None
where_served (Some u) x = Some x

-- what an entry says that change k wrote to setting s
abbrev pub write_in : {V : Type 0} → ℕ → ℕ → Entry V → Option V
write_in k s (writes j t x r) = when (j == k && t == s) (where_served (given r) x)
write_in k s (opens g r) = None
write_in k s (reads j t r) = None
write_in k s (submits j r) = None
write_in k s (abandons j r) = None
write_in k s (elects g m r) = None
write_in k s (recalls g r) = None
write_in k s (certifies g j r) = None
write_in k s (stirs x r) = None
write_in k s (delivers g r) = None
write_in k s (looks g t r) = None

-- the last served write of change k to setting s
abbrev pub last_write : {V : Type 0} → History V → ℕ → ℕ → Option V
last_write h k s = last_said (write_in k s) h

-- a served read gives the note; after a served write there is none; else what follows says
abbrev pub note_from : {V : Type 0} → (read written later : Option V) → Option V
note_from (Some x) o later = Some x
note_from None (Some y) later = None
note_from None None later = later

-- what change k read of setting s: the first answer of a read there, if that was before any served write of its own there
abbrev pub note : {V : Type 0} → History V → ℕ → ℕ → Option V
note [] k s = None
note (e ∷ h) k s = note_from (read_in k s e) (write_in k s e) (note h k s)

-- a value, unless it repeats a note
abbrev pub unrepeated : {V : Type 0} → (V → V → Bool) → Option V → Option V → Option V
unrepeated alike n None = None
unrepeated alike n (Some x) = cond (is_same alike n x) None (Some x)

-- what change k wrote to setting s, if submit left an update for it: the last value written, unless it repeats the note
abbrev pub wrote : {V : Type 0} → (V → V → Bool) → History V → ℕ → ℕ → Option V
wrote alike h k s = unrepeated alike (note h k s) (last_write h k s)

-- what an entry says of the submit of change k: how many updates it left
abbrev pub submit_in : {V : Type 0} → ℕ → Entry V → Option ℕ
submit_in k (submits j r) = when (j == k) (given r)
submit_in k (opens g r) = None
submit_in k (reads j s r) = None
submit_in k (writes j s x r) = None
submit_in k (abandons j r) = None
submit_in k (elects g m r) = None
submit_in k (recalls g r) = None
submit_in k (certifies g j r) = None
submit_in k (stirs x r) = None
submit_in k (delivers g r) = None
submit_in k (looks g s r) = None

-- whether change k was submitted
abbrev pub was_submitted : {V : Type 0} → History V → ℕ → Bool
was_submitted h k = not (is_none (first_said (submit_in k) h))

-- the home of a change that an answer has the number of
abbrev pub home_where : Option ℕ → ℕ → ℕ → Option ℕ
home_where None k g = None
home_where (Some j) k g = when (j == k) (Some g)

-- what an entry says of the home of change k
abbrev pub home_in : {V : Type 0} → ℕ → Entry V → Option ℕ
home_in k (opens g r) = home_where (given r) k g
home_in k (reads j s r) = None
home_in k (writes j s x r) = None
home_in k (submits j r) = None
home_in k (abandons j r) = None
home_in k (elects g m r) = None
home_in k (recalls g r) = None
home_in k (certifies g j r) = None
home_in k (stirs x r) = None
home_in k (delivers g r) = None
home_in k (looks g s r) = None

-- the gateway that change k runs on
abbrev pub home : {V : Type 0} → History V → ℕ → Option ℕ
home h k = first_said (home_in k) h

-- the entries before the one that opened change k
abbrev pub before_opening : {V : Type 0} → History V → ℕ → History V
before_opening [] k = []
before_opening (e ∷ h) k = cond (is_none (home_in k e)) (e ∷ before_opening h k) []

-- what a gateway has applied, if there is one
abbrev pub applied_at : {V : Type 0} → History V → Option ℕ → List ℕ
applied_at h None = []
applied_at h (Some g) = applied h g

-- the opening point of change k: what its home had applied when the change opened
abbrev pub opening : {V : Type 0} → History V → ℕ → List ℕ
opening h k = applied_at (before_opening h k) (home h k)

-- a new value, or else the old one
abbrev pub value_or : {V : Type 0} → Option V → V → V
value_or None x = x
value_or (Some y) x = y

-- settings, with new values for some of them
abbrev pub put : {V : Type 0} → List V → (ℕ → Option V) → List V
put [] new = []
put (x ∷ xs) new = value_or (new 0) x ∷ put xs (λ s. new (suc s))

-- settings after a decision: a commit puts in what its change wrote, an abort nothing
abbrev pub after_outcome : {V : Type 0} → Outcome → (ℕ → Option V) → List V → List V
after_outcome outcome.Commit new l = put l new
after_outcome outcome.Abort new l = l

-- settings after a message, by what is known of its decision
abbrev pub after_decision : {V : Type 0} → (V → V → Bool) → History V → Option Decision → List V → List V
after_decision alike h None l = l
after_decision alike h (Some d) l = after_outcome d.outcome (wrote alike h d.change) l

-- held at a point: settings after each message up to and with that point, in turn
abbrev pub held : {V : Type 0} → (V → V → Bool) → History V → List V → List ℕ → List V
held alike h l [] = l
held alike h l (m ∷ p) = held alike h (after_decision alike h (decision h m) l) p
