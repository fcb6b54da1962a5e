-- What the broadcast promises, over histories: its safety clauses by their usual names.
use Rattle.std.specs.Prelude.{◌≡◌, ℕ, ◌<◌, Bool, true, cond, List, [], ◌∷◌, ◌++◌, length, Some, None, Ok, Err, Option, ◌==◌, ◌≢◌, slice_index_or}
use Rattle.std.specs.List.{AllByRecursion}
use Rattle.protocol.specs.declared.answers.Certified.{Certified}
use Rattle.protocol.specs.declared.answers.Delivery.{Delivery}
use Rattle.protocol.specs.declared.answers.Delivery.TheVariants.{Discard}
use Rattle.protocol.specs.declared.records.Message.{Message}
use Rattle.protocol.specs.Paths.{no_message, prior, path}
use Rattle.protocol.specs.Calls.{or_else}
use Rattle.protocol.specs.Roles.{has}
use Rattle.protocol.specs.Deliver.{same_point, report}
use Rattle.runs.specs.Runs.{World, Start, Entry, opens, reads, writes, submits, abandons, elects, recalls, certifies, stirs, delivers, looks, History, Reached}
use Rattle.runs.specs.Words.{given, when, applied_message, applied_in, applied, Decision, decision, was_submitted, home}

-- the last message of a sequence
abbrev pub last : List ℕ → Option ℕ
last [] = None
last (n ∷ p) = or_else (last p) (Some n)

-- a gateway's time as a leader: where its initial history ends, and what it has certified and applied since
pub record Reign : Type 0 where
  pub initial : Option ℕ
  pub certified : List ℕ
  pub applied : List ℕ

-- the reign that an election begins
abbrev pub elected : Option ℕ → Reign
elected o = record { initial = o; certified = []; applied = [] }

-- one more message was certified in a reign
abbrev pub with_certified : Option Reign → ℕ → Option Reign
with_certified None n = None
with_certified (Some r) n = Some (record { initial = r.initial; certified = r.certified ++ (n ∷ []); applied = r.applied })

-- more messages were applied in a reign
abbrev pub with_applied : Option Reign → List ℕ → Option Reign
with_applied None p = None
with_applied (Some r) p = Some (record { initial = r.initial; certified = r.certified; applied = r.applied ++ p })

-- gateway g's reign after one more entry, where it had applied a sequence before; an election without a name has the
-- last applied message for the end of the initial history
abbrev pub reign_after : {V : Type 0} → ℕ → List ℕ → Option Reign → Entry V → Option Reign
reign_after g done r (elects i named (Ok u)) = cond (i == g) (Some (elected (or_else named (last done)))) r
reign_after g done r (elects i named (Err e)) = r
reign_after g done r (recalls i (Ok u)) = cond (i == g) None r
reign_after g done r (recalls i (Err e)) = r
reign_after g done r (certifies i k (Ok c)) = cond (i == g) (with_certified r c.number) r
reign_after g done r (certifies i k (Err e)) = r
reign_after g done r (delivers i x) = with_applied r (applied_message (when (i == g) (given x)))
reign_after g done r (opens i x) = r
reign_after g done r (reads k s x) = r
reign_after g done r (writes k s y x) = r
reign_after g done r (submits k x) = r
reign_after g done r (abandons k x) = r
reign_after g done r (stirs y x) = r
reign_after g done r (looks i s x) = r

-- gateway g's reign after more entries, from what it had applied and its reign before them
abbrev pub reign_from : {V : Type 0} → ℕ → List ℕ → Option Reign → History V → Option Reign
reign_from g done r [] = r
reign_from g done r (e ∷ h) = reign_from g (done ++ applied_in g e) (reign_after g done r e) h

-- gateway g's reign, from its election on; none before it and after a recall
abbrev pub reign : {V : Type 0} → History V → ℕ → Option Reign
reign h g = reign_from g [] None h

-- where the leader's history ends: in the last message of the reign, or else where the initial history does
abbrev pub history_end : Option Reign → Option ℕ
history_end None = None
history_end (Some r) = or_else (last r.certified) r.initial

-- the message that an entry made, after the calls before it: its precedent is the end of its leader's history
abbrev pub message_in : {V : Type 0} → History V → Entry V → List Message
message_in before (certifies g k (Ok c)) = record { precedent = history_end (reign before g); change = k; outcome = c.outcome } ∷ []
message_in before (certifies g k (Err e)) = []
message_in before (opens g r) = []
message_in before (reads k s r) = []
message_in before (writes k s x r) = []
message_in before (submits k r) = []
message_in before (abandons k r) = []
message_in before (elects g m r) = []
message_in before (recalls g r) = []
message_in before (stirs x r) = []
message_in before (delivers g r) = []
message_in before (looks g s r) = []

-- the messages that entries made, after the calls before them
abbrev pub messages_from : {V : Type 0} → History V → History V → List Message
messages_from before [] = []
messages_from before (e ∷ h) = message_in before e ++ messages_from (before ++ (e ∷ [])) h

-- the messages that were certified, each at its number
abbrev pub messages : {V : Type 0} → History V → List Message
messages h = messages_from [] h

-- a history has an entry right after other calls
abbrev pub Next : {V : Type 0} → History V → History V → Entry V → Type 0
Next {V} h before e = (later : History V) × (h ≡ before ++ (e ∷ later))

-- gateway g is in a reign, in which it applied nothing but its initial history and what it certified
abbrev pub InReign : {V : Type 0} → History V → ℕ → Type 0
InReign h g = (r : Reign) × (reign h g ≡ Some r) × AllByRecursion (λ n. has (path (messages h) r.initial ++ r.certified) n ≡ true) r.applied

-- some leader certified message n
abbrev pub WasCertified : {V : Type 0} → History V → ℕ → Type 0
WasCertified h n = (x : Decision) × (decision h n ≡ Some x)

-- message n is not for change k
abbrev pub ForAnother : {V : Type 0} → History V → ℕ → ℕ → Type 0
ForAnother h k n = (x : Decision) → decision h n ≡ Some x → x.change ≢ k

-- what the broadcast promises of a history
pub record Broadcast {V : Type 0} (h : History V) (w : World V) : Type 0 where
  -- a message's precedent is the message before it in its leader's reign, else the last one of the initial history, which
  -- is the leader's last applied one where the election named none, else none
  pub precedent : w.site.messages ≡ messages h
  -- it is a lower number, and so the message before
  pub precedent_is_lower : (n : ℕ) → n < length (messages h) → prior (messages h) n ≡ (slice_index_or (messages h) n no_message).precedent
  -- certify answers the number of its message
  pub number : (before : History V) (g k : ℕ) (c : Certified) → Next h before (certifies g k (Ok c)) → c.number ≡ length (messages before)
  -- from its election on, a leader applies nothing but its initial history and what it certified since: the first
  -- foreign message applied ends the reign, and so does a recall; only in a reign is a certify or a recall served
  pub leader_reign : (before : History V) (g k : ℕ) (c : Certified) → Next h before (certifies g k (Ok c)) → InReign before g
  pub leader_reign_to_recall : (before : History V) (g : ℕ) → Next h before (recalls g (Ok tt)) → InReign before g
  -- a gateway applies only what some leader certified before
  pub validity : (before : History V) (g n : ℕ) (d : Delivery) → Next h before (delivers g (Ok d)) → applied_message (Some d) ≡ n ∷ [] → WasCertified before n
  -- and answers as it was certified; at the change's home an abort is a restart
  pub validity_of_answers : (before : History V) (g n : ℕ) (d : Delivery) (x : Decision) → Next h before (delivers g (Ok d)) → applied_message (Some d) ≡ n ∷ [] → decision before n ≡ Some x → d ≡ report x.outcome (same_point (home before x.change) (Some g)) n
  -- a gateway decides each change at most once
  pub validity_once : (g : ℕ) (earlier between later : List ℕ) (m n : ℕ) (x : Decision) → applied h g ≡ earlier ++ (m ∷ (between ++ (n ∷ later))) → decision h m ≡ Some x → ForAnother h x.change n
  -- a leader certifies only what was submitted
  pub leader_validity : (before : History V) (g k : ℕ) (c : Certified) → Next h before (certifies g k (Ok c)) → was_submitted before k ≡ true
  -- a leader certifies each change at most once in a reign
  pub leader_validity_once : (before : History V) (g k : ℕ) (c : Certified) (r : Reign) → Next h before (certifies g k (Ok c)) → reign before g ≡ Some r → AllByRecursion (ForAnother before k) r.certified
  -- a message that is applied has the gateway's last applied message for its precedent
  pub order : (before : History V) (g n : ℕ) (d : Delivery) → Next h before (delivers g (Ok d)) → applied_message (Some d) ≡ n ∷ [] → prior (messages before) n ≡ last (applied before g)
  -- a message that is discarded has another
  pub order_only : (before : History V) (g n : ℕ) → Next h before (delivers g (Ok (Discard n))) → prior (messages before) n ≢ last (applied before g)

-- for every list of calls, whatever the carrier and the start
abbrev pub Broadcasts : {V : Type 0} → (V → V → Bool) → Type 0
Broadcasts {V} alike = (b : Start V) (h : History V) (w : World V) → Reached alike b h w → Broadcast h w
