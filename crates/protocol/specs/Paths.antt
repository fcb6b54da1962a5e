-- The path of a message: the path of its precedent, then itself.
use Rattle.std.specs.Prelude.{ℕ, zero, suc, cond, List, [], ◌∷◌, ◌++◌, length, Some, None, Option, nat_lt, slice_index_or}
use Rattle.protocol.specs.declared.records.Message.{Message}
use Rattle.protocol.specs.declared.records.Outcome.TheVariants.{Commit}

-- what is read past the last message
abbrev pub no_message : Message
no_message = record { precedent = None; change = 0; outcome = Commit }

-- a point (a message or none), where it lies below message m
abbrev pub lower : ℕ → Option ℕ → Option ℕ
lower m None = None
lower m (Some p) = cond (nat_lt p m) (Some p) None

-- the message before m: its precedent, which is a lower number, or none
abbrev pub prior : List Message → ℕ → Option ℕ
prior ms m = lower m (slice_index_or ms m no_message).precedent

-- the last n messages of the path that ends in a point
abbrev pub last_steps : ℕ → List Message → Option ℕ → List ℕ
last_steps zero ms o = []
last_steps (suc n) ms None = []
last_steps (suc n) ms (Some m) = last_steps n ms (prior ms m) ++ (m ∷ [])

-- no path has more messages than this: numbers fall along it
abbrev pub bound : Option ℕ → ℕ
bound None = 0
bound (Some m) = suc m

-- the path of a message, or of none
unfoldable pub path : List Message → Option ℕ → List ℕ
path ms o = last_steps (bound o) ms o

-- how many messages the path has
abbrev pub depth : List Message → Option ℕ → ℕ
depth ms o = length (path ms o)
