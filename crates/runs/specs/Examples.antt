-- Short histories of a site with two gateways, each with a share of the power as a setting; together the shares may be
-- five kilowatts. Two changes read both shares, and each raises one of them from two kilowatts to three.
use Rattle.std.specs.Prelude.{ℕ, [], ◌∷◌, ◌++◌, Some, None, Ok, Err, nat_eq}
use Rattle.base.specs.declared.refusal.Refusal.TheVariants.{NotLeading, AlreadyDecided}
use Rattle.protocol.specs.declared.answers.Delivery.TheVariants.{Nothing, Discard, Commit, Abort, Restart}
use Rattle.protocol.specs.declared.records.Outcome.TheVariants as outcome
use Rattle.runs.specs.Runs.{World, Start, opens, reads, writes, submits, elects, recalls, certifies, stirs, delivers, looks, History, Reached}

-- the site as new is called
abbrev pub two_shares : Start ℕ
two_shares = record {
  carrier = record { gateways = 2; capacity = 16; count = 0; line = []; places = 0 ∷ 0 ∷ [] };
  settings = 2;
  limit = 4;
  initial = 2000 ∷ 2000 ∷ [];
  room = record { cells = 4; notes = 64; updates = 32 };
}

-- a history of the site: its calls lead somewhere, with these answers
abbrev pub Happens : History ℕ → Type 0
Happens h = (w : World ℕ) × Reached nat_eq two_shares h w

-- both changes are submitted, and the first is certified by gateway 0
abbrev pub two_raises : History ℕ
two_raises =
    opens 0 (Ok 0) ∷ opens 1 (Ok 1)
    ∷ reads 0 0 (Ok 2000) ∷ reads 0 1 (Ok 2000) ∷ reads 1 0 (Ok 2000) ∷ reads 1 1 (Ok 2000)
    ∷ writes 0 0 3000 (Ok tt) ∷ writes 1 1 3000 (Ok tt)
    ∷ submits 0 (Ok 1) ∷ submits 1 (Ok 1)
    ∷ elects 0 None (Ok tt) ∷ certifies 0 0 (Ok (record { number = 0; outcome = outcome.Commit }))
    ∷ []

-- the leader drops off when its message is in the line: the next one aborts the second raise
abbrev pub dropped_off_late : History ℕ
dropped_off_late = two_raises ++
    (stirs 0 (Ok 1) ∷ delivers 1 (Ok (Commit 0))
    ∷ elects 1 None (Ok tt) ∷ certifies 1 1 (Ok (record { number = 1; outcome = outcome.Abort }))
    ∷ stirs 0 (Ok 1) ∷ delivers 1 (Ok (Restart 1)) ∷ delivers 0 (Ok (Commit 0)) ∷ delivers 0 (Ok (Abort 1))
    ∷ certifies 0 1 (Err NotLeading)
    ∷ looks 0 0 (Ok 3000) ∷ looks 0 1 (Ok 2000) ∷ looks 1 0 (Ok 3000) ∷ looks 1 1 (Ok 2000)
    ∷ [])

-- the leader drops off before its message is in the line: the next one commits the second raise, and every gateway
-- discards the first
abbrev pub dropped_off_early : History ℕ
dropped_off_early = two_raises ++
    (elects 1 None (Ok tt) ∷ certifies 1 1 (Ok (record { number = 1; outcome = outcome.Commit }))
    ∷ stirs 0 (Ok 2) ∷ delivers 0 (Ok (Commit 1)) ∷ delivers 0 (Ok (Discard 0)) ∷ delivers 1 (Ok (Commit 1)) ∷ delivers 1 (Ok (Discard 0)) ∷ delivers 1 (Ok Nothing)
    ∷ certifies 0 1 (Err NotLeading)
    ∷ looks 0 0 (Ok 2000) ∷ looks 0 1 (Ok 3000) ∷ looks 1 0 (Ok 2000) ∷ looks 1 1 (Ok 3000)
    ∷ [])

-- the leader is recalled, and gateway 1 takes over with the leader's history: it aborts the second raise, and the line
-- has the messages in another order, one of them twice
abbrev pub taken_over : History ℕ
taken_over = two_raises ++
    (recalls 0 (Ok tt) ∷ certifies 0 1 (Err NotLeading)
    ∷ elects 1 (Some 0) (Ok tt) ∷ certifies 1 1 (Ok (record { number = 1; outcome = outcome.Abort })) ∷ certifies 1 1 (Err AlreadyDecided)
    ∷ stirs 0 (Ok 3) ∷ delivers 1 (Ok (Discard 1)) ∷ delivers 1 (Ok (Commit 0)) ∷ delivers 1 (Ok (Restart 1))
    ∷ looks 1 0 (Ok 3000) ∷ looks 1 1 (Ok 2000)
    ∷ [])
