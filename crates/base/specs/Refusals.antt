-- Refusals, their numbers, and which of them a call answers: the first whose condition holds.
use Rattle.std.specs.Prelude.{ℕ, Bool, cond, List, [], ◌∷◌, Some, None, Ok, Err, Option, Result}
use Rattle.base.specs.declared.refusal.Refusal.{Refusal}
use Rattle.base.specs.declared.refusal.Refusal.TheVariants.{Layout, Limits, Carrier, UnknownGateway, UnknownChange, UnknownSetting, NoChangeLeft, NotOpen, Overwritten, Full, Leading, NoHistory, NotLeading, NotSubmitted, AlreadyDecided, OpeningMissing, NoMessageLeft}

abbrev pub number : Refusal → ℕ
number Layout = 1
number Limits = 2
number Carrier = 3
number UnknownGateway = 4
number UnknownChange = 5
number UnknownSetting = 6
number NoChangeLeft = 7
number NotOpen = 8
number Overwritten = 9
number Full = 10
number Leading = 11
number NoHistory = 12
number NotLeading = 13
number NotSubmitted = 14
number AlreadyDecided = 15
number OpeningMissing = 16
number NoMessageLeft = 17

-- a table of conditions in checking order, each with its refusal
abbrev pub Checks : Type 0
Checks = List (Bool × Refusal)

-- the first refusal whose condition holds, or none
abbrev pub first : Checks → Option Refusal
first [] = None
first (c ∷ cs) = cond c.0 (Some c.1) (first cs)

-- a call's answer: the refusal alone, or what the call gives
abbrev pub answered : {A : Type 0} → Option Refusal → A → Result A Refusal
answered None a = Ok a
answered (Some e) a = Err e

-- what a call leaves: what there was where it refuses, else what comes next
abbrev pub left : {W : Type 0} → Option Refusal → W → W → W
left None before next = next
left (Some e) before next = before

-- a call's answer where what it gives may be missing from the definitions; then it is no answer at all
abbrev pub told : {A : Type 0} → Option Refusal → Option A → Option (Result A Refusal)
told (Some e) a = Some (Err e)
told None (Some a) = Some (Ok a)
told None None = None
