-- Which call each command makes, and what it shows of the answer.
use Rattle.std.specs.Prelude.{◌≡◌, ℕ, List, ℤ, pos, Some, None, Ok, Err, Option, Result}
use Rattle.base.specs.declared.refusal.Refusal.{Refusal}
use Rattle.base.specs.declared.refusal.Refusal.TheVariants.{Limits}
use Rattle.base.specs.declared.watts.Watts.{Watts}
use Rattle.base.specs.Values.{equal}
use Rattle.carrier.specs.Meaning.{Meaning}
use Rattle.protocol.specs.declared.records.Cell.{Cell}
use Rattle.protocol.specs.declared.records.Note.{Note}
use Rattle.protocol.specs.declared.records.Update.{Update}
use Rattle.script.specs.declared.command.Command.{Command}
use Rattle.script.specs.declared.command.Command.TheVariants.{Start, Open, Read, Write, Submit, Abandon, Stir, Look}
use Rattle.site.specs.declared.site.Site.{Site}
use Rattle.site.specs.Contract.{SameBeside, Opens, Reads, Writes, Submits, Abandons, Stirs, Looks}

-- the value column: nothing, a number, or watts
abbrev pub no_value : Result (Unit {0}) Refusal → Result (Option ℤ) Refusal
no_value (Ok u) = Ok None
no_value (Err e) = Err e

abbrev pub number_value : Result ℕ Refusal → Result (Option ℤ) Refusal
number_value (Ok n) = Ok (Some (pos n))
number_value (Err e) = Err e

abbrev pub watts_value : Result Watts Refusal → Result (Option ℤ) Refusal
watts_value (Ok w) = Ok (Some w.0)
watts_value (Err e) = Err e

-- the call that a command makes on a site s with its tables, over a carrier that means m, and what is left
abbrev pub Performs : Command → Site Watts → Meaning → List (Cell Watts) → List (Note Watts) → List (Update Watts) → Result (Option ℤ) Refusal → Site Watts → Meaning → List (Note Watts) → List (Update Watts) → Type 0 → Type 0
Performs (Start gateways settings watts) s m xs ns us r s' m' ns' us' same-carrier = (r ≡ Err Limits) × (s' ≡ s) × (ns' ≡ ns) × (us' ≡ us) × same-carrier
Performs (Open g) s m xs ns us r s' m' ns' us' same-carrier = (a : Result ℕ Refusal) × (r ≡ number_value a) × Opens s g a s' × (ns' ≡ ns) × (us' ≡ us) × same-carrier
Performs (Read k st) s m xs ns us r s' m' ns' us' same-carrier = (a : Result Watts Refusal) × (r ≡ watts_value a) × Reads s xs ns us k st a s' ns' × SameBeside 16 k ns ns' × (us' ≡ us) × same-carrier
Performs (Write k st x) s m xs ns us r s' m' ns' us' same-carrier = (a : Result (Unit {0}) Refusal) × (r ≡ no_value a) × Writes s us k st (record { 0 = x }) a s' us' × SameBeside 8 k us us' × (ns' ≡ ns) × same-carrier
Performs (Submit k) s m xs ns us r s' m' ns' us' same-carrier = (a : Result ℕ Refusal) × (r ≡ number_value a) × Submits (λ x y. equal x.0 y.0) s ns us k a s' us' × SameBeside 8 k us us' × (ns' ≡ ns) × same-carrier
Performs (Abandon k) s m xs ns us r s' m' ns' us' same-carrier = (a : Result (Unit {0}) Refusal) × (r ≡ no_value a) × Abandons s k a s' × (ns' ≡ ns) × (us' ≡ us) × same-carrier
Performs (Stir w) s m xs ns us r s' m' ns' us' same-carrier = (a : Result ℕ Refusal) × (r ≡ number_value a) × Stirs s m a m' same-carrier × (s' ≡ s) × (ns' ≡ ns) × (us' ≡ us)
Performs (Look g st) s m xs ns us r s' m' ns' us' same-carrier = (a : Result Watts Refusal) × (r ≡ watts_value a) × Looks s xs g st a × (s' ≡ s) × (ns' ≡ ns) × (us' ≡ us) × same-carrier
