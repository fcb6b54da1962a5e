use Rattle.std.proofs.Common.{Ok, Err, refl, rules}
use Rattle.script.proofs.row.field.Goals as goal

pub returns-in_err-read-clause-value : goal.returns-in_err-read-clause-value
returns-in_err-read-clause-value g c =
    λ said h.
    let e = h (Err c.in_err-read.field-0.0) (record { shown = c.args.s; shows = refl; says = record { met = c.in_err-read.ensures } }) in
    search rules

pub returns-clause-value : goal.returns-clause-value
returns-clause-value g c =
    λ said h.
    let e = h (Ok c.in_ok-read.field-0) (record { shown = c.args.s; shows = refl; says = record { met = c.in_ok-read.ensures } }) in
    search rules
