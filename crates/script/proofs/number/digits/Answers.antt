use Rattle.std.proofs.Common.{◌+◌, get_or, drop, sym, ◌∙◌}
use Rattle.std.proofs.lemmas.List.{at_drop_more}
use Rattle.std.proofs.lemmas.Result.{err_from_is_err_and}
use Rattle.script.specs.Numbers.{read_digits}
use Rattle.script.proofs.Reading.{read_no_digit}
use Rattle.script.proofs.number.digits.Goals as goal

pub returns-in_err-n : goal.returns-in_err-n
returns-in_err-n c =
    let s = c.args.s.now in
    let n = c.loop-byte.n in
    let i = c.loop-byte.byte-index in
    let e = at_drop_more (read_digits n) s i 0 c.loop-byte-test.true ∙ read_no_digit n (get_or s i 0) _ (drop (i + 1) s) c.in_err-n.ensures in
    let p = err_from_is_err_and c.from_residual.result c.from_residual.ensures.1 in
    p.1 ∙ sym e ∙ c.loop-byte.invariant.1
