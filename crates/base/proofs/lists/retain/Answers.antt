use Rattle.std.proofs.Common.{◌≡◌, ◌<◌, min, length, arith}
use Rattle.std.proofs.lemmas.List.Filters.{FiltersInPlace-more_no, FiltersInPlace-more_set}
use Rattle.base.proofs.ListLaws.{keeping_list, keeping_count, keeping_rest}
use Rattle.base.proofs.lists.retain.Goals as goal
use Rattle.base.proofs.lists.retain.Goals.{then-pass, else-pass}

pub loop-i-preserved : goal.loop-i-preserved
loop-i-preserved g c =
    let l : c.loop-i.i < length c.loop-i.mem = omega arith in
    elim c.if-pass.branch [
      | then-pass w ↦ rw (w.mem-is, w.n-is) (FiltersInPlace-more_set c.loop-i.invariant l (cc) c.index-mem-i.is)
      | else-pass w ↦ rw (w.mem-is, w.n-is) (FiltersInPlace-more_no c.loop-i.invariant l (cc) c.index-mem-i.is)
    ]

pub returns : goal.returns
returns g c =
    let e : c.loop-i.i ≡ min c.args.count (length c.args.mem.now) = omega arith in
    record { list = keeping_list _ _ e c.loop-i.invariant; counted = keeping_count _ _ e c.loop-i.invariant; rest = keeping_rest _ _ e c.loop-i.invariant; fewer = omega (arith, c.loop-i.invariant.behind) }
