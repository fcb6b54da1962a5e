use Rattle.std.proofs.lemmas.List.Filters.{FiltersInPlace}
use Rattle.base.proofs.lists.retain.Given as goal

abbrev pub invariant-loop-i : goal.invariant-loop-i
invariant-loop-i g l = FiltersInPlace (g.F.Filter.passes l.filter) l.initial.mem l.mem l.n l.i
