use Rattle.std.proofs.Common.{◌≡◌, ◌≤◌, Bool, true, false, not, length, take, is_some, sym, ap, ◌∙◌, arith}
use Rattle.std.proofs.lemmas.List.{take_all}
use Rattle.base.specs.Lists.{found}
use Rattle.base.proofs.lists.tests.UnlistedFilter.pass.Goals as goal

opposite : (r b : Bool) → b ≡ not r → r ≡ not b
opposite true b e = sym (ap not e)
opposite false b e = sym (ap not e)

pub returns : goal.returns
returns g c =
    let xs = c.args.self.now.others.now in
    let l : length xs ≤ length xs = omega arith in
    let e = c.find.ensures ∙ ap (λ q. found g.N.Keyed.key q (take (length xs) xs)) c.key.ensures ∙ ap (found g.N.Keyed.key (g.T.Keyed.key c.args.x.now)) (take_all (length xs) xs l) in
    opposite _ _ (ap is_some (sym e) ∙ c.is_none.ensures)
