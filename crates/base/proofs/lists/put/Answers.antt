use Rattle.std.proofs.Common.{take, ap, ◌∙◌}
use Rattle.base.specs.Lists.{found}
use Rattle.base.proofs.ListLaws.{put_written}
use Rattle.base.proofs.lists.put.Goals as goal

pub returns : goal.returns
returns g c =
    let f = c.find-at.ensures ∙ ap (λ q. found g.T.Keyed.key q (take c.min-end.result c.args.mem.now)) c.key.ensures in
    put_written g.T.Keyed.key c.args.x c.args.mem.now _ c.args.count c.min-end.result c.find-at.result _ c.min-end.ensures f c.write.ensures
