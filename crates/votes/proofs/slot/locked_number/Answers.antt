use Rattle.std.proofs.Common.{ap, ◌∙◌, rules, tests}
use Rattle.std.proofs.lemmas.Iterator.{YieldsList-from_slice}
use Rattle.std.proofs.lemmas.Iterator.Search.{find_from_yields_List}
use Rattle.std.specs.Option.{option_flatten}
use Rattle.votes.specs.Slots.{wins}
use Rattle.votes.proofs.slot.locked_number.Goals as goal

pub returns : goal.returns
returns c =
    let vs = c.args.votes.now in
    let e = find_from_yields_List (wins vs) _ _ c.find.result c.find.ensures.ran (YieldsList-from_slice vs cc) (λ x b q k. search (rules, tests)) in
    c.flatten.ensures ∙ ap option_flatten (c.copied.ensures ∙ e)
