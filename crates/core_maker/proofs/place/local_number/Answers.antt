use Rattle.std.proofs.Common.{ap, sym, ◌∙◌, option_and_then, slice_get}
use Rattle.core_maker.proofs.Agreed.{number_found}
use Rattle.core_maker.proofs.place.local_number.Goals as goal

pub returns : goal.returns
returns c =
    let p = c.args.place.now in
    c.number_at.ensures ∙ ap (option_and_then (slice_get p.numbers)) c.position_in_scope.ensures ∙ sym (number_found c.args.name.now p.context.scope p.numbers)
