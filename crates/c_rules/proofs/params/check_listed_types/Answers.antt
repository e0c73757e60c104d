use Rattle.c_text.specs.TypeText.{type_text}
use Rattle.c_scopes.specs.Scope.{names_view}
use Rattle.c_scopes.proofs.Rows.{listing_begins, listing_on, all_listed}
use Rattle.c_rules.proofs.ParamRows.{type_item, same, types_are}
use Rattle.c_scopes.proofs.Walks.{as_demands}
use Rattle.c_rules.proofs.params.check_listed_types.Goals as goal

pub loop-ty-init : goal.loop-ty-init
loop-ty-init c = listing_begins type_text (type_item (names_view c.args.names.now)) same c.args.walk.now 0 c.args.types.now

pub loop-ty-preserved : goal.loop-ty-preserved
loop-ty-preserved c =
    listing_on type_text (type_item (names_view c.args.names.now)) same c.args.walk.now 0 0 c.loop-ty.more c.args.types.now c.loop-ty.ty-index c.ty-item.result c.loop-ty-test.true c.ty-item.is c.loop-ty.invariant c.pass_comma.ensures c.check_type.ensures.walks

pub returns : goal.returns
returns c = as_demands (types_are (names_view c.args.names.now) c.args.walk.now.at c.args.types.now) (all_listed type_text (type_item (names_view c.args.names.now)) same 0 0 c.loop-ty.more c.args.types.now c.loop-ty.ty-index c.loop-ty-test.false c.loop-ty.invariant)
