use Rattle.std.proofs.Common.{◌∙◌}
use Rattle.c_scopes.specs.StructViews.{structs_view}
use Rattle.c_scopes.proofs.FoundPlaces.{got}
use Rattle.c_rules.proofs.SizeRows.{size_at, no_size}
use Rattle.c_rules.proofs.sizes.find_size.Goals as goal

pub returns-in-None : goal.returns-in-None
returns-in-None c = no_size (structs_view c.args.structs.now) c.args.sized.now c.args.tag.now c.find.result c.find.ensures.place c.in-None.is

pub returns-in-Some : goal.returns-in-Some
returns-in-Some c =
    c.copied.ensures ∙ got c.get.result c.args.sized.now c.in-Some.k c.get.ensures.lookup.1 c.get.ensures.lookup.3
    ∙ size_at (structs_view c.args.structs.now) c.args.sized.now c.args.tag.now c.find.result c.in-Some.k c.find.ensures.place c.in-Some.is
