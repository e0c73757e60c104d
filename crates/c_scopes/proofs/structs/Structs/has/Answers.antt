use Rattle.std.proofs.Common.{◌∙◌, ap}
use Rattle.std.specs.Prelude.{is_some}
use Rattle.c_scopes.specs.StructViews.{structs_view}
use Rattle.c_scopes.proofs.FoundPlaces.{has_is}
use Rattle.c_scopes.proofs.structs.Structs.has.Goals as goal

pub returns : goal.returns
returns c = c.is_some.ensures ∙ ap is_some c.find.ensures.place ∙ has_is 0 (structs_view c.args.self.now) c.args.tag.now
