use Rattle.c_scopes.specs.StructViews.{structs_view}
use Rattle.c_scopes.proofs.FoundPlaces.{place_behind, place_in_front, place_nowhere, place_within}
use Rattle.c_scopes.proofs.structs.Structs.find.Goals as goal

pub returns-in-None-clause-place : goal.returns-in-None-clause-place
returns-in-None-clause-place c = place_nowhere c.args.self.now.count c.args.self.now.table.now c.args.tag.now c.find.result c.find.ensures c.in-None.is

pub returns-then-k-self-clause-place : goal.returns-then-k-self-clause-place
returns-then-k-self-clause-place c = place_in_front c.args.self.now.count c.args.self.now.table.now c.args.tag.now c.find.result c.in-Some.k c.find.ensures c.in-Some.is c.if-k-self.true

pub returns-then-k-self-clause-within : goal.returns-then-k-self-clause-within
returns-then-k-self-clause-within c =
    place_within (structs_view c.args.self.now) c.args.tag.now c.in-Some.k
    (place_in_front c.args.self.now.count c.args.self.now.table.now c.args.tag.now c.find.result c.in-Some.k c.find.ensures c.in-Some.is c.if-k-self.true)

pub returns-else-k-self-clause-place : goal.returns-else-k-self-clause-place
returns-else-k-self-clause-place c = place_behind c.args.self.now.count c.args.self.now.table.now c.args.tag.now c.find.result c.in-Some.k c.find.ensures c.in-Some.is c.if-k-self.false
