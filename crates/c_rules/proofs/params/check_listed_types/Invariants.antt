use Rattle.std.proofs.Common.{drop}
use Rattle.c_text.specs.TypeText.{type_text}
use Rattle.c_scopes.specs.Scope.{names_view}
use Rattle.c_scopes.proofs.Rows.{Listing}
use Rattle.c_rules.proofs.ParamRows.{type_item, same}
use Rattle.c_rules.proofs.params.check_listed_types.Given as goal

abbrev pub invariant-loop-ty : goal.invariant-loop-ty
invariant-loop-ty l = Listing type_text (type_item (names_view l.names)) same l.initial.walk l.walk 0 0 l.more l.types (drop l.ty-index l.types)
