use Rattle.std.proofs.Common.{drop}
use Rattle.c_ast.specs.View.{init_of}
use Rattle.c_text.specs.ExpressionText.{init_text}
use Rattle.c_scopes.specs.Scope.{names_view}
use Rattle.c_expression_rules.specs.Slots.{slots_view}
use Rattle.c_scopes.proofs.Rows.{Listing}
use Rattle.c_expression_rules.proofs.SlotRows.{item, next}
use Rattle.c_expression_rules.proofs.init.+inits.Given as goal

abbrev pub invariant-check_inits-loop-init : goal.invariant-check_inits-loop-init
invariant-check_inits-loop-init l =
    Listing (λ i. init_text (init_of i)) (item l.names.target (names_view l.names)) next l.initial.walk l.walk (slots_view l.initial.slots) (slots_view l.slots) l.more l.inits (drop l.init-index l.inits)
