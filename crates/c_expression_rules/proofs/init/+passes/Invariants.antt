use Rattle.std.proofs.Common.{drop}
use Rattle.c_ast.specs.View.{init_of}
use Rattle.c_text.specs.ExpressionText.{init_text}
use Rattle.c_scopes.proofs.Rows.{Listing}
use Rattle.c_expression_rules.proofs.SlotRows.{no_item, same}
use Rattle.c_expression_rules.proofs.init.+passes.Given as goal

abbrev pub invariant-pass_inits-loop-init : goal.invariant-pass_inits-loop-init
invariant-pass_inits-loop-init l = Listing (λ i. init_text (init_of i)) no_item same l.initial.walk l.walk 0 0 l.more l.inits (drop l.init-index l.inits)
