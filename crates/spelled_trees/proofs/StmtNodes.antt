-- Calls, statements and blocks have at most two nodes for each token.
use Rattle.std.proofs.Common.{ℕ, suc, ◌+◌, ◌*◌, ◌≤◌, length, [], ◌∷◌, refl, sym, ap, subst, arith}
use Rattle.std.specs.Option.{option_map}
use Rattle.ivory_lexer.specs.declared.Token.{Token}
use Rattle.ivory_tree.specs.View.{expr_of, area_of, init_of, call_of, stmt_of, stmts_of, block_of}
use Rattle.ivory_tree.specs.declared.Block.{Block}
use Rattle.ivory_tree.proofs.View.{stmt_at, block_is, let_is, let_call_is, alloc_is, store_is, copy_is, call_is, if_is, if_else_is, map_is, upto_is, downto_is, forever_is, break_is, return_is, assert_is, no_alloc_is, no_break_is, no_return_is}
use Rattle.ivory_lexer.specs.declared.Mark.TheVariants as mark
use Rattle.reading.specs.Row.{Row, tokens}
use Rattle.reading.specs.Language.{Terminal, Many}
use Rattle.expression_grammar.specs.Tokens.{symbol, span_of}
use Rattle.module_grammar.specs.Trees as tree
use Rattle.module_grammar.specs.Pieces.{Expression}
use Rattle.module_grammar.specs.Statements as grammar
use Rattle.module_grammar.specs.Statements.{Symbol, call, counter, statement, kind, conditional, alternative, block, many, Tree, Spells}
use Rattle.ivory_tree.specs.Nodes.{expr_node, call_node, stmt_node, stmt_nodes, block_node, node_count}
use Rattle.spelled_trees.proofs.Sizes.{both_long, one_long, Few, AllFew}
use Rattle.spelled_trees.proofs.Lists.{Listed, of_many, of_closed}
use Rattle.spelled_trees.proofs.ListNodes.{few_listed, few_optional}
use Rattle.spelled_trees.proofs.ExprNodes.{few_expression, few_postfix}
use Rattle.spelled_trees.proofs.TypeNodes.{few_area}
use Rattle.spelled_trees.proofs.InitNodes.{few_first}
use Rattle.spelled_trees.proofs.StmtPlaces.{alloc_node, return_node}

few_statements : Listed (λ row st. Few row (stmt_node (stmt_of st))) (λ row ss. AllFew row (stmt_nodes (stmts_of ss)))
few_statements = record {
  nil = λ row. record { count = omega arith };
  cons = λ f g x xs one more. record { count = omega (arith, one.count, more.count, both_long) };
  ahead = λ f g xs all. record { count = omega (arith, all.count, both_long) };
  behind = λ f g xs all. record { count = omega (arith, all.count, both_long) };
}

-- an `else if` is a block and a statement at its first token
abbrev Means : (s : Symbol) → Tree s → Row Token → Type 0
Means call c row = Few row (call_node (call_of c))
Means counter c row = Unit {0}
Means statement st row = Few row (stmt_node (stmt_of st))
Means kind k row = Few row (stmt_node (stmt_at k (span_of (tokens row))))
Means conditional k row = Few row (stmt_node (stmt_at k (span_of (tokens row))))
Means alternative b row = node_count (block_node (block_of b)) ≤ 1 + 2 * length row
Means block b row = Few row (block_node (block_of b))
Means (many s) xs row = Many (Means s) xs row

few : (s : Symbol) (x : Tree s) (d : ℕ) (row : Row Token) → Spells s x d row → Means s x row
few s x d row grammar.none = refl
few s x d row (grammar.more {s = t} {x = y} {xs} {f} {g} r rs) = (f, g, refl, few t y d f r, few (many t) xs d g rs)
few s x d row (grammar.called {to} {args} {g} t u r) =
    let all = of_closed (few_listed expr_node expr_of) (Expression (suc d)) (λ y z a. few_expression y (suc d) z a) (Terminal (suc d) (symbol mark.Comma)) (Terminal (suc d) (symbol mark.CloseParen)) args to g r in
    record { count = omega (arith, all.count, one_long t.1, both_long) }
few s x d row (grammar.counted t u v w r q) = tt
few s x d row (grammar.placed {k} r) = few kind k d row r
few s x d row (grammar.braces {stmts} {g} t r u) =
    let all = of_many few_statements (λ st y. Few y (stmt_node (stmt_of st))) (λ st y a. a) stmts g (few (many statement) stmts (suc d) g r) in
    subst (λ b. Few row (block_node b)) (sym (block_is stmts (span_of (tokens row)))) (record { count = omega (arith, all.count, one_long t.1, both_long) })
few s x d row (grammar.let_expression {name} {x = y} {h} t u v r w) =
    subst (λ st. Few row (stmt_node st)) (sym (let_is name y (span_of (tokens row)))) (record { count = omega (arith, (few_expression y d h r).count, one_long t.1, both_long) })
few s x d row (grammar.let_call {name} {c} {h} t u v r w) =
    subst (λ st. Few row (stmt_node st)) (sym (let_call_is name c (span_of (tokens row)))) (record { count = omega (arith, (few call c d h r).count, one_long t.1, both_long) })
few s x d row (grammar.alloc {name} {a} init i {h} t u v r q w) =
    subst (λ st. Few row (stmt_node st)) (sym (alloc_is name a init (span_of (tokens row)))) (record { count = omega (arith, ap node_count (alloc_node (span_of (tokens row)) name (area_of a) (option_map init_of init)), (few_area a d h r).count, (few_first init d i q).count, one_long t.1, both_long) })
few s x d row (grammar.store {target} {value} {f} {h} t r u q w) =
    subst (λ st. Few row (stmt_node st)) (sym (store_is target value (span_of (tokens row)))) (record { count = omega (arith, (few_postfix target d f r).count, (few_expression value d h q).count, one_long t.1, both_long) })
few s x d row (grammar.copy {target} {source} {f} {h} t r u q w) =
    subst (λ st. Few row (stmt_node st)) (sym (copy_is target source (span_of (tokens row)))) (record { count = omega (arith, (few_postfix target d f r).count, (few_postfix source d h q).count, one_long t.1, both_long) })
few s x d row (grammar.call_alone {c} {e} r t) =
    subst (λ st. Few row (stmt_node st)) (sym (call_is c (span_of (tokens row)))) (record { count = omega (arith, (few call c d e r).count, one_long t.1, both_long) })
few s x d row (grammar.choice {k} r) = few conditional k d row r
few s x d row (grammar.if_alone {x = y} {b} {f} {g} t r q) =
    subst (λ st. Few row (stmt_node st)) (sym (if_is y b (span_of (tokens row)))) (record { count = omega (arith, (few_expression y d f r).count, (few block b d g q).count, one_long t.1, both_long) })
few s x d row (grammar.if_else {x = y} {b} {c} {f} {g} {i} t r q u p) =
    subst (λ st. Few row (stmt_node st)) (sym (if_else_is y b c (span_of (tokens row)))) (record { count = omega (arith, (few_expression y d f r).count, (few block b d g q).count, few alternative c d i p, one_long t.1, both_long) })
few s x d row (grammar.else_block {b} r) = omega (arith, (few block b d row r).count)
few s x d row (grammar.else_if {k} r) =
    omega (arith, ap (λ b. node_count (block_node b)) (block_is (tree.statement k (span_of (tokens row)) ∷ []) (span_of (tokens row))), (few conditional k (suc d) row r).count)
few s x d row (grammar.map {c} {b} {g} t u q) =
    subst (λ st. Few row (stmt_node st)) (sym (map_is c.0 c.1 b (span_of (tokens row)))) (record { count = omega (arith, (few block b d g q).count, one_long t.1, both_long) })
few s x d row (grammar.upto {c} {x = y} {b} {h} {i} t u v r q) =
    subst (λ st. Few row (stmt_node st)) (sym (upto_is c.0 c.1 y b (span_of (tokens row)))) (record { count = omega (arith, (few_expression y d h r).count, (few block b d i q).count, one_long t.1, both_long) })
few s x d row (grammar.downto {c} {x = y} {b} {h} {i} t u v r q) =
    subst (λ st. Few row (stmt_node st)) (sym (downto_is c.0 c.1 y b (span_of (tokens row)))) (record { count = omega (arith, (few_expression y d h r).count, (few block b d i q).count, one_long t.1, both_long) })
few s x d row (grammar.forever {b} {f} t q) =
    subst (λ st. Few row (stmt_node st)) (sym (forever_is b (span_of (tokens row)))) (record { count = omega (arith, (few block b d f q).count, one_long t.1, both_long) })
few s x d row (grammar.break t u) = subst (λ st. Few row (stmt_node st)) (sym (break_is (span_of (tokens row)))) (record { count = omega (arith, one_long t.1, both_long) })
few s x d row (grammar.return y f t r u) =
    subst (λ st. Few row (stmt_node st)) (sym (return_is y (span_of (tokens row)))) (record { count = omega (arith, ap node_count (return_node (span_of (tokens row)) (option_map expr_of y)), (few_optional expr_node expr_of (λ z k a. few_expression z d k a) y f r).count, one_long t.1, both_long) })
few s x d row (grammar.assert {x = y} {g} t u r v w) =
    subst (λ st. Few row (stmt_node st)) (sym (assert_is y (span_of (tokens row)))) (record { count = omega (arith, (few_expression y (suc d) g r).count, one_long t.1, both_long) })
few s x d row (grammar.noalloc {b} {f} t q) =
    subst (λ st. Few row (stmt_node st)) (sym (no_alloc_is b (span_of (tokens row)))) (record { count = omega (arith, (few block b d f q).count, one_long t.1, both_long) })
few s x d row (grammar.nobreak {b} {f} t q) =
    subst (λ st. Few row (stmt_node st)) (sym (no_break_is b (span_of (tokens row)))) (record { count = omega (arith, (few block b d f q).count, one_long t.1, both_long) })
few s x d row (grammar.noreturn {b} {f} t q) =
    subst (λ st. Few row (stmt_node st)) (sym (no_return_is b (span_of (tokens row)))) (record { count = omega (arith, (few block b d f q).count, one_long t.1, both_long) })

pub few_block : (b : Block) (d : ℕ) (row : Row Token) → Spells block b d row → Few row (block_node (block_of b))
few_block b d row r = few block b d row r
