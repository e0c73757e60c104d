-- Calls, statements and blocks stand where their tokens stand, and have the form of a tree.
use Rattle.std.proofs.Common.{◌≡◌, ℕ, suc, List, [], ◌∷◌, ◌++◌, Option, Some, None, refl, sym, subst}
use Rattle.std.specs.Option.{option_map}
use Rattle.iv_words.specs.declared.Span.{Span}
use Rattle.iv_words.specs.declared.Name.{Name}
use Rattle.ivory_lexer.specs.declared.Token.{Token}
use Rattle.ivory_tree.specs.Syntax as syntax
use Rattle.ivory_tree.specs.Syntax.{StmtSyntax, BlockSyntax}
use Rattle.ivory_tree.specs.View.{expr_of, area_of, init_of, call_of, stmt_of, stmts_of, block_of}
use Rattle.ivory_tree.specs.declared.Expr.{Expr}
use Rattle.ivory_tree.specs.declared.Stmt.{Stmt}
use Rattle.ivory_tree.specs.declared.Block.{Block}
use Rattle.ivory_tree.proofs.View.{stmt_at, block_is, let_is, let_call_is, alloc_is, store_is, copy_is, call_is, if_is, if_else_is, map_is, upto_is, downto_is, forever_is, break_is, return_is, assert_is, no_alloc_is, no_break_is, no_return_is}
use Rattle.ivory_lexer.specs.declared.Mark.TheVariants as mark
use Rattle.reading.specs.Row.{Row, tokens}
use Rattle.reading.specs.Language.{Terminal, Many, Optional}
use Rattle.expression_grammar.specs.Tokens.{symbol, span_of}
use Rattle.module_grammar.specs.Trees as tree
use Rattle.module_grammar.specs.Pieces.{Expression}
use Rattle.module_grammar.specs.Statements as grammar
use Rattle.module_grammar.specs.Statements.{Symbol, call, counter, statement, kind, conditional, alternative, block, many, Tree, Spells}
use Rattle.ivory_tree.specs.Syntax.{ExprSyntax, AreaSyntax, InitSyntax}
use Rattle.ivory_tree.specs.Nodes.{At, Cons, none_or_one, expr_node, area_node, init_node, call_node, stmt_node, stmt_nodes, block_node}
use Rattle.ivory_tree.specs.Formed.{FormedExpr, FormedCall, FormedStmt, FormedStmts, FormedBlock}
use Rattle.spelled_trees.proofs.Order.{Where, always, both, all_three, ahead, behind, filled_front, filled_token}
use Rattle.spelled_trees.proofs.Places.{Lies, AllLie, lie_none, lie_ahead, lie_behind, lie_then, lies_alone, lies_at, filled_node, Stands}
use Rattle.spelled_trees.proofs.Lists.{Listed, of_many, of_closed}
use Rattle.spelled_trees.proofs.ListPlaces.{OptionStands, places_listed, optional_stands}
use Rattle.spelled_trees.proofs.ExprPlaces.{before, expression_stands, postfix_stands}
use Rattle.spelled_trees.proofs.TypePlaces.{area_stands}
use Rattle.spelled_trees.proofs.InitPlaces.{first_stands}

record StmtsStand (row : Row Token) (ss : List Stmt) : Type 0 where
  lie : AllLie row (stmt_nodes (stmts_of ss))
  formed : Where row (FormedStmts (stmts_of ss))

stmts_listed : Listed (λ row st. Stands stmt_node FormedStmt row (stmt_of st)) (λ row ss. StmtsStand row ss)
stmts_listed = record {
  nil = λ row. record { lie = lie_none; formed = always tt };
  cons = λ f g x xs one more. record { lie = lie_then one.lies more.lie; formed = both (ahead g one.formed) (behind f more.formed) };
  ahead = λ f g xs all. record { lie = lie_ahead g all.lie; formed = ahead g all.formed };
  behind = λ f g xs all. record { lie = lie_behind f all.lie; formed = behind f all.formed };
}

pub alloc_node : (s : Span) (name : Name) (a : AreaSyntax) (o : Option InitSyntax) → stmt_node (syntax.Alloc s name a o) ≡ At s (Cons (area_node a) (none_or_one (option_map init_node o)))
alloc_node s name a None = refl
alloc_node s name a (Some i) = refl

pub return_node : (s : Span) (o : Option ExprSyntax) → stmt_node (syntax.Return s o) ≡ At s (none_or_one (option_map expr_node o))
return_node s None = refl
return_node s (Some e) = refl

returned_stands : (o : Option Expr) (d : ℕ) (row : Row Token) → Optional (Expression d) o row → OptionStands expr_node FormedExpr row (option_map expr_of o)
returned_stands o d row r = optional_stands expr_node FormedExpr expr_of (λ x y a. expression_stands x d y a) o row r

abbrev Means : (s : Symbol) → Tree s → Row Token → Type 0
Means call c row = Stands call_node FormedCall row (call_of c)
Means counter c row = Unit {0}
Means statement st row = Stands stmt_node FormedStmt row (stmt_of st)
Means kind k row = Stands stmt_node FormedStmt row (stmt_at k (span_of (tokens row)))
Means conditional k row = Stands stmt_node FormedStmt row (stmt_at k (span_of (tokens row)))
Means alternative b row = Stands block_node FormedBlock row (block_of b)
Means block b row = Stands block_node FormedBlock row (block_of b)
Means (many s) xs row = Many (Means s) xs row

stand : (s : Symbol) (x : Tree s) (d : ℕ) (row : Row Token) → Spells s x d row → Means s x row
stand s x d row grammar.none = refl
stand s x d row (grammar.more {s = t} {x = y} {xs} {f} {g} r rs) = (f, g, refl, stand t y d f r, stand (many t) xs d g rs)
stand s x d row (grammar.called {name} {to} {args} {e} {f} {g} t u r) =
    let all = of_closed (places_listed expr_node FormedExpr expr_of) (Expression (suc d)) (λ y z a. expression_stands y (suc d) z a) (Terminal (suc d) (symbol mark.Comma)) (Terminal (suc d) (symbol mark.CloseParen)) args to g r in
    record { lies = lies_at (filled_front e (f ++ g) (filled_token t.1)) (lie_behind e (lie_behind f all.lie)); formed = behind e (behind f all.formed) }
stand s x d row (grammar.counted t u v w r q) = tt
stand s x d row (grammar.placed {k} r) = stand kind k d row r
stand s x d row (grammar.braces {stmts} {f} {g} {h} t r u) =
    let all = of_many stmts_listed (λ st y. Stands stmt_node FormedStmt y (stmt_of st)) (λ st y a. a) stmts g (stand (many statement) stmts (suc d) g r) in
    subst (Stands block_node FormedBlock row) (sym (block_is stmts (span_of (tokens row)))) (record {
      lies = lies_at (filled_front f (g ++ h) (filled_token t.1)) (lie_behind f (lie_ahead h all.lie));
      formed = behind f (ahead h all.formed);
    })
stand s x d row (grammar.let_expression {name} {x = y} {e} {f} {g} {h} {i} t u v r w) =
    let one = expression_stands y d h r in
    subst (Stands stmt_node FormedStmt row) (sym (let_is name y (span_of (tokens row)))) (record {
      lies = lies_at (filled_front e (f ++ (g ++ (h ++ i))) (filled_token t.1)) (lie_behind e (lie_behind f (lie_behind g (lie_then one.lies (lie_none {row = i})))));
      formed = behind e (behind f (behind g (ahead i one.formed)));
    })
stand s x d row (grammar.let_call {name} {c} {e} {f} {g} {h} {i} t u v r w) =
    let one = stand call c d h r in
    subst (Stands stmt_node FormedStmt row) (sym (let_call_is name c (span_of (tokens row)))) (record {
      lies = lies_at (filled_front e (f ++ (g ++ (h ++ i))) (filled_token t.1)) (lie_behind e (lie_behind f (lie_behind g (lie_then one.lies (lie_none {row = i})))));
      formed = behind e (behind f (behind g (ahead i one.formed)));
    })
stand s x d row (grammar.alloc {name} {a} init i {e} {f} {g} {h} {j} t u v r o w) =
    let one = area_stands a d h r in
    let two = first_stands init d i o in
    subst (Stands stmt_node FormedStmt row) (sym (alloc_is name a init (span_of (tokens row)))) (record {
      lies = subst (Lies row) (sym (alloc_node (span_of (tokens row)) name (area_of a) (option_map init_of init))) (lies_at (filled_front e (f ++ (g ++ (h ++ (i ++ j)))) (filled_token t.1)) (lie_behind e (lie_behind f (lie_behind g (lie_then one.lies (lie_ahead j two.lie))))));
      formed = both (behind e (behind f (behind g (ahead (i ++ j) one.formed)))) (behind e (behind f (behind g (behind h (ahead j two.formed)))));
    })
stand s x d row (grammar.store {target} {value} {e} {f} {g} {h} {i} t r u q w) =
    let one = postfix_stands target d f r in
    let two = expression_stands value d h q in
    subst (Stands stmt_node FormedStmt row) (sym (store_is target value (span_of (tokens row)))) (record {
      lies = lies_at (filled_front e (f ++ (g ++ (h ++ i))) (filled_token t.1)) (lie_behind e (lie_then one.lies (lie_behind g (lie_then two.lies (lie_none {row = i})))));
      formed = both (behind e (ahead (g ++ (h ++ i)) one.formed)) (behind e (behind f (behind g (ahead i two.formed))));
    })
stand s x d row (grammar.copy {target} {source} {e} {f} {g} {h} {i} t r u q w) =
    let one = postfix_stands target d f r in
    let two = postfix_stands source d h q in
    subst (Stands stmt_node FormedStmt row) (sym (copy_is target source (span_of (tokens row)))) (record {
      lies = lies_at (filled_front e (f ++ (g ++ (h ++ i))) (filled_token t.1)) (lie_behind e (lie_then one.lies (lie_behind g (lie_then two.lies (lie_none {row = i})))));
      formed = both (behind e (ahead (g ++ (h ++ i)) one.formed)) (behind e (behind f (behind g (ahead i two.formed))));
    })
stand s x d row (grammar.call_alone {c} {e} {f} r t) =
    let one = stand call c d e r in
    subst (Stands stmt_node FormedStmt row) (sym (call_is c (span_of (tokens row)))) (record {
      lies = lies_at (filled_front e f (filled_node e (call_node (call_of c)) one.lies)) (lie_then one.lies (lie_none {row = f}));
      formed = ahead f one.formed;
    })
stand s x d row (grammar.choice {k} r) = stand conditional k d row r
stand s x d row (grammar.if_alone {x = y} {b} {e} {f} {g} t r q) =
    let one = expression_stands y d f r in
    let two = stand block b d g q in
    subst (Stands stmt_node FormedStmt row) (sym (if_is y b (span_of (tokens row)))) (record {
      lies = lies_at (filled_front e (f ++ g) (filled_token t.1)) (lie_behind e (lie_then one.lies (lies_alone two.lies)));
      formed = both (behind e (ahead g one.formed)) (behind e (behind f two.formed));
    })
stand s x d row (grammar.if_else {x = y} {b} {c} {e} {f} {g} {h} {i} t r q u p) =
    let one = expression_stands y d f r in
    let two = stand block b d g q in
    let three = stand alternative c d i p in
    subst (Stands stmt_node FormedStmt row) (sym (if_else_is y b c (span_of (tokens row)))) (record {
      lies = lies_at (filled_front e (f ++ (g ++ (h ++ i))) (filled_token t.1)) (lie_behind e (lie_then one.lies (lie_then two.lies (lie_behind h (lies_alone three.lies)))));
      formed = all_three (behind e (ahead (g ++ (h ++ i)) one.formed)) (behind e (behind f (ahead (h ++ i) two.formed))) (behind e (behind f (behind g (behind h three.formed))));
    })
stand s x d row (grammar.else_block {b} r) = stand block b d row r
stand s x d row (grammar.else_if {k} r) =
    let one = stand conditional k (suc d) row r in
    subst (Stands block_node FormedBlock row) (sym (block_is (tree.statement k (span_of (tokens row)) ∷ []) (span_of (tokens row)))) (record {
      lies = lies_at (filled_node row (stmt_node (stmt_at k (span_of (tokens row)))) one.lies) (lies_alone one.lies);
      formed = both one.formed (always tt);
    })
stand s x d row (grammar.map {c} {b} {e} {f} {g} t u q) =
    let one = stand block b d g q in
    subst (Stands stmt_node FormedStmt row) (sym (map_is c.0 c.1 b (span_of (tokens row)))) (record {
      lies = lies_at (filled_front e (f ++ g) (filled_token t.1)) (lie_behind e (lie_behind f (lies_alone one.lies)));
      formed = behind e (behind f one.formed);
    })
stand s x d row (grammar.upto {c} {x = y} {b} {e} {f} {g} {h} {i} t u v r q) =
    let one = expression_stands y d h r in
    let two = stand block b d i q in
    subst (Stands stmt_node FormedStmt row) (sym (upto_is c.0 c.1 y b (span_of (tokens row)))) (record {
      lies = lies_at (filled_front e (f ++ (g ++ (h ++ i))) (filled_token t.1)) (lie_behind e (lie_behind f (lie_behind g (lie_then one.lies (lies_alone two.lies)))));
      formed = both (behind e (behind f (behind g (ahead i one.formed)))) (behind e (behind f (behind g (behind h two.formed))));
    })
stand s x d row (grammar.downto {c} {x = y} {b} {e} {f} {g} {h} {i} t u v r q) =
    let one = expression_stands y d h r in
    let two = stand block b d i q in
    subst (Stands stmt_node FormedStmt row) (sym (downto_is c.0 c.1 y b (span_of (tokens row)))) (record {
      lies = lies_at (filled_front e (f ++ (g ++ (h ++ i))) (filled_token t.1)) (lie_behind e (lie_behind f (lie_behind g (lie_then one.lies (lies_alone two.lies)))));
      formed = both (behind e (behind f (behind g (ahead i one.formed)))) (behind e (behind f (behind g (behind h two.formed))));
    })
stand s x d row (grammar.forever {b} {e} {f} t q) =
    let one = stand block b d f q in
    subst (Stands stmt_node FormedStmt row) (sym (forever_is b (span_of (tokens row)))) (record {
      lies = lies_at (filled_front e (f) (filled_token t.1)) (lie_behind e (lies_alone one.lies));
      formed = behind e one.formed;
    })
stand s x d row (grammar.break {e} {f} t u) =
    subst (Stands stmt_node FormedStmt row) (sym (break_is (span_of (tokens row)))) (record {
      lies = lies_at (filled_front e (f) (filled_token t.1)) (lie_none);
      formed = always tt;
    })
stand s x d row (grammar.return y f {e} {g} t r u) =
    let one = returned_stands y d f r in
    subst (Stands stmt_node FormedStmt row) (sym (return_is y (span_of (tokens row)))) (record {
      lies = subst (Lies row) (sym (return_node (span_of (tokens row)) (option_map expr_of y))) (lies_at (filled_front e (f ++ g) (filled_token t.1)) (lie_behind e (lie_ahead g one.lie)));
      formed = behind e (ahead g one.formed);
    })
stand s x d row (grammar.assert {x = y} {e} {f} {g} {h} {i} t u r v w) =
    let one = expression_stands y (suc d) g r in
    let parts = lie_behind f (lie_then one.lies (lie_none {row = h ++ i})) in
    subst (Stands stmt_node FormedStmt row) (sym (assert_is y (span_of (tokens row)))) (record {
      lies = lies_at (filled_front e (f ++ (g ++ (h ++ i))) (filled_token t.1)) (lie_behind e parts);
      formed = both (before e (expr_of y) (filled_token t.1) parts) (behind e (behind f (ahead (h ++ i) one.formed)));
    })
stand s x d row (grammar.noalloc {b} {e} {f} t q) =
    let one = stand block b d f q in
    subst (Stands stmt_node FormedStmt row) (sym (no_alloc_is b (span_of (tokens row)))) (record {
      lies = lies_at (filled_front e (f) (filled_token t.1)) (lie_behind e (lies_alone one.lies));
      formed = behind e one.formed;
    })
stand s x d row (grammar.nobreak {b} {e} {f} t q) =
    let one = stand block b d f q in
    subst (Stands stmt_node FormedStmt row) (sym (no_break_is b (span_of (tokens row)))) (record {
      lies = lies_at (filled_front e (f) (filled_token t.1)) (lie_behind e (lies_alone one.lies));
      formed = behind e one.formed;
    })
stand s x d row (grammar.noreturn {b} {e} {f} t q) =
    let one = stand block b d f q in
    subst (Stands stmt_node FormedStmt row) (sym (no_return_is b (span_of (tokens row)))) (record {
      lies = lies_at (filled_front e (f) (filled_token t.1)) (lie_behind e (lies_alone one.lies));
      formed = behind e one.formed;
    })

pub block_stands : (b : Block) (d : ℕ) (row : Row Token) → Spells block b d row → Stands block_node FormedBlock row (block_of b)
block_stands b d row r = stand block b d row r
