-- How deep a call, a statement or a block can be: a statement as deep as an expression, a block by what nests in it.
use Rattle.std.proofs.Common.{◌≡◌, ℕ, suc, [], ◌∷◌, ◌++◌, Option, Some, None, refl, sym, subst, arith}
use Rattle.std.specs.Option.{option_map}
use Rattle.iv_words.specs.declared.Span.{Span}
use Rattle.iv_words.specs.declared.Name.{Name}
use Rattle.ivory_lexer.specs.declared.Token.{Token}
use Rattle.ivory_tree.specs.Syntax as syntax
use Rattle.ivory_tree.specs.Syntax.{StmtSyntax, BlockSyntax}
use Rattle.ivory_tree.specs.View.{expr_of, area_of, init_of, call_of, stmt_of, stmts_of, block_of}
use Rattle.ivory_tree.specs.declared.Expr.{Expr}
use Rattle.ivory_tree.specs.declared.AreaText.{AreaText}
use Rattle.ivory_tree.specs.declared.InitText.{InitText}
use Rattle.ivory_tree.specs.declared.StmtKind.{StmtKind}
use Rattle.ivory_tree.specs.declared.Block.{Block}
use Rattle.ivory_tree.proofs.View.{stmt_at, block_is, let_is, let_call_is, alloc_is, store_is, copy_is, call_is, if_is, if_else_is, map_is, upto_is, downto_is, forever_is, break_is, return_is, assert_is, no_alloc_is, no_break_is, no_return_is}
use Rattle.ivory_lexer.specs.declared.Mark.TheVariants as mark
use Rattle.reading.specs.Row.{Row, tokens}
use Rattle.reading.specs.Language.{Terminal, Many, Optional}
use Rattle.expression_grammar.specs.Tokens.{symbol, span_of}
use Rattle.module_grammar.specs.Trees as tree
use Rattle.module_grammar.specs.Pieces.{Expression}
use Rattle.module_grammar.specs.Statements as grammar
use Rattle.module_grammar.specs.Statements.{Symbol, call, counter, statement, kind, conditional, alternative, block, many, Tree, Spells}
use Rattle.module_grammar.specs.Pieces.{FirstValue}
use Rattle.ivory_tree.specs.Depth.{expr_depth, call_depth, stmt_depth, stmts_depth, block_depth}
use Rattle.spelled_trees.proofs.Nesting.{AtMost, flat, loose, deep_ahead, deep_behind, deepest_of, opened, inner, Begins, begins, opens}
use Rattle.spelled_trees.proofs.Lists.{Listed, of_many, of_closed}
use Rattle.spelled_trees.proofs.ListDepth.{depth_listed}
use Rattle.spelled_trees.proofs.ExprDepth.{expression_deep, postfix_deep}
use Rattle.spelled_trees.proofs.InitDepth.{first_deep}

statements_listed : (d : ℕ) → Listed (λ row st. AtMost d row (stmt_depth (stmt_of st)) 2) (λ row ss. AtMost d row (stmts_depth (stmts_of ss)) 2)
statements_listed d = record {
  nil = λ row. flat;
  cons = λ f g x xs one more. deepest_of (deep_ahead g one) (deep_behind f more);
  ahead = λ f g xs all. deep_ahead g all;
  behind = λ f g xs all. deep_behind f all;
}

deep_as : {d c : ℕ} {row : Row Token} {x st : StmtSyntax} → x ≡ st → AtMost d row (stmt_depth st) c → AtMost d row (stmt_depth x) c
deep_as {d} {c} {row} is a = subst (λ st. AtMost d row (stmt_depth st) c) (sym is) a

deep_block : {d c : ℕ} {row : Row Token} {x b : BlockSyntax} → x ≡ b → AtMost d row (block_depth b) c → AtMost d row (block_depth x) c
deep_block {d} {c} {row} is a = subst (λ b. AtMost d row (block_depth b) c) (sym is) a

allocated_deep : (name : Name) (s : Span) (a : AreaText) (o : Option InitText) (d : ℕ) (row : Row Token) → FirstValue d o row → AtMost d row (stmt_depth (syntax.Alloc s name (area_of a) (option_map init_of o))) 2
allocated_deep name s a None d row r = flat
allocated_deep name s a (Some i) d row r = first_deep (Some i) d row r

returned_deep : (s : Span) (o : Option Expr) (d : ℕ) (row : Row Token) → Optional (Expression d) o row → AtMost d row (stmt_depth (syntax.Return s (option_map expr_of o))) 2
returned_deep s None d row r = flat
returned_deep s (Some e) d row r = expression_deep e d row r

-- a statement that begins with an `if`
record If (k : StmtKind) (d : ℕ) (row : Row Token) : Type 0 where
  begins : Begins d row
  bound : AtMost d row (stmt_depth (stmt_at k (span_of (tokens row)))) 2

abbrev Means : (s : Symbol) → Tree s → ℕ → Row Token → Type 0
Means call c d row = AtMost d row (call_depth (call_of c)) 2
Means counter c d row = Unit {0}
Means statement st d row = AtMost d row (stmt_depth (stmt_of st)) 2
Means kind k d row = AtMost d row (stmt_depth (stmt_at k (span_of (tokens row)))) 2
Means conditional k d row = If k d row
Means alternative b d row = AtMost d row (block_depth (block_of b)) 0
Means block b d row = AtMost d row (block_depth (block_of b)) 0
Means (many s) xs d row = Many (λ x r. Means s x d r) xs row

deep : (s : Symbol) (x : Tree s) (d : ℕ) (row : Row Token) → Spells s x d row → Means s x d row
deep s x d row grammar.none = refl
deep s x d row (grammar.more {s = t} {x = y} {xs} {f} {g} r rs) = (f, g, refl, deep t y d f r, deep (many t) xs d g rs)
deep s x d row (grammar.called {to} {args} {e} {g} t u r) =
    let all = of_closed (depth_listed (suc d) 2 expr_depth expr_of) (Expression (suc d)) (λ y z a. expression_deep y (suc d) z a) (Terminal (suc d) (symbol mark.Comma)) (Terminal (suc d) (symbol mark.CloseParen)) args to g r in
    deep_behind e (loose (omega arith) (inner u.1 u.2 all))
deep s x d row (grammar.counted t u v w r q) = tt
deep s x d row (grammar.placed {k} r) = deep kind k d row r
deep s x d row (grammar.braces {stmts} {g} {h} t r u) =
    let all = of_many (statements_listed (suc d)) (λ st y. AtMost (suc d) y (stmt_depth (stmt_of st)) 2) (λ st y a. a) stmts g (deep (many statement) stmts (suc d) g r) in
    deep_block (block_is stmts (span_of (tokens row))) (opened t.1 t.2 (deep_ahead h all))
deep s x d row (grammar.let_expression {name} {x = y} {e} {f} {g} {h} {i} t u v r w) =
    deep_as (let_is name y (span_of (tokens row))) (deep_behind e (deep_behind f (deep_behind g (deep_ahead i (expression_deep y d h r)))))
deep s x d row (grammar.let_call {name} {c} {e} {f} {g} {h} {i} t u v r w) =
    deep_as (let_call_is name c (span_of (tokens row))) (deep_behind e (deep_behind f (deep_behind g (deep_ahead i (deep call c d h r)))))
deep s x d row (grammar.alloc {name} {a} init i {e} {f} {g} {h} {j} t u v r q w) =
    deep_as (alloc_is name a init (span_of (tokens row))) (deep_behind e (deep_behind f (deep_behind g (deep_behind h (deep_ahead j (allocated_deep name (span_of (tokens row)) a init d i q))))))
deep s x d row (grammar.store {target} {value} {e} {f} {g} {h} {i} t r u q w) =
    deep_as (store_is target value (span_of (tokens row))) (deep_behind e (deepest_of (deep_ahead (g ++ (h ++ i)) (loose (omega arith) (postfix_deep target d f r))) (deep_behind f (deep_behind g (deep_ahead i (expression_deep value d h q))))))
deep s x d row (grammar.copy {target} {source} {e} {f} {g} {h} {i} t r u q w) =
    deep_as (copy_is target source (span_of (tokens row))) (deep_behind e (deepest_of (deep_ahead (g ++ (h ++ i)) (loose (omega arith) (postfix_deep target d f r))) (deep_behind f (deep_behind g (deep_ahead i (loose (omega arith) (postfix_deep source d h q)))))))
deep s x d row (grammar.call_alone {c} {e} {f} r t) = deep_as (call_is c (span_of (tokens row))) (deep_ahead f (deep call c d e r))
deep s x d row (grammar.choice {k} r) = (deep conditional k d row r).bound
deep s x d row (grammar.if_alone {x = y} {b} {e} {f} {g} t r q) =
    record { begins = begins (f ++ g) t.1 t.2; bound = deep_as (if_is y b (span_of (tokens row))) (deep_behind e (deepest_of (deep_ahead g (expression_deep y d f r)) (deep_behind f (loose (omega arith) (deep block b d g q))))) }
deep s x d row (grammar.if_else {x = y} {b} {c} {e} {f} {g} {h} {i} t r q u p) =
    record { begins = begins (f ++ (g ++ (h ++ i))) t.1 t.2; bound = deep_as (if_else_is y b c (span_of (tokens row))) (deep_behind e (deepest_of (deep_ahead (g ++ (h ++ i)) (expression_deep y d f r)) (deep_behind f (deepest_of (deep_ahead (h ++ i) (loose (omega arith) (deep block b d g q))) (deep_behind g (deep_behind h (loose (omega arith) (deep alternative c d i p)))))))) }
deep s x d row (grammar.else_block {b} r) = deep block b d row r
deep s x d row (grammar.else_if {k} r) =
    let one = deep conditional k (suc d) row r in
    deep_block (block_is (tree.statement k (span_of (tokens row)) ∷ []) (span_of (tokens row))) (opens one.begins (deepest_of one.bound flat))
deep s x d row (grammar.map {c} {b} {e} {f} {g} t u q) = deep_as (map_is c.0 c.1 b (span_of (tokens row))) (deep_behind e (deep_behind f (loose (omega arith) (deep block b d g q))))
deep s x d row (grammar.upto {c} {x = y} {b} {e} {f} {g} {h} {i} t u v r q) =
    deep_as (upto_is c.0 c.1 y b (span_of (tokens row))) (deep_behind e (deep_behind f (deep_behind g (deepest_of (deep_ahead i (expression_deep y d h r)) (deep_behind h (loose (omega arith) (deep block b d i q)))))))
deep s x d row (grammar.downto {c} {x = y} {b} {e} {f} {g} {h} {i} t u v r q) =
    deep_as (downto_is c.0 c.1 y b (span_of (tokens row))) (deep_behind e (deep_behind f (deep_behind g (deepest_of (deep_ahead i (expression_deep y d h r)) (deep_behind h (loose (omega arith) (deep block b d i q)))))))
deep s x d row (grammar.forever {b} {e} {f} t q) = deep_as (forever_is b (span_of (tokens row))) (deep_behind e (loose (omega arith) (deep block b d f q)))
deep s x d row (grammar.break t u) = deep_as (break_is (span_of (tokens row))) (flat)
deep s x d row (grammar.return y f {e} {g} t r u) = deep_as (return_is y (span_of (tokens row))) (deep_behind e (deep_ahead g (returned_deep (span_of (tokens row)) y d f r)))
deep s x d row (grammar.assert {x = y} {e} {f} {g} {h} {i} t u r v w) =
    deep_as (assert_is y (span_of (tokens row))) (deep_behind e (loose (omega arith) (inner u.1 u.2 (deep_ahead (h ++ i) (expression_deep y (suc d) g r)))))
deep s x d row (grammar.noalloc {b} {e} {f} t q) = deep_as (no_alloc_is b (span_of (tokens row))) (deep_behind e (loose (omega arith) (deep block b d f q)))
deep s x d row (grammar.nobreak {b} {e} {f} t q) = deep_as (no_break_is b (span_of (tokens row))) (deep_behind e (loose (omega arith) (deep block b d f q)))
deep s x d row (grammar.noreturn {b} {e} {f} t q) = deep_as (no_return_is b (span_of (tokens row))) (deep_behind e (loose (omega arith) (deep block b d f q)))

pub block_deep : (b : Block) (d : ℕ) (row : Row Token) → Spells block b d row → AtMost d row (block_depth (block_of b)) 0
block_deep b d row r = deep block b d row r
