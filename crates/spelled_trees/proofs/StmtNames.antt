-- Each name in a call, a statement or a block is the word of a name among its tokens.
use Rattle.std.proofs.Common.{◌≡◌, ℕ, suc, [], ◌∷◌, ◌++◌, refl, sym, subst}
use Rattle.ivory_lexer.specs.declared.Token.{Token}
use Rattle.ivory_tree.specs.Syntax.{StmtSyntax, BlockSyntax}
use Rattle.ivory_tree.specs.View.{expr_of, call_of, stmt_of, stmts_of, block_of}
use Rattle.ivory_tree.specs.declared.Block.{Block}
use Rattle.ivory_tree.proofs.View.{stmt_at, block_is, let_is, let_call_is, alloc_is, store_is, copy_is, call_is, if_is, if_else_is, map_is, upto_is, downto_is, forever_is, break_is, return_is, assert_is, no_alloc_is, no_break_is, no_return_is}
use Rattle.ivory_lexer.specs.declared.Mark.TheVariants as mark
use Rattle.reading.specs.Row.{Row, tokens}
use Rattle.reading.specs.Language.{Terminal, Many}
use Rattle.expression_grammar.specs.Tokens.{symbol, span_of}
use Rattle.module_grammar.specs.Trees as tree
use Rattle.module_grammar.specs.Pieces.{Expression}
use Rattle.module_grammar.specs.Statements as grammar
use Rattle.module_grammar.specs.Statements.{Symbol, call, counter, statement, kind, conditional, alternative, block, many, Tree, Spells}
use Rattle.ivory_lexer.specs.declared.TokenKind.{TokenKind}
use Rattle.ivory_tree.specs.Names.{expr_names, call_names, stmt_names, stmts_names, block_names}
use Rattle.spelled_trees.proofs.Words.{Told, no_names, told_ahead, told_behind, told_both, told_then, told_name}
use Rattle.spelled_trees.proofs.Lists.{Listed, of_many, of_closed}
use Rattle.spelled_trees.proofs.ListNames.{names_listed, optional_tells}
use Rattle.spelled_trees.proofs.ExprNames.{expression_tells, postfix_tells}
use Rattle.spelled_trees.proofs.TypeNames.{area_tells}
use Rattle.spelled_trees.proofs.InitNames.{first_tells}

module _ (P : TokenKind → Type 0) where
  statements_listed : Listed (λ row st. Told P row (stmt_names (stmt_of st))) (λ row ss. Told P row (stmts_names (stmts_of ss)))
  statements_listed = record {
    nil = λ row. no_names;
    cons = λ f g x xs one more. told_both (told_ahead g one) (told_behind f more);
    ahead = λ f g xs all. told_ahead g all;
    behind = λ f g xs all. told_behind f all;
  }

  told_as : {row : Row Token} {x st : StmtSyntax} → x ≡ st → Told P row (stmt_names st) → Told P row (stmt_names x)
  told_as {row} is t = subst (λ st. Told P row (stmt_names st)) (sym is) t

  told_block : {row : Row Token} {x b : BlockSyntax} → x ≡ b → Told P row (block_names b) → Told P row (block_names x)
  told_block {row} is t = subst (λ b. Told P row (block_names b)) (sym is) t

  abbrev Means : (s : Symbol) → Tree s → Row Token → Type 0
  Means call c row = Told P row (call_names (call_of c))
  Means counter c row = Told P row (c.0.text ∷ [])
  Means statement st row = Told P row (stmt_names (stmt_of st))
  Means kind k row = Told P row (stmt_names (stmt_at k (span_of (tokens row))))
  Means conditional k row = Told P row (stmt_names (stmt_at k (span_of (tokens row))))
  Means alternative b row = Told P row (block_names (block_of b))
  Means block b row = Told P row (block_names (block_of b))
  Means (many s) xs row = Many (Means s) xs row

  tell : (s : Symbol) (x : Tree s) (d : ℕ) (row : Row Token) → Spells s x d row → Means s x row
  tell s x d row grammar.none = refl
  tell s x d row (grammar.more {s = t} {x = y} {xs} {f} {g} r rs) = (f, g, refl, tell t y d f r, tell (many t) xs d g rs)
  tell s x d row (grammar.called {name} {to} {args} {e} {f} {g} t u r) =
      let all = of_closed (names_listed P expr_names expr_of) (Expression (suc d)) (λ y z a. expression_tells P y (suc d) z a) (Terminal (suc d) (symbol mark.Comma)) (Terminal (suc d) (symbol mark.CloseParen)) args to g r in
      told_then (told_ahead (f ++ g) (told_name t.1 t.3)) (told_behind e (told_behind f all))
  tell s x d row (grammar.counted {name} {e} {f} {g} {h} {i} {j} t u v w r q) = told_ahead (f ++ (g ++ (h ++ (i ++ j)))) (told_name t.1 t.3)
  tell s x d row (grammar.placed {k} r) = tell kind k d row r
  tell s x d row (grammar.braces {stmts} {f} {g} {h} t r u) =
      let all = of_many statements_listed (λ st y. Told P y (stmt_names (stmt_of st))) (λ st y a. a) stmts g (tell (many statement) stmts (suc d) g r) in
      told_block (block_is stmts (span_of (tokens row))) (told_behind f (told_ahead h all))
  tell s x d row (grammar.let_expression {name} {x = y} {e} {f} {g} {h} {i} t u v r w) =
      told_as (let_is name y (span_of (tokens row))) (told_behind e (told_then (told_ahead (g ++ (h ++ i)) (told_name u.1 u.3)) (told_behind f (told_behind g (told_ahead i (expression_tells P y d h r))))))
  tell s x d row (grammar.let_call {name} {c} {e} {f} {g} {h} {i} t u v r w) =
      told_as (let_call_is name c (span_of (tokens row))) (told_behind e (told_then (told_ahead (g ++ (h ++ i)) (told_name u.1 u.3)) (told_behind f (told_behind g (told_ahead i (tell call c d h r))))))
  tell s x d row (grammar.alloc {name} {a} init i {e} {f} {g} {h} {j} t u v r q w) =
      told_as (alloc_is name a init (span_of (tokens row))) (told_behind e (told_then (told_ahead (g ++ (h ++ (i ++ j))) (told_name u.1 u.3)) (told_behind f (told_behind g (told_both (told_ahead (i ++ j) (area_tells P a d h r)) (told_behind h (told_ahead j (first_tells P init d i q))))))))
  tell s x d row (grammar.store {target} {value} {e} {f} {g} {h} {i} t r u q w) =
      told_as (store_is target value (span_of (tokens row))) (told_behind e (told_both (told_ahead (g ++ (h ++ i)) (postfix_tells P target d f r)) (told_behind f (told_behind g (told_ahead i (expression_tells P value d h q))))))
  tell s x d row (grammar.copy {target} {source} {e} {f} {g} {h} {i} t r u q w) =
      told_as (copy_is target source (span_of (tokens row))) (told_behind e (told_both (told_ahead (g ++ (h ++ i)) (postfix_tells P target d f r)) (told_behind f (told_behind g (told_ahead i (postfix_tells P source d h q))))))
  tell s x d row (grammar.call_alone {c} {e} {f} r t) =
      told_as (call_is c (span_of (tokens row))) (told_ahead f (tell call c d e r))
  tell s x d row (grammar.choice {k} r) = tell conditional k d row r
  tell s x d row (grammar.if_alone {x = y} {b} {e} {f} {g} t r q) =
      told_as (if_is y b (span_of (tokens row))) (told_behind e (told_both (told_ahead g (expression_tells P y d f r)) (told_behind f (tell block b d g q))))
  tell s x d row (grammar.if_else {x = y} {b} {c} {e} {f} {g} {h} {i} t r q u p) =
      told_as (if_else_is y b c (span_of (tokens row))) (told_behind e (told_both (told_ahead (g ++ (h ++ i)) (expression_tells P y d f r)) (told_behind f (told_both (told_ahead (h ++ i) (tell block b d g q)) (told_behind g (told_behind h (tell alternative c d i p)))))))
  tell s x d row (grammar.else_block {b} r) = tell block b d row r
  tell s x d row (grammar.else_if {k} r) =
      told_block (block_is (tree.statement k (span_of (tokens row)) ∷ []) (span_of (tokens row))) (told_both (tell conditional k (suc d) row r) no_names)
  tell s x d row (grammar.map {c} {b} {e} {f} {g} t u q) =
      told_as (map_is c.0 c.1 b (span_of (tokens row))) (told_behind e (told_then (told_ahead g (tell counter c d f u)) (told_behind f (tell block b d g q))))
  tell s x d row (grammar.upto {c} {x = y} {b} {e} {f} {g} {h} {i} t u v r q) =
      told_as (upto_is c.0 c.1 y b (span_of (tokens row))) (told_behind e (told_then (told_ahead (g ++ (h ++ i)) (tell counter c d f u)) (told_behind f (told_behind g (told_both (told_ahead i (expression_tells P y d h r)) (told_behind h (tell block b d i q)))))))
  tell s x d row (grammar.downto {c} {x = y} {b} {e} {f} {g} {h} {i} t u v r q) =
      told_as (downto_is c.0 c.1 y b (span_of (tokens row))) (told_behind e (told_then (told_ahead (g ++ (h ++ i)) (tell counter c d f u)) (told_behind f (told_behind g (told_both (told_ahead i (expression_tells P y d h r)) (told_behind h (tell block b d i q)))))))
  tell s x d row (grammar.forever {b} {e} {f} t q) =
      told_as (forever_is b (span_of (tokens row))) (told_behind e (tell block b d f q))
  tell s x d row (grammar.break t u) =
      told_as (break_is (span_of (tokens row))) (no_names)
  tell s x d row (grammar.return y f {e} {g} t r u) =
      told_as (return_is y (span_of (tokens row))) (told_behind e (told_ahead g (optional_tells P expr_names expr_of (λ z k a. expression_tells P z d k a) y f r)))
  tell s x d row (grammar.assert {x = y} {e} {f} {g} {h} {i} t u r v w) =
      told_as (assert_is y (span_of (tokens row))) (told_behind e (told_behind f (told_ahead (h ++ i) (expression_tells P y (suc d) g r))))
  tell s x d row (grammar.noalloc {b} {e} {f} t q) =
      told_as (no_alloc_is b (span_of (tokens row))) (told_behind e (tell block b d f q))
  tell s x d row (grammar.nobreak {b} {e} {f} t q) =
      told_as (no_break_is b (span_of (tokens row))) (told_behind e (tell block b d f q))
  tell s x d row (grammar.noreturn {b} {e} {f} t q) =
      told_as (no_return_is b (span_of (tokens row))) (told_behind e (tell block b d f q))

  pub block_tells : (b : Block) (d : ℕ) (row : Row Token) → Spells block b d row → Told P row (block_names (block_of b))
  block_tells b d row r = tell block b d row r
