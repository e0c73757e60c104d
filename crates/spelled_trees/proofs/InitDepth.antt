-- How deep an initializer can be: as deep as its expressions.
use Rattle.std.proofs.Common.{◌≡◌, ℕ, suc, [], ◌∷◌, ◌++◌, Option, Some, None, sym, subst, arith}
use Rattle.std.specs.Option.{option_map}
use Rattle.ivory_lexer.specs.declared.Token.{Token}
use Rattle.ivory_tree.specs.View.{init_of, inits_of}
use Rattle.ivory_tree.specs.declared.InitText.{InitText}
use Rattle.ivory_tree.proofs.View.{one_is, many_is}
use Rattle.reading.specs.Row.{Row, tokens}
use Rattle.expression_grammar.specs.Tokens.{span_of}
use Rattle.module_grammar.specs.Pieces.{FirstValue}
use Rattle.module_grammar.specs.Inits as grammar
use Rattle.module_grammar.specs.Inits.{Symbol, init, further, Tree, Spells}
use Rattle.ivory_tree.specs.Syntax.{InitSyntax}
use Rattle.ivory_tree.specs.Depth.{init_depth, inits_depth, first_value_depth}
use Rattle.spelled_trees.proofs.Nesting.{AtMost, flat, loose, deep_ahead, deep_behind, deepest_of, inner}
use Rattle.spelled_trees.proofs.ExprDepth.{expression_deep}

deep_as : {d c : ℕ} {row : Row Token} {x i : InitSyntax} → x ≡ i → AtMost d row (init_depth i) c → AtMost d row (init_depth x) c
deep_as {d} {c} {row} is a = subst (λ i. AtMost d row (init_depth i) c) (sym is) a

abbrev Means : (s : Symbol) → Tree s → ℕ → Row Token → Type 0
Means init i d row = AtMost d row (init_depth (init_of i)) 2
Means further is d row = AtMost d row (inits_depth (inits_of is)) 2

deep : (s : Symbol) (x : Tree s) (d : ℕ) (row : Row Token) → Spells s x d row → Means s x d row
deep s x d row grammar.none = flat
deep s x d row (grammar.more {x = y} {xs} {f} {g} {h} t r rs) = deep_behind f (deepest_of (deep_ahead h (deep init y d g r)) (deep_behind g (deep further xs d h rs)))
deep s x d row (grammar.one {x = e} r) = deep_as (one_is e) (expression_deep e d row r)
deep s x d row (grammar.empty t u) = deep_as (many_is [] (span_of (tokens row))) flat
deep s x d row (grammar.listed {x = y} {xs} {f} {g} {h} {i} t r rs u) =
    deep_as (many_is (y ∷ xs) (span_of (tokens row))) (loose (omega arith) (inner t.1 t.2 (deepest_of (deep_ahead (h ++ i) (deep init y (suc d) g r)) (deep_behind g (deep_ahead i (deep further xs (suc d) h rs))))))

pub init_deep : (i : InitText) (d : ℕ) (row : Row Token) → Spells init i d row → AtMost d row (init_depth (init_of i)) 2
init_deep i d row r = deep init i d row r

-- an initializer that may be absent
pub first_deep : (o : Option InitText) (d : ℕ) (row : Row Token) → FirstValue d o row → AtMost d row (first_value_depth (option_map init_of o)) 2
first_deep None d row e = flat
first_deep (Some i) d row (at, f, g, e, t, r) = subst (λ y. AtMost d y (init_depth (init_of i)) 2) (sym e) (deep_behind f (init_deep i d g r))
