-- Each name in an initializer is the word of a name among its tokens.
use Rattle.std.proofs.Common.{◌≡◌, ℕ, suc, [], ◌∷◌, ◌++◌, Option, Some, None, sym, subst}
use Rattle.std.specs.Option.{option_map}
use Rattle.ivory_lexer.specs.declared.Token.{Token}
use Rattle.ivory_tree.specs.View.{init_of, inits_of}
use Rattle.ivory_tree.specs.declared.InitText.{InitText}
use Rattle.ivory_tree.proofs.View.{one_is, many_is}
use Rattle.reading.specs.Row.{Row, tokens}
use Rattle.expression_grammar.specs.Tokens.{span_of}
use Rattle.module_grammar.specs.Pieces.{FirstValue}
use Rattle.module_grammar.specs.Inits as grammar
use Rattle.module_grammar.specs.Inits.{Symbol, init, further, Tree, Spells}
use Rattle.ivory_lexer.specs.declared.TokenKind.{TokenKind}
use Rattle.ivory_tree.specs.Syntax.{InitSyntax}
use Rattle.ivory_tree.specs.Names.{if_any, init_names, inits_names}
use Rattle.spelled_trees.proofs.Words.{Told, no_names, told_ahead, told_behind, told_both}
use Rattle.spelled_trees.proofs.ListNames.{optional_tells, after_tells}
use Rattle.spelled_trees.proofs.ExprNames.{expression_tells}

module _ (P : TokenKind → Type 0) where
  told_as : {row : Row Token} {x i : InitSyntax} → x ≡ i → Told P row (init_names i) → Told P row (init_names x)
  told_as {row} is t = subst (λ i. Told P row (init_names i)) (sym is) t

  abbrev Means : (s : Symbol) → Tree s → Row Token → Type 0
  Means init i row = Told P row (init_names (init_of i))
  Means further is row = Told P row (inits_names (inits_of is))

  tell : (s : Symbol) (x : Tree s) (d : ℕ) (row : Row Token) → Spells s x d row → Means s x row
  tell s x d row grammar.none = no_names
  tell s x d row (grammar.more {x = y} {xs} {f} {g} {h} t r rs) = told_behind f (told_both (told_ahead h (tell init y d g r)) (told_behind g (tell further xs d h rs)))
  tell s x d row (grammar.one {x = e} r) = told_as (one_is e) (expression_tells P e d row r)
  tell s x d row (grammar.empty t u) = told_as (many_is [] (span_of (tokens row))) no_names
  tell s x d row (grammar.listed {x = y} {xs} {f} {g} {h} {i} t r rs u) =
      told_as (many_is (y ∷ xs) (span_of (tokens row))) (told_behind f (told_both (told_ahead (h ++ i) (tell init y (suc d) g r)) (told_behind g (told_ahead i (tell further xs (suc d) h rs)))))

  pub init_tells : (i : InitText) (d : ℕ) (row : Row Token) → Spells init i d row → Told P row (init_names (init_of i))
  init_tells i d row r = tell init i d row r

  -- an initializer that may be absent
  pub first_tells : (o : Option InitText) (d : ℕ) (row : Row Token) → FirstValue d o row → Told P row (if_any init_names (option_map init_of o))
  first_tells o d row r = optional_tells P init_names init_of (λ i y a. after_tells P init_names init_of (λ j z b. init_tells j d z b) i y a) o row r
