-- The grammar of expressions: which rows of tokens spell which tree, at each depth of nesting.
--     expression = chain of level 10 [ "?" expression ":" expression ]
--     chain of level n + 1 = chain of level n { operator of level n, chain of level n },   chain of level 0 = operand
--     operand = ( "-" | "~" | "!" | "*" ) operand | postfix
--     postfix = primary { "." NAME | "[" expression "]" }
--     primary = NUMBER | "-" NUMBER | "true" | "false" | "result" | NAME | "(" expression ")" | INT "(" expression ")"
--             | ( "toix" | "wrapix" ) "(" NUMBER "," expression ")" | "bits" "(" NAME "," expression ")"
--             | "raw" "(" expression ")" | "set" "(" expression "," NAME "," expression ")"
-- A "-" before a number is the number's sign. A bracket nests from itself to its partner, a prefix operator to its operand's end,
-- a "?" to the end of its last arm. A node's place goes from its first token to its last; parentheses around an expression make no
-- node and are no tokens of it.
use Rattle.std.specs.Prelude.{◌≡◌, ℕ, zero, suc, pos, neg_ℤ, Bool, false, List, [], ◌∷◌, ◌++◌, Some}
use Rattle.iv_words.specs.declared.Span.{Span}
use Rattle.iv_words.specs.declared.Name.{Name}
use Rattle.iv_words.specs.declared.IntKind.{IntKind}
use Rattle.ivory_lexer.specs.declared.Token.{Token}
use Rattle.ivory_lexer.specs.declared.Mark.TheVariants as mark
use Rattle.ivory_lexer.specs.declared.Key.TheVariants as key
use Rattle.ivory_tree.specs.Syntax.{Word}
use Rattle.ivory_tree.specs.declared.PrefixOp.{PrefixOp}
use Rattle.ivory_tree.specs.declared.PrefixOp.TheVariants as op
use Rattle.ivory_tree.specs.declared.BinOp.{BinOp}
use Rattle.ivory_tree.specs.declared.Expr.{Expr}
use Rattle.ivory_tree.specs.declared.Link.{Link}
use Rattle.ivory_tree.specs.declared.Step.{Step}
use Rattle.reading.specs.Row.{Row, tokens, starts}
use Rattle.reading.specs.Language.{Language, Terminal}
use Rattle.expression_grammar.specs.Tokens.{symbol, keyword, word_of, name_of, number_of, truth_of, int_of, is_number, span_of}
use Rattle.expression_grammar.specs.Operators.{operator, plain_prefix}
use Rattle.expression_grammar.specs.Trees as tree

pub data Symbol : Type 0 where
  expression : Symbol
  -- with operators of the levels below this one, from the tightest
  chain : ℕ → Symbol
  -- an operator of this level with its right operand
  a_link : ℕ → Symbol
  operand : Symbol
  postfix : Symbol
  a_step : Symbol
  primary : Symbol
  -- none or more
  many : Symbol → Symbol

abbrev pub Tree : Symbol → Type 0
Tree expression = Expr
Tree (chain n) = Expr
Tree (a_link n) = Link
Tree operand = Expr
Tree postfix = Expr
Tree a_step = Step
Tree primary = Expr
Tree (many s) = List (Tree s)

-- the number of levels of operators between two operands
abbrev pub operator_levels : ℕ
operator_levels = 10

pub data Spells : (s : Symbol) → Tree s → ℕ → Row Token → Type 0 where
  none : {s : Symbol} {d : ℕ} → Spells (many s) [] d []
  more : {s : Symbol} {d : ℕ} {x : Tree s} {xs : List (Tree s)} {f g : Row Token} → Spells s x d f → Spells (many s) xs d g → Spells (many s) (x ∷ xs) d (f ++ g)
  -- expressions
  plain : {d : ℕ} {x : Expr} {f : Row Token} → Spells (chain operator_levels) x d f → Spells expression x d f
  conditional : {d : ℕ} {at to : Span} {x a b : Expr} {f g h i j : Row Token} → Spells (chain operator_levels) x d f
      → Terminal (suc d) (symbol mark.Question) at g → Spells expression a (suc d) h → Terminal (suc d) (symbol mark.Colon) to i → Spells expression b (suc d) j
      → Spells expression (tree.with_arms x (Some (a, b)) (span_of (tokens (f ++ (g ++ (h ++ (i ++ j))))))) d (f ++ (g ++ (h ++ (i ++ j))))
  -- chains
  lone : {d : ℕ} {x : Expr} {f : Row Token} → Spells operand x d f → Spells (chain zero) x d f
  linked : {n d : ℕ} {x : Expr} {links : List Link} {f g : Row Token} → Spells (chain n) x d f → Spells (many (a_link n)) links d g
      → Spells (chain (suc n)) (tree.with_links x links (span_of (tokens (f ++ g)))) d (f ++ g)
  link : {n d : ℕ} {o : BinOp × Span} {x : Expr} {f g : Row Token} → Terminal d (operator n) o f → Spells (chain n) x d g → Spells (a_link n) (tree.link o x) d (f ++ g)
  -- prefix operators
  unprefixed : {d : ℕ} {x : Expr} {f : Row Token} → Spells postfix x d f → Spells operand x d f
  negated : {d : ℕ} {at : Span} {x : Expr} {f g : Row Token} → Terminal (suc d) (symbol mark.Minus) at f → Spells operand x (suc d) g → starts is_number (tokens g) ≡ false
      → Spells operand (tree.prefixed_by op.Neg x (span_of (tokens (f ++ g)))) d (f ++ g)
  prefixed : {d : ℕ} {o : PrefixOp} {x : Expr} {f g : Row Token} → Terminal (suc d) plain_prefix o f → Spells operand x (suc d) g
      → Spells operand (tree.prefixed_by o x (span_of (tokens (f ++ g)))) d (f ++ g)
  -- fields and elements
  stepped : {d : ℕ} {x : Expr} {steps : List Step} {f g : Row Token} → Spells primary x d f → Spells (many a_step) steps d g
      → Spells postfix (tree.with_steps x steps (span_of (tokens (f ++ g)))) d (f ++ g)
  field : {d : ℕ} {at : Span} {name : Name} {f g : Row Token} → Terminal d (symbol mark.Dot) at f → Terminal d name_of name g → Spells a_step (tree.field name) d (f ++ g)
  element : {d : ℕ} {at to : Span} {x : Expr} {f g h : Row Token} → Terminal (suc d) (symbol mark.OpenBracket) at f → Spells expression x (suc d) g
      → Terminal (suc d) (symbol mark.CloseBracket) to h → Spells a_step (tree.index x (span_of (tokens (f ++ (g ++ h))))) d (f ++ (g ++ h))
  -- primaries
  number : {d n : ℕ} {f : Row Token} → Terminal d number_of n f → Spells primary (tree.literal (pos n) (span_of (tokens f))) d f
  negative : {d n : ℕ} {at : Span} {f g : Row Token} → Terminal d (symbol mark.Minus) at f → Terminal d number_of n g
      → Spells primary (tree.literal (neg_ℤ (pos n)) (span_of (tokens (f ++ g)))) d (f ++ g)
  truth : {d : ℕ} {b : Bool} {f : Row Token} → Terminal d truth_of b f → Spells primary (tree.truth b (span_of (tokens f))) d f
  outcome : {d : ℕ} {at : Span} {f : Row Token} → Terminal d (keyword key.KwResult) at f → Spells primary (tree.outcome (span_of (tokens f))) d f
  variable : {d : ℕ} {w : Word} {f : Row Token} → Terminal d word_of w f → Spells primary (tree.variable w (span_of (tokens f))) d f
  parentheses : {d : ℕ} {at to : Span} {x : Expr} {f g h : Row Token} → Terminal (suc d) (symbol mark.OpenParen) at f → Spells expression x (suc d) g
      → Terminal (suc d) (symbol mark.CloseParen) to h → Spells primary x d (f ++ (g ++ h))
  cast : {d : ℕ} {at to : Span} {k : IntKind} {x : Expr} {e f g h : Row Token} → Terminal d int_of k e → Terminal (suc d) (symbol mark.OpenParen) at f → Spells expression x (suc d) g
      → Terminal (suc d) (symbol mark.CloseParen) to h → Spells primary (tree.cast k x (span_of (tokens (e ++ (f ++ (g ++ h)))))) d (e ++ (f ++ (g ++ h)))
  to_index : {d n : ℕ} {head at comma to : Span} {x : Expr} {e f g h i j : Row Token} → Terminal d (keyword key.KwToix) head e → Terminal (suc d) (symbol mark.OpenParen) at f
      → Terminal (suc d) number_of n g → Terminal (suc d) (symbol mark.Comma) comma h → Spells expression x (suc d) i → Terminal (suc d) (symbol mark.CloseParen) to j
      → Spells primary (tree.to_index n x (span_of (tokens (e ++ (f ++ (g ++ (h ++ (i ++ j)))))))) d (e ++ (f ++ (g ++ (h ++ (i ++ j)))))
  wrap_index : {d n : ℕ} {head at comma to : Span} {x : Expr} {e f g h i j : Row Token} → Terminal d (keyword key.KwWrapix) head e → Terminal (suc d) (symbol mark.OpenParen) at f
      → Terminal (suc d) number_of n g → Terminal (suc d) (symbol mark.Comma) comma h → Spells expression x (suc d) i → Terminal (suc d) (symbol mark.CloseParen) to j
      → Spells primary (tree.wrap_index n x (span_of (tokens (e ++ (f ++ (g ++ (h ++ (i ++ j)))))))) d (e ++ (f ++ (g ++ (h ++ (i ++ j)))))
  make_bits : {d : ℕ} {w : Word} {head at comma to : Span} {x : Expr} {e f g h i j : Row Token} → Terminal d (keyword key.KwBits) head e → Terminal (suc d) (symbol mark.OpenParen) at f
      → Terminal (suc d) word_of w g → Terminal (suc d) (symbol mark.Comma) comma h → Spells expression x (suc d) i → Terminal (suc d) (symbol mark.CloseParen) to j
      → Spells primary (tree.make_bits w x (span_of (tokens (e ++ (f ++ (g ++ (h ++ (i ++ j)))))))) d (e ++ (f ++ (g ++ (h ++ (i ++ j)))))
  raw : {d : ℕ} {head at to : Span} {x : Expr} {e f g h : Row Token} → Terminal d (keyword key.KwRaw) head e → Terminal (suc d) (symbol mark.OpenParen) at f → Spells expression x (suc d) g
      → Terminal (suc d) (symbol mark.CloseParen) to h → Spells primary (tree.raw x (span_of (tokens (e ++ (f ++ (g ++ h)))))) d (e ++ (f ++ (g ++ h)))
  set_field : {d : ℕ} {head at comma again to : Span} {x value : Expr} {name : Name} {e f g h i j k l : Row Token} → Terminal d (keyword key.KwSet) head e
      → Terminal (suc d) (symbol mark.OpenParen) at f → Spells expression x (suc d) g → Terminal (suc d) (symbol mark.Comma) comma h → Terminal (suc d) name_of name i
      → Terminal (suc d) (symbol mark.Comma) again j → Spells expression value (suc d) k → Terminal (suc d) (symbol mark.CloseParen) to l
      → Spells primary (tree.set_field x name value (span_of (tokens (e ++ (f ++ (g ++ (h ++ (i ++ (j ++ (k ++ l)))))))))) d (e ++ (f ++ (g ++ (h ++ (i ++ (j ++ (k ++ l)))))))

-- what a symbol spells at a depth
abbrev pub Rule : (s : Symbol) → ℕ → Language Token (Tree s)
Rule s d x row = Spells s x d row
