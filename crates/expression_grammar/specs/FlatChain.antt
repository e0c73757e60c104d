-- How a chain is read flat: its first operand once, and then the links of each level in turn, from the tightest on. The code
-- reads so; that this is as `chain_reader` reads is in proofs/FlatChain.
use Rattle.std.specs.Prelude.{ℕ, zero, suc, List}
use Rattle.ivory_lexer.specs.declared.Token.{Token}
use Rattle.ivory_tree.specs.declared.Expr.{Expr}
use Rattle.ivory_tree.specs.declared.Link.{Link}
use Rattle.reading.specs.Reader.{Reader, Done, and_then, spanning, many}
use Rattle.expression_grammar.specs.Tokens.{span_of}
use Rattle.expression_grammar.specs.Operators.{is_operator}
use Rattle.expression_grammar.specs.Trees as tree
use Rattle.expression_grammar.specs.Reader.{link_reader, chain_reader}

abbrev pub links_reader : ℕ → Reader Token Expr → Reader Token (List Link)
links_reader n operand = many (is_operator n) (link_reader n (chain_reader n operand))

-- the links of one level behind what was read of the tokens `from`
abbrev pub linked : ℕ → Reader Token Expr → List Token → Expr → Reader Token Expr
linked n operand from x ts = spanning (λ links front. tree.with_links x links (span_of front)) from (links_reader n operand ts)

-- those of so many levels from level n on
unfoldable pub climb : ℕ → ℕ → Reader Token Expr → List Token → Expr → Reader Token Expr
climb zero n operand from x ts = Done x ts
climb (suc k) n operand from x ts = and_then (linked n operand from x ts) (climb k (suc n) operand from)

-- an operand, and the links of so many levels
abbrev pub flat_chain : ℕ → Reader Token Expr → Reader Token Expr
flat_chain n operand ts = and_then (operand ts) (climb n 0 operand ts)
