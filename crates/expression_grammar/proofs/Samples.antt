-- Something that each rule spells.
use Rattle.std.proofs.Common.{◌≡◌, ℕ, zero, suc, false, [], ◌∷◌, refl}
use Rattle.iv_words.specs.declared.Span.{Span}
use Rattle.ivory_lexer.specs.declared.Token.{Token}
use Rattle.ivory_lexer.specs.declared.TokenKind.TheVariants as kind
use Rattle.ivory_tree.specs.declared.Expr.{Expr}
use Rattle.reading.specs.Row.{Entry, Row}
use Rattle.reading.specs.Language.{Terminal}
use Rattle.expression_grammar.specs.Tokens.{word_of, is_number}
use Rattle.expression_grammar.specs.Grammar.{Rule, operator_levels}
use Rattle.expression_grammar.specs.Grammar as spelled
use Rattle.expression_grammar.proofs.Tokens.{token}

abbrev pub nowhere : Span
nowhere = record { start = 0; end = 0 }

a_name : ℕ → Entry Token
a_name d = record { token = token (kind.Name []) nowhere; depth = d }

named : (d : ℕ) → Terminal d word_of [] (a_name d ∷ [])
unfolding a_name
named d = (a_name d, refl, refl, refl)

pub some_postfix : (d : ℕ) → (x : Expr) × (row : Row Token) × Rule spelled.postfix d x row
some_postfix d = (_, _, spelled.stepped (spelled.variable (named d)) spelled.none)

-- it begins with no number
pub some_operand : (d : ℕ) → (x : Expr) × (n : Entry Token) × (g : Row Token) × Rule spelled.operand d x (n ∷ g) × (is_number n.token ≡ false)
unfolding a_name
some_operand d = (_, a_name d, [], spelled.unprefixed (spelled.stepped (spelled.variable (named d)) spelled.none), refl)

pub some_chain : (n d : ℕ) → (x : Expr) × (row : Row Token) × Rule (spelled.chain n) d x row
some_chain zero d = let w = some_operand d in (w.0, w.1 ∷ w.2, spelled.lone w.3)
some_chain (suc n) d = let w = some_chain n d in (_, _, spelled.linked w.2 spelled.none)

pub some_expression : (d : ℕ) → (x : Expr) × (row : Row Token) × Rule spelled.expression d x row
some_expression d = let w = some_chain operator_levels d in (w.0, w.1, spelled.plain w.2)
