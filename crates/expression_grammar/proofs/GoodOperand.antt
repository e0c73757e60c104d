-- The readers of operands, with the operators before them, and of chains read what the grammar spells.
use Rattle.std.proofs.Common.{◌≡◌, ℕ, zero, suc, ◌≤◌, Bool, true, false, cond, List, ◌∷◌, refl, arith, Option, Some, is_some}
use Rattle.std.specs.Option.{option_map}
use Rattle.ivory_lexer.specs.declared.Token.{Token}
use Rattle.ivory_lexer.specs.declared.TokenKind.{TokenKind}
use Rattle.ivory_lexer.specs.declared.TokenKind.TheVariants as kind
use Rattle.ivory_lexer.specs.declared.Mark.{Mark}
use Rattle.ivory_lexer.specs.declared.Mark.TheVariants as mark
use Rattle.ivory_tree.specs.declared.PrefixOp.TheVariants as prefix
use Rattle.ivory_tree.specs.declared.BinOp.{BinOp}
use Rattle.ivory_tree.specs.declared.BinOp.TheVariants as op
use Rattle.ivory_tree.specs.declared.Expr.{Expr}
use Rattle.ivory_tree.specs.declared.Link.{Link}
use Rattle.reading.specs.Language.{Language, Terminal}
use Rattle.reading.specs.Reader.{Reader, ◌>>=◌, ◌<$>◌, accept, many, spanned}
use Rattle.reading.specs.Good.{Good}
use Rattle.reading.proofs.Same.{none, good_as, good_map}
use Rattle.reading.proofs.Tokens.{good_accept}
use Rattle.reading.proofs.Sequence.{good_then, good_ended_then}
use Rattle.reading.proofs.Spans.{good_spanned}
use Rattle.reading.proofs.Starts.{starts_apart, either_first, either_second, many_first}
use Rattle.reading.proofs.Choice.{good_choice}
use Rattle.reading.proofs.Plain.{plain_mapped}
use Rattle.reading.proofs.Nesting.{Within, barred_within, read_within, Below, barred_there, read_there, good_nested}
use Rattle.reading.proofs.Repeat.{good_many}
use Rattle.reading.proofs.SignChoice.{Others}
use Rattle.reading.proofs.Literals.{others_beside}
use Rattle.reading.proofs.Prefix.{good_prefixed}
use Rattle.expression_grammar.specs.Tokens.{is_mark_kind, symbol, signs}
use Rattle.expression_grammar.specs.Operators.{operator, is_operator, plain_prefix_of, is_plain_prefix}
use Rattle.expression_grammar.specs.Trees as tree
use Rattle.expression_grammar.specs.Forms.{primary_form}
use Rattle.expression_grammar.specs.Grammar.{Rule, operator_levels}
use Rattle.expression_grammar.specs.Grammar as spelled
use Rattle.expression_grammar.specs.Reader.{begins_step, plain_prefixed_reader, operand_reader, link_reader, chain_reader}
use Rattle.expression_grammar.specs.Edges.{begins_postfix, goes_on}
use Rattle.expression_grammar.proofs.Nodes.{negated_node, prefixed_node, links_node}
use Rattle.expression_grammar.proofs.Tokens.{marked, not_mark, otherwise, symbol_passes, symbol_some}
use Rattle.expression_grammar.proofs.Productions.{PlainPrefixed, NotNegated, to_operand, from_operand, to_lone, from_lone, to_link, from_link, to_chain, from_chain}
use Rattle.expression_grammar.proofs.Begins.{starts_plain_prefixed, starts_postfix, starts_operand, starts_link}
use Rattle.expression_grammar.proofs.Samples.{nowhere, some_operand}
use Rattle.expression_grammar.proofs.Plain.{prefix_plain, plain_operand}
use Rattle.expression_grammar.proofs.Following.{follows, apart}
use Rattle.expression_grammar.proofs.GoodPrimary.{good_postfix_with, others_postfix}

-- what follows an opening token, put together over the rule one level deeper
pub below_map : {A B C : Type 0} {limit d : ℕ} {c : Token → Bool} {R : Language Token A} {Q : B → Language Token C} {inner : Option (Reader Token A)} (f : Reader Token A → B → Reader Token C)
    → ((p : Reader Token A) → suc d ≤ limit → Good signs limit c R p → (b : B) → Good signs limit c (Q b) (f p b)) → Within signs limit d c R inner → Below signs limit d c Q (option_map f inner)
below_map f h (barred_within deeper) = barred_there deeper
below_map f h (read_within {p} low good) = read_there low (h p low good)

-- ---- operators before an operand

prefix_kind : (k : TokenKind) → is_some (plain_prefix_of k) ≡ true → cond (is_some (primary_form k)) true (is_mark_kind mark.OpenParen k) ≡ false
prefix_kind (kind.Mark mark.Tilde) e = refl
prefix_kind (kind.Mark mark.Bang) e = refl
prefix_kind (kind.Mark mark.Star) e = refl
prefix_kind _ e = cc

no_prefix : (t : Token) → begins_postfix t ≡ true → is_plain_prefix t ≡ false
no_prefix t e = otherwise (is_plain_prefix t) (begins_postfix t) e (prefix_kind t.kind)

module _ (limit d : ℕ) (low : d ≤ limit) (inner : Option (Reader Token Expr)) (there : Within signs limit d goes_on (Rule spelled.expression (suc d)) inner)
    (deeper : Option (Reader Token Expr)) (deep : Within signs limit d begins_step (Rule spelled.operand (suc d)) deeper) where
  good_plain_prefixed : Good signs limit begins_step (PlainPrefixed d) (plain_prefixed_reader deeper)
  good_plain_prefixed = good_spanned prefixed_node (good_nested
      (below_map (λ operand o. (λ x. (o, x)) <$> operand) (λ p low good o. good_map (λ x. (o, x)) good) deep)
      (λ o. let w = some_operand (suc d) in ((o, w.0), w.1 ∷ w.2, (w.0, w.3, refl)))
      prefix_plain (λ o. plain_mapped (λ x. (o, x)) (plain_operand (suc d))) prefix.Flip (marked mark.Tilde nowhere) refl)

  others : Others signs limit (NotNegated d)
  others = others_beside (starts_apart signs.sign (not_mark is_plain_prefix mark.Minus (λ s. refl)) (starts_plain_prefixed d)) (λ a r. (starts_plain_prefixed d).nonempty a r) (others_postfix limit d low inner there)

  pub good_operand_with : Good signs limit begins_step (Rule spelled.operand d) (operand_reader inner deeper)
  unfolding operand_reader
  good_operand_with =
      good_as (to_operand d) (from_operand d)
      (good_prefixed (symbol mark.Minus) negated_node (symbol_passes mark.Minus) (λ t is. (t.span, symbol_some mark.Minus t is)) (marked mark.Minus nowhere, refl)
      (λ x r. (starts_operand (suc d)).nonempty x r) (some_operand (suc d)) (plain_operand (suc d)) deep
      (good_choice is_plain_prefix begins_postfix no_prefix good_plain_prefixed (starts_plain_prefixed d) (good_postfix_with limit d low inner there) (starts_postfix d)) others)

-- ---- operators between operands

-- an operator of each level
of_level_with : {limit d : ℕ} (n : ℕ) (m : Mark) (o : BinOp) → operator n (marked m nowhere) ≡ Some (o, nowhere) → d ≤ limit → Good signs limit none (Terminal d (operator n)) (accept (operator n))
of_level_with n m o is low = good_accept (operator n) low (o, nowhere) (marked m nowhere) is

good_operator : {limit d : ℕ} (n : ℕ) → suc n ≤ operator_levels → d ≤ limit → Good signs limit none (Terminal d (operator n)) (accept (operator n))
good_operator zero top low = of_level_with 0 mark.Star op.Mul refl low
good_operator (suc zero) top low = of_level_with 1 mark.Plus op.Add refl low
good_operator (suc (suc zero)) top low = of_level_with 2 mark.Shl op.Shl refl low
good_operator (suc (suc (suc zero))) top low = of_level_with 3 mark.Less op.Lt refl low
good_operator (suc (suc (suc (suc zero)))) top low = of_level_with 4 mark.EqualEqual op.Eq refl low
good_operator (suc (suc (suc (suc (suc zero))))) top low = of_level_with 5 mark.Amp op.And refl low
good_operator (suc (suc (suc (suc (suc (suc zero)))))) top low = of_level_with 6 mark.Caret op.Xor refl low
good_operator (suc (suc (suc (suc (suc (suc (suc zero))))))) top low = of_level_with 7 mark.Pipe op.Or refl low
good_operator (suc (suc (suc (suc (suc (suc (suc (suc zero)))))))) top low = of_level_with 8 mark.AmpAmp op.AndAlso refl low
good_operator (suc (suc (suc (suc (suc (suc (suc (suc (suc zero))))))))) top low = of_level_with 9 mark.PipePipe op.OrElse refl low
good_operator (suc (suc (suc (suc (suc (suc (suc (suc (suc (suc n)))))))))) top low = absurd (omega arith)

module _ (limit d : ℕ) (low : d ≤ limit) (operand : Reader Token Expr) (good : Good signs limit begins_step (Rule spelled.operand d) operand) where
  module _ (n : ℕ) (top : suc n ≤ operator_levels) (right : Reader Token Expr) (good_right : Good signs limit (follows n) (Rule (spelled.chain n) d) right) where
    ends_operand : (t : Token) → is_operator n t ≡ true → follows n t ≡ false
    ends_operand t e = apart n t e n (omega arith)

    good_link : Good signs limit (follows n) (Rule (spelled.a_link n) d) (link_reader n right)
    good_link = good_as (to_link n d) (from_link n d) (good_ended_then (good_operator n top low) (λ o. good_map (tree.link o) good_right))

    good_links : Good signs limit (follows (suc n)) (Rule (spelled.chain (suc n)) d)
        (spanned links_node (right >>= λ x. (λ links. (x, links)) <$> many (is_operator n) (link_reader n right)))
    good_links =
        good_as (to_chain n d) (from_chain n d)
        (good_spanned links_node
        (good_then good_right (λ x. good_map (λ (links : List Link). (x, links)) (good_many good_link (starts_link n d) ends_operand (either_first (is_operator n) (follows n)) (either_second (is_operator n) (follows n))))
        (λ x b m g (links, r, is). ends_operand m.token (many_first (starts_link n d) links m g r))
        (λ x b r. either_second (is_operator n) (follows n))))

  pub good_chain : (n : ℕ) → n ≤ operator_levels → Good signs limit (follows n) (Rule (spelled.chain n) d) (chain_reader n operand)
  unfolding chain_reader
  good_chain zero top = good_as (to_lone d) (from_lone d) good
  good_chain (suc n) top = good_links n top (chain_reader n operand) (good_chain n (omega arith))
