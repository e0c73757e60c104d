-- The readers of expressions and of postfixes are good, with whatever levels are left to nest.
use Rattle.std.proofs.Common.{◌≡◌, ℕ, zero, suc, ◌+◌, ◌≤◌, false, [], ◌∷◌, ◌++◌, refl, sym, arith, subst, Option}
use Rattle.iv_words.specs.declared.Span.{Span}
use Rattle.ivory_lexer.specs.declared.Token.{Token}
use Rattle.ivory_lexer.specs.declared.Mark.TheVariants as mark
use Rattle.ivory_tree.specs.declared.Expr.{Expr}
use Rattle.reading.specs.Row.{Row}
use Rattle.reading.specs.Row as rows
use Rattle.reading.specs.Language.{Language, Terminal, Mapped, After, Optional}
use Rattle.reading.specs.Reader.{Reader, below}
use Rattle.reading.specs.Good.{Good}
use Rattle.reading.proofs.Same.{good_as, good_map}
use Rattle.reading.proofs.Sequence.{good_then, good_after}
use Rattle.reading.proofs.Spans.{good_spanned}
use Rattle.reading.proofs.Starts.{StartsWith, StartsWithout, starts_apart, without_mapped, without_optional}
use Rattle.reading.proofs.Plain.{Plain, plain_mapped, plain_last}
use Rattle.reading.proofs.Nesting.{Within, barred_within, read_within, good_nested}
use Rattle.reading.proofs.Lists.{good_optional}
use Rattle.expression_grammar.specs.Tokens.{is_mark, symbol, signs}
use Rattle.expression_grammar.specs.Grammar.{Rule, operator_levels}
use Rattle.expression_grammar.specs.Grammar as spelled
use Rattle.expression_grammar.specs.Reader.{begins_step, postfix_reader, arms_of, arms_reader, expression_reader, expression, operand}
use Rattle.expression_grammar.specs.Edges.{goes_on}
use Rattle.expression_grammar.proofs.Unfold.{expression_below, operand_below}
use Rattle.expression_grammar.proofs.Nodes.{arms_node}
use Rattle.expression_grammar.proofs.Tokens.{marked, at_mark}
use Rattle.expression_grammar.proofs.Productions.{ArmsAfter, Arms, to_expression, from_expression}
use Rattle.expression_grammar.proofs.Begins.{starts_arms, starts_expression}
use Rattle.expression_grammar.proofs.Samples.{nowhere, some_expression}
use Rattle.expression_grammar.proofs.Plain.{symbol_plain, plain_expression}
use Rattle.expression_grammar.proofs.Following.{follows, follows_goes, question_goes, question_stops}
use Rattle.expression_grammar.proofs.GoodPrimary.{good_symbol, starts_after, good_postfix_with}
use Rattle.expression_grammar.proofs.GoodOperand.{below_map, good_operand_with, good_chain}

-- ---- the arms of a choice

-- the second arm, behind the first
abbrev SecondArm : ℕ → Expr → Language Token (Expr × Expr)
SecondArm d a = After (Terminal d (symbol mark.Colon)) (Mapped (λ b. (a, b)) (Rule spelled.expression d))

starts_second : (d : ℕ) (a : Expr) → StartsWith (is_mark mark.Colon) (SecondArm d a)
starts_second d a = starts_after mark.Colon d (Mapped (λ b. (a, b)) (Rule spelled.expression d))

plain_arms : (d : ℕ) (at : Span) → Plain signs (ArmsAfter d at)
plain_arms d at =
    plain_last (λ a. plain_last (λ colon. plain_mapped (λ b. (a, b)) (plain_expression d)) (λ colon p (b, r, is). (starts_expression d).nonempty b r)) (λ a p r. (starts_second d a).nonempty p r)

some_arms : (d : ℕ) (at : Span) → (p : Expr × Expr) × (row : Row Token) × ArmsAfter d at p row
some_arms d at =
    let x = some_expression d in
    let m : rows.Entry Token = record { token = marked mark.Colon nowhere; depth = d } in
    ((x.0, x.0), x.1 ++ (m ∷ x.1), (x.0, x.1, m ∷ x.1, refl, x.2, (nowhere, m ∷ [], x.1, refl, (m, refl, refl, refl), (x.0, x.2, refl))))

good_arms_of : {limit e : ℕ} (p : Reader Token Expr) → e ≤ limit → Good signs limit goes_on (Rule spelled.expression e) p → (at : Span) → Good signs limit goes_on (ArmsAfter e at) (arms_of p at)
good_arms_of {limit} {e} p low good at =
    good_then good (λ a. good_after (good_symbol mark.Colon low) (good_map (λ b. (a, b)) good))
    (λ a b m g r. at_mark goes_on false mark.Colon (λ s. refl) m.token ((starts_second e a).first b m g r))
    (λ a b r. absurd ((starts_second e a).nonempty b r))

-- ---- expressions

module _ (limit d : ℕ) (low : d ≤ limit) (inner : Option (Reader Token Expr)) (there : Within signs limit d goes_on (Rule spelled.expression (suc d)) inner) where
  good_arms : Good signs limit goes_on (Arms d) (arms_reader inner)
  good_arms =
      good_nested (below_map arms_of good_arms_of there) (some_arms (suc d)) (symbol_plain mark.Question refl) (plain_arms (suc d)) nowhere (marked mark.Question nowhere) refl

  without_arms : (x : Expr) → StartsWithout {A = Expr × Option (Expr × Expr)} (follows operator_levels) (Mapped (λ arms. (x, arms)) (Optional (Arms d)))
  without_arms x = without_mapped (λ arms. (x, arms)) (without_optional (starts_apart (follows operator_levels) question_stops (starts_arms d)))

  good_expression_with : (operand : Reader Token Expr) → Good signs limit begins_step (Rule spelled.operand d) operand → Good signs limit goes_on (Rule spelled.expression d) (expression_reader inner operand)
  unfolding expression_reader
  good_expression_with operand good =
      good_as (to_expression d) (from_expression d)
      (good_spanned arms_node
      (good_then (good_chain limit d low operand good operator_levels (omega arith)) (λ x. good_map (λ (arms : Option (Expr × Expr)). (x, arms)) (good_optional good_arms (starts_arms d) question_goes (λ t e. e)))
      (λ x b m g r. (without_arms x).first b m g r)
      (λ x b r. follows_goes operator_levels)))

-- ---- by the levels that are left

pub record GoodLevels (limit k d : ℕ) : Type 0 where
  pub of_expression : Good signs limit goes_on (Rule spelled.expression d) (expression k)
  pub of_operand : Good signs limit begins_step (Rule spelled.operand d) (operand k)

good_with : (limit k d : ℕ) → d ≤ limit → Within signs limit d goes_on (Rule spelled.expression (suc d)) (below expression k) → Within signs limit d begins_step (Rule spelled.operand (suc d)) (below operand k) → GoodLevels limit k d
good_with limit k d low there deep =
    let good : Good signs limit begins_step (Rule spelled.operand d) (operand k) =
    subst (Good signs limit begins_step (Rule spelled.operand d)) (sym (operand_below k)) (good_operand_with limit d low (below expression k) there (below operand k) deep) in
    record {
      of_expression = subst (Good signs limit goes_on (Rule spelled.expression d)) (sym (expression_below k)) (good_expression_with limit d low (below expression k) there (operand k) good);
      of_operand = good;
    }

good_levels : (limit k d : ℕ) → d + k ≡ limit → GoodLevels limit k d
unfolding below
good_levels limit zero d e = good_with limit zero d (omega arith) (barred_within (omega arith)) (barred_within (omega arith))
good_levels limit (suc k) d e =
    let w = good_levels limit k (suc d) (omega arith) in
    good_with limit (suc k) d (omega arith) (read_within (omega arith) w.of_expression) (read_within (omega arith) w.of_operand)

pub good_expression : (limit k d : ℕ) → d + k ≡ limit → Good signs limit goes_on (Rule spelled.expression d) (expression k)
good_expression limit k d e = (good_levels limit k d e).of_expression

pub good_operand : (limit k d : ℕ) → d + k ≡ limit → Good signs limit begins_step (Rule spelled.operand d) (operand k)
good_operand limit k d e = (good_levels limit k d e).of_operand

-- the expressions one level deeper
pub expression_within : (limit k d : ℕ) → d + k ≡ limit → Within signs limit d goes_on (Rule spelled.expression (suc d)) (below expression k)
unfolding below
expression_within limit zero d e = barred_within (omega arith)
expression_within limit (suc k) d e = read_within (omega arith) (good_expression limit k (suc d) (omega arith))

pub good_postfix : (limit k d : ℕ) → d + k ≡ limit → Good signs limit begins_step (Rule spelled.postfix d) (postfix_reader (below expression k))
good_postfix limit k d e = good_postfix_with limit d (omega arith) (below expression k) (expression_within limit k d e)
