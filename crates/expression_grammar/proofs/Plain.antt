-- No row of a rule ends in a `-`.
use Rattle.std.proofs.Common.{◌≡◌, ℕ, zero, suc, Bool, false, List, [], ◌∷◌, ◌++◌, inl, inr, refl, sym, ap, ◌∙◌, subst, append_assoc, Option, Some, is_some}
use Rattle.iv_words.specs.declared.Span.{Span}
use Rattle.iv_words.specs.declared.Name.{Name}
use Rattle.ivory_lexer.specs.declared.Token.{Token}
use Rattle.ivory_lexer.specs.declared.Mark.{Mark}
use Rattle.ivory_lexer.specs.declared.Mark.TheVariants as mark
use Rattle.ivory_lexer.specs.declared.Key.{Key}
use Rattle.ivory_lexer.specs.declared.Key.TheVariants as key
use Rattle.ivory_tree.specs.Syntax.{Word}
use Rattle.ivory_tree.specs.declared.PrefixOp.{PrefixOp}
use Rattle.ivory_tree.specs.declared.Expr.{Expr}
use Rattle.reading.specs.Row.{Row}
use Rattle.reading.specs.Row as rows
use Rattle.reading.specs.Language.{Language, Terminal, Spanned, After, Enclosed}
use Rattle.reading.proofs.Rows.{append_nil, back_nil, split_at}
use Rattle.reading.proofs.Starts.{terminal_nonempty}
use Rattle.reading.proofs.Plain.{Plain, plain_terminal, plain_mapped, plain_spanned, plain_either, plain_as, plain_headed, plain_then, plain_last, plain_many}
use Rattle.expression_grammar.specs.declared.PrimaryForm.{PrimaryForm}
use Rattle.expression_grammar.specs.declared.PrimaryForm.TheVariants as form
use Rattle.ivory_lexer.specs.Same.{same_mark}
use Rattle.expression_grammar.specs.Tokens.{is_mark, is_name, is_number, symbol, keyword, word_of, name_of, number_of, truth_of, signs}
use Rattle.expression_grammar.specs.Operators.{plain_prefix, is_plain_prefix}
use Rattle.expression_grammar.specs.Trees as tree
use Rattle.expression_grammar.specs.Grammar.{Symbol, Tree, Spells, Rule, operator_levels}
use Rattle.expression_grammar.specs.Grammar as spelled
use Rattle.expression_grammar.proofs.Nodes.{number_node, negative_node, truth_node, outcome_node, variable_node, cast_node, to_index_node, wrap_index_node, make_bits_node, raw_node, set_field_node, element_node, steps_node, links_node}
use Rattle.expression_grammar.proofs.Tokens.{at_key, not_mark, mark_or, symbol_passes, keyword_passes, number_passes, word_passes, name_passes}
use Rattle.expression_grammar.proofs.Primaries.{Form, Parens, from_primary}
use Rattle.expression_grammar.proofs.Productions.{from_step, from_postfix, from_lone, from_link, from_chain}
use Rattle.expression_grammar.proofs.Begins.{is_truth, starts_parens, starts_operand, starts_chain, starts_expression}

-- ---- tokens that are no sign

pub symbol_plain : (a : Mark) → same_mark mark.Minus a ≡ false → (t : Token) (s : Span) → symbol a t ≡ Some s → is_mark mark.Minus t ≡ false
symbol_plain a other t s e = mark_or a mark.Minus t (symbol_passes a t s e) ∙ other

pub keyword_plain : (a : Key) (t : Token) (s : Span) → keyword a t ≡ Some s → is_mark mark.Minus t ≡ false
keyword_plain a t s e = at_key (is_mark mark.Minus) false a (λ s. refl) t (keyword_passes a t s e)

pub number_plain : (t : Token) (n : ℕ) → number_of t ≡ Some n → is_mark mark.Minus t ≡ false
number_plain t n e = not_mark is_number mark.Minus (λ s. refl) t (number_passes t n e)

pub word_plain : (t : Token) (w : Word) → word_of t ≡ Some w → is_mark mark.Minus t ≡ false
word_plain t w e = not_mark is_name mark.Minus (λ s. refl) t (word_passes t w e)

pub name_plain : (t : Token) (x : Name) → name_of t ≡ Some x → is_mark mark.Minus t ≡ false
name_plain t x e = not_mark is_name mark.Minus (λ s. refl) t (name_passes t x e)

pub truth_plain : (t : Token) (b : Bool) → truth_of t ≡ Some b → is_mark mark.Minus t ≡ false
truth_plain t b e = not_mark is_truth mark.Minus (λ s. refl) t (ap is_some e)

pub prefix_plain : (t : Token) (o : PrefixOp) → plain_prefix t ≡ Some o → is_mark mark.Minus t ≡ false
prefix_plain t o e = not_mark is_plain_prefix mark.Minus (λ s. refl) t (ap is_some e)

-- ---- what ends in brackets

not_empty : {A : Type 0} {d : ℕ} (select : Token → Option A) {x : A} → Terminal d select x [] → ⊥
not_empty select t = terminal_nonempty select [] t [] refl

pub plain_enclosed : {A B : Type 0} {d : ℕ} (opens closes : Mark) → same_mark mark.Minus closes ≡ false → (f : A → Span → B) (R : Language Token A) → Plain signs (Enclosed d (symbol opens) (symbol closes) f R)
plain_enclosed opens closes other f R =
    plain_last (λ at. plain_last (λ x. plain_mapped (f x) (plain_terminal (symbol_plain closes other))) (λ x b (to, t, is). not_empty (symbol closes) t))
    (λ at b (x, g, h, e, r, (to, t, is)). terminal_nonempty (symbol closes) h t [] (sym (back_nil g h e) ∙ sym (append_nil h)))

plain_parens : {A : Type 0} (d : ℕ) (R : Language Token A) → Plain signs (Parens d R)
plain_parens d R = plain_enclosed mark.OpenParen mark.CloseParen refl (λ x _. x) R

-- a head and parentheses
plain_call : {A B H : Type 0} (d : ℕ) (f : A → List Token → B) (Head : Language Token H) (R : Language Token A) → Plain signs (Spanned f (After Head (Parens d R)))
plain_call d f Head R = plain_spanned f (plain_last (λ head. plain_parens d R) (λ head b r. (starts_parens d R).nonempty b r))

-- ---- the rules

plain_form : (d : ℕ) (h : PrimaryForm) → Plain signs (Form d h)
plain_form d form.Number = plain_spanned number_node (plain_terminal number_plain)
plain_form d form.Negative = plain_spanned negative_node (plain_last (λ at. plain_terminal number_plain) (λ at n t. not_empty number_of t))
plain_form d form.Truth = plain_spanned truth_node (plain_terminal truth_plain)
plain_form d form.Outcome = plain_spanned outcome_node (plain_terminal (keyword_plain key.KwResult))
plain_form d form.Variable = plain_spanned variable_node (plain_terminal word_plain)
plain_form d form.Cast = plain_spanned cast_node (plain_last (λ k. plain_mapped (λ x. (k, x)) (plain_parens d (Rule spelled.expression (suc d)))) (λ k b (x, r, is). (starts_parens d (Rule spelled.expression (suc d))).nonempty x r))
plain_form d form.ToIndex = plain_call d to_index_node _ _
plain_form d form.WrapIndex = plain_call d wrap_index_node _ _
plain_form d form.MakeBits = plain_call d make_bits_node _ _
plain_form d form.Raw = plain_call d raw_node _ _
plain_form d form.SetField = plain_call d set_field_node _ _

pub plain_primary : (d : ℕ) → Plain signs (Rule spelled.primary d)
plain_primary d = plain_as (from_primary d) (plain_headed (plain_form d) (plain_parens d (Rule spelled.expression (suc d))))

pub plain_step : (d : ℕ) → Plain signs (Rule spelled.a_step d)
plain_step d = plain_as (from_step d) (plain_either (plain_last (λ at. plain_mapped tree.field (plain_terminal name_plain)) (λ at b (name, t, is). not_empty name_of t))
    (plain_spanned element_node (plain_enclosed mark.OpenBracket mark.CloseBracket refl (λ x _. x) (Rule spelled.expression (suc d)))))

pub plain_postfix : (d : ℕ) → Plain signs (Rule spelled.postfix d)
plain_postfix d = plain_as (from_postfix d) (plain_spanned steps_node (plain_then (plain_primary d) (λ x. plain_mapped (λ steps. (x, steps)) (plain_many (plain_step d)))))

-- the last mark of two rows is the last of the second, if that has one
last_behind : (f g row : Row Token) (m : rows.Entry Token) → f ++ g ≡ row ++ m ∷ [] → (g ≡ [] → ⊥) → (h : Row Token) × (g ≡ h ++ m ∷ [])
last_behind f g row m e filled = elim (split_at row m [] f g (sym e)) [
  | inl (h, here, there) ↦ (h, there)
  | inr (h, here, there) ↦ absurd (filled (back_nil h g there))
]

operand_ends : (d : ℕ) (v : Expr) (all : Row Token) → Spells spelled.operand v d all → (row : Row Token) (m : rows.Entry Token) → all ≡ row ++ m ∷ [] → is_mark mark.Minus m.token ≡ false
operand_ends d v all (spelled.unprefixed r) row m e = (plain_postfix d).ends v row m (subst (Spells spelled.postfix v d) e r)
operand_ends d v all (spelled.negated {x} {f} {g} t r isnt) row m e = let w = last_behind f g row m e (λ none. (starts_operand (suc d)).nonempty x (subst (Spells spelled.operand x (suc d)) none r)) in operand_ends (suc d) x g r w.0 m w.1
operand_ends d v all (spelled.prefixed {x} {f} {g} t r) row m e = let w = last_behind f g row m e (λ none. (starts_operand (suc d)).nonempty x (subst (Spells spelled.operand x (suc d)) none r)) in operand_ends (suc d) x g r w.0 m w.1

pub plain_operand : (d : ℕ) → Plain signs (Rule spelled.operand d)
plain_operand d = record { ends = λ v row m r. operand_ends d v (row ++ m ∷ []) r row m refl }

pub plain_chain : (n d : ℕ) → Plain signs (Rule (spelled.chain n) d)
plain_chain zero d = plain_as (from_lone d) (plain_operand d)
plain_chain (suc n) d =
    let links = plain_as (from_link n d) (plain_last (λ o. plain_mapped (tree.link o) (plain_chain n d)) (λ o b (x, r, is). (starts_chain n d).nonempty x r)) in
    plain_as (from_chain n d) (plain_spanned links_node (plain_then (plain_chain n d) (λ x. plain_mapped (λ links. (x, links)) (plain_many links))))

expression_ends : (d : ℕ) (v : Expr) (all : Row Token) → Spells spelled.expression v d all → (row : Row Token) (m : rows.Entry Token) → all ≡ row ++ m ∷ [] → is_mark mark.Minus m.token ≡ false
expression_ends d v all (spelled.plain r) row m e = (plain_chain operator_levels d).ends v row m (subst (Spells (spelled.chain operator_levels) v d) e r)
expression_ends d v all (spelled.conditional {b} {f} {g} {h} {i} {j} r q ra c rb) row m e =
    let front : (f ++ (g ++ (h ++ i))) ++ j ≡ f ++ (g ++ (h ++ (i ++ j))) = append_assoc f (g ++ (h ++ i)) j ∙ ap (λ y. f ++ y) (append_assoc g (h ++ i) j ∙ ap (λ y. g ++ y) (append_assoc h i j)) in
    let w = last_behind (f ++ (g ++ (h ++ i))) j row m (front ∙ e) (λ none. (starts_expression (suc d)).nonempty b (subst (Spells spelled.expression b (suc d)) none rb)) in
    expression_ends (suc d) b j rb w.0 m w.1

pub plain_expression : (d : ℕ) → Plain signs (Rule spelled.expression d)
plain_expression d = record { ends = λ v row m r. expression_ends d v (row ++ m ∷ []) r row m refl }
