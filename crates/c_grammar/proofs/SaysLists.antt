-- What lists with commas, calls and initializers say.
use Rattle.std.proofs.Common.{◌≡◌, ℕ, suc, Bool, true, false, List, [], ◌∷◌, ◌++◌, map, All, refl, sym, ap, ◌∙◌, append_assoc, arith, if◌then◌else◌, codes, decimal}
use Rattle.std.proofs.lemmas.Fmt.{decimal_digit}
use Rattle.std.proofs.lemmas.List.Elements.{All-nil, All-cons, All-head, All-tail}
use Rattle.reading.specs.Row.{Row, tokens}
use Rattle.reading.specs.Language.{Language}
use Rattle.reading.proofs.Rows.{append_nil}
use Rattle.c_ast.specs.declared.expr.Suffix.TheVariants.{Plain}
use Rattle.c_ast.specs.Syntax.{Number, Init, One, Zero, Many}
use Rattle.c_text.specs.TypeText.{listed, texts}
use Rattle.c_text.specs.ExpressionText.{expr_text, init_text, init_texts}
use Rattle.c_text.specs.Subset.{ExprInSubset, InitInSubset, InitsInSubset, IsNotZero}
use Rattle.grammars.specs.Grammar.{separated}
use Rattle.c_grammar.specs.Pieces.{Piece, joined}
use Rattle.c_grammar.specs.Symbols.{Symbol, Tree, Rule, arguments, initializers, comma, parens}
use Rattle.c_grammar.specs.ExpressionRules.{initializer, initializers_rule, arguments_rule, inits_of, is_zero, braced}
use Rattle.c_grammar.proofs.Says.{Means, Is, Says, m_map, m_sequence, m_choice, m_empty, s_fixed, s_after, s_map, s_repeat}
use Rattle.c_grammar.proofs.Meanings.{Meaning}
use Rattle.c_grammar.proofs.SaysExpressions.{m_parens, m_braces, says_expression}
use Rattle.c_grammar.proofs.WrittenLists.{list_of, zero_init}

listed_texts : {A : Type 0} (s : A → List ℕ) (x : A) (xs : List A) → s x ++ texts (map (λ y. codes ", " ++ s y) xs) ≡ listed (map s (x ∷ xs))
listed_texts s x [] = append_nil (s x)
listed_texts s x (y ∷ xs) = ap (λ z. s x ++ z) (append_assoc (codes ", ") (s y) (texts (map (λ y. codes ", " ++ s y) xs)) ∙ ap (λ z. codes ", " ++ z) (listed_texts s y xs)) ∙ sym (append_assoc (s x) (codes ", ") (listed (map s (y ∷ xs))))

all_same : {A : Type 0} (I : A → Type 0) (x : A) (xs : List A) → I x → All I xs → All I (x ∷ xs)
all_same I x xs i all = All-cons I x xs i all

module _ {d : ℕ} {L : (n : Symbol) → Language Piece (Tree n)} where
  pub m_separated : {A : Type 0} {p : Rule A} {I : A → Type 0} {s : A → List ℕ} {Q : List A → List ℕ → Type 0} → Says d L p I s → ((x : A) (xs : List A) (t : List ℕ) → All I (x ∷ xs) → t ≡ listed (map s (x ∷ xs)) → Q (x ∷ xs) t) → Means d L (separated comma p) Q
  m_separated {I = I} {s = s} w h =
      m_sequence (λ a more. a ∷ more) w (s_repeat (s_after (s_after s_fixed s_fixed) w))
      (λ x xs t u i j. h x xs (t ++ u) (all_same I x xs i.good j.good) (ap (λ z. z ++ u) i.is ∙ ap (λ z. s x ++ z) j.is ∙ listed_texts s x xs))

-- ---- initializers

inits_say : (xs : List Init) → All InitInSubset xs → InitsInSubset (inits_of xs) × (init_texts (inits_of xs) ≡ map init_text xs)
inits_say [] all = (tt, refl)
inits_say (x ∷ xs) all = let k = inits_say xs (All-tail InitInSubset x xs all) in ((All-head InitInSubset x xs all, k.0), ap (λ z. init_text x ∷ z) k.1)

list_again : (xs : List Init) → list_of (inits_of xs) ≡ xs
list_again [] = refl
list_again (x ∷ xs) = ap (λ z. x ∷ z) (list_again xs)

zero_list : (x : Init) (xs : List Init) → is_zero (x ∷ xs) ≡ true → x ∷ xs ≡ One (Number 0 Plain) ∷ []
zero_list x [] e = ap (λ z. z ∷ []) (zero_init x e)
zero_list x (y ∷ xs) e = cc

not_zero_list : (x : Init) (xs : List Init) → is_zero (x ∷ xs) ≡ false → IsNotZero (inits_of (x ∷ xs))
not_zero_list x xs e same =
    let lists : x ∷ xs ≡ One (Number 0 Plain) ∷ [] = sym (ap (λ z. x ∷ z) (list_again xs)) ∙ ap list_of same in
    let zero_too : is_zero (x ∷ xs) ≡ true = ap is_zero lists in
    let no : ⊥ = cc in no

braced_says : (d : ℕ) (x : Init) (xs : List Init) (t : List ℕ) → All InitInSubset (x ∷ xs) → t ≡ listed (map init_text (x ∷ xs)) → Meaning initializers d (braced (x ∷ xs)) t
braced_says d x xs t all is = at (is_zero (x ∷ xs)) refl
  where
    at : (b : Bool) → is_zero (x ∷ xs) ≡ b → InitInSubset (if b then Zero else Many (inits_of (x ∷ xs))) × (123 ∷ (t ++ 125 ∷ []) ≡ init_text (if b then Zero else Many (inits_of (x ∷ xs))))
    at true e =
        let text : t ≡ codes "0" = is ∙ ap (λ z. listed (map init_text z)) (zero_list x xs e) ∙ append_nil (decimal 0) ∙ decimal_digit 0 (omega arith) in
        (tt, ap (λ z. 123 ∷ (z ++ 125 ∷ [])) text)
    at false e =
        let k = inits_say (x ∷ xs) all in
        ((not_zero_list x xs e, k.0), ap (λ z. 123 ∷ (z ++ 125 ∷ [])) (is ∙ ap listed (sym k.1)))

module _ (d : ℕ) (L : (n : Symbol) → Language Piece (Tree n)) (inner : (n : Symbol) (x : Tree n) (row : Row Piece) → L n x row → Meaning n (suc d) x (joined (tokens row))) where
  pub says_arguments_rule : Means d L arguments_rule (Meaning arguments d)
  says_arguments_rule = m_choice (m_separated (says_expression d L inner) (λ x xs t all is. record { good = all; is = is })) (m_empty record { good = All-nil ExprInSubset; is = refl })

  pub says_arguments : Says d L (parens arguments) (All ExprInSubset) (λ es. 40 ∷ (listed (map expr_text es) ++ 41 ∷ []))
  says_arguments = m_parens d L inner arguments (Is (All ExprInSubset) (λ es. 40 ∷ (listed (map expr_text es) ++ 41 ∷ []))) (λ es t i. record { good = i.good; is = ap (λ z. 40 ∷ (z ++ 41 ∷ [])) i.is })

  pub says_initializer : Says d L initializer InitInSubset init_text
  says_initializer = m_choice (s_map One (says_expression d L inner) (λ e i. (i, refl))) (m_braces d L inner initializers (Is InitInSubset init_text) (λ i t m. record { good = m.0; is = m.1 }))

  pub says_initializers_rule : Means d L initializers_rule (Meaning initializers d)
  says_initializers_rule = m_map braced (m_separated says_initializer (λ x xs t all is. braced_says d x xs t all is))
