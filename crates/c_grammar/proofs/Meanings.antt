-- What the rows of each symbol of the grammar say.
use Rattle.std.proofs.Common.{◌≡◌, ◌≢◌, ℕ, zero, suc, ◌+◌, ◌^◌, ◌<◌, ◌≤◌, Bool, true, false, List, [], ◌∷◌, ◌++◌, map, All, refl, sym, ap, ◌∙◌, arith, Some, codes, decimal, if◌then◌else◌}
use Rattle.std.specs.Prelude.{nat_eq, nat_lt, nat_le, ◌==◌, ◌||◌}
use Rattle.std.proofs.lemmas.Bool.{eqb-true, and_parts, ltb-true, leb-true}
use Rattle.c_ast.specs.declared.unit.CMember.{CMember}
use Rattle.c_ast.specs.Syntax.{Expr}
use Rattle.c_text.specs.TypeText.{listed, texts, type_text}
use Rattle.c_text.specs.ExpressionText.{expr_text, init_text}
use Rattle.c_text.specs.StatementText.{indent, stmts_text}
use Rattle.c_text.specs.Spelling.{member_text, params_text, param_text, unit_text}
use Rattle.c_text.specs.Subset.{ValueInSubset, ExprInSubset, InitInSubset, StmtsInSubset, MemberInSubset, ParamInSubset, InSubset}
use Rattle.grammars.specs.Grammar.{of_kind}
use Rattle.grammars.proofs.Sets.{kind_is}
use Rattle.c_grammar.specs.Pieces.{Piece, Word, Blanks, Byte, piece_text}
use Rattle.c_grammar.specs.Kinds.{lexicon, kind, kind_of, is_whole, word_kind, blanks_kind, is_wordy, is_blanky, other}
use Rattle.c_grammar.specs.Symbols.{Symbol, an_expression, a_pointer, an_inner, an_inside, arguments, initializers, a_length, forever, a_block, a_body, the_members, the_types, the_params, stop_params, a_unit, Tree, left, right, type_inside, pointer_inside, value_inside_it}
use Rattle.c_grammar.proofs.Parted.{wordy, blanky}
use Rattle.c_grammar.proofs.Says.{Is}

-- the text of an expression without its parentheses
pub record Closed (e : Expr) (t : List ℕ) : Type 0 where
  pub good : ExprInSubset e
  pub is : 40 ∷ (t ++ 41 ∷ []) ≡ expr_text e

abbrev pub Pointed : Expr → List ℕ → Type 0
Pointed e t = Is ExprInSubset (λ e. codes "*" ++ expr_text e) e t

-- a list between parentheses, `void` where it is empty
pub record Listed {A : Type 0} (I : A → Type 0) (text : A → List ℕ) (xs : List A) (t : List ℕ) : Type 0 where
  pub good : All I xs
  pub is : 40 ∷ (t ++ 41 ∷ []) ≡ params_text (map text xs)

pub record SomeMembers (ms : List CMember) : Type 0 where
  pub some : ms ≢ []
  pub members : All MemberInSubset ms

abbrev pub Meaning : (n : Symbol) → ℕ → Tree n → List ℕ → Type 0
Meaning an_expression d e t = Is ExprInSubset expr_text e t
Meaning a_pointer d e t = Pointed e t
Meaning an_inner d (left e) t = Pointed e t
Meaning an_inner d (right e) t = Closed e t
Meaning an_inside d (type_inside ty) t = Is ValueInSubset type_text ty t
Meaning an_inside d (pointer_inside e) t = Pointed e t
Meaning an_inside d (value_inside_it e) t = Closed e t
Meaning arguments d es t = Is (All ExprInSubset) (λ es. listed (map expr_text es)) es t
Meaning initializers d i t = InitInSubset i × (123 ∷ (t ++ 125 ∷ []) ≡ init_text i)
Meaning a_length d n t = Is (λ n. n < 2 ^ 32) decimal n t
Meaning forever d p t = t ≡ codes ";;"
Meaning a_block zero ss t = Unit {0}
Meaning a_block (suc zero) ss t = Unit {0}
Meaning a_block (suc (suc b)) ss t = Is StmtsInSubset (λ ss. (codes "\n" ++ stmts_text (suc (suc b)) ss) ++ indent (suc b)) ss t
Meaning a_body zero ss t = Unit {0}
Meaning a_body (suc b) ss t = Is StmtsInSubset (λ ss. codes "\n" ++ stmts_text (suc b) ss) ss t
Meaning the_members zero ms t = Unit {0}
Meaning the_members (suc zero) ms t = Is SomeMembers (λ ms. codes "\n" ++ texts (map member_text ms)) ms t
Meaning the_members (suc (suc b)) ms t = Unit {0}
Meaning the_types d ts t = Listed ValueInSubset type_text ts t
Meaning the_params d ps t = Listed ParamInSubset param_text ps t
Meaning stop_params d p t = t ≡ codes "uint32_t"
Meaning a_unit zero u t = Is InSubset unit_text u t
Meaning a_unit (suc d) u t = Unit {0}

-- ---- brackets are told by their kinds

low_word : (k : ℕ) → is_wordy k ≡ true → k ≤ 60
low_word k e = at (nat_lt k 50) refl e
  where
    at : (b : Bool) → nat_lt k 50 ≡ b → (b || (k == other)) ≡ true → k ≤ 60
    at true is e = let small = ltb-true k 50 is in omega (arith, small)
    at false is e = let same = eqb-true k 60 e in omega (arith, same)

low_blanks : (k : ℕ) → is_blanky k ≡ true → k ≤ 60
low_blanks k e = leb-true k 60 (and_parts (nat_le 50 k) (nat_le k other) e).1

high : (d b : ℕ) (p : Piece) → 256 + b ≡ kind_of d p → piece_text p ≡ b ∷ []
high d b (Word w) e = let low = low_word (word_kind w) (wordy w) in absurd (omega (arith, e, low))
high d b (Blanks n) e = let low = low_blanks (blanks_kind d n) (blanky d n) in absurd (omega (arith, e, low))
high d b (Byte c) e = let same : b ≡ c = omega (arith, e) in ap (λ z. z ∷ []) (sym same)

pub byte_is : (d b : ℕ) (p v : Piece) → of_kind lexicon d (256 + b) Some p ≡ Some v → piece_text p ≡ b ∷ []
byte_is d b p v e = at (is_whole p) (eqb-true (256 + b) (kind d p) (kind_is (nat_eq (256 + b) (kind d p)) (Some p) v e)) refl
  where
    at : (w : Bool) → 256 + b ≡ kind d p → is_whole p ≡ w → piece_text p ≡ b ∷ []
    at true same is = high d b p (same ∙ ap (λ w. if w then kind_of d p else other) is)
    at false same is = let low : 256 + b ≡ 60 = same ∙ ap (λ w. if w then kind_of d p else other) is in absurd (omega (arith, low))
