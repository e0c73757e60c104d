-- What the rules of statements and declarations say.
use Rattle.std.proofs.Common.{◌≡◌, cond, ℕ, zero, suc, ◌+◌, ◌*◌, ◌<◌, ◌≤◌, Bool, true, false, List, [], ◌∷◌, ◌++◌, All, replicate, refl, sym, ap, ◌∙◌, subst, append_assoc, arith, if◌then◌else◌, Option, Some, None, codes}
use Rattle.std.specs.Prelude.{nat_eq}
use Rattle.std.proofs.Common as list
use Rattle.std.proofs.lemmas.Bool.{eqb-true, eqb-false}
use Rattle.std.proofs.lemmas.List.Elements.{All-head, All-tail}
use Rattle.reading.specs.Row.{Row, tokens}
use Rattle.reading.specs.Language.{Language}
use Rattle.reading.proofs.Rows.{append_nil}
use Rattle.c_ast.specs.declared.types.CScalar.{CScalar}
use Rattle.c_ast.specs.declared.types.CBase.{CBase}
use Rattle.c_ast.specs.declared.types.CBase.TheVariants.{Scalar, Struct}
use Rattle.c_ast.specs.declared.types.CType.{CType}
use Rattle.c_ast.specs.Syntax.{Name, Expr, Place, Var, At, Init, FunctionCall, Stmt, Object, Assign, Forever, Break, Return, Block, Stmts}
use Rattle.c_text.specs.Identifiers.{IsIdentifier}
use Rattle.c_text.specs.TypeText.{line, listed, texts, scalar_text, const_text, object_text}
use Rattle.c_text.specs.ExpressionText.{expr_text, place_text, init_text, call_text}
use Rattle.c_text.specs.StatementText.{indent, first_value_text, return_text, block_text, stmt_text, stmts_text}
use Rattle.c_text.specs.Subset.{BaseInSubset, ValueInSubset, ExprInSubset, PlaceInSubset, InitInSubset, CallInSubset, FirstValueInSubset, ReturnInSubset, StmtInSubset, StmtsInSubset}
use Rattle.grammars.specs.Grammar.{of_kind, token, map, sequence, choice, before}
use Rattle.grammars.proofs.Sets.{kind_is}
use Rattle.c_grammar.specs.Pieces.{Piece, Word, Blanks, Byte, piece_text, joined}
use Rattle.c_grammar.specs.Kinds.{lexicon, kind, kind_of, is_whole, blanks_kind, line_blanks, closing_blanks, one_blank, indentation, outdentation, other, is_wordy}
use Rattle.c_grammar.specs.Symbols.{Symbol, Tree, Rule, Side, left, right, pair, an_expression, arguments, forever, a_block, parens, new_line}
use Rattle.c_grammar.specs.TypeRules.{scalar_type, struct_pointer}
use Rattle.c_grammar.specs.ExpressionRules.{Step, named_place, place_behind}
use Rattle.c_grammar.specs.StatementRules.{equals, call_of, named_value, call_or_steps, value_or_call, Held, Declared, held_as, declared_scalar, declared_struct, object, behind_scalar, behind_struct, declaration, Assigned, assigned, named_statement, pointed_statement, simple, block, if_with, condition, otherwise, statement, stmts_of, statement_line, lines, block_rule}
use Rattle.c_grammar.proofs.Says.{Means, Is, Says, IfThere, text_if, m_token, m_map, m_sequence, m_choice, m_as, s_fixed, s_sequence, s_after, s_before, s_pair, s_map, s_as, s_optional, s_repeat}
use Rattle.c_grammar.proofs.SaysTypes.{says_name, says_scalar, says_tag, says_held, says_held_pointer}
use Rattle.c_grammar.proofs.Parted.{wordy}
use Rattle.c_grammar.proofs.Meanings.{Meaning}
use Rattle.c_grammar.proofs.SaysExpressions.{StepIn, steps_text, steps_say, m_parens, m_braces, says_steps, says_pointer_parens, says_number_expr, says_in_parens, says_expression}
use Rattle.c_grammar.proofs.SaysLists.{says_arguments, says_initializer}
use Rattle.c_grammar.proofs.WrittenStatements.{held_text, scalar_const_text, struct_const_text}

pub says_equals : {A : Type 0} {d : ℕ} {L : (n : Symbol) → Language Piece (Tree n)} {p : Rule A} {I : A → Type 0} {s : A → List ℕ} → Says d L p I s → Says d L (equals p) I (λ a. codes " = " ++ s a)
says_equals w = s_after s_fixed (s_after s_fixed (s_after s_fixed w))

-- ---- values that names are declared with

abbrev ValueIn : Side Expr FunctionCall → Type 0
ValueIn (left e) = ExprInSubset e
ValueIn (right c) = CallInSubset c

abbrev value_text : Side Expr FunctionCall → List ℕ
value_text (left e) = expr_text e
value_text (right c) = call_text c

abbrev NextIn : Side (List Expr) (List Step) → Type 0
NextIn (left es) = All ExprInSubset es
NextIn (right steps) = All StepIn steps

abbrev next_text : Side (List Expr) (List Step) → List ℕ
next_text (left es) = 40 ∷ (listed (list.map expr_text es) ++ 41 ∷ [])
next_text (right steps) = steps_text steps

named_value_says : (x : Name) (y : Side (List Expr) (List Step)) → IsIdentifier x → NextIn y → ValueIn (named_value x y) × (x ++ next_text y ≡ value_text (named_value x y))
named_value_says x (left es) is all = (record { name = is; args = all }, simp append_assoc refl)
named_value_says x (right steps) is all = steps_say (Var x) steps is all

-- ---- simple statements

-- a statement that ends with a semicolon, and any, with the text of its line
pub record SimpleIs (b : ℕ) (s : Stmt) (t : List ℕ) : Type 0 where
  pub good : StmtInSubset s
  pub is : indent (suc b) ++ ((t ++ codes ";") ++ codes "\n") ≡ stmt_text (suc b) s

pub record StatementIs (b : ℕ) (s : Stmt) (t : List ℕ) : Type 0 where
  pub good : StmtInSubset s
  pub is : indent (suc b) ++ (t ++ codes "\n") ≡ stmt_text (suc b) s

abbrev in_line : ℕ → List ℕ → List ℕ
in_line b t = indent (suc b) ++ ((t ++ codes ";") ++ codes "\n")

equation_line : (i c e : List ℕ) → i ++ (((c ++ (codes " = " ++ e)) ++ codes ";") ++ codes "\n") ≡ line (i ++ c ++ codes " = " ++ e ++ codes ";")
equation_line i c e = simp append_assoc refl

two_line : (i c e : List ℕ) → i ++ (((c ++ e) ++ codes ";") ++ codes "\n") ≡ line (i ++ c ++ e ++ codes ";")
two_line i c e = simp append_assoc refl

one_line : (i t : List ℕ) → i ++ ((t ++ codes ";") ++ codes "\n") ≡ line (i ++ t ++ codes ";")
one_line i t = simp append_assoc refl

held_says : (b : ℕ) (ty : CType) (x : Name) (v : Side Expr FunctionCall) (t : List ℕ) → ValueInSubset ty → IsIdentifier x → ValueIn v → t ≡ const_text ty x ++ (codes " = " ++ value_text v) → SimpleIs b (held_as ty x v) t
held_says b ty x (left e) t h is i same = record { good = (is, h, i); is = ap (in_line b) same ∙ equation_line (indent (suc b)) (const_text ty x) (expr_text e) }
held_says b ty x (right c) t h is i same = record { good = (is, h, i); is = ap (in_line b) same ∙ equation_line (indent (suc b)) (const_text ty x) (call_text c) }

object_says : (b : ℕ) (c : CBase) (x : Name) (i : Option Init) (t : List ℕ) → BaseInSubset c → IsIdentifier x → FirstValueInSubset i → t ≡ object_text c x ++ first_value_text i → SimpleIs b (Object x c i) t
object_says b c x i t h is v same = record { good = (is, h, v); is = ap (in_line b) same ∙ two_line (indent (suc b)) (object_text c x) (first_value_text i) }

regroup : (a b c e : List ℕ) → a ++ (b ++ (c ++ e)) ≡ (a ++ (b ++ c)) ++ e
regroup a b c e = simp append_assoc refl

first_value_says : (i : Option Init) → IfThere InitInSubset i → FirstValueInSubset i × (text_if (λ i. codes " = " ++ init_text i) i ≡ first_value_text i)
first_value_says None is = (tt, refl)
first_value_says (Some i) is = (is, refl)

abbrev BehindScalarIn : Side Held Declared → Type 0
BehindScalarIn (left h) = IsIdentifier h.0.1 × ValueIn h.1
BehindScalarIn (right o) = IsIdentifier o.0 × FirstValueInSubset o.1

abbrev behind_scalar_text : Side Held Declared → List ℕ
behind_scalar_text (left h) = held_text h.0.0 h.0.1 ++ (codes " = " ++ value_text h.1)
behind_scalar_text (right o) = o.0 ++ first_value_text o.1

abbrev BehindStructIn : Side ((Bool × Name) × Side Expr FunctionCall) Declared → Type 0
BehindStructIn (left h) = IsIdentifier h.0.1 × ValueIn h.1
BehindStructIn (right o) = IsIdentifier o.0 × FirstValueInSubset o.1

abbrev behind_struct_text : Side ((Bool × Name) × Side Expr FunctionCall) Declared → List ℕ
behind_struct_text (left h) = held_text (Some h.0.0) h.0.1 ++ (codes " = " ++ value_text h.1)
behind_struct_text (right o) = o.0 ++ first_value_text o.1

scalar_value : (s : CScalar) (p : Option Bool) → ValueInSubset (scalar_type s p)
scalar_value s None = tt
scalar_value s (Some constant) = tt

scalar_says : (b : ℕ) (s : CScalar) (y : Side Held Declared) (t : List ℕ) → BehindScalarIn y → t ≡ scalar_text s ++ (codes " " ++ behind_scalar_text y) → SimpleIs b (declared_scalar s y) t
scalar_says b s (left h) t i same =
    held_says b (scalar_type s h.0.0) h.0.1 h.1 t (scalar_value s h.0.0) i.0 i.1 (same ∙ regroup (scalar_text s) (codes " ") (held_text h.0.0 h.0.1) (codes " = " ++ value_text h.1) ∙ ap (λ z. z ++ (codes " = " ++ value_text h.1)) (scalar_const_text s h.0.0 h.0.1))
scalar_says b s (right o) t i same = object_says b (Scalar s) o.0 o.1 t tt i.0 i.1 (same ∙ simp append_assoc refl)

struct_says : (b : ℕ) (x : Name) (y : Side ((Bool × Name) × Side Expr FunctionCall) Declared) (t : List ℕ) → IsIdentifier x → BehindStructIn y → t ≡ (codes "struct " ++ x) ++ (codes " " ++ behind_struct_text y) → SimpleIs b (declared_struct x y) t
struct_says b x (left h) t tag i same =
    held_says b (struct_pointer x h.0.0) h.0.1 h.1 t tag i.0 i.1 (same ∙ regroup (codes "struct " ++ x) (codes " ") (held_text (Some h.0.0) h.0.1) (codes " = " ++ value_text h.1) ∙ ap (λ z. z ++ (codes " = " ++ value_text h.1)) (struct_const_text x h.0.0 h.0.1))
struct_says b x (right o) t tag i same = object_says b (Struct x) o.0 o.1 t tag i.0 i.1 (same ∙ simp append_assoc refl)

assign_says : (b : ℕ) (p : Place) (e : Expr) (t : List ℕ) → PlaceInSubset p → ExprInSubset e → t ≡ place_text p ++ (codes " = " ++ expr_text e) → SimpleIs b (Assign p e) t
assign_says b p e t i j same = record { good = (i, j); is = ap (in_line b) same ∙ equation_line (indent (suc b)) (place_text p) (expr_text e) }

abbrev AssignedIn : Assigned → Type 0
AssignedIn a = All StepIn a.0 × ExprInSubset a.1

abbrev assigned_text : Assigned → List ℕ
assigned_text a = steps_text a.0 ++ (codes " = " ++ expr_text a.1)

abbrev NamedIn : Side (List Expr) Assigned → Type 0
NamedIn (left es) = All ExprInSubset es
NamedIn (right a) = AssignedIn a

abbrev named_text : Side (List Expr) Assigned → List ℕ
named_text (left es) = 40 ∷ (listed (list.map expr_text es) ++ 41 ∷ [])
named_text (right a) = assigned_text a

named_says : (b : ℕ) (x : Name) (y : Side (List Expr) Assigned) (t : List ℕ) → IsIdentifier x → NamedIn y → t ≡ x ++ named_text y → SimpleIs b (named_statement x y) t
named_says b x (left es) t is all same = record { good = record { name = is; args = all }; is = ap (in_line b) (same ∙ call_is x (listed (list.map expr_text es))) ∙ one_line (indent (suc b)) (call_text (call_of x es)) }
  where
    call_is : (x a : List ℕ) → x ++ (40 ∷ (a ++ 41 ∷ [])) ≡ x ++ codes "(" ++ a ++ codes ")"
    call_is x a = simp append_assoc refl
named_says b x (right (steps, e)) t is i same =
    let k = steps_say (Var x) steps is i.0 in
    assign_says b (named_place x steps) e t k.0 i.1 (same ∙ sym (append_assoc x (steps_text steps) (codes " = " ++ expr_text e)) ∙ ap (λ z. z ++ (codes " = " ++ expr_text e)) k.1)

pointed_says : (b : ℕ) (p : Expr) (a : Assigned) (t : List ℕ) → ExprInSubset p → AssignedIn a → t ≡ (40 ∷ ((codes "*" ++ expr_text p) ++ 41 ∷ [])) ++ assigned_text a → SimpleIs b (pointed_statement p a) t
pointed_says b p (steps, e) t is i same =
    let k = steps_say (At p) steps is i.0 in
    assign_says b (place_behind p steps) e t k.0 i.1 (same ∙ sym (append_assoc (40 ∷ ((codes "*" ++ expr_text p) ++ 41 ∷ [])) (steps_text steps) (codes " = " ++ expr_text e)) ∙ ap (λ z. z ++ (codes " = " ++ expr_text e)) k.1)

return_says : (e : Option Expr) → IfThere ExprInSubset e → ReturnInSubset e × (codes "return" ++ text_if (λ e. codes " " ++ expr_text e) e ≡ return_text e)
return_says None i = (tt, refl)
return_says (Some e) i = (i, refl)

-- ---- blanks at the beginning of a line, and before a closing brace

indent_at : (d n : ℕ) → indentation ≡ blanks_kind d n → n ≡ line_blanks d
indent_at d n e = at (nat_eq n 1) (nat_eq n (line_blanks d)) (nat_eq n (closing_blanks d)) refl e
  where
    at : (a b c : Bool) → nat_eq n (line_blanks d) ≡ b → indentation ≡ (if a then one_blank else (if b then indentation else (if c then outdentation else other))) → n ≡ line_blanks d
    at true b c is e = absurd (eqb-false indentation one_blank refl e)
    at false true c is e = eqb-true n (line_blanks d) is
    at false false true is e = absurd (eqb-false indentation outdentation refl e)
    at false false false is e = absurd (eqb-false indentation other refl e)

outdent_at : (d n : ℕ) → outdentation ≡ blanks_kind d n → n ≡ closing_blanks d
outdent_at d n e = at (nat_eq n 1) (nat_eq n (line_blanks d)) (nat_eq n (closing_blanks d)) refl e
  where
    at : (a b c : Bool) → nat_eq n (closing_blanks d) ≡ c → outdentation ≡ (if a then one_blank else (if b then indentation else (if c then outdentation else other))) → n ≡ closing_blanks d
    at true b c is e = absurd (eqb-false outdentation one_blank refl e)
    at false true c is e = absurd (eqb-false outdentation indentation refl e)
    at false false true is e = eqb-true n (closing_blanks d) is
    at false false false is e = absurd (eqb-false outdentation other refl e)

-- only blanks have such a kind
blanks_of : (d k : ℕ) (p : Piece) → is_wordy k ≡ false → k < 256 → nat_eq other k ≡ false → k ≡ kind d p → (n : ℕ) × (p ≡ Blanks n) × (k ≡ blanks_kind d n)
blanks_of d k p words bytes none e = at p (is_whole p) refl e
  where
    whole_at : (p : Piece) → k ≡ kind_of d p → (n : ℕ) × (p ≡ Blanks n) × (k ≡ blanks_kind d n)
    whole_at (Word w) e = let is : is_wordy k ≡ true = ap is_wordy e ∙ wordy w in let no : ⊥ = cc in absurd no
    whole_at (Blanks n) e = (n, refl, e)
    whole_at (Byte b) e = absurd (omega (arith, e, bytes))

    at : (p : Piece) (w : Bool) → is_whole p ≡ w → k ≡ kind d p → (n : ℕ) × (p ≡ Blanks n) × (k ≡ blanks_kind d n)
    at p true is e = whole_at p (e ∙ ap (λ w. if w then kind_of d p else other) is)
    at p false is e = absurd (eqb-false other k none (sym (e ∙ ap (λ w. if w then kind_of d p else other) is)))

pub indent_is : (b : ℕ) (p v : Piece) → of_kind lexicon (suc b) indentation Some p ≡ Some v → piece_text p ≡ indent (suc b)
indent_is b p v e =
    let k = blanks_of (suc b) indentation p refl (omega arith) refl (eqb-true indentation (kind (suc b) p) (kind_is (nat_eq indentation (kind (suc b) p)) (Some p) v e)) in
    let same : k.0 ≡ 2 * suc b = indent_at (suc b) k.0 k.2 ∙ omega arith in
    ap piece_text k.1 ∙ ap (λ n. replicate n 32) same

outdent_is : (b : ℕ) (p v : Piece) → of_kind lexicon (suc (suc b)) outdentation Some p ≡ Some v → piece_text p ≡ indent (suc b)
outdent_is b p v e =
    let k = blanks_of (suc (suc b)) outdentation p refl (omega arith) refl (eqb-true outdentation (kind (suc (suc b)) p) (kind_is (nat_eq outdentation (kind (suc (suc b)) p)) (Some p) v e)) in
    let same : k.0 ≡ 2 * suc b = outdent_at (suc (suc b)) k.0 k.2 ∙ omega arith in
    ap piece_text k.1 ∙ ap (λ n. replicate n 32) same

-- ---- the rules

module _ (d : ℕ) (L : (n : Symbol) → Language Piece (Tree n)) (inner : (n : Symbol) (x : Tree n) (row : Row Piece) → L n x row → Meaning n (suc d) x (joined (tokens row))) where
  says_value_or_call : Says d L value_or_call ValueIn value_text
  unfolding value_or_call
  says_value_or_call =
      let next : Says d L call_or_steps NextIn next_text = m_choice (s_map left (says_arguments d L inner) (λ es i. (i, refl))) (s_map right (says_steps d L inner) (λ s i. (i, refl))) in
      m_choice (s_map left (says_number_expr d L inner) (λ e i. (i, refl))) (m_choice (s_sequence named_value says_name next named_value_says) (s_map left (says_in_parens d L inner) (λ e i. (i, refl))))

  says_object : Says d L object (λ o. IsIdentifier o.0 × FirstValueInSubset o.1) (λ o. o.0 ++ first_value_text o.1)
  says_object = s_as (s_pair says_name (s_optional (says_equals (says_initializer d L inner)))) (λ o i. let k = first_value_says o.1 i.1 in ((i.0, k.0), ap (λ z. o.0 ++ z) k.1))

  says_behind_scalar : Says d L behind_scalar BehindScalarIn behind_scalar_text
  says_behind_scalar = m_choice (s_map left (s_pair says_held (says_equals says_value_or_call)) (λ h i. (i, refl))) (s_map right says_object (λ o i. (i, refl)))

  says_behind_struct : Says d L behind_struct BehindStructIn behind_struct_text
  says_behind_struct = m_choice (s_map left (s_pair says_held_pointer (says_equals says_value_or_call)) (λ h i. (i, refl))) (s_map right says_object (λ o i. (i, refl)))

  says_declaration : (b : ℕ) → Means d L declaration (SimpleIs b)
  says_declaration b =
      m_choice (m_sequence declared_scalar says_scalar (s_after s_fixed says_behind_scalar) (λ s y t u i j. scalar_says b s y (t ++ u) j.good (ap (λ z. z ++ u) i.is ∙ ap (λ z. scalar_text s ++ z) j.is)))
      (m_sequence declared_struct says_tag (s_after s_fixed says_behind_struct) (λ x y t u i j. struct_says b x y (t ++ u) i.good j.good (ap (λ z. z ++ u) i.is ∙ ap (λ z. (codes "struct " ++ x) ++ z) j.is)))

  says_assigned : Says d L assigned AssignedIn assigned_text
  says_assigned = s_pair (says_steps d L inner) (says_equals (says_expression d L inner))

  says_named : Says d L (choice (map left (parens arguments)) (map right assigned)) NamedIn named_text
  says_named = m_choice (s_map left (says_arguments d L inner) (λ es i. (i, refl))) (s_map right says_assigned (λ a i. (i, refl)))

  says_simple : (b : ℕ) → Means d L simple (SimpleIs b)
  unfolding simple
  says_simple b =
      m_choice (m_map (λ _. Break) (m_as s_fixed (λ p t i. record { good = tt; is = ap (in_line b) i.is ∙ one_line (indent (suc b)) (codes "break") ∙ ap line (append_assoc (indent (suc b)) (codes "break") (codes ";")) })))
      (m_choice (m_map Return (m_as (s_as (s_after s_fixed (s_optional (s_after s_fixed (says_expression d L inner)))) return_says) (λ e t i. record { good = i.good; is = ap (in_line b) i.is ∙ one_line (indent (suc b)) (return_text e) })))
      (m_choice (says_declaration b)
      (m_choice (m_sequence named_statement says_name says_named (λ x y t u i j. named_says b x y (t ++ u) i.good j.good (ap (λ z. z ++ u) i.is ∙ ap (λ z. x ++ z) j.is)))
      (m_sequence pointed_statement (says_pointer_parens d L inner) says_assigned (λ p a t u i j. pointed_says b p a (t ++ u) i.good j.good (ap (λ z. z ++ u) i.is ∙ ap (λ z. (40 ∷ ((codes "*" ++ expr_text p) ++ 41 ∷ [])) ++ z) j.is))))))

-- ---- blocks and lines

stmts_say : (b : ℕ) (xs : List Stmt) → All StmtInSubset xs → StmtsInSubset (stmts_of xs) × (texts (list.map (stmt_text b) xs) ≡ stmts_text b (stmts_of xs))
stmts_say b [] all = (tt, refl)
stmts_say b (s ∷ xs) all = let k = stmts_say b xs (All-tail StmtInSubset s xs all) in ((All-head StmtInSubset s xs all, k.0), ap (λ z. stmt_text b s ++ z) k.1)

abbrev block_is : ℕ → Stmts → List ℕ
block_is b ss = block_text (suc b) (stmts_text (suc b + 1) ss)

-- the text of a block, from what stands between its braces
between_braces : (b : ℕ) (ss : Stmts) (t : List ℕ) → t ≡ (codes "\n" ++ stmts_text (suc (suc b)) ss) ++ indent (suc b) → 123 ∷ (t ++ 125 ∷ []) ≡ block_is b ss
between_braces b ss t e =
    let same : suc (suc b) ≡ suc b + 1 = omega arith in
    ap (λ z. 123 ∷ (z ++ 125 ∷ [])) e ∙ plain (stmts_text (suc (suc b)) ss) (indent (suc b)) ∙ ap (λ n. block_text (suc b) (stmts_text n ss)) same
  where
    plain : (t u : List ℕ) → 123 ∷ (((codes "\n" ++ t) ++ u) ++ 125 ∷ []) ≡ line (codes "{") ++ t ++ u ++ codes "}"
    plain t u = simp append_assoc refl

abbrev branches_text : ℕ → Stmts × Option Stmts → List ℕ
branches_text b (a, o) = block_is b a ++ text_if (λ c. codes " else " ++ block_is b c) o

abbrev condition_text : Expr → List ℕ
condition_text e = codes "if " ++ (40 ∷ (expr_text e ++ 41 ∷ []))

if_says : (b : ℕ) (e : Expr) (y : Stmts × Option Stmts) (t : List ℕ) → ExprInSubset e → StmtsInSubset y.0 × IfThere StmtsInSubset y.1 → t ≡ condition_text e ++ (codes " " ++ branches_text b y) → StatementIs b (if_with e y) t
if_says b e (a, None) t i j same = record { good = (i, j.0); is = ap (λ z. indent (suc b) ++ (z ++ codes "\n")) same ∙ plain (indent (suc b)) (expr_text e) (block_is b a) }
  where
    plain : (i e t : List ℕ) → i ++ (((codes "if " ++ (40 ∷ (e ++ 41 ∷ []))) ++ (codes " " ++ (t ++ []))) ++ codes "\n") ≡ i ++ codes "if (" ++ e ++ codes ") " ++ line t
    plain i e t = ap (λ z. i ++ (((codes "if " ++ (40 ∷ (e ++ 41 ∷ []))) ++ (codes " " ++ z)) ++ codes "\n")) (append_nil t) ∙ simp append_assoc refl
if_says b e (a, Some c) t i j same = record { good = (i, j.0, j.1); is = ap (λ z. indent (suc b) ++ (z ++ codes "\n")) same ∙ plain (indent (suc b)) (expr_text e) (block_is b a) (block_is b c) }
  where
    plain : (i e s t : List ℕ) → i ++ (((codes "if " ++ (40 ∷ (e ++ 41 ∷ []))) ++ (codes " " ++ (s ++ (codes " else " ++ t)))) ++ codes "\n") ≡ i ++ codes "if (" ++ e ++ codes ") " ++ s ++ codes " else " ++ line t
    plain i e s t = simp append_assoc refl

for_says : (b : ℕ) (ss : Stmts) (t : List ℕ) → StmtsInSubset ss → t ≡ codes "for (;;) " ++ block_is b ss → StatementIs b (Forever ss) t
for_says b ss t i same = record { good = i; is = ap (λ z. indent (suc b) ++ (z ++ codes "\n")) same ∙ plain (indent (suc b)) (block_is b ss) }
  where
    plain : (i t : List ℕ) → i ++ ((codes "for (;;) " ++ t) ++ codes "\n") ≡ i ++ codes "for (;;) " ++ line t
    plain i t = simp append_assoc refl

-- in so many braces
module _ (b : ℕ) (L : (n : Symbol) → Language Piece (Tree n)) (inner : (n : Symbol) (x : Tree n) (row : Row Piece) → L n x row → Meaning n (suc (suc b)) x (joined (tokens row))) where
  says_block : Says (suc b) L block StmtsInSubset (block_is b)
  says_block = m_braces (suc b) L inner a_block (Is StmtsInSubset (block_is b)) (λ ss t i. record { good = i.good; is = between_braces b ss t i.is })

  says_condition : Says (suc b) L condition ExprInSubset condition_text
  says_condition =
      let one : Says (suc b) L (parens an_expression) ExprInSubset (λ e. 40 ∷ (expr_text e ++ 41 ∷ [])) = m_parens (suc b) L inner an_expression (Is ExprInSubset (λ e. 40 ∷ (expr_text e ++ 41 ∷ []))) (λ e t i. record { good = i.good; is = ap (λ z. 40 ∷ (z ++ 41 ∷ [])) i.is }) in
      s_after s_fixed (s_after s_fixed one)

  says_otherwise : Says (suc b) L otherwise (IfThere StmtsInSubset) (text_if (λ c. codes " else " ++ block_is b c))
  says_otherwise = s_optional (s_after s_fixed (s_after s_fixed (s_after s_fixed says_block)))

  says_statement : Means (suc b) L statement (StatementIs b)
  unfolding statement
  says_statement =
      let ever : Says (suc b) L (parens forever) (λ _. Unit {0}) (λ _. codes "(;;)") = m_parens (suc b) L inner forever (Is (λ _. Unit {0}) (λ _. codes "(;;)")) (λ p t i. record { good = tt; is = ap (λ z. 40 ∷ (z ++ 41 ∷ [])) i }) in
      let branches : Says (suc b) L (sequence pair block otherwise) (λ y. StmtsInSubset y.0 × IfThere StmtsInSubset y.1) (branches_text b) = s_pair says_block says_otherwise in
      m_choice (m_sequence if_with says_condition (s_after s_fixed branches) (λ e y t u i j. if_says b e y (t ++ u) i.good j.good (ap (λ z. z ++ u) i.is ∙ ap (λ z. condition_text e ++ z) j.is)))
      (m_choice (m_map Forever (m_as (s_after s_fixed (s_after s_fixed (s_after ever (s_after s_fixed says_block)))) (λ ss t i. for_says b ss t i.good i.is)))
      (m_choice (m_map Block (m_as says_block (λ ss t i. record { good = i.good; is = ap (λ z. indent (suc b) ++ (z ++ codes "\n")) i.is })))
      (m_sequence {P = SimpleIs b} {R = Is (λ _. Unit {0}) (λ _. codes ";")} (λ s _. s) (says_simple (suc b) L inner b) s_fixed (λ s p t u i j. record { good = i.good; is = ap (λ z. indent (suc b) ++ ((t ++ z) ++ codes "\n")) j.is ∙ i.is }))))

  says_statement_line : Says (suc b) L statement_line StmtInSubset (stmt_text (suc b))
  says_statement_line =
      let first : Says (suc b) L (token {A = Piece} indentation Some) (λ _. Unit {0}) (λ _. indent (suc b)) = m_token (λ p v e. record { good = tt; is = indent_is b p v e }) in
      let rest : Means (suc b) L (before statement new_line) (λ s t. StmtInSubset s × (indent (suc b) ++ t ≡ stmt_text (suc b) s)) =
      m_sequence {P = StatementIs b} {R = Is (λ _. Unit {0}) (λ _. codes "\n")} (λ s _. s) says_statement s_fixed (λ s p t u i j. (i.good, ap (λ z. indent (suc b) ++ (t ++ z)) j.is ∙ i.is)) in
      m_sequence (λ _ s. s) first rest (λ p s t u i j. record { good = j.0; is = ap (λ z. z ++ u) i.is ∙ j.1 })

  pub says_lines : Says (suc b) L lines StmtsInSubset (λ ss. codes "\n" ++ stmts_text (suc b) ss)
  says_lines = s_after s_fixed (s_map stmts_of (s_repeat says_statement_line) (λ xs all. stmts_say (suc b) xs all))

-- a block of a statement, whose closing brace stands in one brace less
pub says_block_rule : (b : ℕ) (L : (n : Symbol) → Language Piece (Tree n)) → ((n : Symbol) (x : Tree n) (row : Row Piece) → L n x row → Meaning n (suc (suc (suc b))) x (joined (tokens row))) → Means (suc (suc b)) L block_rule (Meaning a_block (suc (suc b)))
says_block_rule b L inner =
    let last : Says (suc (suc b)) L (token {A = Piece} outdentation Some) (λ _. Unit {0}) (λ _. indent (suc b)) = m_token (λ p v e. record { good = tt; is = outdent_is b p v e }) in
    s_before (says_lines (suc b) L inner) last
