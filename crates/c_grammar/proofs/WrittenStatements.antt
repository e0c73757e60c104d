-- Statements and declarations of the subset are spelled by their texts.
use Rattle.std.proofs.Common.{◌≡◌, cond, ℕ, suc, ◌+◌, ◌*◌, Bool, true, false, List, [], ◌∷◌, ◌++◌, replicate, refl, sym, ap, ◌∙◌, append_assoc, arith, Option, Some, None, codes}
use Rattle.reading.proofs.Rows.{append_nil}
use Rattle.c_ast.specs.declared.types.CScalar.{CScalar}
use Rattle.c_ast.specs.declared.types.CBase.{CBase}
use Rattle.c_ast.specs.declared.types.CBase.TheVariants.{Scalar, Struct}
use Rattle.c_ast.specs.declared.types.CType.{CType}
use Rattle.c_ast.specs.declared.types.CType.TheVariants.{Void, Value, Pointer}
use Rattle.c_ast.specs.Syntax.{Name, Expr, Place, Init, FunctionCall, Stmt, Const, ConstCall, Object, Assign, If, IfElse, Forever, Break, Return, Block, Call, Stmts, Nil, Cons}
use Rattle.c_text.specs.Identifiers.{IsIdentifier}
use Rattle.c_text.specs.TypeText.{line, scalar_text, const_text, object_text}
use Rattle.c_text.specs.ExpressionText.{expr_text, place_text, call_text}
use Rattle.c_text.specs.StatementText.{indent, first_value_text, return_text, block_text, stmt_text, stmts_text}
use Rattle.c_text.specs.Subset.{BaseInSubset, ValueInSubset, ExprInSubset, PlaceInSubset, CallInSubset, FirstValueInSubset, ReturnInSubset, StmtInSubset, StmtsInSubset}
use Rattle.grammars.specs.Grammar.{token, repeat}
use Rattle.c_grammar.specs.Pieces.{Piece, Word, Blanks, Byte}
use Rattle.c_grammar.specs.Kinds.{line_blanks, closing_blanks, indentation, outdentation}
use Rattle.c_grammar.specs.Symbols.{Rule, Side, left, right, pair, an_expression, a_pointer, forever, a_block, parens}
use Rattle.c_grammar.specs.TypeRules.{scalar_type, struct_pointer, not_to_const, to_const, some_pointer, no_pointer, held, held_pointer}
use Rattle.c_grammar.specs.ExpressionRules.{expression}
use Rattle.c_grammar.specs.StatementRules.{equals, named_value, value_or_call, held_as, declared_scalar, declared_struct, object, declaration, named_statement, pointed_statement, simple, block, if_with, condition, statement, stmts_of, statement_line, block_rule}
use Rattle.c_grammar.proofs.Checked.{indent_kind, outdent_kind}
use Rattle.c_grammar.proofs.Written.{Written, as_text, as_value, one_piece, nothing, mapped, in_sequence, ◌then◌, ended, first_of, second_of, none, more, within_parens, within_braces}
use Rattle.c_grammar.proofs.WrittenTypes.{a_blank, a_star, name_written, scalar_written, tag_written, const_name_written, a_const}
use Rattle.c_grammar.proofs.WrittenExpressions.{Form, numbered, named_first, enclosed, pointed, enclosed_written, pointed_written, form_of, PlaceForm, named, behind, place_form, expression_written}
use Rattle.c_grammar.proofs.WrittenLists.{arguments_written, init_written}

pub equals_written : {A : Type 0} {d : ℕ} {p : Rule A} {a : A} {t : List ℕ} → Written d p a t → Written d (equals p) a (codes " = " ++ t)
equals_written w = as_text (a_blank then (one_piece (Byte 61) refl then (a_blank then w))) refl

-- ---- values that names are declared with

value_written : {d : ℕ} {e : Expr} {text : List ℕ} → Form d e text → Written d value_or_call (left e) text
unfolding value_or_call
value_written (numbered w) = first_of (mapped left w)
value_written (named_first x steps t same is w e) = as_value (as_text (second_of (first_of (in_sequence named_value (name_written x is) (second_of (mapped right w))))) e) (ap left same)
value_written (enclosed t w is) = second_of (second_of (mapped left (enclosed_written t w is)))
value_written (pointed p steps s t same w v is) = second_of (second_of (mapped left (pointed_written p steps s t same w v is)))

call_written : {d : ℕ} (c : FunctionCall) → CallInSubset c → Written d value_or_call (right c) (call_text c)
unfolding value_or_call
call_written c is = as_text (second_of (first_of (in_sequence named_value (name_written c.name is.name) (first_of (mapped left (arguments_written c.args is.args)))))) (simp append_assoc refl)

-- ---- names that hold values

abbrev pub held_text : Option Bool → Name → List ℕ
held_text None x = codes "const " ++ x
held_text (Some false) x = codes "*const " ++ x
held_text (Some true) x = codes "const *const " ++ x

pub held_pointer_written : {d : ℕ} (constant : Bool) (x : Name) → IsIdentifier x → Written d held_pointer (constant, x) (held_text (Some constant) x)
held_pointer_written false x is = as_text (first_of (mapped not_to_const (a_star then const_name_written x is))) refl
held_pointer_written true x is = as_text (second_of (mapped to_const (a_const then (a_blank then (a_star then const_name_written x is))))) refl

pub held_written : {d : ℕ} (p : Option Bool) (x : Name) → IsIdentifier x → Written d held (p, x) (held_text p x)
held_written None x is = as_text (second_of (a_const then (a_blank then second_of (mapped no_pointer (name_written x is))))) refl
held_written (Some false) x is = as_text (first_of (mapped (λ x. some_pointer (not_to_const x)) (a_star then const_name_written x is))) refl
held_written (Some true) x is = as_text (second_of (a_const then (a_blank then first_of (mapped (λ x. some_pointer (to_const x)) (a_star then const_name_written x is))))) refl

pub scalar_const_text : (s : CScalar) (p : Option Bool) (x : Name) → scalar_text s ++ (codes " " ++ held_text p x) ≡ const_text (scalar_type s p) x
scalar_const_text s None x = simp append_assoc refl
scalar_const_text s (Some false) x = simp append_assoc refl
scalar_const_text s (Some true) x = simp append_assoc refl

pub struct_const_text : (t : Name) (constant : Bool) (x : Name) → (codes "struct " ++ t) ++ (codes " " ++ held_text (Some constant) x) ≡ const_text (struct_pointer t constant) x
struct_const_text t false x = simp append_assoc refl
struct_const_text t true x = simp append_assoc refl

module _ {d : ℕ} (x : Name) (is : IsIdentifier x) (v : Side Expr FunctionCall) (t : List ℕ) (w : Written d value_or_call v t) where
  scalar_const : (s : CScalar) (p : Option Bool) → Written d declaration (held_as (scalar_type s p) x v) (const_text (scalar_type s p) x ++ (codes " = " ++ t))
  scalar_const s p =
      as_text (first_of (in_sequence declared_scalar (scalar_written s) (a_blank then first_of (mapped left (in_sequence pair (held_written p x is) (equals_written w))))))
      (regroup (scalar_text s) (codes " ") (held_text p x) (codes " = " ++ t) ∙ ap (λ z. z ++ (codes " = " ++ t)) (scalar_const_text s p x))
    where
      regroup : (a b c e : List ℕ) → a ++ (b ++ (c ++ e)) ≡ (a ++ (b ++ c)) ++ e
      regroup a b c e = simp append_assoc refl

  struct_const : (y : Name) → IsIdentifier y → (constant : Bool) → Written d declaration (held_as (struct_pointer y constant) x v) (const_text (struct_pointer y constant) x ++ (codes " = " ++ t))
  struct_const y tag constant =
      as_text (second_of (in_sequence declared_struct (tag_written y tag) (a_blank then first_of (mapped left (in_sequence pair (held_pointer_written constant x is) (equals_written w))))))
      (regroup (codes "struct " ++ y) (codes " ") (held_text (Some constant) x) (codes " = " ++ t) ∙ ap (λ z. z ++ (codes " = " ++ t)) (struct_const_text y constant x))
    where
      regroup : (a b c e : List ℕ) → a ++ (b ++ (c ++ e)) ≡ (a ++ (b ++ c)) ++ e
      regroup a b c e = simp append_assoc refl

  const_written : (ty : CType) → ValueInSubset ty → Written d declaration (held_as ty x v) (const_text ty x ++ (codes " = " ++ t))
  const_written Void h = absurd h
  const_written (Value s) h = scalar_const s None
  const_written (Pointer constant (Scalar s)) h = scalar_const s (Some constant)
  const_written (Pointer constant (Struct y)) h = struct_const y h constant

-- ---- objects

object_rest : {d : ℕ} (x : Name) → IsIdentifier x → (i : Option Init) → FirstValueInSubset i → Written d object (x, i) (x ++ first_value_text i)
object_rest x is None h = in_sequence pair (name_written x is) (second_of nothing)
object_rest {d} x is (Some i) h = in_sequence pair (name_written x is) (first_of (mapped Some (equals_written (init_written i h d))))

object_written : {d : ℕ} (x : Name) → IsIdentifier x → (b : CBase) → BaseInSubset b → (i : Option Init) → FirstValueInSubset i → Written d declaration (Object x b i) (object_text b x ++ first_value_text i)
object_written x is (Scalar s) tag i h = as_text (first_of (in_sequence declared_scalar (scalar_written s) (a_blank then second_of (mapped right (object_rest x is i h))))) (simp append_assoc refl)
object_written x is (Struct y) tag i h = as_text (second_of (in_sequence declared_struct (tag_written y tag) (a_blank then second_of (mapped right (object_rest x is i h))))) (simp append_assoc refl)

-- ---- simple statements

assign_written : {d : ℕ} (p : Place) (e : Expr) (t : List ℕ) → PlaceForm d p t → Written d expression e (expr_text e) → Written d simple (Assign p e) (t ++ (codes " = " ++ expr_text e))
unfolding simple
assign_written {d} p e t (named x steps u same is v at) w =
    as_value (as_text (second_of (second_of (second_of (first_of (in_sequence named_statement (name_written x is) (second_of (mapped right (in_sequence pair v (equals_written w)))))))))
    (sym (append_assoc x u (codes " = " ++ expr_text e)) ∙ ap (λ z. z ++ (codes " = " ++ expr_text e)) at)) (ap (λ p. Assign p e) same)
assign_written {d} p e t (behind q steps s u same v y at) w =
    let one : Written d (parens a_pointer) q (40 ∷ (s ++ 41 ∷ [])) = within_parens {n = a_pointer} v in
    as_value (as_text (second_of (second_of (second_of (second_of (in_sequence pointed_statement one (in_sequence pair y (equals_written w)))))))
    (sym (append_assoc (40 ∷ (s ++ 41 ∷ [])) u (codes " = " ++ expr_text e)) ∙ ap (λ z. z ++ (codes " = " ++ expr_text e)) at)) (ap (λ p. Assign p e) same)

call_statement : {d : ℕ} (c : FunctionCall) → CallInSubset c → Written d simple (Call c) (call_text c)
unfolding simple
call_statement c is = as_text (second_of (second_of (second_of (first_of (in_sequence named_statement (name_written c.name is.name) (first_of (mapped left (arguments_written c.args is.args)))))))) (simp append_assoc refl)

declared : {d : ℕ} {s : Stmt} {t : List ℕ} → Written d declaration s t → Written d simple s t
unfolding simple
declared w = second_of (second_of (first_of w))

break_written : {d : ℕ} → Written d simple Break (codes "break")
unfolding simple
break_written = first_of (mapped (λ _. Break) (one_piece (Word (codes "break")) refl))

return_written : {d : ℕ} (e : Option Expr) → ReturnInSubset e → Written d simple (Return e) (return_text e)
unfolding simple
return_written None is = second_of (first_of (mapped Return (as_text (one_piece (Word (codes "return")) refl then second_of nothing) refl)))
return_written {d} (Some e) is = second_of (first_of (mapped Return (as_text (one_piece (Word (codes "return")) refl then first_of (mapped Some (a_blank then expression_written e is d))) refl)))

-- ---- lines

semicolon_behind : {d : ℕ} {s : Stmt} {t : List ℕ} → Written d simple s t → Written d statement s (t ++ codes ";")
unfolding statement
semicolon_behind w = second_of (second_of (second_of (ended w (one_piece (Byte 59) refl))))

indent_written : (b : ℕ) → Written (suc b) (token {A = Piece} indentation Some) (Blanks (line_blanks (suc b))) (indent (suc b))
indent_written b =
    let same : suc (suc (b + b)) ≡ 2 * suc b = omega arith in
    as_text (one_piece (Blanks (line_blanks (suc b))) (ap (λ x. cond x (Some (Blanks (line_blanks (suc b)))) None) (indent_kind (suc b)))) (ap (λ n. replicate n 32) same)

outdent_written : (b : ℕ) → Written (suc (suc b)) (token {A = Piece} outdentation Some) (Blanks (closing_blanks (suc (suc b)))) (indent (suc b))
outdent_written b =
    let same : suc (suc (b + b)) ≡ 2 * suc b = omega arith in
    as_text (one_piece (Blanks (closing_blanks (suc (suc b)))) (ap (λ x. cond x (Some (Blanks (closing_blanks (suc (suc b))))) None) (outdent_kind (suc (suc b))))) (ap (λ n. replicate n 32) same)

line_written : (b : ℕ) {s : Stmt} {t : List ℕ} → Written (suc b) statement s t → Written (suc b) statement_line s (indent (suc b) ++ (t ++ codes "\n"))
line_written b w = indent_written b then ended w (one_piece (Byte 10) refl)

simple_line : (b : ℕ) {s : Stmt} {t : List ℕ} → Written (suc b) simple s t → Written (suc b) statement_line s (indent (suc b) ++ ((t ++ codes ";") ++ codes "\n"))
simple_line b w = line_written b (semicolon_behind w)

-- ---- blocks

block_written : (b : ℕ) {xs : List Stmt} {t : List ℕ} → Written (suc (suc b)) (repeat statement_line) xs t → Written (suc b) block (stmts_of xs) (block_text (suc b) t)
block_written b {xs} {t} w =
    let inside : Written (suc (suc b)) block_rule (stmts_of xs) ((codes "\n" ++ t) ++ indent (suc b)) = ended (one_piece (Byte 10) refl then mapped stmts_of w) (outdent_written b) in
    as_text (within_braces {n = a_block} inside) (plain_brackets t (indent (suc b)))
  where
    plain_brackets : (t u : List ℕ) → 123 ∷ (((codes "\n" ++ t) ++ u) ++ 125 ∷ []) ≡ line (codes "{") ++ t ++ u ++ codes "}"
    plain_brackets t u = simp append_assoc refl

condition_written : {d : ℕ} (e : Expr) → ExprInSubset e → Written d condition e (codes "if (" ++ (expr_text e ++ codes ")"))
condition_written {d} e is =
    let one : Written d (parens an_expression) e (40 ∷ (expr_text e ++ 41 ∷ [])) = within_parens {n = an_expression} (expression_written e is (suc d)) in
    as_text (one_piece (Word (codes "if")) refl then (a_blank then one)) refl

if_written : (b : ℕ) (e : Expr) → ExprInSubset e → {xs : List Stmt} {t : List ℕ} → Written (suc (suc b)) (repeat statement_line) xs t → Written (suc b) statement (If e (stmts_of xs)) ((codes "if (" ++ (expr_text e ++ codes ")")) ++ (codes " " ++ block_text (suc b) t))
unfolding statement
if_written b e is {xs} {t} w =
    as_text (first_of (in_sequence if_with (condition_written e is) (a_blank then in_sequence pair (block_written b w) (second_of nothing))))
    (ap (λ z. (codes "if (" ++ (expr_text e ++ codes ")")) ++ (codes " " ++ z)) (append_nil (block_text (suc b) t)))

else_written : (b : ℕ) (e : Expr) → ExprInSubset e → {xs ys : List Stmt} {s t : List ℕ} → Written (suc (suc b)) (repeat statement_line) xs s → Written (suc (suc b)) (repeat statement_line) ys t
    → Written (suc b) statement (IfElse e (stmts_of xs) (stmts_of ys)) ((codes "if (" ++ (expr_text e ++ codes ")")) ++ (codes " " ++ (block_text (suc b) s ++ (codes " else " ++ block_text (suc b) t))))
unfolding statement
else_written b e is v w =
    first_of (in_sequence if_with (condition_written e is) (a_blank then in_sequence pair (block_written b v)
    (first_of (mapped Some (as_text (a_blank then (one_piece (Word (codes "else")) refl then (a_blank then block_written b w))) refl)))))

for_written : (b : ℕ) {xs : List Stmt} {t : List ℕ} → Written (suc (suc b)) (repeat statement_line) xs t → Written (suc b) statement (Forever (stmts_of xs)) (codes "for (;;) " ++ block_text (suc b) t)
unfolding statement
for_written b w =
    let ever : Written (suc b) (parens forever) (Byte 59) (codes "(;;)") = within_parens {n = forever} (one_piece (Byte 59) refl then one_piece (Byte 59) refl) in
    as_text (second_of (first_of (mapped Forever (one_piece (Word (codes "for")) refl then (a_blank then (ever then (a_blank then block_written b w))))))) refl

inner_block : (b : ℕ) {xs : List Stmt} {t : List ℕ} → Written (suc (suc b)) (repeat statement_line) xs t → Written (suc b) statement (Block (stmts_of xs)) (block_text (suc b) t)
unfolding statement
inner_block b w = second_of (second_of (first_of (mapped Block (block_written b w))))

-- ---- all statements

abbrev pub stmt_list : Stmts → List Stmt
stmt_list Nil = []
stmt_list (Cons s rest) = s ∷ stmt_list rest

pub stmts_back : (ss : Stmts) → stmts_of (stmt_list ss) ≡ ss
stmts_back Nil = refl
stmts_back (Cons s rest) = ap (Cons s) (stmts_back rest)

one_brace_more : (b : ℕ) (ss : Stmts) → Written (suc (suc b)) (repeat statement_line) (stmt_list ss) (stmts_text (suc (suc b)) ss) → Written (suc (suc b)) (repeat statement_line) (stmt_list ss) (stmts_text (suc b + 1) ss)
one_brace_more b ss w = let same : suc (suc b) ≡ suc b + 1 = omega arith in as_text w (ap (λ n. stmts_text n ss) same)

module _ (b : ℕ) where
  abbrev Line : Stmt → Type 0
  Line s = Written (suc b) statement_line s (stmt_text (suc b) s)

  abbrev Lines : Stmts → Type 0
  Lines ss = Written (suc (suc b)) (repeat statement_line) (stmt_list ss) (stmts_text (suc b + 1) ss)

  const_line : (x : Name) (t : CType) (e : Expr) → IsIdentifier x → ValueInSubset t → ExprInSubset e → Line (Const x t e)
  const_line x t e is h v = as_text (simple_line b (declared (const_written x is (left e) (expr_text e) (value_written (form_of e v (suc b))) t h))) (plain (indent (suc b)) (const_text t x) (expr_text e))
    where
      plain : (i c e : List ℕ) → i ++ (((c ++ (codes " = " ++ e)) ++ codes ";") ++ codes "\n") ≡ line (i ++ c ++ codes " = " ++ e ++ codes ";")
      plain i c e = simp append_assoc refl

  const_call_line : (x : Name) (t : CType) (c : FunctionCall) → IsIdentifier x → ValueInSubset t → CallInSubset c → Line (ConstCall x t c)
  const_call_line x t c is h v = as_text (simple_line b (declared (const_written x is (right c) (call_text c) (call_written c v) t h))) (plain (indent (suc b)) (const_text t x) (call_text c))
    where
      plain : (i c e : List ℕ) → i ++ (((c ++ (codes " = " ++ e)) ++ codes ";") ++ codes "\n") ≡ line (i ++ c ++ codes " = " ++ e ++ codes ";")
      plain i c e = simp append_assoc refl

  object_line : (x : Name) (c : CBase) (i : Option Init) → IsIdentifier x → BaseInSubset c → FirstValueInSubset i → Line (Object x c i)
  object_line x c i is h v = as_text (simple_line b (declared (object_written x is c h i v))) (plain (indent (suc b)) (object_text c x) (first_value_text i))
    where
      plain : (i c e : List ℕ) → i ++ (((c ++ e) ++ codes ";") ++ codes "\n") ≡ line (i ++ c ++ e ++ codes ";")
      plain i c e = simp append_assoc refl

  assign_line : (p : Place) (e : Expr) → PlaceInSubset p → ExprInSubset e → Line (Assign p e)
  assign_line p e is v = as_text (simple_line b (assign_written p e (place_text p) (place_form p is (suc b)) (expression_written e v (suc b)))) (plain (indent (suc b)) (place_text p) (expr_text e))
    where
      plain : (i c e : List ℕ) → i ++ (((c ++ (codes " = " ++ e)) ++ codes ";") ++ codes "\n") ≡ line (i ++ c ++ codes " = " ++ e ++ codes ";")
      plain i c e = simp append_assoc refl

  short_line : {s : Stmt} (t : List ℕ) → Written (suc b) simple s t → Written (suc b) statement_line s (line (indent (suc b) ++ t ++ codes ";"))
  short_line t w = as_text (simple_line b w) (plain (indent (suc b)) t)
    where
      plain : (i t : List ℕ) → i ++ ((t ++ codes ";") ++ codes "\n") ≡ line (i ++ t ++ codes ";")
      plain i t = simp append_assoc refl

  if_line : (e : Expr) (ss : Stmts) → ExprInSubset e → Lines ss → Line (If e ss)
  if_line e ss is w = as_value (as_text (line_written b (if_written b e is w)) (plain (indent (suc b)) (expr_text e) (block_text (suc b) (stmts_text (suc b + 1) ss)))) (ap (If e) (stmts_back ss))
    where
      plain : (i e t : List ℕ) → i ++ (((codes "if (" ++ (e ++ codes ")")) ++ (codes " " ++ t)) ++ codes "\n") ≡ i ++ codes "if (" ++ e ++ codes ") " ++ line t
      plain i e t = simp append_assoc refl

  else_line : (e : Expr) (ss rr : Stmts) → ExprInSubset e → Lines ss → Lines rr → Line (IfElse e ss rr)
  else_line e ss rr is v w =
      as_value (as_text (line_written b (else_written b e is v w)) (plain (indent (suc b)) (expr_text e) (block_text (suc b) (stmts_text (suc b + 1) ss)) (block_text (suc b) (stmts_text (suc b + 1) rr))))
      (ap (λ x. IfElse e x (stmts_of (stmt_list rr))) (stmts_back ss) ∙ ap (IfElse e ss) (stmts_back rr))
    where
      plain : (i e s t : List ℕ) → i ++ (((codes "if (" ++ (e ++ codes ")")) ++ (codes " " ++ (s ++ (codes " else " ++ t)))) ++ codes "\n") ≡ i ++ codes "if (" ++ e ++ codes ") " ++ s ++ codes " else " ++ line t
      plain i e s t = simp append_assoc refl

  for_line : (ss : Stmts) → Lines ss → Line (Forever ss)
  for_line ss w = as_value (as_text (line_written b (for_written b w)) (plain (indent (suc b)) (block_text (suc b) (stmts_text (suc b + 1) ss)))) (ap Forever (stmts_back ss))
    where
      plain : (i t : List ℕ) → i ++ ((codes "for (;;) " ++ t) ++ codes "\n") ≡ i ++ codes "for (;;) " ++ line t
      plain i t = simp append_assoc refl

  block_line : (ss : Stmts) → Lines ss → Line (Block ss)
  block_line ss w = as_value (line_written b (inner_block b w)) (ap Block (stmts_back ss))

mutual
  pub stmt_written : (s : Stmt) → StmtInSubset s → (b : ℕ) → Written (suc b) statement_line s (stmt_text (suc b) s)
  stmt_written (Const x t e) is b = const_line b x t e is.0 is.1 is.2
  stmt_written (ConstCall x t c) is b = const_call_line b x t c is.0 is.1 is.2
  stmt_written (Object x c i) is b = object_line b x c i is.0 is.1 is.2
  stmt_written (Assign p e) is b = assign_line b p e is.0 is.1
  stmt_written (If e a) is b = if_line b e a is.0 (one_brace_more b a (stmts_written a is.1 (suc b)))
  stmt_written (IfElse e a c) is b = else_line b e a c is.0 (one_brace_more b a (stmts_written a is.1 (suc b))) (one_brace_more b c (stmts_written c is.2 (suc b)))
  stmt_written (Forever a) is b = for_line b a (one_brace_more b a (stmts_written a is (suc b)))
  stmt_written Break is b = as_text (short_line b (codes "break") break_written) (ap line (append_assoc (indent (suc b)) (codes "break") (codes ";")))
  stmt_written (Return e) is b = short_line b (return_text e) (return_written e is)
  stmt_written (Block a) is b = block_line b a (one_brace_more b a (stmts_written a is (suc b)))
  stmt_written (Call c) is b = short_line b (call_text c) (call_statement c is)

  pub stmts_written : (ss : Stmts) → StmtsInSubset ss → (b : ℕ) → Written (suc b) (repeat statement_line) (stmt_list ss) (stmts_text (suc b) ss)
  stmts_written Nil is b = none
  stmts_written (Cons s rest) is b = more (stmt_written s is.0 b) (stmts_written rest is.1 b)
