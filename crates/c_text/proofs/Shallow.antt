-- The brackets of a unit's text nest as deep as the unit does.
use Rattle.std.proofs.Common.{◌≡◌, refl, subst, ℕ, ◌+◌, ◌*◌, ◌≤◌, max, Bool, true, false, Option, Some, None, List, [], ◌∷◌, ◌++◌, append_assoc, arith}
use Rattle.std.specs.Prelude.{codes, map, take, decimal}
use Rattle.std.specs.List.{All, list_all}
use Rattle.std.proofs.Math.Nat.{le-max_left, le-max_right, max-le}
use Rattle.std.proofs.lemmas.List.Elements.{All-head, All-tail}
use Rattle.iv_words.specs.declared.kind.IntKind.{IntKind}
use Rattle.iv_words.specs.declared.kind.IntKind.TheVariants.{U8, U16, U32, U64, I8, I16, I32, I64}
use Rattle.c_ast.specs.declared.types.CScalar.{CScalar}
use Rattle.c_ast.specs.declared.types.CScalar.TheVariants.{Truth, Int}
use Rattle.c_ast.specs.declared.types.CBase.{CBase}
use Rattle.c_ast.specs.declared.types.CBase.TheVariants.{Scalar, Struct}
use Rattle.c_ast.specs.declared.types.CType.{CType}
use Rattle.c_ast.specs.declared.types.CType.TheVariants.{Void, Value, Pointer}
use Rattle.c_ast.specs.declared.types.Target.{Target}
use Rattle.c_ast.specs.declared.expr.Suffix.{Suffix}
use Rattle.c_ast.specs.declared.expr.Suffix.TheVariants.{Plain, U, Ll, Ull}
use Rattle.c_ast.specs.declared.expr.CUnary.{CUnary}
use Rattle.c_ast.specs.declared.expr.CUnary.TheVariants.{Neg, Flip, Not}
use Rattle.c_ast.specs.declared.expr.CBinary.{CBinary}
use Rattle.c_ast.specs.declared.expr.CBinary.TheVariants.{Add, Sub, Mul, Div, Rem, And, Or, Xor, Shl, Shr, Eq, Ne, Lt, Le, Gt, Ge, AndAlso, OrElse}
use Rattle.c_ast.specs.declared.unit.CMember.{CMember}
use Rattle.c_ast.specs.declared.unit.CStruct.{CStruct}
use Rattle.c_ast.specs.declared.unit.CExtern.{CExtern}
use Rattle.c_ast.specs.Syntax.{Name, Expr, Number, Read, Address, Unary, Binary, Cast, Cond, Place, Var, At, Member, Element, Init, One, Zero, Many, Inits, NoInits, MoreInits, FunctionCall, Stmt, Const, ConstCall, Object, Assign, If, IfElse, Forever, Break, Return, Block, Call, Stmts, Nil, Cons, FileObject, Function, TranslationUnit}
use Rattle.c_text.specs.Identifiers.{IsIdentifier}
use Rattle.c_text.specs.TypeText.{line, listed, texts, kind_text, scalar_text, base_text, star_text, type_text, gap_text, typed_text, const_text, object_text}
use Rattle.c_text.specs.ExpressionText.{suffix_text, unary_text, binary_text, expr_text, place_text, init_text, init_texts, call_text}
use Rattle.c_text.specs.StatementText.{indent, first_value_text, return_text, stmt_text, block_text, stmts_text}
use Rattle.c_text.specs.Spelling.{length_text, member_text, struct_text, params_text, extern_text, base_const_text, file_object_text, storage_text, param_text, function_text, fixed_text, unit_text}
use Rattle.c_text.specs.Subset.{BaseInSubset, ValueInSubset, ResultInSubset, ExternResultInSubset, ExprInSubset, PlaceInSubset, InitInSubset, InitsInSubset, CallInSubset, FirstValueInSubset, ReturnInSubset, StmtInSubset, StmtsInSubset, LengthInSubset, MemberInSubset, StructInSubset, ExternInSubset, ObjectInSubset, ParamInSubset, FunctionInSubset, InSubset}
use Rattle.c_text.specs.Nested.{deepest, expr_nested, place_nested, init_nested, inits_nested, call_nested, first_value_nested, return_nested, stmt_nested, stmts_nested, length_nested, member_nested, struct_nested, object_nested, function_nested, nested}
use Rattle.c_text.specs.Right.{Right}
use Rattle.c_text.specs.ReadsBack.{open_brackets, IsShallow, ReadsBack}
use Rattle.c_text.proofs.Nesting.{Nests, shallow, deeper, empty, joined, in_parentheses, in_square, in_braces}
use Rattle.c_text.proofs.Plain.{is_plain, IsPlain, plain_nests, plain_joined, plain_word, plain_decimal, plain_spaces}

-- ---- joining texts

then : {depth : ℕ} {a b : List ℕ} → Nests depth a → Nests depth b → Nests depth (a ++ b)
then {depth} {a} {b} first second = joined depth a b first second

mark : (depth : ℕ) (text : List ℕ) → list_all is_plain text ≡ true → Nests depth text
mark depth text plain = plain_nests depth text record { all = plain }

left : {depth : ℕ} {text : List ℕ} (other : ℕ) → Nests depth text → Nests (max depth other) text
left {depth} {text} other nests = deeper depth (max depth other) text (le-max_left depth other) nests

right : {depth : ℕ} {text : List ℕ} (other : ℕ) → Nests depth text → Nests (max other depth) text
right {depth} {text} other nests = deeper depth (max other depth) text (le-max_right other depth) nests

up : {depth : ℕ} {text : List ℕ} → Nests depth text → Nests (depth + 1) text
up {depth} {text} nests = deeper depth (depth + 1) text (omega arith) nests

lined : {depth : ℕ} {text : List ℕ} → Nests depth text → Nests depth (line text)
lined {depth} {text} nests = then nests (mark depth (10 ∷ []) refl)

-- ---- lists of texts

abbrev Each : {X : Type 0} → (X → List ℕ) → (X → ℕ) → (X → Type 0) → Type 0
Each {X} text depth In = (x : X) → In x → Nests (depth x) (text x)

one_after_another : {X : Type 0} (text : X → List ℕ) (depth : X → ℕ) (In : X → Type 0) → Each text depth In → (xs : List X) → All In xs → Nests (deepest (map depth xs)) (texts (map text xs))
one_after_another text depth In each [] inside = empty 0
one_after_another text depth In each (x ∷ xs) inside =
    then (left (deepest (map depth xs)) (each x (All-head In x xs inside))) (right (depth x) (one_after_another text depth In each xs (All-tail In x xs inside)))

with_commas : {X : Type 0} (text : X → List ℕ) (depth : X → ℕ) (In : X → Type 0) → Each text depth In → (xs : List X) → All In xs → Nests (deepest (map depth xs)) (listed (map text xs))
with_commas text depth In each [] inside = empty 0
with_commas text depth In each (x ∷ []) inside = left 0 (each x (All-head In x [] inside))
with_commas text depth In each (x ∷ y ∷ ys) inside =
    let more : ℕ = deepest (map depth (y ∷ ys)) in
    then (then (left more (each x (All-head In x (y ∷ ys) inside))) (mark (max (depth x) more) (codes ", ") refl)) (right (depth x) (with_commas text depth In each (y ∷ ys) (All-tail In x (y ∷ ys) inside)))

-- ---- types and names

plain_kind : (kind : IntKind) → IsPlain (kind_text kind)
plain_kind U8 = record { all = refl }
plain_kind U16 = record { all = refl }
plain_kind U32 = record { all = refl }
plain_kind U64 = record { all = refl }
plain_kind I8 = record { all = refl }
plain_kind I16 = record { all = refl }
plain_kind I32 = record { all = refl }
plain_kind I64 = record { all = refl }

plain_scalar : (s : CScalar) → IsPlain (scalar_text s)
plain_scalar Truth = record { all = refl }
plain_scalar (Int kind) = plain_kind kind

plain_base : (b : CBase) → BaseInSubset b → IsPlain (base_text b)
plain_base (Scalar s) inside = plain_scalar s
plain_base (Struct tag) inside = plain_joined (codes "struct ") tag record { all = refl } (plain_word tag inside.spelled)

plain_star : (constant : Bool) → IsPlain (star_text constant)
plain_star true = record { all = refl }
plain_star false = record { all = refl }

plain_result : (t : CType) → ResultInSubset t → IsPlain (type_text t)
plain_result Void inside = record { all = refl }
plain_result (Value s) inside = plain_scalar s
plain_result (Pointer constant base) inside = plain_joined (base_text base) (star_text constant) (plain_base base inside) (plain_star constant)

value_result : (t : CType) → ValueInSubset t → ResultInSubset t
value_result Void inside = absurd inside
value_result (Value s) inside = tt
value_result (Pointer constant base) inside = inside

extern_result : (t : CType) → ExternResultInSubset t → ResultInSubset t
extern_result Void inside = tt
extern_result (Value s) inside = tt
extern_result (Pointer constant base) inside = absurd inside

plain_gap : (t : CType) → IsPlain (gap_text t)
plain_gap Void = record { all = refl }
plain_gap (Value s) = record { all = refl }
plain_gap (Pointer constant base) = record { all = refl }

plain : {depth : ℕ} {text : List ℕ} → IsPlain text → Nests depth text
plain {depth} {text} is = plain_nests depth text is

named : {depth : ℕ} {word : List ℕ} → IsIdentifier word → Nests depth word
named {depth} {word} identifier = plain_nests depth word (plain_word word identifier.spelled)

typed_nests : (depth : ℕ) (t : CType) (x : Name) → ResultInSubset t → IsIdentifier x → Nests depth (typed_text t x)
typed_nests depth t x typed identifier = then (then (plain (plain_result t typed)) (plain (plain_gap t))) (named identifier)

const_nests : (depth : ℕ) (t : CType) (x : Name) → ValueInSubset t → IsIdentifier x → Nests depth (const_text t x)
const_nests depth t x typed identifier =
    then (then (then (plain (plain_result t (value_result t typed))) (plain (plain_gap t))) (mark depth (codes "const ") refl)) (named identifier)

object_nests : (depth : ℕ) (b : CBase) (x : Name) → BaseInSubset b → IsIdentifier x → Nests depth (object_text b x)
object_nests depth b x based identifier = then (then (plain (plain_base b based)) (mark depth (codes " ") refl)) (named identifier)

-- ---- expressions and places

plain_suffix : (suffix : Suffix) → IsPlain (suffix_text suffix)
plain_suffix Plain = record { all = refl }
plain_suffix U = record { all = refl }
plain_suffix Ll = record { all = refl }
plain_suffix Ull = record { all = refl }

plain_unary : (op : CUnary) → IsPlain (unary_text op)
plain_unary Neg = record { all = refl }
plain_unary Flip = record { all = refl }
plain_unary Not = record { all = refl }

plain_binary : (op : CBinary) → IsPlain (binary_text op)
plain_binary Add = record { all = refl }
plain_binary Sub = record { all = refl }
plain_binary Mul = record { all = refl }
plain_binary Div = record { all = refl }
plain_binary Rem = record { all = refl }
plain_binary And = record { all = refl }
plain_binary Or = record { all = refl }
plain_binary Xor = record { all = refl }
plain_binary Shl = record { all = refl }
plain_binary Shr = record { all = refl }
plain_binary Eq = record { all = refl }
plain_binary Ne = record { all = refl }
plain_binary Lt = record { all = refl }
plain_binary Le = record { all = refl }
plain_binary Gt = record { all = refl }
plain_binary Ge = record { all = refl }
plain_binary AndAlso = record { all = refl }
plain_binary OrElse = record { all = refl }

-- what stands in the parentheses of an operator between two operands
binary_nests : (op : CBinary) (n m : ℕ) (a b : List ℕ) → Nests n a → Nests m b → Nests (max n m) (a ++ codes " " ++ binary_text op ++ codes " " ++ b)
binary_nests op n m a b first second =
    then (then (then (then (left m first) (mark (max n m) (codes " ") refl)) (plain (plain_binary op))) (mark (max n m) (codes " ") refl)) (right n second)

cond_nests : (k n m : ℕ) (c a b : List ℕ) → Nests k c → Nests n a → Nests m b → Nests (max k (max n m)) (c ++ codes " ? " ++ a ++ codes " : " ++ b)
cond_nests k n m c a b test first second =
    let all : ℕ = max k (max n m) in
    then (then (then (then (left (max n m) test) (mark all (codes " ? ") refl)) (right k (left m first))) (mark all (codes " : ") refl)) (right k (right n second))

cast_nests : (t : CType) → ValueInSubset t → (n : ℕ) (e : List ℕ) → Nests n e → Nests (max 1 n) (codes "(" ++ type_text t ++ codes ")" ++ e)
cast_nests t typed n e nests =
    then (left n (in_parentheses 0 (type_text t) (plain (plain_result t (value_result t typed))))) (right 1 nests)

-- the index in its brackets as one text
element_parts : (place index : List ℕ) → place ++ (codes "[" ++ index ++ codes "]") ≡ place ++ codes "[" ++ index ++ codes "]"
element_parts place index = simp append_assoc

mutual
  expr_nests : (e : Expr) → ExprInSubset e → Nests (expr_nested e) (expr_text e)
  expr_nests (Number v suffix) small = then (plain (plain_decimal v small)) (plain (plain_suffix suffix))
  expr_nests (Read place) inside = place_nests place inside
  expr_nests (Address place) inside = in_parentheses (place_nested place) (codes "&" ++ place_text place) (then (mark (place_nested place) (codes "&") refl) (place_nests place inside))
  expr_nests (Unary op e) inside = in_parentheses (expr_nested e) (unary_text op ++ expr_text e) (then (plain (plain_unary op)) (expr_nests e inside))
  expr_nests (Binary op a b) inside =
      in_parentheses (max (expr_nested a) (expr_nested b)) (expr_text a ++ codes " " ++ binary_text op ++ codes " " ++ expr_text b)
      (binary_nests op (expr_nested a) (expr_nested b) (expr_text a) (expr_text b) (expr_nests a inside.0) (expr_nests b inside.1))
  expr_nests (Cast t e) inside =
      in_parentheses (max 1 (expr_nested e)) (codes "(" ++ type_text t ++ codes ")" ++ expr_text e) (cast_nests t inside.0 (expr_nested e) (expr_text e) (expr_nests e inside.1))
  expr_nests (Cond c a b) inside =
      in_parentheses (max (expr_nested c) (max (expr_nested a) (expr_nested b))) (expr_text c ++ codes " ? " ++ expr_text a ++ codes " : " ++ expr_text b)
      (cond_nests (expr_nested c) (expr_nested a) (expr_nested b) (expr_text c) (expr_text a) (expr_text b) (expr_nests c inside.0) (expr_nests a inside.1) (expr_nests b inside.2))

  place_nests : (p : Place) → PlaceInSubset p → Nests (place_nested p) (place_text p)
  place_nests (Var x) inside = named inside
  place_nests (At e) inside = in_parentheses (expr_nested e) (codes "*" ++ expr_text e) (then (mark (expr_nested e) (codes "*") refl) (expr_nests e inside))
  place_nests (Member place m) inside = then (then (place_nests place inside.0) (mark (place_nested place) (codes ".") refl)) (named inside.1)
  place_nests (Element place e) inside =
      subst (Nests (max (place_nested place) (expr_nested e + 1))) (element_parts (place_text place) (expr_text e))
      (then (left (expr_nested e + 1) (place_nests place inside.1)) (right (place_nested place) (in_square (expr_nested e) (expr_text e) (expr_nests e inside.2))))

-- ---- initializers and calls

mutual
  init_nests : (i : Init) → InitInSubset i → Nests (init_nested i) (init_text i)
  init_nests (One e) inside = expr_nests e inside
  init_nests Zero inside = in_braces 0 (codes "0") (mark 0 (codes "0") refl)
  init_nests (Many is) inside = in_braces (inits_nested is) (listed (init_texts is)) (inits_nest is inside.1)

  inits_nest : (is : Inits) → InitsInSubset is → Nests (inits_nested is) (listed (init_texts is))
  inits_nest NoInits inside = empty 0
  inits_nest (MoreInits i NoInits) inside = left 0 (init_nests i inside.0)
  inits_nest (MoreInits i (MoreInits j is)) inside =
      then (then (left (inits_nested (MoreInits j is)) (init_nests i inside.0)) (mark (inits_nested (MoreInits i (MoreInits j is))) (codes ", ") refl))
      (right (init_nested i) (inits_nest (MoreInits j is) inside.1))

-- a name and what stands in the parentheses behind it as one text
call_parts : (name args : List ℕ) → name ++ (codes "(" ++ args ++ codes ")") ≡ name ++ codes "(" ++ args ++ codes ")"
call_parts name args = simp append_assoc

call_nests : (c : FunctionCall) → CallInSubset c → Nests (call_nested c) (call_text c)
call_nests c inside =
    let args : List ℕ = listed (map expr_text c.args) in
    let depth : ℕ = deepest (map expr_nested c.args) in
    subst (Nests (depth + 1)) (call_parts c.name args) (then (named inside.name) (in_parentheses depth args (with_commas expr_text expr_nested ExprInSubset expr_nests c.args inside.args)))

-- ---- statements

spaces : {depth : ℕ} (braces : ℕ) → Nests depth (indent braces)
spaces {depth} braces = plain_nests depth (indent braces) (plain_spaces (2 * braces))

first_value_nests : (i : Option Init) → FirstValueInSubset i → Nests (first_value_nested i) (first_value_text i)
first_value_nests None inside = empty 0
first_value_nests (Some i) inside = then (mark (init_nested i) (codes " = ") refl) (init_nests i inside)

return_nests : (e : Option Expr) → ReturnInSubset e → Nests (return_nested e) (return_text e)
return_nests None inside = mark 0 (codes "return") refl
return_nests (Some e) inside = then (mark (expr_nested e) (codes "return ") refl) (expr_nests e inside)

-- `{`, the lines of a block, and `}`
block_parts : (lines front : List ℕ) → codes "{" ++ ((10 ∷ []) ++ lines ++ front) ++ codes "}" ≡ line (codes "{") ++ lines ++ front ++ codes "}"
block_parts lines front = simp append_assoc

block_nests : (depth braces : ℕ) (lines : List ℕ) → Nests depth lines → Nests (depth + 1) (block_text braces lines)
block_nests depth braces lines nests =
    subst (Nests (depth + 1)) (block_parts lines (indent braces))
    (in_braces depth ((10 ∷ []) ++ lines ++ indent braces) (then (then (mark depth (10 ∷ []) refl) nests) (spaces braces)))

-- a line with spaces in front, a middle and a semicolon
statement : {depth : ℕ} {text : List ℕ} → Nests depth text → Nests depth (line (text ++ codes ";"))
statement {depth} {text} nests = lined (then nests (mark depth (codes ";") refl))

-- `if`, its test and its first block
test_parts : (front test block : List ℕ) → front ++ codes "if " ++ (codes "(" ++ test ++ codes ")") ++ codes " " ++ block ≡ front ++ codes "if (" ++ test ++ codes ") " ++ block
test_parts front test block = simp append_assoc

test_nests : (n m braces : ℕ) (test block : List ℕ) → Nests n test → Nests (m + 1) block → Nests (max n m + 1) (indent braces ++ codes "if (" ++ test ++ codes ") " ++ block)
test_nests n m braces test block condition body =
    let depth : ℕ = max n m + 1 in
    subst (Nests depth) (test_parts (indent braces) test block)
    (then (then (then (then (spaces braces) (mark depth (codes "if ") refl)) (in_parentheses (max n m) test (left m condition))) (mark depth (codes " ") refl))
    (deeper (m + 1) depth block (omega (arith, le-max_right n m)) body))

-- `for (;;)` and its block
loop_parts : (front block : List ℕ) → front ++ codes "for " ++ (codes "(" ++ codes ";;" ++ codes ")") ++ codes " " ++ block ≡ front ++ codes "for (;;) " ++ block
loop_parts front block = simp append_assoc

loop_nests : (m braces : ℕ) (block : List ℕ) → Nests (m + 1) block → Nests (m + 1) (indent braces ++ codes "for (;;) " ++ block)
loop_nests m braces block body =
    subst (Nests (m + 1)) (loop_parts (indent braces) block)
    (then (then (then (then (spaces braces) (mark (m + 1) (codes "for ") refl)) (in_parentheses m (codes ";;") (mark m (codes ";;") refl))) (mark (m + 1) (codes " ") refl)) body)

-- two blocks with `else` between them
else_nests : (n m : ℕ) (first second : List ℕ) → Nests (n + 1) first → Nests (m + 1) second → Nests (max n m + 1) (first ++ codes " else " ++ line second)
else_nests n m first second one other =
    then (then (deeper (n + 1) (max n m + 1) first (omega (arith, le-max_left n m)) one) (mark (max n m + 1) (codes " else ") refl))
    (lined (deeper (m + 1) (max n m + 1) second (omega (arith, le-max_right n m)) other))

else_parts : (front test first second : List ℕ) → front ++ codes "if (" ++ test ++ codes ") " ++ (first ++ codes " else " ++ second) ≡ front ++ codes "if (" ++ test ++ codes ") " ++ first ++ codes " else " ++ second
else_parts front test first second = simp append_assoc

mutual
  stmt_nests : (s : Stmt) (braces : ℕ) → StmtInSubset s → Nests (stmt_nested s) (stmt_text braces s)
  stmt_nests (Const x t e) braces inside =
      statement (then (then (then (spaces braces) (const_nests (expr_nested e) t x inside.1 inside.0)) (mark (expr_nested e) (codes " = ") refl)) (expr_nests e inside.2))
  stmt_nests (ConstCall x t c) braces inside =
      statement (then (then (then (spaces braces) (const_nests (call_nested c) t x inside.1 inside.0)) (mark (call_nested c) (codes " = ") refl)) (call_nests c inside.2))
  stmt_nests (Object x b i) braces inside =
      statement (then (then (spaces braces) (object_nests (first_value_nested i) b x inside.1 inside.0)) (first_value_nests i inside.2))
  stmt_nests (Assign place e) braces inside =
      statement (then (then (then (spaces braces) (left (expr_nested e) (place_nests place inside.0))) (mark (max (place_nested place) (expr_nested e)) (codes " = ") refl)) (right (place_nested place) (expr_nests e inside.1)))
  stmt_nests (If e a) braces inside =
      test_nests (expr_nested e) (stmts_nested a) braces (expr_text e) (line (block_text braces (stmts_text (braces + 1) a))) (expr_nests e inside.0)
      (lined (block_nests (stmts_nested a) braces (stmts_text (braces + 1) a) (stmts_nest a (braces + 1) inside.1)))
  stmt_nests (IfElse e a b) braces inside =
      let first : List ℕ = block_text braces (stmts_text (braces + 1) a) in
      let second : List ℕ = block_text braces (stmts_text (braces + 1) b) in
      subst (Nests (max (expr_nested e) (max (stmts_nested a) (stmts_nested b)) + 1)) (else_parts (indent braces) (expr_text e) first (line second))
      (test_nests (expr_nested e) (max (stmts_nested a) (stmts_nested b)) braces (expr_text e) (first ++ codes " else " ++ line second) (expr_nests e inside.0)
      (else_nests (stmts_nested a) (stmts_nested b) first second
      (block_nests (stmts_nested a) braces (stmts_text (braces + 1) a) (stmts_nest a (braces + 1) inside.1))
      (block_nests (stmts_nested b) braces (stmts_text (braces + 1) b) (stmts_nest b (braces + 1) inside.2))))
  stmt_nests (Forever a) braces inside =
      loop_nests (stmts_nested a) braces (line (block_text braces (stmts_text (braces + 1) a))) (lined (block_nests (stmts_nested a) braces (stmts_text (braces + 1) a) (stmts_nest a (braces + 1) inside)))
  stmt_nests Break braces inside = lined (then (spaces braces) (mark 0 (codes "break;") refl))
  stmt_nests (Return e) braces inside = statement (then (spaces braces) (return_nests e inside))
  stmt_nests (Block a) braces inside = then (spaces braces) (lined (block_nests (stmts_nested a) braces (stmts_text (braces + 1) a) (stmts_nest a (braces + 1) inside)))
  stmt_nests (Call c) braces inside = statement (then (spaces braces) (call_nests c inside))

  stmts_nest : (ss : Stmts) (braces : ℕ) → StmtsInSubset ss → Nests (stmts_nested ss) (stmts_text braces ss)
  stmts_nest Nil braces inside = empty 0
  stmts_nest (Cons s rest) braces inside = then (left (stmts_nested rest) (stmt_nests s braces inside.0)) (right (stmt_nested s) (stmts_nest rest braces inside.1))

-- ---- declarations

length_nests : (n : Option ℕ) → LengthInSubset n → Nests (length_nested n) (length_text n)
length_nests None inside = empty 0
length_nests (Some n) inside = in_square 0 (decimal n) (plain (plain_decimal n (omega (arith, inside))))

member_nests : (m : CMember) → MemberInSubset m → Nests (member_nested m) (member_text m)
member_nests m inside = statement (then (then (mark (member_nested m) (codes "  ") refl) (object_nests (member_nested m) m.base m.name inside.base inside.name)) (length_nests m.length inside.length))

-- the braces of a struct as one text
struct_parts : (a b c d n e f g : List ℕ) → a ++ b ++ c ++ ((d ++ n ++ e) ++ f) ++ g ≡ (a ++ b ++ (c ++ d) ++ n) ++ e ++ (f ++ g)
struct_parts a b c d n e f g = simp append_assoc

struct_nests : (s : CStruct) → StructInSubset s → Nests (struct_nested s) (struct_text s)
struct_nests s inside =
    let members : List ℕ = texts (map member_text s.members) in
    let depth : ℕ = deepest (map member_nested s.members) in
    subst (Nests (depth + 1)) (struct_parts (codes "struct ") s.name (codes " ") (codes "{") (10 ∷ []) members (codes "}") (line (codes ";")))
    (then (then (then (then (mark (depth + 1) (codes "struct ") refl) (named inside.name)) (mark (depth + 1) (codes " ") refl))
    (in_braces depth ((10 ∷ []) ++ members) (then (mark depth (10 ∷ []) refl) (one_after_another member_text member_nested MemberInSubset member_nests s.members inside.members))))
    (lined (mark (depth + 1) (codes ";") refl)))

-- no type and no parameter has brackets
abbrev flat : {X : Type 0} → X → ℕ
flat x = 0

none_deep : {X : Type 0} (xs : List X) → deepest (map flat xs) ≤ 0
none_deep [] = omega arith
none_deep (x ∷ xs) = max-le (omega arith) (none_deep xs)

params_nest : {X : Type 0} (text : X → List ℕ) (In : X → Type 0) → Each text flat In → (xs : List X) → All In xs → Nests 1 (params_text (map text xs))
params_nest text In each [] inside = in_parentheses 0 (codes "void") (mark 0 (codes "void") refl)
params_nest text In each (x ∷ xs) inside =
    in_parentheses 0 (listed (map text (x ∷ xs)))
    (deeper (deepest (map flat (x ∷ xs))) 0 (listed (map text (x ∷ xs))) (none_deep (x ∷ xs)) (with_commas text flat In each (x ∷ xs) inside))

abbrev one : {X : Type 0} → X → ℕ
one x = 1

extern_nests : (x : CExtern) → ExternInSubset x → Nests (one x) (extern_text x)
extern_nests x inside =
    statement (then (then (mark 1 (codes "extern ") refl) (typed_nests 1 x.result x.name (extern_result x.result inside.result) inside.name))
    (params_nest type_text ValueInSubset (λ t typed. plain (plain_result t (value_result t typed))) x.params inside.params))

file_object_nests : (o : FileObject) → ObjectInSubset o → Nests (object_nested o) (file_object_text o)
file_object_nests o inside =
    let depth : ℕ = object_nested o in
    statement (then (then (then (then (then (then (mark depth (codes "static ") refl) (plain (plain_base o.base inside.base))) (mark depth (codes " ") refl)) (plain (plain_base_const o.constant))) (named inside.name)) (mark depth (codes " = ") refl)) (init_nests o.init inside.init))
  where
    plain_base_const : (constant : Bool) → IsPlain (base_const_text constant)
    plain_base_const true = record { all = refl }
    plain_base_const false = record { all = refl }

plain_storage : (hidden : Bool) → IsPlain (storage_text hidden)
plain_storage true = record { all = refl }
plain_storage false = record { all = refl }

function_nests : (f : Function) → FunctionInSubset f → Nests (function_nested f) (function_text f)
function_nests f inside =
    let depth : ℕ = stmts_nested f.body in
    then (then (then (then (plain (plain_storage f.hidden)) (typed_nests (depth + 1) f.result f.name inside.result inside.name))
    (deeper 1 (depth + 1) (params_text (map param_text f.params)) (omega arith) (params_nest param_text ParamInSubset (λ p inside. const_nests 0 p.ty p.name inside.ty inside.name) f.params inside.params)))
    (mark (depth + 1) (codes " ") refl))
    (lined (block_nests depth 0 (stmts_text 1 f.body) (stmts_nest f.body 1 inside.body)))

-- ---- units

fixed_nests : Nests 1 fixed_text
fixed_nests =
    joined 1 (line (codes "#include <stdint.h>") ++ line (codes "#include <stdbool.h>") ++ codes "extern void ivory_stop") (codes "(uint32_t);" ++ 10 ∷ [])
    (mark 1 (line (codes "#include <stdint.h>") ++ line (codes "#include <stdbool.h>") ++ codes "extern void ivory_stop") refl)
    (joined 1 (codes "(uint32_t)") (codes ";" ++ 10 ∷ []) (in_parentheses 0 (codes "uint32_t") (mark 0 (codes "uint32_t") refl)) (mark 1 (codes ";" ++ 10 ∷ []) refl))

ones : {X : Type 0} (xs : List X) → deepest (map one xs) ≤ 1
ones [] = omega arith
ones (x ∷ xs) = max-le (omega arith) (ones xs)

pub unit_nests : (u : TranslationUnit) → InSubset u → Nests (nested u) (unit_text u)
unit_nests u inside =
    let structs : ℕ = deepest (map struct_nested u.structs) in
    let objects : ℕ = deepest (map object_nested u.objects) in
    let functions : ℕ = deepest (map function_nested u.functions) in
    then (then (then (then (left (max structs (max objects functions)) fixed_nests)
    (right 1 (left (max objects functions) (one_after_another struct_text struct_nested StructInSubset struct_nests u.structs inside.structs))))
    (left (max structs (max objects functions)) (deeper (deepest (map one u.externs)) 1 (texts (map extern_text u.externs)) (ones u.externs) (one_after_another extern_text one ExternInSubset extern_nests u.externs inside.externs))))
    (right 1 (right structs (left functions (one_after_another file_object_text object_nested ObjectInSubset file_object_nests u.objects inside.objects)))))
    (right 1 (right structs (right objects (one_after_another function_text function_nested FunctionInSubset function_nests u.functions inside.functions))))

pub unit_nests_so : (u : TranslationUnit) → InSubset u → (n : ℕ) → open_brackets 0 (take n (unit_text u)) ≤ nested u
unit_nests_so u inside n = let bound : open_brackets 0 (take n (unit_text u)) ≤ 0 + nested u = (unit_nests u inside).within 0 n in omega arith

pub unit_is_shallow : (u : TranslationUnit) → InSubset u → nested u ≤ 300 → IsShallow (unit_text u)
unit_is_shallow u inside few = shallow (nested u) (unit_text u) few (unit_nests u inside)

pub right_reads_back : (u : TranslationUnit) (target : Target) → InSubset u → Right target u → nested u ≤ 300 → ReadsBack u (unit_text u) target
right_reads_back u target inside right few = record { spelled = record { in_subset = inside; is = refl }; right = right; shallow = unit_is_shallow u inside few }
