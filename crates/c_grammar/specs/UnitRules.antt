-- Structs, externs, objects, functions and whole units of the C subset. What begins alike is read up to where it parts: a struct and
-- a function that gives a pointer to one; an object and a hidden function.
use Rattle.std.specs.Prelude.{ℕ, zero, suc, Bool, true, false, List, [], ◌∷◌, codes, Option, Some, None}
use Rattle.c_ast.specs.declared.types.CScalar.{CScalar}
use Rattle.c_ast.specs.declared.types.CBase.{CBase}
use Rattle.c_ast.specs.declared.types.CBase.TheVariants.{Scalar, Struct}
use Rattle.c_ast.specs.declared.types.CType.{CType}
use Rattle.c_ast.specs.declared.types.CType.TheVariants.{Void, Value}
use Rattle.c_ast.specs.declared.unit.CMember.{CMember}
use Rattle.c_ast.specs.declared.unit.CStruct.{CStruct}
use Rattle.c_ast.specs.declared.unit.CExtern.{CExtern}
use Rattle.c_ast.specs.declared.unit.CParam.{CParam}
use Rattle.c_ast.specs.Syntax.{Name, Init, Stmts, FileObject, Function, TranslationUnit}
use Rattle.grammars.specs.Grammar as rules
use Rattle.grammars.specs.Grammar.{token, empty, sequence, choice, repeat, stages, after, before, optional, separated}
use Rattle.c_grammar.specs.Pieces.{Piece}
use Rattle.c_grammar.specs.Kinds.{number_word, length_of, indentation}
use Rattle.c_grammar.specs.Symbols.{Side, left, right, a_length, a_body, the_members, the_types, the_params, stop_params, Rule, mark, blank, word, new_line, comma, semicolon, star, word_static, word_extern, word_void, word_const, parens, squares, braces, pair}
use Rattle.c_grammar.specs.TypeRules.{name, scalar, tag, base, scalar_type, struct_pointer, value_type, held, held_pointer, not_to_const, to_const, pointer_name, typed_name}
use Rattle.c_grammar.specs.ExpressionRules.{initializer}
use Rattle.c_grammar.specs.StatementRules.{equals}

-- ---- structs

abbrev pub member_of : CBase → Name × Option ℕ → CMember
member_of b (x, n) = record { name = x; base = b; length = n }

abbrev pub struct_of : Name → List CMember → CStruct
struct_of x members = record { name = x; members = members }

abbrev pub length_rule : Rule ℕ
length_rule = token number_word length_of

abbrev pub member : Rule CMember
member = after (token indentation Some) (before (sequence member_of base (after blank (sequence pair name (optional (squares a_length))))) (after semicolon new_line))

abbrev pub members_rule : Rule (List CMember)
members_rule = after new_line (sequence (λ m more. m ∷ more) member (repeat member))

-- ---- externs

abbrev pub types_rule : Rule (List CType)
types_rule = choice (rules.map (λ _. []) word_void) (separated comma value_type)

abbrev pub extern_of : CType → Name × List CType → CExtern
extern_of t (x, params) = record { name = x; params = params; result = t }

abbrev pub extern_result : Rule CType
extern_result = choice (rules.map (λ _. Void) word_void) (rules.map Value scalar)

abbrev pub extern : Rule CExtern
extern = after word_extern (after blank (sequence extern_of extern_result (after blank (sequence pair name (before (parens the_types) (after semicolon new_line))))))

-- ---- functions

abbrev pub scalar_param : CScalar → Option Bool × Name → CParam
scalar_param s (p, x) = record { name = x; ty = scalar_type s p }

abbrev pub struct_param : Name → Bool × Name → CParam
struct_param t (p, x) = record { name = x; ty = struct_pointer t p }

abbrev pub param : Rule CParam
param = choice (sequence scalar_param scalar (after blank held)) (sequence struct_param tag (after blank held_pointer))

abbrev pub params_rule : Rule (List CParam)
params_rule = choice (rules.map (λ _. []) word_void) (separated comma param)

-- behind its name
abbrev pub Defined : Type 0
Defined = List CParam × Stmts

unfoldable pub defined : Rule Defined
defined = sequence pair (parens the_params) (after blank (before (braces a_body) new_line))

abbrev pub function_of : Bool → CType → Name → Defined → Function
function_of hidden t x d = record { hidden = hidden; name = x; params = d.0; result = t; body = d.1 }

abbrev pub scalar_function : Bool → CScalar → (Option Bool × Name) × Defined → Function
scalar_function hidden s f = function_of hidden (scalar_type s f.0.0) f.0.1 f.1

abbrev pub struct_function : Bool → Name → (Bool × Name) × Defined → Function
struct_function hidden t f = function_of hidden (struct_pointer t f.0.0) f.0.1 f.1

abbrev pub void_function : Bool → Rule Function
void_function hidden = after word_void (after blank (sequence (function_of hidden Void) name defined))

-- that gives no pointer to a struct
abbrev pub plain_function : Bool → Rule Function
plain_function hidden = choice (void_function hidden) (sequence (scalar_function hidden) scalar (after blank (sequence pair typed_name defined)))

abbrev pub pointer_function : Bool → Rule Function
pointer_function hidden = sequence (struct_function hidden) tag (after blank (sequence pair pointer_name defined))

abbrev pub function : Bool → Rule Function
function hidden = choice (plain_function hidden) (pointer_function hidden)

-- ---- items

pub data Item : Type 0 where
  a_struct : CStruct → Item
  an_extern : CExtern → Item
  an_object : FileObject → Item
  a_function : Function → Item

-- structs, externs, objects, functions
abbrev pub rank : Item → ℕ
rank (a_struct s) = 0
rank (an_extern x) = 1
rank (an_object o) = 2
rank (a_function f) = 3

abbrev pub object_of : CBase → Bool → Name → Init → FileObject
object_of b constant x i = record { name = x; constant = constant; base = b; init = i }

-- ` = I;`
unfoldable pub first_value : Rule Init
first_value = equals (before initializer (after semicolon new_line))

-- behind a base: a function with its type, or an object
abbrev pub Behind : Type 0 → Type 0
Behind P = Side ((P × Name) × Defined) ((Bool × Name) × Init)

abbrev pub constant_object : Rule ((Bool × Name) × Init)
constant_object = sequence (λ x i. (to_const x, i)) name first_value

-- const *NAME(..), const NAME = I;
abbrev pub behind_const : {P : Type 0} → (Bool × Name → P × Name) → Rule (Behind P)
behind_const to = after word_const (after blank (choice (rules.map left (sequence (λ x d. (to (to_const x), d)) (after star name) defined)) (rules.map right constant_object)))

abbrev pub behind_star : {P : Type 0} → (Bool × Name → P × Name) → Rule (Behind P)
behind_star to = rules.map left (sequence (λ x d. (to (not_to_const x), d)) (after star name) defined)

abbrev pub some_pointer : Bool × Name → Option Bool × Name
some_pointer p = (Some p.0, p.1)

abbrev pub same_pointer : Bool × Name → Bool × Name
same_pointer p = p

-- NAME(..), NAME = I;
abbrev pub named : Name → Side Defined Init → Behind (Option Bool)
named x (left d) = left ((None, x), d)
named x (right i) = right (not_to_const x, i)

abbrev pub behind_name : Rule (Behind (Option Bool))
behind_name = sequence named name (choice (rules.map left defined) (rules.map right first_value))

abbrev pub behind_scalar : Rule (Behind (Option Bool))
behind_scalar = choice (behind_star some_pointer) (choice (behind_const some_pointer) behind_name)

abbrev pub behind_struct : Rule (Behind Bool)
behind_struct = choice (behind_star same_pointer) (choice (behind_const same_pointer) (rules.map right (sequence (λ x i. (not_to_const x, i)) name first_value)))

abbrev pub scalar_item : CScalar → Behind (Option Bool) → Item
scalar_item s (left f) = a_function (scalar_function true s f)
scalar_item s (right o) = an_object (object_of (Scalar s) o.0.0 o.0.1 o.1)

abbrev pub struct_item : Name → Behind Bool → Item
struct_item t (left f) = a_function (struct_function true t f)
struct_item t (right o) = an_object (object_of (Struct t) o.0.0 o.0.1 o.1)

-- an object or a hidden function
unfoldable pub static_item : Rule Item
static_item =
    after word_static (after blank (choice (rules.map a_function (void_function true))
    (choice (sequence scalar_item scalar (after blank behind_scalar)) (sequence struct_item tag (after blank behind_struct)))))

-- a struct, or a function that gives a pointer to one
abbrev pub tagged : Name → Side (List CMember) ((Bool × Name) × Defined) → Item
tagged t (left members) = a_struct (struct_of t members)
tagged t (right f) = a_function (struct_function false t f)

abbrev pub struct_or_function : Rule Item
struct_or_function = sequence tagged tag (after blank (choice (rules.map left (before (braces the_members) (after semicolon new_line))) (rules.map right (sequence pair pointer_name defined))))

abbrev pub hidden_function : Rule Item
hidden_function = after word_static (after blank (rules.map a_function (function true)))

abbrev pub at_functions : Rule Item
at_functions = choice hidden_function (rules.map a_function (function false))

abbrev pub at_objects : Rule Item
at_objects = choice static_item (rules.map a_function (function false))

abbrev pub at_externs : Rule Item
at_externs = choice (rules.map an_extern extern) at_objects

abbrev pub at_structs : Rule Item
at_structs = choice struct_or_function (choice (rules.map an_extern extern) (choice static_item (rules.map a_function (plain_function false))))

unfoldable pub at_stage : ℕ → Rule Item
at_stage zero = at_structs
at_stage (suc zero) = at_externs
at_stage (suc (suc zero)) = at_objects
at_stage (suc (suc (suc n))) = at_functions

abbrev pub items : Rule (List Item)
items = stages 3 rank at_stage

-- ---- the unit

abbrev pub included : List ℕ → Rule Piece
included w = after (mark 35) (after (word (codes "include")) (after blank (after (mark 60) (after (word w) (after (mark 46) (after (word (codes "h")) (after (mark 62) new_line)))))))

abbrev pub stop_line : Rule Piece
stop_line = after word_extern (after blank (after word_void (after blank (after (word (codes "ivory_stop")) (after (parens stop_params) (after semicolon new_line))))))

unfoldable pub fixed_lines : Rule Piece
fixed_lines = after (included (codes "stdint")) (after (included (codes "stdbool")) stop_line)

abbrev pub structs_in : List Item → List CStruct
structs_in [] = []
structs_in (a_struct s ∷ more) = s ∷ structs_in more
structs_in (_ ∷ more) = structs_in more

abbrev pub externs_in : List Item → List CExtern
externs_in [] = []
externs_in (an_extern x ∷ more) = x ∷ externs_in more
externs_in (_ ∷ more) = externs_in more

abbrev pub objects_in : List Item → List FileObject
objects_in [] = []
objects_in (an_object o ∷ more) = o ∷ objects_in more
objects_in (_ ∷ more) = objects_in more

abbrev pub functions_in : List Item → List Function
functions_in [] = []
functions_in (a_function f ∷ more) = f ∷ functions_in more
functions_in (_ ∷ more) = functions_in more

abbrev pub unit_of : List Item → TranslationUnit
unit_of found = record { structs = structs_in found; externs = externs_in found; objects = objects_in found; functions = functions_in found }

abbrev pub unit_rule : Rule TranslationUnit
unit_rule = after fixed_lines (rules.map unit_of items)
