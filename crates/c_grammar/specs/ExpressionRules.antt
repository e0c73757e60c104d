-- Expressions, places, calls and initializers of the C subset. What begins with `(` is read up to what stands in it before it is
-- known what it is: `(*E)`, `(&L)`, `(-E)`, `((S)E)`, `(E op E)`, `(E ? E : E)`.
use Rattle.std.specs.Prelude.{ℕ, zero, suc, ⊤, Bool, true, false, List, [], ◌∷◌, Option, Some, None, if◌then◌else◌}
use Rattle.c_ast.specs.declared.expr.Suffix.{Suffix}
use Rattle.c_ast.specs.declared.expr.Suffix.TheVariants.{Plain}
use Rattle.c_ast.specs.declared.expr.CUnary.TheVariants.{Neg, Flip, Not}
use Rattle.c_ast.specs.declared.expr.CBinary.{CBinary}
use Rattle.c_ast.specs.declared.expr.CBinary.TheVariants.{Add, Sub, Mul, Div, Rem, And, Or, Xor, Shl, Shr, Eq, Ne, Lt, Le, Gt, Ge, AndAlso, OrElse}
use Rattle.c_ast.specs.Syntax.{Name, Expr, Number, Read, Address, Unary, Binary, Cast, Cond, Place, Var, At, Member, Element, Init, One, Zero, Many, Inits, NoInits, MoreInits}
use Rattle.grammars.specs.Grammar.{token, empty, map, sequence, split, stage, choice, repeat, after, before, optional, separated}
use Rattle.c_grammar.specs.Kinds.{number_word, number_of}
use Rattle.c_grammar.specs.Symbols.{Side, left, right, Inside, type_inside, pointer_inside, value_inside_it, an_expression, a_pointer, an_inner, an_inside, initializers, Rule, mark, blank, comma, star, parens, squares, braces, pair}
use Rattle.c_grammar.specs.TypeRules.{name, value_type}

-- ---- places

-- `.NAME`, and the index behind it where there is one
abbrev pub Step : Type 0
Step = Name × Option Expr

abbrev pub step_on : Place → Step → Place
step_on place (m, None) = Member place m
step_on place (m, Some e) = Element (Member place m) e

abbrev pub steps_on : Place → List Step → Place
steps_on place [] = place
steps_on place (s ∷ more) = steps_on (step_on place s) more

abbrev pub named_place : Name → List Step → Place
named_place x steps = steps_on (Var x) steps

abbrev pub place_behind : Expr → List Step → Place
place_behind e steps = steps_on (At e) steps

abbrev pub step : Rule Step
step = sequence pair (after (mark 46) name) (optional (squares an_expression))

abbrev pub place_of_name : Rule Place
place_of_name = sequence named_place name (repeat step)

-- (*E) and steps
abbrev pub place_of_pointer : Rule Place
place_of_pointer = sequence place_behind (parens a_pointer) (repeat step)

abbrev pub place : Rule Place
place = choice place_of_name place_of_pointer

-- ---- expressions

abbrev pub number_expr : ℕ × Suffix → Expr
number_expr n = Number n.0 n.1

abbrev pub number : Rule Expr
number = map number_expr (token number_word number_of)

abbrev pub operand : Rule Expr
operand = choice number (map Read place_of_name)

-- behind `(*E)` stand steps, behind any other expression in parentheses nothing
abbrev pub inner_way : Side Expr Expr → ℕ
inner_way (left e) = 0
inner_way (right e) = 1

abbrev pub BehindInner : ℕ → Type 0
BehindInner zero = List Step
BehindInner (suc n) = ⊤

abbrev pub behind_inner : (s : ℕ) → Rule (BehindInner s)
behind_inner zero = repeat step
behind_inner (suc n) = empty tt

abbrev pub inner_value : (a : Side Expr Expr) → BehindInner (stage 1 (inner_way a)) → Expr
inner_value (left e) steps = Read (place_behind e steps)
inner_value (right e) nothing = e

abbrev pub in_parens : Rule Expr
in_parens = split {Y = BehindInner} 1 inner_way inner_value (parens an_inner) behind_inner

unfoldable pub expression : Rule Expr
expression = choice operand in_parens

-- ---- behind the first operand

abbrev pub operator : ℕ → CBinary → Rule CBinary
operator b op = map (λ _. op) (mark b)

-- an operator, or a longer one that begins so
abbrev pub longer : ℕ → CBinary → Rule CBinary → Rule CBinary
longer b op more = after (mark b) (choice more (empty op))

unfoldable pub binary_operator : Rule CBinary
binary_operator =
    choice (operator 43 Add) (choice (operator 45 Sub) (choice (operator 42 Mul) (choice (operator 47 Div) (choice (operator 37 Rem) (choice (operator 94 Xor)
    (choice (longer 38 And (operator 38 AndAlso)) (choice (longer 124 Or (operator 124 OrElse))
    (choice (longer 60 Lt (choice (operator 60 Shl) (operator 61 Le))) (choice (longer 62 Gt (choice (operator 62 Shr) (operator 61 Ge)))
    (choice (after (mark 61) (operator 61 Eq)) (after (mark 33) (operator 61 Ne))))))))))))

-- ` op E` or ` ? E : E`
abbrev pub Tail : Type 0
Tail = Side (CBinary × Expr) (Expr × Expr)

abbrev pub with_tail : Expr → Tail → Expr
with_tail a (left (op, b)) = Binary op a b
with_tail c (right (a, b)) = Cond c a b

abbrev pub binary_tail : Rule (CBinary × Expr)
binary_tail = sequence pair (before binary_operator blank) expression

abbrev pub cond_tail : Rule (Expr × Expr)
cond_tail = after (mark 63) (after blank (sequence pair expression (after blank (after (mark 58) (after blank expression)))))

unfoldable pub tail : Rule Tail
tail = after blank (choice (map left binary_tail) (map right cond_tail))

-- ---- in parentheses

-- behind `(*E)` stand steps and the tail, behind `(T)` the expression that it is put before, behind any other operand the tail
abbrev pub inside_way : Inside → ℕ
inside_way (pointer_inside e) = 0
inside_way (type_inside t) = 1
inside_way (value_inside_it e) = 2

abbrev pub BehindInside : ℕ → Type 0
BehindInside zero = List Step × Tail
BehindInside (suc zero) = Expr
BehindInside (suc (suc n)) = Tail

abbrev pub behind_inside : (s : ℕ) → Rule (BehindInside s)
behind_inside zero = sequence pair (repeat step) tail
behind_inside (suc zero) = expression
behind_inside (suc (suc n)) = tail

abbrev pub inside_value : (a : Inside) → BehindInside (stage 2 (inside_way a)) → Expr
inside_value (pointer_inside e) (steps, t) = with_tail (Read (place_behind e steps)) t
inside_value (type_inside t) e = Cast t e
inside_value (value_inside_it e) t = with_tail e t

abbrev pub cast_or_tail : Rule Expr
cast_or_tail = split {Y = BehindInside} 2 inside_way inside_value (parens an_inside) behind_inside

abbrev pub address : Rule Expr
address = map Address (after (mark 38) place)

abbrev pub unary : Rule Expr
unary = choice (map (Unary Neg) (after (mark 45) expression)) (choice (map (Unary Flip) (after (mark 126) expression)) (map (Unary Not) (after (mark 33) expression)))

abbrev pub operand_first : Rule Expr
operand_first = sequence with_tail operand tail

unfoldable pub value_inside : Rule Expr
value_inside = choice address (choice unary (choice operand_first cast_or_tail))

abbrev pub pointer_rule : Rule Expr
pointer_rule = after star expression

abbrev pub inner_rule : Rule (Side Expr Expr)
inner_rule = choice (map left pointer_rule) (map right value_inside)

abbrev pub inside_rule : Rule Inside
inside_rule = choice (map type_inside value_type) (choice (map pointer_inside pointer_rule) (map value_inside_it value_inside))

-- ---- calls and initializers

abbrev pub arguments_rule : Rule (List Expr)
arguments_rule = choice (separated comma expression) (empty [])

abbrev pub inits_of : List Init → Inits
inits_of [] = NoInits
inits_of (i ∷ is) = MoreInits i (inits_of is)

-- the number 0 without a suffix, alone
abbrev pub is_zero_number : ℕ → Suffix → Bool
is_zero_number zero Plain = true
is_zero_number _ _ = false

abbrev pub is_zero_expr : Expr → Bool
is_zero_expr (Number n suffix) = is_zero_number n suffix
is_zero_expr _ = false

abbrev pub is_zero_init : Init → Bool
is_zero_init (One e) = is_zero_expr e
is_zero_init _ = false

abbrev pub is_zero : List Init → Bool
is_zero (i ∷ []) = is_zero_init i
is_zero _ = false

-- `{0}` has a form of its own
abbrev pub braced : List Init → Init
braced is = if is_zero is then Zero else Many (inits_of is)

abbrev pub initializer : Rule Init
initializer = choice (map One expression) (braces initializers)

abbrev pub initializers_rule : Rule Init
initializers_rule = map braced (separated comma initializer)
