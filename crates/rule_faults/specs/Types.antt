-- The type of an expression, by its form alone, whether or not a rule is broken within it. None where a name, a field, bit data or the
-- type of an operand that it needs is missing.
use Rattle.std.specs.Prelude.{Bool, ◌||◌, not, if◌then◌else◌, Option, Some, None, option_and_then}
use Rattle.ivory_tree.specs.Syntax.{ExprSyntax, Literal, Truth, Outcome, Variable, Cast, ToIndex, WrapIndex, MakeBits, Raw, SetField, Prefix, Binary, Field, Element, Cond, Bare}
use Rattle.ivory_tree.specs.declared.expr.PrefixOp.TheVariants.{Neg, Not, Flip, Deref}
use Rattle.area_types.specs.Syntax as types
use Rattle.area_types.specs.Syntax.{ValueType}
use Rattle.source_types.specs.Values.{holds, is_bit_data}
use Rattle.source_types.specs.Operators.{gives_truth}
use Rattle.source_types.specs.Settled.{settled}
use Rattle.source_types.specs.Written.{index_type, bits_type}
use Rattle.source_types.specs.Parts.{stored_type, element_type, field_type, word_type}
use Rattle.rule_faults.specs.Contexts.{Context, name_type, outcome_type}

-- a type, where it passes a test
abbrev pub only : {A : Type 0} → (A → Bool) → Option A → Option A
only test None = None
only test (Some x) = if test x then Some x else None

-- the type of the first settled operand or arm; with none settled, that of the first
abbrev pub first_type : (left right : ExprSyntax) → (of_left of_right : Option ValueType) → Option ValueType
first_type left right of_left of_right = if settled left || not (settled right) then of_left else of_right

-- `wanted` is the type that is wanted of the expression, where one is. An unsettled one has it where its first literal does.
abbrev pub type_of : Context → (wanted : Option ValueType) → ExprSyntax → Option ValueType
type_of context wanted (Literal s value) = only (λ t. holds t value) wanted
type_of context wanted (Truth s value) = Some types.Truth
type_of context wanted (Outcome s) = outcome_type context
type_of context wanted (Variable s name) = name_type context name
type_of context wanted (Cast s kind e) = Some (types.Int kind)
type_of context wanted (ToIndex s n e) = index_type n
type_of context wanted (WrapIndex s n e) = index_type n
type_of context wanted (MakeBits s name e) = bits_type context.earlier name
type_of context wanted (Raw s e) = option_and_then (word_type context.earlier) (type_of context None e)
type_of context wanted (SetField s e field value) = only is_bit_data (type_of context None e)
type_of context wanted (Prefix s Not e) = Some types.Truth
type_of context wanted (Prefix s Deref e) = option_and_then stored_type (type_of context None e)
type_of context wanted (Prefix s Neg e) = type_of context wanted e
type_of context wanted (Prefix s Flip e) = type_of context wanted e
type_of context wanted (Binary s op at left right) = if gives_truth op then Some types.Truth else first_type left right (type_of context wanted left) (type_of context wanted right)
type_of context wanted (Field s e field) = option_and_then (λ t. field_type context.earlier t field.text) (type_of context None e)
type_of context wanted (Element s brackets e index) = option_and_then element_type (type_of context None e)
type_of context wanted (Cond s test first second) = first_type first second (type_of context wanted first) (type_of context wanted second)
type_of context wanted (Bare s e) = type_of context wanted e

-- of a settled expression; an unsettled one has none, since nothing is wanted here
abbrev pub own_type : Context → ExprSyntax → Option ValueType
own_type context e = type_of context None e
