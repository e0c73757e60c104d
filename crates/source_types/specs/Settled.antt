-- Which expressions are settled, that is get their type from their parts. The others get it from what is wanted of them.
use Rattle.std.specs.Prelude.{Bool, true, false, ◌||◌, not}
use Rattle.ivory_tree.specs.Syntax.{ExprSyntax, Literal, Truth, Outcome, Variable, Cast, ToIndex, WrapIndex, MakeBits, Raw, SetField, Prefix, Binary, Field, Element, Cond, Bare}
use Rattle.source_types.specs.Operators.{gives_truth, is_arithmetic}

-- Unsettled are: a literal; `-` or `~` of an unsettled expression; an arithmetic, bitwise, wrapping or shift operator with two unsettled
-- operands; `?:` with two unsettled arms.
abbrev pub settled : ExprSyntax → Bool
settled (Literal s value) = false
settled (Prefix s op e) = not (is_arithmetic op) || settled e
settled (Binary s op at left right) = gives_truth op || settled left || settled right
settled (Cond s test first second) = settled first || settled second
settled (Bare s e) = settled e
settled (Truth s value) = true
settled (Outcome s) = true
settled (Variable s name) = true
settled (Cast s kind e) = true
settled (ToIndex s n e) = true
settled (WrapIndex s n e) = true
settled (MakeBits s name e) = true
settled (Raw s e) = true
settled (SetField s e field value) = true
settled (Field s e field) = true
settled (Element s brackets e index) = true
