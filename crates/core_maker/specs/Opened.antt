-- Open cores: a chain or a postfix without the mark of the whole, so that a further link or step can join it.
use Rattle.std.specs.Prelude.{Bool, true, if◌then◌else◌, nat_eq}
use Rattle.iv_words.specs.declared.Span.{Span}
use Rattle.ivory_tree.specs.Syntax.{ExprSyntax, Literal, Truth, Outcome, Variable, Cast, ToIndex, WrapIndex, MakeBits, Raw, SetField, Prefix, Binary, Field, Element, Cond, Bare}
use Rattle.ivory_tree.specs.Places.{expr_span}
use Rattle.ivory_tree.specs.declared.BinOp.{BinOp}
use Rattle.area_types.specs.Syntax.{ValueType}
use Rattle.core_tree.specs.Syntax as core
use Rattle.core_tree.specs.Syntax.{ExprCore, type_of}
use Rattle.typing_rules.specs.Sites.{unchecked}
use Rattle.typing_rules.specs.Wholes.{level, part}

-- how a core ends: by itself, or open with an operator or a step, of this type
pub data Tail : Type 0 where
  Alone : Tail
  AfterLink : BinOp → ValueType → Tail
  AfterStep : ValueType → Tail

pub record Form : Type 0 where
  pub core : ExprCore
  pub tail : Tail

abbrev pub whole : ValueType → ExprCore → ExprCore
whole t c = core.Whole (unchecked t) c

abbrev pub closed_by : ExprCore → Tail → ExprCore
closed_by c Alone = c
closed_by c (AfterLink op t) = whole t c
closed_by c (AfterStep t) = whole t c

-- marked as a whole
abbrev pub closed : Form → ExprCore
closed f = closed_by f.core f.tail

abbrev pub joined_by : BinOp → ExprCore → Tail → ExprCore
joined_by op c Alone = c
joined_by op c (AfterLink prior t) = if nat_eq (level op) (level prior) then c else whole t c
joined_by op c (AfterStep t) = whole t c

-- as the left operand of this operator
abbrev pub joined : BinOp → Form → ExprCore
joined op f = joined_by op f.core f.tail

abbrev pub based_by : ExprCore → Tail → ExprCore
based_by c Alone = c
based_by c (AfterLink op t) = whole t c
based_by c (AfterStep t) = c

-- as what stands before a step
abbrev pub based : Form → ExprCore
based f = based_by f.core f.tail

abbrev pub alone : ExprCore → Form
alone c = record { core = c; tail = Alone }

-- the core of an expression, open where it is a chain or a postfix
abbrev pub opened : ExprSyntax → ExprCore → Form
opened (Binary t op at left right) c = record { core = part true c; tail = AfterLink op (type_of c) }
opened (Field t e field) c = record { core = part true c; tail = AfterStep (type_of c) }
opened (Element t brackets e index) c = record { core = part true c; tail = AfterStep (type_of c) }
opened (Literal t value) c = alone c
opened (Truth t value) c = alone c
opened (Outcome t) c = alone c
opened (Variable t name) c = alone c
opened (Cast t kind e) c = alone c
opened (ToIndex t n e) c = alone c
opened (WrapIndex t n e) c = alone c
opened (MakeBits t name e) c = alone c
opened (Raw t e) c = alone c
opened (SetField t e field value) c = alone c
opened (Prefix t op e) c = alone c
opened (Cond t test first second) c = alone c
opened (Bare t e) c = alone c

-- open only where it begins with the whole
abbrev pub kept : Bool → Form → ExprCore → Form
kept begins f c = if begins then f else alone c

abbrev pub first_of : Span → ExprSyntax → ExprCore → Form
first_of s e c = kept (nat_eq s.start (expr_span e).start) (opened e c) c
