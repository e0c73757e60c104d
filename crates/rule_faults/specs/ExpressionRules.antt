-- Rules 4 to 7 and 18 to 30, 35 to 39: names, and the types of expressions. Each is told in words, and is
-- true of the nodes at which it is broken.
use Rattle.std.specs.Prelude.{Bool, false, ◌&&◌, ◌||◌, not, Option, Some, None, is_some, option_and_then}
use Rattle.ivory_tree.specs.Syntax.{BitsType, StructArea, ExprSyntax, Literal, Outcome, Variable, Cast, ToIndex, WrapIndex, MakeBits, Raw, SetField, Prefix, Binary, Field, Element, Cond, Store}
use Rattle.ivory_tree.specs.declared.expr.BinOp.{BinOp}
use Rattle.ivory_tree.specs.declared.expr.PrefixOp.TheVariants.{Deref}
use Rattle.area_types.specs.Syntax.{ValueType, Area}
use Rattle.region_check.specs.Calls.{Reference, reference_of, may_stand_for}
use Rattle.region_check.specs.Substitutions.{escapes}
use Rattle.source_types.specs.Values.{is_integer, is_index_type, is_bit_data, is_reference, holds, same_type, same_region, same_area}
use Rattle.source_types.specs.Operators.{is_logic, is_for, is_arithmetic, prefix_is_for}
use Rattle.source_types.specs.Settled.{settled}
use Rattle.source_types.specs.Environments.{is_struct, is_bits, is_callee}
use Rattle.source_types.specs.Parts.{stored_type, struct_behind, length_behind, field_type}
use Rattle.rule_faults.specs.Contexts.{Context, is_known, has_outcome}
use Rattle.rule_faults.specs.Types.{type_of, own_type, first_type}
use Rattle.rule_faults.specs.Wants.{Want, Nothing, Wants, Takes, Returns, wanted_type, of_operand, beside}
use Rattle.rule_faults.specs.Nodes.{Node, AType, AnArea, ACall, AStatement, AnExpr}
use Rattle.rule_faults.specs.Tests.{where_there, where_both}

-- rule 4: a name is that of a local or of an area before it, and `result` is the outcome of a procedure that has one, in its `ensures`
abbrev pub rule_4 : Node → Bool
rule_4 (AnExpr context want (Variable s name)) = not (is_known context name)
rule_4 (AnExpr context want (Outcome s)) = not (has_outcome context)
rule_4 _ = false

-- rule 5: a struct is declared before it is named
abbrev pub rule_5 : Node → Bool
rule_5 (AnArea earlier (StructArea s name)) = not (is_struct earlier name)
rule_5 _ = false

-- rule 6: bit data are declared before they are named
abbrev pub rule_6 : Node → Bool
rule_6 (AType earlier regions place (BitsType s name)) = not (is_bits earlier name)
rule_6 (AnExpr context want (MakeBits s name e)) = not (is_bits context.earlier name)
rule_6 _ = false

-- rule 7: an import or a procedure is declared before it is called
abbrev pub rule_7 : Node → Bool
rule_7 (ACall context call) = not (is_callee context.earlier call.name.text)
rule_7 _ = false

-- rule 18: literals, and operators on nothing but literals, get a type from outside
abbrev pub rule_18 : Node → Bool
rule_18 (AnExpr context Nothing e) = not (settled e)
rule_18 _ = false

-- rule 19: a literal lies within the type that is wanted
abbrev pub rule_19 : Node → Bool
rule_19 (AnExpr context want (Literal s value)) = where_there (wanted_type want) (λ t. not (holds t value))
rule_19 _ = false

-- rule 20: what has a type of its own has the wanted one; where a reference is wanted, later rules speak
abbrev pub rule_20 : Node → Bool
rule_20 (AnExpr context (Wants t) e) = not (is_reference t) && settled e && where_there (own_type context e) (λ u. not (same_type u t))
rule_20 _ = false

abbrev pub differ : Context → (first second : ExprSyntax) → Bool
differ context first second = settled first && settled second && where_both (own_type context first) (own_type context second) (λ t u. not (same_type t u))

-- rule 21: two operands, or two arms, with types of their own have the same type
abbrev pub rule_21 : Node → Bool
rule_21 (AnExpr context want (Binary s op at left right)) = differ context left right
rule_21 (AnExpr context want (Cond s test first second)) = differ context first second
rule_21 _ = false

-- the type from which an operator takes its own
abbrev pub operand_type : Context → Want → BinOp → (left right : ExprSyntax) → Option ValueType
operand_type context want op left right = first_type left right (type_of context (wanted_type (beside context want op left right)) left) (own_type context right)

-- rule 22: the operands have a type that the operator is for; a bool is wanted for `&&`, `||` and `!`, and rule 23 speaks of `*`
abbrev pub rule_22 : Node → Bool
rule_22 (AnExpr context want (Binary s op at left right)) = not (is_logic op) && where_there (operand_type context want op left right) (λ t. not (is_for op t))
rule_22 (AnExpr context want (Prefix s op e)) = is_arithmetic op && where_there (type_of context (wanted_type (of_operand op want e)) e) (λ t. not (prefix_is_for op t))
rule_22 _ = false

abbrev pub stores : ValueType → Bool
stores t = is_some (stored_type t)

-- rule 23: what is read by `*`, or written by a store, is one stored value behind a reference
abbrev pub rule_23 : Node → Bool
rule_23 (AnExpr context want (Prefix s Deref e)) = where_there (own_type context e) (λ t. not (stores t))
rule_23 (AStatement context reached (Store s target value)) = where_there (own_type context target) (λ t. not (stores t))
rule_23 _ = false

-- bit data, or a reference to a struct
abbrev pub has_fields : ValueType → Bool
has_fields t = is_bit_data t || is_some (struct_behind t)

-- rule 24: fields are those of bit data, and of structs behind references
abbrev pub rule_24 : Node → Bool
rule_24 (AnExpr context want (Field s e field)) = where_there (own_type context e) (λ t. not (has_fields t))
rule_24 _ = false

-- rule 25: the struct or the bit data has a field of this name
abbrev pub rule_25 : Node → Bool
rule_25 (AnExpr context want (Field s e field)) = where_there (own_type context e) (λ t. has_fields t && not (is_some (field_type context.earlier t field.text)))
rule_25 (AnExpr context want (SetField s e field value)) = where_there (own_type context e) (λ t. is_bit_data t && not (is_some (field_type context.earlier t field.text)))
rule_25 _ = false

-- rule 26: elements are those of arrays behind references
abbrev pub rule_26 : Node → Bool
rule_26 (AnExpr context want (Element s brackets e index)) = where_there (own_type context e) (λ t. not (is_some (length_behind t)))
rule_26 _ = false

-- rule 27: whole numbers and indices are cast, and nothing else
abbrev pub rule_27 : Node → Bool
rule_27 (AnExpr context want (Cast s kind e)) = settled e && where_there (own_type context e) (λ t. not (is_integer t || is_index_type t))
rule_27 _ = false

-- rule 28: indices are made from whole numbers
abbrev pub rule_28 : Node → Bool
rule_28 (AnExpr context want (ToIndex s n e)) = where_there (own_type context e) (λ t. not (is_integer t))
rule_28 (AnExpr context want (WrapIndex s n e)) = where_there (own_type context e) (λ t. not (is_integer t))
rule_28 _ = false

-- rule 29: `raw` and `set` are for bit data
abbrev pub rule_29 : Node → Bool
rule_29 (AnExpr context want (Raw s e)) = where_there (own_type context e) (λ t. not (is_bit_data t))
rule_29 (AnExpr context want (SetField s e field value)) = where_there (own_type context e) (λ t. not (is_bit_data t))
rule_29 _ = false

-- rule 30: no reference is chosen by `?:`
abbrev pub rule_30 : Node → Bool
rule_30 (AnExpr context want (Cond s test first second)) = where_there (own_type context (Cond s test first second)) is_reference
rule_30 _ = false

-- the reference that a settled expression gives
abbrev pub given : Context → ExprSyntax → Option Reference
given context e = option_and_then reference_of (own_type context e)

-- rule 35: arguments for the same region of a callee are in the same region
abbrev pub rule_35 : Node → Bool
rule_35 (AnExpr context (Takes required wanted) e) = settled e && where_both required (given context e) (λ first r. not (same_region first r.region))
rule_35 _ = false

-- rule 36: what a callee may write to is passed by a reference that may write
abbrev pub rule_36 : Node → Bool
rule_36 (AnExpr context (Takes required wanted) e) = settled e && where_there (given context e) (λ r. r.constant && not wanted.constant)
rule_36 _ = false

abbrev pub leads_to : Area → Option Reference → Bool
leads_to area None = false
leads_to area (Some r) = same_area r.area area

-- rule 37: for a reference parameter there is a reference to an area of that type
abbrev pub rule_37 : Node → Bool
rule_37 (AnExpr context (Takes required wanted) e) = settled e && where_there (own_type context e) (λ t. not (leads_to wanted.area (reference_of t)))
rule_37 _ = false

-- rule 38: no reference leaves the procedure that allocated its area
abbrev pub rule_38 : Node → Bool
rule_38 (AnExpr context (Returns wanted) e) = settled e && where_there (own_type context e) escapes
rule_38 _ = false

-- what is given stands for what is wanted: the region is the same, and so is the area, and no writing is won
abbrev pub fits : Reference → Option Reference → Bool
fits wanted None = false
fits wanted (Some r) = same_region r.region wanted.region && same_area r.area wanted.area && may_stand_for r.constant wanted.constant

-- rule 39: a returned reference has the region and the area of the result, and may write where that may
abbrev pub rule_39 : Node → Bool
rule_39 (AnExpr context (Returns wanted) e) = settled e && where_there (own_type context e) (λ t. not (fits wanted (reference_of t)))
rule_39 _ = false
