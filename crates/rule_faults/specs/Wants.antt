-- What is wanted of an expression, and of its operands.
use Rattle.std.specs.Prelude.{if◌then◌else◌, List, Option, Some, None, option_and_then, option_map}
use Rattle.iv_words.specs.declared.IntKind.{IntKind}
use Rattle.ivory_tree.specs.Syntax.{Word, ExprSyntax}
use Rattle.ivory_tree.specs.declared.expr.BinOp.{BinOp}
use Rattle.ivory_tree.specs.declared.expr.PrefixOp.{PrefixOp}
use Rattle.ivory_tree.specs.declared.expr.PrefixOp.TheVariants.{Neg, Not, Flip, Deref}
use Rattle.area_types.specs.Syntax.{ValueType, Truth, Int, Ix, Ref}
use Rattle.area_types.specs.declared.region.Region.{Region}
use Rattle.region_check.specs.Calls.{Reference, Passed}
use Rattle.region_check.specs.Faults.{known, required}
use Rattle.source_types.specs.Operators.{is_logic, is_comparison}
use Rattle.source_types.specs.Settled.{settled}
use Rattle.source_types.specs.Values.{is_bit_data}
use Rattle.source_types.specs.Written.{bits_type}
use Rattle.source_types.specs.Parts.{stored_type, length_behind, field_type, word_type}
use Rattle.rule_faults.specs.Contexts.{Context}
use Rattle.rule_faults.specs.Types.{own_type, only}

pub data Want : Type 0 where
  -- nothing is wanted
  Nothing : Want
  -- Some type is wanted, and none is known. Either what is wanted names a type that does not exist, and that place is at fault. Or it is
  -- part of an unsettled expression of which nothing is wanted, and the whole is at fault.
  Unknown : Want
  Wants : ValueType → Want
  -- an argument for a reference parameter, and the region that the arguments before it require
  Takes : Option Region → Reference → Want
  -- a value to return, where the result is a reference
  Returns : Reference → Want

abbrev pub type_of_reference : Reference → ValueType
type_of_reference r = Ref r.constant r.region r.area

abbrev pub wanted_type : Want → Option ValueType
wanted_type Nothing = None
wanted_type Unknown = None
wanted_type (Wants t) = Some t
wanted_type (Takes required wanted) = Some (type_of_reference wanted)
wanted_type (Returns wanted) = Some (type_of_reference wanted)

abbrev pub wants : Option ValueType → Want
wants None = Unknown
wants (Some t) = Wants t

-- of a part of an unsettled expression: what the whole is wanted as
abbrev pub part : Want → Want
part Nothing = Unknown
part want = want

-- of the operand of a prefix
abbrev pub of_operand : PrefixOp → Want → ExprSyntax → Want
of_operand Not want e = Wants Truth
of_operand Deref want e = Nothing
of_operand Neg want e = if settled e then Nothing else part want
of_operand Flip want e = if settled e then Nothing else part want

-- of an unsettled arm or operand: the type of a settled one beside it, else what the whole is wanted as
abbrev pub of_arm : Context → Want → (arm other : ExprSyntax) → Want
of_arm context want arm other = if settled arm then Nothing else (if settled other then wants (own_type context other) else part want)

-- of an operand of a comparison: nothing, where neither is settled
abbrev pub compared : Context → (operand other : ExprSyntax) → Want
compared context operand other = if settled operand then Nothing else (if settled other then wants (own_type context other) else Nothing)

-- of an operand: a bool for `&&` and `||`
abbrev pub beside : Context → Want → BinOp → (operand other : ExprSyntax) → Want
beside context want op operand other =
    if is_logic op then Wants Truth
    else (if is_comparison op then compared context operand other else of_arm context want operand other)

-- of the operand of `T(e)`
abbrev pub of_cast : IntKind → ExprSyntax → Want
of_cast kind e = if settled e then Nothing else Wants (Int kind)

-- of the operand of `bits`: the word
abbrev pub of_word : Context → Word → Want
of_word context name = wants (option_and_then (word_type context.earlier) (bits_type context.earlier name))

-- of the new value in `set`: the field's type
abbrev pub of_new_value : Context → ExprSyntax → Word → Want
of_new_value context e field = wants (option_and_then (λ t. field_type context.earlier t field) (only is_bit_data (own_type context e)))

-- of an index into an array of length n: ix(n)
abbrev pub of_index : Context → ExprSyntax → Want
of_index context base = wants (option_map Ix (option_and_then length_behind (own_type context base)))

-- of the value of a store: the cell's type
abbrev pub of_stored : Context → ExprSyntax → Want
of_stored context target = wants (option_and_then stored_type (own_type context target))

-- of an argument, after those before it: the parameter's type
abbrev pub of_reference : List Passed → Reference → Want
of_reference before r = Takes (required (known before) r.region) r

abbrev pub of_argument : List Passed → Option ValueType → Want
of_argument before None = Unknown
of_argument before (Some (Ref constant region area)) = of_reference before (record { constant = constant; region = region; area = area })
of_argument before (Some t) = Wants t

-- of the value of `return`: the result type
abbrev pub of_returned : Option ValueType → Want
of_returned None = Unknown
of_returned (Some (Ref constant region area)) = Returns (record { constant = constant; region = region; area = area })
of_returned (Some t) = Wants t
