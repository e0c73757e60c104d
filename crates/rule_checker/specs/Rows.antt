-- The rules that may be broken at each form of an expression, as rows of numbers with tests. The tests take what is known of the parts.
use Rattle.std.specs.Prelude.{ℕ, ℤ, Bool, false, not, ◌&&◌, ◌||◌, if◌then◌else◌, List, [], ◌∷◌, ◌++◌, map, Option, Some, None, is_some, option_and_then}
use Rattle.ivory_tree.specs.Syntax.{Word}
use Rattle.ivory_tree.specs.declared.expr.BinOp.{BinOp}
use Rattle.ivory_tree.specs.declared.expr.PrefixOp.{PrefixOp}
use Rattle.ivory_tree.specs.declared.expr.PrefixOp.TheVariants.{Deref}
use Rattle.area_types.specs.Syntax.{ValueType}
use Rattle.region_check.specs.Calls.{reference_of}
use Rattle.region_check.specs.Substitutions.{escapes}
use Rattle.source_types.specs.Environments.{Earlier}
use Rattle.source_types.specs.Values.{is_integer, is_index_type, is_bit_data, is_reference, holds, same_type, same_region}
use Rattle.source_types.specs.Operators.{is_logic, is_for, is_arithmetic, prefix_is_for}
use Rattle.source_types.specs.Parts.{length_behind, field_type}
use Rattle.rule_faults.specs.Wants.{Want, Nothing, Wants, Takes, Returns}
use Rattle.rule_faults.specs.Nodes.{Node}
use Rattle.rule_faults.specs.Tests.{where_there, where_both}
use Rattle.rule_faults.specs.ExpressionRules.{stores, has_fields, leads_to, fits}
use Rattle.rule_faults.specs.FirstFault.{rules}
use Rattle.rule_checker.specs.Faults.{either}

-- the first number whose test is true; the numbers rise
abbrev pub least : List (ℕ × Bool) → Option ℕ
least [] = None
least (r ∷ rs) = if r.1 then Some r.0 else least rs

abbrev pub all_rows : Node → List (ℕ × Bool)
all_rows n = map (λ rule. (rule.0, rule.1 n)) rules

-- ---- what is wanted; the expression is settled or not, and has a type of its own or none

abbrev pub lacks_a_type : Want → (settled : Bool) → Bool
lacks_a_type Nothing settled = not settled
lacks_a_type _ settled = false

abbrev pub has_another_type : Want → (settled : Bool) → (own : Option ValueType) → Bool
has_another_type (Wants t) settled own = not (is_reference t) && settled && where_there own (λ u. not (same_type u t))
has_another_type _ settled own = false

abbrev pub wanted_rows : Want → Bool → Option ValueType → List (ℕ × Bool)
wanted_rows want settled own = (18, lacks_a_type want settled) ∷ (20, has_another_type want settled own) ∷ []

abbrev pub is_in_another_region : Want → Bool → Option ValueType → Bool
is_in_another_region (Takes required wanted) settled own = settled && where_both required (option_and_then reference_of own) (λ first r. not (same_region first r.region))
is_in_another_region _ settled own = false

abbrev pub only_reads : Want → Bool → Option ValueType → Bool
only_reads (Takes required wanted) settled own = settled && where_there (option_and_then reference_of own) (λ r. r.constant && not wanted.constant)
only_reads _ settled own = false

abbrev pub leads_elsewhere : Want → Bool → Option ValueType → Bool
leads_elsewhere (Takes required wanted) settled own = settled && where_there own (λ t. not (leads_to wanted.area (reference_of t)))
leads_elsewhere _ settled own = false

abbrev pub leaves_the_procedure : Want → Bool → Option ValueType → Bool
leaves_the_procedure (Returns wanted) settled own = settled && where_there own escapes
leaves_the_procedure _ settled own = false

abbrev pub is_no_result : Want → Bool → Option ValueType → Bool
is_no_result (Returns wanted) settled own = settled && where_there own (λ t. not (fits wanted (reference_of t)))
is_no_result _ settled own = false

abbrev pub reference_rows : Want → Bool → Option ValueType → List (ℕ × Bool)
reference_rows want settled own =
    (35, is_in_another_region want settled own) ∷ (36, only_reads want settled own) ∷ (37, leads_elsewhere want settled own)
    ∷ (38, leaves_the_procedure want settled own) ∷ (39, is_no_result want settled own) ∷ []

-- those of a form, before and after rules 18 and 20
abbrev pub rows : (before : List (ℕ × Bool)) → Want → Bool → Option ValueType → (after : List (ℕ × Bool)) → List (ℕ × Bool)
rows before want settled own after = before ++ (wanted_rows want settled own ++ (after ++ reference_rows want settled own))

-- the least of them
abbrev pub node_rule : (before : Option ℕ) → Want → Bool → Option ValueType → (after : Option ℕ) → Option ℕ
node_rule before want settled own after = either before (either (least (wanted_rows want settled own)) (either after (least (reference_rows want settled own))))

-- ---- the forms

-- names, lengths and bit data that are not there
abbrev pub one_row : ℕ → Bool → List (ℕ × Bool)
one_row k broken = (k, broken) ∷ []

abbrev pub literal_rows : Option ValueType → ℤ → List (ℕ × Bool)
literal_rows wanted value = (19, where_there wanted (λ t. not (holds t value))) ∷ []

abbrev pub cast_rows : Bool → Option ValueType → List (ℕ × Bool)
cast_rows settled own = (27, settled && where_there own (λ t. not (is_integer t || is_index_type t))) ∷ []

abbrev pub index_rows : Option ValueType → List (ℕ × Bool)
index_rows own = (28, where_there own (λ t. not (is_integer t))) ∷ []

abbrev pub raw_rows : Option ValueType → List (ℕ × Bool)
raw_rows own = (29, where_there own (λ t. not (is_bit_data t))) ∷ []

abbrev pub set_rows : Earlier → Option ValueType → Word → List (ℕ × Bool)
set_rows earlier own field = (25, where_there own (λ t. is_bit_data t && not (is_some (field_type earlier t field)))) ∷ (29, where_there own (λ t. not (is_bit_data t))) ∷ []

-- what is read by `*` is one stored value
abbrev pub is_misread : PrefixOp → Option ValueType → Bool
is_misread Deref own = where_there own (λ t. not (stores t))
is_misread _ own = false

abbrev pub prefix_rows : PrefixOp → (operand own : Option ValueType) → List (ℕ × Bool)
prefix_rows op operand own = (22, is_arithmetic op && where_there operand (λ t. not (prefix_is_for op t))) ∷ (23, is_misread op own) ∷ []

abbrev pub differ : (first second : Bool) → (of_first of_second : Option ValueType) → Bool
differ first second of_first of_second = first && second && where_both of_first of_second (λ t u. not (same_type t u))

abbrev pub binary_rows : BinOp → (first second : Bool) → (of_first of_second operand : Option ValueType) → List (ℕ × Bool)
binary_rows op first second of_first of_second operand = (21, differ first second of_first of_second) ∷ (22, not (is_logic op) && where_there operand (λ t. not (is_for op t))) ∷ []

abbrev pub field_rows : Earlier → Option ValueType → Word → List (ℕ × Bool)
field_rows earlier own field = (24, where_there own (λ t. not (has_fields t))) ∷ (25, where_there own (λ t. has_fields t && not (is_some (field_type earlier t field)))) ∷ []

abbrev pub element_rows : Option ValueType → List (ℕ × Bool)
element_rows own = (26, where_there own (λ t. not (is_some (length_behind t)))) ∷ []

abbrev pub cond_rows : (first second : Bool) → (of_first of_second own : Option ValueType) → List (ℕ × Bool)
cond_rows first second of_first of_second own = (21, differ first second of_first of_second) ∷ (30, where_there own is_reference) ∷ []
