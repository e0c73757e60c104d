-- Types of operands that are no references'.
use Rattle.std.proofs.Common.{◌≡◌, ℤ, Bool, true, false, ◌||◌, if◌then◌else◌, Some, None, IsTrue, refl, ap, ◌∙◌}
use Rattle.int_ops.specs.declared.Op.{Op}
use Rattle.bit_data.specs.declared.FieldBits.{FieldBits}
use Rattle.area_types.specs.Syntax as types
use Rattle.area_types.specs.Syntax.{ValueType}
use Rattle.region_check.specs.Calls.{reference_of}
use Rattle.source_types.specs.Values.{is_integer, is_index_type, least_unsigned}
use Rattle.core_tree.specs.Operators.{field_type}
use Rattle.core_meaning.specs.Checks.{Answer}
use Rattle.core_meaning.specs.Answers.{operation, prefix_operation}

pub number_plain : (ty : ValueType) → IsTrue (is_integer ty || is_index_type ty) → reference_of ty ≡ None
number_plain types.Truth h = refl
number_plain (types.Int kind) h = refl
number_plain (types.Ix n) h = refl
number_plain (types.Bits k) h = refl
number_plain (types.Ref c r a) h = let no : ⊥ = cc in absurd no

pub operation_plain : (o : Op) (ty : ValueType) (answer : ℤ → ℤ → Answer) → operation o ty ≡ Some answer → reference_of ty ≡ None
operation_plain o types.Truth answer h = refl
operation_plain o (types.Int kind) answer h = refl
operation_plain o (types.Ix n) answer h = refl
operation_plain o (types.Bits k) answer h = refl
operation_plain o (types.Ref c r a) answer h = let no : ⊥ = cc in absurd no

pub prefix_plain : (o : Op) (ty : ValueType) (answer : ℤ → Answer) → prefix_operation o ty ≡ Some answer → reference_of ty ≡ None
prefix_plain o types.Truth answer h = refl
prefix_plain o (types.Int kind) answer h = refl
prefix_plain o (types.Ix n) answer h = refl
prefix_plain o (types.Bits k) answer h = refl
prefix_plain o (types.Ref c r a) answer h = let no : ⊥ = cc in absurd no

pub same_plain : (given ty : ValueType) → given ≡ ty → reference_of ty ≡ None → reference_of given ≡ None
same_plain given ty e h = ap reference_of e ∙ h

pub field_plain : (f : FieldBits) → reference_of (field_type f) ≡ None
field_plain f = go f.truth
  where
    go : (b : Bool) → reference_of (if b then types.Truth else types.Int (least_unsigned f.width)) ≡ None
    go true = refl
    go false = refl
