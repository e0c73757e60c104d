-- Small cases of the tables of types and operators.
use Rattle.std.specs.Prelude.{◌≡◌, true, false, pos, negsuc, [], ◌∷◌, Some, None, codes}
use Rattle.iv_words.specs.declared.IntKind.TheVariants.{U8, U16, I8}
use Rattle.ivory_tree.specs.Syntax.{Prefix, Binary, RefType}
use Rattle.ivory_tree.specs.declared.expr.BinOp.TheVariants.{And, Eq, Lt, Add}
use Rattle.ivory_tree.specs.declared.expr.PrefixOp.TheVariants.{Neg, Not}
use Rattle.ivory_tree.specs.declared.types.RegionText.TheVariants as region
use Rattle.area_types.specs.Syntax.{Truth, Int, Ix, Bits, Ref, Stored, Array}
use Rattle.area_types.specs.declared.region.Region.TheVariants.{Param, Own}
use Rattle.source_types.specs.Short.{span, name, cell, byte_in_r, variable, number, param}
use Rattle.source_types.specs.Settled.{settled}
use Rattle.source_types.specs.Values.{holds, least_unsigned, same_type}
use Rattle.source_types.specs.Operators.{is_for}
use Rattle.source_types.specs.Environments.{nothing_earlier}
use Rattle.source_types.specs.Written.{regions_of, type_in}
use Rattle.source_types.specs.Parts.{element_type, stored_type}

-- `-(5) + 3` is unsettled; `x + 3`, `5 == 3` and `!5` are settled
abbrev pub LiteralsAreUnsettled : Type 0
LiteralsAreUnsettled = settled (Binary (span 0 8) Add (span 5 6) (Prefix (span 0 4) Neg (number 5 2 3)) (number 3 7 8)) ≡ false

abbrev pub OneSettlesBoth : Type 0
OneSettlesBoth = settled (Binary (span 0 5) Add (span 2 3) (number 3 0 1) (variable (codes "x") 4 5)) ≡ true

abbrev pub TruthsAreSettled : Type 0
TruthsAreSettled = (settled (Binary (span 0 6) Eq (span 2 4) (number 5 0 1) (number 3 5 6)) ≡ true) × (settled (Prefix (span 0 2) Not (number 5 1 2)) ≡ true)

-- int8_t holds -128 and not 128; ix(4) holds 3 and not 4; a bool holds no literal
abbrev pub TypesHoldLiterals : Type 0
TypesHoldLiterals = (holds (Int I8) (negsuc 127) ≡ true) × (holds (Int I8) (pos 128) ≡ false) × (holds (Ix 4) (pos 3) ≡ true) × (holds (Ix 4) (pos 4) ≡ false) × (holds Truth (pos 1) ≡ false)

-- 8 bits have uint8_t, 9 have uint16_t
abbrev pub FieldsHaveTheLeastType : Type 0
FieldsHaveTheLeastType = (least_unsigned 8 ≡ U8) × (least_unsigned 9 ≡ U16)

-- `&` is for unsigned types, `==` for bool and `<` not, `+` for no index
abbrev pub OperatorsHaveTypes : Type 0
OperatorsHaveTypes = (is_for And (Int U8) ≡ true) × (is_for And (Int I8) ≡ false) × (is_for Eq Truth ≡ true) × (is_for Lt Truth ≡ false) × (is_for Add (Ix 4) ≡ false) × (is_for Eq (Bits 0) ≡ false)

-- region parameters are numbered as they first occur, and a result has one of them
abbrev pub RegionsAreNumbered : Type 0
RegionsAreNumbered = type_in nothing_earlier (regions_of (param (name (codes "a") 0 1) (RefType (span 4 17) false (region.Named (codes "s")) (cell 10 17)) 0 17 ∷ param (name (codes "b") 19 20) (byte_in_r 23 36 29) 19 36 ∷ [])) (byte_in_r 41 54 47)
    ≡ Some (Ref false (Param 1) (Stored (Int U8)))

abbrev pub RegionsAreOfParameters : Type 0
RegionsAreOfParameters = type_in nothing_earlier [] (byte_in_r 0 13 6) ≡ None

-- an element of a const array is const, and in the same region
abbrev pub PartsKeepTheFlag : Type 0
PartsKeepTheFlag = (element_type (Ref true Own (Array 4 (Stored Truth))) ≡ Some (Ref true Own (Stored Truth))) × (stored_type (Ref true Own (Stored Truth)) ≡ Some Truth)

-- a const reference is another type than a mutable one
abbrev pub FlagsDiffer : Type 0
FlagsDiffer = same_type (Ref true Own (Stored Truth)) (Ref false Own (Stored Truth)) ≡ false
