-- Each form of expression: what it gives, with how many steps and no fewer, and where its check fails.
use Rattle.std.specs.Prelude.{◌≡◌, ℕ, suc, ℤ, pos, neg_ℤ, false, List, [], ◌∷◌, Some, None}
use Rattle.iv_words.specs.declared.IntKind.TheVariants.{U8, I8}
use Rattle.run_records.specs.declared.Reason.TheVariants.{Dead}
use Rattle.step_semantics.specs.Steps.{World, FailedCheck, NoMeaning, Finished, Halted, Exhausted}
use Rattle.type_trees.specs.Trees.{Leaf, Many, Struct, End, Field as Member}
use Rattle.ivory_tree.specs.declared.BinOp.TheVariants.{OrElse, AndAlso, Eq, Lt, Add}
use Rattle.ivory_tree.specs.declared.PrefixOp.TheVariants.{Neg, Not, Flip}
use Rattle.area_types.specs.Syntax.{ValueType, Truth, Int, Ix, Bits, Ref, Stored, Array}
use Rattle.area_types.specs.Syntax as syntax
use Rattle.area_types.specs.Trees.{Written}
use Rattle.area_types.specs.declared.region.Region.TheVariants.{Global}
use Rattle.core_tree.specs.declared.Check.{Check}
use Rattle.core_tree.specs.declared.SiteKind.TheVariants.{Overflow, Index, Cast as CastSite}
use Rattle.core_tree.specs.Syntax.{ModuleCore, ExprCore, Number, Outcome, Cast, ToIndex, WrapIndex, MakeBits, Raw, SetField, Prefix, Field, Element, Cond, Whole}
use Rattle.core_meaning.specs.Values.{Value, Num, Ref as Refers}
use Rattle.core_meaning.specs.Areas.{Live, filled}
use Rattle.core_meaning.specs.State.{State}
use Rattle.core_meaning.specs.Expressions.{eval}
use Rattle.core_meaning.specs.ExampleForms.{plain, site, with_checks, constant, local, read, with_op, module_of}
use Rattle.core_meaning.specs.DriverExamples.{ctrl_layout}

-- a module with the bit data `Ctrl`, and nothing else
abbrev pub core : ModuleCore
core = record (module_of [] [] []) { layouts = ctrl_layout ∷ [] }

abbrev pub u8 : ValueType
u8 = Int U8

-- a struct of a byte and an array of two
abbrev pub written : Written
written = Struct 0 (Member 0 (Leaf u8) (Member 1 (Many 2 (Leaf u8)) End))

-- it holds 1, 2 and 3; there are a name for it, and one for 200
abbrev pub here : State
here = record {
  areas = Live (record { ty = written; constant = false; held = filled written (pos 1 ∷ pos 2 ∷ pos 3 ∷ []) }) ∷ [];
  frames = record { own = record { names = (0, Refers 0 []) ∷ (1, Num (pos 200)) ∷ []; first = 1 }; callers = [] };
}

-- for no step
pub record Is (e : ExprCore) (v : Value) : Type 0 where
  pub ends : (w : World) → eval core None e 0 w here ≡ Finished v w here 0

-- for one step more than these, and no fewer
pub record Comes (e : ExprCore) (steps : ℕ) (v : Value) : Type 0 where
  pub waits : (w : World) → eval core None e steps w here ≡ Exhausted w
  pub ends : (w : World) → eval core None e (suc steps) w here ≡ Finished v w here 0

-- no valid module has it: it has no meaning, already without a step
pub record Formless (e : ExprCore) : Type 0 where
  pub ends : (w : World) → eval core None e 0 w here ≡ Halted (NoMeaning Dead) w []

-- its check fails after as many
pub record Stops (e : ExprCore) (steps : ℕ) (at : ℕ) : Type 0 where
  pub waits : (w : World) → eval core None e steps w here ≡ Exhausted w
  pub stops : (w : World) → eval core None e (suc steps) w here ≡ Halted (FailedCheck at) w []

-- a literal of int8_t
abbrev pub small : ℤ → ExprCore
small v = Number (plain (Int I8)) v

-- a name of the struct, its fields, and an element of the second
abbrev pub whole : ExprCore
whole = local (Ref false Global (syntax.Struct 0)) 0

abbrev pub byte : ExprCore
byte = Field (plain (Ref false Global (Stored u8))) whole 0

abbrev pub row : ExprCore
row = Field (plain (Ref false Global (Array 2 (Stored u8)))) whole 1

abbrev pub element : ExprCore
element = Element (plain (Ref false Global (Stored u8))) row (constant (Ix 2) 1)

pub record NameExamples : Type 0 where
  pub literal : Is (small (neg_ℤ (pos 5))) (Num (neg_ℤ (pos 5)))
  pub name : Is (local u8 1) (Num (pos 200))
  pub reference : Is whole (Refers 0 [])
  pub result : (w : World) → eval core (Some (Num (pos 7))) (Outcome (plain u8)) 0 w here ≡ Finished (Num (pos 7)) w here 0
  pub field : Comes byte 0 (Refers 0 (0 ∷ []))
  pub array : Comes row 0 (Refers 0 (1 ∷ []))
  pub of_the_array : Comes element 1 (Refers 0 (1 ∷ 1 ∷ []))
  pub behind : Comes (read u8 element) 2 (Num (pos 3))
  pub all_of_it : Comes (Whole (plain u8) (read u8 byte)) 1 (Num (pos 1))

-- `Ctrl` with the word 11: enable is 1, mode 5, level 0
abbrev pub word : ExprCore
word = MakeBits (plain (Bits 0)) (constant u8 11)

abbrev pub with_field : List Check → ℕ → ℕ → ExprCore
with_field checks field v = SetField (with_checks (Bits 0) checks) word field (constant u8 v)

pub record BitExamples : Type 0 where
  pub made : Comes word 0 (Num (pos 11))
  pub unmade : Comes (Raw (plain u8) word) 1 (Num (pos 11))
  pub truth : Comes (Field (plain Truth) word 0) 1 (Num (pos 1))
  pub mode : Comes (Field (plain u8) word 1) 1 (Num (pos 5))
  pub level : Comes (Field (plain u8) word 2) 1 (Num (pos 0))
  pub changed : Comes (with_field (site 4 CastSite ∷ []) 2 2) 1 (Num (pos 43))
  pub too_wide : Stops (with_field (site 4 CastSite ∷ []) 2 16) 1 4
  pub cleared : Comes (with_field [] 0 0) 1 (Num (pos 10))

abbrev pub cast : ExprCore → ExprCore
cast e = Cast (with_checks (Int I8) (site 5 CastSite ∷ [])) e

abbrev pub index : ExprCore → ExprCore
index e = ToIndex (with_checks (Ix 4) (site 6 Index ∷ [])) e

abbrev pub wrap : ExprCore → ExprCore
wrap e = WrapIndex (plain (Ix 4)) e

pub record ConversionExamples : Type 0 where
  pub fits : Comes (cast (constant u8 127)) 0 (Num (pos 127))
  pub too_great : Stops (cast (local u8 1)) 0 5
  pub inside : Comes (index (constant u8 3)) 0 (Num (pos 3))
  pub outside : Stops (index (constant u8 4)) 0 6
  pub negative : Stops (index (small (neg_ℤ (pos 1)))) 0 6
  pub wrapped : Comes (wrap (constant u8 6)) 0 (Num (pos 2))
  pub wrapped_up : Comes (wrap (small (neg_ℤ (pos 1)))) 0 (Num (pos 3))

abbrev pub minus : ExprCore → ExprCore
minus e = Prefix (with_checks (Int I8) (site 7 Overflow ∷ [])) Neg e

abbrev pub yes_ : ExprCore
yes_ = constant Truth 1

abbrev pub no_ : ExprCore
no_ = constant Truth 0

-- a truth that takes a step
abbrev pub slow : ExprCore
slow = with_op Truth [] Lt (constant u8 3) (local u8 1)

pub record PrefixExamples : Type 0 where
  pub negative : Comes (minus (small (pos 127))) 0 (Num (neg_ℤ (pos 127)))
  pub too_great : Stops (minus (small (neg_ℤ (pos 128)))) 0 7
  pub flipped : Comes (Prefix (plain u8) Flip (local u8 1)) 0 (Num (pos 55))
  pub denied : Comes (Prefix (plain Truth) Not no_) 0 (Num (pos 1))
  -- each of `&&` and `||` takes its step before its right operand, and with it what that takes
  pub and_false : Comes (with_op Truth [] AndAlso no_ slow) 0 (Num (pos 0))
  pub and_true : Comes (with_op Truth [] AndAlso yes_ slow) 1 (Num (pos 1))
  pub or_true : Comes (with_op Truth [] OrElse yes_ slow) 0 (Num (pos 1))
  pub or_false : Comes (with_op Truth [] OrElse no_ slow) 1 (Num (pos 1))
  pub chain : Comes (with_op Truth [] AndAlso (with_op Truth [] AndAlso no_ slow) slow) 1 (Num (pos 0))
  -- one arm of `?:` is evaluated
  pub first : Comes (Cond (plain u8) slow (constant u8 1) (read u8 byte)) 1 (Num (pos 1))
  pub second : Comes (Cond (plain u8) no_ (constant u8 2) (read u8 byte)) 2 (Num (pos 1))

pub record FormExamples : Type 0 where
  -- the check that it would stop at is missing, or is of another kind
  pub unchecked : Formless (Cast (plain (Int I8)) (local u8 1))
  pub otherwise_checked : Formless (Cast (with_checks (Int I8) (site 5 Index ∷ [])) (local u8 1))
  pub not_needed : Comes (Cast (plain (Int I8)) (constant u8 127)) 0 (Num (pos 127))
  -- a type is not the form's
  pub cast_to_index : Formless (Cast (plain (Ix 4)) (constant u8 1))
  pub number_for_index : Formless (ToIndex (plain u8) (constant u8 1))
  pub number_wrapped : Formless (WrapIndex (plain u8) (constant u8 1))
  pub field_of_number : Formless (Field (plain u8) (constant u8 11) 0)
  pub number_set : Formless (SetField (plain u8) (constant u8 11) 0 (constant u8 1))
  -- indices are compared, and truths are so for equality alone
  pub sum_of_indices : Formless (with_op (Ix 4) [] Add (constant (Ix 4) 1) (constant (Ix 4) 1))
  pub order_of_indices : Comes (with_op Truth [] Lt (constant (Ix 4) 1) (constant (Ix 4) 2)) 0 (Num (pos 1))
  pub order_of_truths : Formless (with_op Truth [] Lt no_ yes_)
  pub equal_truths : Comes (with_op Truth [] Eq no_ no_) 0 (Num (pos 1))
