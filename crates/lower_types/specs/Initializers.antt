-- First values in C. What is zero throughout is `{0}`, or `0` for a scalar. Else all braces are written, the elements of an array up to
-- the last that is not zero, but at least one, and each field of a struct: C makes the elements that are left out zero.
use Rattle.std.specs.Prelude.{ℕ, zero, suc, ◌*◌, ℤ, pos, Bool, true, false, ◌&&◌, if◌then◌else◌, nat_eq, List, [], ◌∷◌, take, drop, get_or}
use Rattle.std.specs.Ordering.{int_eq}
use Rattle.type_trees.specs.Trees.{Leaf, Many as Repeated, Struct, End, Field, count}
use Rattle.area_types.specs.Trees.{Written, WrittenRow}
use Rattle.c_ast.specs.declared.Suffix.TheVariants.{Plain}
use Rattle.c_ast.specs.Syntax.{Expr, Number, Init, One, Zero, Many, Inits, NoInits, MoreInits}
use Rattle.lower_types.specs.Constants.{number_for}

-- ---- braces

abbrev pub is_zero : Expr → Bool
is_zero (Number n Plain) = nat_eq n 0
is_zero _ = false

-- `{0}` is the initializer of everything that is zero
abbrev pub braced : Inits → Init
braced (MoreInits (One e) NoInits) = if is_zero e then Zero else Many (MoreInits (One e) NoInits)
braced is = Many is

-- of an array type, which is a struct of one member
abbrev pub braced_array : Inits → Init
braced_array is = braced (MoreInits (braced is) NoInits)

abbrev pub zero_init : Written → Init
zero_init (Leaf held) = One (Number 0 Plain)
zero_init (Repeated n a) = Zero
zero_init (Struct k fields) = Zero

-- ---- numbers

abbrev pub all_zero : List ℤ → Bool
all_zero [] = true
all_zero (v ∷ vs) = int_eq v (pos 0) && all_zero vs

-- at most n elements of so many cells each, while one is left that is not zero
abbrev pub elements : ℕ → (cells : ℕ) → (List ℤ → Init) → List ℤ → Inits
elements zero cells one vs = NoInits
elements (suc n) cells one vs = MoreInits (one vs) (if all_zero (drop cells vs) then NoInits else elements n cells one (drop cells vs))

-- numbers, one for each cell, with all braces
abbrev mutual
  pub filled : Written → List ℤ → Init
  filled (Leaf held) vs = One (number_for (get_or vs 0 (pos 0)))
  filled (Repeated n a) vs = braced_array (elements n (count a) (filled a) (take (n * count a) vs))
  filled (Struct k fields) vs = braced (filled_row fields vs)

  pub filled_row : WrittenRow → List ℤ → Inits
  filled_row End vs = NoInits
  filled_row (Field f a fields) vs = MoreInits (filled a vs) (filled_row fields (drop (count a) vs))

abbrev pub first_init : Written → List ℤ → Init
first_init ty vs = if all_zero vs then zero_init ty else filled ty vs

-- a part that is zero, within other braces
abbrev pub zero_part : Written → Init
zero_part ty = filled ty []
