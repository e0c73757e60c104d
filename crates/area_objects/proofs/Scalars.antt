-- Each number of a stored type is one of its scalar's.
use Rattle.std.proofs.Common.{◌≤◌, ℕ, zero, suc, nat_le, ℤ, slice_get, unwrap_or, Option, Some, None, false, IsTrue, sym, subst, arith}
use Rattle.std.proofs.lemmas.Int.{ints}
use Rattle.iv_words.specs.declared.IntKind.{IntKind}
use Rattle.iv_words.specs.declared.IntKind.TheVariants.{U8}
use Rattle.iv_words.specs.Kinds.{in_range, in_range_of}
use Rattle.index_types.specs.Indices.{is_index}
use Rattle.type_trees.specs.Trees.{Leaf, Many, Struct, End, Field}
use Rattle.type_trees.specs.Values.{Cell, Parts, Values, Nil, Cons, EachOf, Fits, FitsRow}
use Rattle.area_types.specs.Syntax as types
use Rattle.area_types.specs.Syntax.{ValueType}
use Rattle.area_types.specs.Tables.{Table}
use Rattle.area_types.specs.Trees.{Written, WrittenRow}
use Rattle.area_types.proofs.Truths.{both, is_at_most}
use Rattle.core_tree.specs.Types.{is_word, is_value}
use Rattle.c_ast.specs.Targets.{TargetTable}
use Rattle.core_meaning.specs.Areas.{Held}
use Rattle.area_objects.specs.Shapes.{Naming}
use Rattle.area_objects.specs.Holds.{CanHold}
use Rattle.area_objects.specs.Scalars.{NumbersCanBeHeld, IndicesSmall, IndicesSmallIn, NamesScalars, ValuesCanBeHeld}

truth_in_range : (n : ℤ) → IsTrue (is_index 2 n) → IsTrue (in_range_of 1 false n)
truth_in_range n h = grind (arith, ints, h)

index_in_range : (k : ℕ) (n : ℤ) → k ≤ 65_535 → IsTrue (is_index k n) → IsTrue (in_range_of 16 false n)
index_in_range k n low h = grind (arith, ints, low, h)

word_in_range : (word : Option IntKind) (n : ℤ) → IsTrue (is_word word n) → IsTrue (in_range (unwrap_or word U8) n)
word_in_range None n h = absurd (cc)
word_in_range (Some word) n h = h

pub numbers_can_be_held : NumbersCanBeHeld
numbers_can_be_held t table types.Truth n small h = truth_in_range n h
numbers_can_be_held t table (types.Int kind) n small h = h
numbers_can_be_held t table (types.Ix k) n small h = index_in_range k n (is_at_most k 65_535 (both (nat_le 1 k) (nat_le k 65_535) small).1) h
numbers_can_be_held t table (types.Bits k) n small h = word_in_range (slice_get table.words k) n h
numbers_can_be_held t table (types.Ref constant region target) n small h = absurd (cc)

each_held : (P Q : Held → Type 0) (n : ℕ) (vs : Values ℤ) → ((v : Held) → P v → Q v) → EachOf n P vs → EachOf n Q vs
each_held P Q zero Nil h e = tt
each_held P Q zero (Cons v vs) h e = absurd e
each_held P Q (suc n) Nil h e = absurd e
each_held P Q (suc n) (Cons v vs) h e = (h v e.0, each_held P Q n vs h e.1)

module _ (t : TargetTable) (table : Table) (g : Naming) (scalars : NamesScalars table g) where
  abbrev Source : ValueType → ℤ → Type 0
  Source s n = IsTrue (is_value table s n)

  abbrev Target : ValueType → ℤ → Type 0
  Target s n = CanHold t (g.scalar s) n

  mutual
    value_held : (ty : Written) (held : Held) → IndicesSmall ty → Fits Source ty held → Fits Target ty held
    value_held (Leaf s) (Cell n) small h = subst (λ k. CanHold t k n) (sym (scalars s n h)) (numbers_can_be_held t table s n small h)
    value_held (Leaf s) (Parts vs) small h = absurd h
    value_held (Many n a) (Cell x) small h = absurd h
    value_held (Many n a) (Parts vs) small h = each_held (Fits Source a) (Fits Target a) n vs (λ v e. value_held a v small e) h
    value_held (Struct k r) (Cell x) small h = absurd h
    value_held (Struct k r) (Parts vs) small h = row_held r vs small h

    row_held : (r : WrittenRow) (vs : Values ℤ) → IndicesSmallIn r → FitsRow Source r vs → FitsRow Target r vs
    row_held End Nil small h = tt
    row_held End (Cons v vs) small h = absurd h
    row_held (Field f a r) Nil small h = absurd h
    row_held (Field f a r) (Cons v vs) small h = (value_held a v small.0 h.0, row_held r vs small.1 h.1)

pub values_can_be_held : ValuesCanBeHeld
values_can_be_held t table g ty held scalars small h = value_held t table g scalars ty held small h
