-- The numbers of an area from those of its parts.
use Rattle.std.proofs.Common.{◌≡◌, ℕ, suc, ◌+◌, ◌*◌, ◌≤◌, List, [], ◌∷◌, ◌++◌, ap, sym, ◌∙◌, refl, arith, Some, None, Option, lit<}
use Rattle.std.specs.Prelude.{max, slice_get, nat_le, ◌&&◌}
use Rattle.std.specs.Option.{option_map_or}
use Rattle.iv_words.specs.declared.IntKind.{IntKind}
use Rattle.iv_words.specs.Kinds.{kind_bytes}
use Rattle.iv_words.proofs.Widths.{width_least}
use Rattle.type_trees.specs.Multiples.{up}
use Rattle.type_trees.specs.Trees.{Many, Struct, count, count_row, nodes, nodes_row, levels, levels_row}
use Rattle.type_trees.specs.Layouts.{Metric, align, align_row, size, end_row}
use Rattle.type_trees.proofs.Layouts.{align_some}
use Rattle.area_types.specs.Syntax as syntax
use Rattle.area_types.specs.Syntax.{ValueType}
use Rattle.area_types.specs.Trees.{Written, WrittenRow, tree_of, fields_from, fields_of}
use Rattle.area_types.specs.Sizes.{bytes, metric}
use Rattle.area_types.specs.Tables.{is_small}
use Rattle.area_types.specs.Extents.{capped, extent_of, row_extent, times, with_field, enclosed}
use Rattle.area_types.proofs.Capped.{capped_sum, capped_more, capped_product, capped_max, capped_up, at_most_capped}

-- ---- alignments are at least 1

kind_bytes_some : (k : IntKind) → 1 ≤ kind_bytes k
kind_bytes_some k = omega (arith, width_least k)

word_bytes_some : (o : Option IntKind) → 1 ≤ option_map_or kind_bytes o 1
word_bytes_some (Some k) = kind_bytes_some k
word_bytes_some None = omega arith

pub bytes_some : (words : List IntKind) (t : ValueType) → 1 ≤ bytes words t
bytes_some words syntax.Truth = omega arith
bytes_some words (syntax.Int k) = kind_bytes_some k
bytes_some words (syntax.Ix n) = omega arith
bytes_some words (syntax.Bits k) = word_bytes_some (slice_get words k)
bytes_some words (syntax.Ref c r a) = omega arith

pub alignment_some : (words : List IntKind) (a : Written) → 1 ≤ align (metric words) a
alignment_some words a = align_some (metric words) (bytes_some words) a

-- ---- the numbers of each form

module _ (words : List IntKind) where
  pub many_extent : (n : ℕ) (a : Written) → times (extent_of words a) n ≡ extent_of words (Many n a)
  many_extent n a =
      let c : capped (n * capped (count a)) ≡ capped (count (Many n a)) = capped_product n (count a) in
      let m : capped (1 + capped (n * capped (nodes a))) ≡ capped (nodes (Many n a)) = ap (λ x. capped (1 + x)) (capped_product n (nodes a)) ∙ capped_more 1 (n * nodes a) in
      let s : capped (n * capped (size (metric words) a)) ≡ capped (size (metric words) (Many n a)) = capped_product n (size (metric words) a) in
      let l : capped (1 + capped (levels a)) ≡ capped (levels (Many n a)) = capped_more 1 (levels a) in
      cc

  pub row_enclosed : (k : ℕ) (fields : WrittenRow) → enclosed (row_extent words fields) ≡ extent_of words (Struct k fields)
  row_enclosed k fields =
      let m : capped (1 + capped (nodes_row fields)) ≡ capped (nodes (Struct k fields)) = capped_more 1 (nodes_row fields) in
      let s : capped (up (capped (end_row (metric words) fields 0)) (align_row (metric words) fields)) ≡ capped (size (metric words) (Struct k fields)) =
      capped_up (end_row (metric words) fields 0) (align_row (metric words) fields) in
      let l : capped (1 + capped (levels_row fields)) ≡ capped (levels (Struct k fields)) = capped_more 1 (levels_row fields) in
      cc

  -- a row with one more field
  module _ (trees : List Written) (f : syntax.Field) where
    abbrev a : Written
    a = tree_of trees f.area

    abbrev after : (i : ℕ) → List syntax.Field → WrittenRow
    after i fs = fields_from i trees (fs ++ f ∷ [])

    count_after : (i : ℕ) (fs : List syntax.Field) → count_row (after i fs) ≡ count_row (fields_from i trees fs) + count a
    count_after i [] = omega arith
    count_after i (g ∷ fs) = omega (arith, count_after (suc i) fs)

    nodes_after : (i : ℕ) (fs : List syntax.Field) → nodes_row (after i fs) ≡ nodes_row (fields_from i trees fs) + nodes a
    nodes_after i [] = omega arith
    nodes_after i (g ∷ fs) = omega (arith, nodes_after (suc i) fs)

    end_after : (i : ℕ) (fs : List syntax.Field) (o : ℕ) → end_row (metric words) (after i fs) o ≡ up (end_row (metric words) (fields_from i trees fs) o) (align (metric words) a) + size (metric words) a
    end_after i [] o = refl
    end_after i (g ∷ fs) o = end_after (suc i) fs (up o (align (metric words) (tree_of trees g.area)) + size (metric words) (tree_of trees g.area))

    alignment_after : (i : ℕ) (fs : List syntax.Field) → align_row (metric words) (after i fs) ≡ max (align_row (metric words) (fields_from i trees fs)) (align (metric words) a)
    alignment_after i [] = omega (arith, alignment_some words a)
    alignment_after i (g ∷ fs) = omega (arith, alignment_after (suc i) fs)

    levels_after : (i : ℕ) (fs : List syntax.Field) → levels_row (after i fs) ≡ max (levels_row (fields_from i trees fs)) (levels a)
    levels_after i [] = omega arith
    levels_after i (g ∷ fs) = omega (arith, levels_after (suc i) fs)

    pub row_after : (fs : List syntax.Field) → with_field (row_extent words (fields_of trees fs)) (extent_of words a) ≡ row_extent words (fields_of trees (fs ++ f ∷ []))
    row_after fs =
        let m : Metric ValueType = metric words in
        let fields : WrittenRow = fields_of trees fs in
        let c : capped (capped (count_row fields) + capped (count a)) ≡ capped (count_row (after 0 fs)) = capped_sum (count_row fields) (count a) ∙ ap capped (sym (count_after 0 fs)) in
        let n : capped (capped (nodes_row fields) + capped (nodes a)) ≡ capped (nodes_row (after 0 fs)) = capped_sum (nodes_row fields) (nodes a) ∙ ap capped (sym (nodes_after 0 fs)) in
        let s : capped (capped (up (capped (end_row m fields 0)) (align m a)) + capped (size m a)) ≡ capped (end_row m (after 0 fs) 0) =
        ap (λ x. capped (x + capped (size m a))) (capped_up (end_row m fields 0) (align m a))
        ∙ capped_sum (up (end_row m fields 0) (align m a)) (size m a) ∙ ap capped (sym (end_after 0 fs 0)) in
        let b : max (align_row m fields) (align m a) ≡ align_row m (after 0 fs) = sym (alignment_after 0 fs) in
        let l : max (capped (levels_row fields)) (capped (levels a)) ≡ capped (levels_row (after 0 fs)) = capped_max (levels_row fields) (levels a) ∙ ap capped (sym (levels_after 0 fs)) in
        cc

-- the limits are far below where the numbers stop
pub small_is : (words : List IntKind) (a : Written) → (nat_le (extent_of words a).size 65_535 && nat_le (extent_of words a).levels 32) ≡ is_small words a
small_is words a =
    let s : nat_le (capped (size (metric words) a)) 65_535 ≡ nat_le (size (metric words) a) 65_535 = at_most_capped (size (metric words) a) 65_535 (lit< tt) in
    let l : nat_le (capped (levels a)) 32 ≡ nat_le (levels a) 32 = at_most_capped (levels a) 32 (lit< tt) in
    cc
