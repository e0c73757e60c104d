-- How great the numbers of an area are: no more cells than bytes, and no more nodes than cells at each level.
use Rattle.std.proofs.Common.{◌≡◌, ℕ, ◌+◌, ◌*◌, ◌≤◌, List, length, Option, Some, None, IsTrue, arith, ap, sym, refl, subst}
use Rattle.std.specs.Prelude.{max, nat_le}
use Rattle.std.specs.Option.{option_map}
use Rattle.std.proofs.lemmas.List.{length-map}
use Rattle.std.proofs.Math.Nat.{mul-le-mul_left}
use Rattle.iv_words.specs.declared.IntKind.{IntKind}
use Rattle.type_trees.specs.Trees.{Leaf, Many, Struct, End, Field, count, count_row, nodes, nodes_row, levels, levels_row, part, first}
use Rattle.type_trees.specs.Layouts.{size}
use Rattle.type_trees.proofs.Scalars.{count_size}
use Rattle.type_trees.proofs.Parts.{count_within}
use Rattle.area_types.specs.Syntax.{Area}
use Rattle.area_types.specs.View.{struct_of}
use Rattle.area_types.specs.Trees.{Written, WrittenRow, area_in, cell_at}
use Rattle.area_types.specs.Extents.{capped, capped_cell_at}
use Rattle.area_types.specs.Tables.{Table, structs_of, written_out, is_made_of, is_small, is_area, is_table}
use Rattle.area_types.specs.Sizes.{metric}
use Rattle.area_types.proofs.Extents.{bytes_some}
use Rattle.area_types.proofs.Capped.{capped_below}
use Rattle.area_types.proofs.Sound.{Sound, SoundRow, sound_area}
use Rattle.area_types.proofs.Truths.{both, is_at_most}

product_some : (m n : ℕ) → 1 ≤ m → 1 ≤ n → 1 ≤ m * n
product_some m n h k = omega (arith, mul-le-mul_left m k)

count_some : (words : ℕ) (a : Written) → Sound words a → 1 ≤ count a
count_some words (Leaf held) h = omega arith
count_some words (Many n a) h = product_some n (count a) h.0 (count_some words a h.1)
count_some words (Struct k End) h = absurd h
count_some words (Struct k (Field x a fields)) h = omega (arith, count_some words a h.0)

mutual
  pub nodes_count : (words : ℕ) (a : Written) → Sound words a → nodes a ≤ count a * (levels a + 1)
  nodes_count words (Leaf held) h = omega arith
  nodes_count words (Many n a) h = omega (arith, mul-le-mul_left n (nodes_count words a h.1), count_some words (Many n a) h)
  nodes_count words (Struct k End) h = absurd h
  nodes_count words (Struct k (Field x a fields)) h = omega (arith, row_count words (Field x a fields) h, count_some words a h.0)

  row_count : (words : ℕ) (fields : WrittenRow) → SoundRow words fields → nodes_row fields ≤ count_row fields * (levels_row fields + 1)
  row_count words End h = omega arith
  row_count words (Field x a fields) h =
      let m : ℕ = max (levels a) (levels_row fields) in
      let first : count a * (levels a + 1) ≤ count a * (m + 1) = mul-le-mul_left (count a) (omega arith) in
      let rest : count_row fields * (levels_row fields + 1) ≤ count_row fields * (m + 1) = mul-le-mul_left (count_row fields) (omega arith) in
      omega (arith, first, rest, nodes_count words a h.0, row_count words fields h.1)

-- ---- areas of a table

small_size : (words : List IntKind) (a : Written) → IsTrue (is_small words a) → size (metric words) a ≤ 65_535
small_size words a h = is_at_most (size (metric words) a) 65_535 (both _ _ h).0

small_levels : (words : List IntKind) (a : Written) → IsTrue (is_small words a) → levels a ≤ 32
small_levels words a h = is_at_most (levels a) 32 (both (nat_le (size (metric words) a) 65_535) _ h).1

pub area_cells : (t : Table) (a : Area) → IsTrue (is_area t a) → count (written_out t a) ≤ 65_535
area_cells t a h =
    let small = (both (is_made_of (length t.structs) (length t.words) a) (is_small t.words (written_out t a)) h).1 in
    omega (arith, count_size (metric t.words) (bytes_some t.words) (written_out t a), small_size t.words (written_out t a) small)

pub area_nodes : (t : Table) (a : Area) → IsTrue (is_table (structs_of t) t.words) → IsTrue (is_area t a) → nodes (written_out t a) ≤ 65_535 * 33
area_nodes t a h k =
    let parts = both (is_made_of (length t.structs) (length t.words) a) (is_small t.words (written_out t a)) k in
    let made : IsTrue (is_made_of (length (structs_of t)) (length t.words) a) = subst (λ n. IsTrue (is_made_of n (length t.words) a)) (sym (length-map t.structs struct_of)) parts.0 in
    let sound = sound_area (structs_of t) t.words a h made in
    let l : count (written_out t a) * (levels (written_out t a) + 1) ≤ count (written_out t a) * 33 =
    mul-le-mul_left (count (written_out t a)) (omega (arith, small_levels t.words (written_out t a) parts.1)) in
    omega (arith, l, area_cells t a k, nodes_count (length t.words) (written_out t a) sound)

pub cells_exact : (t : Table) (a : Area) → IsTrue (is_area t a) → capped (count (written_out t a)) ≡ count (written_out t a)
cells_exact t a h = capped_below (count (written_out t a)) (omega (arith, area_cells t a h))

pub nodes_exact : (t : Table) (a : Area) → IsTrue (is_table (structs_of t) t.words) → IsTrue (is_area t a) → capped (nodes (written_out t a)) ≡ nodes (written_out t a)
nodes_exact t a h k = capped_below (nodes (written_out t a)) (omega (arith, area_nodes t a h k))

pub cell_exact : (t : Table) (a : Area) (path : List ℕ) → IsTrue (is_area t a) → capped_cell_at (written_out t a) path ≡ cell_at (written_out t a) path
cell_exact t a path h = go (part (written_out t a) path) refl
  where
    go : (o : Option Written) → part (written_out t a) path ≡ o
        → option_map {U = ℕ × Area} (λ b. (capped (first (written_out t a) path), area_in b)) o ≡ option_map {U = ℕ × Area} (λ b. (first (written_out t a) path, area_in b)) o
    go None e = refl
    go (Some b) e = ap (λ (n : ℕ). let found : ℕ × Area = (n, area_in b) in Some found) (capped_below (first (written_out t a) path) (omega (arith, area_cells t a h, count_within (written_out t a) path b e)))
