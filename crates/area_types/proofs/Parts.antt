-- Parts of areas and their first cells.
use Rattle.std.proofs.Common.{◌≡◌, ℕ, zero, suc, ◌+◌, ◌*◌, ◌≤◌, ◌<◌, List, [], ◌∷◌, length, take, if◌then◌else◌, Option, Some, None, ap, sym, ◌∙◌, refl, arith}
use Rattle.std.specs.Prelude.{slice_get}
use Rattle.std.specs.Option.{option_map}
use Rattle.std.proofs.lemmas.Bool.{lt-ltb, le-ltb}
use Rattle.type_trees.specs.Trees.{Many, Struct, count, count_row, part, part_row, first, first_row}
use Rattle.area_types.specs.Syntax as syntax
use Rattle.area_types.specs.Syntax.{Area, StructType}
use Rattle.area_types.specs.Trees.{Written, tree_of, fields_from, fields_of, trees_of, area_in}
use Rattle.area_types.specs.Extents.{capped, behind, capped_cell_at}
use Rattle.area_types.proofs.Capped.{capped_sum, capped_product}
use Rattle.area_types.proofs.Written.{struct_found, struct_missing, none_past}

pub no_steps : (path : List ℕ) → length path ≡ 0 → path ≡ []
no_steps [] h = refl
no_steps (i ∷ path) h = absurd (omega arith)

-- an area written out is still that area
pub area_written : (ss : List StructType) (a : Area) → area_in (tree_of (trees_of ss) a) ≡ a
area_written ss (syntax.Stored held) = refl
area_written ss (syntax.Array n a) = ap (syntax.Array n) (area_written ss a)
area_written ss (syntax.Struct k) = go (slice_get ss k) refl
  where
    go : (o : Option StructType) → slice_get ss k ≡ o → area_in (tree_of (trees_of ss) (syntax.Struct k)) ≡ syntax.Struct k
    go (Some s) e = ap area_in (struct_found ss k s e)
    go None e = ap area_in (struct_missing ss k (none_past ss k e))

-- ---- fields

module _ (trees : List Written) (path : List ℕ) where
  part_found : (j : ℕ) (fs : List syntax.Field) (i : ℕ) (f : syntax.Field) → slice_get fs i ≡ Some f → part_row (fields_from j trees fs) i path ≡ part (tree_of trees f.area) path
  part_found j [] i f h = absurd (cc)
  part_found j (g ∷ fs) zero f h = let e : g ≡ f = cc in ap (λ (x : syntax.Field). part (tree_of trees x.area) path) e
  part_found j (g ∷ fs) (suc i) f h = part_found (suc j) fs i f h

  part_missing : (j : ℕ) (fs : List syntax.Field) (i : ℕ) → slice_get fs i ≡ None → part_row (fields_from j trees fs) i path ≡ None
  part_missing j [] i h = refl
  part_missing j (g ∷ fs) zero h = absurd (cc)
  part_missing j (g ∷ fs) (suc i) h = part_missing (suc j) fs i h

  first_found : (j : ℕ) (fs : List syntax.Field) (i : ℕ) (f : syntax.Field) → slice_get fs i ≡ Some f
      → first_row (fields_from j trees fs) i path ≡ count_row (fields_from j trees (take i fs)) + first (tree_of trees f.area) path
  first_found j [] i f h = absurd (cc)
  first_found j (g ∷ fs) zero f h = let e : g ≡ f = cc in let same = ap (λ (x : syntax.Field). first (tree_of trees x.area) path) e in omega arith
  first_found j (g ∷ fs) (suc i) f h = omega (arith, first_found (suc j) fs i f h)

-- ---- parts, with numbers that stop

many_cells : (i c f : ℕ) → capped (capped (i * capped c) + capped f) ≡ capped (i * c + f)
many_cells i c f = ap (λ x. capped (x + capped f)) (capped_product i c) ∙ capped_sum (i * c) f

abbrev at : Written → ℕ → Option Written → Option (ℕ × Area)
at a n o = option_map {U = ℕ × Area} (λ b. (capped n, area_in b)) o

pub many_part : (n : ℕ) (a : Written) (i : ℕ) (path : List ℕ) → i < n → behind (capped (i * capped (count a))) (capped_cell_at a path) ≡ capped_cell_at (Many n a) (i ∷ path)
many_part n a i path h = go (part a path) ∙ ap (λ b. at a (i * count a + first a path) (if b then part a path else None)) (sym (lt-ltb i n h))
  where
    go : (o : Option Written) → behind (capped (i * capped (count a))) (at a (first a path) o) ≡ at a (i * count a + first a path) o
    go None = refl
    go (Some b) = ap (λ (m : ℕ). let found : ℕ × Area = (m, area_in b) in Some found) (many_cells i (count a) (first a path))

pub many_past : (n : ℕ) (a : Written) (i : ℕ) (path : List ℕ) → n ≤ i → capped_cell_at (Many n a) (i ∷ path) ≡ None
many_past n a i path h = ap (λ b. at a (i * count a + first a path) (if b then part a path else None)) (le-ltb i n h)

pub fields_part : (k : ℕ) (trees : List Written) (fs : List syntax.Field) (i : ℕ) (f : syntax.Field) (path : List ℕ) → slice_get fs i ≡ Some f
    → behind (capped (count_row (fields_of trees (take i fs)))) (capped_cell_at (tree_of trees f.area) path) ≡ capped_cell_at (Struct k (fields_of trees fs)) (i ∷ path)
fields_part k trees fs i f path h =
    let a : Written = tree_of trees f.area in
    go a (part a path)
    ∙ ap (at a (count_row (fields_of trees (take i fs)) + first a path)) (sym (part_found trees path 0 fs i f h))
    ∙ ap (λ n. at a n (part_row (fields_of trees fs) i path)) (sym (first_found trees path 0 fs i f h))
  where
    go : (a : Written) (o : Option Written) → behind (capped (count_row (fields_of trees (take i fs)))) (at a (first a path) o) ≡ at a (count_row (fields_of trees (take i fs)) + first a path) o
    go a None = refl
    go a (Some b) = ap (λ (m : ℕ). let found : ℕ × Area = (m, area_in b) in Some found) (capped_sum (count_row (fields_of trees (take i fs))) (first a path))

pub fields_past : (k : ℕ) (trees : List Written) (fs : List syntax.Field) (i : ℕ) (path : List ℕ) → slice_get fs i ≡ None → capped_cell_at (Struct k (fields_of trees fs)) (i ∷ path) ≡ None
fields_past k trees fs i path h = ap (option_map {U = ℕ × Area} (λ b. (capped (first_row (fields_of trees fs) i path), area_in b))) (part_missing trees path 0 fs i h)
