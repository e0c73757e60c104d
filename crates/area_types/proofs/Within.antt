-- The parts of an area of a table are areas of it.
use Rattle.std.proofs.Common.{◌≡◌, ℕ, zero, suc, ◌≤◌, List, [], ◌∷◌, ◌++◌, length, Option, Some, None, Result, Ok, Err, IfOk, IsTrue, ap, sym, ◌∙◌, refl, subst, arith, length-append}
use Rattle.std.specs.Prelude.{slice_get, unwrap_or, get_or, nat_le, IfSome}
use Rattle.std.specs.List.{list_all}
use Rattle.std.specs.Option.{option_map}
use Rattle.std.proofs.lemmas.Bool.{le-leb}
use Rattle.std.proofs.lemmas.List.{length-map}
use Rattle.std.proofs.lemmas.Option.{slice_get-get_or, slice_get_within}
use Rattle.iv_words.specs.declared.IntKind.{IntKind}
use Rattle.type_trees.specs.Trees.{Leaf, Many, Struct, End, Field, levels, part, part_row, first}
use Rattle.type_trees.specs.Layouts.{size}
use Rattle.type_trees.proofs.Windows.{within}
use Rattle.type_trees.proofs.Parts.{inside, levels_within}
use Rattle.area_types.specs.Syntax as syntax
use Rattle.area_types.specs.Syntax.{Area, StructType}
use Rattle.area_types.specs.View.{area_of, struct_of, found_of}
use Rattle.area_types.specs.Trees.{Written, WrittenRow, tree_of, fields_from, fields_of, trees_from, trees_of, area_in, cell_at}
use Rattle.area_types.specs.Sizes.{metric}
use Rattle.area_types.specs.Tables.{Table, structs_of, written_out, is_length, is_stored, is_made_of, is_field, has_index_lengths, is_small, is_area, fits_after, fit_after, is_table}
use Rattle.area_types.specs.Laws.{PartsAreAreas}
use Rattle.area_types.specs.declared.area.Area.{Area as AreaTree}
use Rattle.area_types.proofs.Truths.{both, also, is_below, below_is, is_at_most}
use Rattle.area_types.proofs.Written.{trees_kept, get_last}
use Rattle.area_types.proofs.Sound.{fitting, length-trees_of}

-- the structs in a tree are those of the final list, each at its number
module _ (words : ℕ) (final : List Written) where
  abbrev mutual
    Placed : Written → Type 0
    Placed (Leaf held) = IsTrue (is_stored words held)
    Placed (Many n a) = IsTrue (is_length n) × Placed a
    Placed (Struct k fields) = (slice_get final k ≡ Some (Struct k fields)) × PlacedRow fields

    PlacedRow : WrittenRow → Type 0
    PlacedRow End = Unit {0}
    PlacedRow (Field x a fields) = Placed a × PlacedRow fields

  abbrev PlacedTrees : List Written → Type 0
  PlacedTrees [] = Unit {0}
  PlacedTrees (a ∷ trees) = Placed a × PlacedTrees trees

  placed_made : (b : Written) → Placed b → IsTrue (is_made_of (length final) words (area_in b))
  placed_made (Leaf held) p = p
  placed_made (Many n a) p = also (is_length n) (is_made_of (length final) words (area_in a)) p.0 (placed_made a p.1)
  placed_made (Struct k fields) p = below_is k (length final) (slice_get_within final k (Struct k fields) p.0)

  placed_same : (b : Written) → Placed b → tree_of final (area_in b) ≡ b
  placed_same (Leaf held) p = refl
  placed_same (Many n a) p = ap (Many n) (placed_same a p.1)
  placed_same (Struct k fields) p = ap (λ o. unwrap_or o (Struct k End)) p.0

  mutual
    placed_part : (a : Written) (path : List ℕ) (b : Written) → Placed a → part a path ≡ Some b → Placed b
    placed_part a [] b p h = let same : a ≡ b = cc in subst Placed same p
    placed_part (Leaf held) (i ∷ path) b p h = absurd (cc)
    placed_part (Many n a) (i ∷ path) b p h = placed_part a path b p.1 (within n i a path b h).rest
    placed_part (Struct k fields) (i ∷ path) b p h = placed_row fields i path b p.1 h

    placed_row : (fields : WrittenRow) (i : ℕ) (path : List ℕ) (b : Written) → PlacedRow fields → part_row fields i path ≡ Some b → Placed b
    placed_row End i path b p h = absurd (cc)
    placed_row (Field x a fields) zero path b p h = placed_part a path b p.0 h
    placed_row (Field x a fields) (suc i) path b p h = placed_row fields i path b p.1 h

  placed_at : (trees : List Written) (k : ℕ) (a : Written) → PlacedTrees trees → slice_get trees k ≡ Some a → Placed a
  placed_at [] k a p h = absurd (cc)
  placed_at (b ∷ trees) zero a p h = let same : b ≡ a = cc in subst Placed same p.0
  placed_at (b ∷ trees) (suc k) a p h = placed_at trees k a p.1 h

  placed_last : (trees : List Written) (a : Written) → PlacedTrees trees → Placed a → PlacedTrees (trees ++ a ∷ [])
  placed_last [] a p h = (h, tt)
  placed_last (b ∷ trees) a p h = (p.0, placed_last trees a p.1 h)

  placed_tree : (trees : List Written) → PlacedTrees trees → (a : Area) → IsTrue (is_made_of (length trees) words a) → Placed (tree_of trees a)
  placed_tree trees p (syntax.Stored held) h = h
  placed_tree trees p (syntax.Array n a) h = let parts = both (is_length n) (is_made_of (length trees) words a) h in (parts.0, placed_tree trees p a parts.1)
  placed_tree trees p (syntax.Struct k) h =
      let e = slice_get-get_or trees k (Struct k End) (is_below k (length trees) h) in
      subst Placed (sym (ap (λ o. unwrap_or o (Struct k End)) e)) (placed_at trees k (get_or trees k (Struct k End)) p e)

  placed_fields : (i : ℕ) (trees : List Written) → PlacedTrees trees → (fs : List syntax.Field) → IsTrue (list_all (is_field (length trees) words) fs) → PlacedRow (fields_from i trees fs)
  placed_fields i trees p [] h = tt
  placed_fields i trees p (f ∷ fs) h =
      let parts = both (is_field (length trees) words f) (list_all (is_field (length trees) words) fs) h in
      (placed_tree trees p f.area (both (is_made_of (length trees) words f.area) (has_index_lengths f.area) parts.0).0, placed_fields (suc i) trees p fs parts.1)

placed_table : (words : List IntKind) (final : List Written) (more done : List StructType) (trees : List Written) → length done ≡ length trees → PlacedTrees (length words) final trees
    → trees_from trees more ≡ final → IsTrue (fit_after done words more) → PlacedTrees (length words) final final
placed_table words final [] done trees n p e h = subst (PlacedTrees (length words) final) e p
placed_table words final (s ∷ more) done trees n p e h =
    let parts = both (fits_after done words s) (fit_after (done ++ s ∷ []) words more) h in
    let fits : IsTrue (list_all (is_field (length trees) (length words)) s.fields) = subst (λ m. IsTrue (list_all (is_field m (length words)) s.fields)) n (fitting done words s parts.0).fields in
    let here : Written = Struct (length trees) (fields_of trees s.fields) in
    let at : slice_get final (length trees) ≡ Some here = ap (λ ts. slice_get ts (length trees)) (sym e) ∙ trees_kept more (trees ++ here ∷ []) (length trees) here (get_last trees here (length trees) refl) in
    placed_table words final more (done ++ s ∷ []) (trees ++ here ∷ []) (omega (arith, n, length-append done (s ∷ []), length-append trees (here ∷ [])))
    (placed_last (length words) final trees here p (at, placed_fields (length words) final 0 trees p s.fields fits)) e parts.1

-- ---- a part is no larger

at_most_is : (m n : ℕ) → m ≤ n → IsTrue (nat_le m n)
at_most_is m n h = le-leb m n h

small_part : (words : List IntKind) (a : Written) (path : List ℕ) (b : Written) → part a path ≡ Some b → IsTrue (is_small words a) → IsTrue (is_small words b)
small_part words a path b h s =
    let m = metric words in
    let parts = both (nat_le (size m a) 65_535) (nat_le (levels a) 32) s in
    also (nat_le (size m b) 65_535) (nat_le (levels b) 32)
    (at_most_is (size m b) 65_535 (omega (arith, inside m a path b h, is_at_most (size m a) 65_535 parts.0)))
    (at_most_is (levels b) 32 (omega (arith, levels_within a path b h, is_at_most (levels a) 32 parts.1)))

pub parts_are_areas : PartsAreAreas
parts_are_areas t table a area path b h =
    let structs = structs_of t in
    let n : length t.structs ≡ length (trees_of structs) = sym (length-trees_of structs ∙ length-map t.structs struct_of) in
    let parts = both (is_made_of (length t.structs) (length t.words) a) (is_small t.words (written_out t a)) area in
    let all = placed_table t.words (trees_of structs) structs [] [] refl tt refl table in
    let made : IsTrue (is_made_of (length (trees_of structs)) (length t.words) a) = subst (λ m. IsTrue (is_made_of m (length t.words) a)) n parts.0 in
    let placed = placed_part (length t.words) (trees_of structs) (written_out t a) path b (placed_tree (length t.words) (trees_of structs) (trees_of structs) all a made) h in
    let same : written_out t (area_in b) ≡ b = placed_same (length t.words) (trees_of structs) b placed in (
      also (is_made_of (length t.structs) (length t.words) (area_in b)) (is_small t.words (written_out t (area_in b)))
          (subst (λ m. IsTrue (is_made_of m (length t.words) (area_in b))) (sym n) (placed_made (length t.words) (trees_of structs) b placed))
          (subst (λ c. IsTrue (is_small t.words c)) (sym same) (small_part t.words (written_out t a) path b h parts.1)),
      same,
    )

-- the area that a path leads to
pub found_area : (t : Table) (a : Area) (path : List ℕ) → IsTrue (is_table (structs_of t) t.words) → IsTrue (is_area t a) → (found : Option (ℕ × AreaTree))
    → option_map found_of found ≡ cell_at (written_out t a) path → IfSome found (λ f. IsTrue (is_area t (area_of f.1)))
found_area t a path table area None e = tt
found_area t a path table area (Some f) e = go (part (written_out t a) path) refl e
  where
    go : (o : Option Written) → part (written_out t a) path ≡ o → Some (found_of f) ≡ option_map {U = ℕ × Area} (λ b. (first (written_out t a) path, area_in b)) o → IsTrue (is_area t (area_of f.1))
    go None h e = absurd (cc)
    go (Some b) h e =
        let pairs : (first (written_out t a) path, area_in b) ≡ found_of f = cc in
        subst (λ c. IsTrue (is_area t c)) (ap (λ (p : ℕ × Area). p.1) pairs) (parts_are_areas t table a area path b h).0

pub if_ok_more : {A E : Type 0} (P Q : A → Type 0) (r : Result A E) → ((x : A) → P x → Q x) → IfOk r P → IfOk r Q
if_ok_more P Q (Ok x) f h = f x h
if_ok_more P Q (Err e) f h = tt
