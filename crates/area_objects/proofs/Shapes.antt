-- The C type of an area has the area's parts, each at the C path, and as many scalars; and a path behind another leads on from there.
use Rattle.std.proofs.Common.{◌≡◌, ℕ, zero, suc, ◌+◌, ◌*◌, List, [], ◌∷◌, ◌++◌, map, Some, None, if◌then◌else◌, refl, sym, ◌∙◌, ap, arith, append-nil}
use Rattle.std.proofs.lemmas.List.{map-append}
use Rattle.std.proofs.lemmas.Bool.{lt-ltb}
use Rattle.type_trees.specs.Trees.{Leaf, Many, Struct, End, Field, repeated, scalars, scalars_row, count, count_row, part, part_row}
use Rattle.type_trees.specs.Layouts.{Metric, align, size, offset}
use Rattle.type_trees.proofs.Multiples.{up_none}
use Rattle.type_trees.proofs.Paths.{offset_append}
use Rattle.type_trees.proofs.Windows.{within}
use Rattle.area_types.specs.Syntax.{ValueType}
use Rattle.area_types.specs.Trees.{Written, WrittenRow}
use Rattle.c_ast.specs.declared.CScalar.{CScalar}
use Rattle.area_objects.specs.Shapes.{Naming, shape, members, c_path, c_path_row, place}

-- each of a row that is repeated
map_repeated : (f : ValueType → CScalar) (n : ℕ) (xs : List ValueType) → map f (repeated n xs) ≡ repeated n (map f xs)
map_repeated f zero xs = refl
map_repeated f (suc n) xs = map-append f xs (repeated n xs) ∙ ap (λ l. map f xs ++ l) (map_repeated f n xs)

module _ (g : Naming) where
  mutual
    -- the scalars in order are those of the cells
    pub scalars_shape : (a : Written) → scalars (shape g a) ≡ map g.scalar (scalars a)
    scalars_shape (Leaf s) = refl
    scalars_shape (Many n a) = append-nil (repeated n (scalars (shape g a))) ∙ ap (repeated n) (scalars_shape a) ∙ sym (map_repeated g.scalar n (scalars a))
    scalars_shape (Struct k r) = scalars_members r k

    scalars_members : (r : WrittenRow) (k : ℕ) → scalars_row (members g r k) ≡ map g.scalar (scalars_row r)
    scalars_members End k = refl
    scalars_members (Field f a r) k =
        ap (λ l. l ++ scalars_row (members g r k)) (scalars_shape a) ∙ ap (λ l. map g.scalar (scalars a) ++ l) (scalars_members r k) ∙ sym (map-append g.scalar (scalars a) (scalars_row r))

  mutual
    pub count_shape : (a : Written) → count (shape g a) ≡ count a
    count_shape (Leaf s) = refl
    count_shape (Many n a) = omega (arith, ap (λ x. n * x) (count_shape a))
    count_shape (Struct k r) = count_members r k

    count_members : (r : WrittenRow) (k : ℕ) → count_row (members g r k) ≡ count_row r
    count_members End k = refl
    count_members (Field f a r) k = omega (arith, count_shape a, count_members r k)

  mutual
    pub part_shape : (a : Written) (p : List ℕ) (b : Written) → part a p ≡ Some b → part (shape g a) (c_path a p) ≡ Some (shape g b)
    part_shape a [] b h = (let e : a ≡ b = cc in ap (λ x. Some (shape g x)) e)
    part_shape (Leaf s) (i ∷ p) b h = absurd (cc)
    part_shape (Many n a) (i ∷ p) b h =
        let w = within n i a p b h in
        ap (λ x. if x then part (shape g a) (c_path a p) else None) (lt-ltb i n w.low) ∙ part_shape a p b w.rest
    part_shape (Struct k r) (i ∷ p) b h = part_members r k i p b h

    part_members : (r : WrittenRow) (k i : ℕ) (p : List ℕ) (b : Written) → part_row r i p ≡ Some b → part_row (members g r k) i (c_path_row r i p) ≡ Some (shape g b)
    part_members End k i p b h = absurd (cc)
    part_members (Field f a r) k zero p b h = part_shape a p b h
    part_members (Field f a r) k (suc i) p b h = part_members r k i p b h

mutual
  pub c_path_append : (a : Written) (p q : List ℕ) (b : Written) → part a p ≡ Some b → c_path a (p ++ q) ≡ c_path a p ++ c_path b q
  c_path_append a [] q b h = (let e : a ≡ b = cc in ap (λ x. c_path x q) e)
  c_path_append (Leaf s) (i ∷ p) q b h = absurd (cc)
  c_path_append (Many n a) (i ∷ p) q b h = ap (λ l. 0 ∷ i ∷ l) (c_path_append a p q b (within n i a p b h).rest)
  c_path_append (Struct k r) (i ∷ p) q b h = ap (λ l. i ∷ l) (c_path_row_append r i p q b h)

  c_path_row_append : (r : WrittenRow) (i : ℕ) (p q : List ℕ) (b : Written) → part_row r i p ≡ Some b → c_path_row r i (p ++ q) ≡ c_path_row r i p ++ c_path b q
  c_path_row_append End i p q b h = absurd (cc)
  c_path_row_append (Field f a r) zero p q b h = c_path_append a p q b h
  c_path_row_append (Field f a r) (suc i) p q b h = c_path_row_append r i p q b h

module _ (m : Metric CScalar) (g : Naming) where
  pub place_append : (a : Written) (p q : List ℕ) (b : Written) → part a p ≡ Some b → place m g a (p ++ q) ≡ place m g a p + place m g b q
  place_append a p q b h = ap (offset m (shape g a)) (c_path_append a p q b h) ∙ offset_append m (shape g a) (c_path a p) (c_path b q) (shape g b) (part_shape g a p b h)

  -- an element of an array stands at a multiple of the element's size
  pub place_element : (n i : ℕ) (a : Written) → place m g (Many n a) (i ∷ []) ≡ i * size m (shape g a)
  place_element n i a = omega (arith, up_none (align m (shape g a)))
