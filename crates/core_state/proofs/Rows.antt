-- Rows of parts as lists: the part at a place, and another put there.
use Rattle.std.proofs.Common.{◌≡◌, ℕ, zero, suc, ◌<◌, ◌≤◌, ℤ, List, [], ◌∷◌, ◌++◌, length, map, get_or, Some, None, refl, ap, sym, ◌∙◌, arith, append_assoc, append-nil}
use Rattle.std.specs.Prelude.{slice_get}
use Rattle.std.specs.Option.{option_map}
use Rattle.std.proofs.lemmas.Option.{slice_get_read, slice_get-map}
use Rattle.std.proofs.Math.ListN.{set}
use Rattle.std.proofs.lemmas.List.{map-set}
use Rattle.type_trees.specs.Trees.{part, part_row}
use Rattle.type_trees.specs.Values.{Value, Cons, cells, cells_row, at, at_row, put, put_row}
use Rattle.area_types.specs.Trees as trees
use Rattle.core_state.specs.declared.held.Held.{Held}
use Rattle.core_state.specs.Types.{fields_from, row_of, held_of}

pub none_at : (vs : List (Value ℤ)) (i : ℕ) (path : List ℕ) → slice_get vs i ≡ None → at_row (row_of vs) i path ≡ None
none_at [] i path h = refl
none_at (v ∷ vs) zero path h = let no : ⊥ = cc h in absurd no
none_at (v ∷ vs) (suc i) path h = none_at vs i path h

pub some_at : (vs : List (Value ℤ)) (i : ℕ) (path : List ℕ) (v : Value ℤ) → slice_get vs i ≡ Some v → at_row (row_of vs) i path ≡ at v path
some_at [] i path v h = let no : ⊥ = cc h in absurd no
some_at (u ∷ vs) zero path v h = let e : u ≡ v = cc h in ap (λ x. at x path) e
some_at (u ∷ vs) (suc i) path v h = some_at vs i path v h

pub no_field : (i : ℕ) (types : List trees.Written) (k : ℕ) (path : List ℕ) → slice_get types k ≡ None → part_row (fields_from i types) k path ≡ None
no_field i [] k path h = refl
no_field i (a ∷ types) zero path h = let no : ⊥ = cc h in absurd no
no_field i (a ∷ types) (suc k) path h = no_field (suc i) types k path h

pub some_field : (i : ℕ) (types : List trees.Written) (k : ℕ) (path : List ℕ) (a : trees.Written) → slice_get types k ≡ Some a → part_row (fields_from i types) k path ≡ part a path
some_field i [] k path a h = let no : ⊥ = cc h in absurd no
some_field i (b ∷ types) zero path a h = let e : b ≡ a = cc h in ap (λ x. part x path) e
some_field i (b ∷ types) (suc k) path a h = some_field (suc i) types k path a h

pub cells_more : (vs : List (Value ℤ)) (v : Value ℤ) → cells_row (row_of (vs ++ v ∷ [])) ≡ cells_row (row_of vs) ++ cells v
cells_more [] v = append-nil (cells v)
cells_more (u ∷ vs) v = ap (λ x. cells u ++ x) (cells_more vs v) ∙ sym (append_assoc (cells u) (cells_row (row_of vs)) (cells v))

-- a value put at a place of the list is put at that place of the row
pub put_there : (vs : List (Value ℤ)) (i : ℕ) (path : List ℕ) (v w : Value ℤ) → slice_get vs i ≡ Some v → put_row (row_of vs) i path w ≡ row_of (set vs i (put v path w))
put_there [] i path v w h = let no : ⊥ = cc h in absurd no
put_there (u ∷ vs) zero path v w h = let e : u ≡ v = cc h in ap (λ x. Cons (put x path w) (row_of vs)) e
put_there (u ∷ vs) (suc i) path v w h = ap (Cons u) (put_there vs i path v w h)

pub put_nowhere : (vs : List (Value ℤ)) (i : ℕ) (path : List ℕ) (w : Value ℤ) → length vs ≤ i → put_row (row_of vs) i path w ≡ row_of vs
put_nowhere [] i path w h = refl
put_nowhere (u ∷ vs) zero path w h = absurd (omega arith)
put_nowhere (u ∷ vs) (suc i) path w h = ap (Cons u) (put_nowhere vs i path w (omega arith))

pub set_twice : {A : Type 0} (xs : List A) (i : ℕ) (x y : A) → set (set xs i x) i y ≡ set xs i y
set_twice [] i x y = refl
set_twice (z ∷ xs) zero x y = refl
set_twice (z ∷ xs) (suc i) x y = ap (λ ys. z ∷ ys) (set_twice xs i x y)

-- what is put into a part of one of the parts
pub put_among : (items : List Held) (i : ℕ) (path : List ℕ) (w : Value ℤ) (part cell new : Held) → i < length items → part ≡ get_or items i part → held_of new ≡ put (held_of part) path w → put_row (row_of (map held_of items)) i path w ≡ row_of (map held_of (set (set items i cell) i new))
put_among items i path w part cell new h is e =
    put_there (map held_of items) i path (held_of part) w (slice_get-map held_of items i ∙ ap (option_map held_of) (slice_get_read items (length items) i part refl h is))
    ∙ ap row_of (ap (set (map held_of items) i) (sym e) ∙ sym (map-set held_of items i new) ∙ ap (map held_of) (sym (set_twice items i cell new)))
