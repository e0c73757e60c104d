-- An object that holds an area holds its value in the form of its C type; and what does not touch the objects of live areas keeps a memory alike
-- to them.
use Rattle.std.proofs.Common.{◌≡◌, ℕ, ◌≤◌, ℤ, List, [], ◌∷◌, length, map, Some, false, refl, sym, ◌∙◌, ap, subst, arith}
use Rattle.type_trees.specs.Trees.{Leaf, part}
use Rattle.type_trees.specs.Layouts.{Metric}
use Rattle.type_trees.specs.Values.{Cell, cells, at}
use Rattle.type_trees.proofs.Values.{lens}
use Rattle.area_types.specs.Syntax.{ValueType}
use Rattle.area_types.specs.Trees.{Written}
use Rattle.c_memory.specs.Abstract.{Operations, Same}
use Rattle.c_memory.specs.Holds.{Holds}
use Rattle.c_ast.specs.declared.CScalar.{CScalar}
use Rattle.c_ast.specs.Syntax.{Name}
use Rattle.core_meaning.specs.Areas.{Held, Area, Areas}
use Rattle.area_objects.specs.Shapes.{Naming, shape}
use Rattle.area_objects.specs.Holds.{CellsFit, HoldsArea}
use Rattle.area_objects.specs.Both.{Map, LiveIn, Both}
use Rattle.area_objects.proofs.Values.{c_value, cells_c, fits_c}

pub map_same : (xs : List ℤ) → map (λ n. n) xs ≡ xs
map_same [] = refl
map_same (x ∷ xs) = ap (λ l. x ∷ l) (map_same xs)

-- ---- values that fit

module _ (Can : CScalar → ℤ → Type 0) (g : Naming) where
  pub part_fits : (ty : Written) (p : List ℕ) (b : Written) (v u : Held) → CellsFit Can g ty v → part ty p ≡ Some b → at v p ≡ Some u → CellsFit Can g b u
  part_fits ty p b v u fits leads is =
      let l = lens (λ (s : ValueType) (n : ℤ). Can (g.scalar s) n) ty p b v leads fits in
      let same : l.value ≡ u = (let e : at v p ≡ Some l.value = l.is in cc) in
      subst (λ x. CellsFit Can g b x) same l.fits

  pub cell_fits : (ty : Written) (p : List ℕ) (s : ValueType) (v : Held) (n : ℤ) → CellsFit Can g ty v → part ty p ≡ Some (Leaf s) → at v p ≡ Some (Cell n) → Can (g.scalar s) n
  cell_fits ty p s v n fits leads is = part_fits ty p (Leaf s) v (Cell n) fits leads is

-- ---- objects

module _ (m : Metric CScalar) (Can : CScalar → ℤ → Type 0) (M : Operations CScalar Name ℤ) (g : Naming) where
  pub as_value : (mem : M.Memory) (o : ℕ) (a : Area) → HoldsArea Can M g mem o a → Holds Can (λ n. n) M mem o a.constant (shape g a.ty) (c_value a.ty a.held)
  as_value mem o a h = record {
    fits = fits_c Can g a.ty a.held h.fits;
    shows = subst (λ us. M.Shows mem o a.constant (shape g a.ty) (map (λ n. Some n) us)) (sym (cells_c a.ty a.held)) h.shows;
  }

  -- one that may be written
  pub as_mutable : (mem : M.Memory) (o : ℕ) (a : Area) → a.constant ≡ false → HoldsArea Can M g mem o a → Holds Can (λ n. n) M mem o false (shape g a.ty) (c_value a.ty a.held)
  as_mutable mem o a e h = subst (λ c. Holds Can (λ n. n) M mem o c (shape g a.ty) (c_value a.ty a.held)) e (as_value mem o a h)

  pub stays : (mem new : M.Memory) (o : ℕ) (a : Area) → Same m M mem new o → HoldsArea Can M g mem o a → HoldsArea Can M g new o a
  stays mem new o a same h = record { fits = h.fits; shows = same.shows a.constant (shape g a.ty) (map (λ n. Some n) (cells a.held)) h.shows }

  pub itself : (mem : M.Memory) (o : ℕ) → Same m M mem mem o
  itself mem o = record { live = refl; reads = λ x. refl; refuses = λ x. refl; shows = λ c a us h. h }

  -- fewer live areas, whose objects have not changed
  pub both_kept : (objects : Map) (areas later : Areas) (mem new : M.Memory) → Both Can M g objects areas mem → length later ≡ length areas → M.count mem ≤ M.count new
      → ((k o : ℕ) (a : Area) → LiveIn objects later k o a → LiveIn objects areas k o a × Same m M mem new o) → Both Can M g objects later new
  both_kept objects areas later mem new both many more kept = record {
    many = both.many ∙ sym many;
    made = λ k o e. omega (arith, both.made k o e, more);
    apart = both.apart;
    holds = λ k o a l. (let q = kept k o a l in stays mem new o a q.1 (both.holds k o a q.0));
  }
