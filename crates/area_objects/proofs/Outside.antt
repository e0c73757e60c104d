-- What the places of C read and are assigned, and what the outside sees behind pointers and of the objects of file scope.
use Rattle.std.proofs.Common.{◌≡◌, ℕ, suc, ◌+◌, List, [], ◌∷◌, map, slice_get, Some, Ok, Err, refl, sym, ◌∙◌, ap, subst, arith, if◌then◌else◌}
use Rattle.std.specs.List.{zip}
use Rattle.run_records.specs.declared.AreaCells.{AreaCells}
use Rattle.run_records.specs.declared.Piece.TheVariants as piece
use Rattle.type_trees.specs.Layouts.{Metric, lay}
use Rattle.type_trees.specs.Values.{cells}
use Rattle.area_types.specs.Tables.{Table, written_out}
use Rattle.core_tree.specs.Syntax.{AreaCore}
use Rattle.c_memory.specs.Copies.{read_each}
use Rattle.c_memory.specs.Initializers as values
use Rattle.c_ast.specs.declared.CKind.TheVariants.{Scalar}
use Rattle.c_ast.specs.declared.CScalar.{CScalar}
use Rattle.c_ast.specs.declared.CStruct.{CStruct}
use Rattle.c_ast.specs.declared.Target.{Target}
use Rattle.c_ast.specs.Names.{outer_name}
use Rattle.c_ast.specs.Scalars.{metric_of}
use Rattle.c_ast.specs.Syntax.{FileObject}
use Rattle.c_ast.specs.Targets.{table_of}
use Rattle.c_meaning.specs.Initializers.{as_number}
use Rattle.c_meaning.specs.Memory.{memory_of, nought, answered, unless_refused}
use Rattle.c_meaning.specs.Places.{of_scalar}
use Rattle.c_meaning.specs.State.{CState, shown, cells_of, seen_from}
use Rattle.c_meaning.specs.Values.{Num, Stuck, on_ok}
use Rattle.core_meaning.specs.Areas.{Area, Areas, Live}
use Rattle.core_meaning.specs.State.{seen_as}
use Rattle.area_objects.specs.Shapes.{Naming, shape, place}
use Rattle.area_objects.specs.Holds.{HoldsArea, CanHold}
use Rattle.area_objects.specs.Located.{IsType, SameGlobals}
use Rattle.area_objects.specs.PlaceLaws.{PlacesRead, PlacesAssigned, ObjectsInitialized, PointersShow, AreasSeen}
use Rattle.area_objects.proofs.Alike.{lawful_in, values_in}
use Rattle.area_objects.proofs.Kept.{map_same, as_value}
use Rattle.area_objects.proofs.Readings.{cells_read, parts_seen}
use Rattle.area_objects.proofs.Values.{c_value, cells_c}
use Rattle.area_objects.proofs.Writes.{cells_stored}

-- ---- values

pub places_read : PlacesRead
places_read t g objects areas s k o a c p x n both lives leads is =
    let m : Metric CScalar = metric_of t in
    let r = cells_read m (CanHold (table_of t)) (memory_of t) (values_in (table_of t)) g objects areas s.objects k o a p x n both lives leads is in
    ap (λ z. on_ok (answered z) (of_scalar t (g.scalar x))) r.0 ∙ ap (λ b. if b then Ok (Num (Scalar (g.scalar x)) n) else Err Stuck) r.1

pub places_assigned : PlacesAssigned
places_assigned t g objects areas s k o a c p x v n both lives mutable leads number fits =
    let m : Metric CScalar = metric_of t in
    let at : ℕ × CScalar = (place m g a.ty p, g.scalar x) in
    let r = cells_stored m (CanHold (table_of t)) (memory_of t) (lawful_in (table_of t)) (values_in (table_of t)) g objects areas s.objects k o a p x n both lives mutable leads fits in (
      r.1,
      ap (λ z. unless_refused z (on_ok (as_number t (g.scalar x) v) (λ q. answered ((memory_of t).write s.objects o at q)))) r.0
          ∙ ap (λ z. on_ok z (λ q. answered ((memory_of t).write s.objects o at q))) number
          ∙ ap answered r.1.is,
    )

pub objects_initialized : ObjectsInitialized
objects_initialized t g ty held c mem given numbers are gives =
    ap (λ z. on_ok z (λ q. Ok ((memory_of t).initialize mem (shape g ty) c (cells (values.initial nought (shape g ty) q))))) are
    ∙ ap (λ vs. Ok ((memory_of t).initialize mem (shape g ty) c vs)) gives

-- ---- the outside

pub pointers_show : PointersShow
pointers_show t g structs objects areas mem k o a c d p b u typed both lives leads is =
    let m : Metric CScalar = metric_of t in
    let r = parts_seen m (CanHold (table_of t)) (memory_of t) (values_in (table_of t)) g objects areas mem k o a p b u both lives leads is in
    ap (λ e. on_ok (answered (read_each (memory_of t).read mem o (lay m e (place m g a.ty p)))) (λ q. Ok (piece.Cells q))) typed
    ∙ ap (λ z. on_ok (answered z) (λ q. Ok (piece.Cells q))) r

-- ---- the objects of file scope

module _ (t : Target) (g : Naming) (table : Table) (structs : List CStruct) (s : CState) where
  -- an area that is live, and the object of the number n holds it
  pub record ShowsAs (areas : Areas) (k n : ℕ) (x : AreaCore) : Type 0 where
    pub area : Area
    pub live : slice_get areas k ≡ Some (Live area)
    pub type : area.ty ≡ written_out table x.area
    pub holds : HoldsArea (CanHold (table_of t)) (memory_of t) g s.objects n area

  object_shows : (o : ℕ) (a : Area) → HoldsArea (CanHold (table_of t)) (memory_of t) g s.objects o a → read_each (memory_of t).read s.objects o (lay (metric_of t) (shape g a.ty) 0) ≡ Ok (cells a.held)
  object_shows o a h =
      let c = c_value a.ty a.held in
      (values_in (table_of t)).part_read s.objects o a.constant (shape g a.ty) c [] (shape g a.ty) c (as_value (metric_of t) (CanHold (table_of t)) (memory_of t) g s.objects o a h) refl refl
      ∙ ap Ok (map_same (cells c) ∙ cells_c a.ty a.held)

  one_seen : (o : ℕ) (x : AreaCore) (f : FileObject) (areas : Areas) (k : ℕ) → ShowsAs areas k o x → IsType g structs f.base (written_out table x.area) → (a : Area) → slice_get areas k ≡ Some (Live a) → cells_of t structs s o f.base ≡ cells a.held
  one_seen o x f areas k h typed a live =
      let same : h.area ≡ a = (let e : slice_get areas k ≡ Some (Live h.area) = h.live in cc) in
      ap (λ d. shown (read_each (memory_of t).read s.objects o (lay (metric_of t) d 0))) (typed ∙ ap (shape g) (sym h.type))
      ∙ ap shown (object_shows o h.area h.holds)
      ∙ ap (λ (b : Area). cells b.held) same

  all_seen : (xs : List AreaCore) (fs : List FileObject) (areas : Areas) (i : ℕ) → SameGlobals g table structs xs fs
      → ((k n : ℕ) (x : AreaCore) → n ≡ i + k → slice_get xs k ≡ Some x → ShowsAs areas k n x) → seen_from t structs s i fs ≡ map seen_as (zip xs areas)
  all_seen [] [] areas i same h = refl
  all_seen [] (f ∷ fs) areas i same h = absurd same
  all_seen (x ∷ xs) [] areas i same h = absurd same
  all_seen (x ∷ xs) (f ∷ fs) [] i same h = (let q = h 0 i x (omega arith) refl in let none : Areas = [] in let live : slice_get none 0 ≡ Some (Live q.area) = q.live in absurd (cc))
  all_seen (x ∷ xs) (f ∷ fs) (y ∷ areas) i same h =
      let q = h 0 i x (omega arith) refl in
      let is : y ≡ Live q.area = (let e : Some y ≡ Some (Live q.area) = q.live in cc) in
      let first : cells_of t structs s i f.base ≡ cells q.area.held = one_seen i x f (y ∷ areas) 0 q same.1 q.area q.live in
      let seen_first : AreaCells = record { name = x.name; cells = cells q.area.held } in
      ap (λ c. record { name = outer_name f.name; cells = c } ∷ seen_from t structs s (suc i) fs) first
      ∙ ap (λ w. record { name = w; cells = cells q.area.held } ∷ seen_from t structs s (suc i) fs) same.0
      ∙ ap (λ l. seen_first ∷ l) (all_seen xs fs areas (suc i) same.2 (λ k n z e at. (let r = h (suc k) n z (omega (arith, e)) at in record { area = r.area; live = r.live; type = r.type; holds = r.holds })))
      ∙ ap (λ z. seen_as (x, z) ∷ map seen_as (zip xs areas)) (sym is)

pub areas_seen : AreasSeen
areas_seen program g core objects s u both same globals =
    all_seen program.target g core.structs program.unit.structs u core.areas program.unit.objects s.areas 0 same
    (λ k n x e at.
    let q = globals k x at in
    let n_is : k ≡ n = omega (arith, e) in
    record { area = q.0; live = q.2.live; type = q.1; holds = subst (λ i. HoldsArea (CanHold (table_of program.target)) (memory_of program.target) g u.objects i q.0) n_is (both.holds k k q.0 q.2) })
