-- The objects of file scope are made one after another, each for the area of its number.
use Rattle.std.proofs.Common.{◌≡◌, ℕ, zero, suc, ◌+◌, ◌<◌, List, [], ◌∷◌, ◌++◌, length, map, slice_get, Some, Ok, refl, sym, ◌∙◌, ap, subst, arith, append_assoc, append-nil}
use Rattle.type_trees.specs.Values.{cells}
use Rattle.core_tree.specs.Syntax.{ModuleCore, AreaCore}
use Rattle.c_ast.specs.Scalars.{metric_of}
use Rattle.c_ast.specs.Structs.{tree}
use Rattle.c_ast.specs.Syntax.{FileObject}
use Rattle.c_ast.specs.Targets.{table_of}
use Rattle.c_meaning.specs.Initializers.{made_with}
use Rattle.c_meaning.specs.Memory.{CObjects, memory_of}
use Rattle.c_meaning.specs.Runs.{file_objects}
use Rattle.c_meaning.specs.State.{Program}
use Rattle.c_meaning.specs.Values.{on_ok}
use Rattle.core_meaning.specs.Areas.{Area, Areas, Live, filled}
use Rattle.core_meaning.specs.State.{first_area}
use Rattle.area_objects.specs.Shapes.{Naming, shape}
use Rattle.area_objects.specs.Holds.{CanHold}
use Rattle.area_objects.specs.Both.{Map}
use Rattle.area_objects.specs.PlaceLaws.{BothIn}
use Rattle.area_objects.specs.FirstStates.{numbers_from, type_of, Declares, DeclareAll, FirstStatesAlike, NumbersStandThere}
use Rattle.area_objects.proofs.Alike.{lawful_in}
use Rattle.area_objects.proofs.Lives.{areas_made}
use Rattle.area_objects.proofs.Outside.{objects_initialized}

number_at : (n i k : ℕ) → k < n → slice_get (numbers_from i n) k ≡ Some (i + k)
number_at zero i k h = absurd (omega (arith, h))
number_at (suc n) i zero h = ap Some (omega arith)
number_at (suc n) i (suc k) h = number_at n (suc i) k (omega (arith, h)) ∙ ap Some (omega arith)

pub numbers_stand_there : NumbersStandThere
numbers_stand_there n k h = number_at n 0 k h ∙ ap Some (omega arith)

module _ (program : Program) (g : Naming) (core : ModuleCore) where
  abbrev first_value : AreaCore → Area
  first_value x = record { ty = type_of program g core x; constant = x.constant; held = filled (type_of program g core x) x.first }

  pub record AllMade (xs : List AreaCore) (fs : List FileObject) (objects : Map) (areas : Areas) (mem : CObjects) (i : ℕ) : Type 0 where
    pub new : CObjects
    pub is : file_objects program fs mem ≡ Ok new
    pub both : BothIn program.target g (objects ++ numbers_from i (length xs)) (areas ++ map (first_area core) xs) new

  object_made : (x : AreaCore) (f : FileObject) (d : Declares program g core x f) (mem : CObjects)
      → made_with program.target (tree program.unit.structs f.base) f.constant mem d.given ≡ Ok ((memory_of program.target).initialize mem (shape g (type_of program g core x)) x.constant (cells (first_value x).held))
  object_made x f d mem =
      ap (λ a. made_with program.target a f.constant mem d.given) d.type
      ∙ ap (λ c. made_with program.target (shape g (type_of program g core x)) c mem d.given) d.access
      ∙ objects_initialized program.target g (type_of program g core x) (first_value x).held x.constant mem d.given d.numbers d.converted d.gives

  all_made : (xs : List AreaCore) (fs : List FileObject) (objects : Map) (areas : Areas) (mem : CObjects) (i : ℕ) → length mem ≡ i → BothIn program.target g objects areas mem → DeclareAll program g core xs fs → AllMade xs fs objects areas mem i
  all_made [] [] objects areas mem i e both h = record {
    new = mem;
    is = refl;
    both = subst (λ l. BothIn program.target g l (areas ++ []) mem) (sym (append-nil objects)) (subst (λ l. BothIn program.target g objects l mem) (sym (append-nil areas)) both);
  }
  all_made [] (f ∷ fs) objects areas mem i e both h = absurd h
  all_made (x ∷ xs) [] objects areas mem i e both h = absurd h
  all_made (x ∷ xs) (f ∷ fs) objects areas mem i e both h =
      let d = h.0 in
      let a : Area = first_value x in
      let one = areas_made (metric_of program.target) (CanHold (table_of program.target)) (memory_of program.target) (lawful_in (table_of program.target)) g objects areas mem a both d.fits in
      let next : CObjects = (memory_of program.target).initialize mem (shape g a.ty) a.constant (cells a.held) in
      let placed : BothIn program.target g (objects ++ i ∷ []) (areas ++ Live a ∷ []) next = subst (λ n. BothIn program.target g (objects ++ n ∷ []) (areas ++ Live a ∷ []) next) e one.0 in
      let rest = all_made xs fs (objects ++ i ∷ []) (areas ++ Live a ∷ []) next (suc i) (one.1 ∙ ap suc e) placed h.1 in
      record {
        new = rest.new;
        is = ap (λ z. on_ok z (λ given. on_ok (made_with program.target (tree program.unit.structs f.base) f.constant mem given) (file_objects program fs))) d.evaluated
            ∙ ap (λ z. on_ok z (file_objects program fs)) (object_made x f d mem) ∙ rest.is;
        both = subst (λ l. BothIn program.target g l (areas ++ Live a ∷ map (first_area core) xs) rest.new) (append_assoc objects (i ∷ []) (numbers_from (suc i) (length xs)))
            (subst (λ l. BothIn program.target g ((objects ++ i ∷ []) ++ numbers_from (suc i) (length xs)) l rest.new) (append_assoc areas (Live a ∷ []) (map (first_area core) xs)) rest.both);
      }

-- without areas and objects
none_yet : (program : Program) (g : Naming) → BothIn program.target g [] [] []
none_yet program g = record { many = refl; made = λ k o e. absurd (cc); apart = λ j k o e f. absurd (cc); holds = λ k o a l. (let none : Map = [] in let e : slice_get none k ≡ Some o = l.object in absurd (cc)) }

pub first_states_alike : FirstStatesAlike
first_states_alike program g core h =
    let all = all_made program g core core.areas program.unit.objects [] [] [] 0 refl (none_yet program g) h in
    (all.new, all.is, all.both)
