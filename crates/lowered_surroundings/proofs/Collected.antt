-- What a module's items have is declared: their areas, the types of parameters and results, and what bodies allocate.
use Rattle.std.proofs.Common.{◌≡◌, ℕ, zero, suc, ◌+◌, List, [], ◌∷◌, map, length, take, slice_get, All, Option, Some, None, IsTrue, refl, subst, arith}
use Rattle.std.proofs.lemmas.List.Elements.{All-head, All-tail, All-nil, All-cons}
use Rattle.area_types.specs.Syntax.{ValueType, Truth, Int, Ix, Bits, Ref, Area, StructType}
use Rattle.area_types.specs.Tables.{structs_of}
use Rattle.core_tree.specs.Syntax.{StmtCore, Let, LetCall, Alloc, Store, Copy, Call, If, IfElse, Map, Upto, Downto, Forever, Break, Return, Assert, NoAlloc, NoBreak, NoReturn, StmtsCore, NoStmts, MoreStmts, AreaCore, ImportCore, ParamCore, ProcCore, ModuleCore}
use Rattle.core_tree.specs.Environments.{Env, Point, all_locals, after, skipping, narrowing, looping, within_loop}
use Rattle.core_tree.specs.TypedItems.{AreaTyped, ImportTyped, ProcTyped, env_of, param_types, start}
use Rattle.core_tree.specs.TypedStatements.{StmtTyped, StmtsTyped}
use Rattle.core_tree.specs.Types.{is_core_area, is_type}
use Rattle.region_check.specs.Found.{region_count}
use Rattle.alloc_effects.specs.declared.Narrowing.TheVariants as without
use Rattle.core_tree.specs.Valid.{ValidCore}
use Rattle.region_soundness.proofs.Structs.{Made, core_area_made}
use Rattle.lower_types.specs.Arrays.{Declared, met, met_type, met_result, met_stmt, met_stmts, met_structs, met_areas, met_types, met_imports, met_params, met_procs, declared}
use Rattle.lowered_surroundings.proofs.Meeting.{Known, Good, Grows, same_grows, grows_on, met_grows, met_known, structs_good}
use Rattle.lowered_surroundings.proofs.Staged.{IsMade, type_made, result_made}

module _ (core : ModuleCore) where
  abbrev structs : List StructType
  structs = structs_of core.structs

  abbrev words : ℕ
  words = length core.structs.words

  abbrev KnownHere : Declared → Area → Type 0
  KnownHere d a = Known structs words d a

  abbrev GoodHere : Declared → Type 0
  GoodHere d = Good structs words (length structs) d

  abbrev pub Grown : (d e : Declared) → Type 0
  Grown d e = Grows structs words (length structs) d e

  -- a reference leads to an area that is declared
  abbrev pub TypeKnown : Declared → ValueType → Type 0
  TypeKnown d Truth = Unit {0}
  TypeKnown d (Int kind) = Unit {0}
  TypeKnown d (Ix n) = Unit {0}
  TypeKnown d (Bits k) = Unit {0}
  TypeKnown d (Ref constant region area) = KnownHere d area

  type_kept : (d e : Declared) → Grown d e → (ty : ValueType) → TypeKnown d ty → TypeKnown e ty
  type_kept d e g Truth k = tt
  type_kept d e g (Int kind) k = tt
  type_kept d e g (Ix n) k = tt
  type_kept d e g (Bits j) k = tt
  type_kept d e g (Ref constant region area) k = g.kept area k

  on : (d e f : Declared) → Grown d e → Grown e f → Grown d f
  on d e f g h = grows_on structs words (length structs) d e f g h

  same : (d : Declared) → Grown d d
  same d = same_grows structs words (length structs) d

  -- ---- areas and types

  area_grows : (d : Declared) (a : Area) → Made core.structs a → Grown d (met d a)
  area_grows d a m = met_grows structs words (length structs) d a m.of_structs

  pub area_known : (d : Declared) (a : Area) → Made core.structs a → GoodHere d → KnownHere (met d a) a
  area_known d a m g = met_known structs words (length structs) d a m.of_structs g

  type_grows : (d : Declared) (ty : ValueType) → IsMade core.structs ty → Grown d (met_type d ty)
  type_grows d Truth m = same d
  type_grows d (Int kind) m = same d
  type_grows d (Ix n) m = same d
  type_grows d (Bits k) m = same d
  type_grows d (Ref constant region area) m = area_grows d area m

  type_known : (d : Declared) (ty : ValueType) → IsMade core.structs ty → GoodHere d → TypeKnown (met_type d ty) ty
  type_known d Truth m g = tt
  type_known d (Int kind) m g = tt
  type_known d (Ix n) m g = tt
  type_known d (Bits k) m g = tt
  type_known d (Ref constant region area) m g = area_known d area m g

  -- ---- rows

  areas_grow : (d : Declared) (xs : List AreaCore) → All (AreaTyped core) xs → Grown d (met_areas d xs)
  areas_grow d [] h = same d
  areas_grow d (a ∷ xs) h =
      on d (met d a.area) (met_areas (met d a.area) xs) (area_grows d a.area (core_area_made core.structs a.area (All-head (AreaTyped core) a xs h).area_is)) (areas_grow (met d a.area) xs (All-tail (AreaTyped core) a xs h))

  areas_known : (d : Declared) (xs : List AreaCore) → All (AreaTyped core) xs → GoodHere d → (k : ℕ) (a : AreaCore) → slice_get xs k ≡ Some a → KnownHere (met_areas d xs) a.area
  areas_known d [] h g k a e = let no : ⊥ = cc in absurd no
  areas_known d (x ∷ xs) h g zero a e =
      let made = core_area_made core.structs x.area (All-head (AreaTyped core) x xs h).area_is in
      let here : x ≡ a = cc in
      subst (λ (y : AreaCore). KnownHere (met_areas (met d x.area) xs) y.area) here ((areas_grow (met d x.area) xs (All-tail (AreaTyped core) x xs h)).kept x.area (area_known d x.area made g))
  areas_known d (x ∷ xs) h g (suc k) a e =
      let made = core_area_made core.structs x.area (All-head (AreaTyped core) x xs h).area_is in
      areas_known (met d x.area) xs (All-tail (AreaTyped core) x xs h) ((area_grows d x.area made).good g) k a e

  types_grow : (d : Declared) (ts : List ValueType) → All (IsMade core.structs) ts → Grown d (met_types d ts)
  types_grow d [] h = same d
  types_grow d (t ∷ ts) h = on d (met_type d t) (met_types (met_type d t) ts) (type_grows d t (All-head (IsMade core.structs) t ts h)) (types_grow (met_type d t) ts (All-tail (IsMade core.structs) t ts h))

  imports_grow : (d : Declared) (is : List ImportCore) → All (λ (i : ImportCore). All (IsMade core.structs) i.params) is → Grown d (met_imports d is)
  imports_grow d [] h = same d
  imports_grow d (i ∷ is) h =
      on d (met_types d i.params) (met_imports (met_types d i.params) is) (types_grow d i.params (All-head (λ (i : ImportCore). All (IsMade core.structs) i.params) i is h))
      (imports_grow (met_types d i.params) is (All-tail (λ (i : ImportCore). All (IsMade core.structs) i.params) i is h))

  params_grow : (d : Declared) (ps : List ParamCore) → All (IsMade core.structs) (map (λ (x : ParamCore). x.ty) ps) → Grown d (met_params d ps)
  params_grow d [] h = same d
  params_grow d (p ∷ ps) h =
      let rest = map (λ (x : ParamCore). x.ty) ps in
      on d (met_type d p.ty) (met_params (met_type d p.ty) ps) (type_grows d p.ty (All-head (IsMade core.structs) p.ty rest h)) (params_grow (met_type d p.ty) ps (All-tail (IsMade core.structs) p.ty rest h))

  params_known : (d : Declared) (ps : List ParamCore) → All (IsMade core.structs) (map (λ (x : ParamCore). x.ty) ps) → GoodHere d
      → (k : ℕ) (ty : ValueType) → slice_get (map (λ (x : ParamCore). x.ty) ps) k ≡ Some ty → TypeKnown (met_params d ps) ty
  params_known d [] h g k ty e = let no : ⊥ = cc in absurd no
  params_known d (p ∷ ps) h g zero ty e =
      let rest = map (λ (x : ParamCore). x.ty) ps in
      let here : p.ty ≡ ty = cc in
      subst (TypeKnown (met_params (met_type d p.ty) ps)) here
      (type_kept (met_type d p.ty) (met_params (met_type d p.ty) ps) (params_grow (met_type d p.ty) ps (All-tail (IsMade core.structs) p.ty rest h)) p.ty
      (type_known d p.ty (All-head (IsMade core.structs) p.ty rest h) g))
  params_known d (p ∷ ps) h g (suc k) ty e =
      let rest = map (λ (x : ParamCore). x.ty) ps in
      params_known (met_type d p.ty) ps (All-tail (IsMade core.structs) p.ty rest h) ((type_grows d p.ty (All-head (IsMade core.structs) p.ty rest h)).good g) k ty e

  abbrev ResultMade : Option ValueType → Type 0
  ResultMade r = (ty : ValueType) → r ≡ Some ty → IsMade core.structs ty

  result_grows : (d : Declared) (r : Option ValueType) → ResultMade r → Grown d (met_result d r)
  result_grows d None m = same d
  result_grows d (Some ty) m = type_grows d ty (m ty refl)

  result_known : (d : Declared) (r : Option ValueType) → ResultMade r → GoodHere d → (ty : ValueType) → r ≡ Some ty → TypeKnown (met_result d r) ty
  result_known d None m g ty e = let no : ⊥ = cc in absurd no
  result_known d (Some t) m g ty e = let here : t ≡ ty = cc in subst (TypeKnown (met_type d t)) here (type_known d t (m t refl) g)

  -- ---- bodies

  module _ (env : Env) (own : env.core.structs ≡ core.structs) where
    mutual
      pub stmt_grows : (d : Declared) (at : Point) (s : StmtCore) → StmtTyped env at s → Grown d (met_stmt d s)
      stmt_grows d at (Alloc number area init) t = area_grows d area (core_area_made core.structs area (subst (λ x. IsTrue (is_core_area x area)) own t.area_is))
      stmt_grows d at (If test first) t = stmts_grow d at first t.1
      stmt_grows d at (IfElse test first second) t =
          on d (met_stmts d first) (met_stmts (met_stmts d first) second) (stmts_grow d at first t.1) (stmts_grow (met_stmts d first) (skipping (all_locals first) at) second t.2)
      stmt_grows d at (Map number length body) t = stmts_grow d (within_loop number at) body t.1
      stmt_grows d at (Upto number length bound body) t = stmts_grow d (within_loop number at) body t.2
      stmt_grows d at (Downto number length bound body) t = stmts_grow d (within_loop number at) body t.2
      stmt_grows d at (Forever body) t = stmts_grow d (looping at) body t
      stmt_grows d at (NoAlloc body) t = stmts_grow d (narrowing without.NoAlloc at) body t
      stmt_grows d at (NoBreak body) t = stmts_grow d (narrowing without.NoBreak at) body t
      stmt_grows d at (NoReturn body) t = stmts_grow d (narrowing without.NoReturn at) body t
      stmt_grows d at (Let number value) t = same d
      stmt_grows d at (LetCall number call) t = same d
      stmt_grows d at (Store target value) t = same d
      stmt_grows d at (Copy target source) t = same d
      stmt_grows d at (Call call) t = same d
      stmt_grows d at Break t = same d
      stmt_grows d at (Return value) t = same d
      stmt_grows d at (Assert cond check) t = same d

      pub stmts_grow : (d : Declared) (at : Point) (ss : StmtsCore) → StmtsTyped env at ss → Grown d (met_stmts d ss)
      stmts_grow d at NoStmts t = same d
      stmts_grow d at (MoreStmts s ss) t = on d (met_stmt d s) (met_stmts (met_stmt d s) ss) (stmt_grows d at s t.0) (stmts_grow (met_stmt d s) (after s at) ss t.2)

  -- ---- procedures

  all_made : (regions : ℕ) (ts : List ValueType) → All (λ t. IsTrue (is_type core.structs regions t)) ts → All (IsMade core.structs) ts
  all_made regions [] h = All-nil (IsMade core.structs)
  all_made regions (t ∷ ts) h =
      let Typed : ValueType → Type 0 = λ x. IsTrue (is_type core.structs regions x) in
      All-cons (IsMade core.structs) t ts (type_made core.structs regions t (All-head Typed t ts h)) (all_made regions ts (All-tail Typed t ts h))

  imports_made : (is : List ImportCore) → All (ImportTyped core) is → All (λ (i : ImportCore). All (IsMade core.structs) i.params) is
  imports_made [] h = All-nil (λ (i : ImportCore). All (IsMade core.structs) i.params)
  imports_made (i ∷ is) h =
      All-cons (λ (i : ImportCore). All (IsMade core.structs) i.params) i is (all_made (region_count 0 i.params) i.params (All-head (ImportTyped core) i is h).params.types)
      (imports_made is (All-tail (ImportTyped core) i is h))

  pub record TypedAfter (p : ProcCore) : Type 0 where
    pub earlier : List ProcCore
    pub typed : ProcTyped core earlier p

  -- where the types of a procedure are met
  abbrev pub with_head : Declared → ProcCore → Declared
  with_head d p = met_result (met_params d p.params) p.result

  abbrev pub with_proc : Declared → ProcCore → Declared
  with_proc d p = met_stmts (with_head d p) p.body

  params_made : (p : ProcCore) → TypedAfter p → All (IsMade core.structs) (param_types p)
  params_made p t = all_made (region_count 0 (param_types p)) (param_types p) t.typed.params.types

  head_grows : (d : Declared) (p : ProcCore) → TypedAfter p → Grown d (with_head d p)
  head_grows d p t =
      on d (met_params d p.params) (with_head d p) (params_grow d p.params (params_made p t)) (result_grows (met_params d p.params) p.result (result_made core.structs p p.result t.typed.result))

  body_grows : (d : Declared) (p : ProcCore) → TypedAfter p → Grown d (met_stmts d p.body)
  body_grows d p t = stmts_grow (env_of core t.earlier p) refl d (start p) p.body t.typed.body

  proc_grows : (d : Declared) (p : ProcCore) → TypedAfter p → Grown d (with_proc d p)
  proc_grows d p t = on d (with_head d p) (with_proc d p) (head_grows d p t) (body_grows (with_head d p) p t)

  procs_grow : (d : Declared) (ps : List ProcCore) → ((k : ℕ) (p : ProcCore) → slice_get ps k ≡ Some p → TypedAfter p) → Grown d (met_procs d ps)
  procs_grow d [] h = same d
  procs_grow d (p ∷ ps) h = on d (with_proc d p) (met_procs (with_proc d p) ps) (proc_grows d p (h 0 p refl)) (procs_grow (with_proc d p) ps (λ k q e. h (suc k) q e))

  -- what was declared before the procedure, and that all of it and what the procedure has is declared at the end
  pub record ProcMet (all : Declared) (p : ProcCore) : Type 0 where
    pub before : Declared
    pub good : Good structs words (length structs) before
    pub later : Grown (with_proc before p) all

  procs_met : (d : Declared) (ps : List ProcCore) → ((k : ℕ) (p : ProcCore) → slice_get ps k ≡ Some p → TypedAfter p) → GoodHere d → (k : ℕ) (p : ProcCore) → slice_get ps k ≡ Some p → ProcMet (met_procs d ps) p
  procs_met d [] h g k p e = let no : ⊥ = cc in absurd no
  procs_met d (q ∷ ps) h g zero p e =
      let here : q ≡ p = cc in
      subst (ProcMet (met_procs (with_proc d q) ps)) here (record { before = d; good = g; later = procs_grow (with_proc d q) ps (λ k x e. h (suc k) x e) })
  procs_met d (q ∷ ps) h g (suc k) p e = procs_met (with_proc d q) ps (λ k x e. h (suc k) x e) ((proc_grows d q (h 0 q refl)).good g) k p e

  module _ (all : Declared) (p : ProcCore) (t : TypedAfter p) (m : ProcMet all p) where
    pub met_params_known : (k : ℕ) (ty : ValueType) → slice_get (param_types p) k ≡ Some ty → TypeKnown all ty
    met_params_known k ty e =
        let d : Declared = met_params m.before p.params in
        let after_result : Grown d (with_head m.before p) = result_grows d p.result (result_made core.structs p p.result t.typed.result) in
        let after_body : Grown (with_head m.before p) (with_proc m.before p) = body_grows (with_head m.before p) p t in
        type_kept d all (on d (with_head m.before p) all after_result (on (with_head m.before p) (with_proc m.before p) all after_body m.later)) ty
        (params_known m.before p.params (params_made p t) m.good k ty e)

    pub met_result_known : (ty : ValueType) → p.result ≡ Some ty → TypeKnown all ty
    met_result_known ty e =
        let d : Declared = met_params m.before p.params in
        let good : GoodHere d = (params_grow m.before p.params (params_made p t)).good m.good in
        type_kept (with_head m.before p) all (on (with_head m.before p) (with_proc m.before p) all (body_grows (with_head m.before p) p t) m.later) ty
        (result_known d p.result (result_made core.structs p p.result t.typed.result) good ty e)

    pub body_good : Good structs words (length structs) (with_head m.before p)
    body_good = (head_grows m.before p t).good m.good

  -- ---- the module

  pub record AllMet (all : Declared) : Type 0 where
    pub good : Good structs words (length structs) all
    pub areas : (k : ℕ) (a : AreaCore) → slice_get core.areas k ≡ Some a → Known structs words all a.area
    pub procs : (k : ℕ) (p : ProcCore) → slice_get core.procs k ≡ Some p → ProcMet all p

  pub proc_typed : ValidCore core → (k : ℕ) (p : ProcCore) → slice_get core.procs k ≡ Some p → TypedAfter p
  proc_typed valid k p e = record { earlier = take k core.procs; typed = valid.procs k p e }

  pub all_met : ValidCore core → AllMet (declared core)
  all_met valid =
      let d0 : Declared = met_structs 0 [] structs in
      let d1 : Declared = met_areas d0 core.areas in
      let d2 : Declared = met_imports d1 core.imports in
      let none : Good structs words 0 [] = record { ordered = tt; numbered = λ i low. absurd (omega (arith, low)) } in
      let g0 : GoodHere d0 =
      subst (λ n. Good structs words n d0) (let e : 0 + length structs ≡ length structs = omega arith in e)
      (structs_good structs words core.structs.words refl structs [] 0 [] refl valid.table (λ j s e. subst (λ n. slice_get structs n ≡ Some s) (let z : j ≡ 0 + j = omega arith in z) e) none) in
      let a : Grown d0 d1 = areas_grow d0 core.areas valid.areas in
      let i : Grown d1 d2 = imports_grow d1 core.imports (imports_made core.imports valid.imports) in
      let p : Grown d2 (declared core) = procs_grow d2 core.procs (proc_typed valid) in
      record {
        good = p.good (i.good (a.good g0));
        areas = λ k x e. p.kept x.area (i.kept x.area (areas_known d0 core.areas valid.areas g0 k x e));
        procs = procs_met d2 core.procs (proc_typed valid) (i.good (a.good g0));
      }
