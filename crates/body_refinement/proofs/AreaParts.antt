-- What the type of a reference leads to is an area of the module's table, with its structs written out; and so is each part of it.
use Rattle.std.proofs.Common.{◌≡◌, ℕ, ◌<◌, ◌≤◌, Bool, true, false, ◌&&◌, ◌||◌, List, [], ◌∷◌, Some, None, IsTrue, refl, ◌∙◌, ap, subst, arith}
use Rattle.std.specs.Prelude.{if◌then◌else◌}
use Rattle.std.proofs.lemmas.Bool.{lt-ltb}
use Rattle.type_trees.specs.Trees.{Leaf, Many, part}
use Rattle.area_types.specs.Syntax as types
use Rattle.area_types.specs.Syntax.{ValueType, Area}
use Rattle.area_types.specs.Tables.{Table, structs_of, written_out, is_table, is_area, is_small, is_length, has_index_lengths}
use Rattle.area_types.specs.Trees.{Written, area_in}
use Rattle.area_types.specs.declared.region.Region.{Region}
use Rattle.area_types.specs.declared.region.Region.TheVariants.{Global, Param, Own}
use Rattle.area_types.proofs.Truths.{both}
use Rattle.area_types.proofs.Within.{parts_are_areas}
use Rattle.core_tree.specs.Environments.{struct_field}
use Rattle.core_tree.specs.Syntax.{ExprCore, type_of}
use Rattle.core_tree.specs.TypedExpressions.{ExprTyped}
use Rattle.core_tree.specs.TypedItems.{AreaTyped, is_own, is_local_type, param_types}
use Rattle.core_tree.specs.Types.{is_core_area}
use Rattle.region_check.specs.Found.{region_count}
use Rattle.region_soundness.proofs.Structs.{field_part}
use Rattle.lowered_surroundings.proofs.ExpressionTypes.{Passes, all_at, no_outcome, types_hold}
use Rattle.body_refinement.specs.Bodies.{Lowered, env_in}

-- an area of the table, with its structs written out
pub record IsPart (table : Table) (b : Written) : Type 0 where
  pub area : IsTrue (is_area table (area_in b))
  pub same : written_out table (area_in b) ≡ b

module _ (table : Table) (fits : IsTrue (is_table (structs_of table) table.words)) where
  pub part_is_part : (b : Written) → IsPart table b → (path : List ℕ) (c : Written) → part b path ≡ Some c → IsPart table c
  part_is_part b h path c e =
      let q = parts_are_areas table fits (area_in b) h.area path c (ap (λ a. part a path) h.same ∙ e) in
      record { area = q.0; same = q.1 }

  pub whole_is_part : (area : Area) → IsTrue (is_core_area table area) → IsPart table (written_out table area)
  whole_is_part area h =
      let q = parts_are_areas table fits area (both (is_area table area) (has_index_lengths area) h).0 [] (written_out table area) refl in
      record { area = q.0; same = q.1 }

  pub array_length : (n : ℕ) (a : Written) → IsPart table (Many n a) → IsTrue (is_length n)
  array_length n a h =
      let array : Area = types.Array n (area_in a) in
      let made = (both _ (is_small table.words (written_out table array)) h.area).0 in
      (both (is_length n) _ made).0

  pub length_some : (n : ℕ) → IsTrue (is_length n) → 1 ≤ n
  length_some n h = grind arith

  pub length_few : (n : ℕ) → IsTrue (is_length n) → n ≤ 65_535
  length_few n h = grind arith

  pub element_is_part : (n : ℕ) (a : Written) → IsPart table (Many n a) → IsPart table a
  element_is_part n a h =
      let low : 0 < n = length_some n (array_length n a h) in
      part_is_part (Many n a) h (0 ∷ []) a (ap (λ b. if b then Some a else None) (lt-ltb 0 n low))

  -- ---- types

  -- what a reference of the type leads to is so
  abbrev pub LeadsToPart : ValueType → Type 0
  LeadsToPart types.Truth = Unit {0}
  LeadsToPart (types.Int kind) = Unit {0}
  LeadsToPart (types.Ix n) = Unit {0}
  LeadsToPart (types.Bits k) = Unit {0}
  LeadsToPart (types.Ref constant region area) = IsPart table (written_out table area)

  own_core : (constant : Bool) (region : Region) (area : Area) → IsTrue (is_own table (types.Ref constant region area)) → IsTrue (is_core_area table area)
  own_core constant Global area h = let no : ⊥ = cc in absurd no
  own_core constant (Param j) area h = let no : ⊥ = cc in absurd no
  own_core constant Own area h = h

  either : (a b c : Bool) → (IsTrue c → IsTrue b) → IsTrue ((a && b) || c) → IsTrue b
  either true true c f h = refl
  either true false c f h = f h
  either false b c f h = f h

  local_leads : (regions : ℕ) (ty : ValueType) → IsTrue (is_local_type table regions ty) → LeadsToPart ty
  local_leads regions types.Truth h = tt
  local_leads regions (types.Int kind) h = tt
  local_leads regions (types.Ix n) h = tt
  local_leads regions (types.Bits k) h = tt
  local_leads regions (types.Ref constant region area) h = whole_is_part area (either _ (is_core_area table area) (is_own table (types.Ref constant region area)) (own_core constant region area) h)

  stored_leads : (ty : ValueType) → IsPart table (Leaf ty) → LeadsToPart ty
  stored_leads types.Truth h = tt
  stored_leads (types.Int kind) h = tt
  stored_leads (types.Ix n) h = tt
  stored_leads (types.Bits k) h = tt
  stored_leads (types.Ref constant region area) h = (let made = h.area in let no : ⊥ = cc in absurd no)

module _ (d : Lowered) (scope : List ℕ) where
  abbrev table : Table
  table = d.core.structs

  field_leads : (constant : Bool) (region : Region) (k f : ℕ) (area : Area) → struct_field d.core k f ≡ Some area → IsPart table (written_out table (types.Struct k)) → IsPart table (written_out table area)
  field_leads constant region k f area e h =
      part_is_part table d.valid.table (written_out table (types.Struct k)) h (f ∷ []) (written_out table area) (field_part d.core d.valid.table k f area e (written_out table (types.Struct k)) [] refl)

  passes : Passes (env_in d) scope (LeadsToPart table d.valid.table)
  passes = record {
    truth = tt;
    int = λ kind. tt;
    index = λ n h. tt;
    bits = λ k. tt;
    area = λ k a e. whole_is_part table d.valid.table a.area (all_at (AreaTyped d.core) d.core.areas k a d.valid.areas e).area_is;
    local = λ x ty here e.
        (let typed = d.valid.procs d.number d.proc d.is in
        local_leads table d.valid.table (region_count 0 (param_types d.proc)) ty (all_at (λ t. IsTrue (is_local_type table (region_count 0 (param_types d.proc)) t)) d.proc.locals x ty typed.local_types e));
    outcome = λ ty e. absurd (no_outcome ty e);
    stored = λ constant region ty h. stored_leads table d.valid.table ty h;
    field = field_leads;
    element = λ constant region n area h. element_is_part table d.valid.table n (written_out table area) h;
  }

  -- what a typed reference leads to
  pub reference_leads : (e : ExprCore) → ExprTyped (env_in d) scope e → (constant : Bool) (region : Region) (area : Area) → type_of e ≡ types.Ref constant region area → IsPart table (written_out table area)
  reference_leads e typed constant region area is = subst (LeadsToPart table d.valid.table) is (types_hold (env_in d) scope (LeadsToPart table d.valid.table) passes e typed)
