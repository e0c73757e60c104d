-- The first state of a module is scoped: each area of the module has its number, and a first value for each cell.
use Rattle.std.proofs.Common.{◌≡◌, ℕ, zero, suc, List, [], ◌∷◌, map, Some, All, refl, ◌∙◌, ap, subst, arith}
use Rattle.std.specs.Option.{option_map}
use Rattle.std.proofs.lemmas.List.{length-map}
use Rattle.std.proofs.lemmas.Option.{slice_get-map}
use Rattle.std.proofs.lemmas.List.Elements.{All-head, All-tail}
use Rattle.area_types.specs.Tables.{written_out}
use Rattle.type_trees.specs.Trees.{scalars}
use Rattle.core_tree.specs.Syntax.{ModuleCore, AreaCore}
use Rattle.core_tree.specs.TypedItems.{AreaTyped}
use Rattle.core_tree.specs.Valid.{ValidCore}
use Rattle.core_meaning.specs.Areas.{Area, area_at, filled}
use Rattle.core_meaning.specs.State.{first_area, first_state}
use Rattle.region_soundness.specs.Scoped.{HeldFits, AreasFit, GlobalsFirst}
use Rattle.region_soundness.specs.Laws.{FirstStatesAreScoped}
use Rattle.region_soundness.proofs.Cells.{gets_values, filled_fits}

module _ (core : ModuleCore) where
  first_held : (gs : List AreaCore) → All (AreaTyped core) gs → (k : ℕ) (a : Area) → area_at (map (first_area core) gs) k ≡ Some a → HeldFits core.structs a.ty a.held
  first_held [] h k a e = let no : ⊥ = cc in absurd no
  first_held (g ∷ gs) h zero a e =
      let ty = written_out core.structs g.area in
      let first : Area = record { ty = ty; constant = g.constant; held = filled ty g.first } in
      let same : first ≡ a = cc in
      subst (λ (x : Area). HeldFits core.structs x.ty x.held) same (filled_fits core.structs ty g.first (gets_values core.structs (scalars ty) g.first (All-head (AreaTyped core) g gs h).first))
  first_held (g ∷ gs) h (suc k) a e = first_held gs (All-tail (AreaTyped core) g gs h) k a e

  pub first_areas_fit : ValidCore core → AreasFit core.structs (first_state core).areas
  first_areas_fit valid = first_held core.areas valid.areas

  pub first_globals : GlobalsFirst core (first_state core).areas
  first_globals k g e = record {
    area = record { ty = written_out core.structs g.area; constant = g.constant; held = filled (written_out core.structs g.area) g.first };
    live = slice_get-map (first_area core) core.areas k ∙ ap (option_map (first_area core)) e;
    type = refl;
    access = refl;
  }

pub first_states_are_scoped : FirstStatesAreScoped
first_states_are_scoped core valid = record {
  areas = first_areas_fit core valid;
  globals = first_globals core;
  frame = record {
    names = λ number ty c e. absurd (omega (arith, c.1));
    named = λ number v e. let no : ⊥ = cc in absurd no;
    params = λ k t e. let no : ⊥ = cc in absurd no;
    args = λ k v e. let no : ⊥ = cc in absurd no;
    first = refl;
    referred = λ j k r. let no : ⊥ = (let e = r.param_is in cc) in absurd no;
    globals = omega arith;
    room = omega (arith, length-map core.areas (first_area core));
  };
  callers = tt;
}
