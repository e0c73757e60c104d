-- A state stays related when a part of an area is given another value: areas keep their types, and all other objects are the same.
use Rattle.std.proofs.Common.{◌≡◌, ◌≢◌, ℕ, zero, suc, ◌≤◌, List, [], ◌∷◌, Some, None, refl, sym, ◌∙◌, ap, subst}
use Rattle.std.specs.Prelude.{slice_get}
use Rattle.c_memory.specs.Abstract.{Same}
use Rattle.c_ast.specs.Scalars.{metric_of}
use Rattle.c_meaning.specs.Memory.{CObjects, memory_of}
use Rattle.c_meaning.specs.State.{CState}
use Rattle.core_meaning.specs.Areas.{Held, Area, Areas, Live, with_part, put_part, put_at}
use Rattle.core_meaning.specs.State.{State, holding}
use Rattle.area_objects.specs.Both.{Map, LiveIn}
use Rattle.area_objects.specs.PlaceLaws.{BothIn}
use Rattle.lower_values.specs.Frames.{name_of}
use Rattle.value_refinement.specs.Kept.{Kept}
use Rattle.value_refinement.specs.Related.{Related}
use Rattle.value_refinement.specs.Settings.{Setting, Set}
use Rattle.value_refinement.proofs.Keeping.{older}
use Rattle.statement_refinement.specs.Apart.{IsApart, CountersApart}
use Rattle.statement_refinement.specs.Moves.{StillLive}
use Rattle.statement_refinement.proofs.Moves.{StillThere, related_still}

-- ---- areas

-- an area that is live still is, with its type
pub still_live : (k : ℕ) (path : List ℕ) (v : Held) (areas : Areas) (j : ℕ) (a : Area) → slice_get areas j ≡ Some (Live a) → StillLive (put_at k path v areas) j a
still_live k path v [] j a h = let no : ⊥ = cc in absurd no
still_live zero path v (x ∷ areas) zero a h = let e : x ≡ Live a = cc in record { area = with_part path v a; type = refl; access = refl; live = ap (λ y. Some (put_part path v y)) e }
still_live zero path v (x ∷ areas) (suc j) a h = record { area = a; type = refl; access = refl; live = h }
still_live (suc k) path v (x ∷ areas) zero a h = record { area = a; type = refl; access = refl; live = h }
still_live (suc k) path v (x ∷ areas) (suc j) a h = let q = still_live k path v areas j a h in record { area = q.area; type = q.type; access = q.access; live = q.live }

-- ---- states

module _ (g : Setting) (objects : Map) (s : State) (u : CState) (k : ℕ) (path : List ℕ) (value : Held) (o : ℕ) (a : Area) (related : Related g objects s u) (here : LiveIn objects s.areas k o a)
    (new : CObjects) (both : BothIn g.program.target g.naming objects (put_at k path value s.areas) new)
    (others : (q : ℕ) → q ≢ o → Same (metric_of g.program.target) (memory_of g.program.target) u.objects new q) where
  still_there : StillThere g objects s u objects (holding k path value s) (record u { objects = new })
  still_there = record {
    extends = λ j q e. e;
    live = still_live k path value s.areas;
    same = λ q lt none. others q (λ is. none k (here.object ∙ ap Some (sym is)));
    apart = λ q lt none. none;
    items = λ x. refl;
    names = λ x ty among type. refl;
    values = λ x ty among type. refl;
  }

  pub related_written : g.env.outcome ≡ None → CountersApart g objects s u → Related g objects (holding k path value s) (record u { objects = new })
  related_written in_body apart = related_still g objects s u objects (holding k path value s) (record u { objects = new }) still_there both related in_body apart

-- temporaries leave the names of numbers as they were
pub counters_kept : (g : Setting) → Set g → (objects : Map) (s : State) (k : ℕ) → g.first ≤ k → (t u : CState) → Kept g.program k t u → CountersApart g objects s t → CountersApart g objects s u
counters_kept g set objects s k low t u kept apart x ty n among type has =
    subst (IsApart objects) (sym (kept.names (name_of g.frame x) (older g.first k (name_of g.frame x) low (set.locals x ty type)))) (apart x ty n among type has)
