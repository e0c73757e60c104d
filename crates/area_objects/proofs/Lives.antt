-- Areas and objects that are made, and those that end.
use Rattle.std.proofs.Common.{◌≡◌, ℕ, suc, ◌<◌, ℤ, [], ◌∷◌, ◌++◌, length, map, slice_get, Some, refl, sym, ◌∙◌, ap, subst, arith, ⊎_elim, length-append}
use Rattle.type_trees.specs.Layouts.{Metric, lay}
use Rattle.type_trees.specs.Values.{cells}
use Rattle.c_memory.specs.Abstract.{Operations, Same, Made, Lawful}
use Rattle.c_memory.specs.Seen.{EachFits}
use Rattle.c_memory.proofs.Cells.{fits_each}
use Rattle.c_ast.specs.declared.CScalar.{CScalar}
use Rattle.c_ast.specs.Syntax.{Name}
use Rattle.core_meaning.specs.Areas.{Area, Areas, Live, mark_from, take_from}
use Rattle.area_objects.specs.Shapes.{Naming, shape}
use Rattle.area_objects.specs.Holds.{CellsFit, HoldsArea}
use Rattle.area_objects.specs.Both.{Map, LiveIn, Both}
use Rattle.area_objects.specs.Laws.{ObjectsLive, AreasMade, BlocksEnded, CallsEnded, OthersMade, OthersWritten}
use Rattle.area_objects.proofs.Values.{c_value, cells_c, fits_c}
use Rattle.area_objects.proofs.Kept.{map_same, stays, itself, both_kept}
use Rattle.area_objects.proofs.Places.{get_append_cases, get_below, length_mark, length_take, live_unmarked, live_untaken}

module _ (m : Metric CScalar) (Can : CScalar → ℤ → Type 0) (M : Operations CScalar Name ℤ) (law : Lawful m Can M) (g : Naming) where
  pub objects_live : ObjectsLive m Can M g
  objects_live objects areas mem k o a both lives = law.lives mem o a.constant (shape g a.ty) (map (λ n. Some n) (cells a.held)) (both.holds k o a lives).shows

  -- ---- a further area

  module _ (objects : Map) (areas : Areas) (mem : M.Memory) (a : Area) (both : Both Can M g objects areas mem) (fits : CellsFit Can g a.ty a.held) where
    abbrev new : M.Memory
    new = M.initialize mem (shape g a.ty) a.constant (cells a.held)

    abbrev more_objects : Map
    more_objects = objects ++ M.count mem ∷ []

    abbrev more_areas : Areas
    more_areas = areas ++ Live a ∷ []

    each_fits : EachFits Can (lay m (shape g a.ty) 0) (cells a.held)
    each_fits =
        let c = c_value a.ty a.held in
        subst (λ vs. EachFits Can (lay m (shape g a.ty) 0) vs) (map_same (cells c) ∙ cells_c a.ty a.held) (fits_each m Can (λ (n : ℤ). n) (shape g a.ty) c 0 (fits_c Can g a.ty a.held fits))

    abbrev made : Made m M mem new a.constant (shape g a.ty) (map Some (cells a.held))
    made = law.initializes mem (shape g a.ty) a.constant (cells a.held) each_fits

    newest : HoldsArea Can M g new (M.count mem) a
    newest = record { fits = fits; shows = made.shows }

    made_before : (k o : ℕ) → slice_get more_objects k ≡ Some o → o < M.count new
    made_before k o e = ⊎_elim (λ h. omega (arith, both.made k o h, made.count)) (λ h. omega (arith, h.1, made.count)) (get_append_cases objects (M.count mem) o k e)

    still_apart : (j k o : ℕ) → slice_get more_objects j ≡ Some o → slice_get more_objects k ≡ Some o → j ≡ k
    still_apart j k o e f = ⊎_elim
        (λ h. ⊎_elim (λ i. both.apart j k o h i) (λ i. absurd (omega (arith, both.made j o h, i.1))) (get_append_cases objects (M.count mem) o k f))
        (λ h. ⊎_elim (λ i. absurd (omega (arith, both.made k o i, h.1))) (λ i. h.0 ∙ sym i.0) (get_append_cases objects (M.count mem) o k f))
        (get_append_cases objects (M.count mem) o j e)

    old : (k o : ℕ) (c : Area) → slice_get areas k ≡ Some (Live c) → LiveIn more_objects more_areas k o c → HoldsArea Can M g new o c
    old k o c live l = ⊎_elim
        (λ h. stays m Can M g mem new o c (made.others o (both.made k o h)) (both.holds k o c (record { live = live; object = h })))
        (λ h. absurd (omega (arith, h.0, both.many, get_below areas k (Live c) live)))
        (get_append_cases objects (M.count mem) o k l.object)

    last : (k o : ℕ) (c : Area) → k ≡ length areas → Live a ≡ Live c → LiveIn more_objects more_areas k o c → HoldsArea Can M g new o c
    last k o c at is l = ⊎_elim
        (λ h. absurd (omega (arith, at, both.many, get_below objects k o h)))
        (λ h. (let same : a ≡ c = cc in subst (λ x. HoldsArea Can M g new x c) h.1 (subst (λ x. HoldsArea Can M g new (M.count mem) x) same newest)))
        (get_append_cases objects (M.count mem) o k l.object)

    pub one_more : Both Can M g more_objects more_areas new × (M.count new ≡ suc (M.count mem)) × ((q : ℕ) → q < M.count mem → Same m M mem new q)
    one_more = (
      record {
        many = omega (arith, length-append objects (M.count mem ∷ []), length-append areas (Live a ∷ []), both.many);
        made = made_before;
        apart = still_apart;
        holds = λ k o c l. ⊎_elim (λ h. old k o c h l) (λ h. last k o c h.0 h.1 l) (get_append_cases areas (Live a) (Live c) k l.live);
      },
      made.count,
      made.others,
    )

  pub areas_made : AreasMade m Can M g
  areas_made objects areas mem a both fits = one_more objects areas mem a both fits

  -- ---- the ends of blocks and calls

  pub blocks_ended : BlocksEnded m Can M g
  blocks_ended objects areas mem k n both before =
      let left = law.leaves mem n in
      both_kept m Can M g objects areas (mark_from k areas) mem (M.leave n mem) both (length_mark k areas) (omega (arith, left.count))
      (λ j o a l. (let e = live_unmarked areas k j a l.live in (record { live = e.live; object = l.object }, left.others o (before j o e.before l.object))))

  pub calls_ended : CallsEnded m Can M g
  calls_ended objects areas mem k both =
      both_kept m Can M g objects areas (take_from k areas) mem mem both (length_take k areas) (omega arith)
      (λ j o a l. (record { live = (live_untaken areas k j a l.live).live; object = l.object }, itself m Can M g mem o))

  -- ---- objects of no area

  pub others_made : OthersMade m Can M g
  others_made objects areas mem new c a us both made =
      both_kept m Can M g objects areas areas mem new both refl (omega (arith, made.count)) (λ k o b l. (l, made.others o (both.made k o l.object)))

  pub others_written : OthersWritten m Can M g
  others_written objects areas mem new o x n both none e =
      both_kept m Can M g objects areas areas mem new both refl (omega (arith, law.count_stays mem new o x n e))
      (λ k q b l. (l, law.others_stay mem new o x n q e (λ same. none k (l.object ∙ ap Some same))))
