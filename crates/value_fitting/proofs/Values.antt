-- What values that fit are: references to parts of live areas, or numbers.
use Rattle.std.proofs.Common.{Bool, true, false, refl, ◌∙◌, ap, subst}
use Rattle.std.specs.Option.{option_and_then}
use Rattle.int_ops.specs.Operators.{truth}
use Rattle.type_trees.specs.Values.{at}
use Rattle.area_types.specs.Syntax.{Truth}
use Rattle.area_types.specs.Tables.{written_out}
use Rattle.core_tree.specs.Syntax.{ModuleCore}
use Rattle.core_meaning.specs.Values.{Num, Ref}
use Rattle.core_meaning.specs.Areas.{Area, Areas}
use Rattle.region_soundness.specs.Fitting.{Entry, RefersAs, ValueFits}
use Rattle.region_soundness.proofs.Lasting.{there, leads_to}
use Rattle.region_soundness.proofs.Trees.{part_held}
use Rattle.value_fitting.specs.Laws.{ReferencesRefer, ReferredPartsFit, PlainValuesAreNumbers}

pub references_refer : ReferencesRefer
references_refer core entry areas constant region area (Num v) h = let no : ⊥ = cc in absurd no
references_refer core entry areas constant region area (Ref k path) h =
    record { number = k; path = path; is = refl; refers = h; type = leads_to core entry areas (record { constant = constant; region = region; area = area }) k path h }

pub referred_parts_fit : ReferredPartsFit
referred_parts_fit core entry areas fit r k path h =
    let p = part_held core.structs h.area.ty path (written_out core.structs r.area) h.area.held h.leads (fit k h.area (there areas k h.area h.live)) in
    record { held = p.0; is = ap (option_and_then (λ (a : Area). at a.held path)) (there areas k h.area h.live) ∙ p.1; fits = p.2 }

pub plain_values_are_numbers : PlainValuesAreNumbers
plain_values_are_numbers core entry areas ty plain (Num v) h = record { number = v; is = refl; fits = h }
plain_values_are_numbers core entry areas ty plain (Ref k path) h = absurd (subst (λ o. RefersAs core entry areas o k path) plain h)

pub truth_fits : (core : ModuleCore) (entry : Entry) (areas : Areas) (b : Bool) → ValueFits core entry areas Truth (Num (truth b))
truth_fits core entry areas true = refl
truth_fits core entry areas false = refl
