-- A module that breaks no rule is well typed: its items stand, its checks stand in the order of the text, and so number themselves.
use Rattle.std.proofs.Common.{◌≡◌, ℕ, List, map, flat_map, Option, Some, None, ◌⊎◌, inl, inr, refl, sym, ◌∙◌, ap, subst}
use Rattle.iv_words.specs.declared.Span.{Span}
use Rattle.ivory_tree.specs.Syntax.{ModuleSyntax}
use Rattle.ivory_tree.specs.Formed.{Formed}
use Rattle.core_tree.specs.Syntax.{ProcCore, ModuleCore}
use Rattle.core_tree.specs.Checks.{proc_checks}
use Rattle.core_tree.specs.Sites.{AreSitesOf}
use Rattle.core_tree.specs.declared.Check.{Check}
use Rattle.source_types.specs.Environments.{nothing_earlier, words}
use Rattle.source_types.specs.Items.{item_names}
use Rattle.rule_faults.specs.ItemRows.{module_row}
use Rattle.rule_faults.specs.FirstFault.{first_fault}
use Rattle.rule_faults.proofs.Found.{found, none_first}
use Rattle.typing_rules.specs.WellTyped.{Stands, WellTyped}
use Rattle.typing_rules.specs.OtherChecks.{proc_by}
use Rattle.typing_rules.specs.Numbers.{numbered_by}
use Rattle.typing_rules.specs.Tables.{table_of}
use Rattle.typing_laws.specs.Laws.{Faulty, FaultlessIsTyped, FaultlessIsMade, ExactlyOne}
use Rattle.typing_laws.proofs.CleanModules.{not_both}
use Rattle.typing_laws.proofs.Made.{Given}
use Rattle.typing_laws.proofs.Relabelled.{procs_checks_by}
use Rattle.typing_laws.proofs.Ranks.{in_order_are_sites}
use Rattle.typing_laws.proofs.TablesSay.{structs_say}
use Rattle.typing_laws.proofs.OneCore.{standing_is_made}
use Rattle.typing_laws.proofs.Renumbered.{items_kept}
use Rattle.typing_laws.proofs.Rising.{rising_ascends, items_inside}
use Rattle.typing_laws.proofs.TypedItems.{items_typed}

-- ---- the core

nothing_given : Given nothing_earlier
nothing_given = record { structs = tt; areas = tt; callees = tt }

numbered_sites : (ps : List ProcCore) (us : List Check) → us ≡ flat_map proc_checks ps → AreSitesOf (map (numbered_by us) us) (map (numbered_by us) us) → AreSitesOf (flat_map proc_checks (map (proc_by (numbered_by us)) ps)) (map (numbered_by us) us)
numbered_sites ps us e h = subst (λ cs. AreSitesOf cs (map (numbered_by us) us)) (ap (map (numbered_by us)) e ∙ sym (procs_checks_by (numbered_by us) ps)) h

well_typed : (m : ModuleSyntax) → Formed m → first_fault m ≡ None → WellTyped m
well_typed m f h =
    let t = items_typed (item_names m.items) m.items nothing_earlier nothing_given tt f.items h in
    let us = flat_map proc_checks t.procs in
    let ascending = rising_ascends 0 _ us (items_inside t.stand f.items 0 f.places) in
    let core : ModuleCore = record { structs = table_of t.end.structs (words t.end); layouts = t.layouts; areas = t.areas; imports = t.imports; procs = map (proc_by (numbered_by us)) t.procs } in
    record {
      core = core;
      stands = record {
        end = t.end;
        items = items_kept us t.stand;
        structs = structs_say t.end.structs;
        words = refl;
        sites = map (numbered_by us) us;
        numbered = numbered_sites t.procs us refl (in_order_are_sites us ascending);
      };
    }

pub faultless_is_typed : FaultlessIsTyped
faultless_is_typed m f h = well_typed m f (none_first (module_row m) h)

pub faultless_is_made : FaultlessIsMade
faultless_is_made m f h = let w = faultless_is_typed m f h in subst (Stands m) (standing_is_made m w.core w.stands) w.stands

either_one : (m : ModuleSyntax) → Formed m → WellTyped m ⊎ Faulty m
either_one m f = go (first_fault m) refl
  where
    go : (o : Option (ℕ × Span)) → first_fault m ≡ o → WellTyped m ⊎ Faulty m
    go None e = inl (well_typed m f e)
    go (Some p) e = inr (record { rule = p.0; span = p.1; fault = found (module_row m) p.0 p.1 e })

pub exactly_one : ExactlyOne
exactly_one m f = (either_one m f, not_both m f)
