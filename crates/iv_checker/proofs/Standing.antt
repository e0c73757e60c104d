-- What is made of a module without a fault is a core that it stands for.
use Rattle.std.proofs.Common.{◌≡◌, ℕ, ◌≤◌, List, map, None, IsTrue, sym, ◌∙◌, ap, ap₂, subst}
use Rattle.ivory_tree.specs.Syntax.{ModuleSyntax}
use Rattle.ivory_tree.specs.Formed.{Formed}
use Rattle.ivory_tree.specs.Nodes.{module_nodes, nodes_count}
use Rattle.area_types.specs.Syntax.{StructType}
use Rattle.area_types.specs.Tables.{Table, structs_of, is_table}
use Rattle.bit_data.specs.declared.BitLayout.{BitLayout}
use Rattle.core_tree.specs.Syntax.{AreaCore, ImportCore, ProcCore, ModuleCore}
use Rattle.core_tree.specs.Valid.{ValidCore}
use Rattle.source_types.specs.Environments.{Earlier, nothing_earlier, words}
use Rattle.source_types.specs.Items.{item_names}
use Rattle.rule_faults.specs.FirstFault.{first_fault}
use Rattle.rule_faults.proofs.Found.{none_is_faultless}
use Rattle.typing_rules.specs.Made.{end_of, made}
use Rattle.typing_rules.specs.WellTyped.{Stands}
use Rattle.typing_laws.proofs.ExactlyOne.{faultless_is_made}
use Rattle.typing_laws.proofs.TablesSay.{structs_say}
use Rattle.core_validity.proofs.Valid.{standing_is_valid}
use Rattle.item_maker.specs.Making.{SoFar, nothing_made}
use Rattle.iv_checker.specs.Made.{all_made, core_with}
use Rattle.iv_checker.proofs.InARow.{made_in_a_row}
use Rattle.iv_checker.proofs.Collected.{end_is, layouts_are, areas_are, imports_are, procs_are}

pub made_stands : (m : ModuleSyntax) → Formed m → first_fault m ≡ None → Stands m (made m)
made_stands m f h = faultless_is_made m f (none_is_faultless m h)

-- the same with another table that says the same structs and words
with_table : (m : ModuleSyntax) (table : Table) → Stands m (made m) → structs_of table ≡ (end_of nothing_earlier m.items).structs → table.words ≡ words (end_of nothing_earlier m.items)
    → Stands m (record (made m) { structs = table })
with_table m table s hs hw = record {
  end = s.end;
  items = s.items;
  structs = hs ∙ sym (structs_say (end_of nothing_earlier m.items).structs) ∙ s.structs;
  words = hw ∙ s.words;
  sites = s.sites;
  numbered = s.numbered;
}

abbrev of_parts : Table → List BitLayout → List AreaCore → List ImportCore → List ProcCore → ModuleCore
of_parts t bs as' is ps = record { structs = t; layouts = bs; areas = as'; imports = is; procs = ps }

parts_same : (t : Table) {bs cs : List BitLayout} {as' xs : List AreaCore} {is js : List ImportCore} {ps qs : List ProcCore} → bs ≡ cs → as' ≡ xs → is ≡ js → ps ≡ qs
    → of_parts t bs as' is ps ≡ of_parts t cs xs js qs
parts_same t {bs} {cs} {as'} {xs} {is} {js} {ps} {qs} b a i p =
    ap₂ (λ (x : List BitLayout) (y : List AreaCore). of_parts t x y is ps) b a ∙ ap₂ (λ (x : List ImportCore) (y : List ProcCore). of_parts t cs xs x y) i p

pub stands_for_made : (m : ModuleSyntax) (table : Table) → Formed m → first_fault m ≡ None → structs_of table ≡ (all_made m).earlier.structs → table.words ≡ words (all_made m).earlier
    → Stands m (core_with table (all_made m))
stands_for_made m table f h hs hw =
    let x : SoFar = nothing_made (item_names m.items) in
    let s : Stands m (made m) = made_stands m f h in
    let ends = end_is x m.items in
    subst (Stands m)
    (sym (parts_same table (layouts_are x m.items) (areas_are x m.items) (imports_are x m.items) (procs_are x m.items ∙ sym (made_in_a_row m f s))))
    (with_table m table s (hs ∙ ap (λ e. e.structs) ends) (hw ∙ ap words ends))

-- its structs are a table
pub table_fits : (m : ModuleSyntax) → Formed m → nodes_count (module_nodes m) ≤ 2_147_483_648 → first_fault m ≡ None → IsTrue (is_table (all_made m).earlier.structs (words (all_made m).earlier))
table_fits m f few h =
    let end : Earlier = end_of nothing_earlier m.items in
    let table = (standing_is_valid m (made m) f few (made_stands m f h)).table in
    let here : IsTrue (is_table end.structs (words end)) = subst (λ (ss : List StructType). IsTrue (is_table ss (words end))) (structs_say end.structs) table in
    subst (λ (e : Earlier). IsTrue (is_table e.structs (words e))) (sym (end_is (nothing_made (item_names m.items)) m.items)) here

-- and it is valid
pub made_is_valid : (m : ModuleSyntax) (table : Table) → Formed m → nodes_count (module_nodes m) ≤ 2_147_483_648 → first_fault m ≡ None → structs_of table ≡ (all_made m).earlier.structs → table.words ≡ words (all_made m).earlier
    → ValidCore (core_with table (all_made m))
made_is_valid m table f few h hs hw = standing_is_valid m (core_with table (all_made m)) f few (stands_for_made m table f h hs hw)
