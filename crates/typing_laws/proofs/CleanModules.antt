-- A module that stands for a core has no fault.
use Rattle.std.proofs.Common.{◌≡◌, List, ◌∷◌, ◌++◌, None, true, false, refl, sym, ◌∙◌, All}
use Rattle.std.proofs.lemmas.List.Elements.{All-head, All-tail}
use Rattle.ivory_tree.specs.Syntax as syntax
use Rattle.ivory_tree.specs.Syntax.{Word, ItemSyntax, ModuleSyntax}
use Rattle.ivory_tree.specs.Formed.{Formed, FormedItem}
use Rattle.bit_data.specs.declared.BitLayout.{BitLayout}
use Rattle.core_tree.specs.Syntax.{AreaCore, ImportCore, ProcCore, ModuleCore}
use Rattle.source_types.specs.Environments.{Earlier}
use Rattle.source_types.specs.Items.{after}
use Rattle.source_types.specs.Written.{callee_in}
use Rattle.rule_faults.specs.Contexts as faults
use Rattle.rule_faults.specs.Nodes.{AnItem}
use Rattle.rule_faults.specs.ItemRows.{within_item, items_row, module_row}
use Rattle.rule_faults.specs.FirstFault.{first_of, first_fault}
use Rattle.rule_faults.proofs.Found.{all_sound, complete}
use Rattle.typing_rules.specs.WellTyped as module_rule
use Rattle.typing_rules.specs.WellTyped.{StandItems, Stands, WellTyped}
use Rattle.typing_laws.specs.Laws.{Faulty, StandingIsFaultless}
use Rattle.typing_laws.proofs.Quiet.{quiet_cons, quiet_append}
use Rattle.typing_laws.proofs.QuietNodes.{InItem, quiet_item}
use Rattle.typing_laws.proofs.Callees.{AllDetermined, determined_last, header_determined}
use Rattle.typing_laws.proofs.CleanItems.{bits_clean, bits_filled, fields_clean, struct_small, global_clean, import_clean, proc_clean}

item_clean : (names : List Word) (earlier : Earlier) (i : ItemSyntax) (items : List ItemSyntax) → InItem (AnItem earlier i) → first_of (within_item (faults.outside names earlier) i) ≡ None → first_of (items_row names (after earlier i) items) ≡ None
    → first_of (items_row names earlier (i ∷ items)) ≡ None
item_clean names earlier i items h within rest =
    quiet_cons (AnItem earlier i) (within_item (faults.outside names earlier) i ++ items_row names (after earlier i) items) (quiet_item earlier i h)
    (quiet_append (within_item (faults.outside names earlier) i) (items_row names (after earlier i) items) within rest)

items_clean : {names : List Word} {earlier end : Earlier} {items : List ItemSyntax} {bs : List BitLayout} {as' : List AreaCore} {is : List ImportCore} {ps : List ProcCore} → StandItems names earlier items end bs as' is ps
    → AllDetermined earlier.callees → All FormedItem items → first_of (items_row names earlier items) ≡ None
items_clean module_rule.no_items all formed = refl
items_clean {names = names} {earlier = earlier} (module_rule.bits {i = i} {items = items} {b = b} h more) all formed =
    item_clean names earlier (syntax.BitsData i) items (refl, h.unused, refl, bits_filled earlier i b h) (bits_clean earlier i b h) (items_clean more all (All-tail FormedItem (syntax.BitsData i) items formed))
items_clean {names = names} {earlier = earlier} (module_rule.struct {i = i} {items = items} h more) all formed =
    item_clean names earlier (syntax.Struct i) items (refl, h.unused, struct_small earlier i h, refl) (fields_clean h.stand (All-head FormedItem (syntax.Struct i) items formed).1)
    (items_clean more all (All-tail FormedItem (syntax.Struct i) items formed))
items_clean {names = names} {earlier = earlier} (module_rule.area {i = i} {items = items} {a = a} h more) all formed =
    item_clean names earlier (syntax.Global i) items (h.unused, refl, refl, refl) (global_clean names earlier i a h (All-head FormedItem (syntax.Global i) items formed).0)
    (items_clean more all (All-tail FormedItem (syntax.Global i) items formed))
items_clean {names = names} {earlier = earlier} (module_rule.import {h = h} {items = items} {i = i} s more) all formed =
    item_clean names earlier (syntax.Import h) items (s.header.unused, refl, refl, refl) (import_clean names earlier h i s (All-head FormedItem (syntax.Import h) items formed))
    (items_clean more (determined_last earlier.callees (callee_in earlier true h) all (header_determined names earlier true h i.params s.header.params_stand)) (All-tail FormedItem (syntax.Import h) items formed))
items_clean {names = names} {earlier = earlier} (module_rule.procedure {p = p} {items = items} {c = c} s more) all formed =
    item_clean names earlier (syntax.Procedure p) items (s.header.unused, refl, refl, refl) (proc_clean names earlier p c s all (All-head FormedItem (syntax.Procedure p) items formed))
    (items_clean more (determined_last earlier.callees (callee_in earlier false p.header) all (header_determined names earlier false p.header s.types s.header.params_stand)) (All-tail FormedItem (syntax.Procedure p) items formed))

pub standing_is_clean : (m : ModuleSyntax) (core : ModuleCore) → Formed m → Stands m core → first_fault m ≡ None
standing_is_clean m core formed stands = items_clean stands.items tt formed.items

pub standing_is_faultless : StandingIsFaultless
standing_is_faultless m core formed stands = all_sound (module_row m) (standing_is_clean m core formed stands)

pub not_both : (m : ModuleSyntax) → Formed m → WellTyped m → Faulty m → ⊥
not_both m formed typed faulty =
    let e = sym (standing_is_clean m typed.core formed typed.stands) ∙ complete (module_row m) faulty.rule faulty.span faulty.fault in
    let no : ⊥ = cc in no
