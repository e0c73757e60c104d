-- The checks that are made of a text stand in the order of their tokens; so their numbers run on through all procedures.
use Rattle.std.proofs.Common.{◌≡◌, List, [], ◌∷◌, map, flat_map, subst}
use Rattle.ivory_tree.specs.Syntax.{ModuleSyntax}
use Rattle.ivory_tree.specs.Formed.{Formed}
use Rattle.core_tree.specs.Syntax.{ProcCore}
use Rattle.core_tree.specs.Checks.{proc_checks}
use Rattle.core_tree.specs.Sites.{IsFirstOf, Ascends}
use Rattle.core_tree.specs.declared.Check.{Check}
use Rattle.source_types.specs.Environments.{nothing_earlier}
use Rattle.source_types.specs.Items.{item_names}
use Rattle.typing_rules.specs.Made.{procs_of, made}
use Rattle.typing_rules.specs.Numbers.{numbered_by}
use Rattle.typing_rules.specs.OtherChecks.{proc_by}
use Rattle.typing_rules.specs.WellTyped.{Stands}
use Rattle.typing_laws.proofs.Ranks.{in_order_are_sites}
use Rattle.typing_laws.proofs.Relabelled.{procs_checks_by}
use Rattle.typing_laws.proofs.Rising.{rising_ascends, items_inside}
use Rattle.check_numbers.specs.NumberedParts.{procs_from}
use Rattle.check_numbers.proofs.InARow.{numbered_in_a_row}

first_back : (us : List Check) (c : Check) (cs : List Check) → IsFirstOf (numbered_by us c) (map (numbered_by us) cs) → IsFirstOf c cs
first_back us c [] h = tt
first_back us c (d ∷ ds) h = h

-- numbers have no part in the order
ascends_back : (us cs : List Check) → Ascends (map (numbered_by us) cs) → Ascends cs
ascends_back us [] h = tt
ascends_back us (c ∷ cs) h = (first_back us c cs h.0, ascends_back us cs h.1)

pub made_in_a_row : (m : ModuleSyntax) → Formed m → Stands m (made m) → (made m).procs ≡ procs_from 0 (procs_of (item_names m.items) nothing_earlier m.items)
made_in_a_row m f s =
    let ps : List ProcCore = procs_of (item_names m.items) nothing_earlier m.items in
    let us : List Check = flat_map proc_checks ps in
    let all : List Check = flat_map proc_checks (map (proc_by (numbered_by us)) ps) in
    let rising : Ascends all = rising_ascends 0 _ all (items_inside s.items f.items 0 f.places) in
    let ascending : Ascends us = ascends_back us us (subst Ascends (procs_checks_by (numbered_by us) ps) rising) in
    numbered_in_a_row ps (in_order_are_sites us ascending).numbered
