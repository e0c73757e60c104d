-- The module stands for its core.
use Rattle.std.proofs.Common.{ℕ, List, [], ◌∷◌, Some, None, false, refl}
use Rattle.std.proofs.lemmas.List.Sorted.{IsPermutation-refl}
use Rattle.ivory_tree.specs.Syntax as syntax
use Rattle.area_types.specs.Syntax.{Truth}
use Rattle.area_types.specs.declared.region.Region.TheVariants.{Param, Own}
use Rattle.source_types.specs.Environments.{Earlier, nothing_earlier}
use Rattle.source_types.specs.Written.{callee_in}
use Rattle.source_types.specs.Items.{after, item_names}
use Rattle.typing_rules.specs.Environments.{Env, with_local, after_block}
use Rattle.typing_rules.specs.Expressions as rule
use Rattle.typing_rules.specs.Calls as calls
use Rattle.typing_rules.specs.Initializers as fills
use Rattle.typing_rules.specs.Statements as stands
use Rattle.typing_rules.specs.Items as item
use Rattle.typing_rules.specs.Items.{StandsArea, StandsProc, behind_header, in_body}
use Rattle.typing_rules.specs.WellTyped as module_rule
use Rattle.typing_rules.specs.WellTyped.{outside, at_header}
use Rattle.typing_rules.specs.Picked.{out, pick, pick_header, go, go_header, picked, out_core, pick_core, go_core, byte_at, PickedStands}
use Rattle.std.specs.Prelude.{codes}

abbrev names : List (List ℕ)
names = item_names picked.items

abbrev after_out : Earlier
after_out = after nothing_earlier (syntax.Global out)

abbrev after_pick : Earlier
after_pick = after after_out (syntax.Procedure pick)

out_stands : StandsArea (outside names nothing_earlier) out out_core
out_stands = record { unused = refl; name = refl; constant = refl; area = record { exists = refl; small = refl }; first = item.zero }

abbrev in_pick : Env
in_pick = in_body (behind_header (at_header names after_out pick_header) pick (byte_at (Param 0) ∷ byte_at (Param 0) ∷ []) (Some (byte_at (Param 0))))

pick_stands : StandsProc (at_header names after_out pick_header) pick pick_core
pick_stands = record {
  types = byte_at (Param 0) ∷ byte_at (Param 0) ∷ [];
  last = in_pick;
  header = record {
    unused = refl;
    params_stand = item.more_params refl refl (record { exists = refl; small = refl }) (item.more_params refl refl (record { exists = refl; small = refl }) item.no_params);
    result_stands = item.a_result (record { exists = refl; small = refl });
  };
  plain = λ h. let no : ⊥ = cc in absurd no;
  contracts = item.no_contracts;
  body = stands.braces (stands.last_stands (stands.return_stands refl (stands.reference refl (rule.local refl) refl (record { region = refl; area = refl; access = refl }))));
  ends = λ h. refl;
  name = refl;
  exported = refl;
  params = refl;
  locals = refl;
}

abbrev in_go : Env
in_go = in_body (behind_header (at_header names after_pick go_header) go (Truth ∷ []) None)

-- after the `alloc`, and after the `let` within the `if`
abbrev with_p : Env
with_p = with_local in_go (codes "p") (byte_at Own)

abbrev with_x : Env
with_x = with_local with_p (codes "x") (byte_at Own)

go_stands : StandsProc (at_header names after_pick go_header) go go_core
go_stands = record {
  types = Truth ∷ [];
  last = after_block with_p with_x;
  header = record { unused = refl; params_stand = item.more_params refl refl (record { exists = refl; small = refl }) item.no_params; result_stands = item.no_result };
  plain = λ h. refl;
  contracts = item.no_contracts;
  body = stands.braces
      (stands.more_stand (stands.alloc_stands refl refl (record { exists = refl; small = refl }) (stands.filled (fills.stored (rule.literal refl)))) refl
      (stands.more_stand (stands.if_stands (rule.has (rule.local refl) refl) (stands.braces
      (stands.more_stand (stands.let_call_stands refl (record {
        callee = callee_in after_out false pick_header;
        regions = λ j. Own;
        earlier = refl;
        number = refl;
        kind = refl;
        fit = calls.reference_arg refl (rule.local refl) refl (record { region = refl; access = refl; area = refl }) (calls.reference_arg refl (rule.local refl) refl (record { region = refl; access = refl; area = refl }) calls.no_args);
        gives = refl;
      })) refl
      (stands.last_stands (stands.store_stands (rule.local refl) refl (rule.literal refl)))))) refl
      (stands.last_stands (stands.store_stands (rule.area_name refl refl refl refl) refl (rule.has (rule.read (rule.local refl) refl) refl)))));
  ends = λ h. let no : ⊥ = cc in absurd no;
  name = refl;
  exported = refl;
  params = refl;
  locals = refl;
}

pub picked_stands : PickedStands
picked_stands = record {
  end = after after_pick (syntax.Procedure go);
  items = module_rule.area out_stands (module_rule.procedure pick_stands (module_rule.procedure go_stands module_rule.no_items));
  structs = refl;
  words = refl;
  sites = [];
  numbered = record { all = IsPermutation-refl []; ascending = tt; numbered = tt };
}

pub ruleset picked_law = picked_stands
