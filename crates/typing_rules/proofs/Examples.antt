-- The small module stands for its core, and what is not well typed has no case.
use Rattle.std.proofs.Common.{◌≡◌, pos, [], ◌∷◌, Some, refl, sym, ◌∙◌, ap}
use Rattle.ivory_tree.specs.Syntax as syntax
use Rattle.area_types.specs.Syntax.{Int}
use Rattle.area_types.specs.declared.region.Region.TheVariants.{Param, Own}
use Rattle.region_check.specs.Calls.{reference_of}
use Rattle.iv_words.specs.declared.IntKind.TheVariants.{U8}
use Rattle.source_types.specs.Environments.{nothing_earlier}
use Rattle.source_types.specs.Items.{after, item_names}
use Rattle.core_tree.specs.Syntax as core
use Rattle.std.proofs.lemmas.List.Sorted.{IsPermutation-refl}
use Rattle.typing_rules.specs.Sites.{unchecked}
use Rattle.typing_rules.specs.Items.{behind_header}
use Rattle.typing_rules.specs.WellTyped.{at_header}
use Rattle.typing_rules.specs.Environments.{Env}
use Rattle.typing_rules.specs.Expressions as rule
use Rattle.typing_rules.specs.Expressions.{Has}
use Rattle.typing_rules.specs.Statements as stands
use Rattle.typing_rules.specs.Items as item
use Rattle.typing_rules.specs.WellTyped as module_rule
use Rattle.typing_rules.specs.Examples.{added, added_header, added_proc, sum, sum_label, sum_core, AddedStands, LiteralsWantTypes, LiteralsFit, OwnStays, BreaksAreAllowed, ReturnsEnd, CallsGoBack, IndicesAreNotWritten}

some_injective : {A : Type 0} {x y : A} → Some x ≡ Some y → x ≡ y
some_injective h = cc

pub literals_want_types : LiteralsWantTypes
literals_want_types env s v c h = elim h [ ]

pub literals_fit : LiteralsFit
literals_fit env s c (rule.has h e) = literals_want_types env s (pos 256) c h
literals_fit env s c (rule.literal h) = let no : ⊥ = cc in no

pub breaks_are_allowed : BreaksAreAllowed
breaks_are_allowed env after s c h (stands.break_stands g) = let no : ⊥ = cc in no

pub returns_end : ReturnsEnd
returns_end env last s next_one rest p (stands.more_stand h falls more) = let no : ⊥ = cc in no

pub calls_go_back : CallsGoBack
calls_go_back env call c result h k = let e = k.earlier in let no : ⊥ = cc in no

pub own_stays : OwnStays
own_stays env area e c own (stands.value n u) = let no : ⊥ = cc in no
own_stays env area e c own (stands.reference w h g f) =
    let given = sym g ∙ ap reference_of own in
    let no : Own ≡ Param 0 = ap (λ r. r.region) (sym (some_injective given)) ∙ f.region ∙ ap (λ r. r.region) (sym (some_injective w)) in
    let absurdity : ⊥ = cc in absurdity

-- ---- the module

-- in the body, where both parameters are in scope
in_added : Env
in_added = item.in_body (behind_header (at_header (item_names added.items) nothing_earlier added_header) added_proc (Int U8 ∷ Int U8 ∷ []) (Some (Int U8)))

sum_has : Has in_added sum sum_core
unfolding in_added
sum_has = rule.by_left {c = core.Local (unchecked (Int U8)) 0} {d = core.Local (unchecked (Int U8)) 1} {label = sum_label} refl (rule.local refl) (rule.has (rule.local refl) refl) refl (record { ty = refl; checks = record { kinds = refl; places = refl } })

pub added_stands : AddedStands
unfolding in_added
added_stands = record {
  end = after nothing_earlier (syntax.Procedure added_proc);
  items = module_rule.procedure (record {
    types = Int U8 ∷ Int U8 ∷ [];
    last = in_added;
    header = record {
      unused = refl;
      params_stand = item.more_params refl refl (record { exists = refl; small = refl }) (item.more_params refl refl (record { exists = refl; small = refl }) item.no_params);
      result_stands = item.a_result (record { exists = refl; small = refl });
    };
    plain = λ h. refl;
    contracts = item.no_contracts;
    body = stands.braces (stands.last_stands (stands.return_stands refl (stands.value refl (rule.has sum_has refl))));
    ends = λ h. refl;
    name = refl;
    exported = refl;
    params = refl;
    locals = refl;
  }) module_rule.no_items;
  structs = refl;
  words = refl;
  sites = sum_label.checks;
  numbered = record { all = IsPermutation-refl _; ascending = (tt, tt); numbered = (refl, tt) };
}

pub ruleset examples = (added_stands, own_stays, literals_want_types, literals_fit, breaks_are_allowed, returns_end, calls_go_back)

pub indices_are_not_written : IndicesAreNotWritten
indices_are_not_written = refl
