-- What the code knows at a place, as the typing sees it. It agrees with what the rules see there: each name in scope has a type and a number.
use Rattle.std.specs.Prelude.{◌≡◌, ℕ, List, [], ◌∷◌, map, length, option_map}
use Rattle.area_types.specs.View.{type_of}
use Rattle.typing_rules.specs.Environments as typing
use Rattle.typing_rules.specs.Contexts as typing_view
use Rattle.typing_rules.specs.ExpressionCores.{type_or}
use Rattle.rule_checker.specs.Contexts as checker
use Rattle.rule_checker.specs.Contexts.{earlier_of}
use Rattle.rule_checker.specs.declared.Local.{Local}
use Rattle.core_maker.specs.declared.place.Place.{Place}

-- names in scope, with their numbers
abbrev pub scope_of : List Local → List ℕ → List typing.Local
scope_of [] ns = []
scope_of (l ∷ ls) [] = []
scope_of (l ∷ ls) (n ∷ ns) = record { name = l.name; number = n; ty = type_or (option_map type_of l.ty) } ∷ scope_of ls ns

abbrev pub env_of : Place → typing.Env
env_of p = record {
  earlier = earlier_of p.context.items;
  names = p.context.names;
  regions = p.context.regions;
  result = option_map type_of p.context.result;
  in_ensures = p.context.in_ensures;
  allowed = p.context.allowed;
  scope = scope_of p.context.scope p.numbers;
  locals = map type_of p.locals;
}

pub record Agrees (p : Place) : Type 0 where
  pub known : typing_view.context_of (env_of p) ≡ checker.context_of p.context
  pub numbered : length p.numbers ≡ length p.context.scope
