-- What the rules of faults know at a place where a program is typed: the same, with the number of no local. Each type exists there.
use Rattle.std.specs.Prelude.{map, Some, is_some}
use Rattle.rule_faults.specs.Contexts as faults
use Rattle.rule_faults.specs.Contexts.{Context}
use Rattle.typing_rules.specs.Environments.{Env, Local}

abbrev pub local_of : Local → faults.Local
local_of l = record { name = l.name; ty = Some l.ty }

abbrev pub context_of : Env → Context
context_of env = record {
  earlier = env.earlier;
  names = env.names;
  regions = env.regions;
  gives = is_some env.result;
  result = env.result;
  in_ensures = env.in_ensures;
  allowed = env.allowed;
  scope = map local_of env.scope;
}
