-- The function of a procedure: its head, what it requires, its body, and what it ensures where it falls off its end.
use Rattle.std.specs.Prelude.{ℕ, Bool, not, if◌then◌else◌, length, map}
use Rattle.core_tree.specs.Falling.{stmts_fall}
use Rattle.core_tree.specs.Syntax.{ModuleCore, ProcCore}
use Rattle.c_ast.specs.declared.Target.{Target}
use Rattle.c_ast.specs.declared.Suffix.TheVariants.{Plain}
use Rattle.c_ast.specs.Syntax.{Number, Function}
use Rattle.c_ast.specs.View.{stmts_from}
use Rattle.lower_types.specs.Names.{item_name}
use Rattle.lower_types.specs.Types.{TypeTable, result_for}
use Rattle.lower_types.specs.Declarations.{param_for}
use Rattle.lower_values.specs.Frames.{Frame, allocated}
use Rattle.lower_statements.specs.Bodies.{Body, nothing, followed_by}
use Rattle.lower_statements.specs.Conditions.{contract_tests, required, ensured}
use Rattle.lower_statements.specs.Statements.{Home, stmts_body}

-- no result is named before there is one
abbrev pub frame_for : (skip : ℕ → Bool) → ModuleCore → Target → TypeTable → ProcCore → Frame
frame_for skip m t table p = record {
  core = m;
  table = table;
  target = t;
  skip = skip;
  params = map (λ x. x.name) p.params;
  objects = allocated p.body;
  outcome = Number 0 Plain;
}

abbrev pub home_of : TypeTable → ProcCore → Home
home_of table p = record { result = result_for table p.result; locals = p.locals; ensures = ensured p.contracts }

-- the tests at the end of a body that is fallen off
abbrev pub falling_off : Frame → ProcCore → ℕ → Body
falling_off f p k = if stmts_fall p.body then contract_tests f (ensured p.contracts) k else nothing k

abbrev pub body_for : Frame → Home → ProcCore → Body
body_for f home p =
    followed_by (contract_tests f (required p.contracts) (length p.locals)) (λ k. followed_by (stmts_body f home p.body k) (falling_off f p))

abbrev pub function_for : (skip : ℕ → Bool) → ModuleCore → Target → TypeTable → ProcCore → Function
function_for skip m t table p = record {
  hidden = not p.exported;
  name = item_name p.name;
  params = map (param_for table) p.params;
  result = result_for table p.result;
  body = stmts_from (body_for (frame_for skip m t table p) (home_of table p) p).stmts;
}
