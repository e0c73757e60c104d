-- How small modules, scripts and what comes of them are written in the examples.
use Rattle.std.specs.Prelude.{ℕ, ℤ, pos, true, false, List, [], ◌∷◌, map, Option, Some, None, ◌++◌, codes}
use Rattle.std.specs.List.{zip}
use Rattle.run_records.specs.declared.AreaCells.{AreaCells}
use Rattle.run_records.specs.declared.End.{End}
use Rattle.run_records.specs.declared.End.TheVariants.{Going}
use Rattle.run_records.specs.declared.Event.{Event}
use Rattle.run_records.specs.declared.Event.TheVariants.{Ret}
use Rattle.run_records.specs.declared.Outcome.{Outcome}
use Rattle.run_records.specs.declared.Script.{Script}
use Rattle.ivory_tree.specs.declared.BinOp.{BinOp}
use Rattle.ivory_tree.specs.declared.PrefixOp.TheVariants.{Deref}
use Rattle.area_types.specs.Syntax.{Name, ValueType, Ref, Area, Stored}
use Rattle.area_types.specs.declared.region.Region.TheVariants.{Global}
use Rattle.core_tree.specs.declared.Check.{Check}
use Rattle.core_tree.specs.declared.SiteKind.{SiteKind}
use Rattle.core_tree.specs.Syntax.{ModuleCore, AreaCore, ImportCore, ProcCore, ParamCore, Label, ExprCore, Number, Local, AreaName, Prefix, Binary, Whole, StmtCore, StmtsCore, NoStmts, MoreStmts}

-- ---- expressions

abbrev pub plain : ValueType → Label
plain ty = record { ty = ty; checks = [] }

abbrev pub site : ℕ → SiteKind → Check
site number kind = record { site = number; kind = kind; span = record { start = 0; end = 0 } }

abbrev pub with_checks : ValueType → List Check → Label
with_checks ty checks = record { ty = ty; checks = checks }

abbrev pub constant : ValueType → ℕ → ExprCore
constant ty v = Number (plain ty) (pos v)

abbrev pub local : ValueType → ℕ → ExprCore
local ty number = Local (plain ty) number

abbrev pub area : Area → ℕ → ExprCore
area a number = AreaName (plain (Ref false Global a)) number

-- `*e`
abbrev pub read : ValueType → ExprCore → ExprCore
read ty e = Prefix (plain ty) Deref e

abbrev pub with_op : ValueType → List Check → BinOp → ExprCore → ExprCore → ExprCore
with_op ty checks op left right = Binary (with_checks ty checks) op left right

-- a chain with all its links
abbrev pub chain : ValueType → List Check → BinOp → ExprCore → ExprCore → ExprCore
chain ty checks op left right = Whole (plain ty) (with_op ty checks op left right)

-- ---- modules

abbrev pub stmts : List StmtCore → StmtsCore
stmts [] = NoStmts
stmts (s ∷ ss) = MoreStmts s (stmts ss)

abbrev pub param : Name × ValueType → ParamCore
param x = record { name = x.0; ty = x.1 }

-- an exported procedure, with the types of its parameters, at most three, and of its further locals
abbrev pub procedure : Name → List ValueType → Option ValueType → List ValueType → List StmtCore → ProcCore
procedure name params result more body = record {
  name = name;
  exported = true;
  params = map param (zip (codes "x" ∷ codes "y" ∷ codes "z" ∷ []) params);
  result = result;
  contracts = [];
  locals = params ++ more;
  body = stmts body;
}

abbrev pub stored_area : Name → ValueType → List ℤ → AreaCore
stored_area name ty first = record { name = name; constant = false; area = Stored ty; first = first }

abbrev pub module_of : List AreaCore → List ImportCore → List ProcCore → ModuleCore
module_of areas imports procs = record { structs = record { structs = []; words = [] }; layouts = []; areas = areas; imports = imports; procs = procs }

-- ---- scripts, and what comes of them

abbrev pub script : List (Name × List ℤ) → List (List ℤ) → Script
script calls replies = record {
  calls = map (λ c. record { name = c.0; values = c.1; line = 1 }) calls;
  replies = map (λ vs. record { values = vs; line = 1 }) replies;
}

abbrev pub shown : List Event → End → List AreaCells → Outcome
shown events end areas = record { events = events; end = end; areas = areas }

abbrev pub going : List Event → Outcome
going events = shown events Going []

abbrev pub cells_of : Name → List ℤ → AreaCells
cells_of name cells = record { name = name; cells = cells }

abbrev pub ret : Name → Event
ret name = Ret name None

abbrev pub gave : Name → ℤ → Event
gave name v = Ret name (Some v)
