-- A parameter, the scope with it, and the regions with one more name.
use Rattle.std.specs.Prelude.{List, [], ◌∷◌, ◌++◌, if◌then◌else◌}
use Rattle.ivory_tree.specs.Syntax.{Word, ParamSyntax}
use Rattle.source_types.specs.Environments.{has_word}
use Rattle.source_types.specs.Written.{type_in}
use Rattle.rule_faults.specs.Contexts.{Context, with_local}
use Rattle.rule_faults.specs.ExpressionRows.{type_row}
use Rattle.rule_faults.specs.Nodes.{Boundary, ForParam, Node, AParam}

abbrev pub param_row : Context → Boundary → ParamSyntax → List Node
param_row context boundary p = AParam context p ∷ type_row context.earlier context.regions (ForParam boundary) p.ty

abbrev pub with_param : Context → ParamSyntax → Context
with_param context p = with_local context p.name.text (type_in context.earlier context.regions p.ty)

abbrev pub with_region_name : List Word → Word → List Word
with_region_name names name = if has_word names name then names else names ++ name ∷ []
