use Rattle.std.proofs.Common.{◌≡◌, [], drop, take}
use Rattle.c_scopes.specs.StructViews.{structs_view}
use Rattle.c_ast.specs.Scalars.{metric_of}
use Rattle.c_ast.specs.Structs.{row_of, table}
use Rattle.c_text.specs.Spelling.{member_text}
use Rattle.type_trees.specs.Layouts.{align_row, end_row}
use Rattle.c_rules.specs.Sizes.{capped}
use Rattle.c_scopes.proofs.Rows.{Going}
use Rattle.c_rules.proofs.MemberRows.{item, next}
use Rattle.c_rules.proofs.structs.check_members.Given as goal

abbrev pub invariant-loop-i : goal.invariant-loop-i
invariant-loop-i l = record {
  going : Going member_text (item l.names.target (structs_view l.names.structs)) next l.initial.walk l.walk [] (take l.i l.members) l.members (drop l.i l.members);
  end : l.end ≡ capped (end_row (metric_of l.names.target) (row_of (table [] (structs_view l.names.structs)) (take l.i l.members)) 0);
  align : l.align ≡ align_row (metric_of l.names.target) (row_of (table [] (structs_view l.names.structs)) (take l.i l.members));
}
