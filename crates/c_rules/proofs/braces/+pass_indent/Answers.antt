use Rattle.std.proofs.Common.{sym}
use Rattle.c_rules.specs.Depths.{depth}
use Rattle.c_rules.proofs.BraceRows.{in_is, indent_more}
use Rattle.c_scopes.proofs.Walks.{passed, as_text}
use Rattle.c_rules.proofs.braces.+pass_indent.Goals as goal

pub returns-in-In : goal.returns-in-In
returns-in-In t c = rw c.in-In.is (rw (in_is c.in-In.outer) (as_text (sym (indent_more (depth c.in-In.outer.now))) (passed c.pass_indent.ensures c.pass.ensures)))
