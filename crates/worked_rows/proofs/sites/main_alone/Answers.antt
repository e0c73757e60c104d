use Rattle.std.proofs.Common.{false}
use Rattle.core_tree.proofs.Examples.{bare_is_valid}
use Rattle.worked_rows.proofs.sites.main_alone.Goals as goal

pub new-requires-6 : goal.new-requires-6
new-requires-6 c = rw (c.in_ok-push.ensures.ok, c.new-procs.ensures, c.new-structs.ensures, c.new-5.ensures, c.new-areas.ensures, c.new-imports.ensures, c.new.ensures, c.new-2.ensures, c.new-3.ensures, c.new-4.ensures) (bare_is_valid _ false)
