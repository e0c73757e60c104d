-- No more was read than was wanted.
use Rattle.std.proofs.Common.{◌≤◌, length}
use Rattle.iv_base.proofs.file_store.read_front.Given as goal

abbrev pub invariant-loop : goal.invariant-loop
invariant-loop g l = length l.front ≤ l.limit
