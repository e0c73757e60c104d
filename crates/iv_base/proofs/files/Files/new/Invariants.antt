-- The files that are left come before those that are in the table.
use Rattle.std.proofs.Common.{◌≡◌, ℕ, List, length}
use Rattle.iv_base.specs.Stores.{file_of}
use Rattle.iv_base.specs.Tables.{map_of}
use Rattle.iv_base.proofs.Tables.{or_else}
use Rattle.iv_base.proofs.files.Files.new.Given as goal

abbrev pub invariant-loop-file : goal.invariant-loop-file
invariant-loop-file l = (name : List ℕ) → or_else (file_of l.left name) (map_of l.table name) ≡ file_of l.fn.files name

abbrev pub decreases-loop-file : goal.decreases-loop-file
decreases-loop-file l = length l.left
