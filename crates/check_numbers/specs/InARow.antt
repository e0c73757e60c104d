-- Two ways to number the checks of procedures: by the tokens that carry them, and one after another as they stand in the cores.
use Rattle.std.specs.Prelude.{◌≡◌, ℕ, List, map}
use Rattle.std.specs.List.{flat_map}
use Rattle.core_tree.specs.Syntax.{ProcCore}
use Rattle.core_tree.specs.Checks.{proc_checks}
use Rattle.core_tree.specs.Sites.{IsNumberedFrom}
use Rattle.typing_rules.specs.Numbers.{numbered_by}
use Rattle.typing_rules.specs.Made.{numbered}
use Rattle.check_numbers.specs.Numbered.{checks_after}
use Rattle.check_numbers.specs.NumberedParts.{procs_from, procs_after}

-- where tokens give the numbers 0, 1, 2 and so on, both are one
abbrev pub NumberedInARow : Type 0
NumberedInARow = (ps : List ProcCore) → IsNumberedFrom 0 (map (numbered_by (flat_map proc_checks ps)) (flat_map proc_checks ps)) → numbered ps ≡ procs_from 0 ps

-- each check has one number
abbrev pub AfterAll : Type 0
AfterAll = (n : ℕ) (ps : List ProcCore) → procs_after n ps ≡ checks_after n (flat_map proc_checks ps)
