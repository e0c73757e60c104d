-- The checks of the links of a chain and of the steps of a postfix, and of a part that may be absent.
use Rattle.std.specs.Prelude.{List, [], ◌++◌, Option, Some, None}
use Rattle.std.specs.List.{flat_map}
use Rattle.core_tree.specs.declared.Check.{Check}
use Rattle.core_tree.specs.Checks.{expr_checks}
use Rattle.core_tree.specs.View.{LinkCore, StepCore, FieldStep, IndexStep}

abbrev pub links_checks : List LinkCore → List Check
links_checks links = flat_map (λ l. l.label.checks ++ expr_checks l.right) links

abbrev pub step_checks : StepCore → List Check
step_checks (FieldStep ty field) = []
step_checks (IndexStep ty index) = expr_checks index

abbrev pub steps_checks : List StepCore → List Check
steps_checks steps = flat_map step_checks steps

abbrev pub if_any : {A : Type 0} → (A → List Check) → Option A → List Check
if_any checks None = []
if_any checks (Some x) = checks x
