-- What is wanted of the arguments of a call, one after another, and what is known of the regions after each.
use Rattle.std.specs.Prelude.{◌≡◌, ℕ, Bool, true, not, nat_eq, length, List, [], ◌∷◌, ◌++◌, Option, Some, None}
use Rattle.ivory_tree.specs.Syntax.{ExprSyntax}
use Rattle.area_types.specs.Syntax.{ValueType}
use Rattle.region_check.specs.Calls.{Passed}
use Rattle.source_types.specs.Environments.{Callee}
use Rattle.rule_faults.specs.Contexts.{Context}
use Rattle.rule_faults.specs.Wants.{Want, Nothing, of_argument}
use Rattle.rule_faults.specs.ExpressionRows.{matched}
use Rattle.rule_checker.specs.View.{reference_seen}
use Rattle.rule_checker.specs.declared.matched.Matched.{Matched}

abbrev pub passed_at : Matched → Passed
passed_at m = record { wanted = reference_seen m.wanted; given = reference_seen m.given }

-- of an argument without a parameter nothing is wanted
abbrev pub argument_want : List Passed → Option (Option ValueType) → Want
argument_want before None = Nothing
argument_want before (Some param) = of_argument before param

abbrev pub learned : Context → List Passed → Option (Option ValueType) → ExprSyntax → List Passed
learned context before None e = before
learned context before (Some param) e = before ++ matched context param e ∷ []

-- what is the first of these, and what is behind it
abbrev pub Splits : {A : Type 0} → Option A → (later all : List A) → Type 0
Splits None later all = (all ≡ []) × (later ≡ [])
Splits (Some x) later all = all ≡ x ∷ later

abbrev pub call_rows : Option Callee → ℕ → List (ℕ × Bool)
call_rows None count = (7, true) ∷ []
call_rows (Some c) count = (34, not (nat_eq (length c.params) count)) ∷ []
