-- How parts of a body go on: past checks, and with the values that a form needs. In a valid module it has them.
use Rattle.std.specs.Prelude.{ℕ, ℤ, pos, Bool, true, not, if◌then◌else◌, List, [], ◌∷◌, map, Option, Some, None, Result, Ok, Err}
use Rattle.std.specs.List.{list_any}
use Rattle.std.specs.Ordering.{int_eq}
use denote.Enum.Bare.{sameb}
use Rattle.run_records.specs.declared.Reason.TheVariants.{Dead}
use Rattle.step_semantics.specs.Steps.{FailedCheck, NoMeaning, Part, give, halt, tick}
use Rattle.core_tree.specs.declared.Check.{Check}
use Rattle.core_tree.specs.declared.SiteKind.{SiteKind}
use Rattle.core_tree.specs.contracts.SiteKind as kinds
use Rattle.core_tree.specs.Syntax.{ModuleCore, Label}
use Rattle.core_meaning.specs.Values.{Value, Num, Ref}
use Rattle.core_meaning.specs.State.{State, seen}

-- The run has no meaning: a name is read whose reference is lost.
abbrev pub lost : {A : Type 0} → ModuleCore → Part State A
lost core = halt (seen core) (NoMeaning Dead)

-- And none where a form stands that no valid module has. What a form depends on is looked at before its step; whether a call has the
-- result that is wanted, behind it.
abbrev pub formless : {A : Type 0} → ModuleCore → Part State A
formless core = halt (seen core) (NoMeaning Dead)

-- ---- checks

-- the checks of these sites in order, each with whether it holds, and then the part; the run stops at the site of one that fails
abbrev pub passes : {A : Type 0} → ModuleCore → List (ℕ × Bool) → Part State A → Part State A
passes core [] part = part
passes core (check ∷ checks) part = if check.1 then passes core checks part else halt (seen core) (FailedCheck check.0)

-- what a form answers: a number, or the kind of the check that fails
abbrev pub Answer : Type 0
Answer = Result ℤ SiteKind

abbrev pub same_kind : SiteKind → SiteKind → Bool
same_kind a b = sameb kinds.the_type a b

abbrev pub holds : Answer → SiteKind → Bool
holds (Ok v) kind = true
holds (Err failed) kind = not (same_kind failed kind)

abbrev pub tests_of : Answer → List Check → List (ℕ × Bool)
tests_of answer checks = map (λ c. (c.site, holds answer c.kind)) checks

-- whether the form has a check for what fails: in a valid module none is missing
abbrev pub covered : Answer → List Check → Bool
covered (Ok v) checks = true
covered (Err failed) checks = list_any (λ c. same_kind failed c.kind) checks

-- past its checks a form has a number
abbrev pub answered : ModuleCore → Answer → Part State Value
answered core (Ok v) = give (Num v)
answered core (Err failed) = formless core

-- every form that answers a number: its step, its checks, and then the number
abbrev pub answering : ModuleCore → Label → Answer → Part State Value
answering core l answer = if covered answer l.checks then tick (passes core (tests_of answer l.checks) (answered core answer)) else formless core

-- ---- what a form needs

abbrev pub on_number : {A : Type 0} → ModuleCore → Value → (ℤ → Part State A) → Part State A
on_number core (Num v) next = next v
on_number core (Ref area path) next = formless core

abbrev pub on_truth : {A : Type 0} → ModuleCore → Value → (Bool → Part State A) → Part State A
on_truth core (Num v) next = next (not (int_eq v (pos 0)))
on_truth core (Ref area path) next = formless core

abbrev pub on_reference : {A : Type 0} → ModuleCore → Value → (ℕ → List ℕ → Part State A) → Part State A
on_reference core (Num v) next = formless core
on_reference core (Ref area path) next = next area path

abbrev pub on_some : {A B : Type 0} → ModuleCore → Option A → (A → Part State B) → Part State B
on_some core None next = formless core
on_some core (Some a) next = next a
