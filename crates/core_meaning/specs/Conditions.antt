-- Conditions that a run tests: each is evaluated, then takes its step, and then the run stops at its site where it is false.
use Rattle.std.specs.Prelude.{List, [], ◌∷◌, not, Option, None}
use Rattle.std.specs.List.{filter}
use Rattle.step_semantics.specs.Steps.{Part, give, bind, tick}
use Rattle.core_tree.specs.declared.Check.{Check}
use Rattle.core_tree.specs.Syntax.{ModuleCore, ExprCore, ContractCore, ProcCore}
use Rattle.core_meaning.specs.Values.{Value}
use Rattle.core_meaning.specs.State.{State}
use Rattle.core_meaning.specs.Checks.{passes, on_truth}
use Rattle.core_meaning.specs.Expressions.{eval}

abbrev pub tested : ModuleCore → Option Value → ExprCore → Check → Part State (Unit {0})
tested core outcome cond check = bind (eval core outcome cond) (λ x. on_truth core x (λ holds. tick (passes core ((check.site, holds) ∷ []) (give tt))))

abbrev pub tested_all : ModuleCore → Option Value → List ContractCore → Part State (Unit {0})
tested_all core outcome [] = give tt
tested_all core outcome (c ∷ cs) = bind (tested core outcome c.cond c.check) (λ t. tested_all core outcome cs)

abbrev pub requires_of : ProcCore → List ContractCore
requires_of p = filter (λ c. c.before) p.contracts

abbrev pub ensures_of : ProcCore → List ContractCore
ensures_of p = filter (λ c. not c.before) p.contracts

abbrev pub required : ModuleCore → ProcCore → Part State (Unit {0})
required core p = tested_all core None (requires_of p)

-- with the result that the procedure has, if it has one
abbrev pub Ensured : Type 0
Ensured = Option Value → Part State (Unit {0})

abbrev pub ensured : ModuleCore → ProcCore → Ensured
ensured core p outcome = tested_all core outcome (ensures_of p)
