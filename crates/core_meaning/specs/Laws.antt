-- The laws of runs, of expressions, and of values that are made of numbers.
use Rattle.std.specs.Prelude.{◌≡◌, ℕ, ◌≤◌, ℤ, List, ◌++◌, length, drop, Option}
use Rattle.run_records.specs.declared.Script.{Script}
use Rattle.step_semantics.specs.Steps.{World}
use Rattle.step_semantics.specs.Outcomes.{OutcomeLaws}
use Rattle.type_trees.specs.Trees.{count}
use Rattle.type_trees.specs.Values.{cells, HasForm}
use Rattle.area_types.specs.Trees.{Written}
use Rattle.core_tree.specs.Syntax.{ModuleCore, ExprCore, InitCore, ContractCore}
use Rattle.core_meaning.specs.Values.{Value}
use Rattle.core_meaning.specs.Areas.{filled}
use Rattle.core_meaning.specs.State.{State}
use Rattle.core_meaning.specs.Expressions.{eval, eval_all}
use Rattle.core_meaning.specs.Initializers.{first_value}
use Rattle.core_meaning.specs.Conditions.{tested_all}
use Rattle.core_meaning.specs.Gives.{Gives, GivesAll, AllHold, FirstGives, Rests}
use Rattle.core_meaning.specs.Run.{run_src}

-- for each number of steps there is one outcome; events only grow with the steps, and an end stays
abbrev pub RunsObeyTheirLaws : Type 0
RunsObeyTheirLaws = (core : ModuleCore) (script : Script) → OutcomeLaws (run_src core script)

-- an expression changes neither the state nor the world, and its value does not depend on its steps
abbrev pub ExpressionsChangeNothing : Type 0
ExpressionsChangeNothing = (core : ModuleCore) (outcome : Option Value) (e : ExprCore) (n : ℕ) (w : World) (s : State) → Rests core (Gives core outcome s e) w s (eval core outcome e n w s)

-- neither do arguments, conditions and initializers
abbrev pub ArgumentsChangeNothing : Type 0
ArgumentsChangeNothing = (core : ModuleCore) (es : List ExprCore) (n : ℕ) (w : World) (s : State) → Rests core (GivesAll core s es) w s (eval_all core es n w s)

abbrev pub ConditionsChangeNothing : Type 0
ConditionsChangeNothing =
    (core : ModuleCore) (outcome : Option Value) (cs : List ContractCore) (n : ℕ) (w : World) (s : State) → Rests core (λ t. AllHold core outcome s cs) w s (tested_all core outcome cs n w s)

abbrev pub InitializersChangeNothing : Type 0
InitializersChangeNothing = (core : ModuleCore) (i : Option InitCore) (ty : Written) (n : ℕ) (w : World) (s : State) → Rests core (FirstGives core s i ty) w s (first_value core i ty n w s)

-- A value that is filled from numbers enough has the form of its type, and its cells hold the first of the numbers, in order.
abbrev pub FilledValuesHold : Type 0
FilledValuesHold = (a : Written) (vs : List ℤ) → count a ≤ length vs → HasForm a (filled a vs) × (cells (filled a vs) ++ drop (count a) vs ≡ vs)
