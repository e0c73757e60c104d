-- Statements that call nothing and contain none, each as one part and the next.
use Rattle.std.specs.Prelude.{ℕ, ℤ, List, Option, Some, None}
use Rattle.area_types.specs.Syntax.{Area}
use Rattle.area_types.specs.Tables.{written_out}
use Rattle.type_trees.specs.Values.{Cell}
use Rattle.step_semantics.specs.Control.{Falls}
use Rattle.step_semantics.specs.Steps.{Part, give, bind, tick, ticks, by_state, change}
use Rattle.core_tree.specs.declared.Check.{Check}
use Rattle.core_tree.specs.Syntax.{ModuleCore, ExprCore, InitCore}
use Rattle.core_meaning.specs.Areas.{Held, type_at}
use Rattle.core_meaning.specs.Checks.{on_some}
use Rattle.core_meaning.specs.Conditions.{Ensured, tested}
use Rattle.core_meaning.specs.Expressions.{eval}
use Rattle.core_meaning.specs.Initializers.{first_value}
use Rattle.core_meaning.specs.State.{State, with_area, holding}
use Rattle.core_meaning.specs.Statements.{Flow, naming, store, copy, returning}
use Rattle.core_meaning.specs.Values.{Value}

-- `let x = e;`
abbrev pub let_part : ModuleCore → ℕ → ExprCore → Part State Flow
let_part core number e = bind (eval core None e) (λ v. tick (naming number v))

-- the name for the result of a call
abbrev pub result_part : ModuleCore → ℕ → Option Value → Part State Flow
result_part core number result = on_some core result (naming number)

-- `alloc x : area = init;`
abbrev pub alloc_part : ModuleCore → ℕ → Area → Option InitCore → Part State Flow
alloc_part core number area init =
    bind (first_value core init (written_out core.structs area)) (λ held. tick (change Falls (with_area number (written_out core.structs area) held)))

-- `*target = value;`, whose value comes first, and `copy target, source;`, whose target does
abbrev pub store_part : ModuleCore → (target value : ExprCore) → Part State Flow
store_part core target value = bind (eval core None value) (λ v. bind (eval core None target) (λ r. store core r v))

abbrev pub copy_part : ModuleCore → (target source : ExprCore) → Part State Flow
copy_part core target source = bind (eval core None target) (λ r. bind (eval core None source) (λ from. copy core r from))

-- a cell comes to hold a number
abbrev pub put_there : ModuleCore → ℕ → List ℕ → ℤ → Part State Flow
put_there core k path v = by_state (λ s. on_some core (type_at s.areas k path) (λ ty. tick (change Falls (holding k path (Cell v)))))

-- a part of so many nodes comes to hold a value
abbrev pub counted_copy : ModuleCore → ℕ → List ℕ → Option ℕ → Option Held → Part State Flow
counted_copy core k path count held = on_some core count (λ n. on_some core held (λ h. ticks n (change Falls (holding k path h))))

-- `assert(e);`
abbrev pub assert_part : ModuleCore → ExprCore → Check → Part State Flow
assert_part core e check = bind (tested core None e check) (λ t. give Falls)

-- `return;` and `return e;`
abbrev pub return_part : ModuleCore → Ensured → Option ExprCore → Part State Flow
return_part core ensured None = returning ensured None
return_part core ensured (Some e) = bind (eval core None e) (λ v. returning ensured (Some v))
