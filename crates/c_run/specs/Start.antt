-- Objects of file scope, one by one.
use Rattle.std.specs.Prelude.{◌≡◌, Result, Ok, Err}
use Rattle.c_ast.specs.Structs.{tree}
use Rattle.c_ast.specs.Syntax.{FileObject}
use Rattle.c_meaning.specs.Initializers.{eval_init, made_with}
use Rattle.c_meaning.specs.Memory.{CObjects}
use Rattle.c_meaning.specs.State.{Program, at_rest}
use Rattle.c_meaning.specs.Values as meaning
use Rattle.c_meaning.specs.Values.{on_ok}
use Rattle.c_operators.specs.declared.Trouble.{Trouble}
use Rattle.c_operators.specs.declared.Trouble.TheVariants.{Undefined, Stuck, Memory}

-- one object more
abbrev pub made_by : Program → FileObject → CObjects → Result CObjects meaning.Trouble
made_by p o made = on_ok (eval_init p o.init at_rest) (λ values. made_with p.target (tree p.unit.structs o.base) o.constant made values)

-- where the objects have become `new`
abbrev pub Makes : Result CObjects meaning.Trouble → CObjects → Result (Unit {0}) Trouble → Type 0
Makes said new (Ok done) = said ≡ Ok new
Makes said new (Err (Undefined reason)) = said ≡ Err (meaning.Undefined reason)
Makes said new (Err Stuck) = said ≡ Err meaning.Stuck
Makes said new (Err Memory) = Unit {0}
