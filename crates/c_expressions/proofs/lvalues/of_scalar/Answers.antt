use Rattle.std.proofs.Common.{◌∙◌, ap, sym, Ok, Err, if◌then◌else◌}
use Rattle.std.proofs.lemmas.Int.{to_z-of_z}
use mir.Syntax.{w128}
use Rattle.c_ast.specs.declared.CKind.TheVariants.{Scalar}
use Rattle.c_meaning.specs.Values.{Stuck, Num}
use Rattle.c_expressions.proofs.lvalues.of_scalar.Goals as goal

pub returns-then-can_hold : goal.returns-then-can_hold
returns-then-can_hold c = rw (to_z-of_z w128 c.args.v c.ranges.v) (ap (λ b. if b then Ok (Num (Scalar c.args.s) c.args.v) else Err Stuck) (sym (rw (to_z-of_z w128 c.args.v c.ranges.v) at (c.can_hold.ensures c.args.t)) ∙ c.if-can_hold.true))

pub returns-else-can_hold : goal.returns-else-can_hold
returns-else-can_hold c = ap (λ b. if b then Ok (Num (Scalar c.args.s) c.args.v) else Err Stuck) (sym (rw (to_z-of_z w128 c.args.v c.ranges.v) at (c.can_hold.ensures c.args.t)) ∙ c.if-can_hold.false)
