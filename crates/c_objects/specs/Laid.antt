-- What one member says of a scalar at an offset, whatever members come behind it.
use Rattle.std.specs.Prelude.{◌≡◌, ℕ}
use Rattle.type_trees.specs.Trees.{Field}
use Rattle.type_trees.specs.Layouts.{lay_row}
use Rattle.c_memory.specs.Access.{laid_out}
use Rattle.c_ast.specs.declared.Target.{Target}
use Rattle.c_ast.specs.declared.CScalar.{CScalar}
use Rattle.c_ast.specs.Scalars.{metric_of}
use Rattle.c_ast.specs.StaticTypes.{same_scalar}
use Rattle.c_ast.specs.Structs.{CTree, CRow}
use Rattle.c_ast.specs.Syntax.{Name}
use Rattle.c_objects.specs.declared.laid.Seen.{Seen}
use Rattle.c_objects.specs.declared.laid.Seen.TheVariants.{Settled, Behind}

abbrev pub Settles : Target → CTree → ℕ → ℕ × CScalar → Seen → Type 0
Settles t a end x (Settled holds) = (f : Name) (r : CRow) → holds ≡ laid_out same_scalar x (lay_row (metric_of t) (Field f a r) 0 end)
Settles t a end x (Behind next) = (f : Name) (r : CRow) → laid_out same_scalar x (lay_row (metric_of t) (Field f a r) 0 end) ≡ laid_out same_scalar x (lay_row (metric_of t) r 0 next)
