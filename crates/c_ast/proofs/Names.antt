-- The outside's name of a prefixed name is that name.
use Rattle.std.proofs.Common.{◌≡◌, refl}
use Rattle.c_ast.specs.Syntax.{Name}
use Rattle.c_ast.specs.Names.{prefixed, outer_name}

pub outer_prefixed : (name : Name) → outer_name (prefixed name) ≡ name
outer_prefixed name = refl
