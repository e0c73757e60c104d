-- A scalar has a byte, and a type an alignment.
use Rattle.std.proofs.Common.{◌≤◌, arith}
use Rattle.iv_words.proofs.Widths.{width_least}
use Rattle.type_trees.proofs.Layouts.{align_some}
use Rattle.c_ast.specs.declared.types.CScalar.{CScalar}
use Rattle.c_ast.specs.declared.types.CScalar.TheVariants.{Truth, Int}
use Rattle.c_ast.specs.Targets.{TargetTable}
use Rattle.c_ast.specs.TargetLaws.{SoundTable}
use Rattle.c_ast.specs.LayoutLaws.{TypesHaveAlignments}
use Rattle.c_ast.specs.Scalars.{scalar_bytes, scalar_alignment, metric}

pub bytes_some : (s : CScalar) → 1 ≤ scalar_bytes s
bytes_some Truth = omega arith
bytes_some (Int kind) = omega (arith, width_least kind)

pub scalar_alignment_some : (t : TargetTable) → SoundTable t → (s : CScalar) → 1 ≤ scalar_alignment t s
scalar_alignment_some t sound s = omega (arith, bytes_some s, sound.some_alignment)

pub types_have_alignments : TypesHaveAlignments
types_have_alignments t sound a = align_some (metric t) (scalar_alignment_some t sound) a
