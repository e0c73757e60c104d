-- The bytes of a scalar and its alignment on a target: an exact-width type of so many bits has an eighth of them (C99 7.18.1.1), and
-- `bool` has 1. A scalar is aligned to its size, or to the target's greatest alignment, whichever is less.
use Rattle.std.specs.Prelude.{ℕ, min}
use Rattle.iv_words.specs.Kinds.{kind_bytes}
use Rattle.c_ast.specs.declared.types.Target.{Target}
use Rattle.c_ast.specs.declared.types.CScalar.{CScalar}
use Rattle.c_ast.specs.declared.types.CScalar.TheVariants.{Truth, Int}
use Rattle.c_ast.specs.Targets.{TargetTable, table_of}
use Rattle.type_trees.specs.Layouts.{Metric}

abbrev pub scalar_bytes : CScalar → ℕ
scalar_bytes Truth = 1
scalar_bytes (Int kind) = kind_bytes kind

abbrev pub scalar_alignment : TargetTable → CScalar → ℕ
scalar_alignment t s = min (scalar_bytes s) t.greatest_alignment

abbrev pub metric : TargetTable → Metric CScalar
metric t = record { width = scalar_bytes; align = scalar_alignment t }

abbrev pub metric_of : Target → Metric CScalar
metric_of t = metric (table_of t)
