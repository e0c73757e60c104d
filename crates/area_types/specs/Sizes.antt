-- The bytes of a stored value in C on the target t32, to which it is aligned. An area is laid out over them as every type is.
use Rattle.std.specs.Prelude.{ℕ, List, slice_get}
use Rattle.std.specs.Option.{option_map_or}
use Rattle.iv_words.specs.Kinds.{kind_bytes}
use Rattle.iv_words.specs.declared.IntKind.{IntKind}
use Rattle.type_trees.specs.Layouts.{Metric}
use Rattle.area_types.specs.Syntax as syntax
use Rattle.area_types.specs.Syntax.{ValueType}

-- a truth is a `bool`, an index a `uint16_t`, bits are their word, and a reference is a pointer
abbrev pub bytes : List IntKind → ValueType → ℕ
bytes words syntax.Truth = 1
bytes words (syntax.Int kind) = kind_bytes kind
bytes words (syntax.Ix n) = 2
bytes words (syntax.Bits k) = option_map_or kind_bytes (slice_get words k) 1
bytes words (syntax.Ref constant region target) = 4

abbrev pub metric : List IntKind → Metric ValueType
metric words = record { width = bytes words; align = bytes words }
