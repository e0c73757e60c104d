use Rattle.std.proofs.Common.{◌≡◌, map, drop}
use Rattle.std.specs.Prelude.{nat_eq}
use Rattle.std.specs.Cmp.Lexicographic.{pointwise}
use Rattle.std.specs.List.{position_from}
use Rattle.area_types.specs.Interned.{number_of}
use Rattle.area_types.specs.View.{struct_of}
use Rattle.area_types.proofs.interning.number_of.Given as goal

abbrev pub invariant-loop-number : goal.invariant-loop-number
invariant-loop-number l = position_from (λ s. pointwise nat_eq s.name l.name) l.number (map struct_of (drop l.number l.structs)) ≡ number_of (map struct_of l.structs) l.name
