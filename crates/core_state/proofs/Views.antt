-- What each form of the code's types and values says: one equation for each variant.
use Rattle.std.proofs.Common.{◌≡◌, ℕ, ℤ, List, map, ap, sym, ◌∙◌}
use Rattle.type_trees.specs.Trees.{Leaf, Many, Struct}
use Rattle.type_trees.specs.Values.{Value, Cell, Parts}
use Rattle.area_types.specs.Trees as trees
use Rattle.area_types.specs.View.{type_of}
use Rattle.area_types.specs.declared.ValueType.{ValueType}
use Rattle.core_state.specs.declared.held.Held.{Held}
use Rattle.core_state.specs.declared.held.Held.TheOpen.{Held-F}
use Rattle.core_state.specs.declared.held.Held.TheFolds.{fold-roll-Held}
use Rattle.core_state.specs.declared.held.Held.TheVariants as held
use Rattle.core_state.specs.declared.written.Written.{Written}
use Rattle.core_state.specs.declared.written.Written.TheOpen.{Written-F}
use Rattle.core_state.specs.declared.written.Written.TheFolds.{fold-roll-Written}
use Rattle.core_state.specs.declared.written.Written.TheVariants as written
use Rattle.core_state.specs.Types.{fields_from, written_step, written_of, row_of, held_step, held_of}

pub cell_is : (v : ℤ) → held_of (held.Cell v) ≡ Cell v
cell_is v = ap held_of (sym (held.rolls-Cell v)) ∙ fold-roll-Held (Value ℤ) held_step (Held-F.Cell v)

pub parts_is : (parts : List Held) → held_of (held.Parts parts) ≡ Parts (row_of (map held_of parts))
parts_is parts = ap held_of (sym (held.rolls-Parts parts)) ∙ fold-roll-Held (Value ℤ) held_step (Held-F.Parts parts)

pub leaf_is : (t : ValueType) → written_of (written.Leaf t) ≡ Leaf (type_of t)
leaf_is t = ap written_of (sym (written.rolls-Leaf t)) ∙ fold-roll-Written trees.Written written_step (Written-F.Leaf t)

pub many_is : (n : ℕ) (a : Written) → written_of (written.Many n a) ≡ Many n (written_of a)
many_is n a = ap written_of (sym (written.rolls-Many n a)) ∙ fold-roll-Written trees.Written written_step (Written-F.Many n a)

pub struct_is : (k : ℕ) (fields : List Written) → written_of (written.Struct k fields) ≡ Struct k (fields_from 0 (map written_of fields))
struct_is k fields = ap written_of (sym (written.rolls-Struct k fields)) ∙ fold-roll-Written trees.Written written_step (Written-F.Struct k fields)
