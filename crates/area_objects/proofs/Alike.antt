-- All of it: over any lawful memory, and in that of each target.
use Rattle.std.proofs.Common.{ℤ}
use Rattle.type_trees.specs.Layouts.{Metric}
use Rattle.c_memory.specs.Abstract.{Operations, Lawful}
use Rattle.c_memory.specs.Codecs.{Held, numbers}
use Rattle.c_memory.specs.ValueLaws.{LawfulValues}
use Rattle.c_memory.proofs.Codecs.{faithful_numbers}
use Rattle.c_memory.proofs.Memories.{lawful}
use Rattle.c_memory.proofs.Values.{lawful_values}
use Rattle.c_ast.specs.declared.CScalar.{CScalar}
use Rattle.c_ast.specs.Scalars.{metric}
use Rattle.c_ast.specs.Syntax.{Name}
use Rattle.c_ast.specs.Targets.{TargetTable}
use Rattle.c_meaning.specs.Memory.{scalar_table}
use Rattle.c_meaning.specs.Values.{Address}
use Rattle.c_meaning.proofs.Memory.{scalars_are_sound}
use Rattle.area_objects.specs.Shapes.{Naming}
use Rattle.area_objects.specs.Holds.{memory_in, CanHold}
use Rattle.area_objects.specs.Laws.{Alike, ObjectsHoldAreas}
use Rattle.area_objects.proofs.Readings.{cells_read, parts_seen}
use Rattle.area_objects.proofs.Writes.{cells_stored, parts_put, replies_written, parts_copied}
use Rattle.area_objects.proofs.Lives.{objects_live, areas_made, blocks_ended, calls_ended, others_made, others_written}

-- the laws of the memory are all that is asked
pub alike : (m : Metric CScalar) (Can : CScalar → ℤ → Type 0) (M : Operations CScalar Name ℤ) → Lawful m Can M → LawfulValues m Can (λ (n : ℤ). n) M → (g : Naming) → Alike m Can M g
alike m Can M law values g = record {
  live = objects_live m Can M law g;
  read = cells_read m Can M values g;
  stored = cells_stored m Can M law values g;
  seen = parts_seen m Can M values g;
  put = parts_put m Can M law values g;
  replied = replies_written m Can M law values g;
  copied = parts_copied m Can M law values g;
  made = areas_made m Can M law g;
  block_ended = blocks_ended m Can M law g;
  call_ended = calls_ended m Can M law g;
  other_made = others_made m Can M law g;
  other_written = others_written m Can M law g;
}

pub lawful_in : (t : TargetTable) → Lawful (metric t) (CanHold t) (memory_in t)
lawful_in t = lawful (numbers {P = Address} (scalar_table t)) (Held (scalar_table t)) (faithful_numbers Address (scalar_table t) (scalars_are_sound t))

pub values_in : (t : TargetTable) → LawfulValues (metric t) (CanHold t) (λ (n : ℤ). n) (memory_in t)
values_in t = lawful_values (metric t) (CanHold t) (λ (n : ℤ). n) (memory_in t) (lawful_in t)

pub objects_hold_areas : ObjectsHoldAreas
objects_hold_areas t g = alike (metric t) (CanHold t) (memory_in t) (lawful_in t) (values_in t) g
