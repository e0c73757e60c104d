use Rattle.std.proofs.Common.{◌≡◌, [], drop, length, take}
use Rattle.c_text.specs.Spelling.{struct_text}
use Rattle.c_rules.specs.Sizes.{sized_view, sizes_of}
use Rattle.c_scopes.proofs.Rows.{Going}
use Rattle.c_rules.proofs.Units.{struct_item, struct_next}
use Rattle.c_rules.proofs.unit.check_structs.Given as goal

abbrev pub invariant-loop-i : goal.invariant-loop-i
invariant-loop-i l = record {
  going : Going struct_text (struct_item l.target) struct_next l.initial.walk l.walk [] (take l.i l.table) l.table (drop l.i l.table);
  sized : sized_view (take l.i l.table) l.sized ≡ sizes_of l.target (take l.i l.table);
  counted : length l.sized ≡ l.i;
}
