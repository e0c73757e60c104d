-- The rest fits after the structs so far.
use Rattle.std.proofs.Common.{◌≡◌, ◌++◌, take, drop, map, IsTrue}
use Rattle.area_types.specs.Tables.{structs_of, fit_after}
use Rattle.area_types.specs.View.{struct_of}
use Rattle.iv_checker.proofs.table.add_structs.Given as goal

abbrev pub invariant-loop-found : goal.invariant-loop-found
invariant-loop-found l = record {
  fit : IsTrue (fit_after (structs_of l.table) l.table.words (map struct_of (drop l.found-index l.structs)));
  structs : l.table.structs ≡ l.initial.table.structs ++ take l.found-index l.structs;
  words : l.table.words ≡ l.initial.table.words;
}
