use Rattle.std.proofs.Common.{◌≡◌, map, length}
use Rattle.core_meaning.specs.Areas.{take_from}
use Rattle.core_state.specs.State.{slot_of}
use Rattle.core_state.proofs.state.State.take_from.Given as goal

abbrev pub invariant-loop-number : goal.invariant-loop-number
invariant-loop-number l = record {
  areas : take_from l.first (map slot_of l.initial.self.areas.items) ≡ take_from l.number (map slot_of l.self.areas.items);
  length : length l.self.areas.items ≡ length l.initial.self.areas.items;
  own : l.self.own ≡ l.initial.self.own;
  callers : l.self.callers ≡ l.initial.self.callers;
}
