use Rattle.std.proofs.Common.{◌≡◌, ◌*◌, ◌-◌, map, drop}
use Rattle.type_trees.specs.Trees.{count, count_row}
use Rattle.core_meaning.specs.Areas.{filled, filled_each, filled_row}
use Rattle.core_state.specs.Types.{written_of, held_of}
use Rattle.core_state.proofs.Filled.{row_with, row_from}
use Rattle.core_state.proofs.numbers.Numbers.+filled.Given as goal

abbrev pub invariant-elements-loop : goal.invariant-elements-loop
invariant-elements-loop l =
    let a = written_of l.element in
    record {
      held : row_with (map held_of l.parts) (filled_each (l.length - l.counter) (count a) (filled a) l.self.rest.now) ≡ filled_each l.length (count a) (filled a) l.initial.self.rest.now;
      rest : drop ((l.length - l.counter) * count a) l.self.rest.now ≡ drop (l.length * count a) l.initial.self.rest.now;
    }

abbrev pub invariant-fields-loop-field : goal.invariant-fields-loop-field
invariant-fields-loop-field l = record {
  held : row_with (map held_of l.parts) (filled_row (row_from l.field-index l.field-items) l.self.rest.now) ≡ filled_row (row_from 0 l.field-items) l.initial.self.rest.now;
  rest : drop (count_row (row_from l.field-index l.field-items)) l.self.rest.now ≡ drop (count_row (row_from 0 l.field-items)) l.initial.self.rest.now;
}
