use Rattle.std.proofs.Common.{◌≡◌, ◌∙◌, ◌∷◌, ◌-◌, ◌+◌, [], suc, length, map, drop, sym, ap, arith}
use Rattle.std.proofs.lemmas.List.{map-append, drop_all}
use Rattle.type_trees.specs.Trees.{count}
use Rattle.core_meaning.specs.Areas.{filled, filled_each, filled_row}
use Rattle.core_state.specs.Types.{written_of, held_of, fields_from}
use Rattle.core_state.proofs.Filled.{row_with, row_from, all_before, element_more, element_behind, field_here, field_more, field_behind}
use Rattle.core_state.proofs.numbers.Numbers.+filled.Goals as goal

pub elements-loop-preserved : goal.elements-loop-preserved
elements-loop-preserved t c =
    let a = written_of c.args.element.now in
    let many = c.args.length in
    let k = c.loop.counter in
    let less = many - (k + 1) in
    let is : many - k ≡ suc less = omega (arith, c.loop-test.true) in
    let parts = c.loop.parts in
    let part = c.in_ok-part.part in
    let rest = c.loop.self.rest.now in
    let new = c.filled.new.self.rest.now in
    let whole = filled_each many (count a) (filled a) c.args.self.now.rest.now in
    record {
      held = ap (λ hs. row_with hs (filled_each less (count a) (filled a) new)) (ap (map held_of) c.in_ok-push.ensures.ok ∙ map-append held_of parts (part ∷ []))
          ∙ element_more a (many - k) less (map held_of parts) (held_of part) rest new whole is c.in_ok-part.ensures.held c.in_ok-part.ensures.rest c.loop.invariant.held;
      rest = element_behind (many - k) less (count a) rest new _ is c.in_ok-part.ensures.rest c.loop.invariant.rest;
    }

pub elements-returns-clause-held : goal.elements-returns-clause-held
elements-returns-clause-held t c =
    let a = written_of c.args.element.now in
    let done : c.args.length - c.loop.counter ≡ 0 = omega (arith, c.loop-test.false) in
    let parts = map held_of c.loop.parts in
    sym (all_before parts) ∙ ap (λ n. row_with parts (filled_each n (count a) (filled a) c.loop.self.rest.now)) (sym done) ∙ c.loop.invariant.held

pub fields-loop-field-preserved : goal.fields-loop-field-preserved
fields-loop-field-preserved t c =
    let xs = c.deref-field-items.result.now in
    let i = c.loop-field.field-index in
    let x = c.field-item.result in
    let next = row_from (i + 1) xs in
    let is = field_here xs i x c.loop-field-test.true c.field-item.is in
    let parts = c.loop-field.parts in
    let part = c.in_ok-part.part in
    let rest = c.loop-field.self.rest.now in
    let new = c.filled.new.self.rest.now in
    record {
      held = ap (λ hs. row_with hs (filled_row next new)) (ap (map held_of) c.in_ok-push.ensures.ok ∙ map-append held_of parts (part ∷ []))
          ∙ field_more (row_from i xs) next i (written_of x) (map held_of parts) (held_of part) rest new _ is c.in_ok-part.ensures.held c.in_ok-part.ensures.rest c.loop-field.invariant.held;
      rest = field_behind (row_from i xs) next i (written_of x) rest new _ is c.in_ok-part.ensures.rest c.loop-field.invariant.rest;
    }

pub fields-returns-clause-held : goal.fields-returns-clause-held
fields-returns-clause-held t c =
    let xs = c.deref-field-items.result.now in
    let i = c.loop-field.field-index in
    let rest = c.loop-field.self.rest.now in
    let parts = map held_of c.loop-field.parts in
    sym (all_before parts) ∙ ap (λ ys. row_with parts (filled_row (fields_from i (map written_of ys)) rest)) (sym (drop_all i xs c.loop-field-test.false)) ∙ c.loop-field.invariant.held
    ∙ ap (λ ys. filled_row (fields_from 0 (map written_of ys)) c.args.self.now.rest.now) c.deref-field-items.ensures
