use Rattle.std.proofs.Common.{◌∙◌, ◌+◌, ◌<◌, map, length, sym, ap, arith}
use Rattle.std.proofs.Math.ListN.{length-set}
use Rattle.std.proofs.lemmas.List.{length-map}
use Rattle.core_meaning.specs.Areas.{AreaState, Gone, from_place}
use Rattle.core_state.specs.State.{slot_of}
use Rattle.core_state.proofs.Places.{at_place_gone, from_place_next, from_place_past}
use Rattle.core_state.proofs.state.State.take_from.Goals as goal

pub loop-number-preserved : goal.loop-number-preserved
loop-number-preserved c =
    let items = c.loop-number.self.areas.items in
    let k = c.loop-number.number in
    let within : k < length items = omega (arith, c.loop-number.invariant.length, c.loop-number-test.true, c.len-number-end.ensures) in
    let gone : AreaState → AreaState = λ a. Gone in
    record {
      areas = c.loop-number.invariant.areas ∙ from_place_next gone (map slot_of items) k (omega (arith, within, length-map items slot_of))
          ∙ ap (from_place gone (k + 1)) (at_place_gone items k within);
      length = simp length-set c.loop-number.invariant.length;
      own = c.loop-number.invariant.own;
      callers = c.loop-number.invariant.callers;
    }

pub returns-clause-areas : goal.returns-clause-areas
returns-clause-areas c =
    let items = c.loop-number.self.areas.items in
    let gone : AreaState → AreaState = λ a. Gone in
    sym (c.loop-number.invariant.areas ∙ from_place_past gone (map slot_of items) c.loop-number.number
    (omega (arith, length-map items slot_of, c.loop-number.invariant.length, c.loop-number-test.false, c.len-number-end.ensures)))
