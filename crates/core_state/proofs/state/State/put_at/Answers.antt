use Rattle.std.proofs.Common.{◌≡◌, map, get_or, sym, ap, subst, arith}
use Rattle.std.proofs.lemmas.List.{length-map}
use Rattle.core_meaning.specs.Areas.{put_part, Areas}
use Rattle.core_state.specs.Types.{held_of}
use Rattle.core_state.specs.State.{slot_of, state_of}
use Rattle.core_state.proofs.Places.{at_place_replaced, at_place_past}
use Rattle.core_state.proofs.state.State.put_at.Goals as goal

pub returns-then-number-len-clause-state : goal.returns-then-number-len-clause-state
returns-then-number-len-clause-state c =
    let items = c.args.self.now.areas.items in
    ap (λ (areas : Areas). record (state_of c.args.self.now) { areas = areas })
    (sym (at_place_past (put_part c.args.path.now (held_of c.args.held)) (map slot_of items) c.args.number (omega (arith, length-map items slot_of, c.len.ensures, c.if-number-len.true))))

pub returns-clause-state : goal.returns-clause-state
returns-clause-state c =
    let items = c.args.self.now.areas.items in
    let k = c.args.number in
    let old = c.replace-slot.result in
    let there : old ≡ get_or items k old = subst (λ x. x ≡ get_or items k x) (sym c.replace-slot.ensures.value) c.index_mut.ensures.value in
    ap (λ (areas : Areas). record (state_of c.args.self.now) { areas = areas })
    (sym (at_place_replaced slot_of (put_part c.args.path.now (held_of c.args.held)) items k old c.replace-slot.new.dest c.with_part.result (omega (arith, c.len.ensures, c.if-number-len.false)) there c.with_part.ensures))
