use Rattle.std.proofs.lemmas.Result.{err_from_is_err_and}
use Rattle.std.proofs.Common.{◌≡◌, ◌+◌, ◌++◌, ◌∷◌, [], length, map, drop, Err, sym, ap, ◌∙◌, arith, subst}
use Rattle.std.specs.Prelude.{slice_get}
use Rattle.std.proofs.lemmas.List.{map-append, length-append, drop_all}
use Rattle.step_semantics.specs.Steps.{Finished}
use Rattle.core_tree.specs.Cores.{core_of}
use Rattle.core_tree.specs.Syntax.{MoreInits}
use Rattle.core_tree.specs.View.{init_of, inits_of}
use Rattle.core_meaning.specs.Initializers.{init_values}
use Rattle.core_meaning.specs.State.{seen}
use Rattle.core_state.specs.State.{state_of}
use Rattle.core_state.specs.Types.{written_of, held_of, row_of}
use Rattle.run_world.specs.Comes.{Comes, world_of}
use Rattle.core_statements.specs.Initial.{types_of, parts_of}
use Rattle.core_statements.proofs.Inits.{Left, inits_here, inits_past, init_more, init_none, init_stops, init_ends}
use Rattle.core_statements.proofs.Lists.{here, none_here}
use Rattle.core_statements.proofs.initial.+initial.Goals as goal

pub init_values-returns-in_default : goal.init_values-returns-in_default
init_values-returns-in_default t c =
    let core = core_of c.args.program.now in
    let s = state_of c.args.state.now in
    let w = c.loop-init.world in
    let first = c.args.world.now in
    let types = types_of c.args.types in
    let items = c.deref-init-items.result.now in
    let i = c.loop-init.init-index in
    let x = c.init-item.result in
    let parts = c.loop-init.parts in
    let front = map held_of parts in
    let rest = inits_of (drop (i + 1) items) in
    let whole = init_values core (inits_of items) types first.steps (world_of first) s in
    let none : drop (length parts) types ≡ [] = drop_all (length parts) types (omega (arith, none_here types c.len.result (sym c.in_default.ensures), c.len.ensures)) in
    let inv = ap (λ ts. Left core front (MoreInits (init_of x) rest) ts w.steps (world_of w) s) (sym none) ∙ ap (λ r. Left core front r (drop (length parts) types) w.steps (world_of w) s) (sym (inits_here items i x c.loop-init-test.true c.init-item.is)) ∙ c.loop-init.invariant.rest in
    let is = sym (ap (λ is. init_values core (inits_of is) types first.steps (world_of first) s) c.deref-init-items.ensures) ∙ init_none core w.steps (world_of w) s front whole (init_of x) rest inv in
    subst (λ why. Comes (seen core) parts_of (init_values core (inits_of c.args.inits.now) types first.steps (world_of first) s) (Err why) w s) (sym c.formless.ensures) is

pub init_values-returns-in_err-part : goal.init_values-returns-in_err-part
init_values-returns-in_err-part t c =
    let q = err_from_is_err_and c.from_residual.result c.from_residual.ensures.1 in
    let core = core_of c.args.program.now in
    let s = state_of c.args.state.now in
    let w = c.loop-init.world in
    let first = c.args.world.now in
    let types = types_of c.args.types in
    let items = c.deref-init-items.result.now in
    let i = c.loop-init.init-index in
    let x = c.init-item.result in
    let parts = c.loop-init.parts in
    let front = map held_of parts in
    let a = written_of c.in-Some.ty.now in
    let rest = inits_of (drop (i + 1) items) in
    let whole = init_values core (inits_of items) types first.steps (world_of first) s in
    let why = c.in_err-part.field-0.0 in
    let v = c.init_value.new.world in
    let found = ap (slice_get types) (sym c.len.ensures) ∙ sym c.in-Some.ensures in
    let inv = ap (λ ts. Left core front (MoreInits (init_of x) rest) ts w.steps (world_of w) s) (sym (here types (length parts) a found)) ∙ ap (λ r. Left core front r (drop (length parts) types) w.steps (world_of w) s) (sym (inits_here items i x c.loop-init-test.true c.init-item.is)) ∙ c.loop-init.invariant.rest in
    rw (q.1, q.2) (subst (λ r. Comes (seen core) parts_of r (Err why) v s) (ap (λ is. init_values core (inits_of is) types first.steps (world_of first) s) c.deref-init-items.ensures)
    (init_stops core w.steps (world_of w) s front whole held_of parts_of (init_of x) rest a (drop (length parts + 1) types) why v c.in_err-part.ensures inv))

pub init_values-loop-init-preserved : goal.init_values-loop-init-preserved
init_values-loop-init-preserved t c =
    let core = core_of c.args.program.now in
    let s = state_of c.args.state.now in
    let w = c.loop-init.world in
    let first = c.args.world.now in
    let types = types_of c.args.types in
    let items = c.deref-init-items.result.now in
    let i = c.loop-init.init-index in
    let x = c.init-item.result in
    let parts = c.loop-init.parts in
    let part = c.in_ok-part.part in
    let front = map held_of parts in
    let a = written_of c.in-Some.ty.now in
    let rest = inits_of (drop (i + 1) items) in
    let whole = init_values core (inits_of items) types first.steps (world_of first) s in
    let v = c.init_value.new.world in
    let found = ap (slice_get types) (sym c.len.ensures) ∙ sym c.in-Some.ensures in
    let inv = ap (λ ts. Left core front (MoreInits (init_of x) rest) ts w.steps (world_of w) s) (sym (here types (length parts) a found)) ∙ ap (λ r. Left core front r (drop (length parts) types) w.steps (world_of w) s) (sym (inits_here items i x c.loop-init-test.true c.init-item.is)) ∙ c.loop-init.invariant.rest in
    let pushed = c.in_ok-push.ensures.ok in
    let longer = ap length pushed ∙ length-append parts (part ∷ []) in
    record {
      rest = ap (λ hs. Left core hs rest (drop (length c.push.new.self) types) v.steps (world_of v) s) (ap (map held_of) pushed ∙ map-append held_of parts (part ∷ []))
          ∙ ap (λ k. Left core (front ++ held_of part ∷ []) rest (drop k types) v.steps (world_of v) s) longer
          ∙ init_more core w.steps (world_of w) s front whole (init_of x) rest a (drop (length parts + 1) types) (held_of part) (world_of v) v.steps c.in_ok-part.ensures inv;
      length = longer ∙ ap (λ k. k + 1) c.loop-init.invariant.length;
    }

pub init_values-returns : goal.init_values-returns
init_values-returns t c =
    let core = core_of c.args.program.now in
    let s = state_of c.args.state.now in
    let w = c.loop-init.world in
    let first = c.args.world.now in
    let types = types_of c.args.types in
    let items = c.deref-init-items.result.now in
    let i = c.loop-init.init-index in
    let parts = c.loop-init.parts in
    let front = map held_of parts in
    let whole = init_values core (inits_of items) types first.steps (world_of first) s in
    let inv = ap (λ r. Left core front r (drop (length parts) types) w.steps (world_of w) s) (sym (inits_past items i c.loop-init-test.false)) ∙ c.loop-init.invariant.rest in
    sym (ap (λ is. init_values core (inits_of is) types first.steps (world_of first) s) c.deref-init-items.ensures) ∙ init_ends core w.steps (world_of w) s front whole (drop (length parts) types) inv
    ∙ ap (λ hs. Finished (row_of hs) (world_of w) s w.steps) (sym c.in_ok-add_zeros.ensures)
