use Rattle.std.proofs.Common.{◌≡◌, ◌∷◌, ◌++◌, [], map, drop, ◌+◌, sym, ap, ◌∙◌, Ok, subst}
use Rattle.std.proofs.lemmas.List.{map-append}
use Rattle.c_memory.specs.Initializers.{Done, More}
use Rattle.c_ast.specs.View.{init_of, inits_of}
use Rattle.c_meaning.specs.Initializers.{eval_init, eval_inits}
use Rattle.c_meaning.specs.Values.{on_ok}
use Rattle.c_expressions.specs.Programs.{program_of}
use Rattle.c_expressions.specs.State.{state_of}
use Rattle.run_world.proofs.Rests.{one_left, nothing_left}
use Rattle.c_statements.specs.Given.{given_of, inits_before}
use Rattle.c_statements.proofs.Collected.{one_more, it_is}
use Rattle.c_statements.proofs.ConvertedArguments.{room_on}
use Rattle.c_statements.proofs.GivenInits.{one_init, all_inits}
use Rattle.c_statements.proofs.initial.+initial.Goals as goal

pub eval_inits-loop-init-preserved : goal.eval_inits-loop-init-preserved
eval_inits-loop-init-preserved t c =
    let p = program_of c.args.program.now in
    let s = state_of c.args.state.now in
    let xs = c.deref-init-items.result.now in
    let i = c.loop-init.init-index in
    let x = c.init-item.result in
    let old = c.loop-init.values in
    let whole = eval_inits p (inits_of c.args.inits.now) s in
    let now = eval_inits p (inits_of (drop i xs)) s in
    let next = eval_inits p (inits_of (drop (i + 1) xs)) s in
    let kept = one_more More inits_before one_init whole now next (eval_init p (init_of x) s) (map given_of old) (given_of c.in_ok-value.value) c.loop-init.invariant
    (ap (λ l. eval_inits p (inits_of l) s) (one_left xs i x c.loop-init-test.true c.init-item.is)) c.in_ok-value.ensures in
    let pushed = room_on c.push.result (c.push.new.self ≡ old ++ c.in_ok-value.value ∷ []) c.in_ok-room.field-0 c.in_ok-room.ensures c.push.ensures.ok in
    subst (λ front. on_ok next (λ rest. Ok (inits_before front rest)) ≡ whole) (sym (ap (map given_of) pushed ∙ map-append given_of old (c.in_ok-value.value ∷ []))) kept

pub eval_inits-returns : goal.eval_inits-returns
eval_inits-returns t c =
    let p = program_of c.args.program.now in
    let s = state_of c.args.state.now in
    let xs = c.deref-init-items.result.now in
    let i = c.loop-init.init-index in
    it_is More inits_before one_init (eval_inits p (inits_of c.args.inits.now) s) (eval_inits p (inits_of (drop i xs)) s) (map given_of c.loop-init.values) Done c.loop-init.invariant
    (ap (λ l. eval_inits p (inits_of l) s) (nothing_left xs i c.loop-init-test.false)) ∙ ap Ok (all_inits (map given_of c.loop-init.values))
