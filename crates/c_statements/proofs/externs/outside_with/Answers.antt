use Rattle.std.proofs.lemmas.Result.{err_from_is_err_and}
use Rattle.std.proofs.Common.{◌++◌, List, ℕ, ℤ, map, Ok, ◌∙◌, subst}
use Rattle.run_records.specs.declared.Plain.{Plain}
use Rattle.step_semantics.specs.Imports.{import_call}
use Rattle.c_ast.specs.Exports.{plain_of}
use Rattle.c_ast.specs.Names.{outer_name}
use Rattle.c_meaning.specs.Calls.{reply_shape}
use Rattle.c_meaning.specs.Values.{on_ok}
use Rattle.c_operators.specs.Values as values
use Rattle.c_operators.specs.Values.{value_of}
use Rattle.c_expressions.specs.Programs.{program_of}
use Rattle.c_expressions.specs.State.{state_of}
use Rattle.run_world.specs.Comes.{Comes, world_of, unseen, itself}
use Rattle.c_statements.specs.Parts.{called_of, Does}
use Rattle.c_statements.specs.Replies.{answer}
use Rattle.c_statements.proofs.ConvertedArguments.{found}
use Rattle.c_statements.proofs.WrittenAll.{call_stops, call_goes, no_reply}
use Rattle.c_statements.proofs.externs.outside_with.Goals as goal

pub returns-in_err-reply : goal.returns-in_err-reply
returns-in_err-reply c =
    let q = err_from_is_err_and c.from_residual-in_err-reply.result c.from_residual-in_err-reply.ensures.1 in
    let p = c.args.program.now in
    let x = c.args.x.now in
    let args = map value_of c.args.args.now in
    let cs = c.as_slice.result.now in
    let run = c.args.run.now in
    let are = c.as_slice.ensures ∙ c.in_ok-cells.ensures in
    let is = found (Unit {0}) values.itself (on_ok (reply_shape x.result) (λ own. Ok (own ++ map (λ k. plain_of k.scalar) cs))) c.shape_of.result c.in_ok-shape.shape c.shape_of.ensures c.in_ok-shape.ensures in
    let named = c.in_ok-name.ensures ∙ c.outer_name.ensures in
    let why = c.in_err-reply.field-0.0 in
    let new = c.import_call.new.self in
    let h = subst (λ (shape : List Plain). Comes unseen itself (import_call unseen (outer_name x.name) c.args.pieces shape run.world.steps (world_of run.world) tt) (no_reply why) new tt) c.as_slice-2.ensures
    (subst (λ (name : List ℕ). Comes unseen itself (import_call unseen name c.args.pieces c.as_slice-2.result.now run.world.steps (world_of run.world) tt) (no_reply why) new tt) named c.in_err-reply.ensures) in
    rw (q.1, q.2) (call_stops p x args c.args.pieces c.in_ok-shape.shape cs are is run.world new (state_of run.state) why h)

pub returns : goal.returns
returns c =
    let p = c.args.program.now in
    let x = c.args.x.now in
    let args = map value_of c.args.args.now in
    let cs = c.as_slice.result.now in
    let run = c.args.run.now in
    let are = c.as_slice.ensures ∙ c.in_ok-cells.ensures in
    let is = found (Unit {0}) values.itself (on_ok (reply_shape x.result) (λ own. Ok (own ++ map (λ k. plain_of k.scalar) cs))) c.shape_of.result c.in_ok-shape.shape c.shape_of.ensures c.in_ok-shape.ensures in
    let named = c.in_ok-name.ensures ∙ c.outer_name.ensures in
    let reply = c.in_ok-reply.reply in
    let mid = c.import_call.new.self in
    let h = subst (λ (shape : List Plain). Comes unseen itself (import_call unseen (outer_name x.name) c.args.pieces shape run.world.steps (world_of run.world) tt) (Ok reply) mid tt) c.as_slice-2.ensures
    (subst (λ (name : List ℕ). Comes unseen itself (import_call unseen name c.args.pieces c.as_slice-2.result.now run.world.steps (world_of run.world) tt) (Ok reply) mid tt) named c.in_ok-reply.ensures) in
    let k = subst (λ (got : List ℤ). Does p called_of (answer (program_of p) x args got) (record run { world = mid }) c.replied.new.run c.replied.result) c.as_slice-4.ensures (c.replied.ensures args (c.as_slice-3.ensures ∙ c.in_ok-cells.ensures)) in
    call_goes p x args c.args.pieces c.in_ok-shape.shape cs are is run.world mid c.replied.new.run.world (state_of run.state) (state_of c.replied.new.run.state) reply c.replied.result h k
