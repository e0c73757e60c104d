use Rattle.std.proofs.Common.{◌≡◌, ◌∷◌, ◌++◌, [], List, pos, suc, map, drop, get_or, ◌+◌, ◌<◌, sym, ap, ◌∙◌, arith, length, Ok, subst}
use Rattle.std.proofs.Math.Seq.{drop-cons}
use Rattle.std.proofs.lemmas.List.{map-append, length-map}
use Rattle.c_ast.specs.declared.CParam.{CParam}
use Rattle.c_meaning.specs.Runs.{entry_values, param_types}
use Rattle.c_meaning.specs.Values.{CValue, on_ok}
use Rattle.c_operators.specs.Values.{value_of}
use Rattle.c_statements.proofs.Collected.{one_more, append_one}
use Rattle.c_statements.proofs.ConvertedArguments.{room_on}
use Rattle.run_world.proofs.Rests.{one_left}
use Rattle.c_run.specs.Entries.{number_as}
use Rattle.c_run.proofs.EntryCalls.{unlike_counts, one_value}
use Rattle.c_run.proofs.entries.entry_values.Goals as goal

abbrev put : CValue → List CValue → List CValue
put a rest = a ∷ rest

abbrev before : List CValue → List CValue → List CValue
before front rest = front ++ rest

pub returns-then-params-numbers : goal.returns-then-params-numbers
returns-then-params-numbers c = unlike_counts (param_types c.args.params.now) c.args.numbers.now (λ e. c.if-params-numbers.true (sym (length-map c.args.params.now (λ x. x.ty)) ∙ e))

pub loop-i-preserved : goal.loop-i-preserved
loop-i-preserved c =
    let ps = c.args.params.now in
    let ns = c.args.numbers.now in
    let i = c.loop-i.i in
    let x = c.index-params-i.result in
    let n = get_or ns i (pos 0) in
    let whole = entry_values (param_types ps) ns in
    let now = entry_values (param_types (drop i ps)) (drop i ns) in
    let next = entry_values (param_types (drop (i + 1) ps)) (drop (i + 1) ns) in
    let low : i < length ns = omega (arith, c.if-params-numbers.false, c.loop-i-test.true) in
    let e : suc i ≡ i + 1 = omega arith in
    let at = ap (λ l. entry_values (param_types l) (drop i ns)) (one_left ps i x c.loop-i-test.true c.index-params-i.is)
    ∙ ap (λ l. entry_values (param_types (x ∷ drop (i + 1) ps)) l) (drop-cons ns i (pos 0) low ∙ ap (λ k. n ∷ drop k ns) e) ∙ one_value x.ty (param_types (drop (i + 1) ps)) n (drop (i + 1) ns) in
    let kept = one_more put before append_one whole now next (number_as x.ty n) (map value_of c.loop-i.values) (value_of c.in_ok-v.v) c.loop-i.invariant at (ap (λ (y : CParam). number_as y.ty n) c.index-params-i.is ∙ c.in_ok-v.ensures) in
    let pushed = room_on c.push.result (c.push.new.self ≡ c.loop-i.values ++ c.in_ok-v.v ∷ []) c.in_ok-room.field-0 c.in_ok-room.ensures c.push.ensures.ok in
    subst (λ front. on_ok next (λ rest. Ok (front ++ rest)) ≡ whole) (sym (ap (map value_of) pushed ∙ map-append value_of c.loop-i.values (c.in_ok-v.v ∷ []))) kept
