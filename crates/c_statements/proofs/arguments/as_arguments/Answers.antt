use Rattle.std.proofs.lemmas.Result.{err_from_is_err_and}
use Rattle.std.proofs.Common.{◌≡◌, ◌∷◌, ◌++◌, [], List, map, drop, ◌+◌, sym, ap, ◌∙◌, arith, Ok, subst}
use Rattle.std.proofs.lemmas.List.{map-append}
use Rattle.c_meaning.specs.Values.{CValue, Stuck, on_ok, as_arguments, as_assigned}
use Rattle.c_operators.specs.Values.{value_of, Never}
use Rattle.c_statements.specs.Arguments.{types_of}
use Rattle.c_statements.proofs.Collected.{one_more, none_more, it_ends, append_one}
use Rattle.c_statements.proofs.ConvertedArguments.{passes, room_on, argument_at, no_type_left, no_value_left}
use Rattle.c_statements.proofs.arguments.as_arguments.Goals as goal

abbrev put : CValue → List CValue → List CValue
put a rest = a ∷ rest

abbrev before : List CValue → List CValue → List CValue
before front rest = front ++ rest

pub returns-in_default : goal.returns-in_default
returns-in_default c =
    let t = c.args.t in
    let ts = types_of c.args.params in
    let vs = c.args.values.now in
    let i = c.loop-i.i in
    it_ends put before append_one (as_arguments t ts (map value_of vs)) (as_arguments t (drop i ts) (map value_of (drop i vs))) (map value_of c.loop-i.converted) Stuck c.loop-i.invariant
    (no_type_left t ts vs i c.in_default.ensures c.loop-i-test.true)

pub returns-then-len-values : goal.returns-then-len-values
returns-then-len-values c =
    let t = c.args.t in
    let ts = types_of c.args.params in
    let vs = c.args.values.now in
    let i = c.loop-i.i in
    it_ends put before append_one (as_arguments t ts (map value_of vs)) (as_arguments t (drop i ts) (map value_of (drop i vs))) (map value_of c.loop-i.converted) Stuck c.loop-i.invariant
    (no_value_left t ts vs i (omega arith) (omega (arith, c.if-len-values.true, c.len.ensures)))

pub returns-in_err-v : goal.returns-in_err-v
returns-in_err-v c =
    let q = err_from_is_err_and c.from_residual.result c.from_residual.ensures.1 in
    let t = c.args.t in
    let ts = types_of c.args.params in
    let vs = c.args.values.now in
    let i = c.loop-i.i in
    let v = c.index-values-i.result in
    let now = as_arguments t (drop i ts) (map value_of (drop i vs)) in
    let next = as_arguments t (drop (i + 1) ts) (map value_of (drop (i + 1) vs)) in
    let said = as_assigned t c.in-Some.ty.now (value_of v) in
    rw (q.1, q.2) (passes Never value_of (map value_of) said (as_arguments t ts (map value_of vs)) c.in_err-v.field-0.0
    (λ w e. none_more put before append_one (as_arguments t ts (map value_of vs)) now next said (map value_of c.loop-i.converted) w c.loop-i.invariant
    (argument_at t ts vs i c.in-Some.ty.now v c.in-Some.ensures c.loop-i-test.true c.index-values-i.is) e) c.in_err-v.ensures)

pub loop-i-preserved : goal.loop-i-preserved
loop-i-preserved c =
    let t = c.args.t in
    let ts = types_of c.args.params in
    let vs = c.args.values.now in
    let i = c.loop-i.i in
    let v = c.index-values-i.result in
    let now = as_arguments t (drop i ts) (map value_of (drop i vs)) in
    let next = as_arguments t (drop (i + 1) ts) (map value_of (drop (i + 1) vs)) in
    let said = as_assigned t c.in-Some.ty.now (value_of v) in
    let kept = one_more put before append_one (as_arguments t ts (map value_of vs)) now next said (map value_of c.loop-i.converted) (value_of c.in_ok-v.v) c.loop-i.invariant
    (argument_at t ts vs i c.in-Some.ty.now v c.in-Some.ensures c.loop-i-test.true c.index-values-i.is) c.in_ok-v.ensures in
    let pushed = room_on c.push.result (c.push.new.self ≡ c.loop-i.converted ++ c.in_ok-v.v ∷ []) c.in_ok-room.field-0 c.in_ok-room.ensures c.push.ensures.ok in
    subst (λ front. on_ok next (λ rest. Ok (front ++ rest)) ≡ as_arguments t ts (map value_of vs)) (sym (ap (map value_of) pushed ∙ map-append value_of c.loop-i.converted (c.in_ok-v.v ∷ []))) kept
