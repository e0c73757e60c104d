use Rattle.std.proofs.Common.{◌≡◌, ◌-◌, map, drop, sym, ap, ◌∙◌, arith}
use Rattle.c_meaning.specs.Runs.{bound}
use Rattle.c_operators.specs.Values.{value_of}
use Rattle.c_expressions.specs.State.{frame_of}
use Rattle.c_run.proofs.FrameSteps.{first_bound}
use Rattle.c_run.proofs.functions.entry_frame.Goals as goal

pub loop-i-init : goal.loop-i-init
loop-i-init c =
    let ps = c.args.params.now in
    let vs = c.args.args.now in
    let many = c.min-many.result in
    let whole : many - 0 ≡ many = omega arith in
    ap frame_of c.new-frame.ensures ∙ sym (ap (λ n. bound (drop n ps) (map value_of (drop n vs))) whole ∙ first_bound ps vs many c.min-many.ensures)
