use Rattle.std.proofs.Common.{◌≡◌, ◌∙◌, sym, ap, ◌+◌, ◌∷◌, length, arith}
use Rattle.std.specs.Prelude.{Err}
use Rattle.std.specs.Option.{option_copied}
use Rattle.std.proofs.lemmas.Result.{err_from_is_err_and}
use Rattle.iv_script.specs.ScriptText.{script_of, script_from}
use Rattle.iv_script.specs.Cuts.{followed, lines_left, size_left}
use Rattle.iv_script.proofs.Reading.{line_more, told}
use Rattle.iv_script.proofs.read.read_script.Goals as goal

pub returns-in_err-read_line : goal.returns-in_err-read_line
returns-in_err-read_line c =
    let p = err_from_is_err_and c.from_residual.result c.from_residual.ensures.1 in
    told c.loop-rest.script (c.loop-rest.number + 1) c.cut_line.result.0.now (lines_left (option_copied c.cut_line.result.1)) (lines_left (option_copied c.loop-rest.rest))
    (script_of c.args.bytes.now) c.in_err-read_line.field-0.0 c.from_residual.result (p.1 ∙ ap Err p.2)
    (ap (λ o. lines_left (option_copied o)) c.in-Some.is ∙ c.cut_line.ensures.cut) c.loop-rest.invariant.0 c.in_err-read_line.ensures

pub loop-rest-preserved : goal.loop-rest-preserved
loop-rest-preserved c =
    let n = c.loop-rest.number + 1 in
    let size : size_left (option_copied c.loop-rest.rest) ≡ length c.in-Some.text.now + 1 = ap (λ o. size_left (option_copied o)) c.in-Some.is in
    let all : lines_left (option_copied c.loop-rest.rest) ≡ c.cut_line.result.0.now ∷ lines_left (option_copied c.cut_line.result.1) =
    ap (λ o. lines_left (option_copied o)) c.in-Some.is ∙ c.cut_line.ensures.cut in (
      ap (λ s. followed s (script_from (n + 1) (lines_left (option_copied c.cut_line.result.1)))) c.in_ok-add.ensures
          ∙ sym (line_more c.loop-rest.script n c.cut_line.result.0.now (lines_left (option_copied c.cut_line.result.1)) (lines_left (option_copied c.loop-rest.rest)) c.in_ok-read_line.field-0 all c.in_ok-read_line.ensures)
          ∙ c.loop-rest.invariant.0,
      omega (arith, size, c.loop-rest.invariant.1, c.cut_line.ensures.shorter),
    )
