use Rattle.std.proofs.lemmas.Result.{err_from_is_err_and}
use Rattle.std.proofs.Common.{List, ℤ, Ok, Err, sym, ap, ◌∙◌, subst}
use Rattle.run_records.specs.declared.Piece.{Piece}
use Rattle.run_records.specs.declared.Piece.TheVariants.{Cells}
use Rattle.c_meaning.specs.Calls.{piece_of}
use Rattle.c_meaning.specs.Values.{on_ok}
use Rattle.c_objects.specs.Shapes.{base_of}
use Rattle.c_objects.specs.Store.{objects_of}
use Rattle.c_operators.specs.Values.{Gives, itself, value_of, address_of}
use Rattle.c_expressions.specs.Places.{Excused}
use Rattle.c_statements.specs.Cells.{values_behind}
use Rattle.c_statements.proofs.ConvertedArguments.{passes}
use Rattle.c_statements.proofs.pieces.piece_of.Goals as goal

pub returns-in_err-values-in-Ptr : goal.returns-in_err-values-in-Ptr
returns-in_err-values-in-Ptr c =
    let q = err_from_is_err_and c.from_residual.result c.from_residual.ensures.1 in
    let p = c.args.program.now in
    let mem = objects_of c.args.objects.now in
    let said = values_behind p mem (base_of c.in-Ptr.base) (address_of c.in-Ptr.to) in
    rw (q.1, q.2) (subst (λ v. Gives Excused (itself {A = Piece}) (piece_of p.target p.unit.structs mem (value_of v)) (Err c.in_err-values-in-Ptr.field-0.0)) (sym c.in-Ptr.is)
    (passes Excused (itself {A = List ℤ}) (itself {A = Piece}) said (on_ok said (λ cells. Ok (Cells cells))) c.in_err-values-in-Ptr.field-0.0 (λ w e. ap (λ r. on_ok r (λ cells. Ok (Cells cells))) e) c.in_err-values-in-Ptr.ensures))

pub returns-in_ok-values-in-Ptr : goal.returns-in_ok-values-in-Ptr
returns-in_ok-values-in-Ptr c =
    let p = c.args.program.now in
    let mem = objects_of c.args.objects.now in
    ap (λ v. piece_of p.target p.unit.structs mem (value_of v)) c.in-Ptr.is ∙ ap (λ r. on_ok r (λ cells. Ok (Cells cells))) c.in_ok-values-in-Ptr.ensures
