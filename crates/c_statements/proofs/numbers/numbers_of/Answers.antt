use Rattle.std.proofs.lemmas.Result.{err_from_is_err_and}
use Rattle.std.proofs.Common.{◌≡◌, ◌++◌, [], List, ℤ, Ok, Err, subst}
use Rattle.c_meaning.specs.Values.{on_ok}
use Rattle.c_objects.specs.Shapes.{type_tree}
use Rattle.c_operators.specs.Values.{itself}
use Rattle.c_statements.specs.Given.{given_of}
use Rattle.c_statements.specs.Numbers.{numbers_given, Adds}
use Rattle.c_statements.proofs.ConvertedArguments.{passes}
use Rattle.c_statements.proofs.GivenParts.{from_nothing}
use Rattle.c_statements.proofs.numbers.numbers_of.Goals as goal

abbrev counted : List ℤ → Unit {0} → List ℤ
counted new done = new

pub returns-in_err-add_all : goal.returns-in_err-add_all
returns-in_err-add_all c =
    let q = err_from_is_err_and c.from_residual.result c.from_residual.ensures.1 in
    let said = numbers_given c.args.t (type_tree c.args.ty) (given_of c.args.given.now) in
    rw (q.1, q.2) (passes (Unit {0}) (counted c.add_all.new.out) itself (on_ok said (λ ns. Ok ([] ++ ns))) said c.in_err-add_all.field-0.0 (λ w e. from_nothing said (Err w) e)
    (subst (λ (old : List ℤ). Adds said old c.add_all.new.out (Err c.in_err-add_all.field-0.0)) c.new-numbers.ensures c.in_err-add_all.ensures))

pub returns : goal.returns
returns c =
    let said = numbers_given c.args.t (type_tree c.args.ty) (given_of c.args.given.now) in
    from_nothing said (Ok c.add_all.new.out) (subst (λ (old : List ℤ). on_ok said (λ ns. Ok (old ++ ns)) ≡ Ok c.add_all.new.out) c.new-numbers.ensures c.in_ok-add_all.ensures)
