-- A list that is begun with some parts, and goes on with as many as follow.
use Rattle.std.proofs.Common.{◌≡◌, ℕ, Bool, List, [], ◌∷◌, ◌++◌, length, refl, ap, subst, Result}
use Rattle.std.specs.Borrow.{Bor}
use Rattle.ivory_lexer.specs.declared.Token.{Token}
use Rattle.reading.specs.Reader.{Outcome, Done, Unexpected, TooDeep, Reader, mapped, many, many_up_to}
use Rattle.reading.proofs.Turns.{Turns}
use Rattle.expression_parser.specs.declared.Fault.{Fault}
use Rattle.expression_parser.specs.Gives.{Gives}

-- before the first turn
pub turns_further : {T A : Type 0} (test : T → Bool) (p : Reader T A) (ts : List T) (n : ℕ) (first : List A) → n ≡ length ts
    → Turns test p (mapped (λ more. first ++ more) (many test p ts)) n first ts
unfolding many
turns_further test p ts n first e = record { same = ap (λ k. mapped (λ more. first ++ more) (many_up_to k test p ts)) e }

nothing_before : {T A : Type 0} (o : Outcome T (List A)) → mapped (λ more. [] ++ more) o ≡ o
nothing_before (Done a r) = refl
nothing_before (Unexpected r) = refl
nothing_before (TooDeep r) = refl

pub none_before : {A : Type 0} (r : Result (List A × Bor (List Token)) Fault) (first : List A) (o : Outcome Token (List A)) → first ≡ [] → Gives r (mapped (λ more. first ++ more) o) → Gives r o
none_before r first o e given = subst (Gives r) (nothing_before o) (subst (λ xs. Gives r (mapped (λ more. xs ++ more) o)) e given)

pub one_before : {A : Type 0} (r : Result (List A × Bor (List Token)) Fault) (x : A) (first : List A) (o : Outcome Token (List A)) → first ≡ x ∷ []
    → Gives r (mapped (λ more. first ++ more) o) → Gives r (mapped (λ more. x ∷ more) o)
one_before r x first o e given = subst (λ xs. Gives r (mapped (λ more. xs ++ more) o)) e given
