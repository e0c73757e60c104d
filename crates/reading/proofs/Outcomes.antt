-- One outcome after the other.
use Rattle.std.proofs.Common.{◌≡◌, List, refl}
use Rattle.reading.specs.Reader.{Outcome, Done, Unexpected, TooDeep, Reader, and_then}

-- first one reader and then two others, or first two and then the other
pub then_joined : {T A B C : Type 0} (o : Outcome T A) (q : A → Reader T B) (r : B → Reader T C) → and_then (and_then o q) r ≡ and_then o (λ a ts. and_then (q a ts) r)
then_joined (Done a ts) q r = refl
then_joined (Unexpected ts) q r = refl
then_joined (TooDeep ts) q r = refl

pub then_same : {T A B : Type 0} (o : Outcome T A) (q r : A → Reader T B) → ((a : A) (ts : List T) → q a ts ≡ r a ts) → and_then o q ≡ and_then o r
then_same (Done a ts) q r same = same a ts
then_same (Unexpected ts) q r same = refl
then_same (TooDeep ts) q r same = refl

pub then_nothing : {T A : Type 0} (o : Outcome T A) (q : A → Reader T A) → ((a : A) (ts : List T) → q a ts ≡ Done a ts) → and_then o q ≡ o
then_nothing (Done a ts) q nothing = nothing a ts
then_nothing (Unexpected ts) q nothing = refl
then_nothing (TooDeep ts) q nothing = refl
