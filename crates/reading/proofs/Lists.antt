-- Optional parts and lists.
use Rattle.std.proofs.Common.{◌≡◌, ℕ, Bool, true, false, List, [], ◌∷◌, inl, inr, refl, sym, subst, Option, Some, None}
use Rattle.reading.specs.Row.{Row, Signs}
use Rattle.reading.specs.Language.{Language, Given, Mapped, Then, Either, Optional, AtLeastOne, Separated, Closed}
use Rattle.reading.specs.Reader.{Reader, optional, at_least_one, separated, closed}
use Rattle.reading.specs.Good.{Good}
use Rattle.reading.proofs.Same.{none, good_as, good_wider, good_ended, good_map}
use Rattle.reading.proofs.Tokens.{good_give}
use Rattle.reading.proofs.Sequence.{good_then, good_after}
use Rattle.reading.proofs.Starts.{without_given, StartsWith, starts_then, starts_mapped, starts_apart, many_first}
use Rattle.reading.proofs.Choice.{good_choose}
use Rattle.reading.proofs.Repeat.{good_many}

to_optional : {T A : Type 0} (R : Language T A) (o : Option A) (row : Row T) → Either (Mapped Some R) (Given None) o row → Optional R o row
to_optional R o row (inl (a, r, is)) = subst (λ x. Optional R x row) (sym is) r
to_optional R o row (inr (is, e)) = subst (λ x. Optional R x row) (sym is) e

from_optional : {T A : Type 0} (R : Language T A) (o : Option A) (row : Row T) → Optional R o row → Either (Mapped Some R) (Given None) o row
from_optional R None row e = inr (refl, e)
from_optional R (Some a) row r = inl (a, r, refl)

-- one more token may go on: that with which the part begins
pub good_optional : {T A : Type 0} {signs : Signs T} {limit : ℕ} {c wide test : T → Bool} {R : Language T A} {p : Reader T A} → Good signs limit c R p → StartsWith test R
    → ((t : T) → test t ≡ true → wide t ≡ true) → ((t : T) → c t ≡ true → wide t ≡ true) → Good signs limit wide (Optional R) (optional test p)
good_optional {test} {R} g starts within wider =
    good_as (to_optional R) (from_optional R)
    (good_choose (good_map Some (good_wider wider g)) (good_ended (good_give None)) (starts_mapped Some starts) (without_given test None) (λ a e. within))

-- each further one begins with a token of the test, which goes on from none of them
pub good_at_least_one : {T A : Type 0} {signs : Signs T} {limit : ℕ} {c wide test : T → Bool} {R : Language T A} {p : Reader T A} → Good signs limit c R p → StartsWith test R
    → ((t : T) → test t ≡ true → c t ≡ false) → ((t : T) → test t ≡ true → wide t ≡ true) → ((t : T) → c t ≡ true → wide t ≡ true)
    → Good signs limit wide (AtLeastOne R) (at_least_one test p)
good_at_least_one g starts apart within wider =
    good_then g (λ a. good_map (λ more. a ∷ more) (good_many g starts apart within wider))
    (λ a b m row (more, r, is). apart m.token (many_first starts more m row r))
    (λ a b r. wider)

-- the separator goes on from no element
pub good_separated : {T A S : Type 0} {signs : Signs T} {limit : ℕ} {c wide test : T → Bool} {Sep : Language T S} {R : Language T A} {separator : Reader T S} {p : Reader T A}
    → Good signs limit none Sep separator → StartsWith test Sep → Good signs limit c R p
    → ((t : T) → test t ≡ true → c t ≡ false) → ((t : T) → test t ≡ true → wide t ≡ true) → ((t : T) → c t ≡ true → wide t ≡ true)
    → Good signs limit wide (Separated Sep R) (separated test separator p)
good_separated gs starts g apart within wider =
    good_then g (λ a. good_map (λ more. a ∷ more) (good_many (good_after gs g) (starts_then starts) apart within wider))
    (λ a b m row (more, r, is). apart m.token (many_first (starts_then starts) more m row r))
    (λ a b r. wider)

pub starts_separated : {T A S : Type 0} {Sep : Language T S} {R : Language T A} {test : T → Bool} → StartsWith test R → StartsWith test (Separated Sep R)
starts_separated s = starts_then s

-- the last token goes on from no element, and begins none
pub good_closed : {T A S C : Type 0} {signs : Signs T} {limit : ℕ} {c wide ends test element : T → Bool} {Sep : Language T S} {R : Language T A} {Close : Language T C}
    {closing : Reader T C} {separator : Reader T S} {p : Reader T A}
    → Good signs limit none Close closing → StartsWith ends Close → Good signs limit none Sep separator → StartsWith test Sep → Good signs limit c R p → StartsWith element R
    → ((t : T) → test t ≡ true → c t ≡ false) → ((t : T) → test t ≡ true → wide t ≡ true) → ((t : T) → c t ≡ true → wide t ≡ true)
    → ((t : T) → ends t ≡ true → wide t ≡ false) → ((t : T) → element t ≡ true → ends t ≡ false)
    → Good signs limit none (Closed Sep R Close) (closed ends closing test separator p)
good_closed {T} {A} {C = C} {ends} {element = element} {Sep} {R} {Close} gc starts_close gs starts_sep g starts apart within wider stops begins =
    let begun : StartsWith element (Then {B = List A × C} (Separated Sep R) (λ xs. Mapped (λ c. (xs, c)) Close)) = starts_then (starts_then starts) in
    good_choose (good_map (λ c. ([], c)) gc)
    (good_then (good_separated gs starts_sep g apart within wider) (λ xs. good_map (λ c. (xs, c)) gc)
    (λ xs b m row (c, r, is). stops m.token (starts_close.first c m row r))
    (λ xs b (c, r, is). absurd (starts_close.nonempty c r)))
    (starts_mapped (λ c. ([], c)) starts_close) (starts_apart ends begins begun) (λ a r. absurd (begun.nonempty a r))
