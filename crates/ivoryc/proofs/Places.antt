-- What the place is at which a walk along a text begins.
use Rattle.std.proofs.Common.{◌≡◌, ℕ, ◌+◌, ◌≤◌, List, [], ◌∷◌, length, take, nat_eq, if◌then◌else◌, reverse, Bool, true, false, arith, ap, ◌∙◌}
use Rattle.std.proofs.lemmas.List.{length-reverse, length-take-le}
use Rattle.iv_words.specs.Lines.{line, column, before_line_end}
use Rattle.ivoryc.specs.declared.place.Place.{Place}
use Rattle.ivoryc.specs.Texts.{place_in}

one_step : (ends : Bool) (n m : ℕ) → n ≤ m → (if ends then 0 else 1 + n) ≤ m + 1
one_step true n m small = omega arith
one_step false n m small = omega (arith, small)

at_most_all : (bs : List ℕ) → before_line_end bs ≤ length bs
at_most_all [] = omega arith
at_most_all (b ∷ bs) = let e : length (b ∷ bs) ≡ length bs + 1 = omega arith in rw e (one_step (nat_eq 10 b) (before_line_end bs) (length bs) (at_most_all bs))

column_is_small : (text : List ℕ) (at : ℕ) → at ≤ length text → column text at ≤ at + 1
column_is_small text at within =
    let e : length (reverse (take at text)) ≡ at = length-reverse (take at text) ∙ length-take-le at text within in
    let small : before_line_end (reverse (take at text)) ≤ at = rw e at (at_most_all (reverse (take at text))) in
    omega (arith, small)

pub begins : (p : Place) (text : List ℕ) (at : ℕ) → p ≡ place_in text at → at ≤ length text →
    (p.line ≡ line text at) × (p.column ≡ column text at) × (p.column ≤ at + 1)
begins p text at here within =
    let e : p.column ≡ column text at = ap (λ (q : Place). q.column) here in
    let small : p.column ≤ at + 1 = rw e (column_is_small text at within) in
    (ap (λ (q : Place). q.line) here, e, small)
