use Rattle.std.proofs.Common.{◌≡◌, refl, ◌∙◌, lit<, ℕ, ◌+◌, ◌*◌, ◌/◌, ◌%◌, ◌<◌, ◌^◌, ◌-◌, List, [], ◌∷◌, ◌++◌, arith}
use Rattle.std.specs.Prelude.{decimal, codes}
use Rattle.std.proofs.lemmas.Fmt.{decimal_digit, decimal_step}
use Rattle.c_text.proofs.laws.spelling_examples.Goals as goal

-- the numbers in the examples

zero_is : decimal 0 ≡ codes "0"
zero_is = decimal_digit 0 (lit< tt)

one_is : decimal 1 ≡ codes "1"
one_is = decimal_digit 1 (lit< tt)

two_is : decimal 2 ≡ codes "2"
two_is = decimal_digit 2 (lit< tt)

nine_is : decimal 9 ≡ codes "9"
nine_is = decimal_digit 9 (lit< tt)

-- one digit more
then : (n d : ℕ) (ds : List ℕ) → 0 < n → d < 10 → n * 10 + d < 2 ^ 64 → decimal n ≡ ds → decimal (n * 10 + d) ≡ ds ++ (48 + d) ∷ []
then n d ds some digit small front =
    let before : (n * 10 + d) / 10 ≡ n = omega arith in
    let last : (n * 10 + d) % 10 ≡ d = omega arith in
    decimal_step (n * 10 + d) (omega arith) small ∙ rw (before, last, front) refl

most_is : decimal 65535 ≡ codes "65535"
most_is =
    then 6553 5 (codes "6553") (lit< tt) (lit< tt) (lit< tt)
    (then 655 3 (codes "655") (lit< tt) (lit< tt) (lit< tt)
    (then 65 5 (codes "65") (lit< tt) (lit< tt) (lit< tt)
    (then 6 5 (codes "6") (lit< tt) (lit< tt) (lit< tt) (decimal_digit 6 (lit< tt)))))

least_is : decimal (2 ^ 63 - 1) ≡ codes "9223372036854775807"
least_is =
    then 922337203685477580 7 (codes "922337203685477580") (lit< tt) (lit< tt) (lit< tt)
    (then 92233720368547758 0 (codes "92233720368547758") (lit< tt) (lit< tt) (lit< tt)
    (then 9223372036854775 8 (codes "9223372036854775") (lit< tt) (lit< tt) (lit< tt)
    (then 922337203685477 5 (codes "922337203685477") (lit< tt) (lit< tt) (lit< tt)
    (then 92233720368547 7 (codes "92233720368547") (lit< tt) (lit< tt) (lit< tt)
    (then 9223372036854 7 (codes "9223372036854") (lit< tt) (lit< tt) (lit< tt)
    (then 922337203685 4 (codes "922337203685") (lit< tt) (lit< tt) (lit< tt)
    (then 92233720368 5 (codes "92233720368") (lit< tt) (lit< tt) (lit< tt)
    (then 9223372036 8 (codes "9223372036") (lit< tt) (lit< tt) (lit< tt)
    (then 922337203 6 (codes "922337203") (lit< tt) (lit< tt) (lit< tt)
    (then 92233720 3 (codes "92233720") (lit< tt) (lit< tt) (lit< tt)
    (then 9223372 0 (codes "9223372") (lit< tt) (lit< tt) (lit< tt)
    (then 922337 2 (codes "922337") (lit< tt) (lit< tt) (lit< tt)
    (then 92233 7 (codes "92233") (lit< tt) (lit< tt) (lit< tt)
    (then 9223 3 (codes "9223") (lit< tt) (lit< tt) (lit< tt)
    (then 922 3 (codes "922") (lit< tt) (lit< tt) (lit< tt)
    (then 92 2 (codes "92") (lit< tt) (lit< tt) (lit< tt)
    (then 9 2 (codes "9") (lit< tt) (lit< tt) (lit< tt)
    (decimal_digit 9 (lit< tt)))))))))))))))))))

pub returns-clause-types : goal.returns-clause-types
returns-clause-types c = record {
  truth = refl;
  pointer = refl;
  pointer_to_const = refl;
  no_result = refl;
  pointed_result = refl;
  held = refl;
  held_pointer = refl;
  object = refl;
}

pub returns-clause-expressions : goal.returns-clause-expressions
returns-clause-expressions c = record {
  plain = simp (zero_is) refl;
  unsigned = simp (one_is) refl;
  long = simp (two_is) refl;
  unsigned_long = simp (nine_is) refl;
  least = simp (least_is) refl;
  flipped = refl;
  operators = simp (one_is) refl;
  cast_ = refl;
  choice = simp (one_is, two_is) refl;
  place = simp (one_is) refl;
  zero = refl;
  unsigned_zero = simp (zero_is) refl;
  nested = simp (one_is, two_is) refl;
  no_arguments = refl;
  arguments = simp (one_is) refl;
}

pub returns-clause-declarations : goal.returns-clause-declarations
returns-clause-declarations c = record {
  struct = simp (most_is) refl;
  extern = refl;
  without_parameters = refl;
  object = simp (one_is) refl;
  const_object = refl;
}

pub returns-clause-statements : goal.returns-clause-statements
returns-clause-statements c = record {
  held = simp (one_is) refl;
  called = refl;
  object = refl;
  first_value = refl;
  assigned = simp (one_is) refl;
  returned = refl;
  value_returned = simp (one_is) refl;
  nested = simp (one_is) refl;
}

pub returns-clause-units : goal.returns-clause-units
returns-clause-units c = record {
  hidden = refl;
  with_parameters = refl;
  pointer_out = simp (one_is) refl;
  nothing = refl;
  in_order = simp (one_is) refl;
}
