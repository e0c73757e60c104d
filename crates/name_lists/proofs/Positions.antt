-- Where the first element stands that passes a test.
use Rattle.std.proofs.Common.{◌≡◌, ℕ, ◌+◌, ◌<◌, Bool, true, false, ◌||◌, cond, List, [], ◌∷◌, ◌++◌, length, refl, sym, arith}
use Rattle.std.specs.Prelude.{Option, Some, None, is_some, IfSome}
use Rattle.std.specs.List.{list_any, position_from}
use Rattle.std.specs.Option.{option_or}

any_with : (b : Bool) (i : ℕ) (o : Option ℕ) (rest : Bool) → is_some o ≡ rest → is_some (cond b (Some i) o) ≡ b || rest
any_with true i o rest h = refl
any_with false i o rest h = h

pub position_is_any : {A : Type 0} (test : A → Bool) (i : ℕ) (xs : List A) → is_some (position_from test i xs) ≡ list_any test xs
position_is_any test i [] = refl
position_is_any test i (x ∷ xs) = any_with (test x) i (position_from test (i + 1) xs) (list_any test xs) (position_is_any test (i + 1) xs)

below_with : (b : Bool) (i top : ℕ) (o : Option ℕ) → i < top → IfSome o (λ k. k < top) → IfSome (cond b (Some i) o) (λ k. k < top)
below_with true i top o small rest = small
below_with false i top o small rest = rest

below : {A : Type 0} (test : A → Bool) (i top : ℕ) (xs : List A) → top ≡ i + length xs → IfSome (position_from test i xs) (λ k. k < top)
below test i top [] is = tt
below test i top (x ∷ xs) is =
    let next : top ≡ i + 1 + length xs = omega (arith, is) in
    let small : i < top = omega (arith, is) in
    below_with (test x) i top (position_from test (i + 1) xs) small (below test (i + 1) top xs next)

pub position_is_below : {A : Type 0} (test : A → Bool) (xs : List A) → IfSome (position_from test 0 xs) (λ k. k < length xs)
position_is_below test xs = below test 0 (length xs) xs (omega arith)

more_with : (b : Bool) (i : ℕ) (o rest last : Option ℕ) → o ≡ option_or rest last → cond b (Some i) o ≡ option_or (cond b (Some i) rest) last
more_with true i o rest last h = refl
more_with false i o rest last h = h

-- with one more element, which stands at n
pub position_more : {A : Type 0} (test : A → Bool) (i n : ℕ) (xs : List A) (y : A) → n ≡ i + length xs →
    position_from test i (xs ++ y ∷ []) ≡ option_or (position_from test i xs) (cond (test y) (Some n) None)
position_more test i n [] y is = let e : n ≡ i = omega (arith, is) in rw (sym e) refl
position_more test i n (x ∷ xs) y is =
    let next : n ≡ i + 1 + length xs = omega (arith, is) in
    more_with (test x) i (position_from test (i + 1) (xs ++ y ∷ [])) (position_from test (i + 1) xs) (cond (test y) (Some n) None) (position_more test (i + 1) n xs y next)
