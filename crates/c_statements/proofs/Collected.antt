-- What is found one by one, from left to right, up to the first trouble.
use Rattle.std.proofs.Common.{◌≡◌, List, [], ◌∷◌, ◌++◌, Result, Ok, Err, refl, sym, ap, ◌∙◌, append_assoc}
use Rattle.c_meaning.specs.Values.{Trouble, on_ok}

pub on_ok_itself : {A : Type 0} (r : Result A Trouble) → r ≡ on_ok r (λ a. Ok a)
on_ok_itself (Ok a) = refl
on_ok_itself (Err w) = refl

-- `join` puts several before the rest, and `cons` one
module _ {B R : Type 0} (cons : B → R → R) (join : List B → R → R) (law : (front : List B) (b : B) (r : R) → join front (cons b r) ≡ join (front ++ b ∷ []) r) where
  joined : (next : Result R Trouble) (front : List B) (b : B) → on_ok (on_ok next (λ rest. Ok (cons b rest))) (λ rest. Ok (join front rest)) ≡ on_ok next (λ rest. Ok (join (front ++ b ∷ []) rest))
  joined (Ok r) front b = ap Ok (law front b r)
  joined (Err w) front b = refl

  -- one more is found
  pub one_more : (whole now next : Result R Trouble) (r : Result B Trouble) (front : List B) (b : B) → on_ok now (λ rest. Ok (join front rest)) ≡ whole → now ≡ on_ok r (λ a. on_ok next (λ rest. Ok (cons a rest))) → r ≡ Ok b → on_ok next (λ rest. Ok (join (front ++ b ∷ []) rest)) ≡ whole
  one_more whole now next r front b h e k = sym (ap (λ x. on_ok x (λ rest. Ok (join front rest))) (e ∙ ap (λ x. on_ok x (λ a. on_ok next (λ rest. Ok (cons a rest)))) k) ∙ joined next front b) ∙ h

  -- trouble ends it
  pub none_more : (whole now next : Result R Trouble) (r : Result B Trouble) (front : List B) (w : Trouble) → on_ok now (λ rest. Ok (join front rest)) ≡ whole → now ≡ on_ok r (λ a. on_ok next (λ rest. Ok (cons a rest))) → r ≡ Err w → whole ≡ Err w
  none_more whole now next r front w h e k = sym h ∙ ap (λ x. on_ok x (λ rest. Ok (join front rest))) (e ∙ ap (λ x. on_ok x (λ a. on_ok next (λ rest. Ok (cons a rest)))) k)

  pub it_ends : (whole now : Result R Trouble) (front : List B) (w : Trouble) → on_ok now (λ rest. Ok (join front rest)) ≡ whole → now ≡ Err w → whole ≡ Err w
  it_ends whole now front w h e = sym h ∙ ap (λ x. on_ok x (λ rest. Ok (join front rest))) e

  pub it_is : (whole now : Result R Trouble) (front : List B) (last : R) → on_ok now (λ rest. Ok (join front rest)) ≡ whole → now ≡ Ok last → whole ≡ Ok (join front last)
  it_is whole now front last h e = sym h ∙ ap (λ x. on_ok x (λ rest. Ok (join front rest))) e

pub append_one : {B : Type 0} (front : List B) (b : B) (r : List B) → front ++ b ∷ r ≡ (front ++ b ∷ []) ++ r
append_one front b r = sym (append_assoc front (b ∷ []) r)
