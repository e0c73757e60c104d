-- What holds of a list that a row spells, from what holds of each element.
use Rattle.std.proofs.Common.{◌≡◌, List, [], ◌∷◌, ◌++◌, inl, inr, map, refl, sym, ap, ◌∙◌, subst, append_assoc}
use Rattle.ivory_lexer.specs.declared.Token.{Token}
use Rattle.reading.specs.Row.{Row}
use Rattle.reading.specs.Language.{Language, Many, After, AtLeastOne, Separated, Closed}

-- how a fact of lists comes from one of elements, whatever stands around them
pub record Listed {A : Type 0} (One : Row Token → A → Type 0) (All : Row Token → List A → Type 0) : Type 0 where
  pub nil : (row : Row Token) → All row []
  pub cons : (f g : Row Token) (x : A) (xs : List A) → One f x → All g xs → All (f ++ g) (x ∷ xs)
  pub ahead : (f g : Row Token) (xs : List A) → All f xs → All (f ++ g) xs
  pub behind : (f g : Row Token) (xs : List A) → All g xs → All (f ++ g) xs

-- a list whose elements are seen as they are
pub seen_same : {A : Type 0} (xs : List A) → map (λ (x : A). x) xs ≡ xs
seen_same [] = refl
seen_same (x ∷ xs) = ap (λ ys. x ∷ ys) (seen_same xs)

module _ {A : Type 0} {One : Row Token → A → Type 0} {All : Row Token → List A → Type 0} (fact : Listed One All) (R : Language Token A) (each : (x : A) (row : Row Token) → R x row → One row x) where
  pub of_many : (xs : List A) (row : Row Token) → Many R xs row → All row xs
  of_many [] row e = fact.nil row
  of_many (x ∷ xs) row (f, g, e, r, rs) = subst (λ y. All y (x ∷ xs)) (sym e) (fact.cons f g x xs (each x f r) (of_many xs g rs))

  -- with something before each
  further : {S : Type 0} (Sep : Language Token S) (xs : List A) (row : Row Token) → Many (After Sep R) xs row → All row xs
  further Sep [] row e = fact.nil row
  further Sep (x ∷ xs) row (f, g, e, (s, h, i, e2, t, r), rs) =
      let is : row ≡ h ++ (i ++ g) = e ∙ ap (λ y. y ++ g) e2 ∙ append_assoc h i g in
      subst (λ y. All y (x ∷ xs)) (sym is) (fact.behind h (i ++ g) (x ∷ xs) (fact.cons i g x xs (each x i r) (further Sep xs g rs)))

  pub of_at_least_one : (xs : List A) (row : Row Token) → AtLeastOne R xs row → All row xs
  of_at_least_one xs row (x, f, g, e, r, (more, rs, is)) =
      subst (All row) (sym is) (subst (λ y. All y (x ∷ more)) (sym e) (fact.cons f g x more (each x f r) (of_many more g rs)))

  pub of_separated : {S : Type 0} (Sep : Language Token S) (xs : List A) (row : Row Token) → Separated Sep R xs row → All row xs
  of_separated Sep xs row (x, f, g, e, r, (more, rs, is)) =
      subst (All row) (sym is) (subst (λ y. All y (x ∷ more)) (sym e) (fact.cons f g x more (each x f r) (further Sep more g rs)))

  pub of_closed : {S C : Type 0} (Sep : Language Token S) (Close : Language Token C) (xs : List A) (c : C) (row : Row Token) → Closed Sep R Close (xs, c) row → All row xs
  of_closed {C} Sep Close xs c row (inl (a, r, is)) = subst (All row) (sym (ap (λ (p : List A × C). p.0) is)) (fact.nil row)
  of_closed {C} Sep Close xs c row (inr (ys, f, g, e, r, (b, rs, is))) =
      subst (All row) (sym (ap (λ (p : List A × C). p.0) is)) (subst (λ y. All y ys) (sym e) (fact.ahead f g ys (of_separated Sep ys f r)))
