-- Sets of kinds as lists, what is wrong as a list, and truths that a test is made of.
use Rattle.std.proofs.Common.{◌≡◌, ℕ, zero, suc, ◌≤◌, ◌≢◌, Bool, true, false, cond, not, List, [], ◌∷◌, ◌++◌, map, refl, sym, ap, ◌∙◌, subst, arith, Option, Some, None}
use Rattle.std.specs.Prelude.{nat_eq, nat_le, ◌||◌, is_some}
use Rattle.std.specs.List.{list_any}
use Rattle.std.proofs.lemmas.Bool.{eqb-true, eqb-false, eq-eqb, leb-true}
use Rattle.grammars.specs.Grammar.{stage}
use Rattle.grammars.specs.Kinds.{holds, common, when, at_stages, at_some_stage, at_every_stage}

-- ---- truths

pub one_true : (a b : Bool) → cond a b false ≡ true → a ≡ true
one_true true b e = refl
one_true false b e = cc

pub other_true : (a b : Bool) → cond a b false ≡ true → b ≡ true
other_true true b e = e
other_true false b e = cc

pub pair_true : (a b : Bool) → a ≡ true → b ≡ true → cond a b false ≡ true
pair_true a b e h = ap (λ x. cond x b false) e ∙ h

pub either_one : (a b : Bool) → a ≡ true → cond a true b ≡ true
either_one a b e = ap (λ x. cond x true b) e

pub either_two : (a b : Bool) → b ≡ true → cond a true b ≡ true
either_two true b e = refl
either_two false b e = e

or_more : (b x y : Bool) → (x ≡ true → y ≡ true) → cond b true x ≡ true → cond b true y ≡ true
or_more true x y h e = refl
or_more false x y h e = h e

-- ---- lists that are empty

pub front_none : {A : Type 0} (xs ys : List A) → xs ++ ys ≡ [] → xs ≡ []
front_none [] ys e = refl
front_none (x ∷ xs) ys e = cc

pub back_none : {A : Type 0} (xs ys : List A) → xs ++ ys ≡ [] → ys ≡ []
back_none [] ys e = e
back_none (x ∷ xs) ys e = cc

pub map_none : {A B : Type 0} (f : A → B) (xs : List A) → map f xs ≡ [] → xs ≡ []
map_none f [] e = refl
map_none f (x ∷ xs) e = cc

pub when_none : {A : Type 0} (b : Bool) (x : A) (xs : List A) → when b (x ∷ xs) ≡ [] → b ≡ false
when_none true x xs e = cc
when_none false x xs e = refl

pub not_false : (a : Bool) → not a ≡ false → a ≡ true
not_false true e = refl
not_false false e = cc

-- ---- kinds

pub holds_left : (xs ys : List ℕ) (k : ℕ) → holds xs k ≡ true → holds (xs ++ ys) k ≡ true
holds_left [] ys k e = cc
holds_left (x ∷ xs) ys k e = or_more (nat_eq x k) (holds xs k) (holds (xs ++ ys) k) (holds_left xs ys k) e

pub holds_right : (xs ys : List ℕ) (k : ℕ) → holds ys k ≡ true → holds (xs ++ ys) k ≡ true
holds_right [] ys k e = e
holds_right (x ∷ xs) ys k e = either_two (nat_eq x k) (holds (xs ++ ys) k) (holds_right xs ys k e)

pub holds_one : (k j : ℕ) → nat_eq k j ≡ true → holds (k ∷ []) j ≡ true
holds_one k j e = ap (λ b. cond b true false) e

pub holds_self : (k : ℕ) → holds (k ∷ []) k ≡ true
holds_self k = holds_one k k (eq-eqb k k refl)

pub holds_when : (xs ys : List ℕ) (k : ℕ) (b : Bool) → b ≡ true → holds ys k ≡ true → holds (xs ++ when b ys) k ≡ true
holds_when xs ys k b is e = subst (λ c. holds (xs ++ when c ys) k ≡ true) (sym is) (holds_right xs ys k e)

out_at : (x : ℕ) (xs ys : List ℕ) (k : ℕ) (b c : Bool) → nat_eq x k ≡ b → holds ys x ≡ c → (common xs ys ≡ [] → holds xs k ≡ true → holds ys k ≡ false)
    → cond c (x ∷ common xs ys) (common xs ys) ≡ [] → cond b true (holds xs k) ≡ true → holds ys k ≡ false
out_at x xs ys k b true same in_both ih none h = cc
out_at x xs ys k true false same only ih none h = ap (holds ys) (sym (eqb-true x k same)) ∙ only
out_at x xs ys k false false same only ih none h = ih none h

-- where no kind is in both, a kind of the first is not in the second
pub common_out : (xs ys : List ℕ) (k : ℕ) → common xs ys ≡ [] → holds xs k ≡ true → holds ys k ≡ false
common_out [] ys k none h = cc
common_out (x ∷ xs) ys k none h = out_at x xs ys k (nat_eq x k) (holds ys x) refl refl (common_out xs ys k) none h

back_at : (b c : Bool) → (b ≡ true → c ≡ false) → c ≡ true → b ≡ false
back_at true c h e = let no : c ≡ false = h refl in cc
back_at false c h e = refl

pub common_back : (xs ys : List ℕ) (k : ℕ) → common xs ys ≡ [] → holds ys k ≡ true → holds xs k ≡ false
common_back xs ys k none h = back_at (holds xs k) (holds ys k) (common_out xs ys k none) h

-- ---- stages

pub stage_within : (last rank : ℕ) → stage last rank ≤ last
stage_within last rank = at (nat_le rank last) refl
  where
    at : (b : Bool) → nat_le rank last ≡ b → cond b rank last ≤ last
    at true e = leb-true rank last e
    at false e = omega arith

module _ {A : Type 0} (f : ℕ → List A) where
  none_at : (last s : ℕ) (b : Bool) → nat_eq s (suc last) ≡ b → (s ≤ last → f s ≡ []) → f (suc last) ≡ [] → s ≤ suc last → f s ≡ []
  none_at last s true e ih here low = ap f (eqb-true s (suc last) e) ∙ here
  none_at last s false e ih here low = let other : s ≢ suc last = eqb-false s (suc last) e in ih (omega (arith, low, other))

  -- where there is nothing at the stages, there is nothing at each
  pub stage_none : (last s : ℕ) → at_stages f last ≡ [] → s ≤ last → f s ≡ []
  stage_none zero zero none low = none
  stage_none zero (suc s) none low = absurd (omega arith)
  stage_none (suc last) s none low = none_at last s (nat_eq s (suc last)) refl (stage_none last s (back_none (f (suc last)) (at_stages f last) none)) (front_none (f (suc last)) (at_stages f last) none) low

holds_stage_at : (f : ℕ → List ℕ) (last s k : ℕ) (b : Bool) → nat_eq s (suc last) ≡ b → (s ≤ last → holds (at_stages f last) k ≡ true) → s ≤ suc last → holds (f s) k ≡ true
    → holds (f (suc last) ++ at_stages f last) k ≡ true
holds_stage_at f last s k true e ih low h = holds_left (f (suc last)) (at_stages f last) k (ap (λ x. holds (f x) k) (sym (eqb-true s (suc last) e)) ∙ h)
holds_stage_at f last s k false e ih low h = holds_right (f (suc last)) (at_stages f last) k (let other : s ≢ suc last = eqb-false s (suc last) e in ih (omega (arith, low, other)))

-- a kind at one stage is one at the stages
pub holds_stage : (f : ℕ → List ℕ) (last s k : ℕ) → s ≤ last → holds (f s) k ≡ true → holds (at_stages f last) k ≡ true
holds_stage f zero zero k low h = h
holds_stage f zero (suc s) k low h = absurd (omega arith)
holds_stage f (suc last) s k low h = holds_stage_at f last s k (nat_eq s (suc last)) refl (λ less. holds_stage f last s k less h) low h

some_at : (f : ℕ → Bool) (last s : ℕ) (b : Bool) → nat_eq s (suc last) ≡ b → (s ≤ last → at_some_stage f last ≡ true) → s ≤ suc last → f s ≡ true → cond (f (suc last)) true (at_some_stage f last) ≡ true
some_at f last s true e ih low h = either_one (f (suc last)) (at_some_stage f last) (ap f (sym (eqb-true s (suc last) e)) ∙ h)
some_at f last s false e ih low h = either_two (f (suc last)) (at_some_stage f last) (let other : s ≢ suc last = eqb-false s (suc last) e in ih (omega (arith, low, other)))

-- what is so at one stage is so at some
pub some_stage : (f : ℕ → Bool) (last s : ℕ) → s ≤ last → f s ≡ true → at_some_stage f last ≡ true
some_stage f zero zero low h = h
some_stage f zero (suc s) low h = absurd (omega arith)
some_stage f (suc last) s low h = some_at f last s (nat_eq s (suc last)) refl (λ less. some_stage f last s less h) low h

every_at : (f : ℕ → Bool) (last s : ℕ) (b : Bool) → nat_eq s (suc last) ≡ b → (at_every_stage f last ≡ true → s ≤ last → f s ≡ true) → cond (f (suc last)) (at_every_stage f last) false ≡ true → s ≤ suc last → f s ≡ true
every_at f last s true e ih all low = ap f (eqb-true s (suc last) e) ∙ one_true (f (suc last)) (at_every_stage f last) all
every_at f last s false e ih all low = let other : s ≢ suc last = eqb-false s (suc last) e in ih (other_true (f (suc last)) (at_every_stage f last) all) (omega (arith, low, other))

pub every_stage : (f : ℕ → Bool) (last s : ℕ) → at_every_stage f last ≡ true → s ≤ last → f s ≡ true
every_stage f zero zero all low = all
every_stage f zero (suc s) all low = absurd (omega arith)
every_stage f (suc last) s all low = every_at f last s (nat_eq s (suc last)) refl (λ rest less. every_stage f last s rest less) all low

-- ---- examples

pub some_of : {A : Type 0} (o : Option A) → is_some o ≡ true → (a : A) × (o ≡ Some a)
some_of None e = cc
some_of (Some a) e = (a, refl)

any_at : {T : Type 0} (test : T → Bool) (x : T) (xs : List T) (b : Bool) → test x ≡ b → (list_any test xs ≡ true → (t : T) × (test t ≡ true)) → (b || list_any test xs) ≡ true → (t : T) × (test t ≡ true)
any_at test x xs true e ih h = (x, e)
any_at test x xs false e ih h = ih h

pub any_of : {T : Type 0} (test : T → Bool) (xs : List T) → list_any test xs ≡ true → (t : T) × (test t ≡ true)
any_of test [] e = cc
any_of test (x ∷ xs) e = any_at test x xs (test x) refl (any_of test xs) e

-- a value that only tokens of a kind give
pub kind_is : {A : Type 0} (b : Bool) (o : Option A) (a : A) → cond b o None ≡ Some a → b ≡ true
kind_is true o a e = refl
kind_is false o a e = cc

pub value_is : {A : Type 0} (b : Bool) (o : Option A) (a : A) → cond b o None ≡ Some a → o ≡ Some a
value_is true o a e = e
value_is false o a e = cc
