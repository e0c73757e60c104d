-- What demands that are kept say: each rule of the row is kept, and so is each part of the row.
use Rattle.std.proofs.Common.{◌≡◌, true, Bool, List, [], ◌∷◌, Option, Some, None, refl, sym, subst}
use Rattle.std.specs.Prelude.{◌++◌, All}
use Rattle.std.specs.Option.{is_some, option_map, option_and_then}
use Rattle.std.proofs.lemmas.List.Elements.{All-head, All-tail, All-nil, All-cons}
use Rattle.c_text.specs.Right.{IsKept}
use Rattle.c_text.specs.Rules.{Demand, where_typed}
use Rattle.c_soundness.specs.Laws.{matters}

-- kept, where the rule matters
abbrev Matters : Demand → Type 0
Matters d = matters d.rule ≡ true → IsKept d

pub record Kept (ds : List Demand) : Type 0 where
  pub all : All (λ d. matters d.rule ≡ true → IsKept d) ds

front_of : (xs ys : List Demand) → All Matters (xs ++ ys) → All Matters xs
front_of [] ys h = All-nil Matters
front_of (x ∷ xs) ys h = All-cons Matters x xs (All-head Matters x (xs ++ ys) h) (front_of xs ys (All-tail Matters x (xs ++ ys) h))

rest_of : (xs ys : List Demand) → All Matters (xs ++ ys) → All Matters ys
rest_of [] ys h = h
rest_of (x ∷ xs) ys h = rest_of xs ys (All-tail Matters x (xs ++ ys) h)

pub front : (xs ys : List Demand) → Kept (xs ++ ys) → Kept xs
front xs ys h = record { all = front_of xs ys h.all }

pub rest : (xs ys : List Demand) → Kept (xs ++ ys) → Kept ys
rest xs ys h = record { all = rest_of xs ys h.all }

pub asked : {d : Demand} {ds : List Demand} → Kept (d ∷ ds) → matters d.rule ≡ true → d.kept ≡ true
asked {d} {ds} h rule = All-head Matters d ds h.all rule

pub others : {d : Demand} {ds : List Demand} → Kept (d ∷ ds) → Kept ds
others {d} {ds} h = record { all = All-tail Matters d ds h.all }

-- where all are kept, those are that matter
pub right_kept : (ds : List Demand) → All IsKept ds → All (λ d. matters d.rule ≡ true → IsKept d) ds
right_kept [] h = All-nil Matters
right_kept (d ∷ ds) h = All-cons Matters d ds (λ rule. All-head IsKept d ds h) (right_kept ds (All-tail IsKept d ds h))

-- ---- what there is

pub record Found {A : Type 0} (r : Option A) : Type 0 where
  pub value : A
  pub is : r ≡ Some value

pub found : {A : Type 0} (r : Option A) → is_some r ≡ true → Found r
found None h = let no : ⊥ = cc in absurd no
found (Some a) h = record { value = a; is = refl }

pub found_map : {A B : Type 0} (f : A → B) (r : Option A) → Found r → Found (option_map f r)
found_map f r x = subst (λ q. Found (option_map f q)) (sym x.is) (record { value = f x.value; is = refl })

pub then_found : {A B : Type 0} (f : A → Option B) (r : Option A) (a : A) → r ≡ Some a → Found (f a) → Found (option_and_then f r)
then_found f r a is x = subst (λ q. Found (option_and_then f q)) (sym is) x

-- what is asked where there is a type
pub tested : {A : Type 0} (test : A → Bool) (said : Option A) (a : A) → said ≡ Some a → where_typed test said ≡ true → test a ≡ true
tested test said a is h = subst (λ r. where_typed test r ≡ true) is h
