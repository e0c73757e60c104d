-- Types that there are where some tests hold.
use Rattle.std.proofs.Common.{◌≡◌, refl, Bool, true, false, [], Option, Some, None, if◌then◌else◌}
use Rattle.std.specs.Prelude.{◌&&◌}
use Rattle.std.specs.Option.{option_and_then}
use Rattle.c_ast.specs.Names.{named}
use Rattle.c_ast.specs.StaticTypes.{ValueType, of_both, of_choice}
use Rattle.c_ast.specs.Syntax.{Name}
use Rattle.c_ast.specs.Targets.{TargetTable}
use Rattle.c_text.specs.Scopes.{Names, usable}
use Rattle.c_scopes.specs.Views.{chosen}

pub usable_named : (names : Names) (x : Name) → (if names.in_function then named names.values x else None) ≡ named (usable names) x
usable_named names x = go names.in_function
  where
    go : (b : Bool) → (if b then named names.values x else None) ≡ named (if b then names.values else []) x
    go true = refl
    go false = refl

pub gated : {A B : Type 0} (f : A → Option B) (b : Bool) (x : Option A) → option_and_then f (if b then x else None) ≡ (if b then option_and_then f x else None)
gated f true x = refl
gated f false x = refl

no_second : {A B C : Type 0} (f : A → B → Option C) (x : Option A) → of_both f x None ≡ None
no_second f None = refl
no_second f (Some a) = refl

pub gated_both : {A B C : Type 0} (f : A → B → Option C) (p q : Bool) (x : Option A) (y : Option B) → of_both f (if p then x else None) (if q then y else None) ≡ (if p && q then of_both f x y else None)
gated_both f true true x y = refl
gated_both f true false x y = no_second f x
gated_both f false q x y = refl

pub gated_choice : (t : TargetTable) (p q r : Bool) (c a b : Option ValueType) → chosen t (if p then c else None) (if q then a else None) (if r then b else None) ≡ (if p && q && r then chosen t c a b else None)
gated_choice t true true true c a b = refl
gated_choice t true true false c a b = no_arms c (λ test. no_second (of_choice t test) a)
  where
    no_arms : (x : Option ValueType) → ((test : ValueType) → of_both (of_choice t test) a None ≡ None) → option_and_then (λ test. of_both (of_choice t test) a None) x ≡ None
    no_arms None e = refl
    no_arms (Some test) e = e test
gated_choice t true false r c a b = none_at_all c
  where
    none_at_all : (x : Option ValueType) → option_and_then (λ test. of_both (of_choice t test) None (if r then b else None)) x ≡ None
    none_at_all None = refl
    none_at_all (Some test) = refl
gated_choice t false q r c a b = refl

pub gated_cast : {A B : Type 0} (f : A → Option B) (p q : Bool) (x : Option A) → (if p then option_and_then f (if q then x else None) else None) ≡ (if p && q then option_and_then f x else None)
gated_cast f true true x = refl
gated_cast f true false x = refl
gated_cast f false q x = refl
