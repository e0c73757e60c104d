-- Names in lists: what the rules of new names give, and lists that have the same for each name.
use Rattle.std.proofs.Common.{◌≡◌, ℕ, Bool, true, false, List, [], ◌∷◌, Option, Some, None, refl, sym, ap, subst, ◌∙◌}
use Rattle.std.specs.Prelude.{◌++◌, ◌&&◌, nat_eq, if◌then◌else◌}
use Rattle.std.specs.Option.{is_some, option_map, option_and_then}
use Rattle.std.proofs.lemmas.Bool.{and_parts, eqb-true, eq-eqb}
use Rattle.iv_words.specs.Words.{same_word}
use Rattle.c_ast.specs.declared.CStruct.{CStruct}
use Rattle.c_ast.specs.Names.{named}
use Rattle.c_ast.specs.StaticTypes.{ValueType, PlaceType, Entity, Scope, declared, of_unary, of_binary, of_choice, of_cast, of_entity, of_pointee, of_member, of_element, of_read, of_address, of_both, expr_type, place_type}
use Rattle.c_ast.specs.Syntax.{Name, Expr, Number, Read, Address, Unary, Binary, Cast, Cond, Place, Var, At, Member, Element}
use Rattle.c_ast.specs.Targets.{TargetTable}

-- ---- words

pub same_self : (a : List ℕ) → same_word a a ≡ true
same_self [] = refl
same_self (x ∷ xs) = ap (λ b. b && same_word xs xs) (eq-eqb x x refl) ∙ same_self xs

pub same_equal : (a b : List ℕ) → same_word a b ≡ true → a ≡ b
same_equal [] [] h = refl
same_equal [] (y ∷ ys) h = cc
same_equal (x ∷ xs) [] h = cc
same_equal (x ∷ xs) (y ∷ ys) h =
    let p = and_parts (nat_eq x y) (same_word xs ys) h in
    let e : x ≡ y = eqb-true x y p.0 in
    let f : xs ≡ ys = same_equal xs ys p.1 in
    ap (λ z. z ∷ xs) e ∙ ap (λ zs. y ∷ zs) f

-- ---- lists of names

pub none_there : {A : Type 0} (r : Option A) → is_some r ≡ false → r ≡ None
none_there None h = refl
none_there (Some a) h = let no : ⊥ = cc in absurd no

neither : {A : Type 0} (b : Bool) (e : A) (r : Option A) → (if b then Some e else r) ≡ None → (b ≡ false) × (r ≡ None)
neither true e r h = let no : ⊥ = cc in absurd no
neither false e r h = (refl, h)

swapped : {A : Type 0} (b c : Bool) (v e : A) (r : Option A) → (b ≡ true → c ≡ true → ⊥) → (let q : Option A = if b then Some v else (if c then Some e else r) in q) ≡ (if c then Some e else (if b then Some v else r))
swapped true true v e r differ = absurd (differ refl refl)
swapped true false v e r differ = refl
swapped false true v e r differ = refl
swapped false false v e r differ = refl

-- a name that is new to a list may stand in it anywhere
pub anywhere : {A : Type 0} (ds more : List (Name × A)) (k : Name) (v : A) → named (ds ++ more) k ≡ None → (x : Name) → named ((k, v) ∷ (ds ++ more)) x ≡ named (ds ++ (k, v) ∷ more) x
anywhere [] more k v none x = refl
anywhere {A} (d ∷ ds) more k v none x =
    let apart = neither (same_word d.0 k) d.1 (named (ds ++ more) k) none in
    swapped (same_word k x) (same_word d.0 x) v d.1 (named (ds ++ more) x)
    (λ e f. let is : d.0 ≡ k = same_equal d.0 x f ∙ sym (same_equal k x e) in let same : same_word d.0 k ≡ true = ap (λ w. same_word w k) is ∙ same_self k in let no : ⊥ = (let q : false ≡ true = sym apart.0 ∙ same in cc) in no)
    ∙ ap (λ r. let q : Option A = if same_word d.0 x then Some d.1 else r in q) (anywhere ds more k v apart.1 x)

-- both lists have the same for each name
pub record Alike {A : Type 0} (ds es : List (Name × A)) : Type 0 where
  pub at : (x : Name) → named ds x ≡ named es x

pub alike_more : {A : Type 0} (ds es more : List (Name × A)) (k : Name) (v : A) → Alike ds (es ++ more) → named ds k ≡ None → Alike ((k, v) ∷ ds) (es ++ (k, v) ∷ more)
alike_more {A} ds es more k v h none = record {
  at = λ x. ap (λ r. let q : Option A = if same_word k x then Some v else r in q) (h.at x) ∙ anywhere es more k v (sym (h.at k) ∙ none) x;
}

-- ---- scopes

-- what one scope has, the other has too
pub record Covers (scope wide : Scope) : Type 0 where
  pub at : (x : Name) (e : Entity) → scope x ≡ Some e → wide x ≡ Some e

pub alike_covers : (ds es : List (Name × Entity)) → Alike ds es → Covers (declared ds) (declared es)
alike_covers ds es h = record { at = λ x e is. sym (h.at x) ∙ is }

covers_by : (b : Bool) (v e : Entity) (r q : Option Entity) → (r ≡ Some e → q ≡ Some e) → (if b then Some v else r) ≡ Some e → (if b then Some v else q) ≡ Some e
covers_by true v e r q h is = is
covers_by false v e r q h is = h is

pub covers_more : (x : Name) (v : Entity) (ds es : List (Name × Entity)) → Covers (declared ds) (declared es) → Covers (declared ((x, v) ∷ ds)) (declared ((x, v) ∷ es))
covers_more x v ds es h = record { at = λ y e is. covers_by (same_word x y) v e (named ds y) (named es y) (h.at y e) is }

-- ---- types stay where more is declared

then_stays : {A B : Type 0} (f g : A → Option B) (r q : Option A) → ((a : A) → r ≡ Some a → q ≡ Some a) → ((a : A) (b : B) → f a ≡ Some b → g a ≡ Some b) → (b : B) → option_and_then f r ≡ Some b → option_and_then g q ≡ Some b
then_stays f g None q h k b e = let no : ⊥ = cc in absurd no
then_stays f g (Some a) q h k b e = subst (λ z. option_and_then g z ≡ Some b) (sym (h a refl)) (k a b e)

map_stays : {A B : Type 0} (f : A → B) (r q : Option A) → ((a : A) → r ≡ Some a → q ≡ Some a) → (b : B) → option_map f r ≡ Some b → option_map f q ≡ Some b
map_stays f None q h b e = let no : ⊥ = cc in absurd no
map_stays f (Some a) q h b e = subst (λ z. option_map f z ≡ Some b) (sym (h a refl)) e

both_stay : {A B C : Type 0} (f : A → B → Option C) (r q : Option A) (u v : Option B) → ((a : A) → r ≡ Some a → q ≡ Some a) → ((b : B) → u ≡ Some b → v ≡ Some b) → (c : C) → of_both f r u ≡ Some c → of_both f q v ≡ Some c
both_stay f r q u v h k c e = then_stays (λ a. option_and_then (f a) u) (λ a. option_and_then (f a) v) r q h (λ a d is. then_stays (f a) (f a) u v k (λ b w same. same) d is) c e

module _ (t : TargetTable) (structs : List CStruct) (scope wide : Scope) (covers : Covers scope wide) where
  abbrev old : Expr → Option ValueType
  old e = expr_type t structs scope e

  abbrev new : Expr → Option ValueType
  new e = expr_type t structs wide e

  abbrev old_place : Place → Option PlaceType
  old_place place = place_type t structs scope place

  abbrev new_place : Place → Option PlaceType
  new_place place = place_type t structs wide place

  mutual
    pub type_stays : (e : Expr) (v : ValueType) → expr_type t structs scope e ≡ Some v → expr_type t structs wide e ≡ Some v
    type_stays (Number n suffix) v h = h
    type_stays (Read place) v h = then_stays of_read of_read (old_place place) (new_place place) (place_stays place) (λ a b is. is) v h
    type_stays (Address place) v h = then_stays of_address of_address (old_place place) (new_place place) (place_stays place) (λ a b is. is) v h
    type_stays (Unary op e) v h = then_stays (of_unary t op) (of_unary t op) (old e) (new e) (type_stays e) (λ a b is. is) v h
    type_stays (Binary op a b) v h = both_stay (of_binary t op) (old a) (new a) (old b) (new b) (type_stays a) (type_stays b) v h
    type_stays (Cast to e) v h = then_stays (of_cast to) (of_cast to) (old e) (new e) (type_stays e) (λ a b is. is) v h
    type_stays (Cond c a b) v h =
        then_stays (λ test. of_both (of_choice t test) (old a) (old b)) (λ test. of_both (of_choice t test) (new a) (new b)) (old c) (new c) (type_stays c)
        (λ test w is. both_stay (of_choice t test) (old a) (new a) (old b) (new b) (type_stays a) (type_stays b) w is) v h

    pub place_stays : (place : Place) (q : PlaceType) → place_type t structs scope place ≡ Some q → place_type t structs wide place ≡ Some q
    place_stays (Var x) q h = map_stays (of_entity structs) (scope x) (wide x) (covers.at x) q h
    place_stays (At e) q h = then_stays (of_pointee structs) (of_pointee structs) (old e) (new e) (type_stays e) (λ a b is. is) q h
    place_stays (Member place m) q h = then_stays (of_member m) (of_member m) (old_place place) (new_place place) (place_stays place) (λ a b is. is) q h
    place_stays (Element place e) q h = both_stay of_element (old_place place) (new_place place) (old e) (new e) (place_stays place) (type_stays e) q h
