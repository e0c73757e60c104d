-- A name is among others where a search finds it.
use Rattle.std.proofs.Common.{◌≡◌, ℕ, ◌+◌, suc, Bool, true, false, ◌||◌, cond, List, [], ◌∷◌, map, refl, sym, ap, ◌∙◌, arith}
use Rattle.std.specs.Prelude.{Option, Some, None, is_some, option_map, option_and_then, slice_get}
use Rattle.std.specs.List.{list_any, find, position_from}
use Rattle.std.proofs.lemmas.Option.{slice_get-map}
use Rattle.iv_words.specs.Words.{same_word}

found_with : {A : Type 0} (b : Bool) (x : A) (o : Option A) (rest : Bool) → is_some o ≡ rest → is_some (cond b (Some x) o) ≡ b || rest
found_with true x o rest h = refl
found_with false x o rest h = h

pub found_is_any : {A : Type 0} (test : A → Bool) (xs : List A) → is_some (find test xs) ≡ list_any test xs
found_is_any test [] = refl
found_is_any test (x ∷ xs) = found_with (test x) x (find test xs) (list_any test xs) (found_is_any test xs)

-- ---- what is found by its name, among the names alone

pub position_of_map : {A B : Type 0} (f : A → B) (test : B → Bool) (i : ℕ) (xs : List A) → position_from test i (map f xs) ≡ position_from (λ x. test (f x)) i xs
position_of_map f test i [] = refl
position_of_map f test i (x ∷ xs) = ap (cond (test (f x)) (Some i)) (position_of_map f test (i + 1) xs)

any_of_map : {A B : Type 0} (f : A → B) (test : B → Bool) (xs : List A) → list_any test (map f xs) ≡ list_any (λ x. test (f x)) xs
any_of_map f test [] = refl
any_of_map f test (x ∷ xs) = ap (λ b. test (f x) || b) (any_of_map f test xs)

later_of : {A : Type 0} (x : A) (xs : List A) (o : Option ℕ) → option_and_then (slice_get (x ∷ xs)) (option_map (λ k. suc k) o) ≡ option_and_then (slice_get xs) o
later_of x xs None = refl
later_of x xs (Some k) = refl

shifted_with : (b : Bool) (i : ℕ) (o p : Option ℕ) → o ≡ option_map (λ k. suc k) p → cond b (Some (i + 1)) o ≡ option_map (λ k. suc k) (cond b (Some i) p)
shifted_with true i o p h = let e : i + 1 ≡ suc i = omega arith in ap Some e
shifted_with false i o p h = h

shifted : {A : Type 0} (test : A → Bool) (i : ℕ) (xs : List A) → position_from test (i + 1) xs ≡ option_map (λ k. suc k) (position_from test i xs)
shifted test i [] = refl
shifted test i (x ∷ xs) = shifted_with (test x) i (position_from test (i + 1 + 1) xs) (position_from test (i + 1) xs) (shifted test (i + 1) xs)

find_with : {A : Type 0} (b : Bool) (x : A) (xs : List A) (o : Option A) (p : Option ℕ) → o ≡ option_and_then (slice_get xs) p → cond b (Some x) o ≡ option_and_then (slice_get (x ∷ xs)) (cond b (Some 0) (option_map (λ k. suc k) p))
find_with true x xs o p h = refl
find_with false x xs o p h = h ∙ sym (later_of x xs p)

find_by_position : {A : Type 0} (test : A → Bool) (xs : List A) → find test xs ≡ option_and_then (slice_get xs) (position_from test 0 xs)
find_by_position test [] = refl
find_by_position test (x ∷ xs) =
    find_with (test x) x xs (find test xs) (position_from test 0 xs) (find_by_position test xs)
    ∙ sym (ap (λ p. option_and_then (slice_get (x ∷ xs)) (cond (test x) (Some 0) p)) (shifted test 0 xs))

pub position_by_name : {A B : Type 0} (v : A → B) (name_of : B → List ℕ) (names : List (List ℕ)) (xs : List A) (name : List ℕ) → names ≡ map (λ x. name_of (v x)) xs →
    position_from (λ n. same_word n name) 0 names ≡ position_from (λ y. same_word (name_of y) name) 0 (map v xs)
position_by_name v name_of names xs name named =
    ap (position_from (λ n. same_word n name) 0) named ∙ position_of_map (λ x. name_of (v x)) (λ n. same_word n name) 0 xs
    ∙ sym (position_of_map v (λ y. same_word (name_of y) name) 0 xs)

pub any_by_name : {A B : Type 0} (v : A → B) (name_of : B → List ℕ) (names : List (List ℕ)) (xs : List A) (name : List ℕ) → names ≡ map (λ x. name_of (v x)) xs →
    list_any (λ n. same_word n name) names ≡ list_any (λ y. same_word (name_of y) name) (map v xs)
any_by_name v name_of names xs name named =
    ap (list_any (λ n. same_word n name)) named ∙ any_of_map (λ x. name_of (v x)) (λ n. same_word n name) xs
    ∙ sym (any_of_map v (λ y. same_word (name_of y) name) xs)

seen_at : {A B : Type 0} (v : A → B) (xs : List A) (o : Option ℕ) → option_and_then (slice_get (map v xs)) o ≡ option_and_then (λ k. option_map v (slice_get xs k)) o
seen_at v xs None = refl
seen_at v xs (Some k) = slice_get-map v xs k

-- by the place of the name
pub found_by_name : {A B : Type 0} (v : A → B) (name_of : B → List ℕ) (names : List (List ℕ)) (xs : List A) (name : List ℕ) → names ≡ map (λ x. name_of (v x)) xs →
    option_and_then (λ k. option_map v (slice_get xs k)) (position_from (λ n. same_word n name) 0 names) ≡ find (λ y. same_word (name_of y) name) (map v xs)
found_by_name v name_of names xs name named =
    ap (option_and_then (λ k. option_map v (slice_get xs k))) (position_by_name v name_of names xs name named)
    ∙ sym (seen_at v xs (position_from (λ y. same_word (name_of y) name) 0 (map v xs))) ∙ sym (find_by_position (λ y. same_word (name_of y) name) (map v xs))
