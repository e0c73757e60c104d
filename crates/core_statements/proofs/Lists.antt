-- Lists from a place on.
use Rattle.std.proofs.Common.{◌≡◌, ℕ, zero, suc, ◌+◌, ◌<◌, ◌≤◌, List, [], ◌∷◌, ◌++◌, length, map, drop, Option, Some, None, refl, sym, ap, ◌∙◌, arith, append_assoc, subst}
use Rattle.std.specs.Prelude.{slice_get}
use Rattle.std.proofs.lemmas.Option.{slice_get_past}
use Rattle.type_trees.specs.Trees.{repeated}
use Rattle.area_types.specs.Trees as trees
use Rattle.core_meaning.specs.Areas as areas
use Rattle.core_meaning.specs.Initializers.{field_types}
use Rattle.core_state.specs.Types.{fields_from}
use Rattle.core_statements.specs.Initial.{zero_held, ZeroAdded}

pub here : {A : Type 0} (xs : List A) (k : ℕ) (x : A) → slice_get xs k ≡ Some x → drop k xs ≡ x ∷ drop (k + 1) xs
here [] k x h = absurd (cc)
here (y ∷ ys) zero x h = let e : y ≡ x = cc in ap (λ z. z ∷ ys) e
here (y ∷ ys) (suc k) x h = let e : suc k + 1 ≡ suc (k + 1) = omega arith in here ys k x h ∙ ap (λ n. x ∷ drop n (y ∷ ys)) (sym e)

pub none_here : {A : Type 0} (xs : List A) (k : ℕ) → slice_get xs k ≡ None → length xs ≤ k
none_here [] k h = omega arith
none_here (y ∷ ys) zero h = absurd (cc)
none_here (y ∷ ys) (suc k) h = omega (arith, none_here ys k h)

pub some_here : {A : Type 0} (xs : List A) (k : ℕ) → k < length xs → (x : A) × (slice_get xs k ≡ Some x)
some_here [] k h = absurd (omega arith)
some_here (y ∷ ys) zero h = (y, refl)
some_here (y ∷ ys) (suc k) h = some_here ys k (omega arith)

-- one more in front of what is left
pub one_more : {A B : Type 0} (f : A → B) (front : List B) (xs : List A) (k : ℕ) (x : A) (whole : List B) → slice_get xs k ≡ Some x → front ++ map f (drop k xs) ≡ whole → (front ++ f x ∷ []) ++ map f (drop (k + 1) xs) ≡ whole
one_more f front xs k x whole h inv = append_assoc front (f x ∷ []) (map f (drop (k + 1) xs)) ∙ ap (λ ys. front ++ map f ys) (sym (here xs k x h)) ∙ inv

-- one zero more
pub zero_more : (types : List trees.Written) (k : ℕ) (old new whole : List areas.Held) → k < length types → ZeroAdded (slice_get types k) old new → old ++ map zero_held (drop k types) ≡ whole → new ++ map zero_held (drop (k + 1) types) ≡ whole
zero_more types k old new whole h added inv =
    let found = some_here types k h in
    let is : new ≡ old ++ zero_held found.0 ∷ [] = subst (λ o. ZeroAdded o old new) found.1 added in
    ap (λ xs. xs ++ map zero_held (drop (k + 1) types)) is ∙ one_more zero_held old types k found.0 whole found.1 inv

-- ---- the types of an array's elements, and of fields

pub repeated_length : {A : Type 0} (n : ℕ) (a : A) → length (repeated n (a ∷ [])) ≡ n
repeated_length zero a = refl
repeated_length (suc n) a = ap suc (repeated_length n a)

pub repeated_at : {A : Type 0} (n : ℕ) (a : A) (k : ℕ) → k < n → slice_get (repeated n (a ∷ [])) k ≡ Some a
repeated_at zero a k h = absurd (omega arith)
repeated_at (suc n) a zero h = refl
repeated_at (suc n) a (suc k) h = repeated_at n a k (omega arith)

pub repeated_past : {A : Type 0} (n : ℕ) (a : A) (k : ℕ) → n ≤ k → slice_get (repeated n (a ∷ [])) k ≡ None
repeated_past n a k h = slice_get_past (repeated n (a ∷ [])) k (omega (arith, repeated_length n a))

pub types_are : (i : ℕ) (types : List trees.Written) → field_types (fields_from i types) ≡ types
types_are i [] = refl
types_are i (a ∷ types) = ap (λ ts. a ∷ ts) (types_are (suc i) types)
