-- An initializer of a type gives a value of it, and one that has every element of a value gives the value.
use Rattle.std.proofs.Common.{◌≡◌, zero, suc, ℕ, refl, ◌∙◌, ap}
use Rattle.type_trees.specs.Trees.{Tree, Leaf, Many, Struct, Row, End, Field}
use Rattle.type_trees.specs.Values.{Value, Cell, Parts, Values, Nil, Cons, EachOf, Fits, FitsRow, HasForm}
use Rattle.c_memory.specs.Initializers.{Init, One, Zero, Braces, Inits, Done, More, copies_of, elements, zeros, zeros_row, initial, initial_row, EachInit, IsInit, AreInits, spelled_out, each_spelled_out}

copies_fit : {V : Type 0} (n : ℕ) (P : Value V → Type 0) (v : Value V) → P v → EachOf n P (copies_of n v)
copies_fit zero P v h = tt
copies_fit (suc n) P v h = (h, copies_fit n P v h)

elements_fit : {V : Type 0} (n : ℕ) (P : Value V → Type 0) (Q : Init V → Type 0) (f : Init V → Value V) (z : Value V) (is : Inits V) → P z → ((i : Init V) → Q i → P (f i)) → EachInit n Q is → EachOf n P (elements n f z is)
elements_fit zero P Q f z Done h k e = tt
elements_fit zero P Q f z (More i is) h k e = tt
elements_fit (suc n) P Q f z Done h k e = (h, copies_fit n P z h)
elements_fit (suc n) P Q f z (More i is) h k e = (k i e.0, elements_fit n P Q f z is h k e.1)

module _ {S N V : Type 0} (Can : S → V → Type 0) (nought : S → V) (can : (s : S) → Can s (nought s)) where
  mutual
    pub zeros_fit : (a : Tree S N) → Fits Can a (zeros nought a)
    zeros_fit (Leaf s) = can s
    zeros_fit (Many n a) = copies_fit n (Fits Can a) (zeros nought a) (zeros_fit a)
    zeros_fit (Struct k r) = zeros_row_fit r

    zeros_row_fit : (r : Row S N) → FitsRow Can r (zeros_row nought r)
    zeros_row_fit End = tt
    zeros_row_fit (Field f a r) = (zeros_fit a, zeros_row_fit r)

  mutual
    pub initial_fits : (a : Tree S N) (i : Init V) → IsInit Can a i → Fits Can a (initial nought a i)
    initial_fits (Leaf s) (One v) h = h
    initial_fits (Leaf s) Zero h = absurd h
    initial_fits (Leaf s) (Braces is) h = absurd h
    initial_fits (Many n a) (One v) h = absurd h
    initial_fits (Many n a) Zero h = zeros_fit (Many n a)
    initial_fits (Many n a) (Braces is) h = elements_fit n (Fits Can a) (IsInit Can a) (initial nought a) (zeros nought a) is (zeros_fit a) (λ i k. initial_fits a i k) h
    initial_fits (Struct k r) (One v) h = absurd h
    initial_fits (Struct k r) Zero h = zeros_fit (Struct k r)
    initial_fits (Struct k r) (Braces is) h = initial_row_fits r is h

    initial_row_fits : (r : Row S N) (is : Inits V) → AreInits Can r is → FitsRow Can r (initial_row nought r is)
    initial_row_fits End Done h = tt
    initial_row_fits End (More i is) h = tt
    initial_row_fits (Field f a r) Done h = (zeros_fit a, zeros_row_fit r)
    initial_row_fits (Field f a r) (More i is) h = (initial_fits a i h.0, initial_row_fits r is h.1)

-- ---- every element

elements_same : {V : Type 0} (n : ℕ) (P : Value V → Type 0) (f : Init V → Value V) (z : Value V) (vs : Values V) → ((v : Value V) → P v → f (spelled_out v) ≡ v) → EachOf n P vs → elements n f z (each_spelled_out vs) ≡ vs
elements_same zero P f z Nil h e = refl
elements_same zero P f z (Cons v vs) h e = absurd e
elements_same (suc n) P f z Nil h e = absurd e
elements_same (suc n) P f z (Cons v vs) h e = ap (λ x. Cons x (elements n f z (each_spelled_out vs))) (h v e.0) ∙ ap (λ l. Cons v l) (elements_same n P f z vs h e.1)

module _ {S N V : Type 0} (nought : S → V) where
  mutual
    pub initial_spelled_out : (a : Tree S N) (v : Value V) → HasForm a v → initial nought a (spelled_out v) ≡ v
    initial_spelled_out (Leaf s) (Cell v) h = refl
    initial_spelled_out (Leaf s) (Parts vs) h = absurd h
    initial_spelled_out (Many n a) (Cell v) h = absurd h
    initial_spelled_out (Many n a) (Parts vs) h = ap Parts (elements_same n (HasForm a) (initial nought a) (zeros nought a) vs (λ v k. initial_spelled_out a v k) h)
    initial_spelled_out (Struct k r) (Cell v) h = absurd h
    initial_spelled_out (Struct k r) (Parts vs) h = ap Parts (initial_row_spelled_out r vs h)

    initial_row_spelled_out : (r : Row S N) (vs : Values V) → FitsRow (λ s x. Unit {0}) r vs → initial_row nought r (each_spelled_out vs) ≡ vs
    initial_row_spelled_out End Nil h = refl
    initial_row_spelled_out End (Cons v vs) h = absurd h
    initial_row_spelled_out (Field f a r) Nil h = absurd h
    initial_row_spelled_out (Field f a r) (Cons v vs) h = ap (λ x. Cons x (initial_row nought r (each_spelled_out vs))) (initial_spelled_out a v h.0) ∙ ap (λ l. Cons v l) (initial_row_spelled_out r vs h.1)
