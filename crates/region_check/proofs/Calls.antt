-- Parameters with their arguments, from the front.
use Rattle.std.proofs.Common.{◌≡◌, ℕ, zero, suc, ◌<◌, ◌≤◌, List, [], ◌∷◌, ◌++◌, length, take, drop, get_or, map, refl, sym, ap, ◌∙◌, arith}
use Rattle.area_types.specs.View.{type_of}
use Rattle.area_types.specs.declared.area.ValueType.{ValueType}
use Rattle.region_check.specs.Calls.{Passed, passed, call}

abbrev pub row : (params args : List ValueType) → List Passed
row params args = call (map type_of params) (map type_of args)

one_passed : (x y p a : ValueType) → x ≡ p → y ≡ a → passed (type_of p) (type_of a) ≡ passed (type_of x) (type_of y)
one_passed x y p a e q = ap (λ z. passed (type_of z) (type_of a)) (sym e) ∙ ap (λ z. passed (type_of x) (type_of z)) (sym q)

pub row_more : (ps qs : List ValueType) (i : ℕ) (x y : ValueType) → i < length ps → i < length qs → x ≡ get_or ps i x → y ≡ get_or qs i y → row (take (suc i) ps) (take (suc i) qs) ≡ row (take i ps) (take i qs) ++ passed (type_of x) (type_of y) ∷ []
row_more [] qs i x y h k e f = absurd (omega arith)
row_more (p ∷ ps) [] i x y h k e f = absurd (omega arith)
row_more (p ∷ ps) (q ∷ qs) zero x y h k e f = ap (λ z. z ∷ []) (one_passed x y p q e f)
row_more (p ∷ ps) (q ∷ qs) (suc i) x y h k e f = ap (λ l. passed (type_of p) (type_of q) ∷ l) (row_more ps qs i x y (omega arith) (omega arith) e f)

pub row_split : (ps qs : List ValueType) (i : ℕ) (x y : ValueType) → i < length ps → i < length qs → x ≡ get_or ps i x → y ≡ get_or qs i y → row ps qs ≡ row (take i ps) (take i qs) ++ passed (type_of x) (type_of y) ∷ row (drop (suc i) ps) (drop (suc i) qs)
row_split [] qs i x y h k e f = absurd (omega arith)
row_split (p ∷ ps) [] i x y h k e f = absurd (omega arith)
row_split (p ∷ ps) (q ∷ qs) zero x y h k e f = ap (λ z. z ∷ row ps qs) (one_passed x y p q e f)
row_split (p ∷ ps) (q ∷ qs) (suc i) x y h k e f = ap (λ l. passed (type_of p) (type_of q) ∷ l) (row_split ps qs i x y (omega arith) (omega arith) e f)

pub row_length : (ps qs : List ValueType) (i : ℕ) → i ≤ length ps → i ≤ length qs → length (row (take i ps) (take i qs)) ≡ i
row_length ps qs zero h k = refl
row_length [] qs (suc i) h k = absurd (omega arith)
row_length (p ∷ ps) [] (suc i) h k = absurd (omega arith)
row_length (p ∷ ps) (q ∷ qs) (suc i) h k = ap suc (row_length ps qs i (omega arith) (omega arith))
