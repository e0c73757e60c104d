-- The area that a shape names is made of what the table has.
use Rattle.std.proofs.Common.{◌≡◌, ℕ, ◌+◌, ◌<◌, List, [], ◌∷◌, length, Bool, true, false, cond, Option, Some, None, IsTrue, refl, arith}
use Rattle.std.specs.Prelude.{is_some, unwrap_or, nat_eq}
use Rattle.std.specs.Cmp.Lexicographic.{pointwise}
use Rattle.std.specs.List.{position_from}
use Rattle.area_types.specs.Syntax.{Name, StructType}
use Rattle.area_types.specs.Shapes.{Shape, Stored, Array, Struct}
use Rattle.area_types.specs.Interned.{stores_values, number_of, has_lengths, has_structs, area_named}
use Rattle.area_types.specs.Tables.{is_length, is_made_of}
use Rattle.area_types.proofs.Truths.{both, also, below_is}

position_within : {A : Type 0} (p : A → Bool) (i : ℕ) (xs : List A) (k : ℕ) → position_from p i xs ≡ Some k → k < i + length xs
position_within p i [] k h = absurd (cc)
position_within p i (x ∷ xs) k h = go (p x) (position_within p (i + 1) xs k) h
  where
    go : (b : Bool) → (position_from p (i + 1) xs ≡ Some k → k < i + 1 + length xs) → cond b (Some i) (position_from p (i + 1) xs) ≡ Some k → k < i + length (x ∷ xs)
    go true later e = let same : i ≡ k = cc in omega arith
    go false later e = omega (arith, later e)

pub struct_known : (structs : List StructType) (name : Name) → IsTrue (is_some (number_of structs name)) → unwrap_or (number_of structs name) 0 < length structs
struct_known structs name h = go (number_of structs name) refl h
  where
    go : (o : Option ℕ) → number_of structs name ≡ o → IsTrue (is_some o) → unwrap_or o 0 < length structs
    go (Some k) e t = omega (arith, position_within (λ s. pointwise nat_eq s.name name) 0 structs k e)
    go None e t = absurd (cc)

pub made_named : (structs : List StructType) (words : ℕ) (shape : Shape) → IsTrue (stores_values words shape) → IsTrue (has_lengths shape) → IsTrue (has_structs structs shape)
    → IsTrue (is_made_of (length structs) words (area_named structs shape))
made_named structs words (Stored held) s l k = s
made_named structs words (Array n element) s l k =
    let parts = both (is_length n) (has_lengths element) l in
    also (is_length n) (is_made_of (length structs) words (area_named structs element)) parts.0 (made_named structs words element s parts.1 k)
made_named structs words (Struct name) s l k = below_is (unwrap_or (number_of structs name) 0) (length structs) (struct_known structs name k)
