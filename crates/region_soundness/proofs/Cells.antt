-- Values made of numbers: a value that is filled from numbers fits its type where each number, or zero where there is none, is one of its cell's
-- type. Zero is a number of each type that an area stores.
use Rattle.std.proofs.Common.{◌≡◌, ℕ, zero, suc, ◌<◌, ◌≤◌, ℤ, pos, List, [], ◌∷◌, ◌++◌, length, drop, slice_get, get_or, Some, IsTrue, refl, subst, arith, le-leb}
use Rattle.iv_words.specs.declared.IntKind.{IntKind}
use Rattle.iv_words.specs.declared.IntKind.TheVariants.{U8, U16, U32, U64, I8, I16, I32, I64}
use Rattle.iv_words.specs.Kinds.{in_range}
use Rattle.index_types.specs.Indices.{is_index}
use Rattle.type_trees.specs.Trees.{Leaf, Many, Struct, End, Field, repeated, scalars, scalars_row, count}
use Rattle.type_trees.specs.Values.{EachOf, FitsRow}
use Rattle.type_trees.proofs.Scalars.{length_scalars}
use Rattle.area_types.specs.Syntax as types
use Rattle.area_types.specs.Syntax.{ValueType}
use Rattle.area_types.specs.Tables.{Table, is_stored, has_index_length}
use Rattle.area_types.specs.Trees.{Written, WrittenRow}
use Rattle.area_types.proofs.Truths.{both, is_below, is_at_most}
use Rattle.core_tree.specs.Types.{is_word, is_value}
use Rattle.core_tree.specs.TypedItems.{ValuesFit}
use Rattle.core_meaning.specs.Areas.{Held, filled, filled_row, filled_each}
use Rattle.region_soundness.specs.Scoped.{HeldFits}
use Rattle.region_soundness.proofs.Trees.{Holds}

-- each type gets a number of its own from the list, or zero behind its end
abbrev pub Gets : Table → List ValueType → List ℤ → Type 0
Gets table ts vs = (i : ℕ) (t : ValueType) → slice_get ts i ≡ Some t → IsTrue (is_value table t (get_or vs i (pos 0)))

-- ---- lists of types

get_front : {A : Type 0} (xs ys : List A) (k : ℕ) (x : A) → slice_get xs k ≡ Some x → slice_get (xs ++ ys) k ≡ Some x
get_front [] ys k x h = let no : ⊥ = cc in absurd no
get_front (z ∷ xs) ys zero x h = h
get_front (z ∷ xs) ys (suc k) x h = get_front xs ys k x h

pub gets_front : (table : Table) (ts us : List ValueType) (vs : List ℤ) → Gets table (ts ++ us) vs → Gets table ts vs
gets_front table ts us vs h = λ i t e. h i t (get_front ts us i t e)

behind_all : (table : Table) (ts us : List ValueType) (vs : List ℤ) → Gets table (ts ++ us) vs → Gets table us (drop (length ts) vs)
behind_all table [] us vs h i t e = h i t e
behind_all table (x ∷ ts) us [] h i t e = subst (λ ws. IsTrue (is_value table t (get_or ws i (pos 0)))) (dropped (length ts)) (behind_all table ts us [] (λ j u q. h (suc j) u q) i t e)
  where
    dropped : (n : ℕ) → drop {A = ℤ} n [] ≡ []
    dropped zero = refl
    dropped (suc n) = refl
behind_all table (x ∷ ts) us (v ∷ vs) h i t e = behind_all table ts us vs (λ j u q. h (suc j) u q) i t e

pub gets_behind : (table : Table) (ts us : List ValueType) (vs : List ℤ) (n : ℕ) → length ts ≡ n → Gets table (ts ++ us) vs → Gets table us (drop n vs)
gets_behind table ts us vs n e h = subst (λ m. Gets table us (drop m vs)) e (behind_all table ts us vs h)

pub gets_values : (table : Table) (ts : List ValueType) (vs : List ℤ) → ValuesFit table ts vs → Gets table ts vs
gets_values table [] vs f i t e = let no : ⊥ = cc in absurd no
gets_values table (x ∷ ts) [] f i t e = absurd f
gets_values table (x ∷ ts) (v ∷ vs) f zero t e = let same : x ≡ t = cc in subst (λ y. IsTrue (is_value table y v)) same f.0
gets_values table (x ∷ ts) (v ∷ vs) f (suc i) t e = gets_values table ts vs f.1 i t e

-- ---- filled values

each_fits : (table : Table) (P : Held → Type 0) (n size : ℕ) (one : List ℤ → Held) (ts : List ValueType) → length ts ≡ size → ((vs : List ℤ) → Gets table ts vs → P (one vs))
    → (vs : List ℤ) → Gets table (repeated n ts) vs → EachOf n P (filled_each n size one vs)
each_fits table P zero size one ts e f vs h = tt
each_fits table P (suc n) size one ts e f vs h =
    (f vs (gets_front table ts (repeated n ts) vs h), each_fits table P n size one ts e f (drop size vs) (gets_behind table ts (repeated n ts) vs size e h))

mutual
  pub filled_fits : (table : Table) (ty : Written) (vs : List ℤ) → Gets table (scalars ty) vs → HeldFits table ty (filled ty vs)
  filled_fits table (Leaf t) vs h = h 0 t refl
  filled_fits table (Many n a) vs h = each_fits table (HeldFits table a) n (count a) (filled a) (scalars a) (length_scalars a) (filled_fits table a) vs h
  filled_fits table (Struct k r) vs h = row_fits table r vs h

  row_fits : (table : Table) (r : WrittenRow) (vs : List ℤ) → Gets table (scalars_row r) vs → FitsRow (Holds table) r (filled_row r vs)
  row_fits table End vs h = tt
  row_fits table (Field f a r) vs h =
      (filled_fits table a vs (gets_front table (scalars a) (scalars_row r) vs h), row_fits table r (drop (count a) vs) (gets_behind table (scalars a) (scalars_row r) vs (count a) (length_scalars a) h))

-- ---- zero

zero_of_kind : (kind : IntKind) → IsTrue (in_range kind (pos 0))
zero_of_kind U8 = refl
zero_of_kind U16 = refl
zero_of_kind U32 = refl
zero_of_kind U64 = refl
zero_of_kind I8 = refl
zero_of_kind I16 = refl
zero_of_kind I32 = refl
zero_of_kind I64 = refl

zero_of_word : (words : List IntKind) (k : ℕ) → k < length words → IsTrue (is_word (slice_get words k) (pos 0))
zero_of_word [] k h = let no : ⊥ = omega arith in absurd no
zero_of_word (w ∷ ws) zero h = zero_of_kind w
zero_of_word (w ∷ ws) (suc k) h = zero_of_word ws k (omega (arith, h))

zero_index : (n : ℕ) → 1 ≤ n → IsTrue (is_index n (pos 0))
zero_index zero h = let no : ⊥ = omega arith in absurd no
zero_index (suc n) h = le-leb 1 (suc n) h

-- of a type that an area stores
pub zero_held : (table : Table) (t : ValueType) → IsTrue (is_stored (length table.words) t) → IsTrue (has_index_length t) → IsTrue (is_value table t (pos 0))
zero_held table types.Truth h k = refl
zero_held table (types.Int kind) h k = zero_of_kind kind
zero_held table (types.Ix n) h k = zero_index n (is_at_most 1 n (both _ _ k).0)
zero_held table (types.Bits j) h k = zero_of_word table.words j (is_below j (length table.words) h)
zero_held table (types.Ref c r a) h k = let no : ⊥ = cc in absurd no

-- zero serves for each type of the list
abbrev pub Zeros : Table → List ValueType → Type 0
Zeros table ts = Gets table ts []

pub no_zeros : (table : Table) → Zeros table []
no_zeros table i t e = let no : ⊥ = cc in absurd no

pub zeros_one : (table : Table) (t : ValueType) → IsTrue (is_value table t (pos 0)) → Zeros table (t ∷ [])
zeros_one table t h zero u e = let same : t ≡ u = cc in subst (λ y. IsTrue (is_value table y (pos 0))) same h
zeros_one table t h (suc i) u e = let no : ⊥ = cc in absurd no

pub zeros_both : (table : Table) (ts us : List ValueType) → Zeros table ts → Zeros table us → Zeros table (ts ++ us)
zeros_both table [] us h k i t e = k i t e
zeros_both table (x ∷ ts) us h k zero t e = h zero t e
zeros_both table (x ∷ ts) us h k (suc i) t e = zeros_both table ts us (λ j u q. h (suc j) u q) k i t e

pub zeros_repeated : (table : Table) (n : ℕ) (ts : List ValueType) → Zeros table ts → Zeros table (repeated n ts)
zeros_repeated table zero ts h = no_zeros table
zeros_repeated table (suc n) ts h = zeros_both table ts (repeated n ts) h (zeros_repeated table n ts h)
