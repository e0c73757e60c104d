-- An area that is made of some structs and words is written out in the same way, and has the same size, where there are more of them.
use Rattle.std.proofs.Common.{◌≡◌, ℕ, zero, suc, ◌+◌, ◌*◌, ◌<◌, ◌≤◌, List, [], ◌∷◌, ◌++◌, length, slice_get, unwrap_or, get_or, Some, IsTrue, ◌&&◌, refl, sym, ◌∙◌, ap, subst, arith, nat_le}
use Rattle.std.specs.Option.{option_map_or}
use Rattle.std.proofs.lemmas.Option.{slice_get-get_or}
use Rattle.iv_words.specs.declared.IntKind.{IntKind}
use Rattle.iv_words.specs.Kinds.{kind_bytes}
use Rattle.type_trees.specs.Multiples.{up}
use Rattle.type_trees.specs.Trees.{Leaf, Many, Struct, End, Field, levels}
use Rattle.type_trees.specs.Layouts.{Metric, align, align_row, size, end_row}
use Rattle.area_types.specs.Syntax as types
use Rattle.area_types.specs.Syntax.{ValueType, Area, StructType}
use Rattle.area_types.specs.Sizes.{bytes, metric}
use Rattle.area_types.specs.Tables.{is_length, is_stored, is_made_of, is_small}
use Rattle.area_types.specs.Trees.{Written, WrittenRow, tree_of, fields_of, trees_from, trees_of}
use Rattle.area_types.proofs.Truths.{both, also, is_below, below_is}
use Rattle.area_types.proofs.Written.{trees_kept}
use Rattle.area_types.proofs.Sound.{Sound, SoundRow, length-trees_of}

-- ---- more structs

trees_join : (ss more : List StructType) (trees : List Written) → trees_from trees (ss ++ more) ≡ trees_from (trees_from trees ss) more
trees_join [] more trees = refl
trees_join (s ∷ ss) more trees = trees_join ss more (trees ++ Struct (length trees) (fields_of trees s.fields) ∷ [])

kept_at : (ss more : List StructType) (k : ℕ) (a : Written) → slice_get (trees_of ss) k ≡ Some a → slice_get (trees_of (ss ++ more)) k ≡ Some a
kept_at ss more k a h = ap (λ ts. slice_get ts k) (trees_join ss more []) ∙ trees_kept more (trees_of ss) k a h

pub written_more : (ss more : List StructType) (words : ℕ) (a : Area) → IsTrue (is_made_of (length ss) words a) → tree_of (trees_of (ss ++ more)) a ≡ tree_of (trees_of ss) a
written_more ss more words (types.Stored t) h = refl
written_more ss more words (types.Array n a) h = ap (Many n) (written_more ss more words a (both (is_length n) (is_made_of (length ss) words a) h).1)
written_more ss more words (types.Struct k) h =
    let there : k < length (trees_of ss) = omega (arith, is_below k (length ss) h, length-trees_of ss) in
    let e = slice_get-get_or (trees_of ss) k (Struct k End) there in
    ap (λ o. unwrap_or o (Struct k End)) (kept_at ss more k (get_or (trees_of ss) k (Struct k End)) e ∙ sym e)

-- ---- more words

module _ (words more : List IntKind) where
  get_word : (xs : List IntKind) (k : ℕ) → k < length xs → slice_get (xs ++ more) k ≡ slice_get xs k
  get_word [] k h = let no : ⊥ = omega arith in absurd no
  get_word (x ∷ xs) zero h = refl
  get_word (x ∷ xs) (suc k) h = get_word xs k (omega (arith, h))

  bytes_more : (t : ValueType) → IsTrue (is_stored (length words) t) → bytes (words ++ more) t ≡ bytes words t
  bytes_more types.Truth h = refl
  bytes_more (types.Int kind) h = refl
  bytes_more (types.Ix n) h = refl
  bytes_more (types.Bits k) h = ap (λ o. option_map_or kind_bytes o 1) (get_word words k (is_below k (length words) h))
  bytes_more (types.Ref c r a) h = refl

  abbrev old : Metric ValueType
  old = metric words

  abbrev new : Metric ValueType
  new = metric (words ++ more)

  mutual
    align_more : (a : Written) → Sound (length words) a → align new a ≡ align old a
    align_more (Leaf t) h = bytes_more t h
    align_more (Many n a) h = align_more a h.1
    align_more (Struct k End) h = absurd h
    align_more (Struct k (Field x a fields)) h = align_fields (Field x a fields) h

    align_fields : (fields : WrittenRow) → SoundRow (length words) fields → align_row new fields ≡ align_row old fields
    align_fields End h = refl
    align_fields (Field x a fields) h = let e = align_more a h.0 in let f = align_fields fields h.1 in cc

  mutual
    size_more : (a : Written) → Sound (length words) a → size new a ≡ size old a
    size_more (Leaf t) h = bytes_more t h
    size_more (Many n a) h = ap (λ s. n * s) (size_more a h.1)
    size_more (Struct k End) h = absurd h
    size_more (Struct k (Field x a fields)) h =
        ap (λ o. up o (align_row new (Field x a fields))) (end_more (Field x a fields) 0 h) ∙ ap (up (end_row old (Field x a fields) 0)) (align_fields (Field x a fields) h)

    end_more : (fields : WrittenRow) (o : ℕ) → SoundRow (length words) fields → end_row new fields o ≡ end_row old fields o
    end_more End o h = refl
    end_more (Field x a fields) o h =
        ap (λ al. end_row new fields (up o al + size new a)) (align_more a h.0)
        ∙ ap (λ s. end_row new fields (up o (align old a) + s)) (size_more a h.0)
        ∙ end_more fields (up o (align old a) + size old a) h.1

  pub small_more : (a : Written) → Sound (length words) a → IsTrue (is_small words a) → IsTrue (is_small (words ++ more) a)
  small_more a s h = subst (λ n. IsTrue (nat_le n 65_535 && nat_le (levels a) 32)) (sym (size_more a s)) h

-- ---- numbers in range

stored_within : (v w : ℕ) (t : ValueType) → v ≤ w → IsTrue (is_stored v t) → IsTrue (is_stored w t)
stored_within v w types.Truth le h = refl
stored_within v w (types.Int kind) le h = refl
stored_within v w (types.Ix n) le h = refl
stored_within v w (types.Bits k) le h = below_is k w (omega (arith, is_below k v h, le))
stored_within v w (types.Ref c r a) le h = absurd (cc)

pub made_within : (s t v w : ℕ) (a : Area) → s ≤ t → v ≤ w → IsTrue (is_made_of s v a) → IsTrue (is_made_of t w a)
made_within s t v w (types.Stored held) a b h = stored_within v w held b h
made_within s t v w (types.Array n x) a b h = let p = both (is_length n) (is_made_of s v x) h in also (is_length n) (is_made_of t w x) p.0 (made_within s t v w x a b p.1)
made_within s t v w (types.Struct k) a b h = below_is k t (omega (arith, is_below k s h, a))
