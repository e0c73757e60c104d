-- One more word changes no area of a table.
use Rattle.std.proofs.Common.{◌≡◌, ℕ, zero, suc, ◌+◌, ◌*◌, ◌<◌, List, [], ◌∷◌, ◌++◌, length, IsTrue, Bool, ap, sym, ◌∙◌, refl, subst, arith, length-append}
use Rattle.std.specs.Prelude.{slice_get, nat_lt, nat_le, ◌&&◌}
use Rattle.std.specs.List.{list_all}
use Rattle.std.specs.Option.{option_map_or}
use Rattle.iv_words.specs.declared.IntKind.{IntKind}
use Rattle.type_trees.specs.Multiples.{up}
use Rattle.type_trees.specs.Trees.{Leaf, Many, Struct, End, Field, levels}
use Rattle.type_trees.specs.Layouts.{Metric, align, align_row, size, end_row}
use Rattle.area_types.specs.Syntax as syntax
use Rattle.area_types.specs.Syntax.{ValueType, Area, StructType}
use Rattle.area_types.specs.Trees.{Written, WrittenRow, fields_of, trees_of}
use Rattle.iv_words.specs.Kinds.{kind_bytes}
use Rattle.area_types.specs.Sizes.{bytes, metric}
use Rattle.area_types.specs.Tables.{is_length, is_stored, is_made_of, has_index_lengths, is_field, is_small, is_number, fits_after, fit_after}
use Rattle.area_types.proofs.Truths.{both, also, is_below, below_is}
use Rattle.area_types.proofs.Sound.{Sound, SoundRow, SoundTrees, sound_parts, sound_more, fitting, length-trees_of}

get_first : {A : Type 0} (xs ys : List A) (k : ℕ) → k < length xs → slice_get (xs ++ ys) k ≡ slice_get xs k
get_first [] ys k h = absurd (omega arith)
get_first (x ∷ xs) ys zero h = refl
get_first (x ∷ xs) ys (suc k) h = get_first xs ys k (omega arith)

module _ (words more : List IntKind) where
  bytes_more : (t : ValueType) → IsTrue (is_stored (length words) t) → bytes (words ++ more) t ≡ bytes words t
  bytes_more syntax.Truth h = refl
  bytes_more (syntax.Int kind) h = refl
  bytes_more (syntax.Ix n) h = refl
  bytes_more (syntax.Bits k) h = ap (λ o. option_map_or kind_bytes o 1) (get_first words more k (is_below k (length words) h))
  bytes_more (syntax.Ref c r a) h = refl

  abbrev old : Metric ValueType
  old = metric words

  abbrev new : Metric ValueType
  new = metric (words ++ more)

  mutual
    alignment_more : (a : Written) → Sound (length words) a → align new a ≡ align old a
    alignment_more (Leaf held) h = bytes_more held h
    alignment_more (Many n a) h = alignment_more a h.1
    alignment_more (Struct k End) h = absurd h
    alignment_more (Struct k (Field x a fields)) h = alignment_row (Field x a fields) h

    alignment_row : (fields : WrittenRow) → SoundRow (length words) fields → align_row new fields ≡ align_row old fields
    alignment_row End h = refl
    alignment_row (Field x a fields) h = let e = alignment_more a h.0 in let f = alignment_row fields h.1 in cc

  mutual
    size_more : (a : Written) → Sound (length words) a → size new a ≡ size old a
    size_more (Leaf held) h = bytes_more held h
    size_more (Many n a) h = ap (λ s. n * s) (size_more a h.1)
    size_more (Struct k End) h = absurd h
    size_more (Struct k (Field x a fields)) h =
        ap (λ o. up o (align_row new (Field x a fields))) (end_more (Field x a fields) 0 h) ∙ ap (up (end_row old (Field x a fields) 0)) (alignment_row (Field x a fields) h)

    end_more : (fields : WrittenRow) (o : ℕ) → SoundRow (length words) fields → end_row new fields o ≡ end_row old fields o
    end_more End o h = refl
    end_more (Field x a fields) o h =
        ap (λ al. end_row new fields (up o al + size new a)) (alignment_more a h.0)
        ∙ ap (λ s. end_row new fields (up o (align old a) + s)) (size_more a h.0)
        ∙ end_more fields (up o (align old a) + size old a) h.1

  small_more : (a : Written) → Sound (length words) a → IsTrue (is_small words a) → IsTrue (is_small (words ++ more) a)
  small_more a s h = subst (λ n. IsTrue (nat_le n 65_535 && nat_le (levels a) 32)) (sym (size_more a s)) h

  stored_more : (t : ValueType) → IsTrue (is_stored (length words) t) → IsTrue (is_stored (length (words ++ more)) t)
  stored_more syntax.Truth h = refl
  stored_more (syntax.Int kind) h = refl
  stored_more (syntax.Ix n) h = refl
  stored_more (syntax.Bits k) h = below_is k (length (words ++ more)) (omega (arith, is_below k (length words) h, length-append words more))
  stored_more (syntax.Ref c r a) h = absurd (cc)

  made_more : (n : ℕ) (a : Area) → IsTrue (is_made_of n (length words) a) → IsTrue (is_made_of n (length (words ++ more)) a)
  made_more n (syntax.Stored held) h = stored_more held h
  made_more n (syntax.Array m a) h =
      let parts = both (is_length m) (is_made_of n (length words) a) h in
      also (is_length m) (is_made_of n (length (words ++ more)) a) parts.0 (made_more n a parts.1)
  made_more n (syntax.Struct k) h = h

  fields_more : (n : ℕ) (fs : List syntax.Field) → IsTrue (list_all (is_field n (length words)) fs) → IsTrue (list_all (is_field n (length (words ++ more))) fs)
  fields_more n [] h = refl
  fields_more n (f ∷ fs) h =
      let parts = both (is_field n (length words) f) (list_all (is_field n (length words)) fs) h in
      let field = both (is_made_of n (length words) f.area) (has_index_lengths f.area) parts.0 in
      also (is_field n (length (words ++ more)) f) (list_all (is_field n (length (words ++ more))) fs)
      (also (is_made_of n (length (words ++ more)) f.area) (has_index_lengths f.area) (made_more n f.area field.0) field.1) (fields_more n fs parts.1)

  fits_more : (structs : List StructType) (s : StructType) → SoundTrees (length words) (trees_of structs) → IsTrue (fits_after structs words s) → IsTrue (fits_after structs (words ++ more) s)
  fits_more structs s sound h =
      let fit = fitting structs words s h in
      let n : length structs ≡ length (trees_of structs) = sym (length-trees_of structs) in
      let fields : IsTrue (list_all (is_field (length (trees_of structs)) (length words)) s.fields) = subst (λ m. IsTrue (list_all (is_field m (length words)) s.fields)) n fit.fields in
      let some : Bool = nat_lt 0 (length s.fields) in
      let known : Bool = list_all (is_field (length structs) (length (words ++ more))) s.fields in
      let small : Bool = is_small (words ++ more) (Struct (length structs) (fields_of (trees_of structs) s.fields)) in
      also (some && known && small) (is_number (length structs))
      (also (some && known) small
      (also some known fit.some (fields_more (length structs) s.fields fit.fields))
      (small_more (Struct (length structs) (fields_of (trees_of structs) s.fields)) (sound_parts (length words) (trees_of structs) sound (length structs) s.fields fit.some fields) fit.small))
      fit.number

  fit_more : (later structs : List StructType) → SoundTrees (length words) (trees_of structs) → IsTrue (fit_after structs words later) → IsTrue (fit_after structs (words ++ more) later)
  fit_more [] structs sound h = refl
  fit_more (s ∷ later) structs sound h =
      let parts = both (fits_after structs words s) (fit_after (structs ++ s ∷ []) words later) h in
      also (fits_after structs (words ++ more) s) (fit_after (structs ++ s ∷ []) (words ++ more) later) (fits_more structs s sound parts.0)
      (fit_more later (structs ++ s ∷ []) (sound_more structs words s sound parts.0) parts.1)

  -- the table stays one
  pub table_more : (structs : List StructType) → IsTrue (fit_after [] words structs) → IsTrue (fit_after [] (words ++ more) structs)
  table_more structs h = fit_more structs [] tt h
