-- Trees of areas of a table: each array has an element and each struct a field, and what is stored is no reference, and bits
-- of a word that is there.
use Rattle.std.proofs.Common.{◌≡◌, ℕ, zero, suc, ◌≤◌, List, [], ◌∷◌, ◌++◌, length, Some, IsTrue, Bool, true, ap, sym, refl, subst, arith, length-append}
use Rattle.std.specs.Prelude.{slice_get, unwrap_or, get_or, nat_lt, ◌&&◌}
use Rattle.std.specs.List.{list_all}
use Rattle.std.proofs.lemmas.List.{append_assoc, append-nil}
use Rattle.std.proofs.lemmas.Option.{slice_get-get_or}
use Rattle.iv_words.specs.declared.IntKind.{IntKind}
use Rattle.type_trees.specs.Trees.{Leaf, Many, Struct, End, Field}
use Rattle.area_types.specs.Syntax as syntax
use Rattle.area_types.specs.Syntax.{Area, StructType}
use Rattle.area_types.specs.Trees.{Written, WrittenRow, tree_of, fields_from, fields_of, trees_from, trees_of}
use Rattle.area_types.specs.Tables.{is_length, is_stored, is_made_of, is_field, has_index_lengths, is_small, is_number, fits_after, fit_after}
use Rattle.area_types.proofs.Truths.{both, also, is_below, is_at_most}
use Rattle.area_types.proofs.Written.{length-trees_from}

abbrev mutual
  pub Sound : ℕ → Written → Type 0
  Sound words (Leaf held) = IsTrue (is_stored words held)
  Sound words (Many n a) = (1 ≤ n) × Sound words a
  Sound words (Struct k End) = ⊥
  Sound words (Struct k (Field x a fields)) = Sound words a × SoundRow words fields

  pub SoundRow : ℕ → WrittenRow → Type 0
  SoundRow words End = Unit {0}
  SoundRow words (Field x a fields) = Sound words a × SoundRow words fields

abbrev pub SoundTrees : ℕ → List Written → Type 0
SoundTrees words [] = Unit {0}
SoundTrees words (a ∷ trees) = Sound words a × SoundTrees words trees

sound_at : (words : ℕ) (trees : List Written) (k : ℕ) (a : Written) → SoundTrees words trees → slice_get trees k ≡ Some a → Sound words a
sound_at words [] k a s h = absurd (cc)
sound_at words (b ∷ trees) zero a s h = let e : b ≡ a = cc in subst (Sound words) e s.0
sound_at words (b ∷ trees) (suc k) a s h = sound_at words trees k a s.1 h

sound_last : (words : ℕ) (trees : List Written) (a : Written) → SoundTrees words trees → Sound words a → SoundTrees words (trees ++ a ∷ [])
sound_last words [] a s h = (h, tt)
sound_last words (b ∷ trees) a s h = (s.0, sound_last words trees a s.1 h)

module _ (words : ℕ) (trees : List Written) (sound : SoundTrees words trees) where
  pub sound_tree : (a : Area) → IsTrue (is_made_of (length trees) words a) → Sound words (tree_of trees a)
  sound_tree (syntax.Stored held) h = h
  sound_tree (syntax.Array n a) h =
      let parts = both (is_length n) (is_made_of (length trees) words a) h in
      (is_at_most 1 n (both _ _ parts.0).0, sound_tree a parts.1)
  sound_tree (syntax.Struct k) h =
      let e = slice_get-get_or trees k (Struct k End) (is_below k (length trees) h) in
      subst (Sound words) (sym (ap (λ o. unwrap_or o (Struct k End)) e)) (sound_at words trees k (get_or trees k (Struct k End)) sound e)

  sound_fields : (i : ℕ) (fs : List syntax.Field) → IsTrue (list_all (is_field (length trees) words) fs) → SoundRow words (fields_from i trees fs)
  sound_fields i [] h = tt
  sound_fields i (f ∷ fs) h =
      let parts = both (is_field (length trees) words f) (list_all (is_field (length trees) words) fs) h in
      (sound_tree f.area (both (is_made_of (length trees) words f.area) (has_index_lengths f.area) parts.0).0, sound_fields (suc i) fs parts.1)

  pub sound_parts : (k : ℕ) (fs : List syntax.Field) → IsTrue (nat_lt 0 (length fs)) → IsTrue (list_all (is_field (length trees) words) fs) → Sound words (Struct k (fields_of trees fs))
  sound_parts k [] some h = absurd (omega (arith, is_below 0 0 some))
  sound_parts k (f ∷ fs) some h = sound_fields 0 (f ∷ fs) h

-- ---- structs of a table

pub trees_last : (ss : List StructType) (s : StructType) (trees : List Written)
    → trees_from trees (ss ++ s ∷ []) ≡ trees_from trees ss ++ Struct (length (trees_from trees ss)) (fields_of (trees_from trees ss) s.fields) ∷ []
trees_last [] s trees = refl
trees_last (x ∷ ss) s trees = trees_last ss s (trees ++ Struct (length trees) (fields_of trees x.fields) ∷ [])

-- what it is that a struct fits
pub record Fitting (structs : List StructType) (words : List IntKind) (s : StructType) : Type 0 where
  pub some : IsTrue (nat_lt 0 (length s.fields))
  pub fields : IsTrue (list_all (is_field (length structs) (length words)) s.fields)
  pub small : IsTrue (is_small words (Struct (length structs) (fields_of (trees_of structs) s.fields)))
  pub number : IsTrue (is_number (length structs))

pub fitting : (structs : List StructType) (words : List IntKind) (s : StructType) → IsTrue (fits_after structs words s) → Fitting structs words s
fitting structs words s h =
    let some : Bool = nat_lt 0 (length s.fields) in
    let fields : Bool = list_all (is_field (length structs) (length words)) s.fields in
    let small : Bool = is_small words (Struct (length structs) (fields_of (trees_of structs) s.fields)) in
    let last = both (some && fields && small) (is_number (length structs)) h in
    let more = both (some && fields) small last.0 in
    let less = both some fields more.0 in
    record { some = less.0; fields = less.1; small = more.1; number = last.1 }

pub length-trees_of : (structs : List StructType) → length (trees_of structs) ≡ length structs
length-trees_of structs = omega (arith, length-trees_from [] structs)

pub sound_more : (structs : List StructType) (words : List IntKind) (s : StructType) → SoundTrees (length words) (trees_of structs) → IsTrue (fits_after structs words s) → SoundTrees (length words) (trees_of (structs ++ s ∷ []))
sound_more structs words s sound h =
    let n : length structs ≡ length (trees_of structs) = sym (length-trees_of structs) in
    let fields : IsTrue (list_all (is_field (length (trees_of structs)) (length words)) s.fields) = subst (λ m. IsTrue (list_all (is_field m (length words)) s.fields)) n (fitting structs words s h).fields in
    subst (SoundTrees (length words)) (sym (trees_last structs s []))
    (sound_last (length words) (trees_of structs) (Struct (length (trees_of structs)) (fields_of (trees_of structs) s.fields)) sound
    (sound_parts (length words) (trees_of structs) sound (length (trees_of structs)) s.fields (fitting structs words s h).some fields))

table_sound : (more structs : List StructType) (words : List IntKind) → SoundTrees (length words) (trees_of structs) → IsTrue (fit_after structs words more) → SoundTrees (length words) (trees_of (structs ++ more))
table_sound [] structs words sound h = subst (λ ss. SoundTrees (length words) (trees_of ss)) (sym (append-nil structs)) sound
table_sound (s ∷ more) structs words sound h =
    let parts = both (fits_after structs words s) (fit_after (structs ++ s ∷ []) words more) h in
    subst (λ ss. SoundTrees (length words) (trees_of ss)) (append_assoc structs (s ∷ []) more)
    (table_sound more (structs ++ s ∷ []) words (sound_more structs words s sound parts.0) parts.1)

pub sound_table : (structs : List StructType) (words : List IntKind) → IsTrue (fit_after [] words structs) → SoundTrees (length words) (trees_of structs)
sound_table structs words h = table_sound structs [] words tt h

pub sound_area : (structs : List StructType) (words : List IntKind) (a : Area) → IsTrue (fit_after [] words structs) → IsTrue (is_made_of (length structs) (length words) a) → Sound (length words) (tree_of (trees_of structs) a)
sound_area structs words a h k = sound_tree (length words) (trees_of structs) (sound_table structs words h) a (subst (λ n. IsTrue (is_made_of n (length words) a)) (sym (length-trees_of structs)) k)

-- a table has no more structs than there are numbers
structs_numbered : (more structs : List StructType) (words : List IntKind) → length structs ≤ 4_294_967_296 → IsTrue (fit_after structs words more) → length (structs ++ more) ≤ 4_294_967_296
structs_numbered [] structs words few h = omega (arith, length-append structs [])
structs_numbered (s ∷ more) structs words few h =
    let parts = both (fits_after structs words s) (fit_after (structs ++ s ∷ []) words more) h in
    let room = is_below (length structs) 4_294_967_296 (fitting structs words s parts.0).number in
    subst (λ ss. length ss ≤ 4_294_967_296) (append_assoc structs (s ∷ []) more) (structs_numbered more (structs ++ s ∷ []) words (omega (arith, length-append structs (s ∷ []))) parts.1)

pub numbered_table : (structs : List StructType) (words : List IntKind) → IsTrue (fit_after [] words structs) → length structs ≤ 4_294_967_296
numbered_table structs words h = structs_numbered structs [] words (omega arith) h

-- a table with one more struct
pub fit_last : (structs earlier : List StructType) (words : List IntKind) (s : StructType) → IsTrue (fit_after earlier words structs) → IsTrue (fits_after (earlier ++ structs) words s) → IsTrue (fit_after earlier words (structs ++ s ∷ []))
fit_last [] earlier words s h k = also (fits_after earlier words s) true (subst (λ ss. IsTrue (fits_after ss words s)) (append-nil earlier) k) refl
fit_last (x ∷ structs) earlier words s h k =
    let parts = both (fits_after earlier words x) (fit_after (earlier ++ x ∷ []) words structs) h in
    also (fits_after earlier words x) (fit_after (earlier ++ x ∷ []) words (structs ++ s ∷ [])) parts.0
    (fit_last structs (earlier ++ x ∷ []) words s parts.1 (subst (λ ss. IsTrue (fits_after ss words s)) (sym (append_assoc earlier (x ∷ []) structs)) k))
