-- The areas and types that a text names are areas and types of the core's table.
use Rattle.std.proofs.Common.{◌≡◌, ℕ, ◌<◌, ◌≤◌, List, [], ◌++◌, length, Some, None, Bool, true, false, cond, IsTrue, refl, sym, ◌∙◌, ap, subst, arith, length-append}
use Rattle.std.specs.List.{position_from}
use Rattle.std.proofs.lemmas.List.{length-map}
use Rattle.iv_words.specs.declared.IntKind.{IntKind}
use Rattle.iv_words.specs.Words.{same_word}
use Rattle.ivory_tree.specs.Syntax.{Word, TypeSyntax, TruthType, IntType, IndexType, BitsType, RefType, AreaSyntax, StoredArea, ArrayArea, StructArea}
use Rattle.ivory_tree.specs.Formed.{NoReference, FormedType, FormedArea}
use Rattle.ivory_tree.specs.declared.items.BitsItem.{BitsItem}
use Rattle.ivory_tree.specs.declared.types.RegionText.{RegionText}
use Rattle.ivory_tree.specs.declared.types.RegionText.TheVariants as region
use Rattle.area_types.specs.Syntax as types
use Rattle.area_types.specs.Syntax.{ValueType, Area, StructType}
use Rattle.area_types.specs.Tables.{Table, structs_of, is_length, is_stored, is_made_of, has_index_length, has_index_lengths, is_small, is_table, written_out}
use Rattle.area_types.specs.Trees.{tree_of, trees_of}
use Rattle.area_types.specs.View.{struct_of}
use Rattle.area_types.specs.declared.region.Region.{Region}
use Rattle.area_types.specs.declared.region.Region.TheVariants.{Param}
use Rattle.area_types.proofs.Truths.{also, below_is}
use Rattle.area_types.proofs.Sound.{sound_area}
use Rattle.core_tree.specs.Types.{is_core_area, is_region, is_type}
use Rattle.source_types.specs.Environments.{Earlier, words, number_of_bits, number_of_struct}
use Rattle.source_types.specs.Written.{index_type, region_in, type_in, area_in}
use Rattle.typing_rules.specs.Areas.{NamesArea, NamesType, has_small_area, written}
use Rattle.typing_laws.proofs.Lookups.{some_same, mapped}
use Rattle.typing_laws.proofs.CleanAreas.{index_length, array_parts, ref_parts}
use Rattle.typing_laws.proofs.Made.{position_below, below_zero}
use Rattle.core_validity.proofs.Lists.{Begins}
use Rattle.core_validity.proofs.Types.{area_of_parts}
use Rattle.core_validity.proofs.Sizes.{written_more, small_more, made_within}

abbrev pub NamesAreas : Table → Earlier → Type 0
NamesAreas table earlier = (text : AreaSyntax) (area : Area) → FormedArea text → NamesArea earlier text area → IsTrue (is_core_area table area)

-- ---- what an area is made of

pub record MadeOf (earlier : Earlier) (area : Area) : Type 0 where
  pub of_earlier : IsTrue (is_made_of (length earlier.structs) (length (words earlier)) area)
  pub lengths : IsTrue (has_index_lengths area)

record HeldOf (earlier : Earlier) (t : ValueType) : Type 0 where
  of_words : IsTrue (is_stored (length (words earlier)) t)
  length_fits : IsTrue (has_index_length t)

bits_below : (earlier : Earlier) (name : Word) (k : ℕ) → number_of_bits earlier name ≡ Some k → k < length (words earlier)
bits_below earlier name k h =
    let less = position_below (λ (i : BitsItem). same_word i.name.text name) 0 earlier.bits k h in
    omega (arith, less, length-map earlier.bits (λ (i : BitsItem). i.word))

pub index_is : (n : ℕ) (t : ValueType) → is_length n ≡ true → index_type n ≡ Some t → types.Ix n ≡ t
index_is n t l h = go (is_length n) l h
  where
    go : (b : Bool) → b ≡ true → cond b (Some (types.Ix n)) None ≡ Some t → types.Ix n ≡ t
    go true e g = some_same g
    go false e g = let no : ⊥ = cc in absurd no

held_of : (earlier : Earlier) (regions : List Word) (ty : TypeSyntax) (t : ValueType) → NoReference ty → type_in earlier regions ty ≡ Some t → HeldOf earlier t
held_of earlier regions (TruthType s) t f h = subst (HeldOf earlier) (some_same h) (record { of_words = refl; length_fits = refl })
held_of earlier regions (IntType s kind) t f h = subst (HeldOf earlier) (some_same h) (record { of_words = refl; length_fits = refl })
held_of earlier regions (IndexType s n) t f h =
    let l = index_length n t h in
    subst (HeldOf earlier) (index_is n t l h) (record { of_words = refl; length_fits = l })
held_of earlier regions (BitsType s name) t f h =
    let p = mapped types.Bits (number_of_bits earlier name) t h in
    subst (HeldOf earlier) (sym p.is) (record { of_words = below_is p.value (length (words earlier)) (bits_below earlier name p.value p.there); length_fits = refl })
held_of earlier regions (RefType s c r area) t f h = absurd f

pub made_of : (earlier : Earlier) (text : AreaSyntax) (area : Area) → FormedArea text → area_in earlier text ≡ Some area → MadeOf earlier area
made_of earlier (StoredArea s ty) area f h =
    let p = mapped types.Stored (type_in earlier [] ty) area h in
    let held = held_of earlier [] ty p.value f.0 p.there in
    subst (MadeOf earlier) (sym p.is) (record { of_earlier = held.of_words; lengths = held.length_fits })
made_of earlier (ArrayArea s n element) area f h =
    let p = array_parts n (area_in earlier element) area h in
    let m = made_of earlier element p.element f p.there in
    subst (MadeOf earlier) (sym p.is) (record { of_earlier = also (is_length n) (is_made_of (length earlier.structs) (length (words earlier)) p.element) p.within m.of_earlier; lengths = m.lengths })
made_of earlier (StructArea s name) area f h =
    let p = mapped types.Struct (number_of_struct earlier name) area h in
    let less = position_below (λ (x : StructType). same_word x.name name) 0 earlier.structs p.value p.there in
    subst (MadeOf earlier) (sym p.is) (record { of_earlier = below_is p.value (length earlier.structs) (omega (arith, less)); lengths = refl })

-- ---- areas of the table

-- the table goes on from what is declared so far
pub record Grows (table : Table) (earlier : Earlier) : Type 0 where
  pub structs_begin : Begins StructType earlier.structs (structs_of table)
  pub words_begin : Begins IntKind (words earlier) table.words
  pub so_far : IsTrue (is_table earlier.structs (words earlier))

small_in_table : (table : Table) (earlier : Earlier) (area : Area) → Grows table earlier → MadeOf earlier area → IsTrue (is_small (words earlier) (written earlier area)) → IsTrue (is_small table.words (written_out table area))
small_in_table table earlier area g m h =
    let sound = sound_area earlier.structs (words earlier) area g.so_far m.of_earlier in
    let more = small_more (words earlier) g.words_begin.rest (written earlier area) sound h in
    let same : written_out table area ≡ written earlier area = ap (λ ss. tree_of (trees_of ss) area) g.structs_begin.is ∙ written_more earlier.structs g.structs_begin.rest (length (words earlier)) area m.of_earlier in
    subst (λ ws. IsTrue (is_small ws (written_out table area))) (sym g.words_begin.is) (subst (λ a. IsTrue (is_small (words earlier ++ g.words_begin.rest) a)) (sym same) more)

pub names_areas : (table : Table) (earlier : Earlier) → Grows table earlier → NamesAreas table earlier
names_areas table earlier g text area f names =
    let m = made_of earlier text area f names.exists in
    let structs : length earlier.structs ≤ length table.structs = omega (arith, ap length g.structs_begin.is, length-append earlier.structs g.structs_begin.rest, length-map table.structs struct_of) in
    let kinds : length (words earlier) ≤ length table.words = omega (arith, ap length g.words_begin.is, length-append (words earlier) g.words_begin.rest) in
    area_of_parts table area
    (record {
      of_table = made_within (length earlier.structs) (length table.structs) (length (words earlier)) (length table.words) area structs kinds m.of_earlier;
      small = small_in_table table earlier area g m names.small;
      lengths = m.lengths;
    })

-- an area so far is written out as the table says
pub written_same : (table : Table) (earlier : Earlier) (text : AreaSyntax) (area : Area) → Grows table earlier → FormedArea text → area_in earlier text ≡ Some area → written_out table area ≡ written earlier area
written_same table earlier text area g f h =
    ap (λ ss. tree_of (trees_of ss) area) g.structs_begin.is ∙ written_more earlier.structs g.structs_begin.rest (length (words earlier)) area (made_of earlier text area f h).of_earlier

-- ---- types

region_is : (regions : List Word) (text : RegionText) (r : Region) → region_in regions text ≡ Some r → IsTrue (is_region (length regions) r)
region_is regions region.Global r h = subst (λ x. IsTrue (is_region (length regions) x)) (some_same h) refl
region_is regions (region.Named name) r h =
    let p = mapped Param (position_from (λ n. same_word n name) 0 regions) r h in
    subst (λ x. IsTrue (is_region (length regions) x)) (sym p.is) (below_is p.value (length regions) (below_zero p.value (length regions) (position_below (λ n. same_word n name) 0 regions p.value p.there)))

value_named : (table : Table) (earlier : Earlier) (regions : List Word) (ty : TypeSyntax) (t : ValueType) → Grows table earlier → NoReference ty → type_in earlier regions ty ≡ Some t → IsTrue (is_type table (length regions) t)
value_named table earlier regions ty t g f h = go t (held_of earlier regions ty t f h)
  where
    kinds : length (words earlier) ≤ length table.words
    kinds = omega (arith, ap length g.words_begin.is, length-append (words earlier) g.words_begin.rest)

    go : (u : ValueType) → HeldOf earlier u → IsTrue (is_type table (length regions) u)
    go types.Truth k = refl
    go (types.Int kind) k = refl
    go (types.Ix n) k = k.length_fits
    go (types.Bits j) k = made_within 0 0 (length (words earlier)) (length table.words) (types.Stored (types.Bits j)) (omega arith) kinds k.of_words
    go (types.Ref c r a) k = let no : ⊥ = let w = k.of_words in cc in absurd no

pub names_type : (table : Table) (earlier : Earlier) (regions : List Word) (ty : TypeSyntax) (t : ValueType) → Grows table earlier → FormedType ty → NamesType earlier regions ty t → IsTrue (is_type table (length regions) t)
names_type table earlier regions (TruthType s) t g f names = value_named table earlier regions (TruthType s) t g tt names.exists
names_type table earlier regions (IntType s kind) t g f names = value_named table earlier regions (IntType s kind) t g tt names.exists
names_type table earlier regions (IndexType s n) t g f names = value_named table earlier regions (IndexType s n) t g tt names.exists
names_type table earlier regions (BitsType s name) t g f names = value_named table earlier regions (BitsType s name) t g tt names.exists
names_type table earlier regions (RefType s c r area) t g f names =
    let p = ref_parts c (region_in regions r) (area_in earlier area) t names.exists in
    let small = subst (λ u. IsTrue (has_small_area earlier u)) p.is names.small in
    subst (λ u. IsTrue (is_type table (length regions) u)) (sym p.is)
    (also (is_region (length regions) p.to) (is_core_area table p.target) (region_is regions r p.to p.region_there) (names_areas table earlier g area p.target f (record { exists = p.area_there; small = small })))
