-- What a core has where the text names a part: the word and the fields of bit data, and the fields of structs.
use Rattle.std.proofs.Common.{◌≡◌, ℕ, zero, suc, ◌+◌, ◌<◌, List, [], ◌∷◌, map, length, slice_get, Some, option_map, option_and_then, Bool, true, false, cond, IsTrue, refl, sym, ◌∙◌, ap, arith}
use Rattle.std.specs.List.{find, position_from}
use Rattle.std.proofs.lemmas.List.{length-map}
use Rattle.iv_words.specs.declared.IntKind.{IntKind}
use Rattle.iv_words.specs.Words.{same_word}
use Rattle.ivory_tree.specs.Syntax.{Word}
use Rattle.ivory_tree.specs.declared.items.BitField.{BitField}
use Rattle.ivory_tree.specs.declared.items.BitsItem.{BitsItem}
use Rattle.area_types.specs.Syntax as types
use Rattle.area_types.specs.Syntax.{ValueType, Area, StructType}
use Rattle.area_types.specs.View.{struct_of}
use Rattle.area_types.specs.declared.StructDef.{StructDef}
use Rattle.area_types.specs.declared.region.Region.{Region}
use Rattle.area_types.proofs.Truths.{below_is}
use Rattle.bit_data.specs.Layouts.{placed_at, placed_from}
use Rattle.bit_data.specs.declared.BitLayout.{BitLayout}
use Rattle.bit_data.specs.declared.FieldWish.{FieldWish}
use Rattle.core_tree.specs.Syntax.{ProcCore, ModuleCore}
use Rattle.core_tree.specs.Environments.{bit_field, struct_field}
use Rattle.core_tree.specs.Types.{is_core_area}
use Rattle.source_types.specs.Environments.{Earlier, words}
use Rattle.source_types.specs.Parts.{stored_type, word_type, bit_field_type, bit_field_named, bit_field_number, field_named, field_number, field_type}
use Rattle.source_types.specs.Values.{is_integer, least_unsigned}
use Rattle.typing_rules.specs.Items.{wish_of}
use Rattle.typing_laws.proofs.Lookups.{some_same, mapped, bound}
use Rattle.core_validity.proofs.Lists.{found_at, All-at, get_mapped, begins_length, front_at}
use Rattle.core_validity.proofs.Types.{Usable}
use Rattle.core_validity.proofs.Known.{IsLaid, Known, struct_at}

-- ---- types by their form

pub record IsInteger (t : ValueType) : Type 0 where
  pub kind : IntKind
  pub is : t ≡ types.Int kind

pub integer_is : (t : ValueType) → IsTrue (is_integer t) → IsInteger t
integer_is (types.Int kind) h = record { kind = kind; is = refl }
integer_is types.Truth h = absurd (cc)
integer_is (types.Ix n) h = absurd (cc)
integer_is (types.Bits k) h = absurd (cc)
integer_is (types.Ref c r a) h = absurd (cc)

pub record StoresBehind (t held : ValueType) : Type 0 where
  pub constant : Bool
  pub region : Region
  pub is : t ≡ types.Ref constant region (types.Stored held)

pub stored_behind : (t held : ValueType) → stored_type t ≡ Some held → StoresBehind t held
stored_behind (types.Ref c r (types.Stored u)) held h = record { constant = c; region = r; is = ap (λ v. types.Ref c r (types.Stored v)) (some_same h) }
stored_behind (types.Ref c r (types.Array n a)) held h = absurd (cc)
stored_behind (types.Ref c r (types.Struct k)) held h = absurd (cc)
stored_behind types.Truth held h = absurd (cc)
stored_behind (types.Int kind) held h = absurd (cc)
stored_behind (types.Ix n) held h = absurd (cc)
stored_behind (types.Bits k) held h = absurd (cc)

-- ---- words

-- bit data of the text, and their layout
pub record HasWord (m : ModuleCore) (t word : ValueType) : Type 0 where
  pub number : ℕ
  pub layout : BitLayout
  pub bits : t ≡ types.Bits number
  pub there : slice_get m.layouts number ≡ Some layout
  pub is : word ≡ types.Int layout.word

word_at : (m : ModuleCore) (procs : List ProcCore) (earlier : Earlier) (k : ℕ) (word : ValueType) → Known m procs earlier → word_type earlier (types.Bits k) ≡ Some word → HasWord m (types.Bits k) word
word_at m procs earlier k word known h =
    let p = mapped (λ (i : BitsItem). types.Int i.word) (slice_get earlier.bits k) word h in
    let o = front_at IsLaid earlier.bits m.layouts k p.value known.bits p.there in
    record { number = k; layout = o.value; bits = refl; there = o.there; is = p.is ∙ ap types.Int (sym o.related.word) }

pub has_word : (m : ModuleCore) (procs : List ProcCore) (earlier : Earlier) (t word : ValueType) → Known m procs earlier → word_type earlier t ≡ Some word → HasWord m t word
has_word m procs earlier (types.Bits k) word known h = word_at m procs earlier k word known h
has_word m procs earlier types.Truth word known h = absurd (cc)
has_word m procs earlier (types.Int kind) word known h = absurd (cc)
has_word m procs earlier (types.Ix n) word known h = absurd (cc)
has_word m procs earlier (types.Ref c r a) word known h = absurd (cc)

-- the number of earlier bit data is that of a word of the table
pub bits_usable : (m : ModuleCore) (procs : List ProcCore) (earlier : Earlier) (n k : ℕ) → Known m procs earlier → k < length earlier.bits → Usable m.structs n (types.Bits k)
bits_usable m procs earlier n k known h =
    let same : length (words earlier) ≡ length earlier.bits = length-map earlier.bits (λ (i : BitsItem). i.word) in
    below_is k (length m.structs.words) (begins_length (words earlier) m.structs.words k known.words_begin (omega (arith, h, same)))

-- ---- fields of bit data

record PlacedField (low : ℕ) (ws : List FieldWish) (k : ℕ) (w : FieldWish) : Type 0 where
  start : ℕ
  there : slice_get (placed_from low ws) k ≡ Some (placed_at start w)

placed_field : (low : ℕ) (ws : List FieldWish) (k : ℕ) (w : FieldWish) → slice_get ws k ≡ Some w → PlacedField low ws k w
placed_field low [] k w h = let no : ⊥ = cc in absurd no
placed_field low (x ∷ ws) zero w h = record { start = low; there = ap (λ y. Some (placed_at low y)) (some_same h) }
placed_field low (x ∷ ws) (suc k) w h = let p = placed_field (low + x.width) ws k w h in record { start = p.start; there = p.there }

-- the field of the layout
pub record HasBitField (m : ModuleCore) (k number : ℕ) (f : BitField) : Type 0 where
  pub start : ℕ
  pub found : bit_field m k number ≡ Some (placed_at start (wish_of f))

pub has_bit_field : (m : ModuleCore) (procs : List ProcCore) (earlier : Earlier) (k number : ℕ) (name : Word) (f : BitField) → Known m procs earlier
    → bit_field_named earlier k name ≡ Some f → bit_field_number earlier k name ≡ Some number → HasBitField m k number f
has_bit_field m procs earlier k number name f known h g =
    let named : BitField → Bool = λ (x : BitField). same_word x.name.text name in
    let p = bound (λ (i : BitsItem). find named i.fields) (slice_get earlier.bits k) f h in
    let q = bound (λ (i : BitsItem). position_from named 0 i.fields) (slice_get earlier.bits k) number g in
    let same : q.value ≡ p.value = some_same (sym q.there ∙ p.there) in
    let at : slice_get p.value.fields number ≡ Some f = found_at named number p.value.fields f (ap (λ (i : BitsItem). position_from named 0 i.fields) (sym same) ∙ q.is) p.is in
    let o = front_at IsLaid earlier.bits m.layouts k p.value known.bits p.there in
    let placed = placed_field 0 (map wish_of p.value.fields) number (wish_of f) (get_mapped wish_of p.value.fields number ∙ ap (option_map wish_of) at) in
    record {
      start = placed.start;
      found = ap (option_and_then (λ (l : BitLayout). slice_get l.fields number)) o.there ∙ ap (λ fs. slice_get fs number) o.related.fields ∙ placed.there;
    }

pub bit_type_usable : (m : ModuleCore) (n : ℕ) (f : BitField) → Usable m.structs n (bit_field_type f)
bit_type_usable m n f = go f.truth
  where
    go : (b : Bool) → Usable m.structs n (cond b types.Truth (types.Int (least_unsigned f.width)))
    go true = tt
    go false = tt

-- ---- fields of structs

pub record HasField (m : ModuleCore) (constant : Bool) (region : Region) (k number : ℕ) (t : ValueType) : Type 0 where
  pub area : Area
  pub found : struct_field m k number ≡ Some area
  pub is : t ≡ types.Ref constant region area
  pub fits : IsTrue (is_core_area m.structs area)

pub has_field : (m : ModuleCore) (procs : List ProcCore) (earlier : Earlier) (constant : Bool) (region : Region) (k number : ℕ) (name : Word) (t : ValueType) → Known m procs earlier
    → field_type earlier (types.Ref constant region (types.Struct k)) name ≡ Some t → field_number earlier k name ≡ Some number → HasField m constant region k number t
has_field m procs earlier constant region k number name t known h g =
    let named : types.Field → Bool = λ (x : types.Field). same_word x.name name in
    let r = mapped (λ (f : types.Field). types.Ref constant region f.area) (field_named earlier k name) t h in
    let p = bound (λ (s : StructType). find named s.fields) (slice_get earlier.structs k) r.value r.there in
    let q = bound (λ (s : StructType). position_from named 0 s.fields) (slice_get earlier.structs k) number g in
    let same : q.value ≡ p.value = some_same (sym q.there ∙ p.there) in
    let at : slice_get p.value.fields number ≡ Some r.value = found_at named number p.value.fields r.value (ap (λ (s : StructType). position_from named 0 s.fields) (sym same) ∙ q.is) p.is in
    let o = struct_at m procs earlier k p.value known p.there in
    record {
      area = r.value.area;
      found = ap (option_and_then (λ (d : StructDef). option_map (λ (f : types.Field). f.area) (slice_get (struct_of d).fields number))) o.there
          ∙ ap (λ (s : StructType). option_map (λ (f : types.Field). f.area) (slice_get s.fields number)) o.is ∙ ap (option_map (λ (f : types.Field). f.area)) at;
      is = r.is;
      fits = All-at (λ (f : types.Field). IsTrue (is_core_area m.structs f.area)) p.value.fields number r.value o.areas at;
    }
