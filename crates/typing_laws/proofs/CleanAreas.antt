-- Areas and types that a program may name break no rule: a part of a small area is small.
use Rattle.std.proofs.Common.{◌≡◌, ℕ, zero, suc, ◌+◌, ◌*◌, ◌≤◌, List, [], Option, Some, None, option_map, Bool, true, false, cond, not, refl, sym, ◌∙◌, ap, subst, IsTrue, arith, nat_le, suc-mul, le-leb}
use Rattle.iv_words.specs.declared.IntKind.{IntKind}
use Rattle.iv_words.specs.Words.{same_word}
use Rattle.ivory_tree.specs.Syntax.{Word, TypeSyntax, TruthType, IntType, IndexType, BitsType, RefType, AreaSyntax, StoredArea, ArrayArea, StructArea}
use Rattle.ivory_tree.specs.declared.items.BitsItem.{BitsItem}
use Rattle.ivory_tree.specs.Formed.{NoReference, FormedType, FormedArea}
use Rattle.type_trees.specs.Trees.{levels}
use Rattle.type_trees.specs.Trees as trees
use Rattle.type_trees.specs.Layouts.{size}
use Rattle.area_types.specs.Syntax as types
use Rattle.area_types.specs.Syntax.{ValueType, Area, StructType}
use Rattle.area_types.specs.declared.region.Region.{Region}
use Rattle.area_types.specs.Sizes.{metric}
use Rattle.area_types.specs.Tables.{is_length, is_small}
use Rattle.area_types.specs.Trees.{Written}
use Rattle.area_types.proofs.Truths.{both, also, is_at_most}
use Rattle.source_types.specs.Environments.{Earlier, words, number_of_bits, number_of_struct}
use Rattle.source_types.specs.Written.{index_type, array_of, ref_type, region_in, type_in, area_in}
use Rattle.rule_faults.specs.Nodes.{Use, Within, AType, AnArea}
use Rattle.rule_faults.specs.Tests.{where_there}
use Rattle.rule_faults.specs.ItemRules.{written, rule_9, rule_12, rule_13, rule_14}
use Rattle.rule_faults.specs.ExpressionRows.{type_row, area_row}
use Rattle.rule_faults.specs.FirstFault.{first_of}
use Rattle.typing_rules.specs.Areas.{NamesArea, NamesType, is_small_area, has_small_area}
use Rattle.typing_laws.proofs.Lookups.{some_same, placed_any, mapped}
use Rattle.typing_laws.proofs.Quiet.{quiet_cons}
use Rattle.typing_laws.proofs.QuietNodes.{quiet_type, quiet_area}

-- ---- lengths

pub index_length : (n : ℕ) (t : ValueType) → index_type n ≡ Some t → is_length n ≡ true
index_length n t h = go (is_length n) refl h
  where
    go : (b : Bool) → is_length n ≡ b → cond b (Some (types.Ix n)) None ≡ Some t → is_length n ≡ true
    go true e g = e
    go false e g = let no : ⊥ = cc in absurd no

pub record ArrayParts (n : ℕ) (o : Option Area) (area : Area) : Type 0 where
  pub element : Area
  pub within : is_length n ≡ true
  pub there : o ≡ Some element
  pub is : area ≡ types.Array n element

pub array_parts : (n : ℕ) (o : Option Area) (area : Area) → array_of n o ≡ Some area → ArrayParts n o area
array_parts n o area h = go (is_length n) refl o refl h
  where
    go : (b : Bool) → is_length n ≡ b → (p : Option Area) → o ≡ p → cond b (option_map (types.Array n) p) None ≡ Some area → ArrayParts n o area
    go true e (Some x) q g = record { element = x; within = e; there = q; is = sym (some_same g) }
    go true e None q g = let no : ⊥ = cc in absurd no
    go false e p q g = let no : ⊥ = cc in absurd no

pub record RefParts (constant : Bool) (region : Option Region) (area : Option Area) (t : ValueType) : Type 0 where
  pub to : Region
  pub target : Area
  pub region_there : region ≡ Some to
  pub area_there : area ≡ Some target
  pub is : t ≡ types.Ref constant to target

pub ref_parts : (constant : Bool) (region : Option Region) (area : Option Area) (t : ValueType) → ref_type constant region area ≡ Some t → RefParts constant region area t
ref_parts constant (Some r) (Some a) t h = record { to = r; target = a; region_there = refl; area_there = refl; is = sym (some_same h) }
ref_parts constant (Some r) None t h = let no : ⊥ = cc in absurd no
ref_parts constant None area t h = let no : ⊥ = cc in absurd no

-- ---- sizes

times_more : (n s : ℕ) → 1 ≤ n → s ≤ n * s
times_more zero s h = let no : ⊥ = omega arith in absurd no
times_more (suc n) s h = omega (arith, suc-mul n s)

small_element : (kinds : List IntKind) (n : ℕ) (a : Written) → is_length n ≡ true → IsTrue (is_small kinds (trees.Many n a)) → IsTrue (is_small kinds a)
small_element kinds n a l h =
    let m = metric kinds in
    let parts = both (nat_le (n * size m a) 65_535) (nat_le (1 + levels a) 32) h in
    let at_least = is_at_most 1 n (both (nat_le 1 n) (nat_le n 65_535) l).0 in
    also (nat_le (size m a) 65_535) (nat_le (levels a) 32)
    (le-leb (size m a) 65_535 (omega (arith, times_more n (size m a) at_least, is_at_most (n * size m a) 65_535 parts.0)))
    (le-leb (levels a) 32 (omega (arith, is_at_most (1 + levels a) 32 parts.1)))

-- ---- types of values, which are not references

pub value_clean : (earlier : Earlier) (regions : List Word) (place : Use) (ty : TypeSyntax) (t : ValueType) → NoReference ty → type_in earlier regions ty ≡ Some t
    → rule_12 (AType earlier regions place ty) ≡ false → rule_13 (AType earlier regions place ty) ≡ false → rule_14 (AType earlier regions place ty) ≡ false → first_of (type_row earlier regions place ty) ≡ None
value_clean earlier regions place (TruthType s) t f h r12 r13 r14 = quiet_cons (AType earlier regions place (TruthType s)) [] (quiet_type earlier regions place (TruthType s) (refl, refl, r12, r13, r14)) refl
value_clean earlier regions place (IntType s k) t f h r12 r13 r14 = quiet_cons (AType earlier regions place (IntType s k)) [] (quiet_type earlier regions place (IntType s k) (refl, refl, r12, r13, r14)) refl
value_clean earlier regions place (IndexType s n) t f h r12 r13 r14 =
    quiet_cons (AType earlier regions place (IndexType s n)) [] (quiet_type earlier regions place (IndexType s n) (refl, ap not (index_length n t h), r12, r13, r14)) refl
value_clean earlier regions place (BitsType s name) t f h r12 r13 r14 =
    let p = mapped types.Bits (number_of_bits earlier name) t h in
    quiet_cons (AType earlier regions place (BitsType s name)) []
    (quiet_type earlier regions place (BitsType s name) (ap not (placed_any (λ (i : BitsItem). same_word i.name.text name) 0 earlier.bits p.value p.there), refl, r12, r13, r14)) refl
value_clean earlier regions place (RefType s c region area) t f h r12 r13 r14 = absurd f

-- ---- areas

pub small_quiet : (earlier : Earlier) (text : AreaSyntax) (area : Area) → area_in earlier text ≡ Some area → IsTrue (is_small_area earlier area) → rule_9 (AnArea earlier text) ≡ false
small_quiet earlier text area h k = ap (λ o. where_there o (λ a. not (is_small (words earlier) (written earlier a)))) h ∙ ap not k

pub area_clean : (earlier : Earlier) (text : AreaSyntax) (area : Area) → FormedArea text → area_in earlier text ≡ Some area → IsTrue (is_small_area earlier area) → first_of (area_row earlier text) ≡ None
area_clean earlier (StoredArea s ty) area f h k =
    let p = mapped types.Stored (type_in earlier [] ty) area h in
    quiet_cons (AnArea earlier (StoredArea s ty)) (type_row earlier [] Within ty) (quiet_area earlier (StoredArea s ty) (refl, refl, small_quiet earlier (StoredArea s ty) area h k))
    (value_clean earlier [] Within ty p.value f.0 p.there refl refl refl)
area_clean earlier (ArrayArea s n element) area f h k =
    let p = array_parts n (area_in earlier element) area h in
    quiet_cons (AnArea earlier (ArrayArea s n element)) (area_row earlier element) (quiet_area earlier (ArrayArea s n element) (refl, ap not p.within, small_quiet earlier (ArrayArea s n element) area h k))
    (area_clean earlier element p.element f p.there (small_element (words earlier) n (written earlier p.element) p.within (subst (λ a. IsTrue (is_small_area earlier a)) p.is k)))
area_clean earlier (StructArea s name) area f h k =
    let p = mapped types.Struct (number_of_struct earlier name) area h in
    quiet_cons (AnArea earlier (StructArea s name)) []
    (quiet_area earlier (StructArea s name) (ap not (placed_any (λ (x : StructType). same_word x.name name) 0 earlier.structs p.value p.there), refl, small_quiet earlier (StructArea s name) area h k)) refl

pub named_area_clean : (earlier : Earlier) (text : AreaSyntax) (area : Area) → FormedArea text → NamesArea earlier text area → first_of (area_row earlier text) ≡ None
named_area_clean earlier text area f names = area_clean earlier text area f names.exists names.small

-- ---- types

pub type_clean : (earlier : Earlier) (regions : List Word) (place : Use) (ty : TypeSyntax) (t : ValueType) → FormedType ty → NamesType earlier regions ty t
    → rule_12 (AType earlier regions place ty) ≡ false → rule_13 (AType earlier regions place ty) ≡ false → rule_14 (AType earlier regions place ty) ≡ false → first_of (type_row earlier regions place ty) ≡ None
type_clean earlier regions place (TruthType s) t f names r12 r13 r14 = value_clean earlier regions place (TruthType s) t tt names.exists r12 r13 r14
type_clean earlier regions place (IntType s k) t f names r12 r13 r14 = value_clean earlier regions place (IntType s k) t tt names.exists r12 r13 r14
type_clean earlier regions place (IndexType s n) t f names r12 r13 r14 = value_clean earlier regions place (IndexType s n) t tt names.exists r12 r13 r14
type_clean earlier regions place (BitsType s name) t f names r12 r13 r14 = value_clean earlier regions place (BitsType s name) t tt names.exists r12 r13 r14
type_clean earlier regions place (RefType s c region area) t f names r12 r13 r14 =
    let p = ref_parts c (region_in regions region) (area_in earlier area) t names.exists in
    quiet_cons (AType earlier regions place (RefType s c region area)) (area_row earlier area) (quiet_type earlier regions place (RefType s c region area) (refl, refl, r12, r13, r14))
    (area_clean earlier area p.target f p.area_there (subst (λ u. IsTrue (has_small_area earlier u)) p.is names.small))
