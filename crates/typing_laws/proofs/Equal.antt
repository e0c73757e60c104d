-- Types of which the test says that they are the same are equal.
use Rattle.std.proofs.Common.{◌≡◌, ℕ, Bool, true, false, cond, ◌&&◌, refl, sym, ◌∙◌, ap, ap₂, nat_eq, eqb-true}
use Rattle.iv_words.specs.Kinds.{width, is_signed}
use Rattle.iv_words.specs.declared.IntKind.{IntKind}
use Rattle.iv_words.specs.declared.IntKind.TheVariants.{U8, U16, U32, U64, I8, I16, I32, I64}
use Rattle.area_types.specs.Syntax as types
use Rattle.area_types.specs.Syntax.{ValueType, Area}
use Rattle.area_types.specs.declared.region.Region.{Region}
use Rattle.area_types.specs.declared.region.Region.TheVariants.{Global, Param, Own}
use Rattle.source_types.specs.Values.{same_truth, same_kind, same_region, same_type, same_area}
use Rattle.typing_laws.proofs.Lookups.{and_both}

truth_equal : (a b : Bool) → same_truth a b ≡ true → a ≡ b
truth_equal true true h = refl
truth_equal true false h = let no : ⊥ = cc in absurd no
truth_equal false true h = let no : ⊥ = cc in absurd no
truth_equal false false h = refl

abbrev kind_back : (bits : ℕ) → (signed : Bool) → IntKind
kind_back bits false = cond (nat_eq bits 8) U8 (cond (nat_eq bits 16) U16 (cond (nat_eq bits 32) U32 U64))
kind_back bits true = cond (nat_eq bits 8) I8 (cond (nat_eq bits 16) I16 (cond (nat_eq bits 32) I32 I64))

kind_comes_back : (k : IntKind) → kind_back (width k) (is_signed k) ≡ k
kind_comes_back U8 = refl
kind_comes_back U16 = refl
kind_comes_back U32 = refl
kind_comes_back U64 = refl
kind_comes_back I8 = refl
kind_comes_back I16 = refl
kind_comes_back I32 = refl
kind_comes_back I64 = refl

kind_equal : (j k : IntKind) → same_kind j k ≡ true → j ≡ k
kind_equal j k h =
    let p = and_both (nat_eq (width j) (width k)) (same_truth (is_signed j) (is_signed k)) h in
    sym (kind_comes_back j) ∙ ap₂ kind_back (eqb-true (width j) (width k) p.0) (truth_equal (is_signed j) (is_signed k) p.1) ∙ kind_comes_back k

pub region_equal : (r q : Region) → same_region r q ≡ true → r ≡ q
region_equal Global Global h = refl
region_equal Global (Param j) h = let no : ⊥ = cc in absurd no
region_equal Global Own h = let no : ⊥ = cc in absurd no
region_equal (Param i) Global h = let no : ⊥ = cc in absurd no
region_equal (Param i) (Param j) h = ap Param (eqb-true i j h)
region_equal (Param i) Own h = let no : ⊥ = cc in absurd no
region_equal Own Global h = let no : ⊥ = cc in absurd no
region_equal Own (Param j) h = let no : ⊥ = cc in absurd no
region_equal Own Own h = refl

ref_equal : (c d : Bool) (r q : Region) (a b : Area) → c ≡ d → r ≡ q → a ≡ b → types.Ref c r a ≡ types.Ref d q b
ref_equal c d r q a b h k l = ap₂ (λ x y. types.Ref x y a) h k ∙ ap (types.Ref d q) l

mutual
  pub type_equal : (t u : ValueType) → same_type t u ≡ true → t ≡ u
  type_equal types.Truth types.Truth h = refl
  type_equal types.Truth (types.Int k) h = let no : ⊥ = cc in absurd no
  type_equal types.Truth (types.Ix n) h = let no : ⊥ = cc in absurd no
  type_equal types.Truth (types.Bits k) h = let no : ⊥ = cc in absurd no
  type_equal types.Truth (types.Ref d q b) h = let no : ⊥ = cc in absurd no
  type_equal (types.Int j) types.Truth h = let no : ⊥ = cc in absurd no
  type_equal (types.Int j) (types.Int k) h = ap types.Int (kind_equal j k h)
  type_equal (types.Int j) (types.Ix n) h = let no : ⊥ = cc in absurd no
  type_equal (types.Int j) (types.Bits k) h = let no : ⊥ = cc in absurd no
  type_equal (types.Int j) (types.Ref d q b) h = let no : ⊥ = cc in absurd no
  type_equal (types.Ix m) types.Truth h = let no : ⊥ = cc in absurd no
  type_equal (types.Ix m) (types.Int k) h = let no : ⊥ = cc in absurd no
  type_equal (types.Ix m) (types.Ix n) h = ap types.Ix (eqb-true m n h)
  type_equal (types.Ix m) (types.Bits k) h = let no : ⊥ = cc in absurd no
  type_equal (types.Ix m) (types.Ref d q b) h = let no : ⊥ = cc in absurd no
  type_equal (types.Bits j) types.Truth h = let no : ⊥ = cc in absurd no
  type_equal (types.Bits j) (types.Int k) h = let no : ⊥ = cc in absurd no
  type_equal (types.Bits j) (types.Ix n) h = let no : ⊥ = cc in absurd no
  type_equal (types.Bits j) (types.Bits k) h = ap types.Bits (eqb-true j k h)
  type_equal (types.Bits j) (types.Ref d q b) h = let no : ⊥ = cc in absurd no
  type_equal (types.Ref c r a) types.Truth h = let no : ⊥ = cc in absurd no
  type_equal (types.Ref c r a) (types.Int k) h = let no : ⊥ = cc in absurd no
  type_equal (types.Ref c r a) (types.Ix n) h = let no : ⊥ = cc in absurd no
  type_equal (types.Ref c r a) (types.Bits k) h = let no : ⊥ = cc in absurd no
  type_equal (types.Ref c r a) (types.Ref d q b) h = let p = and_both (same_truth c d && same_region r q) (same_area a b) h in let s = and_both (same_truth c d) (same_region r q) p.0 in ref_equal c d r q a b (truth_equal c d s.0) (region_equal r q s.1) (area_equal a b p.1)

  pub area_equal : (a b : Area) → same_area a b ≡ true → a ≡ b
  area_equal (types.Stored t) (types.Stored u) h = ap types.Stored (type_equal t u h)
  area_equal (types.Stored t) (types.Array n b) h = let no : ⊥ = cc in absurd no
  area_equal (types.Stored t) (types.Struct k) h = let no : ⊥ = cc in absurd no
  area_equal (types.Array m a) (types.Stored u) h = let no : ⊥ = cc in absurd no
  area_equal (types.Array m a) (types.Array n b) h = let p = and_both (nat_eq m n) (same_area a b) h in ap₂ types.Array (eqb-true m n p.0) (area_equal a b p.1)
  area_equal (types.Array m a) (types.Struct k) h = let no : ⊥ = cc in absurd no
  area_equal (types.Struct j) (types.Stored u) h = let no : ⊥ = cc in absurd no
  area_equal (types.Struct j) (types.Array n b) h = let no : ⊥ = cc in absurd no
  area_equal (types.Struct j) (types.Struct k) h = ap types.Struct (eqb-true j k h)
