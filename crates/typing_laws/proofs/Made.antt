-- Types that are made of what is declared: each bit data and each struct in them has a number that is given. So are the types of all that is
-- in scope, and then the type of each typed expression is.
use Rattle.std.proofs.Common.{◌≡◌, ℕ, zero, suc, ◌+◌, ◌<◌, ◌≤◌, List, [], ◌∷◌, length, Option, Some, None, Bool, true, false, cond, refl, sym, ◌∙◌, ap, subst, arith, slice_get}
use Rattle.std.specs.List.{find, position_from}
use Rattle.iv_words.specs.Words.{same_word}
use Rattle.iv_words.specs.declared.IntKind.{IntKind}
use Rattle.ivory_tree.specs.Syntax.{Word, ExprSyntax}
use Rattle.ivory_tree.specs.declared.items.BitField.{BitField}
use Rattle.ivory_tree.specs.declared.items.BitsItem.{BitsItem}
use Rattle.ivory_tree.specs.declared.expr.BinOp.{BinOp}
use Rattle.area_types.specs.Syntax as types
use Rattle.area_types.specs.Syntax.{ValueType, Area, StructType}
use Rattle.area_types.specs.declared.region.Region.{Region}
use Rattle.core_tree.specs.Syntax.{ExprCore, type_of}
use Rattle.source_types.specs.Operators.{is_comparison}
use Rattle.source_types.specs.Values.{least_unsigned, is_reference}
use Rattle.source_types.specs.Environments.{Earlier, AreaDeclared, Callee}
use Rattle.source_types.specs.Parts.{stored_type, field_type, field_named, word_type, bit_field_type, bit_field_named}
use Rattle.core_tree.specs.Operators.{result_type}
use Rattle.typing_rules.specs.Environments.{Env, Local}
use Rattle.typing_rules.specs.Expressions as rule
use Rattle.typing_rules.specs.Expressions.{Has, Under}
use Rattle.typing_laws.proofs.Lookups.{some_same, mapped, bound}

-- ---- what is made

abbrev mutual
  pub MadeType : (bits structs : ℕ) → ValueType → Type 0
  MadeType b s types.Truth = Unit {0}
  MadeType b s (types.Int k) = Unit {0}
  MadeType b s (types.Ix n) = Unit {0}
  MadeType b s (types.Bits k) = k < b
  MadeType b s (types.Ref c r a) = MadeArea b s a

  pub MadeArea : (bits structs : ℕ) → Area → Type 0
  -- what is stored is no reference
  MadeArea b s (types.Stored t) = (is_reference t ≡ false) × MadeType b s t
  MadeArea b s (types.Array n a) = MadeArea b s a
  MadeArea b s (types.Struct k) = k < s

mutual
  pub more_type : (b s c d : ℕ) → b ≤ c → s ≤ d → (t : ValueType) → MadeType b s t → MadeType c d t
  more_type b s c d h k types.Truth m = tt
  more_type b s c d h k (types.Int j) m = tt
  more_type b s c d h k (types.Ix n) m = tt
  more_type b s c d h k (types.Bits j) m = omega arith
  more_type b s c d h k (types.Ref x r a) m = more_area b s c d h k a m

  pub more_area : (b s c d : ℕ) → b ≤ c → s ≤ d → (a : Area) → MadeArea b s a → MadeArea c d a
  more_area b s c d h k (types.Stored t) m = (m.0, more_type b s c d h k t m.1)
  more_area b s c d h k (types.Array n a) m = more_area b s c d h k a m
  more_area b s c d h k (types.Struct j) m = omega arith

abbrev pub EachField : (types.Field → Type 0) → List types.Field → Type 0
EachField P [] = Unit {0}
EachField P (f ∷ fs) = P f × EachField P fs

abbrev pub EachStruct : (types.Field → Type 0) → List StructType → Type 0
EachStruct P [] = Unit {0}
EachStruct P (s ∷ ss) = EachField P s.fields × EachStruct P ss

-- an area is there, and is made
pub record AreaThere (b s : ℕ) (a : AreaDeclared) : Type 0 where
  pub area : Area
  pub there : a.area ≡ Some area
  pub is_made : MadeArea b s area

abbrev pub EachArea : (b s : ℕ) → List AreaDeclared → Type 0
EachArea b s [] = Unit {0}
EachArea b s (a ∷ as') = AreaThere b s a × EachArea b s as'

abbrev pub MadeMaybe : (b s : ℕ) → Option ValueType → Type 0
MadeMaybe b s None = Unit {0}
MadeMaybe b s (Some t) = MadeType b s t

-- each parameter has a type
abbrev pub EachParam : (b s : ℕ) → List (Option ValueType) → Type 0
EachParam b s [] = Unit {0}
EachParam b s (None ∷ ps) = ⊥
EachParam b s (Some t ∷ ps) = MadeType b s t × EachParam b s ps

pub record CalleeThere (b s : ℕ) (c : Callee) : Type 0 where
  pub params : EachParam b s c.params
  pub result : MadeMaybe b s c.result
  pub gives : c.gives ≡ true → c.result ≡ None → ⊥

abbrev pub EachCallee : (b s : ℕ) → List Callee → Type 0
EachCallee b s [] = Unit {0}
EachCallee b s (c ∷ cs) = CalleeThere b s c × EachCallee b s cs

pub record Given (earlier : Earlier) : Type 0 where
  pub structs : EachStruct (λ (f : types.Field). MadeArea (length earlier.bits) (length earlier.structs) f.area) earlier.structs
  pub areas : EachArea (length earlier.bits) (length earlier.structs) earlier.areas
  pub callees : EachCallee (length earlier.bits) (length earlier.structs) earlier.callees

abbrev pub EachLocal : (b s : ℕ) → List Local → Type 0
EachLocal b s [] = Unit {0}
EachLocal b s (l ∷ ls) = MadeType b s l.ty × EachLocal b s ls

abbrev pub Ready : Env → Type 0
Ready env = Given env.earlier × EachLocal (length env.earlier.bits) (length env.earlier.structs) env.scope × MadeMaybe (length env.earlier.bits) (length env.earlier.structs) env.result

-- ---- what is found is made

pub local_made : (b s : ℕ) (f : Local → Bool) (ls : List Local) (l : Local) → EachLocal b s ls → find f ls ≡ Some l → MadeType b s l.ty
local_made b s f [] l h e = let no : ⊥ = cc in absurd no
local_made b s f (x ∷ ls) l h e = go (local_made b s f ls l h.1) (f x) e
  where
    go : (find f ls ≡ Some l → MadeType b s l.ty) → (c : Bool) → cond c (Some x) (find f ls) ≡ Some l → MadeType b s l.ty
    go ih true g = subst (λ (y : Local). MadeType b s y.ty) (some_same g) h.0
    go ih false g = ih g

pub area_there : (b s : ℕ) (f : AreaDeclared → Bool) (xs : List AreaDeclared) (a : AreaDeclared) → EachArea b s xs → find f xs ≡ Some a → AreaThere b s a
area_there b s f [] a h e = let no : ⊥ = cc in absurd no
area_there b s f (x ∷ xs) a h e = go (area_there b s f xs a h.1) (f x) e
  where
    go : (find f xs ≡ Some a → AreaThere b s a) → (c : Bool) → cond c (Some x) (find f xs) ≡ Some a → AreaThere b s a
    go ih true g = subst (AreaThere b s) (some_same g) h.0
    go ih false g = ih g

pub callee_there : (b s : ℕ) (f : Callee → Bool) (xs : List Callee) (a : Callee) → EachCallee b s xs → find f xs ≡ Some a → CalleeThere b s a
callee_there b s f [] a h e = let no : ⊥ = cc in absurd no
callee_there b s f (x ∷ xs) a h e = go (callee_there b s f xs a h.1) (f x) e
  where
    go : (find f xs ≡ Some a → CalleeThere b s a) → (c : Bool) → cond c (Some x) (find f xs) ≡ Some a → CalleeThere b s a
    go ih true g = subst (CalleeThere b s) (some_same g) h.0
    go ih false g = ih g

pub struct_there : (P : types.Field → Type 0) (xs : List StructType) (k : ℕ) (st : StructType) → EachStruct P xs → slice_get xs k ≡ Some st → EachField P st.fields
struct_there P [] k st h e = let no : ⊥ = cc in absurd no
struct_there P (x ∷ xs) zero st h e = subst (λ (y : StructType). EachField P y.fields) (some_same e) h.0
struct_there P (x ∷ xs) (suc k) st h e = struct_there P xs k st h.1 e

pub field_there : (P : types.Field → Type 0) (f : types.Field → Bool) (fs : List types.Field) (x : types.Field) → EachField P fs → find f fs ≡ Some x → P x
field_there P f [] x h e = let no : ⊥ = cc in absurd no
field_there P f (y ∷ fs) x h e = go (field_there P f fs x h.1) (f y) e
  where
    go : (find f fs ≡ Some x → P x) → (c : Bool) → cond c (Some y) (find f fs) ≡ Some x → P x
    go ih true g = subst P (some_same g) h.0
    go ih false g = ih g

-- a place in a list is below its length
pub position_below : {A : Type 0} (f : A → Bool) (i : ℕ) (xs : List A) (k : ℕ) → position_from f i xs ≡ Some k → k < i + length xs
position_below f i [] k h = let no : ⊥ = cc in absurd no
position_below f i (x ∷ xs) k h = go (position_below f (i + 1) xs k) (f x) h
  where
    go : (position_from f (i + 1) xs ≡ Some k → k < (i + 1) + length xs) → (c : Bool) → cond c (Some i) (position_from f (i + 1) xs) ≡ Some k → k < i + length (x ∷ xs)
    go ih true g = let e : i ≡ k = some_same g in omega arith
    go ih false g = let e = ih g in omega arith

pub below_zero : (k n : ℕ) → k < 0 + n → k < n
below_zero k n h = omega arith

pub record At (A : Type 0) (xs : List A) (k : ℕ) : Type 0 where
  pub value : A
  pub there : slice_get xs k ≡ Some value

pub below_there : {A : Type 0} (xs : List A) (k : ℕ) → k < length xs → At A xs k
below_there [] k h = let no : ⊥ = omega arith in absurd no
below_there (x ∷ xs) zero h = record { value = x; there = refl }
below_there (x ∷ xs) (suc k) h = let p = below_there xs k (omega arith) in record { value = p.value; there = p.there }

-- ---- the types of typed expressions

truth_or_int : (b s : ℕ) (c : Bool) (k : IntKind) → MadeType b s (cond c types.Truth (types.Int k))
truth_or_int b s true k = tt
truth_or_int b s false k = tt

bit_field_made : (b s : ℕ) (f : BitField) → MadeType b s (bit_field_type f)
bit_field_made b s f = truth_or_int b s f.truth (least_unsigned f.width)

stored_made : (b s : ℕ) (t u : ValueType) → MadeType b s t → stored_type t ≡ Some u → MadeType b s u
stored_made b s (types.Ref c r (types.Stored t)) u m e = subst (MadeType b s) (some_same e) m.1
stored_made b s (types.Ref c r (types.Array n a)) u m e = let no : ⊥ = cc in absurd no
stored_made b s (types.Ref c r (types.Struct k)) u m e = let no : ⊥ = cc in absurd no
stored_made b s types.Truth u m e = let no : ⊥ = cc in absurd no
stored_made b s (types.Int k) u m e = let no : ⊥ = cc in absurd no
stored_made b s (types.Ix n) u m e = let no : ⊥ = cc in absurd no
stored_made b s (types.Bits k) u m e = let no : ⊥ = cc in absurd no

truth_or : (b s : ℕ) (c : Bool) (t : ValueType) → MadeType b s t → MadeType b s (cond c types.Truth t)
truth_or b s true t m = tt
truth_or b s false t m = m

result_made : (b s : ℕ) (op : BinOp) (t : ValueType) → MadeType b s t → MadeType b s (result_type op t)
result_made b s op t m = truth_or b s (is_comparison op) t m

word_made : (earlier : Earlier) (b s : ℕ) (t w : ValueType) → word_type earlier t ≡ Some w → MadeType b s w
word_made earlier b s (types.Bits k) w e = let p = mapped (λ (i : BitsItem). types.Int i.word) (slice_get earlier.bits k) w e in subst (MadeType b s) (sym p.is) tt
word_made earlier b s types.Truth w e = let no : ⊥ = cc in absurd no
word_made earlier b s (types.Int k) w e = let no : ⊥ = cc in absurd no
word_made earlier b s (types.Ix n) w e = let no : ⊥ = cc in absurd no
word_made earlier b s (types.Ref c r a) w e = let no : ⊥ = cc in absurd no

bit_type_made : (earlier : Earlier) (b s k : ℕ) (name : Word) (t : ValueType) → field_type earlier (types.Bits k) name ≡ Some t → MadeType b s t
bit_type_made earlier b s k name t e = let p = mapped bit_field_type (bit_field_named earlier k name) t e in subst (MadeType b s) (sym p.is) (bit_field_made b s p.value)

field_made : (earlier : Earlier) (c : Bool) (r : Region) (k : ℕ) (name : Word) (t : ValueType) → Given earlier → field_type earlier (types.Ref c r (types.Struct k)) name ≡ Some t
    → MadeType (length earlier.bits) (length earlier.structs) t
field_made earlier c r k name t g e =
    let P : types.Field → Type 0 = λ f. MadeArea (length earlier.bits) (length earlier.structs) f.area in
    let p = mapped (λ (f : types.Field). types.Ref c r f.area) (field_named earlier k name) t e in
    let q = bound (λ (s : StructType). find (λ (f : types.Field). same_word f.name name) s.fields) (slice_get earlier.structs k) p.value p.there in
    subst (MadeType (length earlier.bits) (length earlier.structs)) (sym p.is) (field_there P (λ (f : types.Field). same_word f.name name) q.value.fields p.value (struct_there P earlier.structs k q.value g.structs q.there) q.is)

pub has_made : {env : Env} {e : ExprSyntax} {c : ExprCore} → Has env e c → Ready env → MadeType (length env.earlier.bits) (length env.earlier.structs) (type_of c)
has_made rule.truth m = tt
has_made {env = env} (rule.outcome h g) m = subst (MadeMaybe (length env.earlier.bits) (length env.earlier.structs)) g m.2
has_made {env = env} (rule.local {name = name} {l = l} h) m = local_made (length env.earlier.bits) (length env.earlier.structs) (λ (x : Local). same_word x.name name) env.scope l m.1 h
has_made {env = env} (rule.area_name {name = name} {a = a} n h g k) m =
    let p = area_there (length env.earlier.bits) (length env.earlier.structs) (λ (x : AreaDeclared). same_word x.name name) env.earlier.areas a m.0.areas h in
    subst (MadeArea (length env.earlier.bits) (length env.earlier.structs)) (some_same (sym p.there ∙ g)) p.is_made
has_made {env = env} (rule.cast h i l) m = subst (MadeType (length env.earlier.bits) (length env.earlier.structs)) (sym l.ty) tt
has_made (rule.cast_literal n u) m = tt
has_made {env = env} (rule.to_index n h i l) m = subst (MadeType (length env.earlier.bits) (length env.earlier.structs)) (sym l.ty) tt
has_made (rule.wrap_index n h i) m = tt
has_made {env = env} (rule.make_bits {name = name} {k = k} n v u) m = below_zero k (length env.earlier.bits) (position_below (λ (i : BitsItem). same_word i.name.text name) 0 env.earlier.bits k n)
has_made {env = env} (rule.raw {c = c} {word = word} h v) m = word_made env.earlier (length env.earlier.bits) (length env.earlier.structs) (type_of c) word v
has_made {env = env} (rule.set_field h q f n u l) m = subst (MadeType (length env.earlier.bits) (length env.earlier.structs)) (q ∙ sym l.ty) (has_made h m)
has_made (rule.negated u) m = tt
has_made {env = env} (rule.read {c = c} {t = t} h q) m = stored_made (length env.earlier.bits) (length env.earlier.structs) (type_of c) t (has_made h m) q
has_made {env = env} (rule.signed a h p l) m = subst (MadeType (length env.earlier.bits) (length env.earlier.structs)) (sym l.ty) (has_made h m)
has_made (rule.logical l u v) m = tt
has_made {env = env} (rule.by_left {op = op} {c = c} l h u i k) m = subst (MadeType (length env.earlier.bits) (length env.earlier.structs)) (sym k.ty) (result_made (length env.earlier.bits) (length env.earlier.structs) op (type_of c) (has_made h m))
has_made {env = env} (rule.by_right {op = op} {d = d} l n h u i k) m = subst (MadeType (length env.earlier.bits) (length env.earlier.structs)) (sym k.ty) (result_made (length env.earlier.bits) (length env.earlier.structs) op (type_of d) (has_made h m))
has_made {env = env} (rule.bit_field {name = name} {k = k} {t = t} h q f n) m = bit_type_made env.earlier (length env.earlier.bits) (length env.earlier.structs) k name.text t f
has_made {env = env} (rule.field {name = name} {constant = constant} {region = region} {k = k} {t = t} h q f n) m =
    field_made env.earlier constant region k name.text t m.0 (ap (λ u. field_type env.earlier u name.text) (sym q) ∙ f)
has_made {env = env} (rule.element h q u) m = subst (MadeType (length env.earlier.bits) (length env.earlier.structs)) q (has_made h m)
has_made (rule.choice_by_first u h v n) m = has_made h m
has_made (rule.choice_by_second u n h v k) m = has_made h m
