-- Operands in their common type, and the types of what operators give on values.
use Rattle.std.proofs.Common.{◌≡◌, ℕ, ◌-◌, ◌≤◌, ℤ, pos, neg_ℤ, Bool, true, false, not, IsTrue, Option, Some, None, Result, Ok, Err, IfOk, arith, refl, sym, subst, ap, ◌∙◌}
use Rattle.std.specs.Option.{option_and_then}
use Rattle.std.specs.Prelude.{⊤, if◌then◌else◌, int_lt, int_le, ◌||◌, bit_and, bit_or, bit_xor}
use Rattle.std.specs.Ordering.{int_eq}
use Rattle.std.proofs.lemmas.Int.{ints}
use Rattle.std.proofs.lemmas.Nat.{pow_pos}
use Rattle.iv_words.specs.Kinds.{in_range_of}
use Rattle.run_records.specs.declared.Reason.{Reason}
use Rattle.run_records.specs.declared.Reason.TheVariants.{Shift}
use Rattle.c_ast.specs.declared.Arith.{Arith}
use Rattle.c_ast.specs.declared.Arith.TheVariants.{Int, UInt, Long, ULong, LongLong, ULongLong}
use Rattle.c_ast.specs.declared.CKind.{CKind}
use Rattle.c_ast.specs.declared.CKind.TheVariants.{Arith as Computed}
use Rattle.c_ast.specs.declared.CUnary.{CUnary}
use Rattle.c_ast.specs.declared.CUnary.TheVariants.{Neg, Flip, Not}
use Rattle.c_ast.specs.declared.CBinary.{CBinary}
use Rattle.c_ast.specs.declared.CBinary.TheVariants.{Add, Sub, Mul, Div, Rem, And, Or, Xor, Shl, Shr, Eq, Ne, Lt, Le, Gt, Ge, AndAlso, OrElse}
use Rattle.c_ast.specs.Targets.{TargetTable, arith_bits, arith_signed, promoted, common_in, common_type}
use Rattle.iv_words.specs.Bits.{modulo}
use Rattle.c_ast.specs.Conversions.{converted, can_hold}
use Rattle.c_meaning.specs.Values.{Trouble, Undefined, Stuck, Address, CValue, Num, Ptr, held_type, on_ok}
use Rattle.c_meaning.specs.Operators.{Operator, sum, difference, product, quotient, remainder, bitwise, shifted_left, shifted_right, with_number, computed, truth, tested, converted_or, operand, in_common, usual, compared, shifted, unary, binary}
use Rattle.c_ast.specs.declared.CBase.{CBase}
use Rattle.c_ast.specs.StaticTypes.{ValueType, Arithmetic, PointerTo, unary_type, binary_type, of_unary, of_binary, of_both}
use Rattle.c_ast.specs.TargetLaws.{SoundTable}
use Rattle.c_meaning.specs.ExpressionLaws.{IsTyped, HasItsType}
use Rattle.c_ast.proofs.Conversions.{held_stays, converted_held}
use Rattle.iv_words.proofs.Ranges.{powers_grow}
use Rattle.iv_words.proofs.Modular.{modulo_of_held}
use Rattle.c_ast.proofs.Promotions.{promotion_keeps, signed_common_keeps}
use Rattle.c_meaning.proofs.OperatorRanges.{Stays, InRange, sum_stays, difference_stays, product_stays, quotient_stays, remainder_stays, and_stays, or_stays, xor_stays, fitted_in_range, flipped_in_range, shifted_left_in_range, shifted_right_in_range}

-- a value of the type
pub record Is (t : TargetTable) (kind : CKind) (v : CValue) : Type 0 where
  pub typed : IsTyped t v
  pub of_kind : held_type v ≡ Arithmetic kind

-- a value of the type, or a reason, and never stuck
abbrev pub Fine : TargetTable → CKind → Result CValue Trouble → Type 0
Fine t kind (Ok v) = Is t kind v
Fine t kind (Err (Undefined reason)) = ⊤
Fine t kind (Err Stuck) = ⊥

-- A value of what is said, or a reason; stuck only where no type is said, or with an excuse.
abbrev pub Comes : TargetTable → (excuse : Type 0) → Option ValueType → Result CValue Trouble → Type 0
Comes t excuse said (Ok v) = HasItsType t said v
Comes t excuse said (Err (Undefined reason)) = ⊤
Comes t excuse said (Err Stuck) = (type : ValueType) → said ≡ Some type → excuse

-- ---- operands

-- A number in the type in which C computes: itself where that is signed, else modulo 2 ^ bits.
abbrev pub in_type : ℕ → Bool → ℤ → ℤ
in_type bits true v = v
in_type bits false v = modulo bits v

pub in_type_of_held : (bits : ℕ) (signed : Bool) (v : ℤ) → IsTrue (in_range_of bits signed v) → in_type bits signed v ≡ v
in_type_of_held bits true v h = refl
in_type_of_held bits false v h = modulo_of_held bits v h

converted_is : (bits : ℕ) (signed : Bool) (v : ℤ) → (signed ≡ true → IsTrue (in_range_of bits signed v)) → converted_or (converted bits signed v) ≡ Ok (in_type bits signed v)
converted_is bits true v h = ap converted_or (held_stays bits true v (h refl))
converted_is bits false v h = refl

converted_in_range : (bits : ℕ) (signed : Bool) (v : ℤ) (r : Option ℤ) → converted bits signed v ≡ r → InRange bits signed (converted_or r)
converted_in_range bits signed v None e = tt
converted_in_range bits signed v (Some w) e = converted_held bits signed v w e

pub some_is : {A : Type 0} {a b : A} → (let r : Option A = Some a in r) ≡ Some b → a ≡ b
some_is e = cc

-- two operands of one type have that type, once it is promoted
pub common_of_same : (t : TargetTable) (a : Arith) → common_in t a a ≡ a
common_of_same t Int = refl
common_of_same t UInt = refl
common_of_same t Long = refl
common_of_same t ULong = refl
common_of_same t LongLong = refl
common_of_same t ULongLong = refl

pub common_type_of_same : (t : TargetTable) (k : CKind) → common_type t k k ≡ promoted t k
common_type_of_same t k = common_of_same t (promoted t k)

module _ (t : TargetTable) (sound : SoundTable t) where
  abbrev HasType : Arith → ℤ → Type 0
  HasType c v = IsTrue (in_range_of (arith_bits t c) (arith_signed c) v)

  pub bits_least : (c : Arith) → 16 ≤ arith_bits t c
  bits_least Int = sound.int_least
  bits_least UInt = sound.int_least
  bits_least Long = let l = sound.long_least in omega arith
  bits_least ULong = let l = sound.long_least in omega arith
  bits_least LongLong = let l = sound.long_long_least in omega arith
  bits_least ULongLong = let l = sound.long_long_least in omega arith

  bits_some : (c : Arith) → 1 ≤ arith_bits t c
  bits_some c = let l = bits_least c in omega arith

  -- the left and the right operand, converted
  pub left_operand : (k l : CKind) (v : ℤ) → IsTrue (can_hold t k v) → operand t (common_type t k l) v ≡ Ok (in_type (arith_bits t (common_type t k l)) (arith_signed (common_type t k l)) v)
  left_operand k l v h = converted_is _ _ v (λ e. (signed_common_keeps t sound (promoted t k) (promoted t l) v e).0 (promotion_keeps t sound k v h))

  pub right_operand : (k l : CKind) (v : ℤ) → IsTrue (can_hold t l v) → operand t (common_type t k l) v ≡ Ok (in_type (arith_bits t (common_type t k l)) (arith_signed (common_type t k l)) v)
  right_operand k l v h = converted_is _ _ v (λ e. (signed_common_keeps t sound (promoted t k) (promoted t l) v e).1 (promotion_keeps t sound l v h))

  -- on values of their types, both operands are there in the common type
  pub in_common_is : {A : Type 0} (next : Arith → ℤ → ℤ → Result A Trouble) (k l : CKind) (a b : ℤ) → IsTrue (can_hold t k a) → IsTrue (can_hold t l b)
      → in_common t next (Num k a) (Num l b)
      ≡ next (common_type t k l) (in_type (arith_bits t (common_type t k l)) (arith_signed (common_type t k l)) a) (in_type (arith_bits t (common_type t k l)) (arith_signed (common_type t k l)) b)
  in_common_is {A} next k l a b h g =
      let c = common_type t k l in
      let x = in_type (arith_bits t c) (arith_signed c) a in
      ap (λ r. let q : Result A Trouble = with_number r (λ x. with_number (operand t c b) (λ y. next c x y)) in q) (left_operand k l a h)
      ∙ ap (λ r. let q : Result A Trouble = with_number r (λ y. next c x y) in q) (right_operand k l b g)

  operand_in_range : (c : Arith) (v : ℤ) → InRange (arith_bits t c) (arith_signed c) (operand t c v)
  operand_in_range c v = converted_in_range (arith_bits t c) (arith_signed c) v (converted (arith_bits t c) (arith_signed c) v) refl

  with_number_fine : (kind : CKind) (P : ℤ → Type 0) (r : Result ℤ Reason) (next : ℤ → Result CValue Trouble) → IfOk r P → ((v : ℤ) → P v → Fine t kind (next v)) → Fine t kind (with_number r next)
  with_number_fine kind P (Ok v) next h f = f v h
  with_number_fine kind P (Err reason) next h f = tt

  in_common_fine : (kind : CKind) (next : Arith → ℤ → ℤ → Result CValue Trouble) (k l : CKind) (a b : ℤ)
      → ((x y : ℤ) → HasType (common_type t k l) x → HasType (common_type t k l) y → Fine t kind (next (common_type t k l) x y)) → Fine t kind (in_common t next (Num k a) (Num l b))
  in_common_fine kind next k l a b h =
      let c = common_type t k l in
      with_number_fine kind (HasType c) (operand t c a) (λ x. with_number (operand t c b) (λ y. next c x y)) (operand_in_range c a)
      (λ x hx. with_number_fine kind (HasType c) (operand t c b) (next c x) (operand_in_range c b) (λ y hy. h x y hx hy))

  -- ---- what operators give on numbers

  computed_is : (c : Arith) (r : Result ℤ Reason) → InRange (arith_bits t c) (arith_signed c) r → Fine t (Computed c) (computed c r)
  computed_is c (Ok v) h = record { typed = h; of_kind = refl }
  computed_is c (Err why) h = tt

  zero_or_one : (holds : Bool) → HasType Int (if holds then pos 1 else pos 0)
  zero_or_one true = let l = sound.int_least in let p = powers_grow 1 (t.int_bits - 1) (omega arith) in grind (arith, ints)
  zero_or_one false = let p = pow_pos (t.int_bits - 1) in grind (arith, ints)

  pub truth_is : (holds : Bool) → Is t (Computed Int) (truth holds)
  truth_is holds = record { typed = zero_or_one holds; of_kind = refl }

  -- on the values of two operands: fine on numbers, and stuck where one is a pointer
  pub record Strict (op : CBinary) (next : CValue → CValue → Result CValue Trouble) : Type 0 where
    pub numbers : (k l : CKind) (a b : ℤ) → IsTrue (can_hold t k a) → Fine t (binary_type t op k l) (next (Num k a) (Num l b))
    pub right : (k : CKind) (a : ℤ) (constant : Bool) (base : CBase) (to : Address) → next (Num k a) (Ptr constant base to) ≡ Err Stuck
    pub left : (constant : Bool) (base : CBase) (to : Address) (b : CValue) → next (Ptr constant base to) b ≡ Err Stuck

  usual_strict : (op : CBinary) (f : Operator) → Stays f → ((k l : CKind) → Computed (common_type t k l) ≡ binary_type t op k l) → Strict op (usual t f)
  usual_strict op f stays is = record {
    numbers = λ k l a b h.
        subst (λ kind. Fine t kind (usual t f (Num k a) (Num l b))) (is k l)
        (in_common_fine (Computed (common_type t k l)) (λ c x y. computed c (f (arith_bits t c) (arith_signed c) x y)) k l a b
        (λ x y hx hy. computed_is (common_type t k l) _ (stays _ _ x y (bits_some (common_type t k l)) hx hy)));
    right = λ k a constant base to. refl;
    left = λ constant base to b. refl;
  }

  compared_strict : (op : CBinary) (holds : ℤ → ℤ → Bool) → ((k l : CKind) → Computed Int ≡ binary_type t op k l) → Strict op (compared t holds)
  compared_strict op holds is = record {
    numbers = λ k l a b h.
        subst (λ kind. Fine t kind (compared t holds (Num k a) (Num l b))) (is k l)
        (in_common_fine (Computed Int) (λ c x y. Ok (truth (holds x y))) k l a b (λ x y hx hy. truth_is (holds x y)));
    right = λ k a constant base to. refl;
    left = λ constant base to b. refl;
  }

  unless_shift : (kind : CKind) (r : Result CValue Trouble) (test : Bool) → Fine t kind r → Fine t kind (if test then Err (Undefined Shift) else r)
  unless_shift kind r true h = tt
  unless_shift kind r false h = h

  shifted_strict : (op : CBinary) (f : Operator) → ((c : Arith) (a b : ℤ) → HasType c a → InRange (arith_bits t c) (arith_signed c) (f (arith_bits t c) (arith_signed c) a b))
      → ((k l : CKind) → Computed (promoted t k) ≡ binary_type t op k l) → Strict op (shifted t f)
  shifted_strict op f stays is = record {
    numbers = λ k l a b h.
        subst (λ kind. Fine t kind (shifted t f (Num k a) (Num l b))) (is k l)
        (unless_shift (Computed (promoted t k)) _ (int_lt b (pos 0) || int_le (pos (arith_bits t (promoted t k))) b) (computed_is (promoted t k) _ (stays (promoted t k) a b (promotion_keeps t sound k a h))));
    right = λ k a constant base to. refl;
    left = λ constant base to b. refl;
  }

  unary_fine : (op : CUnary) (k : CKind) (v : ℤ) → IsTrue (can_hold t k v) → Fine t (unary_type t op k) (unary t op (Num k v))
  unary_fine Neg k v h = let c = promoted t k in computed_is c _ (fitted_in_range (arith_bits t c) (arith_signed c) (neg_ℤ v))
  unary_fine Flip k v h = let c = promoted t k in record { typed = flipped_in_range (arith_bits t c) (arith_signed c) v (promotion_keeps t sound k v h); of_kind = refl }
  unary_fine Not k v h = truth_is (not (not (int_eq v (pos 0))))

  -- ---- results where the expression is said to have a type, or to have none

  module _ (excuse : Type 0) where
    pub weaker : (said other : Option ValueType) (r : Result CValue Trouble) → ((type : ValueType) → other ≡ Some type → said ≡ Some type) → Comes t excuse said r → Comes t excuse other r
    weaker said other (Ok v) f h = record { typed = h.typed; agrees = λ type is. h.agrees type (f type is) }
    weaker said other (Err (Undefined reason)) f h = tt
    weaker said other (Err Stuck) f h = λ type is. h type (f type is)

    pub fine_comes : (kind : CKind) (said : Option ValueType) (r : Result CValue Trouble) → ((type : ValueType) → said ≡ Some type → Arithmetic kind ≡ type) → Fine t kind r → Comes t excuse said r
    fine_comes kind said (Ok v) f h = record { typed = h.typed; agrees = λ type is. h.of_kind ∙ f type is }
    fine_comes kind said (Err (Undefined reason)) f h = tt
    fine_comes kind said (Err Stuck) f h = absurd h

    none_comes : (said : Option ValueType) (r : Result CValue Trouble) → said ≡ None → r ≡ Err Stuck → Comes t excuse said r
    none_comes said r none is = subst (Comes t excuse said) (sym is) (λ type some. cc)

    -- a value, and then what comes of it; where the whole is said to have a type, so is the part
    pub on_ok_comes : (part said : Option ValueType) (r : Result CValue Trouble) (next : CValue → Result CValue Trouble) → (part ≡ None → said ≡ None) → Comes t excuse part r → ((v : CValue) → HasItsType t part v → Comes t excuse said (next v)) → Comes t excuse said (on_ok r next)
    on_ok_comes part said (Ok v) next f h g = g v h
    on_ok_comes part said (Err (Undefined reason)) next f h g = tt
    on_ok_comes None said (Err Stuck) next f h g = λ type is. let no : ⊥ = (let none : said ≡ None = f refl in cc) in absurd no
    on_ok_comes (Some part) said (Err Stuck) next f h g = λ type is. h part refl

    -- ---- operators on one value

    unary_of : (op : CUnary) (v : CValue) → IsTyped t v → Comes t excuse (of_unary t op (held_type v)) (unary t op v)
    unary_of op (Num k v) h = fine_comes (unary_type t op k) (of_unary t op (Arithmetic k)) (unary t op (Num k v)) (λ type is. some_is is) (unary_fine op k v h)
    unary_of Neg (Ptr constant base to) h = λ type is. cc
    unary_of Flip (Ptr constant base to) h = λ type is. cc
    unary_of Not (Ptr constant base to) h = λ type is. cc

    pub unary_comes : (op : CUnary) (said : Option ValueType) (v : CValue) → HasItsType t said v → Comes t excuse (option_and_then (of_unary t op) said) (unary t op v)
    unary_comes op None v h = weaker (of_unary t op (held_type v)) None (unary t op v) (λ type is. cc) (unary_of op v h.typed)
    unary_comes op (Some u) v h = subst (λ w. Comes t excuse (of_unary t op w) (unary t op v)) (h.agrees u refl) (unary_of op v h.typed)

    -- ---- operators on two values

    abbrev Both : CBinary → CValue → Option ValueType → Option ValueType
    Both op a right = option_and_then (of_binary t op (held_type a)) right

    numbers_said : (op : CBinary) (k l : CKind) (right : Option ValueType) → ((type : ValueType) → right ≡ Some type → Arithmetic l ≡ type) → (type : ValueType) → option_and_then (of_binary t op (Arithmetic k)) right ≡ Some type → Arithmetic (binary_type t op k l) ≡ type
    numbers_said op k l None agrees type is = cc
    numbers_said op k l (Some u) agrees type is = some_is (ap (of_binary t op (Arithmetic k)) (agrees u refl) ∙ is)

    pointer_right : (op : CBinary) (k : CKind) (constant : Bool) (base : CBase) (right : Option ValueType) → ((type : ValueType) → right ≡ Some type → PointerTo constant base ≡ type) → option_and_then (of_binary t op (Arithmetic k)) right ≡ None
    pointer_right op k constant base None agrees = refl
    pointer_right op k constant base (Some u) agrees = ap (of_binary t op (Arithmetic k)) (sym (agrees u refl))

    pointer_left : (op : CBinary) (constant : Bool) (base : CBase) (right : Option ValueType) → option_and_then (of_binary t op (PointerTo constant base)) right ≡ None
    pointer_left op constant base None = refl
    pointer_left op constant base (Some u) = refl

    strict_value : (op : CBinary) (next : CValue → CValue → Result CValue Trouble) → Strict op next → (a b : CValue) (right : Option ValueType) → IsTyped t a → HasItsType t right b → Comes t excuse (Both op a right) (next a b)
    strict_value op next strict (Num k a) (Num l b) right h g =
        fine_comes (binary_type t op k l) (Both op (Num k a) right) (next (Num k a) (Num l b)) (numbers_said op k l right g.agrees) (strict.numbers k l a b h)
    strict_value op next strict (Num k a) (Ptr constant base to) right h g =
        none_comes (Both op (Num k a) right) (next (Num k a) (Ptr constant base to)) (pointer_right op k constant base right g.agrees) (strict.right k a constant base to)
    strict_value op next strict (Ptr constant base to) b right h g =
        none_comes (Both op (Ptr constant base to) right) (next (Ptr constant base to) b) (pointer_left op constant base right) (strict.left constant base to b)

    without_right : (op : CBinary) (a : CValue) (right : Option ValueType) → right ≡ None → Both op a right ≡ None
    without_right op a right none = ap (option_and_then (of_binary t op (held_type a))) none

    -- an operator whose type is int
    abbrev GivesInt : CBinary → Type 0
    GivesInt op = (u v type : ValueType) → of_binary t op u v ≡ Some type → Arithmetic (Computed Int) ≡ type

    int_said : (op : CBinary) → ((k l : CKind) → Computed Int ≡ binary_type t op k l) → GivesInt op
    int_said op f (Arithmetic k) (Arithmetic l) type is = ap Arithmetic (f k l) ∙ some_is is
    int_said op f (Arithmetic k) (PointerTo constant base) type is = cc
    int_said op f (PointerTo constant base) v type is = cc

    -- ---- `&&` and `||`: the left operand decides, or the right one is tested

    either : (said : Option ValueType) (test : Bool) (x y : Result CValue Trouble) → Comes t excuse said x → Comes t excuse said y → Comes t excuse said (if test then x else y)
    either said true x y i j = i
    either said false x y i j = j

    truth_said : (op : CBinary) → GivesInt op → (a : CValue) (right : Option ValueType) (type : ValueType) → Both op a right ≡ Some type → Arithmetic (Computed Int) ≡ type
    truth_said op f a None type is = cc
    truth_said op f a (Some v) type is = f (held_type a) v type is

    module _ (right : Option ValueType) (r : Result CValue Trouble) (g : Comes t excuse right r) where
      truth_comes : (op : CBinary) → GivesInt op → (a : CValue) (holds : Bool) → Comes t excuse (Both op a right) (Ok (truth holds))
      truth_comes op f a holds = record { typed = zero_or_one holds; agrees = truth_said op f a right }

      tested_comes : (op : CBinary) → GivesInt op → (k : CKind) (x : ℤ) (b : CValue) → HasItsType t right b → Comes t excuse (Both op (Num k x) right) (tested b)
      tested_comes op f k x (Num l y) has = truth_comes op f (Num k x) (not (int_eq y (pos 0)))
      tested_comes op f k x (Ptr constant base to) has = none_comes (Both op (Num k x) right) (Err Stuck) (pointer_right op k constant base right has.agrees) refl

      right_comes : (op : CBinary) → GivesInt op → (k : CKind) (x : ℤ) → Comes t excuse (Both op (Num k x) right) (on_ok r tested)
      right_comes op f k x = on_ok_comes right (Both op (Num k x) right) r tested (without_right op (Num k x) right) g (tested_comes op f k x)

      and_comes : (a : CValue) → Comes t excuse (Both AndAlso a right) (binary t AndAlso a r)
      and_comes (Num k x) =
          let f = int_said AndAlso (λ k l. refl) in
          either (Both AndAlso (Num k x) right) (not (int_eq x (pos 0))) (on_ok r tested) (Ok (truth false)) (right_comes AndAlso f k x) (truth_comes AndAlso f (Num k x) false)
      and_comes (Ptr constant base to) = none_comes (Both AndAlso (Ptr constant base to) right) (Err Stuck) (pointer_left AndAlso constant base right) refl

      or_comes : (a : CValue) → Comes t excuse (Both OrElse a right) (binary t OrElse a r)
      or_comes (Num k x) =
          let f = int_said OrElse (λ k l. refl) in
          either (Both OrElse (Num k x) right) (not (int_eq x (pos 0))) (Ok (truth true)) (on_ok r tested) (truth_comes OrElse f (Num k x) true) (right_comes OrElse f k x)
      or_comes (Ptr constant base to) = none_comes (Both OrElse (Ptr constant base to) right) (Err Stuck) (pointer_left OrElse constant base right) refl

    -- ---- all operators on two values

    module _ (a : CValue) (right : Option ValueType) (h : IsTyped t a) (r : Result CValue Trouble) (g : Comes t excuse right r) where
      strict_comes : (op : CBinary) (next : CValue → CValue → Result CValue Trouble) → Strict op next → Comes t excuse (Both op a right) (on_ok r (next a))
      strict_comes op next strict = on_ok_comes right (Both op a right) r (next a) (without_right op a right) g (λ b has. strict_value op next strict a b right h has)

      pub binary_of : (op : CBinary) → Comes t excuse (Both op a right) (binary t op a r)
      binary_of Add = strict_comes Add (usual t sum) (usual_strict Add sum sum_stays (λ k l. refl))
      binary_of Sub = strict_comes Sub (usual t difference) (usual_strict Sub difference difference_stays (λ k l. refl))
      binary_of Mul = strict_comes Mul (usual t product) (usual_strict Mul product product_stays (λ k l. refl))
      binary_of Div = strict_comes Div (usual t quotient) (usual_strict Div quotient quotient_stays (λ k l. refl))
      binary_of Rem = strict_comes Rem (usual t remainder) (usual_strict Rem remainder remainder_stays (λ k l. refl))
      binary_of And = strict_comes And (usual t (bitwise bit_and)) (usual_strict And (bitwise bit_and) and_stays (λ k l. refl))
      binary_of Or = strict_comes Or (usual t (bitwise bit_or)) (usual_strict Or (bitwise bit_or) or_stays (λ k l. refl))
      binary_of Xor = strict_comes Xor (usual t (bitwise bit_xor)) (usual_strict Xor (bitwise bit_xor) xor_stays (λ k l. refl))
      binary_of Shl = strict_comes Shl (shifted t shifted_left) (shifted_strict Shl shifted_left (λ c x y hx. shifted_left_in_range (arith_bits t c) (arith_signed c) x y) (λ k l. refl))
      binary_of Shr = strict_comes Shr (shifted t shifted_right) (shifted_strict Shr shifted_right (λ c x y hx. shifted_right_in_range (arith_bits t c) (arith_signed c) x y hx) (λ k l. refl))
      binary_of Eq = strict_comes Eq (compared t int_eq) (compared_strict Eq int_eq (λ k l. refl))
      binary_of Ne = strict_comes Ne (compared t (λ x y. not (int_eq x y))) (compared_strict Ne (λ x y. not (int_eq x y)) (λ k l. refl))
      binary_of Lt = strict_comes Lt (compared t int_lt) (compared_strict Lt int_lt (λ k l. refl))
      binary_of Le = strict_comes Le (compared t int_le) (compared_strict Le int_le (λ k l. refl))
      binary_of Gt = strict_comes Gt (compared t (λ x y. int_lt y x)) (compared_strict Gt (λ x y. int_lt y x) (λ k l. refl))
      binary_of Ge = strict_comes Ge (compared t (λ x y. int_le y x)) (compared_strict Ge (λ x y. int_le y x) (λ k l. refl))
      binary_of AndAlso = and_comes right r g a
      binary_of OrElse = or_comes right r g a

    pub binary_comes : (op : CBinary) (left right : Option ValueType) (a : CValue) → HasItsType t left a → (r : Result CValue Trouble) → Comes t excuse right r → Comes t excuse (of_both (of_binary t op) left right) (binary t op a r)
    binary_comes op None right a h r g = weaker (Both op a right) None (binary t op a r) (λ type is. cc) (binary_of a right h.typed r g op)
    binary_comes op (Some u) right a h r g = subst (λ w. Comes t excuse (option_and_then (of_binary t op w) right) (binary t op a r)) (h.agrees u refl) (binary_of a right h.typed r g op)
