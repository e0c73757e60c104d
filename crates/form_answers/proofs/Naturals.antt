-- Numbers from 0 in C: what constants, tests, operators on bits and shifts give on them.
use Rattle.std.proofs.Common.{◌≡◌, ℕ, ◌-◌, ◌*◌, ◌/◌, ◌^◌, ◌<◌, ◌≤◌, ◌⊎◌, inl, inr, ℤ, pos, ◌-ℤ◌, Bool, true, false, IsTrue, Result, Ok, Err, arith, refl, ap, ◌∙◌}
use Rattle.std.specs.Prelude.{◌||◌, if◌then◌else◌, int_le, int_lt, nat_lt}
use Rattle.std.proofs.lemmas.Int.{ints}
use Rattle.std.proofs.lemmas.Nat.{pow_pos, pow_below}
use Rattle.std.proofs.lemmas.Bool.{cases_lt}
use Rattle.std.proofs.Math.Nat.{div-le_self}
use Rattle.iv_words.specs.Kinds.{in_range_of, width, is_signed}
use Rattle.iv_words.specs.declared.IntKind.{IntKind}
use Rattle.iv_words.proofs.Ranges.{powers_grow}
use Rattle.iv_words.proofs.Widths.{in_range_by_sign}
use Rattle.run_records.specs.declared.Reason.{Reason}
use Rattle.run_records.specs.declared.Reason.TheVariants.{SignedOverflow, Shift, Implementation}
use Rattle.c_ast.specs.declared.Arith.{Arith}
use Rattle.c_ast.specs.declared.CKind.{CKind}
use Rattle.c_ast.specs.declared.CKind.TheVariants.{Arith as Computed}
use Rattle.c_ast.specs.declared.CBinary.{CBinary}
use Rattle.c_ast.specs.declared.CBinary.TheVariants.{Shl, Shr}
use Rattle.c_ast.specs.declared.Suffix.TheVariants.{Plain, U}
use Rattle.c_ast.specs.Syntax.{Expr, Number, Binary}
use Rattle.c_ast.specs.Targets.{TargetTable, table_of, arith_bits, arith_signed, promoted, common_type}
use Rattle.c_ast.specs.Conversions.{can_hold}
use Rattle.c_ast.proofs.Promotions.{promotion_keeps}
use Rattle.c_meaning.specs.Values.{Trouble, Undefined, CValue, Num}
use Rattle.c_meaning.specs.Operators.{Operator, fitted, bits_of, number_of_bits, bitwise, shifted_left, shifted_right, computed, usual, compared, binary}
use Rattle.c_meaning.specs.State.{Program, CState}
use Rattle.c_meaning.proofs.Bits.{bits_of_natural}
use Rattle.overflow_checks.proofs.Tables.{CTable}
use Rattle.overflow_checks.proofs.Given.{Gives, of_kind, binary_gives, constant_gives}
use Rattle.overflow_checks.proofs.Rows.{Tests}
use Rattle.overflow_checks.proofs.Alike.{fitted_held, AreNatural, left_kept, right_kept, usual_natural, compared_natural}
use Rattle.overflow_checks.proofs.Constants.{plain_typed, unsigned_typed}
use Rattle.overflow_checks.proofs.Numbers.{below, natural}
use Rattle.overflow_checks.proofs.SignedNumbers.{from_zero, natural_below}
use Rattle.form_answers.proofs.OperandValues.{IsHeld}

-- ---- numbers

-- a number from 0 of a type of so many bits
below_all : (bits : ℕ) (signed : Bool) (n : ℕ) → IsTrue (in_range_of bits signed (pos n)) → n < 2 ^ bits
below_all bits false n h = below bits n h
below_all bits true n h = let l = natural_below bits n h in let g = powers_grow (bits - 1) bits (omega arith) in omega arith

number_is : (bits : ℕ) (signed : Bool) (n : ℕ) → IsTrue (in_range_of bits signed (pos n)) → number_of_bits bits signed n ≡ pos n
number_is bits false n h = refl
number_is bits true n h =
    let l = natural_below bits n h in
    let e : nat_lt n (2 ^ (bits - 1)) ≡ true = grind arith in
    ap (λ test. let q : ℤ = if test then pos n else pos n -ℤ pos (2 ^ bits) in q) e

-- an operator on the bits of two numbers from 0 works on the numbers
bitwise_held : (f : ℕ → ℕ → ℕ) (bits : ℕ) (signed : Bool) (x y : ℕ) → IsTrue (in_range_of bits signed (pos x)) → IsTrue (in_range_of bits signed (pos y)) → IsTrue (in_range_of bits signed (pos (f x y)))
    → bitwise f bits signed (pos x) (pos y) ≡ Ok (pos (f x y))
bitwise_held f bits signed x y h k l =
    ap (λ i. let q : Result ℤ Reason = Ok (number_of_bits bits signed (f i (bits_of bits (pos y)))) in q) (bits_of_natural bits x (below_all bits signed x h))
    ∙ ap (λ j. let q : Result ℤ Reason = Ok (number_of_bits bits signed (f x j)) in q) (bits_of_natural bits y (below_all bits signed y k))
    ∙ ap (λ v. let q : Result ℤ Reason = Ok v in q) (number_is bits signed (f x y) l)

pub not_negative : (n : ℕ) → int_lt (pos n) (pos 0) ≡ false
not_negative n = grind (arith, ints)

left_is : (bits : ℕ) (signed : Bool) (n low : ℕ) → IsTrue (in_range_of bits signed (pos (n * 2 ^ low))) → shifted_left bits signed (pos n) (pos low) ≡ Ok (pos (n * 2 ^ low))
left_is bits false n low h = fitted_held bits false (pos (n * 2 ^ low)) h
left_is bits true n low h =
    ap (λ test. let q : Result ℤ Reason = if test then Err SignedOverflow else fitted bits true (pos (n * 2 ^ low)) in q) (not_negative n) ∙ fitted_held bits true (pos (n * 2 ^ low)) h

right_is : (bits : ℕ) (signed : Bool) (n low : ℕ) → shifted_right bits signed (pos n) (pos low) ≡ Ok (pos (n / 2 ^ low))
right_is bits signed n low = ap (λ test. let q : Result ℤ Reason = if test then Err Implementation else Ok (pos (n / 2 ^ low)) in q) (not_negative n)

not_too_far : (bits low : ℕ) → low < bits → (int_lt (pos low) (pos 0) || int_le (pos bits) (pos low)) ≡ false
not_too_far bits low l = grind (arith, ints)

-- a type that has all numbers of so many bits has so many bits
bits_within : (bits more : ℕ) (signed : Bool) → IsTrue (in_range_of more signed (pos (2 ^ bits - 1))) → bits ≤ more
bits_within bits more signed h = go (cases_lt more bits)
  where
    go : (more < bits) ⊎ (bits ≤ more) → bits ≤ more
    go (inl l) = let a = below_all more signed (2 ^ bits - 1) h in let b = pow_below more bits l in absurd (omega arith)
    go (inr le) = le

-- ---- values

module _ (p : Program) (u : CState) (table : CTable (table_of p.target)) where
  abbrev t : TargetTable
  t = table_of p.target

  pub unsigned_held : (n : ℕ) → n < 2 ^ 64 → IsHeld p u (Number n U) (pos n)
  unsigned_held n l = let c = unsigned_typed t table n l in record { kind = Computed c.type; gives = constant_gives p u n U c.type c.found_it; has = c.holds }

  pub plain_held : (n : ℕ) → n < 2 ^ 63 → IsHeld p u (Number n Plain) (pos n)
  plain_held n l = let c = plain_typed t table n l in record { kind = Computed c.type; gives = constant_gives p u n Plain c.type c.found_it; has = c.holds }

  -- ---- two numbers from 0

  module _ (a b : Expr) (x y : ℕ) (l : IsHeld p u a (pos x)) (r : IsHeld p u b (pos y)) where
    pub are_natural : AreNatural t table l.kind r.kind (pos x) (pos y)
    are_natural = record { left_from = from_zero x; right_from = from_zero y; left_held = l.has; right_held = r.has }

    pub natural_tests : (op : CBinary) (holds : ℤ → ℤ → Bool) → ((v w : CValue) → binary t op v (Ok w) ≡ compared t holds v w) → Tests p u (Binary op a b) (holds (pos x) (pos y))
    natural_tests op holds is =
        binary_gives p u op a b (Num l.kind (pos x)) (Num r.kind (pos y)) l.gives r.gives ∙ is (Num l.kind (pos x)) (Num r.kind (pos y))
        ∙ compared_natural t table l.kind r.kind (pos x) (pos y) are_natural holds

    pub natural_gives : (op : CBinary) (f : Operator) → ((v w : CValue) → binary t op v (Ok w) ≡ usual t f v w) → (z : ℕ)
        → f (arith_bits t (common_type t l.kind r.kind)) (arith_signed (common_type t l.kind r.kind)) (pos x) (pos y) ≡ Ok (pos z) → Gives p u (Binary op a b) (Num (Computed (common_type t l.kind r.kind)) (pos z))
    natural_gives op f is z e =
        binary_gives p u op a b (Num l.kind (pos x)) (Num r.kind (pos y)) l.gives r.gives ∙ is (Num l.kind (pos x)) (Num r.kind (pos y))
        ∙ usual_natural t table l.kind r.kind (pos x) (pos y) are_natural f ∙ ap (computed (common_type t l.kind r.kind)) e

  -- ---- words

  -- the expression evaluates to a number of so many bits, and its type has all of them
  pub record IsWord (bits : ℕ) (e : Expr) (n : ℕ) : Type 0 where
    pub kind : CKind
    pub gives : Gives p u e (Num kind (pos n))
    pub small : n < 2 ^ bits
    pub has : (m : ℕ) → m < 2 ^ bits → IsTrue (can_hold t kind (pos m))

  abbrev pub word_held : (bits : ℕ) (e : Expr) (n : ℕ) → IsWord bits e n → IsHeld p u e (pos n)
  word_held bits e n w = record { kind = w.kind; gives = w.gives; has = w.has n w.small }

  pub given_word : (kind : IntKind) (e : Expr) (n : ℕ) → is_signed kind ≡ false → n < 2 ^ width kind → Gives p u e (Num (of_kind kind) (pos n)) → IsWord (width kind) e n
  given_word kind e n unsigned_one l gives = record { kind = of_kind kind; gives = gives; small = l; has = λ m k. in_range_by_sign kind false unsigned_one (pos m) (natural (width kind) m k) }

  -- an operator on the bits of a word and of another number
  pub bits_give : (op : CBinary) (f : ℕ → ℕ → ℕ) → ((v w : CValue) → binary t op v (Ok w) ≡ usual t (bitwise f) v w) → (bits : ℕ) (a b : Expr) (x y : ℕ) → IsWord bits a x → IsHeld p u b (pos y)
      → f x y < 2 ^ bits → IsWord bits (Binary op a b) (f x y)
  bits_give op f is bits a b x y l r small =
      let c = common_type t l.kind r.kind in
      let left = word_held bits a x l in
      let both = are_natural a b x y left r in
      let kept : (m : ℕ) → m < 2 ^ bits → IsTrue (can_hold t (Computed c) (pos m)) =
      λ m k. left_kept t table l.kind r.kind (pos m) (pos y) (record { left_from = from_zero m; right_from = from_zero y; left_held = l.has m k; right_held = r.has }) in
      record {
        kind = Computed c;
        gives = natural_gives a b x y left r op (bitwise f) is (f x y)
            (bitwise_held f (arith_bits t c) (arith_signed c) x y (left_kept t table l.kind r.kind (pos x) (pos y) both) (right_kept t table l.kind r.kind (pos x) (pos y) both) (kept (f x y) small));
        small = small;
        has = kept;
      }

  -- ---- shifts of a word, by less than its width

  module _ (bits : ℕ) (e : Expr) (n low : ℕ) (w : IsWord bits e n) (l : low < bits) (few : low < 64) where
    abbrev c : Arith
    c = promoted t w.kind

    kept : (m : ℕ) → m < 2 ^ bits → IsTrue (can_hold t (Computed (promoted t w.kind)) (pos m))
    kept m k = promotion_keeps t table.sound w.kind (pos m) (w.has m k)

    within : bits ≤ arith_bits t (promoted t w.kind)
    within = let q = pow_pos bits in bits_within bits (arith_bits t c) (arith_signed c) (kept (2 ^ bits - 1) (omega arith))

    shift_gives : (op : CBinary) (f : Operator) (z : ℕ)
        → ((k : CKind) → binary t op (Num w.kind (pos n)) (Ok (Num k (pos low)))
        ≡ (if int_lt (pos low) (pos 0) || int_le (pos (arith_bits t c)) (pos low) then Err (Undefined Shift) else computed c (f (arith_bits t c) (arith_signed c) (pos n) (pos low))))
        → f (arith_bits t c) (arith_signed c) (pos n) (pos low) ≡ Ok (pos z) → z < 2 ^ bits → IsWord bits (Binary op e (Number low Plain)) z
    shift_gives op f z is result small =
        let amount = plain_held low (let g = powers_grow 6 63 (omega arith) in omega arith) in
        let a = within in
        record {
          kind = Computed c;
          gives = binary_gives p u op e (Number low Plain) (Num w.kind (pos n)) (Num amount.kind (pos low)) w.gives amount.gives ∙ is amount.kind
              ∙ ap (λ test. let q : Result CValue Trouble = if test then Err (Undefined Shift) else computed c (f (arith_bits t c) (arith_signed c) (pos n) (pos low)) in q) (not_too_far (arith_bits t c) low (omega arith))
              ∙ ap (computed c) result;
          small = small;
          has = kept;
        }

    pub right_shift_gives : IsWord bits (Binary Shr e (Number low Plain)) (n / 2 ^ low)
    right_shift_gives = let a = div-le_self n (2 ^ low) in let b = w.small in shift_gives Shr shifted_right (n / 2 ^ low) (λ k. refl) (right_is (arith_bits t c) (arith_signed c) n low) (omega arith)

    pub left_shift_gives : n * 2 ^ low < 2 ^ bits → IsWord bits (Binary Shl e (Number low Plain)) (n * 2 ^ low)
    left_shift_gives small = shift_gives Shl shifted_left (n * 2 ^ low) (λ k. refl) (left_is (arith_bits t c) (arith_signed c) n low (kept (n * 2 ^ low) small)) small
