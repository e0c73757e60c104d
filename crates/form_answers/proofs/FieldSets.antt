-- `set(e, f, value)`: the word without the field's bits, with the number in their place.
use Rattle.std.proofs.Common.{◌≡◌, ℕ, ◌+◌, ◌-◌, ◌*◌, ◌^◌, ◌<◌, ◌≤◌, ℤ, pos, negsuc, Bool, true, false, Some, Ok, Err, arith, refl, sym, subst, ap, ◌∙◌}
use Rattle.std.specs.Prelude.{if◌then◌else◌, nat_eq, nat_le, IsSome, bit_and, bit_or}
use Rattle.std.proofs.lemmas.Int.{ints}
use Rattle.std.proofs.lemmas.Nat.{pow_pos, shl_below, or_lt}
use Rattle.iv_words.specs.Kinds.{width, is_signed}
use Rattle.iv_words.specs.declared.IntKind.{IntKind}
use Rattle.iv_words.proofs.Ranges.{powers_grow}
use Rattle.iv_words.proofs.Widths.{width_most, in_range_by_sign, range_of_sign}
use Rattle.bit_data.specs.declared.BitLayout.{BitLayout}
use Rattle.bit_data.specs.declared.FieldBits.{FieldBits}
use Rattle.bit_data.specs.declared.TooWide.{TooWide}
use Rattle.bit_data.specs.Fields.{field_at, changed, with_part}
use Rattle.bit_data.proofs.Parts.{put, with_is}
use Rattle.core_tree.specs.Operators.{field_type}
use Rattle.core_meaning.specs.Answers.{changing}
use Rattle.c_ast.specs.declared.CScalar.{CScalar}
use Rattle.c_ast.specs.declared.CScalar.TheVariants as scalar
use Rattle.c_ast.specs.declared.CBinary.TheVariants.{And, Or, Shl}
use Rattle.c_ast.specs.declared.Suffix.TheVariants.{Plain}
use Rattle.c_ast.specs.Syntax.{Expr, Number, Read, Address, Unary, Binary, Cast, Cond}
use Rattle.c_ast.specs.Targets.{table_of}
use Rattle.c_ast.specs.Conversions.{constant_type}
use Rattle.c_ast.proofs.Conversions.{held_stays}
use Rattle.c_meaning.specs.State.{Program, CState}
use Rattle.lower_types.specs.Types.{scalar_for}
use Rattle.lower_values.specs.Conversions.{mask, unsigned, without, placed, put_in}
use Rattle.overflow_checks.specs.Parts.{operand_of, cast_to}
use Rattle.overflow_checks.proofs.Tables.{CTable, table_of_target}
use Rattle.overflow_checks.proofs.Given.{cast_gives}
use Rattle.overflow_checks.proofs.Numbers.{natural}
use Rattle.form_answers.specs.FormLaws.{Operand, SetsAnswer}
use Rattle.form_answers.specs.Standing.{ExactlyIs, Converts}
use Rattle.form_answers.proofs.OperandValues.{IsHeld}
use Rattle.form_answers.proofs.Naturals.{IsWord, word_held, unsigned_held, given_word, bits_give, left_shift_gives}
use Rattle.form_answers.proofs.FieldMasks.{cleared_is_small, number_is_put}
use Rattle.form_answers.proofs.FieldValues.{IsInWord, field_in_word, word_of}
use Rattle.form_answers.proofs.FieldGuards.{has_room, field_from_zero, value_is, mask_has, set_guards_tell}

-- a number that fits, in the field's place
moved_small : (word low bits m : ℕ) → low + bits ≤ word → m < 2 ^ bits → m * 2 ^ low < 2 ^ word
moved_small word low bits m inside l = let up = shl_below m bits low l in let g = powers_grow (bits + low) word (omega arith) in omega arith

small_where_room : (m bits : ℕ) → has_room (pos m) bits ≡ true → m < 2 ^ bits
small_where_room m bits h = grind (arith, ints)

module _ (p : Program) (u : CState) (table : CTable (table_of p.target)) (word : IntKind) (unsigned_one : is_signed word ≡ false) (b : FieldBits) (inside : b.low + b.width ≤ width word)
    (some : 1 ≤ b.width) (m : ℕ) (l : m < 2 ^ b.width) where
  abbrev w : ℕ
  w = width word

  small : m * 2 ^ b.low < 2 ^ width word
  small = moved_small w b.low b.width m inside l

  constant_by : (fits : Bool) → fits ≡ true → IsHeld p u (unsigned (if fits then m * 2 ^ b.low else 0)) (pos (m * 2 ^ b.low))
  constant_by true is = let k = small in let g = powers_grow w 64 (width_most word) in unsigned_held p u table (m * 2 ^ b.low) (omega arith)
  constant_by false is = cc

  other_by : (e : Expr) → IsHeld p u e (pos m) → (test : Bool) → nat_eq b.low 0 ≡ test → IsHeld p u (if test then e else Binary Shl (cast_to word e) (Number b.low Plain)) (pos (m * 2 ^ b.low))
  other_by e is true none =
      let z : b.low ≡ 0 = grind arith in
      let same : m ≡ m * 2 ^ b.low = sym (ap (λ k. m * 2 ^ k) z ∙ omega arith) in
      subst (λ k. IsHeld p u e (pos k)) same is
  other_by e is false none =
      let k : m < 2 ^ width word = let g = powers_grow b.width w (omega arith) in omega arith in
      let h = in_range_by_sign word false unsigned_one (pos m) (natural w m k) in
      let cast = given_word p u table word (cast_to word e) m unsigned_one k (cast_gives p u word e is.kind (pos m) (pos m) is.gives (held_stays w (is_signed word) (pos m) h)) in
      let most = width_most word in
      word_held p u table w (Binary Shl (cast_to word e) (Number b.low Plain)) (m * 2 ^ b.low) (left_shift_gives p u table w (cast_to word e) m b.low cast (omega arith) (omega arith) small)

  other_gives : (e : Expr) → IsHeld p u e (pos m) → IsHeld p u (if nat_eq b.low 0 then e else Binary Shl (cast_to word e) (Number b.low Plain)) (pos (m * 2 ^ b.low))
  other_gives e is = other_by e is (nat_eq b.low 0) refl

  placed_gives : (k : CScalar) (e : Expr) → ExactlyIs p u k e (pos m) → IsHeld p u e (pos m) → IsHeld p u (placed word b e) (pos (m * 2 ^ b.low))
  placed_gives k (Number v suffix) exact is =
      let both : (pos v ≡ pos m) × IsSome (constant_type p.target suffix v) = exact in
      let same : v ≡ m = cc in
      let fits : nat_le m (mask b.width) ≡ true = mask_has m b.width ∙ grind (arith, ints) in
      subst (λ i. IsHeld p u (unsigned (if nat_le i (mask b.width) then i * 2 ^ b.low else 0)) (pos (m * 2 ^ b.low))) (sym same) (constant_by (nat_le m (mask b.width)) fits)
  placed_gives k (Read place) exact is = other_gives (Read place) is
  placed_gives k (Address place) exact is = other_gives (Address place) is
  placed_gives k (Unary op e) exact is = other_gives (Unary op e) is
  placed_gives k (Binary op e f) exact is = other_gives (Binary op e f) is
  placed_gives k (Cast to e) exact is = other_gives (Cast to e) is
  placed_gives k (Cond test e f) exact is = other_gives (Cond test e f) is

  -- ---- both

  module _ (e : Expr) (n : ℕ) (left : IsWord p u table (width word) e n) where
    cleared_gives : IsWord p u table (width word) (without (width word) b e) (bit_and n (mask (width word) - mask b.width * 2 ^ b.low))
    cleared_gives =
        let ones = mask w - mask b.width * 2 ^ b.low in
        let g = powers_grow w 64 (width_most word) in
        let whole = pow_pos w in
        bits_give p u table And bit_and (λ v z. refl) w e (unsigned ones) n ones left (unsigned_held p u table ones (omega arith)) (cleared_is_small w b.low b.width n inside left.small)

    put_gives : (x : Expr) → IsHeld p u (placed word b x) (pos (m * 2 ^ b.low)) → IsWord p u table (width word) (Binary Or (without (width word) b e) (placed word b x)) (put b.low b.width n m)
    put_gives x right =
        let cleared = bit_and n (mask w - mask b.width * 2 ^ b.low) in
        let cleared_word = cleared_gives in
        let both = or_lt w cleared (m * 2 ^ b.low) cleared_word.small small in
        subst (IsWord p u table w (Binary Or (without w b e) (placed word b x))) (number_is_put w b.low b.width n inside left.small m l)
        (bits_give p u table Or bit_or (λ v z. refl) w (without w b e) (placed word b x) cleared (m * 2 ^ b.low) cleared_word right both)

-- ---- where the change answers a number

record AnswersBy (fits : Bool) (v r : ℤ) : Type 0 where
  pub fitting : fits ≡ true
  pub result : v ≡ r

answered : (fits : Bool) (v r : ℤ) (why : TooWide) → changing (if fits then Ok v else Err why) ≡ Ok r → AnswersBy fits v r
answered true v r why is = record { fitting = refl; result = cc }
answered false v r why is = cc

module _ (p : Program) (u : CState) (layout : BitLayout) (field : ℕ) (bits : FieldBits) (i : IsInWord layout field bits) (e value : Expr) (n m : ℕ) (k : CScalar)
    (operand : Operand p u layout.word e (pos n)) (exact : ExactlyIs p u k value (pos m)) (is : IsHeld p u value (pos m)) where
  abbrev table : CTable (table_of p.target)
  table = table_of_target p.target

  abbrev word : IntKind
  word = layout.word

  fitting_sets : m < 2 ^ bits.width → Converts p u (scalar.Int word) (put_in (Some word) bits e value) (with_part bits.low bits.width (pos n) (pos m))
  fitting_sets l =
      let v = operand_of (width word) (is_signed word) e in
      let left = word_of p u table word e n i.unsigned_one operand in
      let right = placed_gives p u table word i.unsigned_one bits i.inside i.some m l k value exact is in
      let g = put_gives p u table word i.unsigned_one bits i.inside i.some m l v n left value right in
      let r = put bits.low bits.width n m in
      subst (Converts p u (scalar.Int word) (put_in (Some word) bits e value)) (sym (with_is bits.low bits.width n m))
      (record {
        kind = g.kind;
        number = pos r;
        gives = g.gives;
        converted = held_stays (width word) (is_signed word) (pos r) (in_range_by_sign word false i.unsigned_one (pos r) (natural (width word) r g.small));
      })

  set_converts : (r : ℤ) → changing (changed layout field (pos n) (pos m)) ≡ Ok r → Converts p u (scalar.Int word) (put_in (Some word) bits e value) r
  set_converts r h =
      let there = field_at layout field in
      let a = answered (has_room (pos m) there.width) (with_part there.low there.width (pos n) (pos m)) r (record { width = there.width; x = pos m }) h in
      let fits : has_room (pos m) bits.width ≡ true = ap (λ (b : FieldBits). has_room (pos m) b.width) (sym i.is) ∙ a.fitting in
      let result : with_part bits.low bits.width (pos n) (pos m) ≡ r = ap (λ (b : FieldBits). with_part b.low b.width (pos n) (pos m)) (sym i.is) ∙ a.result in
      subst (Converts p u (scalar.Int word) (put_in (Some word) bits e value)) result (fitting_sets (small_where_room m bits.width fits))

pub sets_answer : SetsAnswer
sets_answer f p target u layout field bits e value (pos x) (pos n) cs at operand exact is sites =
    let i = field_in_word layout field bits at in
    let held = value_is p u f.core.structs f.table bits value (pos n) exact is in (
      set_guards_tell p u f.table layout field bits value (pos x) n cs i exact held sites,
      set_converts p u layout field bits i e value x n (scalar_for f.table (field_type bits)) operand exact held,
    )
sets_answer f p target u layout field bits e value x (negsuc n) cs at operand exact is sites = let from = field_from_zero f.core.structs bits (negsuc n) is in let no : ⊥ = cc in absurd no
sets_answer f p target u layout field bits e value (negsuc x) n cs at operand exact is sites =
    let i = field_in_word layout field bits at in
    let h = range_of_sign layout.word false i.unsigned_one (negsuc x) operand.is_in in
    let no : ⊥ = cc in absurd no
