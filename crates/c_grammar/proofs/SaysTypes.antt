-- What the rules of types and names say.
use Rattle.std.proofs.Common.{◌≡◌, ℕ, ◌^◌, ◌<◌, Bool, true, false, not, ◌&&◌, List, [], ◌∷◌, ◌++◌, length, get_or, refl, sym, ap, ◌∙◌, subst, arith, Option, Some, None, codes, decimal, if◌then◌else◌}
use Rattle.std.specs.Prelude.{nat_eq, nat_lt, nat_le, ◌==◌}
use Rattle.std.specs.List.{list_all}
use Rattle.std.proofs.lemmas.Bool.{and_parts, leb-true, ltb-true}
use Rattle.std.proofs.lemmas.Fmt.{decimal-digits_value}
use Rattle.reading.proofs.Rows.{append_nil}
use Rattle.reading.specs.Language.{Language}
use Rattle.c_ast.specs.declared.types.CScalar.{CScalar}
use Rattle.c_ast.specs.declared.types.CScalar.TheVariants.{Truth, Int}
use Rattle.iv_words.specs.declared.kind.IntKind.TheVariants.{U8, U16, U32, U64, I8, I16, I32, I64}
use Rattle.iv_words.specs.Words.{same_word}
use Rattle.c_ast.specs.declared.types.CBase.TheVariants.{Scalar, Struct}
use Rattle.c_ast.specs.declared.expr.Suffix.{Suffix}
use Rattle.c_ast.specs.declared.expr.Suffix.TheVariants.{Plain, U, Ll, Ull}
use Rattle.c_ast.specs.Syntax.{Name}
use Rattle.c_text.specs.Identifiers.{is_digit, is_identifier_byte, begins_as_identifier, is_reserved, IsIdentifier}
use Rattle.c_text.specs.TypeText.{scalar_text, base_text, star_text, type_text}
use Rattle.c_text.specs.ExpressionText.{suffix_text}
use Rattle.c_text.specs.Subset.{BaseInSubset, ValueInSubset}
use Rattle.grammars.specs.Grammar.{token, map, choice, after}
use Rattle.grammars.proofs.Sets.{value_is}
use Rattle.c_grammar.specs.Pieces.{Piece, Word, Blanks, Byte, piece_text}
use Rattle.c_grammar.specs.Kinds.{lexicon, is_name, name_of, word_scalar, scalar_of, digits, behind_digits, value_behind, is_plain, with_suffix, suffix_of, word_number, number_of, as_length, length_of, name_word, number_word, scalar_word}
use Rattle.c_grammar.specs.Symbols.{Symbol, Tree, blank, star, word_const}
use Rattle.c_grammar.specs.TypeRules.{name, scalar, tag, base, scalar_type, struct_pointer, pointer, value_type, not_to_const, to_const, some_pointer, no_pointer, const_name, held_pointer, held, pointer_name, typed_name}
use Rattle.c_grammar.proofs.Words.{numerals}
use Rattle.c_grammar.proofs.Says.{Says, m_token, m_choice, picked_true, s_fixed, s_sequence, s_after, s_map, s_as, s_optional, IfThere, text_if, same_word_is}
use Rattle.c_grammar.proofs.WrittenStatements.{held_text}
use Rattle.c_grammar.proofs.WrittenUnits.{shown}

-- ---- words

name_is : (w : List ℕ) → is_name w ≡ true → IsIdentifier w
name_is w e =
    let a = and_parts (begins_as_identifier w) (list_all is_identifier_byte w && (nat_le (length w) 31 && not (is_reserved w))) e in
    let b = and_parts (list_all is_identifier_byte w) (nat_le (length w) 31 && not (is_reserved w)) a.1 in
    let c = and_parts (nat_le (length w) 31) (not (is_reserved w)) b.1 in
    record { begins = a.0; spelled = b.0; short = leb-true (length w) 31 c.0; free = not_is (is_reserved w) c.1 }
  where
    not_is : (x : Bool) → not x ≡ true → x ≡ false
    not_is true e = cc
    not_is false e = refl

name_says : (p : Piece) (x : Name) → name_of p ≡ Some x → IsIdentifier x × (piece_text p ≡ x)
name_says (Word w) x e = let k = picked_true (is_name w) w x e in (subst IsIdentifier k.1 (name_is w k.0), k.1)
name_says (Blanks n) x e = cc
name_says (Byte b) x e = cc

scalar_at : (b : Bool) (w : List ℕ) (text : List ℕ) (s a : CScalar) (rest : Option CScalar) → same_word w text ≡ b → scalar_text s ≡ text → (rest ≡ Some a → w ≡ scalar_text a) → (if b then Some s else rest) ≡ Some a → w ≡ scalar_text a
scalar_at true w text s a rest same is ih e = let k = picked_true true s a e in same_word_is w text same ∙ sym is ∙ ap scalar_text k.1
scalar_at false w text s a rest same is ih e = ih e

scalar_word_is : (w : List ℕ) (a : CScalar) → word_scalar w ≡ Some a → w ≡ scalar_text a
scalar_word_is w a e =
    scalar_at (same_word w (codes "bool")) w (codes "bool") Truth a _ refl refl
    (λ e. scalar_at (same_word w (codes "uint8_t")) w (codes "uint8_t") (Int U8) a _ refl refl
    (λ e. scalar_at (same_word w (codes "uint16_t")) w (codes "uint16_t") (Int U16) a _ refl refl
    (λ e. scalar_at (same_word w (codes "uint32_t")) w (codes "uint32_t") (Int U32) a _ refl refl
    (λ e. scalar_at (same_word w (codes "uint64_t")) w (codes "uint64_t") (Int U64) a _ refl refl
    (λ e. scalar_at (same_word w (codes "int8_t")) w (codes "int8_t") (Int I8) a _ refl refl
    (λ e. scalar_at (same_word w (codes "int16_t")) w (codes "int16_t") (Int I16) a _ refl refl
    (λ e. scalar_at (same_word w (codes "int32_t")) w (codes "int32_t") (Int I32) a _ refl refl
    (λ e. scalar_at (same_word w (codes "int64_t")) w (codes "int64_t") (Int I64) a None refl refl (λ e. let no : None ≡ Some a = e in cc) e) e) e) e) e) e) e) e) e

scalar_says : (p : Piece) (s : CScalar) → scalar_of p ≡ Some s → piece_text p ≡ scalar_text s
scalar_says (Word w) s e = scalar_word_is w s e
scalar_says (Blanks n) s e = cc
scalar_says (Byte b) s e = cc

-- ---- numbers

suffix_at : (b : Bool) (w text : List ℕ) (s a : Suffix) (rest : Option Suffix) → same_word w text ≡ b → suffix_text s ≡ text → (rest ≡ Some a → w ≡ suffix_text a) → (if b then Some s else rest) ≡ Some a → w ≡ suffix_text a
suffix_at true w text s a rest same is ih e = let k = picked_true true s a e in same_word_is w text same ∙ sym is ∙ ap suffix_text k.1
suffix_at false w text s a rest same is ih e = ih e

suffix_is : (w : List ℕ) (a : Suffix) → suffix_of w ≡ Some a → w ≡ suffix_text a
suffix_is w a e =
    suffix_at (same_word w []) w [] Plain a _ refl refl
    (λ e. suffix_at (same_word w (codes "u")) w (codes "u") U a _ refl refl
    (λ e. suffix_at (same_word w (codes "ll")) w (codes "ll") Ll a _ refl refl
    (λ e. suffix_at (same_word w (codes "ull")) w (codes "ull") Ull a None refl refl (λ e. let no : None ≡ Some a = e in cc) e) e) e) e

digits_parts : (w : List ℕ) → (list_all is_digit (digits w) ≡ true) × (w ≡ digits w ++ behind_digits w)
digits_parts [] = (refl, refl)
digits_parts (b ∷ w) = at (is_digit b) refl (digits_parts w)
  where
    at : (x : Bool) → is_digit b ≡ x → (list_all is_digit (digits w) ≡ true) × (w ≡ digits w ++ behind_digits w) → (list_all is_digit (digits (b ∷ w)) ≡ true) × (b ∷ w ≡ digits (b ∷ w) ++ behind_digits (b ∷ w))
    at true e ih = rw (e, e) (ih.0, ap (λ z. b ∷ z) ih.1)
    at false e ih = rw e (refl, refl)

plain_parts : (ds : List ℕ) → is_plain ds ≡ true → (0 < length ds) × (get_or ds 0 0 ≡ 48 → length ds ≡ 1)
plain_parts [] e = cc
plain_parts (b ∷ []) e = (omega arith, λ z. refl)
plain_parts (b ∷ c ∷ ds) e = (omega arith, λ z. absurd (no_zero b z e))
  where
    no_zero : (b : ℕ) → b ≡ 48 → not (b == 48) ≡ true → ⊥
    no_zero b z e = let bad : not (48 == 48) ≡ true = subst (λ x. not (x == 48) ≡ true) z e in let no : false ≡ true = bad in cc

number_in : ℕ → Option (ℕ × Suffix) → ℕ
number_in n None = n
number_in n (Some x) = x.0

suffix_in : Option (ℕ × Suffix) → Option Suffix
suffix_in None = None
suffix_in (Some x) = Some x.1

with_suffix_is : (n m : ℕ) (o : Option Suffix) (s : Suffix) → with_suffix n o ≡ Some (m, s) → (n ≡ m) × (o ≡ Some s)
unfolding number_in suffix_in
with_suffix_is n m None s e = cc
with_suffix_is n m (Some t) s e = (ap (number_in n) e, ap suffix_in e)

number_word_is : (w : List ℕ) (n : ℕ) (s : Suffix) → word_number w ≡ Some (n, s) → (n < 2 ^ 64) × (w ≡ decimal n ++ suffix_text s)
number_word_is w n s e = at (is_plain (digits w) && nat_lt (value_behind 0 (digits w)) (2 ^ 64)) refl e
  where
    at : (b : Bool) → (is_plain (digits w) && nat_lt (value_behind 0 (digits w)) (2 ^ 64)) ≡ b → (if b then with_suffix (value_behind 0 (digits w)) (suffix_of (behind_digits w)) else None) ≡ Some (n, s) → (n < 2 ^ 64) × (w ≡ decimal n ++ suffix_text s)
    at false is e = cc
    at true is e =
        let both = and_parts (is_plain (digits w)) (nat_lt (value_behind 0 (digits w)) (2 ^ 64)) is in
        let small = ltb-true (value_behind 0 (digits w)) (2 ^ 64) both.1 in
        let k = with_suffix_is (value_behind 0 (digits w)) n (suffix_of (behind_digits w)) s e in
        let parts = digits_parts w in
        let plain = plain_parts (digits w) both.0 in
        let back : decimal (value_behind 0 (digits w)) ≡ digits w = decimal-digits_value numerals (digits w) parts.0 plain.0 plain.1 small in
        (subst (λ m. m < 2 ^ 64) k.0 small, parts.1 ∙ ap (λ z. z ++ behind_digits w) (sym back ∙ ap decimal k.0) ∙ ap (λ z. decimal n ++ z) (suffix_is (behind_digits w) s k.1))

number_says : (p : Piece) (n : ℕ) (s : Suffix) → number_of p ≡ Some (n, s) → (n < 2 ^ 64) × (piece_text p ≡ decimal n ++ suffix_text s)
number_says (Word w) n s e = number_word_is w n s e
number_says (Blanks k) n s e = cc
number_says (Byte b) n s e = cc

length_is : (o : Option (ℕ × Suffix)) (n : ℕ) → as_length o ≡ Some n → (o ≡ Some (n, Plain)) × (n < 2 ^ 32)
length_is None n e = cc
length_is (Some (m, Plain)) n e = let k = picked_true (nat_lt m (2 ^ 32)) m n e in (ap (λ x. Some (x, Plain)) k.1, subst (λ x. x < 2 ^ 32) k.1 (ltb-true m (2 ^ 32) k.0))
length_is (Some (m, U)) n e = cc
length_is (Some (m, Ll)) n e = cc
length_is (Some (m, Ull)) n e = cc

length_says : (p : Piece) (n : ℕ) → length_of p ≡ Some n → (n < 2 ^ 32) × (piece_text p ≡ decimal n)
length_says p n e = let k = length_is (number_of p) n e in (k.1, (number_says p n Plain k.0).1 ∙ append_nil (decimal n))

-- ---- rules

abbrev behind_blank : Bool → List ℕ
behind_blank true = codes "const *"
behind_blank false = codes "*"

-- behind `const `: a pointer to const, or a name alone
abbrev behind_const_text : Option Bool × Name → List ℕ
behind_const_text (None, x) = x
behind_const_text (Some c, x) = codes "*const " ++ x

abbrev ToConst : Option Bool × Name → Type 0
ToConst (None, x) = IsIdentifier x
ToConst (Some true, x) = IsIdentifier x
ToConst (Some false, x) = ⊥

module _ {d : ℕ} {L : (n : Symbol) → Language Piece (Tree n)} where
  pub says_name : Says d L name IsIdentifier (λ x. x)
  says_name = m_token (λ p x e. let k = name_says p x (value_is (nat_eq name_word (lexicon.kind d p)) (name_of p) x e) in record { good = k.0; is = k.1 })

  pub says_scalar : Says d L scalar (λ _. Unit {0}) scalar_text
  says_scalar = m_token (λ p s e. record { good = tt; is = scalar_says p s (value_is (nat_eq scalar_word (lexicon.kind d p)) (scalar_of p) s e) })

  pub says_number : Says d L (token number_word number_of) (λ n. n.0 < 2 ^ 64) (λ n. decimal n.0 ++ suffix_text n.1)
  says_number = m_token (λ p n e. let k = number_says p n.0 n.1 (value_is (nat_eq number_word (lexicon.kind d p)) (number_of p) n e) in record { good = k.0; is = k.1 })

  pub says_length : Says d L (token number_word length_of) (λ n. n < 2 ^ 32) decimal
  says_length = m_token (λ p n e. let k = length_says p n (value_is (nat_eq number_word (lexicon.kind d p)) (length_of p) n e) in record { good = k.0; is = k.1 })

  pub says_tag : Says d L tag IsIdentifier (λ x. codes "struct " ++ x)
  says_tag = s_after s_fixed (s_after s_fixed says_name)

  pub says_base : Says d L base BaseInSubset base_text
  says_base = m_choice (s_map Scalar says_scalar (λ s i. (tt, refl))) (s_map Struct says_tag (λ x i. (i, refl)))

  pub says_pointer : Says d L pointer (λ _. Unit {0}) star_text
  says_pointer =
      let star_first : Says d L (choice (map (λ _. false) star) (map (λ _. true) (after word_const (after blank star)))) (λ _. Unit {0}) behind_blank =
      m_choice (s_map (λ _. false) s_fixed (λ p i. (tt, refl))) (s_map (λ _. true) (s_after s_fixed (s_after s_fixed s_fixed)) (λ p i. (tt, refl))) in
      s_as (s_after s_fixed star_first) pointer_text
    where
      pointer_text : (c : Bool) → Unit {0} → Unit {0} × (codes " " ++ behind_blank c ≡ star_text c)
      pointer_text true i = (tt, refl)
      pointer_text false i = (tt, refl)

  pub says_value_type : Says d L value_type ValueInSubset type_text
  says_value_type = m_choice (s_sequence scalar_type says_scalar (s_optional says_pointer) scalar_or_pointer) (s_sequence struct_pointer says_tag says_pointer (λ x c i j. (i, refl)))
    where
      scalar_or_pointer : (s : CScalar) (p : Option Bool) → Unit {0} → IfThere (λ _. Unit {0}) p → ValueInSubset (scalar_type s p) × (scalar_text s ++ text_if star_text p ≡ type_text (scalar_type s p))
      scalar_or_pointer s None i j = (tt, append_nil (scalar_text s))
      scalar_or_pointer s (Some constant) i j = (tt, refl)

  -- ---- names that hold values

  says_const_name : Says d L const_name IsIdentifier (λ x. codes "const " ++ x)
  says_const_name = s_after s_fixed (s_after s_fixed says_name)

  pub says_held_pointer : Says d L held_pointer (λ h. IsIdentifier h.1) (λ h. held_text (Some h.0) h.1)
  says_held_pointer = m_choice (s_map not_to_const (s_after s_fixed says_const_name) (λ x i. (i, refl))) (s_map to_const (s_after s_fixed (s_after s_fixed (s_after s_fixed says_const_name))) (λ x i. (i, refl)))

  pub says_held : Says d L held (λ h. IsIdentifier h.1) (λ h. held_text h.0 h.1)
  says_held =
      let inner : Says d L (choice (map (λ x. some_pointer (to_const x)) (after star const_name)) (map no_pointer name)) ToConst behind_const_text =
      m_choice (s_map (λ x. some_pointer (to_const x)) (s_after s_fixed says_const_name) (λ x i. (i, refl))) (s_map no_pointer says_name (λ x i. (i, refl))) in
      m_choice (s_map (λ x. some_pointer (not_to_const x)) (s_after s_fixed says_const_name) (λ x i. (i, refl))) (s_as (s_after s_fixed (s_after s_fixed inner)) at)
    where
      at : (h : Option Bool × Name) → ToConst h → IsIdentifier h.1 × (codes "const" ++ (codes " " ++ behind_const_text h) ≡ held_text h.0 h.1)
      at (None, x) i = (i, refl)
      at (Some true, x) i = (i, refl)
      at (Some false, x) i = absurd i

  -- ---- names of functions

  pub says_pointer_name : Says d L pointer_name (λ h. IsIdentifier h.1) (λ h. shown (Some h.0) h.1)
  says_pointer_name = m_choice (s_map not_to_const (s_after s_fixed says_name) (λ x i. (i, refl))) (s_map to_const (s_after s_fixed (s_after s_fixed (s_after s_fixed says_name))) (λ x i. (i, refl)))

  pub says_typed_name : Says d L typed_name (λ h. IsIdentifier h.1) (λ h. shown h.0 h.1)
  says_typed_name = m_choice (s_map some_pointer says_pointer_name (λ h i. (i, refl))) (s_map no_pointer says_name (λ x i. (i, refl)))
