-- What is read of the next piece, by what it is.
use Rattle.std.proofs.Common.{◌≡◌, ℕ, zero, suc, ◌+◌, ◌^◌, ◌≤◌, ◌<◌, Bool, true, false, cond, not, List, [], ◌∷◌, length, get_or, inl, inr, ◌⊎◌, refl, sym, ap, ◌∙◌, subst, arith, if◌then◌else◌, Option, Some, None}
use Rattle.std.specs.Prelude.{◌==◌, ◌&&◌, ◌||◌, nat_eq, nat_lt, nat_le, codes, is_some}
use Rattle.std.specs.List.{list_all}
use Rattle.std.proofs.lemmas.Bool.{eqb-true, eqb-false, and_parts, eq-eqb, ne_eqb, leb-true, lt-leb, ltb-true}
use Rattle.iv_words.specs.Words.{same_word}
use Rattle.iv_words.specs.declared.kind.IntKind.TheVariants.{U8, U16, U32, U64, I8, I16, I32, I64}
use Rattle.c_ast.specs.declared.types.CScalar.{CScalar}
use Rattle.c_ast.specs.declared.types.CScalar.TheVariants.{Truth, Int}
use Rattle.c_ast.specs.declared.expr.Suffix.{Suffix}
use Rattle.c_ast.specs.declared.expr.Suffix.TheVariants.{Plain, U, Ll, Ull}
use Rattle.c_ast.specs.Syntax.{Name}
use Rattle.c_text.specs.Identifiers.{is_digit, is_letter, is_identifier_byte, begins_as_identifier}
use Rattle.reading.specs.Reader.{Outcome, Done, Unexpected, TooDeep, accept, picked}
use Rattle.grammars.specs.Grammar.{of_kind, token}
use Rattle.grammars.specs.Reader.{next}
use Rattle.c_grammar.specs.Pieces.{Piece, Word, Blanks, Byte, lengthened, widened, pieces}
use Rattle.c_grammar.specs.Kinds.{lexicon, kind, kind_of, is_whole, word_kind, blanks_kind, line_blanks, closing_blanks, is_wordy, is_blanky, is_name, name_of, digits, behind_digits, word_number, number_of, as_length, length_of, is_plain, value_behind, suffix_of, with_suffix, word_scalar, scalar_of, exactly, name_word, number_word, scalar_word, one_blank, indentation, outdentation, other, place_in, keywords_used}
use Rattle.c_grammar.specs.Symbols.{Rule, mark, blank}
use Rattle.c_grammar.specs.TypeRules.{name, scalar}
use Rattle.c_grammar.specs.ExpressionRules as expressions
use Rattle.c_grammar.specs.UnitRules.{length_rule}
use Rattle.c_grammar.proofs.Parted.{wordy, blanky}
use Rattle.c_grammar.proofs.Says.{same_word_is}
use Rattle.c_lexemes.specs.Levels.{reads_at, is_mark}
use Rattle.c_lexemes.specs.Scanned.{WordFirst, no_word, BlanksFirst, no_blanks}
use Rattle.c_lexemes.specs.Words.{fixed_text, fixed_kind}
use Rattle.c_lexemes.specs.declared.words.Fixed.{Fixed}
use Rattle.c_lexemes.specs.declared.words.Fixed.TheVariants as fixed
use Rattle.c_lexemes.proofs.Cuts.{mark_cut, first_byte}

-- ---- kinds

pub whole_word : (w : List ℕ) → list_all is_identifier_byte w ≡ true → (w ≡ [] → ⊥) → is_whole (Word w) ≡ true
whole_word [] e some = absurd (some refl)
whole_word (b ∷ w) e some = e

word_of_kind : (d : ℕ) (bytes w rest : List ℕ) → WordFirst bytes w rest → kind d (Word w) ≡ word_kind w
word_of_kind d bytes w rest f = rw (whole_word w f.spelled f.some) refl

whole_blanks : (n : ℕ) → (n ≡ 0 → ⊥) → is_whole (Blanks n) ≡ true
whole_blanks zero some = absurd (some refl)
whole_blanks (suc n) some = refl

blanks_of_kind : (d : ℕ) (bytes : List ℕ) (n : ℕ) (rest : List ℕ) → BlanksFirst bytes n rest → kind d (Blanks n) ≡ blanks_kind d n
blanks_of_kind d bytes n rest f = rw (whole_blanks n f.some) refl

pub next_word : (d : ℕ) (bytes w rest : List ℕ) → WordFirst bytes w rest → next lexicon d (pieces bytes) ≡ word_kind w
next_word d bytes w rest f = ap (next lexicon d) f.cut ∙ word_of_kind d bytes w rest f

pub next_blanks : (d : ℕ) (bytes : List ℕ) (n : ℕ) (rest : List ℕ) → BlanksFirst bytes n rest → next lexicon d (pieces bytes) ≡ blanks_kind d n
next_blanks d bytes n rest f = ap (next lexicon d) f.cut ∙ blanks_of_kind d bytes n rest f

abbrev cut : ℕ → List Piece → Bool → Bool → List Piece
cut b ps word blank = if word then lengthened b ps else (if blank then widened ps else Byte b ∷ ps)

neither : (b : ℕ) (ps : List Piece) (word blank : Bool) → no_word (cut b ps word blank) ≡ true → no_blanks (cut b ps word blank) ≡ true → (not word && not blank) ≡ true
neither b [] true blank v n = cc
neither b (Word w ∷ ps) true blank v n = cc
neither b (Blanks k ∷ ps) true blank v n = cc
neither b (Byte x ∷ ps) true blank v n = cc
neither b [] false true v n = cc
neither b (Word w ∷ ps) false true v n = cc
neither b (Blanks k ∷ ps) false true v n = cc
neither b (Byte x ∷ ps) false true v n = cc
neither b ps false false v n = refl

next_mark : (d b : ℕ) (bs : List ℕ) → no_word (pieces (b ∷ bs)) ≡ true → no_blanks (pieces (b ∷ bs)) ≡ true → next lexicon d (pieces (b ∷ bs)) ≡ 256 + b
next_mark d b bs v n =
    let is : is_mark b ≡ true = neither b (pieces bs) (is_identifier_byte b) (b == 32) v n in
    ap (next lexicon d) (mark_cut b bs is) ∙ rw is refl

pub next_other : (d : ℕ) (bytes : List ℕ) → 1 ≤ length bytes → no_word (pieces bytes) ≡ true → no_blanks (pieces bytes) ≡ true → next lexicon d (pieces bytes) ≡ 256 + get_or bytes 0 0
next_other d [] some v n = absurd (omega arith)
next_other d (b ∷ bs) some v n = next_mark d b bs v n

-- ---- what is accepted of a word

abbrev none_or : {A : Type 0} → Bool → Option A → Option A
none_or t o = cond t o None

no_value : {A : Type 0} (t : Bool) → none_or {A = A} t None ≡ None
no_value true = refl
no_value false = refl

module _ {A : Type 0} (d k : ℕ) (f : Piece → Option A) where
  accept_word : (bytes w rest : List ℕ) → WordFirst bytes w rest → (a : A) → word_kind w ≡ k → f (Word w) ≡ Some a → accept (of_kind lexicon d k f) (pieces bytes) ≡ Done a (pieces rest)
  accept_word bytes w rest c a is e =
      let same : nat_eq k (kind d (Word w)) ≡ true = eq-eqb k (kind d (Word w)) (sym (word_of_kind d bytes w rest c ∙ is)) in
      ap (accept (of_kind lexicon d k f)) c.cut ∙ ap (λ o. picked o (Word w) (pieces rest)) (ap (λ t. none_or t (f (Word w))) same ∙ e)

  accept_no : (bytes : List ℕ) (p : Piece) (ps : List Piece) → pieces bytes ≡ p ∷ ps → f p ≡ None → accept (of_kind lexicon d k f) (pieces bytes) ≡ Unexpected (pieces bytes)
  accept_no bytes p ps c e =
      ap (accept (of_kind lexicon d k f)) c ∙ ap (λ o. picked o p ps) (ap (none_or (nat_eq k (kind d p))) e ∙ no_value (nat_eq k (kind d p))) ∙ ap Unexpected (sym c)

  accept_no_word : (ps : List Piece) → no_word ps ≡ true → ((n : ℕ) → f (Blanks n) ≡ None) → ((b : ℕ) → f (Byte b) ≡ None) → accept (of_kind lexicon d k f) ps ≡ Unexpected ps
  accept_no_word [] e one two = refl
  accept_no_word (Word w ∷ ps) e one two = cc
  accept_no_word (Blanks n ∷ ps) e one two = ap (λ o. picked o (Blanks n) ps) (ap (none_or (nat_eq k (kind d (Blanks n)))) (one n) ∙ no_value (nat_eq k (kind d (Blanks n))))
  accept_no_word (Byte b ∷ ps) e one two = ap (λ o. picked o (Byte b) ps) (ap (none_or (nat_eq k (kind d (Byte b)))) (two b) ∙ no_value (nat_eq k (kind d (Byte b))))

  accept_no_blanks : (ps : List Piece) → no_blanks ps ≡ true → ((w : List ℕ) → f (Word w) ≡ None) → ((b : ℕ) → f (Byte b) ≡ None) → accept (of_kind lexicon d k f) ps ≡ Unexpected ps
  accept_no_blanks [] e one two = refl
  accept_no_blanks (Word w ∷ ps) e one two = ap (λ o. picked o (Word w) ps) (ap (none_or (nat_eq k (kind d (Word w)))) (one w) ∙ no_value (nat_eq k (kind d (Word w))))
  accept_no_blanks (Blanks n ∷ ps) e one two = cc
  accept_no_blanks (Byte b ∷ ps) e one two = ap (λ o. picked o (Byte b) ps) (ap (none_or (nat_eq k (kind d (Byte b)))) (two b) ∙ no_value (nat_eq k (kind d (Byte b))))

-- ---- names

name_kind : (w : List ℕ) → is_name w ≡ true → word_kind w ≡ name_word
name_kind w e = at (begins_as_identifier w) (is_name w) _ _ (and_parts (begins_as_identifier w) _ e).0 e
  where
    at : (begins named : Bool) (j k : ℕ) → begins ≡ true → named ≡ true → (if begins then (if named then name_word else j) else k) ≡ name_word
    at begins named j k b n = rw (b, n) refl

named : (w : List ℕ) (t : Bool) → is_name w ≡ t → name_of (Word w) ≡ (if t then Some w else None)
named w t e = ap (λ b. if b then Some w else None) e

pub reads_name : (d : ℕ) (bytes w rest : List ℕ) → WordFirst bytes w rest → is_name w ≡ true → reads_at d name (pieces bytes) ≡ Done w (pieces rest)
reads_name d bytes w rest c e = accept_word d name_word name_of bytes w rest c w (name_kind w e) (named w true e)

pub reads_no_name : (d : ℕ) (bytes w rest : List ℕ) → WordFirst bytes w rest → is_name w ≡ false → reads_at d name (pieces bytes) ≡ Unexpected (pieces bytes)
reads_no_name d bytes w rest c e = accept_no d name_word name_of bytes (Word w) (pieces rest) c.cut (named w false e)

pub reads_name_none : (d : ℕ) (bytes : List ℕ) → no_word (pieces bytes) ≡ true → reads_at d name (pieces bytes) ≡ Unexpected (pieces bytes)
reads_name_none d bytes e = accept_no_word d name_word name_of (pieces bytes) e (λ n. refl) (λ b. refl)

-- ---- scalars

by_text : (w text : List ℕ) (a s : CScalar) (more : Option CScalar) (t : Bool) → same_word w text ≡ t → word_kind text ≡ scalar_word → (more ≡ Some s → word_kind w ≡ scalar_word)
    → (if t then Some a else more) ≡ Some s → word_kind w ≡ scalar_word
by_text w text a s more true same k others e = ap word_kind (same_word_is w text same) ∙ k
by_text w text a s more false same k others e = others e

scalar_kind : (w : List ℕ) (s : CScalar) → word_scalar w ≡ Some s → word_kind w ≡ scalar_word
scalar_kind w s =
    by_text w (codes "bool") Truth s _ (same_word w (codes "bool")) refl refl
    (by_text w (codes "uint8_t") (Int U8) s _ (same_word w (codes "uint8_t")) refl refl
    (by_text w (codes "uint16_t") (Int U16) s _ (same_word w (codes "uint16_t")) refl refl
    (by_text w (codes "uint32_t") (Int U32) s _ (same_word w (codes "uint32_t")) refl refl
    (by_text w (codes "uint64_t") (Int U64) s _ (same_word w (codes "uint64_t")) refl refl
    (by_text w (codes "int8_t") (Int I8) s _ (same_word w (codes "int8_t")) refl refl
    (by_text w (codes "int16_t") (Int I16) s _ (same_word w (codes "int16_t")) refl refl
    (by_text w (codes "int32_t") (Int I32) s _ (same_word w (codes "int32_t")) refl refl
    (by_text w (codes "int64_t") (Int I64) s None (same_word w (codes "int64_t")) refl refl (λ e. cc)))))))))

pub reads_scalar : (d : ℕ) (bytes w rest : List ℕ) (s : CScalar) → WordFirst bytes w rest → word_scalar w ≡ Some s → reads_at d scalar (pieces bytes) ≡ Done s (pieces rest)
reads_scalar d bytes w rest s c e = accept_word d scalar_word scalar_of bytes w rest c s (scalar_kind w s e) e

pub reads_no_scalar : (d : ℕ) (bytes w rest : List ℕ) → WordFirst bytes w rest → word_scalar w ≡ None → reads_at d scalar (pieces bytes) ≡ Unexpected (pieces bytes)
reads_no_scalar d bytes w rest c e = accept_no d scalar_word scalar_of bytes (Word w) (pieces rest) c.cut e

pub reads_scalar_none : (d : ℕ) (bytes : List ℕ) → no_word (pieces bytes) ≡ true → reads_at d scalar (pieces bytes) ≡ Unexpected (pieces bytes)
reads_scalar_none d bytes e = accept_no_word d scalar_word scalar_of (pieces bytes) e (λ n. refl) (λ b. refl)

-- ---- numbers

digit_no_letter : (b : ℕ) → is_digit b ≡ true → is_letter b ≡ false
digit_no_letter b e =
    let m = and_parts (nat_le 48 b) (nat_le b 57) e in
    let low = leb-true 48 b m.0 in
    let high = leb-true b 57 m.1 in
    let upper : nat_le 65 b ≡ false = lt-leb 65 b (omega (arith, high)) in
    let lower : nat_le 97 b ≡ false = lt-leb 97 b (omega (arith, high)) in
    let under : (b == 95) ≡ false = ne_eqb b 95 (λ e. omega (arith, high)) in
    rw (upper, lower, under) refl

plain_number : (w : List ℕ) (n : ℕ × Suffix) → word_number w ≡ Some n → is_plain (digits w) ≡ true
plain_number w n e = at (is_plain (digits w)) (nat_lt (value_behind 0 (digits w)) (2 ^ 64)) e
  where
    at : (t u : Bool) → (if t && u then with_suffix (value_behind 0 (digits w)) (suffix_of (behind_digits w)) else None) ≡ Some n → t ≡ true
    at true u e = refl
    at false u e = cc

number_begins : (w : List ℕ) (n : ℕ × Suffix) → word_number w ≡ Some n → begins_as_identifier w ≡ false
number_begins [] n e = refl
number_begins (b ∷ w) n e = at (is_digit b) refl (plain_number (b ∷ w) n e)
  where
    at : (t : Bool) → is_digit b ≡ t → is_plain (if t then b ∷ digits w else []) ≡ true → is_letter b ≡ false
    at true d e = digit_no_letter b d
    at false d e = cc

number_kind : (w : List ℕ) (n : ℕ × Suffix) → word_number w ≡ Some n → word_kind w ≡ number_word
number_kind w n e = rw (number_begins w n e, e) refl

pub reads_number : (d : ℕ) (bytes w rest : List ℕ) (n : ℕ × Suffix) → WordFirst bytes w rest → word_number w ≡ Some n → reads_at d (token number_word number_of) (pieces bytes) ≡ Done n (pieces rest)
reads_number d bytes w rest n c e = accept_word d number_word number_of bytes w rest c n (number_kind w n e) e

pub reads_no_number : (d : ℕ) (bytes w rest : List ℕ) → WordFirst bytes w rest → word_number w ≡ None → reads_at d (token number_word number_of) (pieces bytes) ≡ Unexpected (pieces bytes)
reads_no_number d bytes w rest c e = accept_no d number_word number_of bytes (Word w) (pieces rest) c.cut e

pub reads_number_none : (d : ℕ) (bytes : List ℕ) → no_word (pieces bytes) ≡ true → reads_at d (token number_word number_of) (pieces bytes) ≡ Unexpected (pieces bytes)
reads_number_none d bytes e = accept_no_word d number_word number_of (pieces bytes) e (λ n. refl) (λ b. refl)

length_kind : (w : List ℕ) (n : ℕ) → as_length (word_number w) ≡ Some n → word_kind w ≡ number_word
length_kind w n e = at (word_number w) refl e
  where
    at : (o : Option (ℕ × Suffix)) → word_number w ≡ o → as_length o ≡ Some n → word_kind w ≡ number_word
    at (Some m) same e = number_kind w m same
    at None same e = cc

pub reads_length : (d : ℕ) (bytes w rest : List ℕ) (n : ℕ) → WordFirst bytes w rest → as_length (word_number w) ≡ Some n → reads_at d length_rule (pieces bytes) ≡ Done n (pieces rest)
reads_length d bytes w rest n c e = accept_word d number_word length_of bytes w rest c n (length_kind w n e) e

pub reads_no_length : (d : ℕ) (bytes w rest : List ℕ) → WordFirst bytes w rest → as_length (word_number w) ≡ None → reads_at d length_rule (pieces bytes) ≡ Unexpected (pieces bytes)
reads_no_length d bytes w rest c e = accept_no d number_word length_of bytes (Word w) (pieces rest) c.cut e

pub reads_length_none : (d : ℕ) (bytes : List ℕ) → no_word (pieces bytes) ≡ true → reads_at d length_rule (pieces bytes) ≡ Unexpected (pieces bytes)
reads_length_none d bytes e = accept_no_word d number_word length_of (pieces bytes) e (λ n. refl) (λ b. refl)

-- ---- words that are written out

fixed_word_kind : (f : Fixed) → word_kind (fixed_text f) ≡ fixed_kind f
fixed_word_kind fixed.If = refl
fixed_word_kind fixed.Else = refl
fixed_word_kind fixed.For = refl
fixed_word_kind fixed.Break = refl
fixed_word_kind fixed.Return = refl
fixed_word_kind fixed.Static = refl
fixed_word_kind fixed.Extern = refl
fixed_word_kind fixed.Void = refl
fixed_word_kind fixed.Struct = refl
fixed_word_kind fixed.Const = refl
fixed_word_kind fixed.Include = refl
fixed_word_kind fixed.Stdint = refl
fixed_word_kind fixed.Stdbool = refl
fixed_word_kind fixed.H = refl
fixed_word_kind fixed.IvoryStop = refl
fixed_word_kind fixed.Uint32 = refl

abbrev fixed_rule : Fixed → Rule Piece
fixed_rule f = token (fixed_kind f) (exactly (Word (fixed_text f)))

pub reads_fixed : (d : ℕ) (bytes w rest : List ℕ) (f : Fixed) → WordFirst bytes w rest → same_word w (fixed_text f) ≡ true → reads_at d (fixed_rule f) (pieces bytes) ≡ Done (Word (fixed_text f)) (pieces rest)
reads_fixed d bytes w rest f c e =
    let is : w ≡ fixed_text f = same_word_is w (fixed_text f) e in
    accept_word d (fixed_kind f) (exactly (Word (fixed_text f))) bytes w rest c (Word (fixed_text f)) (ap word_kind is ∙ fixed_word_kind f) (ap (λ t. if t then Some (Word w) else None) e ∙ ap (λ v. Some (Word v)) is)

pub reads_no_fixed : (d : ℕ) (bytes w rest : List ℕ) (f : Fixed) → WordFirst bytes w rest → same_word w (fixed_text f) ≡ false → reads_at d (fixed_rule f) (pieces bytes) ≡ Unexpected (pieces bytes)
reads_no_fixed d bytes w rest f c e =
    accept_no d (fixed_kind f) (exactly (Word (fixed_text f))) bytes (Word w) (pieces rest) c.cut (ap (λ t. if t then Some (Word w) else None) e)

pub reads_fixed_none : (d : ℕ) (bytes : List ℕ) (f : Fixed) → no_word (pieces bytes) ≡ true → reads_at d (fixed_rule f) (pieces bytes) ≡ Unexpected (pieces bytes)
reads_fixed_none d bytes f e = accept_no_word d (fixed_kind f) (exactly (Word (fixed_text f))) (pieces bytes) e (λ n. refl) (λ b. refl)

-- ---- blanks

pub reads_blank : (d : ℕ) (bytes : List ℕ) (n : ℕ) (rest : List ℕ) → BlanksFirst bytes n rest → n ≡ 1 → reads_at d blank (pieces bytes) ≡ Done (Blanks 1) (pieces rest)
reads_blank d bytes n rest c e = ap (accept (of_kind lexicon d one_blank (exactly (Blanks 1)))) (c.cut ∙ ap (λ k. Blanks k ∷ pieces rest) e)

pub reads_no_blank : (d : ℕ) (bytes : List ℕ) (n : ℕ) (rest : List ℕ) → BlanksFirst bytes n rest → (n ≡ 1 → ⊥) → reads_at d blank (pieces bytes) ≡ Unexpected (pieces bytes)
reads_no_blank d bytes n rest c e = accept_no d one_blank (exactly (Blanks 1)) bytes (Blanks n) (pieces rest) c.cut (ap (λ t. if t then Some (Blanks n) else None) (ne_eqb n 1 e))

pub reads_blank_none : (d : ℕ) (bytes : List ℕ) → no_blanks (pieces bytes) ≡ true → reads_at d blank (pieces bytes) ≡ Unexpected (pieces bytes)
reads_blank_none d bytes e = accept_no_blanks d one_blank (exactly (Blanks 1)) (pieces bytes) e (λ w. refl) (λ b. refl)

-- of the blanks before a line any are taken, if they are of the kind

abbrev some_of : ℕ → Rule Piece
some_of k = token k Some

pub reads_kind : (d k : ℕ) (bytes : List ℕ) (n : ℕ) (rest : List ℕ) → BlanksFirst bytes n rest → blanks_kind d n ≡ k → reads_at d (some_of k) (pieces bytes) ≡ Done (Blanks n) (pieces rest)
reads_kind d k bytes n rest c e =
    let same : nat_eq k (kind d (Blanks n)) ≡ true = eq-eqb k (kind d (Blanks n)) (sym (blanks_of_kind d bytes n rest c ∙ e)) in
    ap (accept (of_kind lexicon d k Some)) c.cut ∙ ap (λ t. picked (none_or t (Some (Blanks n))) (Blanks n) (pieces rest)) same

-- another kind
other_kind : (d k : ℕ) (p : Piece) (ps : List Piece) → (kind d p ≡ k → ⊥) → accept (of_kind lexicon d k Some) (p ∷ ps) ≡ Unexpected (p ∷ ps)
other_kind d k p ps differs = ap (λ t. picked (none_or t (Some p)) p ps) (ne_eqb k (kind d p) (λ e. differs (sym e)))

pub reads_other_kind : (d k : ℕ) (bytes : List ℕ) (n : ℕ) (rest : List ℕ) → BlanksFirst bytes n rest → (blanks_kind d n ≡ k → ⊥) → reads_at d (some_of k) (pieces bytes) ≡ Unexpected (pieces bytes)
reads_other_kind d k bytes n rest c differs =
    ap (accept (of_kind lexicon d k Some)) c.cut ∙ other_kind d k (Blanks n) (pieces rest) (λ e. differs (sym (blanks_of_kind d bytes n rest c) ∙ e)) ∙ ap Unexpected (sym c.cut)

is_either : (t u : Bool) → (t || u) ≡ true → (t ≡ true) ⊎ (u ≡ true)
is_either true u e = inl refl
is_either false u e = inr e

word_not_line : (d k : ℕ) (w : List ℕ) → 50 < k → k < 60 → kind d (Word w) ≡ k → ⊥
word_not_line d k w low high e = at (is_whole (Word w)) e
  where
    wide : (j : ℕ) → is_wordy j ≡ true → j ≡ k → ⊥
    wide j e same = elim (is_either (nat_lt j 50) (j == other) e) [ inl a ↦ omega (arith, ltb-true j 50 a) | inr b ↦ omega (arith, eqb-true j other b) ]

    at : (t : Bool) → (if t then word_kind w else other) ≡ k → ⊥
    at true e = wide (word_kind w) (wordy w) e
    at false e = omega arith

byte_not_line : (d k b : ℕ) → k < 60 → kind d (Byte b) ≡ k → ⊥
byte_not_line d k b high e = at (is_whole (Byte b)) e
  where
    at : (t : Bool) → (if t then 256 + b else other) ≡ k → ⊥
    at true e = omega arith
    at false e = omega arith

pub reads_line_none : (d k : ℕ) (bytes : List ℕ) → 50 < k → k < 60 → no_blanks (pieces bytes) ≡ true → reads_at d (some_of k) (pieces bytes) ≡ Unexpected (pieces bytes)
reads_line_none d k bytes low high e = at (pieces bytes) e
  where
    at : (ps : List Piece) → no_blanks ps ≡ true → reads_at d (some_of k) ps ≡ Unexpected ps
    at [] e = refl
    at (Word w ∷ ps) e = other_kind d k (Word w) ps (word_not_line d k w low high)
    at (Blanks n ∷ ps) e = cc
    at (Byte b ∷ ps) e = other_kind d k (Byte b) ps (byte_not_line d k b high)

-- ---- marks

mark_kind : (d b : ℕ) → is_mark b ≡ true → kind d (Byte b) ≡ 256 + b
mark_kind d b e = rw e refl

is_byte : (d b : ℕ) (p : Piece) → kind d p ≡ 256 + b → p ≡ Byte b
is_byte d b (Word w) e = at (is_whole (Word w)) e
  where
    wide : (j : ℕ) → is_wordy j ≡ true → j ≡ 256 + b → Word w ≡ Byte b
    wide j e same = absurd (elim (is_either (nat_lt j 50) (j == other) e) [ inl a ↦ omega (arith, ltb-true j 50 a) | inr k ↦ omega (arith, eqb-true j other k) ])

    at : (t : Bool) → (if t then word_kind w else other) ≡ 256 + b → Word w ≡ Byte b
    at true e = wide (word_kind w) (wordy w) e
    at false e = absurd (omega arith)
is_byte d b (Blanks n) e = at (is_whole (Blanks n)) e
  where
    wide : (j : ℕ) → is_blanky j ≡ true → j ≡ 256 + b → Blanks n ≡ Byte b
    wide j e same = absurd (omega (arith, leb-true j other (and_parts (nat_le 50 j) (nat_le j other) e).1))

    at : (t : Bool) → (if t then blanks_kind d n else other) ≡ 256 + b → Blanks n ≡ Byte b
    at true e = wide (blanks_kind d n) (blanky d n) e
    at false e = absurd (omega arith)
is_byte d b (Byte x) e = at (is_whole (Byte x)) e
  where
    at : (t : Bool) → (if t then 256 + x else other) ≡ 256 + b → Byte x ≡ Byte b
    at true e = let same : x ≡ b = omega arith in ap Byte same
    at false e = absurd (omega arith)

-- no piece that begins with another byte is of the mark's kind
not_of_mark : (d b c : ℕ) (bs : List ℕ) (p : Piece) (ps : List Piece) → pieces (c ∷ bs) ≡ p ∷ ps → (c ≡ b → ⊥) → nat_eq (256 + b) (kind d p) ≡ false
not_of_mark d b c bs p ps e differs = ne_eqb (256 + b) (kind d p) (λ h. differs (first_byte b c bs ps (e ∙ ap (λ q. q ∷ ps) (is_byte d b p (sym h)))))

module _ {A : Type 0} (d b : ℕ) (f : Piece → Option A) where
  mark_taken : (bs : List ℕ) (a : A) → is_mark b ≡ true → f (Byte b) ≡ Some a → accept (of_kind lexicon d (256 + b) f) (pieces (b ∷ bs)) ≡ Done a (pieces bs)
  mark_taken bs a is e =
      let same : nat_eq (256 + b) (kind d (Byte b)) ≡ true = eq-eqb (256 + b) (kind d (Byte b)) (sym (mark_kind d b is)) in
      ap (accept (of_kind lexicon d (256 + b) f)) (mark_cut b bs is) ∙ ap (λ o. picked o (Byte b) (pieces bs)) (ap (λ t. none_or t (f (Byte b))) same ∙ e)

  mark_missed : (c : ℕ) (bs : List ℕ) → (c ≡ b → ⊥) → accept (of_kind lexicon d (256 + b) f) (pieces (c ∷ bs)) ≡ Unexpected (pieces (c ∷ bs))
  mark_missed c bs differs = at (pieces (c ∷ bs)) refl
    where
      at : (ps : List Piece) → pieces (c ∷ bs) ≡ ps → accept (of_kind lexicon d (256 + b) f) ps ≡ Unexpected ps
      at [] e = refl
      at (p ∷ ps) e = ap (λ t. picked (none_or t (f p)) p ps) (not_of_mark d b c bs p ps e differs)

pub reads_mark : (d b c : ℕ) (bs : List ℕ) → is_mark b ≡ true → c ≡ b → reads_at d (mark b) (pieces (c ∷ bs)) ≡ Done (Byte b) (pieces bs)
reads_mark d b c bs is e =
    let same : nat_eq b b ≡ true = eq-eqb b b refl in
    ap (λ x. reads_at d (mark b) (pieces (x ∷ bs))) e ∙ mark_taken d b (exactly (Byte b)) bs (Byte b) is (ap (λ t. if t then Some (Byte b) else None) same)

pub reads_no_mark : (d b c : ℕ) (bs : List ℕ) → (c ≡ b → ⊥) → reads_at d (mark b) (pieces (c ∷ bs)) ≡ Unexpected (pieces (c ∷ bs))
reads_no_mark d b c bs differs = mark_missed d b (exactly (Byte b)) c bs differs

pub reads_close : (d b c : ℕ) (bs : List ℕ) → is_mark b ≡ true → c ≡ b → reads_at d (some_of (256 + b)) (pieces (c ∷ bs)) ≡ Done (Byte b) (pieces bs)
reads_close d b c bs is e = ap (λ x. reads_at d (some_of (256 + b)) (pieces (x ∷ bs))) e ∙ mark_taken d b Some bs (Byte b) is refl

pub reads_no_close : (d b c : ℕ) (bs : List ℕ) → (c ≡ b → ⊥) → reads_at d (some_of (256 + b)) (pieces (c ∷ bs)) ≡ Unexpected (pieces (c ∷ bs))
reads_no_close d b c bs differs = mark_missed d b Some c bs differs
