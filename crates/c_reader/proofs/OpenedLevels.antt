-- Which pieces are brackets, and that each bracket of a text is one of the grammar's brackets.
use Rattle.std.proofs.Common.{◌≡◌, ℕ, zero, suc, ◌+◌, ◌-◌, ◌≤◌, Bool, true, false, not, List, [], ◌∷◌, ◌++◌, inl, inr, refl, sym, ap, ◌∙◌, subst, arith, Some, if◌then◌else◌}
use Rattle.std.specs.Prelude.{nat_eq, nat_lt, nat_le, ◌==◌, ◌&&◌, ◌||◌}
use Rattle.std.proofs.lemmas.Bool.{eqb-true, ltb-true, leb-true, le-ltb, and_parts}
use Rattle.std.proofs.lemmas.Bool.Decides.{nat_tests}
use Rattle.reading.specs.Row.{Entry, Row}
use Rattle.reading.specs.Language.{Language, Many}
use Rattle.c_text.specs.ReadsBack.{is_opening, is_closing}
use Rattle.c_text.proofs.Plain.{is_plain, IsPlain, plain_word, plain_spaces}
use Rattle.c_ast.specs.Syntax.{TranslationUnit}
use Rattle.grammars.specs.Grammar.{empty, token, map, sequence, split, choice, repeat, stages, brackets, stage}
use Rattle.grammars.specs.Kinds.{at_every_stage}
use Rattle.grammars.specs.Spelled.{InStages, SpellsWith, SpellsUpTo}
use Rattle.grammars.proofs.Sets.{kind_is, every_stage, stage_within}
use Rattle.c_grammar.specs.Pieces.{Piece, Word, Blanks, Byte, piece_text}
use Rattle.c_grammar.specs.Kinds.{lexicon, kind, kind_of, is_whole, word_kind, blanks_kind, is_wordy, is_blanky, other}
use Rattle.c_grammar.specs.Symbols.{Symbol, an_expression, a_pointer, an_inner, an_inside, arguments, initializers, a_length, forever, a_block, a_body, the_members, the_types, the_params, stop_params, a_unit, Tree, Rule}
use Rattle.c_grammar.specs.ExpressionRules.{expression, binary_operator, tail, value_inside}
use Rattle.c_grammar.specs.StatementRules.{value_or_call, simple, statement}
use Rattle.c_grammar.specs.UnitRules.{defined, first_value, static_item, at_stage, fixed_lines}
use Rattle.c_grammar.specs.Subset.{grammar, Text}
use Rattle.c_grammar.proofs.Parted.{wordy, blanky}

-- ---- rows in which each bracket opens or closes a level

-- the levels that are open before a piece and behind it
pub data Entered : ℕ → Entry Piece → ℕ → Type 0 where
  plain : {a : ℕ} {m : Entry Piece} → IsPlain (piece_text m.token) → m.depth ≡ a → Entered a m a
  opens : {a : ℕ} {m : Entry Piece} (b : ℕ) → piece_text m.token ≡ b ∷ [] → is_opening b ≡ true → m.depth ≡ suc a → Entered a m (suc a)
  closes : {a : ℕ} {m : Entry Piece} (b : ℕ) → piece_text m.token ≡ b ∷ [] → is_closing b ≡ true → m.depth ≡ suc a → Entered (suc a) m a

abbrev pub Leveled : ℕ → Row Piece → ℕ → Type 0
Leveled a [] c = a ≡ c
Leveled a (m ∷ row) c = (b : ℕ) × Entered a m b × Leveled b row c

leveled_append : (a b c : ℕ) (f g : Row Piece) → Leveled a f b → Leveled b g c → Leveled a (f ++ g) c
leveled_append a b c [] g l m = subst (λ k. Leveled k g c) (sym l) m
leveled_append a b c (x ∷ f) g (k, e, l) m = (k, e, leveled_append k b c f g l m)

pub leveled_split : (a c : ℕ) (f g : Row Piece) → Leveled a (f ++ g) c → (b : ℕ) × Leveled a f b × Leveled b g c
leveled_split a c [] g l = (a, refl, l)
leveled_split a c (x ∷ f) g (k, e, l) = let w = leveled_split k c f g l in (w.0, (k, e, w.1), w.2)

-- ---- kinds

low_word : (k : ℕ) → is_wordy k ≡ true → k ≤ 60
low_word k e = at (nat_lt k 50) refl e
  where
    at : (b : Bool) → nat_lt k 50 ≡ b → (b || (k == other)) ≡ true → k ≤ 60
    at true is e = let small = ltb-true k 50 is in omega (arith, small)
    at false is e = let same = eqb-true k 60 e in omega (arith, same)

low_blanks : (k : ℕ) → is_blanky k ≡ true → k ≤ 60
low_blanks k e = leb-true k 60 (and_parts (nat_le 50 k) (nat_le k other) e).1

-- a piece whose kind is not that of none is whole, and has the kind of its form
known : (d : ℕ) (p : Piece) (k : ℕ) (b : Bool) → is_whole p ≡ b → k ≡ (if b then kind_of d p else other) → not (k == other) ≡ true → (is_whole p ≡ true) × (k ≡ kind_of d p)
known d p k true is e free = (is, e)
known d p k false is e free = absurd (let no : not (other == other) ≡ true = subst (λ j. not (j == other) ≡ true) e free in cc)

abbrev is_free_kind : ℕ → Bool
is_free_kind k = not (k == other) && (nat_lt k 256 || is_plain (k - 256))

abbrev is_opening_kind : ℕ → Bool
is_opening_kind k = nat_lt 255 k && is_opening (k - 256)

abbrev is_closing_kind : ℕ → Bool
is_closing_kind k = nat_lt 255 k && is_closing (k - 256)

plain_whole_word : (w : List ℕ) → is_whole (Word w) ≡ true → IsPlain w
plain_whole_word [] whole = cc
plain_whole_word (b ∷ w) whole = plain_word (b ∷ w) whole

plain_byte : (b k : ℕ) → k ≡ 256 + b → (nat_lt k 256 || is_plain (k - 256)) ≡ true → IsPlain (b ∷ [])
plain_byte b k e free =
    let high : nat_lt k 256 ≡ false = le-ltb k 256 (omega (arith, e)) in
    let back : k - 256 ≡ b = omega (arith, e) in
    let is : is_plain (k - 256) ≡ true = sym (ap (λ x. x || is_plain (k - 256)) high) ∙ free in
    record { all = ap (λ x. x && true) (sym (ap is_plain back) ∙ is) }

plain_form : (d k : ℕ) (p : Piece) → is_whole p ≡ true → k ≡ kind_of d p → (nat_lt k 256 || is_plain (k - 256)) ≡ true → IsPlain (piece_text p)
plain_form d k (Word w) whole e free = plain_whole_word w whole
plain_form d k (Blanks n) whole e free = plain_spaces n
plain_form d k (Byte b) whole e free = plain_byte b k e free

-- a piece of such a kind has no bracket
free_piece : (d k : ℕ) (p : Piece) → nat_eq k (kind d p) ≡ true → is_free_kind k ≡ true → IsPlain (piece_text p)
free_piece d k p e free =
    let parts = and_parts (not (k == other)) (nat_lt k 256 || is_plain (k - 256)) free in
    let w = known d p k (is_whole p) refl (eqb-true k (kind d p) e) parts.0 in
    plain_form d k p w.0 w.1 parts.1

high_form : (d k : ℕ) (p : Piece) → 256 ≤ k → k ≡ kind_of d p → piece_text p ≡ (k - 256) ∷ []
high_form d k (Word w) high e = let low = low_word (word_kind w) (wordy w) in absurd (omega (arith, high, e, low))
high_form d k (Blanks n) high e = let low = low_blanks (blanks_kind d n) (blanky d n) in absurd (omega (arith, high, e, low))
high_form d k (Byte b) high e = let back : b ≡ k - 256 = omega (arith, e) in ap (λ z. z ∷ []) back

high_is_known : (k : ℕ) → 256 ≤ k → not (k == other) ≡ true
high_is_known k high = grind (arith, nat_tests)

-- one of these is a byte
high_piece : (d k : ℕ) (p : Piece) → nat_eq k (kind d p) ≡ true → nat_lt 255 k ≡ true → piece_text p ≡ (k - 256) ∷ []
high_piece d k p e is =
    let above = ltb-true 255 k is in
    let high : 256 ≤ k = omega (arith, above) in
    let w = known d p k (is_whole p) refl (eqb-true k (kind d p) e) (high_is_known k high) in
    high_form d k p high w.1

-- ---- rules

-- the brackets of the rule are those of the text, and its other pieces are none
abbrev bracketed : {A : Type 0} → Rule A → Bool
bracketed (empty a) = true
bracketed (token k f) = is_free_kind k
bracketed (map f p) = bracketed p
bracketed (sequence f p q) = bracketed p && bracketed q
bracketed (split last way f p rules) = bracketed p && at_every_stage (λ s. bracketed (rules s)) last
bracketed (choice p q) = bracketed p && bracketed q
bracketed (repeat p) = bracketed p
bracketed (stages last rank rules) = at_every_stage (λ s. bracketed (rules s)) last
bracketed (brackets o c n) = is_opening_kind o && is_closing_kind c

many_levels : {A : Type 0} (d : ℕ) (R : Language Piece A) → ((a : A) (row : Row Piece) → R a row → Leveled d row d) → (xs : List A) (row : Row Piece) → Many R xs row → Leveled d row d
many_levels d R h [] row e = subst (λ r. Leveled d r d) (sym e) refl
many_levels d R h (x ∷ xs) row (u, v, e, s, t) = subst (λ r. Leveled d r d) (sym e) (leveled_append d d d u v (h x u s) (many_levels d R h xs v t))

stage_levels : {A : Type 0} (d last : ℕ) (rank : A → ℕ) (R : ℕ → Language Piece A) → ((k : ℕ) → k ≤ last → (a : A) (row : Row Piece) → R k a row → Leveled d row d)
    → (k : ℕ) → k ≤ last → (xs : List A) (row : Row Piece) → InStages last rank R k xs row → Leveled d row d
stage_levels d last rank R h k low [] row e = subst (λ r. Leveled d r d) (sym e) refl
stage_levels d last rank R h k low (x ∷ xs) row (u, v, e, s, t) =
    subst (λ r. Leveled d r d) (sym e) (leveled_append d d d u v (h k low x u s) (stage_levels d last rank R h (stage last (rank x)) (stage_within last (rank x)) xs v t))

module _ (d : ℕ) (L : (n : Symbol) → Language Piece (Tree n)) (inner : (n : Symbol) (x : Tree n) (row : Row Piece) → L n x row → Leveled (suc d) row (suc d)) where
  abbrev Here : {A : Type 0} → Rule A → Language Piece A
  Here r = SpellsWith lexicon d L r

  between : (o c : ℕ) (m z : Entry Piece) (k : Row Piece) → is_opening_kind o ≡ true → is_closing_kind c ≡ true → nat_eq o (kind d m.token) ≡ true → nat_eq c (kind (suc d) z.token) ≡ true → m.depth ≡ suc d → z.depth ≡ suc d
      → Leveled (suc d) k (suc d) → Leveled d (m ∷ k ++ z ∷ []) d
  between o c m z k opening closing is_o is_c deep deeper l =
      let a = and_parts (nat_lt 255 o) (is_opening (o - 256)) opening in
      let b = and_parts (nat_lt 255 c) (is_closing (c - 256)) closing in
      let shut : Leveled (suc d) (z ∷ []) d = (d, closes (c - 256) (high_piece (suc d) c z.token is_c b.0) b.1 deeper, refl) in
      (suc d, opens (o - 256) (high_piece d o m.token is_o a.0) a.1 deep, leveled_append (suc d) (suc d) d k (z ∷ []) l shut)

  rule_levels : {A : Type 0} (r : Rule A) → bracketed r ≡ true → (a : A) (row : Row Piece) → Here r a row → Leveled d row d
  rule_levels (empty a) ok b row (is, e) = subst (λ r. Leveled d r d) (sym e) refl
  rule_levels (token k f) ok a row (m, e, deep, sel) =
      subst (λ r. Leveled d r d) (sym e) (d, plain (free_piece d k m.token (kind_is (nat_eq k (kind d m.token)) (f m.token) a sel) ok) deep, refl)
  rule_levels (map f p) ok b row (a, s, is) = rule_levels p ok a row s
  rule_levels (sequence f p q) ok c row (a, u, v, e, s, (b, t, is)) =
      let w = and_parts (bracketed p) (bracketed q) ok in
      subst (λ r. Leveled d r d) (sym e) (leveled_append d d d u v (rule_levels p w.0 a u s) (rule_levels q w.1 b v t))
  rule_levels (split last way f p rules) ok c row (a, u, v, e, s, (b, t, is)) =
      let w = and_parts (bracketed p) (at_every_stage (λ k. bracketed (rules k)) last) ok in
      let here = every_stage (λ k. bracketed (rules k)) last (stage last (way a)) w.1 (stage_within last (way a)) in
      subst (λ r. Leveled d r d) (sym e) (leveled_append d d d u v (rule_levels p w.0 a u s) (rule_levels (rules (stage last (way a))) here b v t))
  rule_levels (choice p q) ok a row (inl s) = rule_levels p (and_parts (bracketed p) (bracketed q) ok).0 a row s
  rule_levels (choice p q) ok a row (inr s) = rule_levels q (and_parts (bracketed p) (bracketed q) ok).1 a row s
  rule_levels (repeat p) ok xs row s = many_levels d (Here p) (rule_levels p ok) xs row s
  rule_levels (stages last rank rules) ok xs row s =
      stage_levels d last rank (λ k. Here (rules k)) (λ k low. rule_levels (rules k) (every_stage (λ j. bracketed (rules j)) last k ok low)) 0 (omega arith) xs row s
  rule_levels (brackets o c n) ok x row (t, u, v, e, (m, is, deep, sel), (y, k, l, e2, inside, (b, (z, at, deeper, sel2), same))) =
      let w = and_parts (is_opening_kind o) (is_closing_kind c) ok in
      let all : row ≡ m ∷ k ++ z ∷ [] = e ∙ ap (λ r. r ++ v) is ∙ ap (λ r. m ∷ r) (e2 ∙ ap (λ r. k ++ r) at) in
      subst (λ r. Leveled d r d) (sym all)
      (between o c m z k w.0 w.1 (kind_is (nat_eq o (kind d m.token)) (Some m.token) t sel) (kind_is (nat_eq c (kind (suc d) z.token)) (Some z.token) b sel2) deep deeper (inner n y k inside))

all_bracketed : (n : Symbol) → bracketed (grammar n) ≡ true
unfolding expression binary_operator tail value_inside value_or_call simple statement defined first_value static_item at_stage fixed_lines
all_bracketed an_expression = refl
all_bracketed a_pointer = refl
all_bracketed an_inner = refl
all_bracketed an_inside = refl
all_bracketed arguments = refl
all_bracketed initializers = refl
all_bracketed a_length = refl
all_bracketed forever = refl
all_bracketed a_block = refl
all_bracketed a_body = refl
all_bracketed the_members = refl
all_bracketed the_types = refl
all_bracketed the_params = refl
all_bracketed stop_params = refl
all_bracketed a_unit = refl

symbol_levels : (levels d : ℕ) (n : Symbol) (x : Tree n) (row : Row Piece) → SpellsUpTo lexicon grammar levels d n x row → Leveled d row d
symbol_levels zero d n x row s = absurd s
symbol_levels (suc l) d n x row s = rule_levels d (SpellsUpTo lexicon grammar l (suc d)) (symbol_levels l (suc d)) (grammar n) (all_bracketed n) x row s

pub rows_are_leveled : (u : TranslationUnit) (row : Row Piece) → Text u row → Leveled 0 row 0
rows_are_leveled u row (levels, s) = symbol_levels levels 0 a_unit u row s
