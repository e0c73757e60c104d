-- Single tokens, and what stands before, behind and between them.
use Rattle.std.proofs.Common.{◌≡◌, ℕ, zero, suc, ◌+◌, ◌≤◌, Bool, true, false, List, [], ◌∷◌, inl, refl, ap, arith, Option, is_some}
use Rattle.std.specs.Option.{option_map}
use Rattle.iv_words.specs.declared.Span.{Span}
use Rattle.iv_words.specs.declared.Name.{Name}
use Rattle.iv_words.specs.declared.IntKind.TheVariants as int
use Rattle.ivory_lexer.specs.declared.Token.{Token}
use Rattle.ivory_lexer.specs.declared.TokenKind.TheVariants as kind
use Rattle.ivory_lexer.specs.declared.Mark.{Mark}
use Rattle.ivory_lexer.specs.declared.Mark.TheVariants as mark
use Rattle.ivory_lexer.specs.declared.Key.{Key}
use Rattle.ivory_lexer.specs.declared.Key.TheVariants as key
use Rattle.ivory_tree.specs.declared.RegionText.TheVariants as region
use Rattle.reading.specs.Row.{Row}
use Rattle.reading.specs.Row as rows
use Rattle.reading.specs.Language.{Language, Terminal, Then, Before, Optional, Closed}
use Rattle.reading.specs.Reader.{Reader, ◌>>=◌, accept, before, optional, closed, below}
use Rattle.reading.specs.Good.{Good}
use Rattle.reading.proofs.Same.{none}
use Rattle.reading.proofs.Tokens.{good_accept}
use Rattle.reading.proofs.Sequence.{good_then, good_before}
use Rattle.reading.proofs.Starts.{StartsWith, starts_terminal, either, either_first, either_second, either_none}
use Rattle.reading.proofs.Nesting.{Within, barred_within, read_within, Below, barred_there, read_there, Brackets}
use Rattle.reading.proofs.Plain.{Plain, plain_terminal, plain_mapped, plain_either, plain_last}
use Rattle.reading.proofs.Lists.{good_optional, good_closed}
use Rattle.ivory_lexer.specs.Same.{same_mark}
use Rattle.expression_grammar.specs.Tokens.{symbol, keyword, is_mark, is_key, is_name, word_of, name_of, number_of, int_of, signs}
use Rattle.expression_grammar.specs.Reader.{mark_reader, key_reader}
use Rattle.ivory_lexer.proofs.Same.{same_mark_self, same_key_self}
use Rattle.expression_grammar.proofs.Tokens.{token, marked, keyed, symbol_passes, symbol_some, keyword_passes, keyword_some, name_passes, word_passes, at_mark}
use Rattle.expression_grammar.proofs.Samples.{nowhere}
use Rattle.expression_grammar.proofs.Plain.{symbol_plain}
use Rattle.expression_grammar.proofs.GoodPrimary.{good_symbol, good_keyword}
use Rattle.module_grammar.specs.Tokens.{region_of, width_of, before_of, begins_contract}

-- ---- one token

module _ {limit d : ℕ} (within : d ≤ limit) where
  pub good_int : Good signs limit none (Terminal d int_of) (accept int_of)
  good_int = good_accept int_of within int.U8 (keyed key.KwUint8t nowhere) refl

  pub good_region : Good signs limit none (Terminal d region_of) (accept region_of)
  good_region = good_accept region_of within region.Global (keyed key.KwGlobal nowhere) refl

  pub good_width : Good signs limit none (Terminal d width_of) (accept width_of)
  good_width = good_accept width_of within (1, true) (keyed key.KwBool nowhere) refl

  pub good_contract_head : Good signs limit none (Terminal d before_of) (accept before_of)
  good_contract_head = good_accept before_of within true (keyed key.KwRequires nowhere) refl

module _ (d : ℕ) where
  pub starts_mark : (a : Mark) → StartsWith (is_mark a) (Terminal d (symbol a))
  starts_mark a = starts_terminal (is_mark a) (symbol_passes a)

  pub starts_key : (a : Key) → StartsWith (is_key a) (Terminal d (keyword a))
  starts_key a = starts_terminal (is_key a) (keyword_passes a)

  pub starts_name : StartsWith is_name (Terminal d name_of)
  starts_name = starts_terminal is_name name_passes

  pub starts_word : StartsWith is_name (Terminal d word_of)
  starts_word = starts_terminal is_name word_passes

  pub starts_contract_head : StartsWith begins_contract (Terminal d before_of)
  starts_contract_head = starts_terminal begins_contract (λ t b e. ap is_some e)

-- something that one token spells

pub a_mark : (d : ℕ) (a : Mark) → (s : Span) × (row : Row Token) × Terminal d (symbol a) s row
a_mark d a =
    let m : rows.Entry Token = record { token = marked a nowhere; depth = d } in
    (nowhere, m ∷ [], (m, refl, refl, symbol_some a (marked a nowhere) (same_mark_self a)))

pub a_key : (d : ℕ) (a : Key) → (s : Span) × (row : Row Token) × Terminal d (keyword a) s row
a_key d a =
    let m : rows.Entry Token = record { token = keyed a nowhere; depth = d } in
    (nowhere, m ∷ [], (m, refl, refl, keyword_some a (keyed a nowhere) (same_key_self a)))

pub a_number : (d : ℕ) → (n : ℕ) × (row : Row Token) × Terminal d number_of n row
a_number d =
    let m : rows.Entry Token = record { token = token (kind.Number 0) nowhere; depth = d } in
    (0, m ∷ [], (m, refl, refl, refl))

pub a_name : (d : ℕ) → (n : Name) × (row : Row Token) × Terminal d name_of n row
a_name d =
    let m : rows.Entry Token = record { token = token (kind.Name []) nowhere; depth = d } in
    (_, m ∷ [], (m, refl, refl, refl))

pub a_width : (d : ℕ) → (w : ℕ × Bool) × (row : Row Token) × Terminal d width_of w row
a_width d =
    let m : rows.Entry Token = record { token = keyed key.KwBool nowhere; depth = d } in
    ((1, true), m ∷ [], (m, refl, refl, refl))

-- ---- before other tokens

-- a rule, and one that begins with tokens with which the first does not go on
pub good_apart : {A B : Type 0} {limit : ℕ} {c wide : Token → Bool} {P : Language Token A} {Q : A → Language Token B} {p : Reader Token A} {q : A → Reader Token B}
    → Good signs limit c P p → ((a : A) → Good signs limit wide (Q a) (q a)) → (test : Token → Bool) → ((a : A) → StartsWith test (Q a)) → ((t : Token) → test t ≡ true → c t ≡ false)
    → Good signs limit wide (Then P Q) (p >>= q)
good_apart gp gq test s apart = good_then gp gq (λ a b m g r. apart m.token ((s a).first b m g r)) (λ a b r. absurd ((s a).nonempty b r))

-- a rule up to a mark with which it does not go on
pub good_up_to : {A : Type 0} {limit d : ℕ} {c : Token → Bool} {P : Language Token A} {p : Reader Token A} → Good signs limit c P p → d ≤ limit → (a : Mark) → ((s : Span) → c (marked a s) ≡ false)
    → Good signs limit none (Before P (Terminal d (symbol a))) (before p (mark_reader a))
good_up_to {d} {c} gp within a stops =
    good_before gp (good_symbol a within) (λ to m row t. at_mark c false a stops m.token ((starts_mark d a).first to m row t)) (λ to t. (starts_mark d a).nonempty to t)

-- a keyword that may be left out, and a rule that begins otherwise
pub good_maybe_key : {B : Type 0} {limit d : ℕ} {wide : Token → Bool} {Q : Option Span → Language Token B} {q : Option Span → Reader Token B} → d ≤ limit → (a : Key)
    → ((o : Option Span) → Good signs limit wide (Q o) (q o)) → (test : Token → Bool) → ((o : Option Span) → StartsWith test (Q o)) → ((t : Token) → test t ≡ true → is_key a t ≡ false)
    → Good signs limit wide (Then (Optional (Terminal d (keyword a))) Q) (optional (is_key a) (key_reader a) >>= q)
good_maybe_key {d} within a gq test s apart = good_apart (good_optional (good_keyword a within) (starts_key d a) (λ t e. e) (λ t e. cc)) gq test s apart

-- ---- between two marks

pub brackets : (c : Token → Bool) (opens closes : Mark) → same_mark mark.Minus opens ≡ false → same_mark mark.Minus closes ≡ false → ((s : Span) → c (marked closes s) ≡ false)
    → Brackets signs c (symbol opens) (symbol closes)
brackets c opens closes one two stops = record {
  opening = (nowhere, marked opens nowhere, symbol_some opens (marked opens nowhere) (same_mark_self opens));
  closing = (nowhere, marked closes nowhere, symbol_some closes (marked closes nowhere) (same_mark_self closes));
  opens_plain = symbol_plain opens one;
  closes_plain = symbol_plain closes two;
  closes_stops = λ t s e. at_mark c false closes stops t (symbol_passes closes t s e);
}

-- what may stand one level deeper, by the levels that are left
pub within_below : {A : Type 0} {c : Token → Bool} {R : Language Token A} (p : ℕ → Reader Token A) (limit k d : ℕ) → d + k ≡ limit
    → ((j : ℕ) → suc d + j ≡ limit → Good signs limit c R (p j)) → Within signs limit d c R (below p k)
unfolding below
within_below p limit zero d e good = barred_within (omega arith)
within_below p limit (suc k) d e good = read_within (omega arith) (good k (omega arith))

pub there_within : {A B O : Type 0} {limit d : ℕ} {c wide : Token → Bool} {R : Language Token A} {Q : O → Language Token B} {inner : Option (Reader Token A)} (f : Reader Token A → O → Reader Token B)
    → Within signs limit d c R inner → ((p : Reader Token A) → suc d ≤ limit → Good signs limit c R p → (o : O) → Good signs limit wide (Q o) (f p o)) → Below signs limit d wide Q (option_map f inner)
there_within f (barred_within deeper) good = barred_there deeper
there_within f (read_within {p} within g) good = read_there within (good p within g)

pub within_mapped : {A B : Type 0} {limit d : ℕ} {c wide : Token → Bool} {R : Language Token A} {S : Language Token B} {inner : Option (Reader Token A)} (f : Reader Token A → Reader Token B)
    → Within signs limit d c R inner → ((p : Reader Token A) → suc d ≤ limit → Good signs limit c R p → Good signs limit wide S (f p)) → Within signs limit d wide S (option_map f inner)
within_mapped f (barred_within deeper) good = barred_within deeper
within_mapped f (read_within {p} within g) good = read_within within (good p within g)

-- ---- lists with commas

abbrev pub UpTo : {A : Type 0} → Mark → ℕ → Language Token A → Language Token (List A × Span)
UpTo closes d R = Closed (Terminal d (symbol mark.Comma)) R (Terminal d (symbol closes))

abbrev pub up_to : {A : Type 0} → Mark → Reader Token A → Reader Token (List A × Span)
up_to closes p = closed (is_mark closes) (mark_reader closes) (is_mark mark.Comma) (mark_reader mark.Comma) p

-- up to a mark with which no element begins or goes on
pub good_listed : {A : Type 0} {limit d : ℕ} {c begins : Token → Bool} {R : Language Token A} {p : Reader Token A} → d ≤ limit → (closes : Mark) → same_mark mark.Comma closes ≡ false
    → Good signs limit c R p → StartsWith begins R → ((s : Span) → c (marked mark.Comma s) ≡ false) → ((s : Span) → c (marked closes s) ≡ false) → ((t : Token) → begins t ≡ true → is_mark closes t ≡ false)
    → Good signs limit none (UpTo closes d R) (up_to closes p)
good_listed {limit} {d} {c} {begins = begins} within closes other g starts comma stops apart =
    good_closed {wide = either (is_mark mark.Comma) c} (good_symbol closes within) (starts_mark d closes) (good_symbol mark.Comma within) (starts_mark d mark.Comma) g starts
    (at_mark c false mark.Comma comma) (λ t e. either_first (is_mark mark.Comma) c t e) (λ t e. either_second (is_mark mark.Comma) c t e)
    (at_mark (either (is_mark mark.Comma) c) false closes (λ s. either_none (is_mark mark.Comma) c (marked closes s) other (stops s))) apart

pub plain_listed : {A : Type 0} (d : ℕ) (closes : Mark) → same_mark mark.Minus closes ≡ false → (R : Language Token A) → Plain signs (UpTo closes d R)
plain_listed d closes other R =
    plain_either (plain_mapped (λ c. ([], c)) (plain_terminal (symbol_plain closes other)))
    (plain_last (λ xs. plain_mapped (λ c. (xs, c)) (plain_terminal (symbol_plain closes other))) (λ xs b (c, r, is). (starts_mark d closes).nonempty c r))

-- none at all
pub an_empty_list : {A : Type 0} (d : ℕ) (closes : Mark) (R : Language Token A) → (v : List A × Span) × (row : Row Token) × UpTo closes d R v row
an_empty_list d closes R = let w = a_mark d closes in (([], w.0), w.1, inl (w.0, w.2, refl))
