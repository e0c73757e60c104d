-- The grammar puts no piece beside one into which it runs on: the pieces of a row are those of its text.
use Rattle.std.proofs.Common.{◌≡◌, ℕ, suc, Bool, true, false, not, List, [], ◌∷◌, refl, ap, subst, if◌then◌else◌}
use Rattle.std.specs.Prelude.{◌==◌, ◌&&◌, is_some, nat_eq}
use Rattle.std.proofs.lemmas.Bool.{and_parts}
use Rattle.c_text.specs.Identifiers.{begins_as_identifier}
use Rattle.iv_words.specs.Words.{same_word}
use Rattle.reading.specs.Row.{Row}
use Rattle.grammars.specs.Neighbours.{SideBySide, meetings}
use Rattle.grammars.specs.Spelled.{Spells}
use Rattle.grammars.proofs.Neighbours.{rows_are_parted}
use Rattle.c_grammar.specs.Pieces.{Piece, Word, Blanks, Byte}
use Rattle.c_grammar.specs.Kinds.{lexicon, kind, kind_of, word_kind, blanks_kind, line_blanks, closing_blanks, place_in, keywords_used, is_name, word_scalar, word_number, is_whole, runs_on, is_wordy, is_blanky, parted, other, name_word, number_word, scalar_word, one_blank, indentation, outdentation}
use Rattle.c_grammar.specs.Symbols.{Symbol, an_expression, a_pointer, an_inner, an_inside, arguments, initializers, a_length, forever, a_block, a_body, the_members, the_types, the_params, stop_params, a_unit, Tree}
use Rattle.c_grammar.specs.ExpressionRules.{expression, binary_operator, tail, value_inside}
use Rattle.c_grammar.specs.StatementRules.{value_or_call, simple, statement}
use Rattle.c_grammar.specs.UnitRules.{defined, first_value, static_item, at_stage, fixed_lines}
use Rattle.c_grammar.specs.Subset.{grammar}
use Rattle.c_grammar.proofs.Cut.{Apart}

one_of : (P : ℕ → Type 0) (b : Bool) (x y : ℕ) → P x → P y → P (if b then x else y)
one_of P true x y p q = p
one_of P false x y p q = q

AllWordy : ℕ → List (List ℕ) → Type 0
AllWordy k [] = Unit {0}
AllWordy k (x ∷ xs) = (is_wordy k ≡ true) × AllWordy (suc k) xs

place_wordy : (w : List ℕ) (k : ℕ) (xs : List (List ℕ)) → AllWordy k xs → is_wordy (place_in k xs w) ≡ true
unfolding AllWordy
place_wordy w k [] e = refl
place_wordy w k (x ∷ xs) e = one_of (λ k. is_wordy k ≡ true) (same_word w x) k (place_in (suc k) xs w) e.0 (place_wordy w (suc k) xs e.1)

all_used : AllWordy 1 keywords_used
unfolding AllWordy
all_used = (refl, (refl, (refl, (refl, (refl, (refl, (refl, (refl, (refl, (refl, tt))))))))))

pub wordy : (w : List ℕ) → is_wordy (word_kind w) ≡ true
wordy w =
    let P : ℕ → Type 0 = λ k. is_wordy k ≡ true in
    let used : P (place_in 1 keywords_used w) = place_wordy w 1 keywords_used all_used in
    let letters : P (if is_name w then name_word else (if is_some (word_scalar w) then scalar_word else place_in 1 keywords_used w)) =
    one_of P (is_name w) name_word (if is_some (word_scalar w) then scalar_word else place_in 1 keywords_used w) refl (one_of P (is_some (word_scalar w)) scalar_word (place_in 1 keywords_used w) refl used) in
    one_of P (begins_as_identifier w) (if is_name w then name_word else (if is_some (word_scalar w) then scalar_word else place_in 1 keywords_used w)) (if is_some (word_number w) then number_word else other)
    letters (one_of P (is_some (word_number w)) number_word other refl refl)

pub blanky : (d n : ℕ) → is_blanky (blanks_kind d n) ≡ true
blanky d n =
    let P : ℕ → Type 0 = λ k. is_blanky k ≡ true in
    one_of P (nat_eq n 1) one_blank (if nat_eq n (line_blanks d) then indentation else (if nat_eq n (closing_blanks d) then outdentation else other)) refl
    (one_of P (nat_eq n (line_blanks d)) indentation (if nat_eq n (closing_blanks d) then outdentation else other) refl (one_of P (nat_eq n (closing_blanks d)) outdentation other refl refl))

-- a piece whose kind is not that of none is whole
known : (b : Bool) (k : ℕ) → not ((if b then k else other) == other) ≡ true → b ≡ true
known true k e = refl
known false k e = cc

not_both : (x y : Bool) → x ≡ true → y ≡ true → not (x && y) ≡ true → ⊥
not_both true true a b e = let no : false ≡ true = e in cc
not_both false y a b e = let no : false ≡ true = a in cc
not_both true false a b e = let no : false ≡ true = b in cc

stops : (d e : ℕ) (p q : Piece) → not (is_wordy (kind_of d p) && is_wordy (kind_of e q)) ≡ true → not (is_blanky (kind_of d p) && is_blanky (kind_of e q)) ≡ true → runs_on p q ≡ false
stops d e (Word v) (Word w) words blanks = absurd (not_both (is_wordy (word_kind v)) (is_wordy (word_kind w)) (wordy v) (wordy w) words)
stops d e (Word v) (Blanks n) words blanks = refl
stops d e (Word v) (Byte b) words blanks = refl
stops d e (Blanks m) (Word w) words blanks = refl
stops d e (Blanks m) (Blanks n) words blanks = absurd (not_both (is_blanky (blanks_kind d m)) (is_blanky (blanks_kind e n)) (blanky d m) (blanky e n) blanks)
stops d e (Blanks m) (Byte b) words blanks = refl
stops d e (Byte b) (Word w) words blanks = refl
stops d e (Byte b) (Blanks n) words blanks = refl
stops d e (Byte b) (Byte c) words blanks = refl

kind_known : (d : ℕ) (p : Piece) → is_whole p ≡ true → kind d p ≡ kind_of d p
kind_known d p e = ap (λ b. if b then kind_of d p else other) e

apart : (d e : ℕ) (p q : Piece) → parted (kind d p) (kind e q) ≡ true → Apart p q
apart d e p q h =
    let a = and_parts (not (kind d p == other)) (not (kind e q == other) && (not (is_wordy (kind d p) && is_wordy (kind e q)) && not (is_blanky (kind d p) && is_blanky (kind e q)))) h in
    let b = and_parts (not (kind e q == other)) (not (is_wordy (kind d p) && is_wordy (kind e q)) && not (is_blanky (kind d p) && is_blanky (kind e q))) a.1 in
    let c = and_parts (not (is_wordy (kind d p) && is_wordy (kind e q))) (not (is_blanky (kind d p) && is_blanky (kind e q))) b.1 in
    let one = known (is_whole p) (kind_of d p) a.0 in
    let two = known (is_whole q) (kind_of e q) b.0 in
    let first = kind_known d p one in
    let second = kind_known e q two in
    record {
      one = one;
      two = two;
      stops = stops d e p q (subst (λ k. not (is_wordy k && is_wordy (kind_of e q)) ≡ true) first (subst (λ k. not (is_wordy (kind d p) && is_wordy k) ≡ true) second c.0))
          (subst (λ k. not (is_blanky k && is_blanky (kind_of e q)) ≡ true) first (subst (λ k. not (is_blanky (kind d p) && is_blanky k) ≡ true) second c.1));
    }

none_meet : (n : Symbol) → meetings parted grammar (grammar n) ≡ []
unfolding expression binary_operator tail value_inside value_or_call simple statement defined first_value static_item at_stage fixed_lines
none_meet an_expression = refl
none_meet a_pointer = refl
none_meet an_inner = refl
none_meet an_inside = refl
none_meet arguments = refl
none_meet initializers = refl
none_meet a_length = refl
none_meet forever = refl
none_meet a_block = refl
none_meet a_body = refl
none_meet the_members = refl
none_meet the_types = refl
none_meet the_params = refl
none_meet stop_params = refl
none_meet a_unit = refl

pub rows_are_apart : (d : ℕ) (n : Symbol) (x : Tree n) (row : Row Piece) → Spells lexicon grammar d n x row → SideBySide Apart row
rows_are_apart = rows_are_parted lexicon grammar parted Apart apart none_meet
