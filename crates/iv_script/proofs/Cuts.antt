-- How a text is cut: its first line, the blanks before a word, and its first word.
use Rattle.std.proofs.Common.{◌≡◌, refl, sym, ◌∙◌, ap, ℕ, suc, ◌+◌, ◌-◌, ◌<◌, ◌≤◌, Bool, true, false, List, [], ◌∷◌, length, take, drop, arith}
use Rattle.std.specs.Prelude.{cond, not, nat_lt, Some, None}
use Rattle.std.specs.List.{All, filter, slice_split, onto_first, position, position_or_len}
use Rattle.std.proofs.lemmas.List.Splits.{slice_split-cons_yes, slice_split-cons_no, slice_split_none, slice_split_first}
use Rattle.std.proofs.lemmas.List.Sums.{fails_before_first, prefix_len-le-length}
use Rattle.std.proofs.lemmas.List.{take_all, length-drop, drop_all}
use Rattle.iv_script.specs.ScriptText.{is_line_end, is_blank, lines, has_bytes, words}
use Rattle.iv_script.specs.Cuts.{is_filled}

-- ---- places

at_where : (text : List ℕ) (at e : ℕ) (b : Bool) → nat_lt e (length text) ≡ b → cond b (Some e) None ≡ Some at → (at ≡ e) × (e < length text)
at_where text at e true less is = (cc, grind arith)
at_where text at e false less is = let no : ⊥ = cc in absurd no

none_where : (text : List ℕ) (e : ℕ) (b : Bool) → nat_lt e (length text) ≡ b → cond b (Some e) None ≡ None → length text ≤ e
none_where text e true less is = let no : ⊥ = cc in absurd no
none_where text e false less is = grind arith

found : (p : ℕ → Bool) (text : List ℕ) (at : ℕ) → position p text ≡ Some at → (at ≡ position_or_len p text) × (position_or_len p text < length text)
found p text at is = at_where text at (position_or_len p text) _ refl is

not_found : (p : ℕ → Bool) (text : List ℕ) → position p text ≡ None → All (λ x. p x ≡ false) text
not_found p text is =
    let past = none_where text (position_or_len p text) _ refl is in
    λ k d below. fails_before_first p text k d (omega (arith, past))

pub place_found : (p : ℕ → Bool) (text : List ℕ) (at : ℕ) → position p text ≡ Some at → at ≡ position_or_len p text
place_found p text at is = (found p text at is).0

pub place_past : (p : ℕ → Bool) (text : List ℕ) → position p text ≡ None → length text ≡ position_or_len p text
place_past p text is = let past = none_where text (position_or_len p text) _ refl is in let few = prefix_len-le-length (λ x. not (p x)) text in omega (arith, past, few)

-- ---- one byte more

drop_past : (n b : ℕ) (bs : List ℕ) → drop (1 + n) (b ∷ bs) ≡ drop n bs
drop_past n b bs = let one : 1 + n ≡ suc n = omega arith in ap (λ m. drop m (b ∷ bs)) one

take_past : (n b : ℕ) (bs : List ℕ) → take (1 + n) (b ∷ bs) ≡ b ∷ take n bs
take_past n b bs = let one : 1 + n ≡ suc n = omega arith in ap (λ m. take m (b ∷ bs)) one

-- ---- lines

pub line_cut : (text : List ℕ) (at : ℕ) → position is_line_end text ≡ Some at → lines text ≡ take at text ∷ lines (take (length text - (at + 1)) (drop (at + 1) text))
line_cut text at is =
    let place = found is_line_end text at is in
    let all : take (length text - (at + 1)) (drop (at + 1) text) ≡ drop (at + 1) text = take_all (length text - (at + 1)) (drop (at + 1) text) (omega (arith, length-drop (at + 1) text)) in
    slice_split_first is_line_end text 0 place.1 ∙ ap (λ n. take n text ∷ lines (drop (n + 1) text)) (sym place.0) ∙ ap (λ rest. take at text ∷ lines rest) (sym all)

pub line_whole : (text : List ℕ) → position is_line_end text ≡ None → lines text ≡ text ∷ []
line_whole text is = slice_split_none is_line_end text (not_found is_line_end text is)

-- ---- blanks

blank_skipped : (b : ℕ) (bs : List ℕ) → is_blank b ≡ true → words (b ∷ bs) ≡ words bs
blank_skipped b bs is = ap (filter has_bytes) (slice_split-cons_yes is_blank b bs is)

skipped_one : (b : ℕ) (bs : List ℕ) (blank : Bool) (n : ℕ) → is_blank b ≡ blank → words (drop n bs) ≡ words bs
    → words (drop (cond (not (not blank)) (1 + n) 0) (b ∷ bs)) ≡ words (b ∷ bs)
skipped_one b bs true n is more = ap words (drop_past n b bs) ∙ more ∙ sym (blank_skipped b bs is)
skipped_one b bs false n is more = refl

blanks_skipped : (line : List ℕ) → words (drop (position_or_len is_filled line) line) ≡ words line
blanks_skipped [] = refl
blanks_skipped (b ∷ bs) = skipped_one b bs (is_blank b) (position_or_len is_filled bs) refl (blanks_skipped bs)

filled_one : (b : ℕ) (bs : List ℕ) (blank : Bool) (n : ℕ) (x : ℕ) (xs : List ℕ) → is_blank b ≡ blank → (drop n bs ≡ x ∷ xs → is_blank x ≡ false)
    → drop (cond (not (not blank)) (1 + n) 0) (b ∷ bs) ≡ x ∷ xs → is_blank x ≡ false
filled_one b bs true n x xs is more at = more (sym (drop_past n b bs) ∙ at)
filled_one b bs false n x xs is more at = let same : x ≡ b = cc in ap is_blank same ∙ is

first_filled : (line : List ℕ) (x : ℕ) (xs : List ℕ) → drop (position_or_len is_filled line) line ≡ x ∷ xs → is_blank x ≡ false
first_filled [] x xs at = let no : ⊥ = cc in absurd no
first_filled (b ∷ bs) x xs at = filled_one b bs (is_blank b) (position_or_len is_filled bs) x xs refl (first_filled bs x xs) at

-- ---- the first word

-- the parts behind the first, from its blank on
abbrev parts_behind : List ℕ → List (List ℕ)
parts_behind [] = []
parts_behind (b ∷ bs) = slice_split is_blank bs

parts_one : (b : ℕ) (bs : List ℕ) (blank : Bool) (n : ℕ) → is_blank b ≡ blank → slice_split is_blank bs ≡ take n bs ∷ parts_behind (drop n bs)
    → slice_split is_blank (b ∷ bs) ≡ take (cond (not blank) (1 + n) 0) (b ∷ bs) ∷ parts_behind (drop (cond (not blank) (1 + n) 0) (b ∷ bs))
parts_one b bs true n is more = slice_split-cons_yes is_blank b bs is
parts_one b bs false n is more =
    slice_split-cons_no is_blank b bs is ∙ ap (onto_first b) more
    ∙ ap (λ front. front ∷ parts_behind (drop n bs)) (sym (take_past n b bs)) ∙ ap (λ rest. take (1 + n) (b ∷ bs) ∷ parts_behind rest) (sym (drop_past n b bs))

first_part : (line : List ℕ) → slice_split is_blank line ≡ take (position_or_len is_blank line) line ∷ parts_behind (drop (position_or_len is_blank line) line)
first_part [] = refl
first_part (b ∷ bs) = parts_one b bs (is_blank b) (position_or_len is_blank bs) refl (first_part bs)

behind_one : (b : ℕ) (bs : List ℕ) (blank : Bool) (n : ℕ) → is_blank b ≡ blank → filter has_bytes (parts_behind (drop n bs)) ≡ words (drop n bs)
    → filter has_bytes (parts_behind (drop (cond (not blank) (1 + n) 0) (b ∷ bs))) ≡ words (drop (cond (not blank) (1 + n) 0) (b ∷ bs))
behind_one b bs true n is more = sym (blank_skipped b bs is)
behind_one b bs false n is more = ap (λ rest. filter has_bytes (parts_behind rest)) (drop_past n b bs) ∙ more ∙ ap words (sym (drop_past n b bs))

words_behind : (line : List ℕ) → filter has_bytes (parts_behind (drop (position_or_len is_blank line) line)) ≡ words (drop (position_or_len is_blank line) line)
words_behind [] = refl
words_behind (b ∷ bs) = behind_one b bs (is_blank b) (position_or_len is_blank bs) refl (words_behind bs)

begun : (b : ℕ) (bs : List ℕ) → is_blank b ≡ false → position_or_len is_blank (b ∷ bs) ≡ suc (position_or_len is_blank bs)
begun b bs is = ap (λ blank. cond (not blank) (1 + position_or_len is_blank bs) 0) is ∙ omega arith

word_first : (b : ℕ) (bs : List ℕ) → is_blank b ≡ false
    → words (b ∷ bs) ≡ take (position_or_len is_blank (b ∷ bs)) (b ∷ bs) ∷ words (drop (position_or_len is_blank (b ∷ bs)) (b ∷ bs))
word_first b bs is =
    let n = position_or_len is_blank bs in
    let cut : slice_split is_blank (b ∷ bs) ≡ (b ∷ take n bs) ∷ parts_behind (drop n bs) = slice_split-cons_no is_blank b bs is ∙ ap (onto_first b) (first_part bs) in
    let parts : words (b ∷ bs) ≡ (b ∷ take n bs) ∷ words (drop n bs) = ap (filter has_bytes) cut ∙ ap (λ ws. (b ∷ take n bs) ∷ ws) (words_behind bs) in
    parts ∙ ap (λ e. take e (b ∷ bs) ∷ words (drop e (b ∷ bs))) (sym (begun b bs is))

-- a line whose bytes are all blanks
pub no_word : (line : List ℕ) → position is_filled line ≡ None → words line ≡ []
no_word line is =
    let past = none_where line (position_or_len is_filled line) _ refl is in
    sym (blanks_skipped line) ∙ ap words (drop_all (position_or_len is_filled line) line past)

-- the rest of a line from its first word on
pub record StartsWord (line front back : List ℕ) : Type 0 where
  pub cut : words line ≡ front ∷ words back
  pub shorter : length back < length line

word_at : (line rest : List ℕ) → rest ≡ drop (position_or_len is_filled line) line → 0 < length rest
    → (words line ≡ take (position_or_len is_blank rest) rest ∷ words (drop (position_or_len is_blank rest) rest)) × (0 < position_or_len is_blank rest)
word_at line [] is some = absurd (omega arith)
word_at line (b ∷ bs) is some =
    let filled = first_filled line b bs (sym is) in
    (sym (blanks_skipped line) ∙ ap words (sym is) ∙ word_first b bs filled, let one = begun b bs filled in omega (arith, one))

pub next : (line rest front back : List ℕ) (start : ℕ) → position is_filled line ≡ Some start → rest ≡ drop start line
    → front ≡ take (position_or_len is_blank rest) rest → back ≡ drop (position_or_len is_blank rest) rest → StartsWord line front back
next line rest front back start is begins ends behind =
    let place = found is_filled line start is in
    let from : rest ≡ drop (position_or_len is_filled line) line = begins ∙ ap (λ n. drop n line) place.0 in
    let size : length rest ≡ length line - start = ap length begins ∙ length-drop start line in
    let word = word_at line rest from (omega (arith, size, place.0, place.1)) in
    record {
      cut = word.0 ∙ ap (λ w. w ∷ words (drop (position_or_len is_blank rest) rest)) (sym ends) ∙ ap (λ r. front ∷ words r) (sym behind);
      shorter = let left : length back ≡ length rest - position_or_len is_blank rest = ap length behind ∙ length-drop (position_or_len is_blank rest) rest in omega (arith, left, size, word.1, place.0, place.1);
    }
