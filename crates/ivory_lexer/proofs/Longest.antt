-- What the first bytes say of the longest piece is so.
use Rattle.std.proofs.Common.{◌≡◌, ℕ, ◌+◌, ◌≤◌, ◌<◌, ◌&&◌, ◌==◌, Bool, true, false, nat_le, List, [], ◌∷◌, ◌++◌, length, take, drop, Option, Some, None, cond, refl, sym, ap, ◌∙◌, subst, arith, length-append}
use Rattle.std.specs.Prelude.{option_map, unwrap_or, is_none, IfSome}
use Rattle.std.specs.List.{prefix_len, list_all}
use Rattle.std.specs.Char.{is_ascii_digit, is_ascii_hexdigit}
use Rattle.std.proofs.lemmas.Bool.{eqb-true, eqb-false, lt-leb, ne_eqb, eq-eqb, and_right}
use Rattle.ivory_lexer.specs.Table.{piece_of, is_white, is_run, is_after, is_at, is_in_line, is_in_name, begins_name, first_close, look_up}
use Rattle.ivory_lexer.specs.Scanning.{scan, scan_hex, scan_decimal, scan_comment, scan_block, scan_symbol, one_symbol, two_symbols, or_else, hex_digits, number_piece, of_length}
use Rattle.ivory_lexer.specs.Words.{symbols}
use Rattle.ivory_lexer.specs.declared.mark.Mark.{Mark}
use Rattle.ivory_lexer.specs.declared.piece.Piece.{Piece}
use Rattle.ivory_lexer.specs.declared.piece.Piece.TheVariants as piece
use Rattle.ivory_lexer.proofs.Classes.{name_class, white_class, digit_class, symbol_class, line_class, block_class, hex_class, is_hexadecimal, number}
use Rattle.ivory_lexer.proofs.Comments.{close_in_front, close_within}
use Rattle.ivory_lexer.proofs.Fronts.{Best, Found, past, parts, take_past, taken_length, run_best}
use Rattle.ivory_lexer.proofs.Tables.{look_up_none, look_up_of_length}

name_best : (b : ℕ) (bs : List ℕ) → begins_name b ≡ true → Best (b ∷ bs) (prefix_len is_in_name bs + 1) piece.Name
name_best b bs h = run_best is_in_name (λ cs. piece.Name) (b ∷ []) bs (omega arith) (λ cs r e long. name_class b h cs)

white_best : (b : ℕ) (bs : List ℕ) → is_white b ≡ true → Best (b ∷ bs) (prefix_len is_white bs + 1) piece.Dropped
white_best b bs h = run_best is_white (λ cs. piece.Dropped) (b ∷ []) bs (omega arith) (λ cs r e long. white_class b h cs)

-- ---- numbers

decimal_best : (b : ℕ) (bs : List ℕ) → is_ascii_digit b ≡ true → ((cs r : List ℕ) → bs ≡ cs ++ r → is_hexadecimal (b ∷ cs) ≡ false) → Best (b ∷ bs) (prefix_len is_ascii_digit (b ∷ bs)) (number_piece 10 (take (prefix_len is_ascii_digit (b ∷ bs)) (b ∷ bs)))
decimal_best b bs h no_hex =
    let n = prefix_len is_ascii_digit bs in
    let whole : prefix_len is_ascii_digit (b ∷ bs) ≡ n + 1 = ap (λ t. cond t (1 + n) 0) h ∙ omega arith in
    subst (λ k. Best (b ∷ bs) k (number_piece 10 (take k (b ∷ bs)))) (sym whole)
    (subst (λ ds. Best (b ∷ bs) (n + 1) (number_piece 10 ds)) (sym (take_past (b ∷ []) bs n))
    (run_best is_ascii_digit (λ cs. number_piece 10 (b ∷ cs)) (b ∷ []) bs (omega arith) (λ cs r e long.
    digit_class b h cs ∙ ap (λ t. cond (list_all is_ascii_digit cs) (number 10 (b ∷ cs)) (cond t (number 16 (drop 2 (b ∷ cs))) None)) (no_hex cs r e))))

run_of : (p : ℕ → Bool) (cs : List ℕ) → 0 < length cs → is_run p cs ≡ list_all p cs
run_of p [] h = absurd (omega arith)
run_of p (c ∷ cs) h = refl

hex_best : (bs : List ℕ) → 0 < prefix_len is_ascii_hexdigit bs → Best (48 ∷ 120 ∷ bs) (prefix_len is_ascii_hexdigit bs + 2) (number_piece 16 (take (prefix_len is_ascii_hexdigit bs) bs))
hex_best bs some =
    run_best is_ascii_hexdigit (λ cs. number_piece 16 cs) (48 ∷ 120 ∷ []) bs (omega arith) (λ cs r e long.
    hex_class cs ∙ ap (λ t. cond t (number 16 cs) None) (run_of is_ascii_hexdigit cs (omega arith)))

-- ---- comments

line_best : (bs : List ℕ) → Best (45 ∷ 45 ∷ bs) (prefix_len is_in_line bs + 2) piece.Dropped
line_best bs = run_best is_in_line (λ cs. piece.Dropped) (45 ∷ 45 ∷ []) bs (omega arith) (λ cs r e long. line_class cs)

-- a block comment by where it closes
block_at : (cs : List ℕ) (o : Option ℕ) → first_close cs ≡ o → piece_of (47 ∷ 42 ∷ cs) ≡ cond (is_at o (length cs)) (Some piece.Dropped) (cond (is_none o) (Some piece.OpenComment) None)
block_at cs o h = block_class cs ∙ ap (λ x. cond (is_at x (length cs)) (Some piece.Dropped) (cond (is_none x) (Some piece.OpenComment) None)) h

closed_best : (bs : List ℕ) (n : ℕ) → first_close bs ≡ Some n → Best (47 ∷ 42 ∷ bs) (n + 2) piece.Dropped
closed_best bs n h =
    let fits : n ≤ length bs = close_within bs n h in
    let size = taken_length n bs fits in
    let here : first_close (take n bs) ≡ Some n = close_in_front (take n bs) (drop n bs) n (ap first_close (sym (parts n bs)) ∙ h) (omega (arith, size)) in
    record {
      some = omega arith;
      within = omega (arith, fits);
      is = ap piece_of (take_past (47 ∷ 42 ∷ []) bs n) ∙ block_at (take n bs) (Some n) here ∙ ap (λ t. cond t (Some piece.Dropped) None) (eq-eqb n (length (take n bs)) (sym size));
      most = λ f r e long.
          let w = past (47 ∷ 42 ∷ []) bs f r e (omega arith) in
          let few : n < length w.0 = omega (arith, ap length w.1) in
          let there : first_close w.0 ≡ Some n = close_in_front w.0 r n (ap first_close (sym w.2) ∙ h) (omega (arith, few)) in
          ap piece_of w.1 ∙ block_at w.0 (Some n) there ∙ ap (λ t. cond t (Some piece.Dropped) None) (ne_eqb n (length w.0) (λ same. omega (arith, few, same)));
    }

take_whole : (xs : List ℕ) → take (length xs) xs ≡ xs
take_whole [] = refl
take_whole (x ∷ xs) = ap (λ ys. x ∷ ys) (take_whole xs)

open_best : (bs : List ℕ) → first_close bs ≡ None → Best (47 ∷ 42 ∷ bs) (length bs + 2) piece.OpenComment
open_best bs h = record {
  some = omega arith;
  within = omega arith;
  is = ap piece_of (take_past (47 ∷ 42 ∷ []) bs (length bs) ∙ ap (λ cs. 47 ∷ 42 ∷ cs) (take_whole bs)) ∙ block_at bs None h;
  most = λ f r e long. absurd (omega (arith, ap length e, length-append f r));
}

block_found : (bs : List ℕ) (o : Option ℕ) → first_close bs ≡ o → Found (47 ∷ 42 ∷ bs) (Some (scan_block bs o))
block_found bs (Some n) h = closed_best bs n h
block_found bs None h = open_best bs h

-- ---- symbols

no_piece_empty : piece_of [] ≡ None
no_piece_empty = refl

two_at_most : (b c d : ℕ) (cs : List ℕ) → look_up symbols (b ∷ c ∷ d ∷ cs) ≡ None
two_at_most b c d cs = look_up_none (λ row. nat_le (length row) 2) symbols (b ∷ c ∷ d ∷ cs) refl (lt-leb (length (b ∷ c ∷ d ∷ cs)) 2 (omega arith))

-- fronts of b ∷ bs are symbols or nothing
abbrev pub Symbols : ℕ → List ℕ → Type 0
Symbols b bs = (cs r : List ℕ) → bs ≡ cs ++ r → piece_of (b ∷ cs) ≡ option_map piece.Mark (look_up symbols (b ∷ cs))

module _ (b : ℕ) where
  -- the fronts of more bytes are no symbols
  Short : List ℕ → Type 0
  Short bs = (f r : List ℕ) → b ∷ bs ≡ f ++ r → 1 < length f → piece_of f ≡ None

  one_found : (bs : List ℕ) (o : Option Mark) → look_up symbols (b ∷ []) ≡ o → Symbols b bs → Short bs → Found (b ∷ bs) (one_symbol o)
  unfolding Short
  one_found bs (Some mark) h each short = record { some = omega arith; within = omega arith; is = each [] bs refl ∙ ap (option_map piece.Mark) h; most = short }
  one_found bs None h each short = λ f r e. all f r e
    where
      all : (f r : List ℕ) → b ∷ bs ≡ f ++ r → piece_of f ≡ None
      all [] r e = no_piece_empty
      all (x ∷ []) r e = let same : b ≡ x = cc in ap (λ y. piece_of (y ∷ [])) (sym same) ∙ each [] bs refl ∙ ap (option_map piece.Mark) h
      all (x ∷ y ∷ f) r e = short (x ∷ y ∷ f) r e (omega arith)

  two_found : (c : ℕ) (bs : List ℕ) (o : Option Mark) → look_up symbols (b ∷ c ∷ []) ≡ o → Symbols b (c ∷ bs) → Found (b ∷ c ∷ bs) (two_symbols o (one_symbol (look_up symbols (b ∷ []))))
  unfolding Short
  two_found c bs (Some mark) h each = record {
    some = omega arith;
    within = omega arith;
    is = each (c ∷ []) bs refl ∙ ap (option_map piece.Mark) h;
    most = λ f r e long.
        let w = past (b ∷ c ∷ []) bs f r e (omega arith) in
        ap piece_of w.1 ∙ longer w.0 r w.2 (omega (arith, ap length w.1));
  }
    where
      longer : (cs r : List ℕ) → bs ≡ cs ++ r → 0 < length cs → piece_of (b ∷ c ∷ cs) ≡ None
      longer [] r e some = absurd (omega arith)
      longer (d ∷ cs) r e some = each (c ∷ d ∷ cs) r (ap (λ ys. c ∷ ys) e) ∙ ap (option_map piece.Mark) (two_at_most b c d cs)
  two_found c bs None h each = one_found (c ∷ bs) (look_up symbols (b ∷ [])) refl each (λ f r e long.
      let w = past (b ∷ c ∷ []) bs f r e (omega arith) in
      ap piece_of w.1 ∙ none w.0 r w.2)
    where
      none : (cs r : List ℕ) → bs ≡ cs ++ r → piece_of (b ∷ c ∷ cs) ≡ None
      none [] r e = each (c ∷ []) bs refl ∙ ap (option_map piece.Mark) h
      none (d ∷ cs) r e = each (c ∷ d ∷ cs) r (ap (λ ys. c ∷ ys) e) ∙ ap (option_map piece.Mark) (two_at_most b c d cs)

  symbol_found : (bs : List ℕ) → Symbols b bs → Found (b ∷ bs) (scan_symbol (b ∷ bs))
  unfolding Short
  symbol_found [] each =
      subst (λ o. Found (b ∷ []) (one_symbol o)) (sym (look_up_of_length symbols (b ∷ []) 1 refl))
      (one_found [] (look_up symbols (b ∷ [])) refl each (λ f r e long. absurd (omega (arith, ap length e, length-append f r))))
  symbol_found (c ∷ bs) each =
      subst (λ o. Found (b ∷ c ∷ bs) (two_symbols (look_up (of_length 2 symbols) (b ∷ c ∷ [])) (one_symbol o))) (sym (look_up_of_length symbols (b ∷ []) 1 refl))
      (subst (λ o. Found (b ∷ c ∷ bs) (two_symbols o (one_symbol (look_up symbols (b ∷ []))))) (sym (look_up_of_length symbols (b ∷ c ∷ []) 2 refl))
      (two_found c bs (look_up symbols (b ∷ c ∷ [])) refl each))

-- ---- the first two bytes

both : (s t : Bool) → (s && t) ≡ true → (s ≡ true) × (t ≡ true)
both true t h = (refl, h)
both false t h = absurd cc

not_both : (s t u : Bool) → (s && t) ≡ false → (s && (t && u)) ≡ false
not_both true true u h = absurd cc
not_both true false u h = refl
not_both false t u h = refl

-- no front of a text that begins otherwise has these two bytes before it
no_prefix : (a d b c : ℕ) → (a == b && d == c) ≡ false → (p : List ℕ → Bool) (bs cs r : List ℕ) → c ∷ bs ≡ cs ++ r → is_after (a ∷ d ∷ []) p (b ∷ cs) ≡ false
no_prefix a d b c h p bs [] r e = and_right (a == b) false refl
no_prefix a d b c h p bs (x ∷ cs) r e = let same : c ≡ x = cc in not_both (a == b) (d == x) (p cs) (ap (λ y. a == b && d == y) (sym same) ∙ h)

no_prefix_alone : (a d b : ℕ) (p : List ℕ → Bool) (cs r : List ℕ) → [] ≡ cs ++ r → is_after (a ∷ d ∷ []) p (b ∷ cs) ≡ false
no_prefix_alone a d b p [] r e = and_right (a == b) false refl
no_prefix_alone a d b p (x ∷ cs) r e = absurd cc

-- a `0x` with no hexadecimal digit after it
no_digits : (bs : List ℕ) → prefix_len is_ascii_hexdigit bs ≡ 0 → (cs r : List ℕ) → 120 ∷ bs ≡ cs ++ r → is_hexadecimal (48 ∷ cs) ≡ false
no_digits bs h [] r e = refl
no_digits bs h (x ∷ []) r e = and_right (120 == x) false refl
no_digits [] h (x ∷ d ∷ cs) r e = absurd (omega (arith, ap length e))
no_digits (y ∷ bs) h (x ∷ d ∷ cs) r e = let same : y ≡ d = cc in and_right (120 == x) _ (ap (λ t. t && list_all is_ascii_hexdigit cs) (ap is_ascii_hexdigit (sym same) ∙ no_first (is_ascii_hexdigit y) h))
  where
    no_first : (t : Bool) → cond t (1 + prefix_len is_ascii_hexdigit bs) 0 ≡ 0 → t ≡ false
    no_first true e = absurd (omega (arith, e))
    no_first false e = refl

-- ---- every text

module _ (b : ℕ) where
  number_found : is_ascii_digit b ≡ true → (bs : List ℕ) → Found (b ∷ bs) (Some (unwrap_or (scan_hex (b ∷ bs)) (scan_decimal (b ∷ bs))))
  number_found h [] = decimal_best b [] h (λ cs r e. no_prefix_alone 48 120 b (is_run is_ascii_hexdigit) cs r e)
  number_found h (c ∷ bs) = at (48 == b && 120 == c) refl
    where
      with_digits : 48 ≡ b → 120 ≡ c → (t : Bool) → (prefix_len is_ascii_hexdigit bs == 0) ≡ t
          → Found (b ∷ c ∷ bs) (Some (unwrap_or (cond t None (Some (number_piece 16 (take (prefix_len is_ascii_hexdigit bs) bs), prefix_len is_ascii_hexdigit bs + 2))) (scan_decimal (b ∷ c ∷ bs))))
      with_digits zero_ x true none = decimal_best b (c ∷ bs) h (λ cs r e.
          ap (λ y. is_hexadecimal (y ∷ cs)) (sym zero_) ∙ no_digits bs (eqb-true (prefix_len is_ascii_hexdigit bs) 0 none) cs r (ap (λ y. y ∷ bs) x ∙ e))
      with_digits zero_ x false some =
          let found = hex_best bs (omega (arith, eqb-false (prefix_len is_ascii_hexdigit bs) 0 some)) in
          subst (λ y. Best (b ∷ y ∷ bs) (prefix_len is_ascii_hexdigit bs + 2) (number_piece 16 (take (prefix_len is_ascii_hexdigit bs) bs))) x
          (subst (λ y. Best (y ∷ 120 ∷ bs) (prefix_len is_ascii_hexdigit bs + 2) (number_piece 16 (take (prefix_len is_ascii_hexdigit bs) bs))) zero_ found)

      at : (t : Bool) → (48 == b && 120 == c) ≡ t → Found (b ∷ c ∷ bs) (Some (unwrap_or (cond t (hex_digits bs (prefix_len is_ascii_hexdigit bs)) None) (scan_decimal (b ∷ c ∷ bs))))
      at true e = let w = both (48 == b) (120 == c) e in with_digits (eqb-true 48 b w.0) (eqb-true 120 c w.1) (prefix_len is_ascii_hexdigit bs == 0) refl
      at false e = decimal_best b (c ∷ bs) h (λ cs r is. no_prefix 48 120 b c e (is_run is_ascii_hexdigit) bs cs r is)

  other_found : begins_name b ≡ false → is_white b ≡ false → is_ascii_digit b ≡ false → (bs : List ℕ) → Found (b ∷ bs) (or_else (scan_comment (b ∷ bs)) (scan_symbol (b ∷ bs)))
  other_found n w d [] = symbol_found b [] (λ cs r e. symbol_class b n w d cs (λ p. no_prefix_alone 45 45 b p cs r e) (λ p. no_prefix_alone 47 42 b p cs r e))
  other_found n w d (c ∷ bs) = lines (45 == b && 45 == c) refl
    where
      blocks : (45 == b && 45 == c) ≡ false → (t : Bool) → (47 == b && 42 == c) ≡ t → Found (b ∷ c ∷ bs) (or_else (cond t (Some (scan_block bs (first_close bs))) None) (scan_symbol (b ∷ c ∷ bs)))
      blocks no_line true e =
          let v = both (47 == b) (42 == c) e in
          subst (λ y. Found (b ∷ y ∷ bs) (Some (scan_block bs (first_close bs)))) (eqb-true 42 c v.1)
          (subst (λ y. Found (y ∷ 42 ∷ bs) (Some (scan_block bs (first_close bs)))) (eqb-true 47 b v.0) (block_found bs (first_close bs) refl))
      blocks no_line false e = symbol_found b (c ∷ bs) (λ cs r is. symbol_class b n w d cs (λ p. no_prefix 45 45 b c no_line p bs cs r is) (λ p. no_prefix 47 42 b c e p bs cs r is))

      lines : (t : Bool) → (45 == b && 45 == c) ≡ t
          → Found (b ∷ c ∷ bs) (or_else (cond t (Some (piece.Dropped, prefix_len is_in_line bs + 2)) (cond (47 == b && 42 == c) (Some (scan_block bs (first_close bs))) None)) (scan_symbol (b ∷ c ∷ bs)))
      lines true e =
          let v = both (45 == b) (45 == c) e in
          subst (λ y. Best (b ∷ y ∷ bs) (prefix_len is_in_line bs + 2) piece.Dropped) (eqb-true 45 c v.1)
          (subst (λ y. Best (y ∷ 45 ∷ bs) (prefix_len is_in_line bs + 2) piece.Dropped) (eqb-true 45 b v.0) (line_best bs))
      lines false e = blocks e (47 == b && 42 == c) refl

pub scan_found : (text : List ℕ) → Found text (scan text)
scan_found [] = λ f r e. empty f r e
  where
    empty : (f r : List ℕ) → [] ≡ f ++ r → piece_of f ≡ None
    empty [] r e = no_piece_empty
    empty (x ∷ f) r e = absurd cc
scan_found (b ∷ bs) = names (begins_name b) refl
  where
    digits : begins_name b ≡ false → is_white b ≡ false → (t : Bool) → is_ascii_digit b ≡ t
        → Found (b ∷ bs) (cond t (Some (unwrap_or (scan_hex (b ∷ bs)) (scan_decimal (b ∷ bs)))) (or_else (scan_comment (b ∷ bs)) (scan_symbol (b ∷ bs))))
    digits n w true d = number_found b d bs
    digits n w false d = other_found b n w d bs

    whites : begins_name b ≡ false → (t : Bool) → is_white b ≡ t
        → Found (b ∷ bs) (cond t (Some (piece.Dropped, prefix_len is_white bs + 1)) (cond (is_ascii_digit b) (Some (unwrap_or (scan_hex (b ∷ bs)) (scan_decimal (b ∷ bs)))) (or_else (scan_comment (b ∷ bs)) (scan_symbol (b ∷ bs)))))
    whites n true w = white_best b bs w
    whites n false w = digits n w (is_ascii_digit b) refl

    names : (t : Bool) → begins_name b ≡ t
        → Found (b ∷ bs) (cond t (Some (piece.Name, prefix_len is_in_name bs + 1)) (cond (is_white b) (Some (piece.Dropped, prefix_len is_white bs + 1)) (cond (is_ascii_digit b) (Some (unwrap_or (scan_hex (b ∷ bs)) (scan_decimal (b ∷ bs)))) (or_else (scan_comment (b ∷ bs)) (scan_symbol (b ∷ bs))))))
    names true n = name_best b bs n
    names false n = whites n (is_white b) refl

pub scan_within : (text : List ℕ) (r : Option (Piece × ℕ)) → r ≡ scan text → IfSome r (λ w. w.1 ≤ length text)
scan_within text r e = subst (λ x. IfSome x (λ w. w.1 ≤ length text)) (sym e) (at (scan text) (scan_found text))
  where
    at : (o : Option (Piece × ℕ)) → Found text o → IfSome o (λ w. w.1 ≤ length text)
    at None f = tt
    at (Some w) b = b.within
