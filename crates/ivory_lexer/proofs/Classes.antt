-- What the first bytes of a piece leave of the table.
use Rattle.std.proofs.Common.{◌≡◌, ℕ, ◌&&◌, ◌==◌, Bool, true, false, not, List, [], ◌∷◌, drop, Option, Some, None, cond, refl, ap, ◌∙◌, arith}
use Rattle.std.specs.Prelude.{option_map, codes}
use Rattle.std.specs.List.{list_all}
use Rattle.std.specs.Char.{is_ascii_digit, is_ascii_hexdigit}
use Rattle.std.specs.Str.Parse.{digits_value}
use Rattle.std.proofs.lemmas.Bool.Decides.{nat_tests}
use Rattle.ivory_lexer.specs.Table.{piece_of, is_name, is_white, is_run, is_after, is_in_line, is_in_name, is_closed, is_open, begins_name, in_range, look_up}
use Rattle.ivory_lexer.specs.Words.{symbols}
use Rattle.ivory_lexer.specs.declared.mark.Mark.{Mark}
use Rattle.ivory_lexer.specs.declared.piece.Piece.{Piece}
use Rattle.ivory_lexer.specs.declared.piece.Piece.TheVariants as piece
use Rattle.ivory_lexer.proofs.Tables.{look_up_none}

abbrev pub is_line_comment : List ℕ → Bool
is_line_comment bs = is_after (codes "--") (list_all is_in_line) bs

abbrev pub is_block_comment : List ℕ → Bool
is_block_comment bs = is_after (codes "/*") is_closed bs

abbrev pub is_open_comment : List ℕ → Bool
is_open_comment bs = is_after (codes "/*") is_open bs

abbrev pub is_hexadecimal : List ℕ → Bool
is_hexadecimal bs = is_after (codes "0x") (is_run is_ascii_hexdigit) bs

abbrev pub number : ℕ → List ℕ → Option Piece
number radix bs = Some (piece.Number (in_range (digits_value radix bs)))

-- the table by what its tests say
abbrev pub chosen : Bool → Bool → Bool → Bool → Bool → Bool → Bool → Option Mark → Option ℕ → Option ℕ → Option Piece
chosen name white line closed open_ decimal hex mark ten sixteen =
    cond name (Some piece.Name)
    (cond white (Some piece.Dropped)
    (cond line (Some piece.Dropped)
    (cond closed (Some piece.Dropped)
    (cond open_ (Some piece.OpenComment)
    (cond decimal (Some (piece.Number ten))
    (cond hex (Some (piece.Number sixteen))
    (option_map piece.Mark mark)))))))

-- ---- where only some of the tests can pass

only_name : (name white line closed open_ decimal hex : Bool) (mark : Option Mark) (ten sixteen : Option ℕ) → white ≡ false → line ≡ false → closed ≡ false → open_ ≡ false → decimal ≡ false → hex ≡ false → mark ≡ None
    → chosen name white line closed open_ decimal hex mark ten sixteen ≡ cond name (Some piece.Name) None
only_name name white line closed open_ decimal hex mark ten sixteen w l c o d x m = simp (w, l, c, o, d, x, m) refl

only_white : (name white line closed open_ decimal hex : Bool) (mark : Option Mark) (ten sixteen : Option ℕ) → name ≡ false → line ≡ false → closed ≡ false → open_ ≡ false → decimal ≡ false → hex ≡ false → mark ≡ None
    → chosen name white line closed open_ decimal hex mark ten sixteen ≡ cond white (Some piece.Dropped) None
only_white name white line closed open_ decimal hex mark ten sixteen n l c o d x m = simp (n, l, c, o, d, x, m) refl

only_number : (name white line closed open_ decimal hex : Bool) (mark : Option Mark) (ten sixteen : Option ℕ) → name ≡ false → white ≡ false → line ≡ false → closed ≡ false → open_ ≡ false → mark ≡ None
    → chosen name white line closed open_ decimal hex mark ten sixteen ≡ cond decimal (Some (piece.Number ten)) (cond hex (Some (piece.Number sixteen)) None)
only_number name white line closed open_ decimal hex mark ten sixteen n w l c o m = simp (n, w, l, c, o, m) refl

only_symbol : (name white line closed open_ decimal hex : Bool) (mark : Option Mark) (ten sixteen : Option ℕ) → name ≡ false → white ≡ false → line ≡ false → closed ≡ false → open_ ≡ false → decimal ≡ false → hex ≡ false
    → chosen name white line closed open_ decimal hex mark ten sixteen ≡ option_map piece.Mark mark
only_symbol name white line closed open_ decimal hex mark ten sixteen n w l c o d x = simp (n, w, l, c, o, d, x) refl

-- ---- what a first byte rules out

abbrev pub first_fails : (ℕ → Bool) → List ℕ → Bool
first_fails p [] = true
first_fails p (b ∷ bs) = not (p b)

no_symbol : (p : ℕ → Bool) (b : ℕ) → p b ≡ true → list_all (λ row. first_fails p row.0) symbols ≡ true → (cs : List ℕ) → look_up symbols (b ∷ cs) ≡ None
no_symbol p b h each cs = look_up_none (first_fails p) symbols (b ∷ cs) each (ap not h)

not_run : (p q : ℕ → Bool) (b : ℕ) (cs : List ℕ) → p b ≡ false → (p b && list_all q cs) ≡ false
not_run p q b cs h = ap (λ t. t && list_all q cs) h

not_after : (a b : ℕ) (first cs : List ℕ) (p : List ℕ → Bool) → a == b ≡ false → is_after (a ∷ first) p (b ∷ cs) ≡ false
not_after a b first cs p h = ap (λ t. t && is_after first p cs) h

module _ (b : ℕ) where
  pub name_class : begins_name b ≡ true → (cs : List ℕ) → piece_of (b ∷ cs) ≡ cond (list_all is_in_name cs) (Some piece.Name) None
  name_class h cs =
      only_name (is_name (b ∷ cs)) (is_run is_white (b ∷ cs)) (is_line_comment (b ∷ cs)) (is_block_comment (b ∷ cs)) (is_open_comment (b ∷ cs)) (is_run is_ascii_digit (b ∷ cs)) (is_hexadecimal (b ∷ cs)) (look_up symbols (b ∷ cs)) (in_range (digits_value 10 (b ∷ cs))) (in_range (digits_value 16 (drop 2 (b ∷ cs))))
      (not_run is_white is_white b cs (grind (arith, nat_tests)))
      (not_after 45 b (codes "-") cs (list_all is_in_line) (grind (arith, nat_tests)))
      (not_after 47 b (codes "*") cs is_closed (grind (arith, nat_tests)))
      (not_after 47 b (codes "*") cs is_open (grind (arith, nat_tests)))
      (not_run is_ascii_digit is_ascii_digit b cs (grind (arith, nat_tests)))
      (not_after 48 b (codes "x") cs (is_run is_ascii_hexdigit) (grind (arith, nat_tests)))
      (no_symbol begins_name b h refl cs)
      ∙ ap (λ t. cond (t && list_all is_in_name cs) (Some piece.Name) None) h

  pub white_class : is_white b ≡ true → (cs : List ℕ) → piece_of (b ∷ cs) ≡ cond (list_all is_white cs) (Some piece.Dropped) None
  white_class h cs =
      only_white (is_name (b ∷ cs)) (is_run is_white (b ∷ cs)) (is_line_comment (b ∷ cs)) (is_block_comment (b ∷ cs)) (is_open_comment (b ∷ cs)) (is_run is_ascii_digit (b ∷ cs)) (is_hexadecimal (b ∷ cs)) (look_up symbols (b ∷ cs)) (in_range (digits_value 10 (b ∷ cs))) (in_range (digits_value 16 (drop 2 (b ∷ cs))))
      (not_run begins_name is_in_name b cs (grind (arith, nat_tests)))
      (not_after 45 b (codes "-") cs (list_all is_in_line) (grind (arith, nat_tests)))
      (not_after 47 b (codes "*") cs is_closed (grind (arith, nat_tests)))
      (not_after 47 b (codes "*") cs is_open (grind (arith, nat_tests)))
      (not_run is_ascii_digit is_ascii_digit b cs (grind (arith, nat_tests)))
      (not_after 48 b (codes "x") cs (is_run is_ascii_hexdigit) (grind (arith, nat_tests)))
      (no_symbol is_white b h refl cs)
      ∙ ap (λ t. cond (t && list_all is_white cs) (Some piece.Dropped) None) h

  pub digit_class : is_ascii_digit b ≡ true → (cs : List ℕ)
      → piece_of (b ∷ cs) ≡ cond (list_all is_ascii_digit cs) (number 10 (b ∷ cs)) (cond (is_hexadecimal (b ∷ cs)) (number 16 (drop 2 (b ∷ cs))) None)
  digit_class h cs =
      only_number (is_name (b ∷ cs)) (is_run is_white (b ∷ cs)) (is_line_comment (b ∷ cs)) (is_block_comment (b ∷ cs)) (is_open_comment (b ∷ cs)) (is_run is_ascii_digit (b ∷ cs)) (is_hexadecimal (b ∷ cs)) (look_up symbols (b ∷ cs)) (in_range (digits_value 10 (b ∷ cs))) (in_range (digits_value 16 (drop 2 (b ∷ cs))))
      (not_run begins_name is_in_name b cs (grind (arith, nat_tests)))
      (not_run is_white is_white b cs (grind (arith, nat_tests)))
      (not_after 45 b (codes "-") cs (list_all is_in_line) (grind (arith, nat_tests)))
      (not_after 47 b (codes "*") cs is_closed (grind (arith, nat_tests)))
      (not_after 47 b (codes "*") cs is_open (grind (arith, nat_tests)))
      (no_symbol is_ascii_digit b h refl cs)
      ∙ ap (λ t. cond (t && list_all is_ascii_digit cs) (number 10 (b ∷ cs)) (cond (is_hexadecimal (b ∷ cs)) (number 16 (drop 2 (b ∷ cs))) None)) h

  -- no letter, no digit, no white space and no comment
  pub symbol_class : begins_name b ≡ false → is_white b ≡ false → is_ascii_digit b ≡ false → (cs : List ℕ) → ((p : List ℕ → Bool) → is_after (45 ∷ 45 ∷ []) p (b ∷ cs) ≡ false) → ((p : List ℕ → Bool) → is_after (47 ∷ 42 ∷ []) p (b ∷ cs) ≡ false)
      → piece_of (b ∷ cs) ≡ option_map piece.Mark (look_up symbols (b ∷ cs))
  symbol_class n w d cs no_line no_block =
      only_symbol (is_name (b ∷ cs)) (is_run is_white (b ∷ cs)) (is_line_comment (b ∷ cs)) (is_block_comment (b ∷ cs)) (is_open_comment (b ∷ cs)) (is_run is_ascii_digit (b ∷ cs)) (is_hexadecimal (b ∷ cs)) (look_up symbols (b ∷ cs)) (in_range (digits_value 10 (b ∷ cs))) (in_range (digits_value 16 (drop 2 (b ∷ cs))))
      (not_run begins_name is_in_name b cs n)
      (not_run is_white is_white b cs w)
      (no_line (list_all is_in_line)) (no_block is_closed) (no_block is_open)
      (not_run is_ascii_digit is_ascii_digit b cs d)
      (not_after 48 b (codes "x") cs (is_run is_ascii_hexdigit) (grind (arith, nat_tests)))

pub line_class : (cs : List ℕ) → piece_of (45 ∷ 45 ∷ cs) ≡ cond (list_all is_in_line cs) (Some piece.Dropped) None
line_class cs = refl

pub block_class : (cs : List ℕ) → piece_of (47 ∷ 42 ∷ cs) ≡ cond (is_closed cs) (Some piece.Dropped) (cond (is_open cs) (Some piece.OpenComment) None)
block_class cs = refl

pub hex_class : (cs : List ℕ) → piece_of (48 ∷ 120 ∷ cs) ≡ cond (is_run is_ascii_hexdigit cs) (number 16 cs) None
hex_class cs = refl
