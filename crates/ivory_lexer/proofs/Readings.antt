-- Each text has one list of tokens or one fault.
use Rattle.std.proofs.Common.{◌≡◌, ℕ, zero, suc, ◌+◌, ◌≤◌, ◌<◌, ◌⊎◌, List, [], ◌∷◌, ◌++◌, length, take, drop, Option, Some, None, Result, Ok, Err, refl, sym, ap, ◌∙◌, subst, arith, length-append, length-drop, inl, inr}
use native.Mathlib.Decide.{dec_lt}
use Rattle.ivory_lexer.specs.Table.{piece_of}
use Rattle.ivory_lexer.specs.Texts.{Longest, gives, token, TokensOf, end, dropped, taken, LexFaultOf, no_piece, refused, later, ExactlyOne}
use Rattle.ivory_lexer.specs.Scanning.{scan, tokens_of_piece}
use Rattle.ivory_lexer.specs.declared.fault.LexFault.{LexFault}
use Rattle.ivory_lexer.specs.declared.fault.LexFault.TheVariants as fault
use Rattle.ivory_lexer.specs.declared.piece.Piece.{Piece}
use Rattle.ivory_lexer.specs.declared.token.Token.{Token}
use Rattle.ivory_lexer.specs.declared.token.TokenKind.{TokenKind}
use Rattle.ivory_lexer.proofs.Fronts.{Best, Found, parts, taken_length}
use Rattle.ivory_lexer.proofs.Longest.{scan_found}

take_front : (xs ys : List ℕ) → take (length xs) (xs ++ ys) ≡ xs
take_front [] ys = refl
take_front (x ∷ xs) ys = ap (λ zs. x ∷ zs) (take_front xs ys)

drop_front : (xs ys : List ℕ) → drop (length xs) (xs ++ ys) ≡ ys
drop_front [] ys = refl
drop_front (x ∷ xs) ys = drop_front xs ys

-- ---- the one way to read a text, over as many pieces as there is room for

abbrev pub with_token : Token → Result (List Token) LexFault → Result (List Token) LexFault
with_token t (Ok ts) = Ok (t ∷ ts)
with_token t (Err why) = Err why

abbrev pub over_piece : Result (Option TokenKind) LexFault → ℕ → ℕ → Result (List Token) LexFault → Result (List Token) LexFault
over_piece (Err why) at n more = Err why
over_piece (Ok None) at n more = more
over_piece (Ok (Some kind)) at n more = with_token (token at n kind) more

abbrev pub after_scan : Option (Piece × ℕ) → ℕ → List ℕ → (ℕ → Result (List Token) LexFault) → Result (List Token) LexFault
after_scan None at text more = Err (fault.BadByte at)
after_scan (Some w) at text more = over_piece (gives at (take w.1 text) w.0) at w.1 (more w.1)

abbrev pub reading : ℕ → ℕ → List ℕ → Result (List Token) LexFault
reading m at [] = Ok []
reading zero at (b ∷ bs) = Ok []
reading (suc m) at (b ∷ bs) = after_scan (scan (b ∷ bs)) at (b ∷ bs) (λ n. reading m (at + n) (drop n (b ∷ bs)))

reading_step : (m at : ℕ) (text : List ℕ) → 0 < length text → reading (suc m) at text ≡ after_scan (scan text) at text (λ n. reading m (at + n) (drop n text))
reading_step m at [] h = absurd (omega arith)
reading_step m at (b ∷ bs) h = refl

reading_end : (m at : ℕ) → reading m at [] ≡ Ok []
reading_end zero at = refl
reading_end (suc m) at = refl

-- the longest piece is the one that the scan finds
scanned : (front rest : List ℕ) (p : Piece) → Longest (front ++ rest) front p → scan (front ++ rest) ≡ Some (p, length front)
scanned front rest p l = at (scan (front ++ rest)) (scan_found (front ++ rest)) refl
  where
    same : (n : ℕ) (q : Piece) → Best (front ++ rest) n q → n ≡ length front → ◌≡◌ {A = Option (Piece × ℕ)} (Some (q, n)) (Some (p, length front))
    same n q b e =
        let cut : take n (front ++ rest) ≡ front = ap (λ k. take k (front ++ rest)) e ∙ take_front front rest in
        let pieces : Some q ≡ Some p = sym b.is ∙ ap piece_of cut ∙ l.is in
        let one : q ≡ p = cc in
        cc

    found : (n : ℕ) (q : Piece) → Best (front ++ rest) n q → n ≡ length front
    found n q b = elim (dec_lt n (length front)) [
      | yes lt ↦ absurd (let none = b.most front rest refl lt in let is = l.is in cc)
      | no ge ↦ elim (dec_lt (length front) n) [
        | yes lt ↦ absurd (let none = l.most (take n (front ++ rest)) (drop n (front ++ rest)) (parts n (front ++ rest)) (omega (arith, taken_length n (front ++ rest) b.within)) in let is = b.is in cc)
        | no le ↦ omega arith
      ]
    ]

    at : (o : Option (Piece × ℕ)) → Found (front ++ rest) o → scan (front ++ rest) ≡ o → scan (front ++ rest) ≡ Some (p, length front)
    at None none e = absurd (let nothing = none front rest refl in let is = l.is in cc)
    at (Some (q, n)) b e = e ∙ same n q b (found n q b)

-- a step over the longest piece
stepped : (m at : ℕ) (front rest : List ℕ) (p : Piece) → Longest (front ++ rest) front p
    → reading (suc m) at (front ++ rest) ≡ over_piece (gives at front p) at (length front) (reading m (at + length front) rest)
stepped m at front rest p l =
    reading_step m at (front ++ rest) (omega (arith, l.some, length-append front rest))
    ∙ ap (λ o. after_scan o at (front ++ rest) (λ n. reading m (at + n) (drop n (front ++ rest)))) (scanned front rest p l)
    ∙ ap (λ f. over_piece (gives at f p) at (length front) (reading m (at + length front) (drop (length front) (front ++ rest)))) (take_front front rest)
    ∙ ap (λ r. over_piece (gives at front p) at (length front) (reading m (at + length front) r)) (drop_front front rest)

-- ---- what a text has is what it reads as

tokens_read : {at : ℕ} {text : List ℕ} {ts : List Token} → TokensOf at text ts → (m : ℕ) → length text ≤ m → reading m at text ≡ Ok ts
tokens_read {at} end m fits = reading_end m at
tokens_read (dropped {front} {rest} l g t) zero fits = absurd (omega (arith, l.some, length-append front rest))
tokens_read (dropped {at} {front} {rest} {p} l g t) (suc m) fits =
    stepped m at front rest p l ∙ ap (λ o. over_piece o at (length front) (reading m (at + length front) rest)) g
    ∙ tokens_read t m (omega (arith, l.some, length-append front rest))
tokens_read (taken {front} {rest} l g t) zero fits = absurd (omega (arith, l.some, length-append front rest))
tokens_read (taken {at} {front} {rest} {p} {k} l g t) (suc m) fits =
    stepped m at front rest p l ∙ ap (λ o. over_piece o at (length front) (reading m (at + length front) rest)) g
    ∙ ap (with_token (token at (length front) k)) (tokens_read t m (omega (arith, l.some, length-append front rest)))

fault_read : {at : ℕ} {text : List ℕ} {why : LexFault} → LexFaultOf at text why → (m : ℕ) → length text ≤ m → reading m at text ≡ Err why
fault_read (no_piece some none) zero fits = absurd (omega arith)
fault_read (no_piece {at} {text} some none) (suc m) fits =
    reading_step m at text some ∙ ap (λ o. after_scan o at text (λ n. reading m (at + n) (drop n text))) (nothing (scan text) (scan_found text))
  where
    nothing : (o : Option (Piece × ℕ)) → Found text o → o ≡ None
    nothing None f = refl
    nothing (Some w) b = absurd (let never = none (take w.1 text) (drop w.1 text) (parts w.1 text) in let is = b.is in cc)
fault_read (refused front rest l g) zero fits = absurd (omega (arith, l.some, length-append front rest))
fault_read (refused {at} front rest {p} l g) (suc m) fits = stepped m at front rest p l ∙ ap (λ o. over_piece o at (length front) (reading m (at + length front) rest)) g
fault_read (later front rest l g t) zero fits = absurd (omega (arith, l.some, length-append front rest))
fault_read (later {at} front rest {p} {k} {why} l g t) (suc m) fits =
    stepped m at front rest p l ∙ ap (λ o. over_piece o at (length front) (reading m (at + length front) rest)) g
    ∙ ap (λ o. over_piece (Ok k) at (length front) o) (fault_read t m (omega (arith, l.some, length-append front rest)))
    ∙ fails k
  where
    fails : (o : Option TokenKind) → over_piece (Ok o) at (length front) (Err why) ≡ Err why
    fails None = refl
    fails (Some kind) = refl

-- ---- a step over the longest piece, and what the rest has

as_parts : (n : ℕ) (text : List ℕ) (p : Piece) → Longest text (take n text) p → Longest (take n text ++ drop n text) (take n text) p
as_parts n text p l = subst (λ t. Longest t (take n text) p) (parts n text) l

module _ (at n : ℕ) (text : List ℕ) (p : Piece) (l : Longest text (take n text) p) (within : n ≤ length text) where
  at_n : at + length (take n text) ≡ at + n
  at_n = omega (arith, taken_length n text within)

  pub over_tokens : (k : Option TokenKind) → gives at (take n text) p ≡ Ok k → (ts : List Token) → TokensOf (at + n) (drop n text) ts → TokensOf at text (tokens_of_piece k at n ++ ts)
  over_tokens None g ts t = subst (λ x. TokensOf at x ts) (sym (parts n text)) (dropped (as_parts n text p l) g (subst (λ k. TokensOf k (drop n text) ts) (sym at_n) t))
  over_tokens (Some k) g ts t =
      subst (λ x. TokensOf at x (token at n k ∷ ts)) (sym (parts n text))
      (subst (λ m. TokensOf at (take n text ++ drop n text) (token at m k ∷ ts)) (taken_length n text within)
      (taken (as_parts n text p l) g (subst (λ m. TokensOf m (drop n text) ts) (sym at_n) t)))

  pub over_fault : (k : Option TokenKind) → gives at (take n text) p ≡ Ok k → (why : LexFault) → LexFaultOf (at + n) (drop n text) why → LexFaultOf at text why
  over_fault k g why t = subst (λ x. LexFaultOf at x why) (sym (parts n text)) (later (take n text) (drop n text) (as_parts n text p l) g (subst (λ m. LexFaultOf m (drop n text) why) (sym at_n) t))

  pub at_piece : (why : LexFault) → gives at (take n text) p ≡ Err why → LexFaultOf at text why
  at_piece why g = subst (λ x. LexFaultOf at x why) (sym (parts n text)) (refused (take n text) (drop n text) (as_parts n text p l) g)

pub longest_of : (text : List ℕ) (n : ℕ) (p : Piece) → Best text n p → Longest text (take n text) p
longest_of text n p b = record {
  some = omega (arith, b.some, taken_length n text b.within);
  is = b.is;
  most = λ f r e long. b.most f r e (omega (arith, taken_length n text b.within));
}

-- ---- exactly one

abbrev pub One : ℕ → List ℕ → Type 0
One at text = ((ts : List Token) × TokensOf at text ts) ⊎ ((why : LexFault) × LexFaultOf at text why)

dropped_length : (n : ℕ) (xs : List ℕ) → n ≤ length xs → length (drop n xs) + n ≡ length xs
dropped_length n xs h = omega (arith, length-drop n xs)

one_over : (at n : ℕ) (text : List ℕ) (p : Piece) → Best text n p → (r : Result (Option TokenKind) LexFault) → gives at (take n text) p ≡ r → One (at + n) (drop n text) → One at text
one_over at n text p b (Err why) g more = inr (why, at_piece at n text p (longest_of text n p b) b.within why g)
one_over at n text p b (Ok k) g (inl t) = inl (tokens_of_piece k at n ++ t.0, over_tokens at n text p (longest_of text n p b) b.within k g t.0 t.1)
one_over at n text p b (Ok k) g (inr t) = inr (t.0, over_fault at n text p (longest_of text n p b) b.within k g t.0 t.1)

one_after : (at : ℕ) (text : List ℕ) → 0 < length text → (o : Option (Piece × ℕ)) → Found text o → ((n : ℕ) → 0 < n → n ≤ length text → One (at + n) (drop n text)) → One at text
one_after at text some None none more = inr (fault.BadByte at, no_piece some none)
one_after at text some (Some w) b more = one_over at w.1 text w.0 b (gives at (take w.1 text) w.0) refl (more w.1 b.some b.within)

one_of : (m at : ℕ) (text : List ℕ) → length text ≤ m → One at text
one_of m at [] fits = inl ([], end)
one_of zero at (b ∷ bs) fits = absurd (omega arith)
one_of (suc m) at (b ∷ bs) fits =
    one_after at (b ∷ bs) (omega arith) (scan (b ∷ bs)) (scan_found (b ∷ bs)) (λ n some within. one_of m (at + n) (drop n (b ∷ bs)) (omega (arith, dropped_length n (b ∷ bs) within)))

pub exactly_one : (text : List ℕ) → ExactlyOne text
exactly_one text = record {
  one = one_of (length text) 0 text (omega arith);
  same_tokens = λ ts us t u. let e = sym (tokens_read t (length text) (omega arith)) ∙ tokens_read u (length text) (omega arith) in ok_is ts us e;
  same_fault = λ why other t u. let e = sym (fault_read t (length text) (omega arith)) ∙ fault_read u (length text) (omega arith) in err_is why other e;
  not_both = λ ts why t u. let e = sym (tokens_read t (length text) (omega arith)) ∙ fault_read u (length text) (omega arith) in apart ts why e;
}
  where
    ok_is : (ts us : List Token) → ◌≡◌ {A = Result (List Token) LexFault} (Ok ts) (Ok us) → ts ≡ us
    ok_is ts us e = cc

    err_is : (why other : LexFault) → ◌≡◌ {A = Result (List Token) LexFault} (Err why) (Err other) → why ≡ other
    err_is why other e = cc

    apart : (ts : List Token) (why : LexFault) → ◌≡◌ {A = Result (List Token) LexFault} (Ok ts) (Err why) → ⊥
    apart ts why e = absurd cc
