-- The loop over a text, as the definition sees it.
use Rattle.std.proofs.Common.{◌≡◌, ℕ, ◌+◌, ◌-◌, ◌≤◌, ◌<◌, List, [], ◌∷◌, ◌++◌, length, take, drop, Option, Some, None, Result, Ok, Err, refl, sym, ap, ◌∙◌, subst, arith, append_assoc, length-drop}
use Rattle.std.proofs.lemmas.List.{drop_all, drop-drop, take_all}
use Rattle.std.specs.Prelude.{IfOk}
use Rattle.ivory_lexer.specs.Texts.{gives, TokensOf, end, LexFaultOf, no_piece}
use Rattle.ivory_lexer.specs.Answers.{Answers, IfFault}
use Rattle.ivory_lexer.specs.Scanning.{scan, tokens_of_piece, IsTaken}
use Rattle.ivory_lexer.specs.declared.fault.LexFault.{LexFault}
use Rattle.ivory_lexer.specs.declared.fault.LexFault.TheVariants as fault
use Rattle.ivory_lexer.specs.declared.piece.Piece.{Piece}
use Rattle.ivory_lexer.specs.declared.token.Token.{Token}
use Rattle.ivory_lexer.specs.declared.token.TokenKind.{TokenKind}
use Rattle.ivory_lexer.proofs.Fronts.{Best, Found}
use Rattle.ivory_lexer.proofs.Longest.{scan_found}
use Rattle.ivory_lexer.proofs.Readings.{over_tokens, over_fault, at_piece, longest_of, exactly_one}

-- ---- one piece

best_of : (text : List ℕ) (o : Option (Piece × ℕ)) (p : Piece) (n : ℕ) → o ≡ scan text → o ≡ Some (p, n) → Best text n p
best_of text o p n e is = subst (Found text) (sym e ∙ is) (scan_found text)

pub bad_byte : (at : ℕ) (text : List ℕ) → 0 < length text → None ≡ scan text → LexFaultOf at text (fault.BadByte at)
bad_byte at text some e = no_piece some (subst (Found text) (sym e) (scan_found text))

pub piece_fault : (at n : ℕ) (text : List ℕ) (p : Piece) (why : LexFault) → Some (p, n) ≡ scan text → Answers {A = Option TokenKind} (Err why) (gives at (take n text) p) → IfFault {A = ℕ} (Err why) (λ w. LexFaultOf at text w)
piece_fault at n text p why e h = each why h
  where
    best : Best text n p
    best = best_of text (Some (p, n)) p n e refl

    is : (w : LexFault) → Err w ≡ gives at (take n text) p → LexFaultOf at text w
    is w g = at_piece at n text p (longest_of text n p best) best.within w (sym g)

    each : (w : LexFault) → Answers {A = Option TokenKind} (Err w) (gives at (take n text) p) → IfFault {A = ℕ} (Err w) (λ v. LexFaultOf at text v)
    each fault.Memory h = tt
    each (fault.BadByte i) h = is (fault.BadByte i) h
    each (fault.LongName i) h = is (fault.LongName i) h
    each (fault.BigLiteral i) h = is (fault.BigLiteral i) h
    each (fault.OpenComment i) h = is (fault.OpenComment i) h

pub piece_taken : (at n : ℕ) (text : List ℕ) (p : Piece) (k : Option TokenKind) (before after : List Token) → Some (p, n) ≡ scan text → Ok k ≡ gives at (take n text) p → after ≡ before ++ tokens_of_piece k at n → IsTaken at text n before after
piece_taken at n text p k before after e g grew =
    let best = best_of text (Some (p, n)) p n e refl in
    record { p = p; k = k; within = best.within; longest = longest_of text n p best; gives_it = sym g; grew = grew }

-- ---- the pieces so far

pub record IsCut (text : List ℕ) (at : ℕ) (first : List Token) : Type 0 where
  pub within : at ≤ length text
  pub tokens : (ts : List Token) → TokensOf at (drop at text) ts → TokensOf 0 text (first ++ ts)
  pub fault_after : (why : LexFault) → LexFaultOf at (drop at text) why → LexFaultOf 0 text why

pub cut_begins : (text : List ℕ) (first : List Token) → first ≡ [] → IsCut text 0 first
cut_begins text first e = record {
  within = omega arith;
  tokens = λ ts t. subst (λ f. TokensOf 0 text (f ++ ts)) (sym e) t;
  fault_after = λ why t. t;
}

pub cut_goes_on : (text : List ℕ) (at n : ℕ) (first now : List Token) → IsCut text at first → IsTaken at (drop at text) n first now → IsCut text (at + n) now
cut_goes_on text at n first now c t = record {
  within = omega (arith, c.within, t.within, length-drop at text);
  tokens = λ ts u.
      subst (λ x. TokensOf 0 text (x ++ ts)) (sym t.grew)
      (subst (λ x. TokensOf 0 text x) (sym (append_assoc first (tokens_of_piece t.k at n) ts))
      (c.tokens (tokens_of_piece t.k at n ++ ts) (over_tokens at n (drop at text) t.p t.longest t.within t.k t.gives_it ts (subst (λ x. TokensOf (at + n) x ts) (sym same) u))));
  fault_after = λ why u. c.fault_after why (over_fault at n (drop at text) t.p t.longest t.within t.k t.gives_it why (subst (λ x. LexFaultOf (at + n) x why) (sym same) u));
}
  where
    same : drop n (drop at text) ≡ drop (at + n) text
    same = drop-drop n at text

-- a text from a place on, as a slice
pub rest_of : (text : List ℕ) (at : ℕ) → take (length text - at) (drop at text) ≡ drop at text
rest_of text at = take_all (length text - at) (drop at text) (omega (arith, length-drop at text))

append_nil : (xs : List Token) → xs ++ [] ≡ xs
append_nil [] = refl
append_nil (x ∷ xs) = ap (λ ys. x ∷ ys) (append_nil xs)

pub cut_ends : (text : List ℕ) (at : ℕ) (first : List Token) → IsCut text at first → length text ≤ at → TokensOf 0 text first
cut_ends text at first c h = subst (λ x. TokensOf 0 text x) (append_nil first) (c.tokens [] (subst (λ x. TokensOf at x []) (sym (drop_all at text h)) end))

-- ---- the answer is the only one

pub only_tokens : (text : List ℕ) (r : Result (List Token) LexFault) → IfOk r (λ ts. TokensOf 0 text ts) → IfFault r (λ why. LexFaultOf 0 text why) → (ts : List Token) → TokensOf 0 text ts → Answers r (Ok ts)
only_tokens text (Ok us) t f ts u = ap Ok ((exactly_one text).same_tokens us ts t u)
only_tokens text (Err fault.Memory) t f ts u = tt
only_tokens text (Err (fault.BadByte i)) t f ts u = absurd ((exactly_one text).not_both ts _ u f)
only_tokens text (Err (fault.LongName i)) t f ts u = absurd ((exactly_one text).not_both ts _ u f)
only_tokens text (Err (fault.BigLiteral i)) t f ts u = absurd ((exactly_one text).not_both ts _ u f)
only_tokens text (Err (fault.OpenComment i)) t f ts u = absurd ((exactly_one text).not_both ts _ u f)

pub only_fault : (text : List ℕ) (r : Result (List Token) LexFault) → IfOk r (λ ts. TokensOf 0 text ts) → IfFault r (λ why. LexFaultOf 0 text why) → (why : LexFault) → LexFaultOf 0 text why → Answers r (Err why)
only_fault text (Ok us) t f why u = absurd ((exactly_one text).not_both us why t u)
only_fault text (Err fault.Memory) t f why u = tt
only_fault text (Err (fault.BadByte i)) t f why u = ap Err ((exactly_one text).same_fault _ why f u)
only_fault text (Err (fault.LongName i)) t f why u = ap Err ((exactly_one text).same_fault _ why f u)
only_fault text (Err (fault.BigLiteral i)) t f why u = ap Err ((exactly_one text).same_fault _ why f u)
only_fault text (Err (fault.OpenComment i)) t f why u = ap Err ((exactly_one text).same_fault _ why f u)
