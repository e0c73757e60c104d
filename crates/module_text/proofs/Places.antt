-- Where a fault of a text lies, and where its tokens begin: within it.
use Rattle.std.proofs.Common.{◌≡◌, ℕ, zero, suc, ◌+◌, ◌≤◌, Bool, true, false, cond, nat_lt, List, [], ◌∷◌, length, slice_get, sym, ap, arith, Option, Some, None, Result, Ok, Err}
use Rattle.std.proofs.lemmas.List.{length-append}
use Rattle.ivory_lexer.specs.Limits.{longest_name}
use Rattle.ivory_lexer.specs.Texts.{kind_of_name, gives, LexFaultOf, no_piece, refused, later}
use Rattle.ivory_lexer.specs.Tokens.{InOrder}
use Rattle.ivory_lexer.specs.Table.{look_up}
use Rattle.ivory_lexer.specs.Words.{keywords}
use Rattle.ivory_lexer.specs.declared.piece.Piece.{Piece}
use Rattle.ivory_lexer.specs.declared.piece.Piece.TheVariants as piece
use Rattle.ivory_lexer.specs.declared.Token.{Token}
use Rattle.ivory_lexer.specs.declared.TokenKind.{TokenKind}
use Rattle.ivory_lexer.specs.declared.LexFault.{LexFault}
use Rattle.ivory_lexer.specs.declared.LexFault.TheVariants as fault

-- the place that a fault names; want of memory names none
abbrev pub place_of : LexFault → ℕ
place_of (fault.BadByte at) = at
place_of (fault.LongName at) = at
place_of (fault.BigLiteral at) = at
place_of (fault.OpenComment at) = at
place_of fault.Memory = 0

name_place : (at : ℕ) (k : TokenKind) (why : LexFault) (long : Bool) → cond {A = Result (Option TokenKind) LexFault} long (Err (fault.LongName at)) (Ok (Some k)) ≡ Err why → place_of why ≡ at
name_place at k why true e = let same : fault.LongName at ≡ why = cc in sym (ap place_of same)
name_place at k why false e = absurd cc

given_place : (at : ℕ) (front : List ℕ) (p : Piece) (why : LexFault) → gives at front p ≡ Err why → place_of why ≡ at
given_place at front piece.Dropped why e = absurd cc
given_place at front piece.OpenComment why e = let same : fault.OpenComment at ≡ why = cc in sym (ap place_of same)
given_place at front piece.Name why e = name_place at (kind_of_name (look_up keywords front) front) why (nat_lt longest_name (length front)) e
given_place at front (piece.Number (Some value)) why e = absurd cc
given_place at front (piece.Number None) why e = let same : fault.BigLiteral at ≡ why = cc in sym (ap place_of same)
given_place at front (piece.Mark mark) why e = absurd cc

fault_within : {at : ℕ} {text : List ℕ} {why : LexFault} → LexFaultOf at text why → place_of why ≤ at + length text
fault_within (no_piece {at} {text} some none) = omega arith
fault_within (refused {at} front rest {p} {why} l g) = omega (arith, given_place at front p why g)
fault_within (later {at} front rest {p} {k} {why} l g f) = omega (arith, length-append front rest, fault_within f)

pub fault_is_within : (text : List ℕ) (why : LexFault) → LexFaultOf 0 text why → place_of why ≤ length text
fault_is_within text why f = omega (arith, fault_within f)

-- tokens in order end where the text ends, at the latest
in_order_ends : (low high : ℕ) (ts : List Token) → InOrder low ts high → low ≤ high
in_order_ends low high [] o = o
in_order_ends low high (t ∷ ts) o = omega (arith, o.0, o.1, in_order_ends t.span.end high ts o.3)

pub token_is_within : (low high : ℕ) (ts : List Token) (i : ℕ) (t : Token) → InOrder low ts high → slice_get ts i ≡ Some t → t.span.start ≤ high
token_is_within low high [] i t o e = absurd cc
token_is_within low high (u ∷ ts) zero t o e =
    let same : u ≡ t = cc in
    omega (arith, ap (λ x. x.span.start) same, o.1, in_order_ends u.span.end high ts o.3)
token_is_within low high (u ∷ ts) (suc i) t o e = token_is_within u.span.end high ts i t o.3 e
