-- The tokens of every text stand in order, and its names are names.
use Rattle.std.proofs.Common.{◌≡◌, ℕ, ◌+◌, ◌≤◌, Bool, true, false, nat_lt, List, [], ◌∷◌, ◌++◌, length, Option, Some, None, Result, Ok, Err, cond, refl, subst, arith, length-append}
use Rattle.std.specs.Prelude.{IfOk}
use Rattle.std.specs.Char.{is_ascii_digit}
use Rattle.std.proofs.lemmas.Bool.{ltb-false}
use Rattle.ivory_lexer.specs.Limits.{longest_name}
use Rattle.ivory_lexer.specs.Table.{piece_of, is_name, is_run, is_white, look_up}
use Rattle.ivory_lexer.specs.Texts.{gives, kind_of_name, TokensOf, end, dropped, taken}
use Rattle.ivory_lexer.specs.Tokens.{IsKind, InOrder}
use Rattle.ivory_lexer.specs.Words.{keywords}
use Rattle.ivory_lexer.specs.declared.fault.LexFault.{LexFault}
use Rattle.ivory_lexer.specs.declared.fault.LexFault.TheVariants as fault
use Rattle.ivory_lexer.specs.declared.key.Key.{Key}
use Rattle.ivory_lexer.specs.declared.mark.Mark.{Mark}
use Rattle.ivory_lexer.specs.declared.piece.Piece.{Piece}
use Rattle.ivory_lexer.specs.declared.piece.Piece.TheVariants as piece
use Rattle.ivory_lexer.specs.declared.token.Token.{Token}
use Rattle.ivory_lexer.specs.declared.token.TokenKind.{TokenKind}
use Rattle.ivory_lexer.specs.declared.token.TokenKind.TheVariants as kind
use Rattle.ivory_lexer.proofs.Classes.{chosen, is_line_comment, is_block_comment, is_open_comment, is_hexadecimal}
use Rattle.ivory_lexer.specs.Words.{symbols}

-- only the first row of the table is a name
named : (name white line closed open_ decimal hex : Bool) (mark : Option Mark) (ten sixteen : Option ℕ) → chosen name white line closed open_ decimal hex mark ten sixteen ≡ Some piece.Name → name ≡ true
named true white line closed open_ decimal hex mark ten sixteen e = refl
named false true line closed open_ decimal hex mark ten sixteen e = absurd cc
named false false true closed open_ decimal hex mark ten sixteen e = absurd cc
named false false false true open_ decimal hex mark ten sixteen e = absurd cc
named false false false false true decimal hex mark ten sixteen e = absurd cc
named false false false false false true hex mark ten sixteen e = absurd cc
named false false false false false false true mark ten sixteen e = absurd cc
named false false false false false false false None ten sixteen e = absurd cc
named false false false false false false false (Some mark) ten sixteen e = absurd cc

name_piece : (bs : List ℕ) → piece_of bs ≡ Some piece.Name → is_name bs ≡ true
name_piece bs e = named (is_name bs) (is_run is_white bs) (is_line_comment bs) (is_block_comment bs) (is_open_comment bs) (is_run is_ascii_digit bs) (is_hexadecimal bs) (look_up symbols bs) _ _ e

name_kind : (at : ℕ) (front : List ℕ) (k : TokenKind) → is_name front ≡ true → (t : Bool) → nat_lt longest_name (length front) ≡ t → (o : Option Key) → look_up keywords front ≡ o
    → cond {A = Result (Option TokenKind) LexFault} t (Err (fault.LongName at)) (Ok (Some (kind_of_name o front))) ≡ Ok (Some k) → IsKind k
name_kind at front k n true long o l e = absurd cc
name_kind at front k n false long None l e =
    let same : kind.Name front ≡ k = cc in
    subst IsKind same (n, ltb-false longest_name (length front) long, l)
name_kind at front k n false long (Some key) l e = let same : kind.Key key ≡ k = cc in subst IsKind same tt

pub given_kind : (at : ℕ) (front : List ℕ) (p : Piece) (k : TokenKind) → piece_of front ≡ Some p → gives at front p ≡ Ok (Some k) → IsKind k
given_kind at front piece.Dropped k is e = absurd cc
given_kind at front piece.OpenComment k is e = absurd cc
given_kind at front piece.Name k is e = name_kind at front k (name_piece front is) (nat_lt longest_name (length front)) refl (look_up keywords front) refl e
given_kind at front (piece.Number (Some value)) k is e = let same : kind.Number value ≡ k = cc in subst IsKind same tt
given_kind at front (piece.Number None) k is e = absurd cc
given_kind at front (piece.Mark mark) k is e = let same : kind.Mark mark ≡ k = cc in subst IsKind same tt

earlier : (low from high : ℕ) (ts : List Token) → low ≤ from → InOrder from ts high → InOrder low ts high
earlier low from high [] le o = omega arith
earlier low from high (t ∷ ts) le o = (omega (arith, o.0), o.1, o.2, o.3)

pub in_order : {at : ℕ} {text : List ℕ} {ts : List Token} → TokensOf at text ts → InOrder at ts (at + length text)
in_order {at} end = omega arith
in_order (dropped {at} {front} {rest} {p} {ts} l g t) =
    let sum : at + length front + length rest ≡ at + length (front ++ rest) = omega (arith, length-append front rest) in
    earlier at (at + length front) _ ts (omega arith) (subst (λ high. InOrder (at + length front) ts high) sum (in_order t))
in_order (taken {at} {front} {rest} {p} {k} {ts} l g t) =
    let sum : at + length front + length rest ≡ at + length (front ++ rest) = omega (arith, length-append front rest) in
    (omega arith, omega (arith, l.some), given_kind at front p k l.is g, subst (λ high. InOrder (at + length front) ts high) sum (in_order t))

pub few : (low high : ℕ) (ts : List Token) → InOrder low ts high → length ts + low ≤ high
few low high [] o = omega arith
few low high (t ∷ ts) o = omega (arith, o.0, o.1, few t.span.end high ts o.3)

-- ---- of an answer

pub answer_in_order : (text : List ℕ) (r : Result (List Token) LexFault) → IfOk r (λ ts. TokensOf 0 text ts) → IfOk r (λ ts. InOrder 0 ts (length text))
answer_in_order text (Ok ts) t = subst (λ high. InOrder 0 ts high) (omega arith) (in_order t)
answer_in_order text (Err why) t = tt

pub answer_few : (text : List ℕ) (r : Result (List Token) LexFault) → IfOk r (λ ts. TokensOf 0 text ts) → IfOk r (λ ts. length ts ≤ length text)
answer_few text (Ok ts) t = omega (arith, few 0 (0 + length text) ts (in_order t))
answer_few text (Err why) t = tt
