-- The tokens of a text, or its first fault. A text is a row of pieces, each the longest at its place.
-- Places are counted in bytes from 0.
use Rattle.std.specs.Prelude.{◌≡◌, ℕ, ◌+◌, ◌<◌, nat_lt, List, [], ◌∷◌, ◌++◌, length, Option, Some, None, Result, Ok, Err, if◌then◌else◌, ◌⊎◌}
use Rattle.ivory_lexer.specs.Limits.{longest_name}
use Rattle.ivory_lexer.specs.Table.{piece_of, look_up}
use Rattle.ivory_lexer.specs.Words.{keywords}
use Rattle.ivory_lexer.specs.declared.fault.LexFault.{LexFault}
use Rattle.ivory_lexer.specs.declared.fault.LexFault.TheVariants as fault
use Rattle.ivory_lexer.specs.declared.key.Key.{Key}
use Rattle.ivory_lexer.specs.declared.piece.Piece.{Piece}
use Rattle.ivory_lexer.specs.declared.piece.Piece.TheVariants as piece
use Rattle.ivory_lexer.specs.declared.token.Token.{Token}
use Rattle.ivory_lexer.specs.declared.token.TokenKind.{TokenKind}
use Rattle.ivory_lexer.specs.declared.token.TokenKind.TheVariants as kind

-- this front of the text is a piece, and no longer front is one
pub record Longest (text front : List ℕ) (p : Piece) : Type 0 where
  pub some : 0 < length front
  pub is : piece_of front ≡ Some p
  pub most : (longer rest : List ℕ) → text ≡ longer ++ rest → length front < length longer → piece_of longer ≡ None

-- a keyword or a name
abbrev pub kind_of_name : Option Key → List ℕ → TokenKind
kind_of_name None name = kind.Name name
kind_of_name (Some key) name = kind.Key key

-- what a piece that is these bytes gives at a place: nothing, a token, or a fault
abbrev pub gives : ℕ → List ℕ → Piece → Result (Option TokenKind) LexFault
gives at front piece.Dropped = Ok None
gives at front piece.OpenComment = Err (fault.OpenComment at)
gives at front piece.Name = if nat_lt longest_name (length front) then Err (fault.LongName at) else Ok (Some (kind_of_name (look_up keywords front) front))
gives at front (piece.Number (Some value)) = Ok (Some (kind.Number value))
gives at front (piece.Number None) = Err (fault.BigLiteral at)
gives at front (piece.Mark mark) = Ok (Some (kind.Mark mark))

abbrev pub token : ℕ → ℕ → TokenKind → Token
token at n k = record { kind = k; span = record { start = at; end = at + n } }

-- the text that begins at this place has these tokens
pub data TokensOf : ℕ → List ℕ → List Token → Type 0 where
  end : {at : ℕ} → TokensOf at [] []
  dropped : {at : ℕ} {front rest : List ℕ} {p : Piece} {ts : List Token} → Longest (front ++ rest) front p → gives at front p ≡ Ok None
      → TokensOf (at + length front) rest ts → TokensOf at (front ++ rest) ts
  taken : {at : ℕ} {front rest : List ℕ} {p : Piece} {k : TokenKind} {ts : List Token} → Longest (front ++ rest) front p → gives at front p ≡ Ok (Some k)
      → TokensOf (at + length front) rest ts → TokensOf at (front ++ rest) (token at (length front) k ∷ ts)

-- the text that begins at this place has this fault, and pieces without a fault before it
pub data LexFaultOf : ℕ → List ℕ → LexFault → Type 0 where
  no_piece : {at : ℕ} {text : List ℕ} → 0 < length text → ((front rest : List ℕ) → text ≡ front ++ rest → piece_of front ≡ None) → LexFaultOf at text (fault.BadByte at)
  refused : {at : ℕ} (front rest : List ℕ) {p : Piece} {why : LexFault} → Longest (front ++ rest) front p → gives at front p ≡ Err why → LexFaultOf at (front ++ rest) why
  later : {at : ℕ} (front rest : List ℕ) {p : Piece} {k : Option TokenKind} {why : LexFault} → Longest (front ++ rest) front p → gives at front p ≡ Ok k
      → LexFaultOf (at + length front) rest why → LexFaultOf at (front ++ rest) why

-- the text has one list of tokens and no fault, or one fault and no tokens
pub record ExactlyOne (text : List ℕ) : Type 0 where
  pub one : ((ts : List Token) × TokensOf 0 text ts) ⊎ ((why : LexFault) × LexFaultOf 0 text why)
  pub same_tokens : (ts us : List Token) → TokensOf 0 text ts → TokensOf 0 text us → ts ≡ us
  pub same_fault : (why other : LexFault) → LexFaultOf 0 text why → LexFaultOf 0 text other → why ≡ other
  pub not_both : (ts : List Token) (why : LexFault) → TokensOf 0 text ts → LexFaultOf 0 text why → ⊥
