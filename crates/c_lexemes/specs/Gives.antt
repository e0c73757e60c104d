-- A result of the code is the outcome of a reader of pieces, unless memory ran out. Bytes stand for their pieces, and a tree for what
-- it says.
use Rattle.std.specs.Prelude.{◌≡◌, List, ℕ, Result, Ok, Err}
use Rattle.std.specs.Borrow.{Bor}
use Rattle.reading.specs.Reader.{Outcome, Done, Unexpected, TooDeep}
use Rattle.c_grammar.specs.Pieces.{Piece, pieces}
use Rattle.c_lexemes.specs.declared.fault.Fault.{Fault}
use Rattle.c_lexemes.specs.declared.fault.Fault.TheVariants as fault

abbrev pub Faults : {A : Type 0} → Fault → Outcome Piece A → Type 0
Faults fault.Memory o = Unit {0}
Faults (fault.Unexpected rest) o = o ≡ Unexpected (pieces rest.now)
Faults (fault.TooDeep rest) o = o ≡ TooDeep (pieces rest.now)

-- a value, and what it says
abbrev pub Gives : {A B : Type 0} → (A → B) → Result (A × Bor (List ℕ)) Fault → Outcome Piece B → Type 0
Gives says (Ok x) o = o ≡ Done (says x.0) (pieces x.1.now)
Gives says (Err e) o = Faults e o

-- no value
abbrev pub Passes : {B : Type 0} → B → Result (Bor (List ℕ)) Fault → Outcome Piece B → Type 0
Passes b (Ok rest) o = o ≡ Done b (pieces rest.now)
Passes b (Err e) o = Faults e o

-- a value that says itself
abbrev pub itself : {A : Type 0} → A → A
itself a = a
