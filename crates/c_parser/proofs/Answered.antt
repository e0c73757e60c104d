-- From what the reader of units gives to what is answered of the bytes.
use Rattle.std.proofs.Common.{◌≡◌, ℕ, ◌+◌, ◌-◌, ◌≤◌, Bool, true, false, List, [], ◌∷◌, ◌++◌, length, take, refl, sym, ap, ◌∙◌, arith, length-append, append_assoc, Some, None}
use Rattle.std.specs.Prelude.{◌==◌, Result, Ok, Err}
use Rattle.std.proofs.lemmas.Bool.{eqb-true}
use Rattle.std.proofs.Math.Seq.{take-append_seam}
use Rattle.reading.specs.Reader.{Outcome, Done, Unexpected, TooDeep, below, ended}
use Rattle.reading.specs.Exact.{Tree, UnexpectedToken, DeepToken, answer}
use Rattle.c_ast.specs.Syntax.{TranslationUnit}
use Rattle.c_ast.specs.View.{unit_of}
use Rattle.c_ast.specs.declared.unit.CUnit.{CUnit}
use Rattle.grammars.specs.Reader.{read, read_with}
use Rattle.c_grammar.specs.Pieces.{Piece, piece_text, joined, pieces}
use Rattle.c_grammar.specs.Kinds.{lexicon}
use Rattle.c_grammar.specs.Symbols.{a_unit}
use Rattle.c_grammar.specs.UnitRules.{unit_rule}
use Rattle.c_grammar.specs.Subset.{grammar, parse}
use Rattle.c_grammar.proofs.Cut.{pieces_joined}
use Rattle.c_lexemes.specs.Levels.{most_open, inner_at, reads_at}
use Rattle.c_parser.specs.Answers.{bytes_before, Says, Reads}
use Rattle.c_parser.specs.declared.answer.UnitFault.{UnitFault}
use Rattle.c_parser.specs.declared.answer.UnitFault.TheVariants as fault
use Rattle.c_lexemes.proofs.Opening.{read_level}
use Rattle.c_parser.proofs.Suffixes as suffixes
use Rattle.c_parser.proofs.Suffixes.{Behind, InnerEnds, rule_ends, below_ends, end_done, end_unexpected, end_too_deep}

-- ---- the bytes that are left

inner_ends : (d : ℕ) → InnerEnds lexicon (inner_at d)
unfolding inner_at
inner_ends d = below_ends lexicon grammar (d + 1) (most_open - d)

unit_ends : (ts : List Piece) → suffixes.Ends ts (reads_at 0 unit_rule ts)
unit_ends ts = rule_ends lexicon 0 (inner_at 0) (inner_ends 0) unit_rule ts

joined_parts : (ps qs : List Piece) → joined (ps ++ qs) ≡ joined ps ++ joined qs
joined_parts [] qs = refl
joined_parts (p ∷ ps) qs = ap (λ x. piece_text p ++ x) (joined_parts ps qs) ∙ sym (append_assoc (piece_text p) (joined ps) (joined qs))

-- bytes that stand behind some pieces
bytes_behind : (bytes rest : List ℕ) (b : Behind (pieces bytes) (pieces rest)) → length bytes ≡ length (joined b.front) + length rest
bytes_behind bytes rest b =
    let all : bytes ≡ joined b.front ++ rest = sym (pieces_joined bytes) ∙ ap joined b.same ∙ joined_parts b.front (pieces rest) ∙ ap (λ x. joined b.front ++ x) (pieces_joined rest) in
    ap length all ∙ length-append (joined b.front) rest

-- the number of the piece at which the rest begins, and its place
abbrev number : List ℕ → List ℕ → ℕ
number bytes rest = length (pieces bytes) - length (pieces rest)

place : (bytes rest : List ℕ) → Behind (pieces bytes) (pieces rest) → length bytes - length rest ≡ bytes_before bytes (number bytes rest)
place bytes rest b =
    let at : number bytes rest ≡ length b.front = omega (arith, ap length b.same, length-append b.front (pieces rest)) in
    let front : take (number bytes rest) (pieces bytes) ≡ b.front = ap (λ k. take k (pieces bytes)) at ∙ ap (take (length b.front)) b.same ∙ take-append_seam b.front (pieces rest) in
    let there : bytes_before bytes (number bytes rest) ≡ length (joined b.front) = ap (λ ps. length (joined ps)) front in
    omega (arith, there, bytes_behind bytes rest b)

within : (bytes rest : List ℕ) → Behind (pieces bytes) (pieces rest) → length rest ≤ length bytes
within bytes rest b = omega (arith, bytes_behind bytes rest b)

pub within_done : (bytes rest : List ℕ) (u : TranslationUnit) → reads_at 0 unit_rule (pieces bytes) ≡ Done u (pieces rest) → length rest ≤ length bytes
within_done bytes rest u e = within bytes rest (end_done (pieces bytes) (reads_at 0 unit_rule (pieces bytes)) u (pieces rest) (unit_ends (pieces bytes)) e)

pub within_unexpected : (bytes rest : List ℕ) → reads_at 0 unit_rule (pieces bytes) ≡ Unexpected (pieces rest) → length rest ≤ length bytes
within_unexpected bytes rest e = within bytes rest (end_unexpected (pieces bytes) (reads_at 0 unit_rule (pieces bytes)) (pieces rest) (unit_ends (pieces bytes)) e)

pub within_too_deep : (bytes rest : List ℕ) → reads_at 0 unit_rule (pieces bytes) ≡ TooDeep (pieces rest) → length rest ≤ length bytes
within_too_deep bytes rest e = within bytes rest (end_too_deep (pieces bytes) (reads_at 0 unit_rule (pieces bytes)) (pieces rest) (unit_ends (pieces bytes)) e)

-- ---- the answer

parsed : (ts : List Piece) → parse most_open ts ≡ answer ts (ended (reads_at 0 unit_rule ts))
unfolding inner_at
parsed ts = ap (λ (p : List Piece → Outcome Piece TranslationUnit). answer ts (ended (p ts))) (read_level 0 most_open a_unit)

some_piece : (b : ℕ) (bs : List ℕ) → pieces (b ∷ bs) ≡ [] → ⊥
some_piece b bs e = let none : b ∷ bs ≡ [] = sym (pieces_joined (b ∷ bs)) ∙ ap joined e in cc

-- bytes that trail behind a unit
trailing : (u : TranslationUnit) (rest : List Piece) → (rest ≡ [] → ⊥) → ended (Done u rest) ≡ Unexpected rest
trailing u [] some = absurd (some refl)
trailing u (p ∷ ps) some = refl

pub says_unit : (bytes rest : List ℕ) (u : CUnit) → reads_at 0 unit_rule (pieces bytes) ≡ Done (unit_of u) (pieces rest) → rest ≡ [] → Reads bytes (Ok u)
says_unit bytes rest u e none = parsed (pieces bytes) ∙ ap (λ o. answer (pieces bytes) (ended o)) (e ∙ ap (λ r. Done (unit_of u) (pieces r)) none)

pub says_trailing : (bytes rest : List ℕ) (u : TranslationUnit) (at : ℕ) → reads_at 0 unit_rule (pieces bytes) ≡ Done u (pieces rest) → (rest ≡ [] → ⊥) → at ≡ length bytes - length rest → Reads bytes (Err (fault.Unexpected at))
says_trailing bytes rest u at e some is = (
  number bytes rest,
  parsed (pieces bytes) ∙ ap (λ o. answer (pieces bytes) (ended o)) e ∙ ap (answer (pieces bytes)) (trailing u (pieces rest) (none rest some)),
  is ∙ place bytes rest (end_done (pieces bytes) (reads_at 0 unit_rule (pieces bytes)) u (pieces rest) (unit_ends (pieces bytes)) e),
)
  where
    none : (r : List ℕ) → (r ≡ [] → ⊥) → pieces r ≡ [] → ⊥
    none [] some e = some refl
    none (b ∷ bs) some e = some_piece b bs e

pub says_unexpected : (bytes rest : List ℕ) (at : ℕ) → reads_at 0 unit_rule (pieces bytes) ≡ Unexpected (pieces rest) → at ≡ length bytes - length rest → Reads bytes (Err (fault.Unexpected at))
says_unexpected bytes rest at e is =
    (number bytes rest, parsed (pieces bytes) ∙ ap (λ o. answer (pieces bytes) (ended o)) e, is ∙ place bytes rest (end_unexpected (pieces bytes) (reads_at 0 unit_rule (pieces bytes)) (pieces rest) (unit_ends (pieces bytes)) e))

pub says_too_deep : (bytes rest : List ℕ) (at : ℕ) → reads_at 0 unit_rule (pieces bytes) ≡ TooDeep (pieces rest) → at ≡ length bytes - length rest → Reads bytes (Err (fault.TooDeep at))
says_too_deep bytes rest at e is =
    (number bytes rest, parsed (pieces bytes) ∙ ap (λ o. answer (pieces bytes) (ended o)) e, is ∙ place bytes rest (end_too_deep (pieces bytes) (reads_at 0 unit_rule (pieces bytes)) (pieces rest) (unit_ends (pieces bytes)) e))

-- ---- whether bytes are left

pub nothing_left : (rest : List ℕ) (b : Bool) → b ≡ (length rest == 0) → b ≡ true → rest ≡ []
nothing_left [] b e t = refl
nothing_left (x ∷ xs) b e t = let none : length (x ∷ xs) ≡ 0 = eqb-true (length (x ∷ xs)) 0 (sym e ∙ t) in absurd (omega (arith, none))

pub something_left : (rest : List ℕ) (b : Bool) → b ≡ (length rest == 0) → b ≡ false → rest ≡ [] → ⊥
something_left rest b e f none = let t : b ≡ true = e ∙ ap (λ (r : List ℕ). length r == 0) none in let no : ⊥ = cc in no
