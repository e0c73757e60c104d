-- The blanks of lines, by the depth as the code counts it.
use Rattle.std.proofs.Common.{◌≡◌, ℕ, zero, suc, ◌+◌, ◌-◌, ◌*◌, ◌≤◌, ◌<◌, Bool, true, false, List, ap, ◌∙◌, arith, refl, if◌then◌else◌, Some}
use Rattle.std.specs.Prelude.{nat_eq}
use Rattle.std.proofs.lemmas.Bool.{eqb-true}
use Rattle.reading.specs.Reader.{Done}
use Rattle.grammars.specs.Grammar.{token}
use Rattle.c_grammar.specs.Pieces.{Piece, Blanks, pieces}
use Rattle.c_grammar.specs.Kinds.{line_blanks, closing_blanks, blanks_kind, one_blank, indentation, outdentation, other}
use Rattle.c_lexemes.specs.Levels.{reads_at}
use Rattle.c_lexemes.specs.Scanned.{BlanksFirst}
use Rattle.c_lexemes.proofs.Leaves.{reads_kind}

pub line_blanks_is : (d : ℕ) → (d ≡ 0 → ⊥) → line_blanks d ≡ 2 * d
line_blanks_is zero some = absurd (some refl)
line_blanks_is (suc d) some = omega arith

pub closing_blanks_is : (d : ℕ) → 1 < d → closing_blanks d ≡ 2 * d - 2
closing_blanks_is zero low = absurd (omega arith)
closing_blanks_is (suc zero) low = absurd (omega arith)
closing_blanks_is (suc (suc d)) low = omega arith

-- ---- what is read of the blanks of lines

by_one : (d n k : ℕ) (t : Bool) → 50 < k → (if t then one_blank else (if nat_eq n (line_blanks d) then indentation else (if nat_eq n (closing_blanks d) then outdentation else other))) ≡ k
    → (if nat_eq n (line_blanks d) then indentation else (if nat_eq n (closing_blanks d) then outdentation else other)) ≡ k
by_one d n k true low e = absurd (omega arith)
by_one d n k false low e = e

line_is : (d n : ℕ) → blanks_kind d n ≡ indentation → n ≡ line_blanks d
line_is d n e = at (nat_eq n (line_blanks d)) refl (by_one d n indentation (nat_eq n 1) (omega arith) e)
  where
    behind : (t : Bool) → (if t then outdentation else other) ≡ indentation → n ≡ line_blanks d
    behind true e = absurd (omega arith)
    behind false e = absurd (omega arith)

    at : (t : Bool) → nat_eq n (line_blanks d) ≡ t → (if t then indentation else (if nat_eq n (closing_blanks d) then outdentation else other)) ≡ indentation → n ≡ line_blanks d
    at true same e = eqb-true n (line_blanks d) same
    at false same e = behind (nat_eq n (closing_blanks d)) e

closing_is : (d n : ℕ) → blanks_kind d n ≡ outdentation → n ≡ closing_blanks d
closing_is d n e = at (nat_eq n (line_blanks d)) (by_one d n outdentation (nat_eq n 1) (omega arith) e)
  where
    behind : (t : Bool) → nat_eq n (closing_blanks d) ≡ t → (if t then outdentation else other) ≡ outdentation → n ≡ closing_blanks d
    behind true same e = eqb-true n (closing_blanks d) same
    behind false same e = absurd (omega arith)

    at : (t : Bool) → (if t then indentation else (if nat_eq n (closing_blanks d) then outdentation else other)) ≡ outdentation → n ≡ closing_blanks d
    at true e = absurd (omega arith)
    at false e = behind (nat_eq n (closing_blanks d)) refl e

pub reads_indentation : (d : ℕ) (bytes : List ℕ) (n : ℕ) (rest : List ℕ) → BlanksFirst bytes n rest → blanks_kind d n ≡ indentation
    → reads_at d (token {A = Piece} indentation Some) (pieces bytes) ≡ Done (Blanks (line_blanks d)) (pieces rest)
reads_indentation d bytes n rest c e = reads_kind d indentation bytes n rest c e ∙ ap (λ k. Done (Blanks k) (pieces rest)) (line_is d n e)

pub reads_outdentation : (d : ℕ) (bytes : List ℕ) (n : ℕ) (rest : List ℕ) → BlanksFirst bytes n rest → blanks_kind d n ≡ outdentation
    → reads_at d (token {A = Piece} outdentation Some) (pieces bytes) ≡ Done (Blanks (closing_blanks d)) (pieces rest)
reads_outdentation d bytes n rest c e = reads_kind d outdentation bytes n rest c e ∙ ap (λ k. Done (Blanks k) (pieces rest)) (closing_is d n e)
