-- With which tokens a chain might go on behind its end, level by level.
use Rattle.std.proofs.Common.{◌≡◌, ℕ, zero, suc, ◌≤◌, ◌<◌, Bool, true, false, cond, if◌then◌else◌, refl, sym, ap, ◌∙◌, arith, Option, Some, None, is_some}
use Rattle.std.proofs.lemmas.Bool.{eqb-true}
use Rattle.iv_words.specs.declared.Span.{Span}
use Rattle.ivory_lexer.specs.declared.Token.{Token}
use Rattle.ivory_lexer.specs.declared.Mark.{Mark}
use Rattle.ivory_lexer.specs.declared.Mark.TheVariants as mark
use Rattle.ivory_tree.specs.declared.BinOp.{BinOp}
use Rattle.reading.proofs.Starts.{either, either_first, either_second, either_none}
use Rattle.expression_grammar.specs.Tokens.{is_mark, symbol}
use Rattle.expression_grammar.specs.Operators.{binary_of, looseness, of_level, with_place, is_operator}
use Rattle.expression_grammar.specs.Grammar.{operator_levels}
use Rattle.expression_grammar.specs.Reader.{begins_step}
use Rattle.expression_grammar.specs.Edges.{goes_on}
use Rattle.expression_grammar.proofs.Tokens.{marked, at_mark, not_mark, otherwise, symbol_passes}

-- a field or an index, or an operator of a level below this one
abbrev pub follows : ℕ → Token → Bool
follows zero t = begins_step t
follows (suc n) t = cond (is_operator n t) true (follows n t)

-- ---- levels

of_this : (n : ℕ) (x : BinOp) (s : Span) (b : Bool) → is_some (with_place (if b then Some x else None) s) ≡ true → b ≡ true
of_this n x s true e = refl
of_this n x s false e = cc

found : (n : ℕ) (o : Option BinOp) (s : Span) → is_some (with_place (of_level n o) s) ≡ true → (x : BinOp) × (o ≡ Some x) × (looseness x ≡ n)
found n None s e = cc
found n (Some x) s e = (x, refl, eqb-true (looseness x) n (of_this n x s _ e))

is_binary : (n : ℕ) (t : Token) → is_operator n t ≡ true → is_some (binary_of t.kind) ≡ true
is_binary n t e = let w = found n (binary_of t.kind) t.span e in ap is_some w.1

-- an operator has one level
one_level : (n k : ℕ) (t : Token) → is_operator n t ≡ true → is_operator k t ≡ true → n ≡ k
one_level n k t e h =
    let w = found n (binary_of t.kind) t.span e in
    let v = found k (binary_of t.kind) t.span h in
    let same : Some w.0 ≡ Some v.0 = sym w.1 ∙ v.1 in
    let inner : w.0 ≡ v.0 = cc in
    sym w.2 ∙ ap looseness inner ∙ v.2

other_level : (n k : ℕ) (t : Token) → is_operator n t ≡ true → k < n → is_operator k t ≡ false
other_level n k t e lt = otherwise (is_operator k t) true refl (λ is. absurd (let same : n ≡ k = one_level n k t e is in omega arith))

no_step : (n : ℕ) (t : Token) → is_operator n t ≡ true → begins_step t ≡ false
no_step n t e = either_none (is_mark mark.Dot) (is_mark mark.OpenBracket) t (not_mark (is_operator n) mark.Dot (λ s. refl) t e) (not_mark (is_operator n) mark.OpenBracket (λ s. refl) t e)

-- what is between the operands of a level ends each of them
pub apart : (n : ℕ) (t : Token) → is_operator n t ≡ true → (k : ℕ) → k ≤ n → follows k t ≡ false
apart n t e zero low = no_step n t e
apart n t e (suc k) low = either_none (is_operator k) (follows k) t (other_level n k t e (omega arith)) (apart n t e k (omega arith))

-- ---- of a whole expression

step_goes : (t : Token) → begins_step t ≡ true → goes_on t ≡ true
step_goes t e =
    either_second (is_mark mark.Question) (either (λ u. is_some (binary_of u.kind)) begins_step) t
    (either_second (λ u. is_some (binary_of u.kind)) begins_step t e)

operator_goes : (n : ℕ) (t : Token) → is_operator n t ≡ true → goes_on t ≡ true
operator_goes n t e =
    either_second (is_mark mark.Question) (either (λ u. is_some (binary_of u.kind)) begins_step) t
    (either_first (λ u. is_some (binary_of u.kind)) begins_step t (is_binary n t e))

-- one of two tests
pub one_of_two : (b c : Bool) (A : Type 0) → (b ≡ true → A) → (c ≡ true → A) → cond b true c ≡ true → A
one_of_two true c A first second e = first refl
one_of_two false c A first second e = second e

pub follows_goes : (n : ℕ) (t : Token) → follows n t ≡ true → goes_on t ≡ true
follows_goes zero t e = step_goes t e
follows_goes (suc n) t e = one_of_two (is_operator n t) (follows n t) (goes_on t ≡ true) (operator_goes n t) (follows_goes n t) e

pub question_goes : (t : Token) → is_mark mark.Question t ≡ true → goes_on t ≡ true
question_goes = at_mark goes_on true mark.Question (λ s. refl)

pub question_stops : (t : Token) → is_mark mark.Question t ≡ true → follows operator_levels t ≡ false
question_stops = at_mark (follows operator_levels) false mark.Question (λ s. refl)

-- a mark with which no expression goes on
pub symbol_stops : (a : Mark) → ((s : Span) → goes_on (marked a s) ≡ false) → (t : Token) (s : Span) → symbol a t ≡ Some s → goes_on t ≡ false
symbol_stops a computes t s e = at_mark goes_on false a computes t (symbol_passes a t s e)
