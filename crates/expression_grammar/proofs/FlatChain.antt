-- A chain is read flat as it is read level within level.
use Rattle.std.proofs.Common.{◌≡◌, ℕ, zero, suc, ◌+◌, ◌<◌, Bool, true, false, nat_lt, List, [], ◌∷◌, Option, Some, None, is_some, refl, sym, ap, ◌∙◌, arith, cond, eqb}
use Rattle.std.proofs.lemmas.Bool.{eqb-true, lt-ltb}
use Rattle.iv_words.specs.declared.Span.{Span}
use Rattle.ivory_lexer.specs.declared.Token.{Token}
use Rattle.ivory_tree.specs.declared.BinOp.{BinOp}
use Rattle.ivory_tree.specs.declared.Expr.{Expr}
use Rattle.ivory_tree.specs.declared.Link.{Link}
use Rattle.reading.specs.Row.{starts}
use Rattle.reading.specs.Reader.{Outcome, Done, Unexpected, TooDeep, Reader, and_then, mapped, spanning}
use Rattle.reading.proofs.Outcomes.{then_joined, then_same, then_nothing}
use Rattle.reading.proofs.Turns.{many_none}
use Rattle.expression_grammar.specs.Tokens.{span_of}
use Rattle.expression_grammar.specs.Operators.{looseness, binary_of, of_level, with_place, is_operator, below_level, binds_below}
use Rattle.expression_grammar.specs.Trees as tree
use Rattle.expression_grammar.specs.Reader.{link_reader, chain_reader}
use Rattle.expression_grammar.specs.FlatChain.{links_reader, linked, climb, flat_chain}

-- the last level of several is read behind the others
last_level : (k n m : ℕ) → m ≡ n + k → (operand : Reader Token Expr) (from : List Token) (x : Expr) (ts : List Token)
    → climb (suc k) n operand from x ts ≡ and_then (climb k n operand from x ts) (linked m operand from)
unfolding climb
last_level zero n m e operand from x ts =
    let same : n ≡ m = omega arith in
    then_nothing (linked n operand from x ts) (climb zero (suc n) operand from) (λ y rest. refl) ∙ ap (λ level. linked level operand from x ts) same
last_level (suc k) n m e operand from x ts =
    then_same (linked n operand from x ts) (climb (suc k) (suc n) operand from) (λ y rest. and_then (climb k (suc n) operand from y rest) (linked m operand from))
    (λ y rest. last_level k (suc n) m (omega arith) operand from y rest)
    ∙ sym (then_joined (linked n operand from x ts) (climb k (suc n) operand from) (linked m operand from))

-- what the reader of a chain does with the links of its last level
linked_last : (n : ℕ) (operand : Reader Token Expr) (ts : List Token) (o : Outcome Token Expr)
    → spanning (λ (p : Expr × List Link) front. tree.with_links p.0 p.1 (span_of front)) ts (and_then o (λ x rest. mapped (λ links. (x, links)) (links_reader n operand rest)))
    ≡ and_then o (linked n operand ts)
linked_last n operand ts (Done x rest) = at (links_reader n operand rest)
  where
    at : (o : Outcome Token (List Link))
        → spanning (λ (p : Expr × List Link) front. tree.with_links p.0 p.1 (span_of front)) ts (mapped (λ links. (x, links)) o)
        ≡ spanning (λ links front. tree.with_links x links (span_of front)) ts o
    at (Done links after) = refl
    at (Unexpected after) = refl
    at (TooDeep after) = refl
linked_last n operand ts (Unexpected rest) = refl
linked_last n operand ts (TooDeep rest) = refl

pub chain_is_flat : (n : ℕ) (operand : Reader Token Expr) (ts : List Token) → chain_reader n operand ts ≡ flat_chain n operand ts
unfolding chain_reader climb
chain_is_flat zero operand ts = sym (then_nothing (operand ts) (climb zero 0 operand ts) (λ x rest. refl))
chain_is_flat (suc n) operand ts =
    linked_last n operand ts (chain_reader n operand ts)
    ∙ ap (λ o. and_then o (linked n operand ts)) (chain_is_flat n operand ts)
    ∙ then_joined (operand ts) (climb n 0 operand ts) (linked n operand ts)
    ∙ sym (then_same (operand ts) (climb (suc n) 0 operand ts) (λ x rest. and_then (climb n 0 operand ts x rest) (linked n operand ts))
    (λ x rest. last_level n 0 n (omega arith) operand ts x rest))

-- ---- levels without an operator

pub level_without_links : (n : ℕ) (operand : Reader Token Expr) (from : List Token) (x : Expr) (ts : List Token) → starts (is_operator n) ts ≡ false → linked n operand from x ts ≡ Done x ts
level_without_links n operand from x ts none =
    ap (spanning (λ links front. tree.with_links x links (span_of front)) from) (many_none (is_operator n) (link_reader n (chain_reader n operand)) ts none)

-- an operator of this level is one below a looser level
no_place : (m n : ℕ) → n < m → (o : Option BinOp) (s : Span) → below_level m o ≡ false → is_some (with_place (of_level n o) s) ≡ false
no_place m n less None s none = refl
no_place m n less (Some o) s none = at (eqb (looseness o) n) refl
  where
    at : (b : Bool) → eqb (looseness o) n ≡ b → is_some (with_place (cond {A = Option BinOp} b (Some o) None) s) ≡ false
    at true e =
        let same : looseness o ≡ n = eqb-true (looseness o) n e in
        let lower : nat_lt (looseness o) m ≡ true = lt-ltb (looseness o) m (omega arith) in
        cc
    at false e = refl

no_operator : (m n : ℕ) → n < m → (ts : List Token) → starts (binds_below m) ts ≡ false → starts (is_operator n) ts ≡ false
no_operator m n less [] none = refl
no_operator m n less (t ∷ ts) none = no_place m n less (binary_of t.kind) t.span none

levels_without_links : (k n m : ℕ) → m ≡ n + k → (operand : Reader Token Expr) (from : List Token) (x : Expr) (ts : List Token) → starts (binds_below m) ts ≡ false
    → climb k n operand from x ts ≡ Done x ts
unfolding climb
levels_without_links zero n m e operand from x ts none = refl
levels_without_links (suc k) n m e operand from x ts none =
    ap (λ o. and_then o (climb k (suc n) operand from)) (level_without_links n operand from x ts (no_operator m n (omega arith) ts none))
    ∙ levels_without_links k (suc n) m (omega arith) operand from x ts none

-- an operand that no operator follows is the whole chain
pub lone_operand : (n : ℕ) (operand : Reader Token Expr) (ts : List Token) (x : Expr) (rest : List Token) → operand ts ≡ Done x rest → starts (binds_below n) rest ≡ false
    → flat_chain n operand ts ≡ Done x rest
lone_operand n operand ts x rest is none = ap (λ o. and_then o (climb n 0 operand ts)) is ∙ levels_without_links n 0 n (omega arith) operand ts x rest none

-- ---- a loop over the levels

-- so many levels are left from this one on, behind these tokens, to make what is wanted
pub record Climbs (wanted : Outcome Token Expr) (operand : Reader Token Expr) (from : List Token) (left at : ℕ) (x : Expr) (rest : List Token) : Type 0 where
  pub same : climb left at operand from x rest ≡ wanted

pub climbs_start : (level left : ℕ) (operand : Reader Token Expr) (from : List Token) (x : Expr) (rest : List Token) → left ≡ level
    → Climbs (climb level 0 operand from x rest) operand from left 0 x rest
climbs_start level left operand from x rest e = record { same = ap (λ n. climb n 0 operand from x rest) e }

module _ {wanted : Outcome Token Expr} {operand : Reader Token Expr} {from : List Token} {left at : ℕ} {x : Expr} {rest : List Token} (c : Climbs wanted operand from left at x rest) where
  one_level : (k : ℕ) (o : Outcome Token Expr) → left ≡ suc k → linked at operand from x rest ≡ o → and_then o (climb k (suc at) operand from) ≡ wanted
  unfolding climb
  one_level k o e is = ap (λ p. and_then p (climb k (suc at) operand from)) (sym is) ∙ ap (λ n. climb n at operand from x rest) (sym e) ∙ c.same

  pub climbs_after : (k next : ℕ) (y : Expr) (after : List Token) → left ≡ suc k → next ≡ suc at → linked at operand from x rest ≡ Done y after → Climbs wanted operand from k next y after
  climbs_after k next y after e f is = record { same = ap (λ n. climb k n operand from y after) f ∙ one_level k (Done y after) e is }

  -- a level without an operator
  pub climbs_past : (k next : ℕ) → left ≡ suc k → next ≡ suc at → starts (is_operator at) rest ≡ false → Climbs wanted operand from k next x rest
  climbs_past k next e f none = climbs_after k next x rest e f (level_without_links at operand from x rest none)

  pub climbs_end : left ≡ 0 → wanted ≡ Done x rest
  unfolding climb
  climbs_end e = sym c.same ∙ ap (λ n. climb n at operand from x rest) e

  pub climbs_unexpected : (k : ℕ) (r : List Token) → left ≡ suc k → linked at operand from x rest ≡ Unexpected r → wanted ≡ Unexpected r
  climbs_unexpected k r e is = sym (one_level k (Unexpected r) e is)

  pub climbs_too_deep : (k : ℕ) (r : List Token) → left ≡ suc k → linked at operand from x rest ≡ TooDeep r → wanted ≡ TooDeep r
  climbs_too_deep k r e is = sym (one_level k (TooDeep r) e is)
