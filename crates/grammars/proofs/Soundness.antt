-- A checked grammar is read exactly.
use Rattle.std.proofs.Common.{◌≡◌, ℕ, zero, suc, ◌+◌, ◌≤◌, ◌<◌, Bool, true, false, cond, List, [], ◌∷◌, ◌++◌, refl, sym, ap, ◌∙◌, subst, arith, Option, Some, None}
use Rattle.std.specs.Prelude.{nat_eq}
use Rattle.std.proofs.lemmas.Bool.{eqb-true}
use Rattle.reading.specs.Row.{Signs, no_signs, starts}
use Rattle.reading.specs.Language.{Language, Enclosed}
use Rattle.reading.specs.Reader.{Reader, choose, enclosed, whole, below}
use Rattle.reading.specs.Good.{Good}
use Rattle.reading.specs.Exact.{Spelled, Exact, answer}
use Rattle.reading.proofs.Same.{none, good_as, good_wider, good_map}
use Rattle.reading.proofs.Tokens.{good_give, good_accept}
use Rattle.reading.proofs.Sequence.{good_then}
use Rattle.reading.proofs.Choice.{good_choose}
use Rattle.reading.proofs.Repeat.{good_many}
use Rattle.reading.proofs.Nesting.{Within, barred_within, read_within, good_enclosed}
use Rattle.reading.proofs.Exactness.{exact, one_value}
use Rattle.grammars.specs.Grammar.{Lexicon, of_kind, stage, Rule, empty, token, map, sequence, split, choice, repeat, stages, brackets, Grammar}
use Rattle.grammars.specs.Kinds.{holds, common, when, at_stages, at_some_stage, nullable, first, goes_on}
use Rattle.grammars.specs.Spelled.{SpellsWith, Spells}
use Rattle.grammars.specs.Reader.{among, next, choose_kind, at_symbol, read_with, read}
use Rattle.grammars.specs.Checks.{clashes, Checked}
use Rattle.grammars.proofs.Sets.{holds_left, holds_right, holds_when, holds_self, holds_stage, some_stage, stage_within, common_back, kind_is, either_two}
use Rattle.grammars.proofs.Levels.{to_symbol, from_symbol}
use Rattle.grammars.proofs.Begins.{empty_row, first_in, starts_with, starts_apart}
use Rattle.grammars.proofs.Parts.{sequence_parts, split_parts, choice_parts, repeat_parts, stage_parts, bracket_parts, example_of}
use Rattle.grammars.proofs.Filled.{some_row}
use Rattle.grammars.proofs.Stages.{good_stages}

-- a choice by the kind of the next token is one by a test of it
next_kind : {T : Type 0} (lexicon : Lexicon T) (d : ℕ) (kinds : List ℕ) → holds kinds 0 ≡ false → (ts : List T) → starts (among lexicon d kinds) ts ≡ holds kinds (next lexicon d ts)
next_kind lexicon d kinds e [] = sym e
next_kind lexicon d kinds e (t ∷ ts) = refl

by_kind : {T A : Type 0} {signs : Signs T} {limit : ℕ} {c : T → Bool} {R : Language T A} (lexicon : Lexicon T) (d : ℕ) (kinds : List ℕ) → holds kinds 0 ≡ false → (p q : Reader T A)
    → Good signs limit c R (choose (among lexicon d kinds) p q) → Good signs limit c R (choose_kind lexicon d kinds p q)
by_kind {T} {A} {signs} {limit} {c} {R} lexicon d kinds e p q good =
    let same : choose (among lexicon d kinds) p q ≡ choose_kind lexicon d kinds p q = λ i ts. cond (next_kind lexicon d kinds e ts i) (p ts) (q ts) in
    subst (λ r. Good signs limit c R r) same good

-- where one kind and those of a set are apart from others
zero_out : (xs ys : List ℕ) → common xs (0 ∷ ys) ≡ [] → holds xs 0 ≡ false
zero_out xs ys e = common_back xs (0 ∷ ys) 0 e refl

rest_out : (xs ys : List ℕ) → common xs (0 ∷ ys) ≡ [] → (k : ℕ) → holds ys k ≡ true → holds xs k ≡ false
rest_out xs ys e k h = common_back xs (0 ∷ ys) k e (either_two (nat_eq 0 k) (holds ys k) h)

module _ {T N : Type 0} {Tree : N → Type 0} (lexicon : Lexicon T) (g : Grammar T N Tree) where
  abbrev After : ℕ → {A : Type 0} → Rule T N Tree A → T → Bool
  After d r = among lexicon d (goes_on r)

  abbrev Row_of : ℕ → {A : Type 0} → Rule T N Tree A → Language T A
  Row_of d r = SpellsWith lexicon d (Spells lexicon g (suc d)) r

  -- what can be read one level deeper
  data Inner (limit d : ℕ) : Option ((n : N) → Reader T (Tree n)) → Type 0 where
    barred_inner : limit < suc d → Inner limit d None
    read_inner : {p : (n : N) → Reader T (Tree n)} → suc d ≤ limit → ((n : N) → Good no_signs limit (After (suc d) (g n)) (Spells lexicon g (suc d) n) (p n)) → Inner limit d (Some p)

  within_at : (limit d : ℕ) (inner : Option ((n : N) → Reader T (Tree n))) → Inner limit d inner → (n : N)
      → Within no_signs limit d (After (suc d) (g n)) (Spells lexicon g (suc d) n) (at_symbol inner n)
  within_at limit d None (barred_inner low) n = barred_within low
  within_at limit d (Some p) (read_inner fits good) n = read_within fits (good n)

  closes_stop : (d k : ℕ) (xs : List ℕ) (t u : T) → holds xs k ≡ false → of_kind lexicon d k Some t ≡ Some u → among lexicon d xs t ≡ false
  closes_stop d k xs t u e is = ap (holds xs) (sym (eqb-true k (lexicon.kind d t) (kind_is (nat_eq k (lexicon.kind d t)) (Some t) u is))) ∙ e

  module _ (c : Checked lexicon g) where
    good_rule : {A : Type 0} (limit d : ℕ) → d ≤ limit → (inner : Option ((n : N) → Reader T (Tree n))) → Inner limit d inner → (r : Rule T N Tree A) → clashes lexicon g d r ≡ []
        → Good no_signs limit (After d r) (Row_of d r) (read_with lexicon d inner r)
    good_rule limit d fits inner h (empty a) s = good_give a
    good_rule limit d fits inner h (token k f) s = let w = example_of lexicon g d k f s in good_accept (of_kind lexicon d k f) fits w.0 w.1 w.2
    good_rule limit d fits inner h (map f p) s = good_map f (good_rule limit d fits inner h p s)
    good_rule limit d fits inner h (sequence f p q) s =
        let L = Spells lexicon g (suc d) in
        let w = sequence_parts lexicon g d f p q s in
        good_then (good_rule limit d fits inner h p w.0)
        (λ a. good_map (f a) (good_wider (λ t e. holds_left (goes_on q) (when (nullable q) (goes_on p)) (lexicon.kind d t) e) (good_rule limit d fits inner h q w.1)))
        (λ a b m row x. common_back (goes_on p) (first q) (lexicon.kind d m.token) w.2 (first_in lexicon d L q x.0 m row x.1))
        (λ a b x t e. holds_when (goes_on q) (goes_on p) (lexicon.kind d t) (nullable q) (empty_row lexicon d L q x.0 [] x.1 refl) e)
    good_rule limit d fits inner h (split last way f p rules) s =
        let L = Spells lexicon g (suc d) in
        let w = split_parts lexicon g d last way f p rules s in
        let at : ℕ → List ℕ = λ k. goes_on (rules k) in
        let ends = when (at_some_stage (λ k. nullable (rules k)) last) (goes_on p) in
        good_then (good_rule limit d fits inner h p w.0)
        (λ a. let k = stage last (way a) in
        let low = stage_within last (way a) in
        good_map (f a) (good_wider (λ t e. holds_left (at_stages at last) ends (lexicon.kind d t) (holds_stage at last k (lexicon.kind d t) low e)) (good_rule limit d fits inner h (rules k) (w.1 k low).0)))
        (λ a b m row x. let k = stage last (way a) in
        common_back (goes_on p) (first (rules k)) (lexicon.kind d m.token) (w.1 k (stage_within last (way a))).1 (first_in lexicon d L (rules k) x.0 m row x.1))
        (λ a b x t e. let k = stage last (way a) in
        holds_when (at_stages at last) (goes_on p) (lexicon.kind d t) (at_some_stage (λ k. nullable (rules k)) last)
        (some_stage (λ k. nullable (rules k)) last k (stage_within last (way a)) (empty_row lexicon d L (rules k) x.0 [] x.1 refl)) e)
    good_rule limit d fits inner h (choice p q) s =
        let L = Spells lexicon g (suc d) in
        let w = choice_parts lexicon g d p q s in
        let all = goes_on p ++ goes_on q in
        let ends = when (nullable q) (first p) in
        by_kind lexicon d (first p) (zero_out (first p) (first q) w.3) (read_with lexicon d inner p) (read_with lexicon d inner q)
        (good_choose
        (good_wider (λ t e. holds_left all ends (lexicon.kind d t) (holds_left (goes_on p) (goes_on q) (lexicon.kind d t) e)) (good_rule limit d fits inner h p w.0))
        (good_wider (λ t e. holds_left all ends (lexicon.kind d t) (holds_right (goes_on p) (goes_on q) (lexicon.kind d t) e)) (good_rule limit d fits inner h q w.1))
        (starts_with lexicon d L p w.2) (starts_apart lexicon d L (first p) q (rest_out (first p) (first q) w.3))
        (λ a x t e. holds_when all (first p) (lexicon.kind d t) (nullable q) (empty_row lexicon d L q a [] x refl) e))
    good_rule limit d fits inner h (repeat p) s =
        let w = repeat_parts lexicon g d p s in
        good_many (good_rule limit d fits inner h p w.0) (starts_with lexicon d (Spells lexicon g (suc d)) p w.1)
        (λ t e. common_back (goes_on p) (first p) (lexicon.kind d t) w.2 e)
        (λ t e. holds_left (first p) (goes_on p) (lexicon.kind d t) e) (λ t e. holds_right (first p) (goes_on p) (lexicon.kind d t) e)
    good_rule limit d fits inner h (stages last rank rules) s =
        let part = stage_parts lexicon g d last rank rules s in
        let follows : ℕ → List ℕ = λ k. first (rules k) ++ goes_on (rules k) in
        good_stages limit last rank (among lexicon d (at_stages follows last)) (λ k. After d (rules k)) (λ k. among lexicon d (first (rules k))) (λ k. Row_of d (rules k)) (λ k. read_with lexicon d inner (rules k))
        (λ k low. good_rule limit d fits inner h (rules k) (part k low).0)
        (λ k low. starts_with lexicon d (Spells lexicon g (suc d)) (rules k) (part k low).1)
        (λ k j low less t e. common_back (goes_on (rules k)) (first (rules j)) (lexicon.kind d t) ((part k low).2 j less) e)
        (λ k low t e. holds_stage follows last k (lexicon.kind d t) low (holds_left (first (rules k)) (goes_on (rules k)) (lexicon.kind d t) e))
        (λ k low t e. holds_stage follows last k (lexicon.kind d t) low (holds_right (first (rules k)) (goes_on (rules k)) (lexicon.kind d t) e))
        0 (omega arith)
    good_rule limit d fits inner h (brackets opens closes n) s =
        let w = bracket_parts lexicon g d opens closes n s in
        let from = example_of lexicon g d opens Some w.0 in
        let to = example_of lexicon g (suc d) closes Some w.1 in
        let deeper : suc d ≡ d + 1 = omega arith in
        subst (λ e. Good no_signs limit none (Enclosed d (of_kind lexicon d opens Some) (of_kind lexicon (suc d) closes Some) (λ x _. x) (Spells lexicon g (suc d) n))
        (enclosed (of_kind lexicon d opens Some) (of_kind lexicon e closes Some) (λ x _. x) (at_symbol inner n))) deeper
        (good_enclosed (λ x _. x) record {
          opening = from;
          closing = to;
          opens_plain = λ t o e. refl;
          closes_plain = λ t o e. refl;
          closes_stops = λ t o e. closes_stop (suc d) closes (goes_on (g n)) t o (common_back (goes_on (g n)) (closes ∷ []) closes w.2 (holds_self closes)) e;
        } (some_row lexicon g c (suc d) n) (within_at limit d inner h n))

    deeper_read : (limit k d : ℕ) (n : N) → Good no_signs limit (After (suc d) (g n)) (Spells lexicon g (suc d) n) (read lexicon g (suc d) k n)
        → Good no_signs limit (After (suc d) (g n)) (Spells lexicon g (suc d) n) (read lexicon g (d + 1) k n)
    deeper_read limit k d n good =
        let deeper : suc d ≡ d + 1 = omega arith in
        subst (λ e. Good no_signs limit (After (suc d) (g n)) (Spells lexicon g (suc d) n) (read lexicon g e k n)) deeper good

    pub good_read : (limit k d : ℕ) → d + k ≡ limit → (n : N) → Good no_signs limit (After d (g n)) (Spells lexicon g d n) (read lexicon g d k n)
    unfolding read
    good_read limit zero d e n = good_as (to_symbol lexicon g d n) (from_symbol lexicon g d n) (good_rule limit d (omega arith) None (barred_inner (omega arith)) (g n) (c.apart d n))
    good_read limit (suc k) d e n =
        good_as (to_symbol lexicon g d n) (from_symbol lexicon g d n)
        (good_rule limit d (omega arith) (Some (read lexicon g (d + 1) k)) (read_inner (omega arith) (λ m. deeper_read limit k d m (good_read limit k (suc d) (omega arith) m))) (g n) (c.apart d n))

    -- the answers for whole texts are exact at each limit, and no text has two values
    pub parsed_exactly : (n : N) (limit : ℕ) → Exact no_signs limit (Spells lexicon g 0 n) (λ ts. answer ts (whole (read lexicon g 0 limit n) ts))
    parsed_exactly n limit = exact (good_read limit limit 0 (omega arith) n)

    pub one_tree : (n : N) (x y : Tree n) (ts : List T) → Spelled (Spells lexicon g 0 n) x ts → Spelled (Spells lexicon g 0 n) y ts → x ≡ y
    one_tree n = one_value (Spells lexicon g 0 n) (λ limit ts. answer ts (whole (read lexicon g 0 limit n) ts)) (parsed_exactly n)

-- for the code: a symbol is read by its rule
pub read_below : {T N : Type 0} {Tree : N → Type 0} (lexicon : Lexicon T) (g : Grammar T N Tree) (d k : ℕ) (n : N)
    → read lexicon g d k n ≡ read_with lexicon d (below (read lexicon g (d + 1)) k) (g n)
unfolding read below
read_below lexicon g d zero n = refl
read_below lexicon g d (suc k) n = refl
