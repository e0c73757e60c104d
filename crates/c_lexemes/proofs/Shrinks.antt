-- What is left of the tokens is never more than there were, and less behind a rule that is not empty.
use Rattle.std.proofs.Common.{◌≡◌, ℕ, zero, suc, ◌+◌, ◌-◌, ◌≤◌, Bool, true, false, cond, List, [], ◌∷◌, length, refl, sym, ap, ◌∙◌, subst, arith, Option, Some, None}
use Rattle.std.specs.Prelude.{nat_le}
use Rattle.reading.specs.Row.{starts}
use Rattle.reading.specs.Reader.{Outcome, Done, Unexpected, TooDeep, Reader, ◌>>=◌, ◌<$>◌, and_then, mapped, accept, picked, bar, barred, enclosed, many, many_up_to, below, give}
use Rattle.grammars.specs.Grammar as grammars
use Rattle.grammars.specs.Grammar.{Lexicon, of_kind, Rule, empty, token, sequence, split, choice, repeat, stages, brackets, Grammar, stage}
use Rattle.grammars.specs.Kinds.{holds, first, nullable, at_some_stage}
use Rattle.grammars.specs.Reader.{at_symbol, next, stages_up_to, in_stages, among, read_with, read}
use Rattle.grammars.proofs.Sets.{some_stage, stage_within}

-- ---- outcomes

-- so many tokens at least are gone
pub Left : {T A : Type 0} → ℕ → List T → Outcome T A → Type 0
Left n ts (Done a rest) = n + length rest ≤ length ts
Left n ts (Unexpected rest) = Unit {0}
Left n ts (TooDeep rest) = Unit {0}

module _ {T : Type 0} where
  pub left_done : {A : Type 0} (n : ℕ) (ts : List T) (o : Outcome T A) (a : A) (rest : List T) → Left n ts o → o ≡ Done a rest → n + length rest ≤ length ts
  unfolding Left
  left_done n ts o a rest l e = subst (Left n ts) e l

  less_left : {A : Type 0} (m n : ℕ) (ts : List T) (o : Outcome T A) → n ≤ m → Left m ts o → Left n ts o
  unfolding Left
  less_left m n ts (Done a rest) le l = omega (arith, le, l)
  less_left m n ts (Unexpected rest) le l = tt
  less_left m n ts (TooDeep rest) le l = tt

  mapped_left : {A B : Type 0} (n : ℕ) (ts : List T) (f : A → B) (o : Outcome T A) → Left n ts o → Left n ts (mapped f o)
  unfolding Left
  mapped_left n ts f (Done a rest) l = l
  mapped_left n ts f (Unexpected rest) l = tt
  mapped_left n ts f (TooDeep rest) l = tt

  further_left : {A : Type 0} (m n : ℕ) (ts rest : List T) (o : Outcome T A) → m + length rest ≤ length ts → Left n rest o → Left (m + n) ts o
  unfolding Left
  further_left m n ts rest (Done a r) le l = omega (arith, le, l)
  further_left m n ts rest (Unexpected r) le l = tt
  further_left m n ts rest (TooDeep r) le l = tt

  then_left : {A B : Type 0} (m n : ℕ) (ts : List T) (o : Outcome T A) (q : A → Reader T B) → Left m ts o → ((a : A) (rest : List T) → Left n rest (q a rest)) → Left (m + n) ts (and_then o q)
  unfolding Left
  then_left m n ts (Done a rest) q l h = further_left m n ts rest (q a rest) l (h a rest)
  then_left m n ts (Unexpected rest) q l h = tt
  then_left m n ts (TooDeep rest) q l h = tt

  cond_left : {A : Type 0} (n : ℕ) (ts : List T) (t : Bool) (a b : Outcome T A) → Left n ts a → Left n ts b → Left n ts (cond t a b)
  cond_left n ts true a b l m = l
  cond_left n ts false a b l m = m

  done_left : {A : Type 0} (ts : List T) (a : A) → Left 0 ts (Done a ts)
  unfolding Left
  done_left ts a = omega arith

  picked_left : {A : Type 0} (o : Option A) (t : T) (ts : List T) → Left 1 (t ∷ ts) (picked o t ts)
  unfolding Left
  picked_left (Some a) t ts = omega arith
  picked_left None t ts = tt

  accept_left : {A : Type 0} (select : T → Option A) (ts : List T) → Left 1 ts (accept select ts)
  unfolding Left
  accept_left select [] = tt
  accept_left select (t ∷ ts) = picked_left (select t) t ts

  barred_left : {A : Type 0} (B : Type 0) (o : Option A) (ts : List T) → Left 1 ts (barred {B = B} o ts)
  unfolding Left
  barred_left B (Some a) ts = tt
  barred_left B None ts = tt

  bar_left : {A : Type 0} (B : Type 0) (select : T → Option A) (ts : List T) → Left 1 ts (bar {B = B} select ts)
  unfolding Left
  bar_left B select [] = tt
  bar_left B select (t ∷ ts) = barred_left B (select t) (t ∷ ts)

  many_left : {A : Type 0} (test : T → Bool) (p : Reader T A) → ((ts : List T) → Left 0 ts (p ts)) → (n : ℕ) (ts : List T) → Left 0 ts (many_up_to n test p ts)
  many_left test p h zero ts = done_left ts []
  many_left {A} test p h (suc n) ts =
      let more : List A → A → List A = λ xs a. a ∷ xs in
      cond_left 0 ts (starts test ts) _ _ (then_left 0 0 ts (p ts) (λ a rest. mapped (λ more. a ∷ more) (many_up_to n test p rest)) (h ts) (λ a rest. mapped_left 0 rest (λ more. a ∷ more) (many_up_to n test p rest) (many_left test p h n rest))) (done_left ts [])

  stages_left : {A : Type 0} (last : ℕ) (rank : A → ℕ) (test : ℕ → T → Bool) (p : ℕ → Reader T A) → ((s : ℕ) (ts : List T) → Left 0 ts (p s ts)) → (n s : ℕ) (ts : List T) → Left 0 ts (stages_up_to n last rank test p s ts)
  stages_left last rank test p h zero s ts = done_left ts []
  stages_left last rank test p h (suc n) s ts =
      cond_left 0 ts (starts (test s) ts) _ _ (then_left 0 0 ts (p s ts) (λ a rest. mapped (λ more. a ∷ more) (stages_up_to n last rank test p (stage last (rank a)) rest)) (h s ts)
      (λ a rest. mapped_left 0 rest (λ more. a ∷ more) (stages_up_to n last rank test p (stage last (rank a)) rest) (stages_left last rank test p h n (stage last (rank a)) rest))) (done_left ts [])

-- ---- rules

-- the tokens that a rule takes at least
abbrev pub cost : Bool → ℕ
cost true = 0
cost false = 1

sequence_cost : (b c : Bool) → cost (cond b c false) ≤ cost b + cost c
sequence_cost true true = omega arith
sequence_cost true false = omega arith
sequence_cost false c = omega arith

choice_first : (b c : Bool) → cost (cond b true c) ≤ cost b
choice_first true c = omega arith
choice_first false true = omega arith
choice_first false false = omega arith

choice_second : (b c : Bool) → cost (cond b true c) ≤ cost c
choice_second true c = omega arith
choice_second false c = omega arith

split_cost : (b : Bool) (f : ℕ → Bool) (last s : ℕ) → s ≤ last → cost (cond b (at_some_stage f last) false) ≤ cost b + cost (f s)
split_cost false f last s low = omega arith
split_cost true f last s low = at (f s) refl
  where
    any : (c : Bool) → cost c ≤ 1
    any true = omega arith
    any false = omega arith

    at : (c : Bool) → f s ≡ c → cost (at_some_stage f last) ≤ 0 + cost c
    at true e = let some : at_some_stage f last ≡ true = some_stage f last s low e in omega (arith, ap cost some)
    at false e = let a = any (at_some_stage f last) in omega (arith, a)

module _ {T N : Type 0} {Tree : N → Type 0} (lexicon : Lexicon T) where
  pub InnerLeft : Option ((n : N) → Reader T (Tree n)) → Type 0
  InnerLeft None = Unit {0}
  InnerLeft (Some p) = (n : N) (ts : List T) → Left 0 ts (p n ts)

  bracket_left : (d opens closes : ℕ) (n : N) (inner : Option ((n : N) → Reader T (Tree n))) → InnerLeft inner → (ts : List T)
      → Left 1 ts (enclosed (of_kind lexicon d opens Some) (of_kind lexicon (d + 1) closes Some) (λ x _. x) (at_symbol inner n) ts)
  unfolding InnerLeft
  bracket_left d opens closes n None h ts = bar_left (Tree n) (of_kind lexicon d opens Some) ts
  bracket_left d opens closes n (Some p) h ts =
      then_left 1 0 ts (accept (of_kind lexicon d opens Some) ts) (λ _. p n >>= λ x. (λ _. x) <$> accept (of_kind lexicon (d + 1) closes Some)) (accept_left (of_kind lexicon d opens Some) ts)
      (λ a rest. then_left 0 0 rest (p n rest) (λ x. (λ _. x) <$> accept (of_kind lexicon (d + 1) closes Some)) (h n rest)
      (λ x r. mapped_left 0 r (λ _. x) (accept (of_kind lexicon (d + 1) closes Some) r) (less_left 1 0 r _ (omega arith) (accept_left (of_kind lexicon (d + 1) closes Some) r))))

  pub rule_left : {A : Type 0} (d : ℕ) (inner : Option ((n : N) → Reader T (Tree n))) → InnerLeft inner → (r : Rule T N Tree A) (ts : List T) → Left (cost (nullable r)) ts (read_with lexicon d inner r ts)
  unfolding many in_stages
  rule_left d inner h (empty a) ts = done_left ts a
  rule_left d inner h (token k f) ts = accept_left (of_kind lexicon d k f) ts
  rule_left d inner h (grammars.map f p) ts = mapped_left (cost (nullable p)) ts f (read_with lexicon d inner p ts) (rule_left d inner h p ts)
  rule_left d inner h (sequence f p q) ts =
      less_left (cost (nullable p) + cost (nullable q)) (cost (nullable (sequence f p q))) ts _ (sequence_cost (nullable p) (nullable q))
      (then_left (cost (nullable p)) (cost (nullable q)) ts (read_with lexicon d inner p ts) (λ a. f a <$> read_with lexicon d inner q) (rule_left d inner h p ts)
      (λ a rest. mapped_left (cost (nullable q)) rest (f a) (read_with lexicon d inner q rest) (rule_left d inner h q rest)))
  rule_left d inner h (split last way f p rules) ts =
      let c = cost (cond (nullable p) (at_some_stage (λ s. nullable (rules s)) last) false) in
      let least : (s : ℕ) → s ≤ last → (rest : List T) → Left (c - cost (nullable p)) rest (read_with lexicon d inner (rules s) rest) = λ s low rest.
      less_left (cost (nullable (rules s))) (c - cost (nullable p)) rest _ (let le = split_cost (nullable p) (λ s. nullable (rules s)) last s low in omega (arith, le)) (rule_left d inner h (rules s) rest) in
      less_left (cost (nullable p) + (c - cost (nullable p))) c ts _ (omega arith)
      (then_left (cost (nullable p)) (c - cost (nullable p)) ts (read_with lexicon d inner p ts) (λ a. f a <$> read_with lexicon d inner (rules (stage last (way a)))) (rule_left d inner h p ts)
      (λ a rest. mapped_left (c - cost (nullable p)) rest (f a) (read_with lexicon d inner (rules (stage last (way a))) rest) (least (stage last (way a)) (stage_within last (way a)) rest)))
  rule_left d inner h (choice p q) ts =
      cond_left (cost (nullable (choice p q))) ts (holds (first p) (next lexicon d ts)) _ _
      (less_left (cost (nullable p)) (cost (nullable (choice p q))) ts _ (choice_first (nullable p) (nullable q)) (rule_left d inner h p ts))
      (less_left (cost (nullable q)) (cost (nullable (choice p q))) ts _ (choice_second (nullable p) (nullable q)) (rule_left d inner h q ts))
  rule_left d inner h (repeat p) ts = many_left (among lexicon d (first p)) (read_with lexicon d inner p) (λ r. less_left (cost (nullable p)) 0 r _ (omega arith) (rule_left d inner h p r)) (length ts) ts
  rule_left d inner h (stages last rank rules) ts =
      stages_left last rank (λ s. among lexicon d (first (rules s))) (λ s. read_with lexicon d inner (rules s)) (λ s r. less_left (cost (nullable (rules s))) 0 r _ (omega arith) (rule_left d inner h (rules s) r)) (length ts) 0 ts
  rule_left d inner h (brackets opens closes n) ts = bracket_left d opens closes n inner h ts

  module _ (g : Grammar T N Tree) where
    read_left : (d k : ℕ) (n : N) (ts : List T) → Left 0 ts (read lexicon g d k n ts)
    unfolding read InnerLeft
    read_left d zero n ts = less_left (cost (nullable (g n))) 0 ts _ (omega arith) (rule_left d None tt (g n) ts)
    read_left d (suc k) n ts = less_left (cost (nullable (g n))) 0 ts _ (omega arith) (rule_left d (Some (read lexicon g (d + 1) k)) (λ m r. read_left (d + 1) k m r) (g n) ts)

    pub below_left : (d k : ℕ) → InnerLeft (below (read lexicon g d) k)
    unfolding below InnerLeft
    below_left d zero = tt
    below_left d (suc k) = λ n ts. read_left d k n ts

-- ---- lists

-- where each element takes a token, more turns than there are tokens make no difference
module _ {T A : Type 0} (test : T → Bool) (p : Reader T A) (h : (ts : List T) → Left 1 ts (p ts)) where
  turn : ℕ → Outcome T A → Outcome T (List A)
  turn n o = and_then o (λ a rest. mapped (λ more. a ∷ more) (many_up_to n test p rest))

  same_turn : (n k : ℕ) (ts : List T) → length ts ≤ suc n → length ts ≤ suc k → ((r : List T) → length r ≤ n → length r ≤ k → many_up_to n test p r ≡ many_up_to k test p r)
      → (o : Outcome T A) → Left 1 ts o → turn n o ≡ turn k o
  unfolding turn Left
  same_turn n k ts a b ih (Done v r) l = ap (mapped (λ more. v ∷ more)) (ih r (omega (arith, l)) (omega (arith, l)))
  same_turn n k ts a b ih (Unexpected r) l = refl
  same_turn n k ts a b ih (TooDeep r) l = refl

  pub same_bound : (n k : ℕ) (ts : List T) → length ts ≤ n → length ts ≤ k → many_up_to n test p ts ≡ many_up_to k test p ts
  unfolding turn
  same_bound zero zero ts a b = refl
  same_bound zero (suc k) [] a b = refl
  same_bound zero (suc k) (t ∷ ts) a b = absurd (omega arith)
  same_bound (suc n) zero [] a b = refl
  same_bound (suc n) zero (t ∷ ts) a b = absurd (omega arith)
  same_bound (suc n) (suc k) ts a b = ap (λ o. cond (starts test ts) o (Done [] ts)) (same_turn n k ts a b (λ r x y. same_bound n k r x y) (p ts) (h ts))

-- and so in stages
module _ {T A : Type 0} (last : ℕ) (rank : A → ℕ) (test : ℕ → T → Bool) (p : ℕ → Reader T A) (h : (s : ℕ) (ts : List T) → s ≤ last → Left 1 ts (p s ts)) where
  abbrev up : ℕ → ℕ → List T → Outcome T (List A)
  up n s ts = stages_up_to n last rank test p s ts

  stage_turn : ℕ → Outcome T A → Outcome T (List A)
  stage_turn n o = and_then o (λ a rest. mapped (λ more. a ∷ more) (up n (stage last (rank a)) rest))

  same_stage_turn : (n k : ℕ) (ts : List T) → length ts ≤ suc n → length ts ≤ suc k → ((s : ℕ) (r : List T) → s ≤ last → length r ≤ n → length r ≤ k → up n s r ≡ up k s r)
      → (o : Outcome T A) → Left 1 ts o → stage_turn n o ≡ stage_turn k o
  unfolding stage_turn Left
  same_stage_turn n k ts a b ih (Done v r) l = ap (mapped (λ more. v ∷ more)) (ih (stage last (rank v)) r (stage_within last (rank v)) (omega (arith, l)) (omega (arith, l)))
  same_stage_turn n k ts a b ih (Unexpected r) l = refl
  same_stage_turn n k ts a b ih (TooDeep r) l = refl

  pub same_stages : (n k s : ℕ) (ts : List T) → s ≤ last → length ts ≤ n → length ts ≤ k → up n s ts ≡ up k s ts
  unfolding stage_turn
  same_stages zero zero s ts low a b = refl
  same_stages zero (suc k) s [] low a b = refl
  same_stages zero (suc k) s (t ∷ ts) low a b = absurd (omega arith)
  same_stages (suc n) zero s [] low a b = refl
  same_stages (suc n) zero s (t ∷ ts) low a b = absurd (omega arith)
  same_stages (suc n) (suc k) s ts low a b = ap (λ o. cond (starts (test s) ts) o (Done [] ts)) (same_stage_turn n k ts a b (λ s r l x y. same_stages n k s r l x y) (p s ts) (h s ts low))
