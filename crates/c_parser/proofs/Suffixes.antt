-- What is left of the tokens is always what stands behind some of them.
use Rattle.std.proofs.Common.{◌≡◌, ℕ, zero, suc, ◌+◌, Bool, true, false, cond, List, [], ◌∷◌, ◌++◌, length, refl, sym, ap, ◌∙◌, append_assoc, Option, Some, None}
use Rattle.reading.specs.Row.{starts}
use Rattle.reading.specs.Reader.{Outcome, Done, Unexpected, TooDeep, Reader, ◌>>=◌, ◌<$>◌, and_then, mapped, accept, picked, bar, barred, enclosed, ended, many, many_up_to, below}
use Rattle.grammars.specs.Grammar as grammars
use Rattle.grammars.specs.Grammar.{Lexicon, of_kind, Rule, empty, token, sequence, split, choice, repeat, stages, brackets, Grammar, stage}
use Rattle.grammars.specs.Kinds.{holds, first}
use Rattle.grammars.specs.Reader.{at_symbol, next, stages_up_to, in_stages, among, read_with, read}

-- these stand behind some tokens
pub record Behind {T : Type 0} (ts rest : List T) : Type 0 where
  pub front : List T
  pub same : ts ≡ front ++ rest

pub Ends : {T A : Type 0} → List T → Outcome T A → Type 0
Ends ts (Done a rest) = Behind ts rest
Ends ts (Unexpected rest) = Behind ts rest
Ends ts (TooDeep rest) = Behind ts rest

module _ {T : Type 0} where
  pub end_done : {A : Type 0} (ts : List T) (o : Outcome T A) (a : A) (rest : List T) → Ends ts o → o ≡ Done a rest → Behind ts rest
  unfolding Ends
  end_done ts (Done b r) a rest l e = let same : r ≡ rest = cc in record { front = l.front; same = l.same ∙ ap (λ x. l.front ++ x) same }
  end_done ts (Unexpected r) a rest l e = cc
  end_done ts (TooDeep r) a rest l e = cc

  pub end_unexpected : {A : Type 0} (ts : List T) (o : Outcome T A) (rest : List T) → Ends ts o → o ≡ Unexpected rest → Behind ts rest
  unfolding Ends
  end_unexpected ts (Done b r) rest l e = cc
  end_unexpected ts (Unexpected r) rest l e = let same : r ≡ rest = cc in record { front = l.front; same = l.same ∙ ap (λ x. l.front ++ x) same }
  end_unexpected ts (TooDeep r) rest l e = cc

  pub end_too_deep : {A : Type 0} (ts : List T) (o : Outcome T A) (rest : List T) → Ends ts o → o ≡ TooDeep rest → Behind ts rest
  unfolding Ends
  end_too_deep ts (Done b r) rest l e = cc
  end_too_deep ts (Unexpected r) rest l e = cc
  end_too_deep ts (TooDeep r) rest l e = let same : r ≡ rest = cc in record { front = l.front; same = l.same ∙ ap (λ x. l.front ++ x) same }

  all_left : (ts : List T) → Behind ts ts
  all_left ts = record { front = []; same = refl }

  one_gone : (t : T) (ts : List T) → Behind (t ∷ ts) ts
  one_gone t ts = record { front = t ∷ []; same = refl }

  further : (ts rest more : List T) → Behind ts rest → Behind rest more → Behind ts more
  further ts rest more b c = record { front = b.front ++ c.front; same = b.same ∙ ap (λ x. b.front ++ x) c.same ∙ sym (append_assoc b.front c.front more) }

  mapped_ends : {A B : Type 0} (ts : List T) (f : A → B) (o : Outcome T A) → Ends ts o → Ends ts (mapped f o)
  unfolding Ends
  mapped_ends ts f (Done a rest) l = l
  mapped_ends ts f (Unexpected rest) l = l
  mapped_ends ts f (TooDeep rest) l = l

  further_ends : {A : Type 0} (ts rest : List T) (o : Outcome T A) → Behind ts rest → Ends rest o → Ends ts o
  unfolding Ends
  further_ends ts rest (Done a r) b l = further ts rest r b l
  further_ends ts rest (Unexpected r) b l = further ts rest r b l
  further_ends ts rest (TooDeep r) b l = further ts rest r b l

  then_ends : {A B : Type 0} (ts : List T) (o : Outcome T A) (q : A → Reader T B) → Ends ts o → ((a : A) (rest : List T) → Ends rest (q a rest)) → Ends ts (and_then o q)
  unfolding Ends
  then_ends ts (Done a rest) q l h = further_ends ts rest (q a rest) l (h a rest)
  then_ends ts (Unexpected rest) q l h = l
  then_ends ts (TooDeep rest) q l h = l

  cond_ends : {A : Type 0} (ts : List T) (t : Bool) (a b : Outcome T A) → Ends ts a → Ends ts b → Ends ts (cond t a b)
  cond_ends ts true a b l m = l
  cond_ends ts false a b l m = m

  done_ends : {A : Type 0} (ts : List T) (a : A) → Ends ts (Done a ts)
  unfolding Ends
  done_ends ts a = all_left ts

  picked_ends : {A : Type 0} (o : Option A) (t : T) (ts : List T) → Ends (t ∷ ts) (picked o t ts)
  unfolding Ends
  picked_ends (Some a) t ts = one_gone t ts
  picked_ends None t ts = all_left (t ∷ ts)

  accept_ends : {A : Type 0} (select : T → Option A) (ts : List T) → Ends ts (accept select ts)
  unfolding Ends
  accept_ends select [] = all_left []
  accept_ends select (t ∷ ts) = picked_ends (select t) t ts

  barred_ends : {A : Type 0} (B : Type 0) (o : Option A) (ts : List T) → Ends ts (barred {B = B} o ts)
  unfolding Ends
  barred_ends B (Some a) ts = all_left ts
  barred_ends B None ts = all_left ts

  bar_ends : {A : Type 0} (B : Type 0) (select : T → Option A) (ts : List T) → Ends ts (bar {B = B} select ts)
  unfolding Ends
  bar_ends B select [] = all_left []
  bar_ends B select (t ∷ ts) = barred_ends B (select t) (t ∷ ts)

  many_ends : {A : Type 0} (test : T → Bool) (p : Reader T A) → ((ts : List T) → Ends ts (p ts)) → (n : ℕ) (ts : List T) → Ends ts (many_up_to n test p ts)
  many_ends test p h zero ts = done_ends ts []
  many_ends test p h (suc n) ts =
      cond_ends ts (starts test ts) _ _ (then_ends ts (p ts) (λ a rest. mapped (λ more. a ∷ more) (many_up_to n test p rest)) (h ts) (λ a rest. mapped_ends rest (λ more. a ∷ more) (many_up_to n test p rest) (many_ends test p h n rest))) (done_ends ts [])

  stages_end : {A : Type 0} (last : ℕ) (rank : A → ℕ) (test : ℕ → T → Bool) (p : ℕ → Reader T A) → ((s : ℕ) (ts : List T) → Ends ts (p s ts)) → (n s : ℕ) (ts : List T) → Ends ts (stages_up_to n last rank test p s ts)
  stages_end last rank test p h zero s ts = done_ends ts []
  stages_end last rank test p h (suc n) s ts =
      cond_ends ts (starts (test s) ts) _ _ (then_ends ts (p s ts) (λ a rest. mapped (λ more. a ∷ more) (stages_up_to n last rank test p (stage last (rank a)) rest)) (h s ts)
      (λ a rest. mapped_ends rest (λ more. a ∷ more) (stages_up_to n last rank test p (stage last (rank a)) rest) (stages_end last rank test p h n (stage last (rank a)) rest))) (done_ends ts [])

module _ {T N : Type 0} {Tree : N → Type 0} (lexicon : Lexicon T) where
  pub InnerEnds : Option ((n : N) → Reader T (Tree n)) → Type 0
  InnerEnds None = Unit {0}
  InnerEnds (Some p) = (n : N) (ts : List T) → Ends ts (p n ts)

  bracket_ends : (d opens closes : ℕ) (n : N) (inner : Option ((n : N) → Reader T (Tree n))) → InnerEnds inner → (ts : List T)
      → Ends ts (enclosed (of_kind lexicon d opens Some) (of_kind lexicon (d + 1) closes Some) (λ x _. x) (at_symbol inner n) ts)
  unfolding InnerEnds
  bracket_ends d opens closes n None h ts = bar_ends (Tree n) (of_kind lexicon d opens Some) ts
  bracket_ends d opens closes n (Some p) h ts =
      then_ends ts (accept (of_kind lexicon d opens Some) ts) (λ _. p n >>= λ x. (λ _. x) <$> accept (of_kind lexicon (d + 1) closes Some)) (accept_ends (of_kind lexicon d opens Some) ts)
      (λ a rest. then_ends rest (p n rest) (λ x. (λ _. x) <$> accept (of_kind lexicon (d + 1) closes Some)) (h n rest)
      (λ x r. mapped_ends r (λ _. x) (accept (of_kind lexicon (d + 1) closes Some) r) (accept_ends (of_kind lexicon (d + 1) closes Some) r)))

  pub rule_ends : {A : Type 0} (d : ℕ) (inner : Option ((n : N) → Reader T (Tree n))) → InnerEnds inner → (r : Rule T N Tree A) (ts : List T) → Ends ts (read_with lexicon d inner r ts)
  unfolding many in_stages
  rule_ends d inner h (empty a) ts = done_ends ts a
  rule_ends d inner h (token k f) ts = accept_ends (of_kind lexicon d k f) ts
  rule_ends d inner h (grammars.map f p) ts = mapped_ends ts f (read_with lexicon d inner p ts) (rule_ends d inner h p ts)
  rule_ends d inner h (sequence f p q) ts =
      then_ends ts (read_with lexicon d inner p ts) (λ a. f a <$> read_with lexicon d inner q) (rule_ends d inner h p ts)
      (λ a rest. mapped_ends rest (f a) (read_with lexicon d inner q rest) (rule_ends d inner h q rest))
  rule_ends d inner h (split last way f p rules) ts =
      then_ends ts (read_with lexicon d inner p ts) (λ a. f a <$> read_with lexicon d inner (rules (stage last (way a)))) (rule_ends d inner h p ts)
      (λ a rest. mapped_ends rest (f a) (read_with lexicon d inner (rules (stage last (way a))) rest) (rule_ends d inner h (rules (stage last (way a))) rest))
  rule_ends d inner h (choice p q) ts = cond_ends ts (holds (first p) (next lexicon d ts)) _ _ (rule_ends d inner h p ts) (rule_ends d inner h q ts)
  rule_ends d inner h (repeat p) ts = many_ends (among lexicon d (first p)) (read_with lexicon d inner p) (rule_ends d inner h p) (length ts) ts
  rule_ends d inner h (stages last rank rules) ts =
      stages_end last rank (λ s. among lexicon d (first (rules s))) (λ s. read_with lexicon d inner (rules s)) (λ s r. rule_ends d inner h (rules s) r) (length ts) 0 ts
  rule_ends d inner h (brackets opens closes n) ts = bracket_ends d opens closes n inner h ts

  module _ (g : Grammar T N Tree) where
    read_ends : (d k : ℕ) (n : N) (ts : List T) → Ends ts (read lexicon g d k n ts)
    unfolding read InnerEnds
    read_ends d zero n ts = rule_ends d None tt (g n) ts
    read_ends d (suc k) n ts = rule_ends d (Some (read lexicon g (d + 1) k)) (λ m r. read_ends (d + 1) k m r) (g n) ts

    pub below_ends : (d k : ℕ) → InnerEnds (below (read lexicon g d) k)
    unfolding below InnerEnds
    below_ends d zero = tt
    below_ends d (suc k) = λ n ts. read_ends d k n ts
