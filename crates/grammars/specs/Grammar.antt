-- A grammar as one value: a rule for each symbol, which is what stands between brackets somewhere, or the start. A rule is made
-- of tokens, sequences, choices by the first token, repetition and brackets, and says how its value is built.
use Rattle.std.specs.Prelude.{ℕ, nat_eq, nat_le, cond, List, ◌∷◌, Option, Some, None}

-- Each token has one kind at each depth, a number that is not 0; and each kind that a grammar names has some examples.
pub record Lexicon (T : Type 0) : Type 0 where
  pub kind : ℕ → T → ℕ
  pub examples : ℕ → ℕ → List T

-- the value that a token of this kind gives
abbrev pub of_kind : {T A : Type 0} → Lexicon T → ℕ → ℕ → (T → Option A) → T → Option A
of_kind lexicon d k f t = cond (nat_eq k (lexicon.kind d t)) (f t) None

-- the number of a way or a stage, which is at most the last
abbrev pub stage : ℕ → ℕ → ℕ
stage last rank = cond (nat_le rank last) rank last

pub data Rule (T N : Type 0) (Tree : N → Type 0) : Type 0 → Type 1 where
  -- nothing, with this value
  empty : {A : Type 0} → A → Rule T N Tree A
  -- one token of this kind that gives a value
  token : {A : Type 0} → ℕ → (T → Option A) → Rule T N Tree A
  map : {A B : Type 0} → (A → B) → Rule T N Tree A → Rule T N Tree B
  sequence : {A B C : Type 0} → (A → B → C) → Rule T N Tree A → Rule T N Tree B → Rule T N Tree C
  -- the value of what comes first tells which of several ways it goes on
  split : {A C : Type 0} {Y : ℕ → Type 0} (last : ℕ) (way : A → ℕ) → ((a : A) → Y (stage last (way a)) → C) → Rule T N Tree A → ((s : ℕ) → Rule T N Tree (Y s)) → Rule T N Tree C
  choice : {A : Type 0} → Rule T N Tree A → Rule T N Tree A → Rule T N Tree A
  repeat : {A : Type 0} → Rule T N Tree A → Rule T N Tree (List A)
  -- a list in stages, from 0 to the last: what comes tells by its rank at which stage the list is from then on
  stages : {A : Type 0} (last : ℕ) (rank : A → ℕ) → (ℕ → Rule T N Tree A) → Rule T N Tree (List A)
  -- a token of the first kind, the symbol one level deeper, and a token of the second kind
  brackets : ℕ → ℕ → (n : N) → Rule T N Tree (Tree n)

abbrev pub Grammar : (T N : Type 0) → (N → Type 0) → Type 1
Grammar T N Tree = (n : N) → Rule T N Tree (Tree n)

-- ---- in other words

module _ {T N : Type 0} {Tree : N → Type 0} where
  -- the token itself
  abbrev pub one : ℕ → Rule T N Tree T
  one k = token k Some

  abbrev pub after : {A B : Type 0} → Rule T N Tree A → Rule T N Tree B → Rule T N Tree B
  after p q = sequence (λ _ b. b) p q

  abbrev pub before : {A B : Type 0} → Rule T N Tree A → Rule T N Tree B → Rule T N Tree A
  before p q = sequence (λ a _. a) p q

  abbrev pub optional : {A : Type 0} → Rule T N Tree A → Rule T N Tree (Option A)
  optional p = choice (map Some p) (empty None)

  -- one or more
  abbrev pub separated : {A B : Type 0} → Rule T N Tree B → Rule T N Tree A → Rule T N Tree (List A)
  separated separator p = sequence (λ a more. a ∷ more) p (repeat (after separator p))
