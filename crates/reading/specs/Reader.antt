-- Readers: total functions that read tokens from left to right, made of a few combinators.
use Rattle.std.specs.Prelude.{ℕ, zero, suc, Bool, false, List, [], ◌∷◌, length, take, ◌-◌, Option, Some, None, cond, not}
use Rattle.reading.specs.Row.{Signs, starts}

-- A value and the tokens that are left, or the tokens from the fault on.
pub data Outcome (T A : Type 0) : Type 0 where
  Done : A → List T → Outcome T A
  Unexpected : List T → Outcome T A
  TooDeep : List T → Outcome T A

abbrev pub Reader : Type 0 → Type 0 → Type 0
Reader T A = List T → Outcome T A

abbrev pub give : {T A : Type 0} → A → Reader T A
give a = λ ts. Done a ts

-- ---- one token

abbrev pub picked : {T A : Type 0} → Option A → T → List T → Outcome T A
picked (Some a) t ts = Done a ts
picked None t ts = Unexpected (t ∷ ts)

abbrev pub accept : {T A : Type 0} → (T → Option A) → Reader T A
accept select [] = Unexpected []
accept select (t ∷ ts) = picked (select t) t ts

-- ---- one after the other

abbrev pub and_then : {T A B : Type 0} → Outcome T A → (A → Reader T B) → Outcome T B
and_then (Done a rest) q = q a rest
and_then (Unexpected rest) q = Unexpected rest
and_then (TooDeep rest) q = TooDeep rest

infixl 10 ◌>>=◌
abbrev pub ◌>>=◌ : {T A B : Type 0} → Reader T A → (A → Reader T B) → Reader T B
p >>= q = λ ts. and_then (p ts) q

abbrev pub mapped : {T A B : Type 0} → (A → B) → Outcome T A → Outcome T B
mapped f (Done a rest) = Done (f a) rest
mapped f (Unexpected rest) = Unexpected rest
mapped f (TooDeep rest) = TooDeep rest

infixr 11 ◌<$>◌
abbrev pub ◌<$>◌ : {T A B : Type 0} → (A → B) → Reader T A → Reader T B
f <$> p = λ ts. mapped f (p ts)

abbrev pub after : {T A B : Type 0} → Reader T A → Reader T B → Reader T B
after p q = p >>= λ _. q

abbrev pub before : {T A B : Type 0} → Reader T A → Reader T B → Reader T A
before p q = p >>= λ a. (λ _. a) <$> q

-- the tokens that were read, where these are left
unfoldable pub front : {T : Type 0} → List T → List T → List T
front ts rest = take (length ts - length rest) ts

abbrev pub spanning : {T A B : Type 0} → (A → List T → B) → List T → Outcome T A → Outcome T B
spanning f ts (Done a rest) = Done (f a (front ts rest)) rest
spanning f ts (Unexpected rest) = Unexpected rest
spanning f ts (TooDeep rest) = TooDeep rest

abbrev pub spanned : {T A B : Type 0} → (A → List T → B) → Reader T A → Reader T B
spanned f p = λ ts. spanning f ts (p ts)

-- ---- choices

-- by the first token
abbrev pub choose : {T A : Type 0} → (T → Bool) → Reader T A → Reader T A → Reader T A
choose test p q = λ ts. cond (starts test ts) (p ts) (q ts)

-- by the first two tokens
abbrev pub pair_first : {T : Type 0} → (T → Bool) → (T → Bool) → List T → Bool
pair_first one two [] = false
pair_first one two (t ∷ ts) = cond (one t) (starts two ts) false

abbrev pub choose_pair : {T A : Type 0} → (T → Bool) → (T → Bool) → Reader T A → Reader T A → Reader T A
choose_pair one two p q = λ ts. cond (pair_first one two ts) (p ts) (q ts)

-- by the head of the first token, if it has one
abbrev pub head_of : {T H : Type 0} → (T → Option H) → List T → Option H
head_of head [] = None
head_of head (t ∷ ts) = head t

abbrev pub headed : {T A H : Type 0} → Option H → (H → Reader T A) → Reader T A → Reader T A
headed (Some h) rules other = rules h
headed None rules other = other

abbrev pub dispatch : {T A H : Type 0} → (T → Option H) → (H → Reader T A) → Reader T A → Reader T A
dispatch head rules other = λ ts. headed (head_of head ts) rules other ts

abbrev pub optional : {T A : Type 0} → (T → Bool) → Reader T A → Reader T (Option A)
optional test p = choose test (Some <$> p) (give None)

-- ---- lists

-- as many as begin with such a token; the number bounds how many are read
abbrev pub many_up_to : {T A : Type 0} → ℕ → (T → Bool) → Reader T A → Reader T (List A)
many_up_to zero test p ts = Done [] ts
many_up_to (suc n) test p ts = cond (starts test ts) (and_then (p ts) (λ a rest. mapped (λ more. a ∷ more) (many_up_to n test p rest))) (Done [] ts)

-- each reads a token at least, so that the bound is never reached
unfoldable pub many : {T A : Type 0} → (T → Bool) → Reader T A → Reader T (List A)
many test p ts = many_up_to (length ts) test p ts

abbrev pub at_least_one : {T A : Type 0} → (T → Bool) → Reader T A → Reader T (List A)
at_least_one test p = p >>= λ a. (λ more. a ∷ more) <$> many test p

-- `test` is of the separator
abbrev pub separated : {T A S : Type 0} → (T → Bool) → Reader T S → Reader T A → Reader T (List A)
separated test separator p = p >>= λ a. (λ more. a ∷ more) <$> many test (after separator p)

-- `ends` is of the last token, `test` of the separator
abbrev pub closed : {T A S C : Type 0} → (T → Bool) → Reader T C → (T → Bool) → Reader T S → Reader T A → Reader T (List A × C)
closed ends closing test separator p = choose ends ((λ c. ([], c)) <$> closing) (separated test separator p >>= λ xs. (λ c. (xs, c)) <$> closing)

-- ---- nesting

-- what may stand one level deeper, where so many levels more may nest
unfoldable pub below : {A : Type 0} → (ℕ → A) → ℕ → Option A
below p zero = None
below p (suc k) = Some (p k)

-- a token that would open one level more than may nest
abbrev pub barred : {T A B : Type 0} → Option A → List T → Outcome T B
barred (Some a) ts = TooDeep ts
barred None ts = Unexpected ts

abbrev pub bar : {T A B : Type 0} → (T → Option A) → Reader T B
bar select [] = Unexpected []
bar select (t ∷ ts) = barred (select t) (t ∷ ts)

-- a token that opens a level, and what follows it there
abbrev pub nested : {T A B : Type 0} → (T → Option A) → Option (A → Reader T B) → Reader T B
nested opens None = bar opens
nested opens (Some inner) = accept opens >>= inner

abbrev pub enclosed : {T A B O C : Type 0} → (T → Option O) → (T → Option C) → (A → C → B) → Option (Reader T A) → Reader T B
enclosed opens closes f None = bar opens
enclosed opens closes f (Some inner) = accept opens >>= λ _. inner >>= λ x. f x <$> accept closes

-- a sign that no number follows
abbrev pub sign_first : {T : Type 0} → Signs T → List T → Bool
sign_first signs [] = false
sign_first signs (t ∷ ts) = cond (signs.sign t) (not (starts signs.number ts)) false

-- the prefix operator; it is asked only where a sign stands that no number follows
abbrev pub prefixed : {T A B O : Type 0} → (T → Option O) → (A → List T → B) → Option (Reader T A) → Reader T B
prefixed select f None = λ ts. TooDeep ts
prefixed select f (Some operand) = spanned f (after (accept select) operand)

abbrev pub choose_sign : {T A : Type 0} → Signs T → Reader T A → Reader T A → Reader T A
choose_sign signs p q = λ ts. cond (sign_first signs ts) (p ts) (q ts)

-- ---- the whole text

abbrev pub ended : {T A : Type 0} → Outcome T A → Outcome T A
ended (Done a []) = Done a []
ended (Done a (t ∷ rest)) = Unexpected (t ∷ rest)
ended (Unexpected rest) = Unexpected rest
ended (TooDeep rest) = TooDeep rest

-- nothing may follow
abbrev pub whole : {T A : Type 0} → Reader T A → Reader T A
whole p = λ ts. ended (p ts)
