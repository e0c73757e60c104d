-- Languages: which rows spell a value. Productions of a grammar are put together from these, and a relation of its own
-- names, one constructor for each production, is shown to be the same.
use Rattle.std.specs.Prelude.{◌≡◌, ℕ, suc, Bool, true, false, List, [], ◌∷◌, ◌++◌, ◌⊎◌, Option, Some, None}
use Rattle.reading.specs.Row.{Entry, Row, Signs, tokens}

abbrev pub Language : Type 0 → Type 0 → Type 1
Language T A = A → Row T → Type 0

-- one token at this depth, of which `select` gives the value
abbrev pub Terminal : {T A : Type 0} → ℕ → (T → Option A) → Language T A
Terminal {T} d select a row = (m : Entry T) × (row ≡ m ∷ []) × (m.depth ≡ d) × (select m.token ≡ Some a)

-- a value without tokens
abbrev pub Given : {T A : Type 0} → A → Language T A
Given a b row = (b ≡ a) × (row ≡ [])

abbrev pub Mapped : {T A B : Type 0} → (A → B) → Language T A → Language T B
Mapped {A} f R b row = (a : A) × R a row × (b ≡ f a)

-- a value made of the tokens that spell it too, as a node with its span
abbrev pub Spanned : {T A B : Type 0} → (A → List T → B) → Language T A → Language T B
Spanned {A} f R b row = (a : A) × R a row × (b ≡ f a (tokens row))

-- one after the other; what follows may depend on what came
abbrev pub Then : {T A B : Type 0} → Language T A → (A → Language T B) → Language T B
Then {T} {A} P Q b row = (a : A) × (f : Row T) × (g : Row T) × (row ≡ f ++ g) × P a f × Q a b g

-- of two the value of the second
abbrev pub After : {T A B : Type 0} → Language T A → Language T B → Language T B
After P Q = Then P (λ _. Q)

-- of two the value of the first
abbrev pub Before : {T A B : Type 0} → Language T A → Language T B → Language T A
Before P Q = Then P (λ a. Mapped (λ _. a) Q)

abbrev pub Either : {T A : Type 0} → Language T A → Language T A → Language T A
Either P Q a row = P a row ⊎ Q a row

-- the rule of one of many heads, or one without such a head
abbrev pub Headed : {T A H : Type 0} → (H → Language T A) → Language T A → Language T A
Headed {H = H} R Other a row = ((h : H) × R h a row) ⊎ Other a row

abbrev pub Optional : {T A : Type 0} → Language T A → Language T (Option A)
Optional R None row = row ≡ []
Optional R (Some a) row = R a row

-- none or more
abbrev pub Many : {T A : Type 0} → Language T A → Language T (List A)
Many R [] row = row ≡ []
Many {T} R (a ∷ more) row = (f : Row T) × (g : Row T) × (row ≡ f ++ g) × R a f × Many R more g

-- one or more
abbrev pub AtLeastOne : {T A : Type 0} → Language T A → Language T (List A)
AtLeastOne R = Then R (λ a. Mapped (λ more. a ∷ more) (Many R))

-- one or more, with a separator between each and the next
abbrev pub Separated : {T A S : Type 0} → Language T S → Language T A → Language T (List A)
Separated S R = Then R (λ a. Mapped (λ more. a ∷ more) (Many (After S R)))

-- none or more, with separators, up to a last token; the list and the last token's value
abbrev pub Closed : {T A S C : Type 0} → Language T S → Language T A → Language T C → Language T (List A × C)
Closed S R C = Either (Mapped (λ c. ([], c)) C) (Then (Separated S R) (λ xs. Mapped (λ c. (xs, c)) C))

-- what begins with a token that nests, and nests to its end; `Q` is what follows the token, one level deeper
abbrev pub Nested : {T A B : Type 0} → ℕ → (T → Option A) → (A → Language T B) → Language T B
Nested d opens Q = Then (Terminal (suc d) opens) Q

-- what stands between an opening and a closing token, one level deeper
abbrev pub Enclosed : {T A B O C : Type 0} → ℕ → (T → Option O) → (T → Option C) → (A → C → B) → Language T A → Language T B
Enclosed d opens closes f R = Nested d opens (λ _. Then R (λ x. Mapped (f x) (Terminal (suc d) closes)))

-- a sign as a prefix operator: one level deeper with its operand, which begins with no number
abbrev pub Prefixed : {T A B : Type 0} → Signs T → ℕ → (A → List T → B) → Language T A → Language T B
Prefixed {T} {A} signs d f R b row = (x : A) × (m : Entry T) × (n : Entry T) × (g : Row T) × (row ≡ m ∷ n ∷ g) × (m.depth ≡ suc d)
    × (signs.sign m.token ≡ true) × (signs.number n.token ≡ false) × R x (n ∷ g) × (b ≡ f x (tokens row))

-- the token itself, where it passes the test: for a terminal that has no other value
abbrev pub kept : {T : Type 0} → Bool → T → Option T
kept true t = Some t
kept false t = None

abbrev pub passing : {T : Type 0} → (T → Bool) → T → Option T
passing test t = kept (test t) t
