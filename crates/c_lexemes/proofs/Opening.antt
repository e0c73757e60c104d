-- A bracket that opens, where one more may be open, and what is read behind it.
use Rattle.std.proofs.Common.{◌≡◌, ℕ, zero, suc, ◌+◌, ◌-◌, ◌≤◌, ◌<◌, true, List, [], ◌∷◌, refl, sym, ap, ◌∙◌, arith, Option, Some, None}
use Rattle.std.specs.Option.{option_map}
use Rattle.reading.specs.Reader.{Outcome, Done, Unexpected, TooDeep, Reader, ◌>>=◌, ◌<$>◌, accept, picked, and_then, mapped, give, below, barred, bar, nested, enclosed}
use Rattle.reading.proofs.Levels.{below-zero, below-suc}
use Rattle.grammars.specs.Grammar.{of_kind, token}
use Rattle.grammars.specs.Reader.{at_symbol, read_with, read}
use Rattle.c_grammar.specs.Pieces.{Piece, pieces}
use Rattle.c_grammar.specs.Kinds.{lexicon}
use Rattle.c_grammar.specs.Symbols.{Symbol, Tree, Rule, an_expression, a_pointer, an_inner, an_inside, arguments, initializers, a_length, forever, a_block, a_body, the_members, the_types, the_params, stop_params, parens, squares, braces}
use Rattle.c_grammar.specs.Subset.{grammar}
use Rattle.c_lexemes.specs.Levels.{most_open, inner_at, reads_at, opening}
use Rattle.c_lexemes.specs.Gives.{Faults}
use Rattle.c_lexemes.specs.declared.fault.Fault.{Fault}
use Rattle.c_lexemes.specs.declared.fault.Fault.TheVariants as fault

-- ---- one level deeper

pub read_level : (d k : ℕ) (n : Symbol) → read lexicon grammar d k n ≡ read_with lexicon d (below (read lexicon grammar (d + 1)) k) (grammar n)
unfolding read below
read_level d zero n = refl
read_level d (suc k) n = refl

pub inner_none : (d : ℕ) → most_open ≤ d → inner_at d ≡ None
unfolding inner_at
inner_none d high = below-zero (read lexicon grammar (d + 1)) (most_open - d) (omega arith)

abbrev deeper : ℕ → (n : Symbol) → Reader Piece (Tree n)
deeper d n = reads_at (d + 1) (grammar n)

pub inner_some : (d : ℕ) → d < most_open → inner_at d ≡ Some (deeper d)
unfolding inner_at
inner_some d low =
    let left : most_open - d - 1 ≡ most_open - (d + 1) = omega arith in
    let same : read lexicon grammar (d + 1) (most_open - (d + 1)) ≡ deeper d = λ i n. read_level (d + 1) (most_open - (d + 1)) n i in
    below-suc (read lexicon grammar (d + 1)) (most_open - d) (λ e. omega arith) ∙ ap (λ k. Some (read lexicon grammar (d + 1) k)) left ∙ ap Some same

-- ---- a bracket

stays_barred : {A B : Type 0} (o : Option Piece) (ts : List Piece) (q : A → Reader Piece B) → barred {B = B} o ts ≡ and_then (barred {B = A} o ts) q
stays_barred (Some a) ts q = refl
stays_barred None ts q = refl

bar_stays : {A B : Type 0} (select : Piece → Option Piece) (ts : List Piece) (q : A → Reader Piece B) → bar {B = B} select ts ≡ and_then (bar {B = A} select ts) q
bar_stays select [] q = refl
bar_stays select (t ∷ ts) q = stays_barred (select t) (t ∷ ts) q

passed : {A B : Type 0} (o : Outcome Piece Piece) (a : A) (q : A → Reader Piece B) → and_then o (λ _. q a) ≡ and_then (and_then o (λ _. give a)) q
passed (Done x rest) a q = refl
passed (Unexpected rest) a q = refl
passed (TooDeep rest) a q = refl

abbrev behind : (closes : ℕ) (n : Symbol) → ℕ → Reader Piece (Tree n)
behind closes n j = reads_at j (grammar n) >>= λ x. (λ _. x) <$> reads_at j (token {A = Piece} closes Some)

abbrev enclosed_in : ℕ → ℕ → ℕ → (n : Symbol) → Option ((n : Symbol) → Reader Piece (Tree n)) → Reader Piece (Tree n)
enclosed_in d opens closes n inner = enclosed (of_kind lexicon d opens Some) (of_kind lexicon (d + 1) closes Some) (λ x _. x) (at_symbol inner n)

abbrev opening_in : ℕ → ℕ → Option ((n : Symbol) → Reader Piece (Tree n)) → Reader Piece ℕ
opening_in d k inner = nested (of_kind lexicon d k Some) (option_map (λ _ _. give (d + 1)) inner)

pub enclosed_opens : (d opens closes : ℕ) (n : Symbol) (ts : List Piece)
    → enclosed (of_kind lexicon d opens Some) (of_kind lexicon (d + 1) closes Some) (λ x _. x) (at_symbol (inner_at d) n) ts
    ≡ and_then (opening d opens ts) (λ j. reads_at j (grammar n) >>= λ x. (λ _. x) <$> reads_at j (token {A = Piece} closes Some))
enclosed_opens d opens closes n ts = at (most_open - d) refl
  where
    at : (k : ℕ) → most_open - d ≡ k → enclosed_in d opens closes n (inner_at d) ts ≡ and_then (opening_in d opens (inner_at d) ts) (behind closes n)
    at zero e =
        let none = inner_none d (omega arith) in
        ap (λ o. enclosed_in d opens closes n o ts) none ∙ bar_stays (of_kind lexicon d opens Some) ts (behind closes n) ∙ ap (λ o. and_then (opening_in d opens o ts) (behind closes n)) (sym none)
    at (suc k) e =
        let some = inner_some d (omega arith) in
        ap (λ o. enclosed_in d opens closes n o ts) some ∙ passed (accept (of_kind lexicon d opens Some) ts) (d + 1) (behind closes n) ∙ ap (λ o. and_then (opening_in d opens o ts) (behind closes n)) (sym some)

-- ---- what is read of it

bar_done : {B : Type 0} (select : Piece → Option Piece) (ts : List Piece) (v : Piece) (rest : List Piece) → accept select ts ≡ Done v rest → bar {B = B} select ts ≡ TooDeep ts
bar_done {B} select [] v rest e = cc
bar_done {B} select (t ∷ ts) v rest e = at (select t) e
  where
    at : (o : Option Piece) → picked o t ts ≡ Done v rest → barred {B = B} o (t ∷ ts) ≡ TooDeep (t ∷ ts)
    at (Some a) e = refl
    at None e = cc

bar_unexpected : {B : Type 0} (select : Piece → Option Piece) (ts rest : List Piece) → accept select ts ≡ Unexpected rest → bar {B = B} select ts ≡ Unexpected rest
bar_unexpected {B} select [] rest e = cc
bar_unexpected {B} select (t ∷ ts) rest e = at (select t) e
  where
    at : (o : Option Piece) → picked o t ts ≡ Unexpected rest → barred {B = B} o (t ∷ ts) ≡ Unexpected rest
    at (Some a) e = cc
    at None e = cc

pub opens : (d k : ℕ) (ts rest : List Piece) (v : Piece) → reads_at d (token {A = Piece} k Some) ts ≡ Done v rest → d < most_open → opening d k ts ≡ Done (d + 1) rest
opens d k ts rest v e low = ap (λ o. opening_in d k o ts) (inner_some d low) ∙ ap (λ o. and_then o (λ _. give (d + 1))) e

pub opens_no_more : (d k : ℕ) (ts rest : List Piece) (v : Piece) → reads_at d (token {A = Piece} k Some) ts ≡ Done v rest → most_open ≤ d → opening d k ts ≡ TooDeep ts
opens_no_more d k ts rest v e high = ap (λ o. opening_in d k o ts) (inner_none d high) ∙ bar_done (of_kind lexicon d k Some) ts v rest e

pub opens_not : (d k : ℕ) (ts rest : List Piece) → reads_at d (token {A = Piece} k Some) ts ≡ Unexpected rest → opening d k ts ≡ Unexpected rest
opens_not d k ts rest e = at (most_open - d) refl
  where
    at : (left : ℕ) → most_open - d ≡ left → opening_in d k (inner_at d) ts ≡ Unexpected rest
    at zero l = ap (λ o. opening_in d k o ts) (inner_none d (omega arith)) ∙ bar_unexpected (of_kind lexicon d k Some) ts rest e
    at (suc left) l = ap (λ o. opening_in d k o ts) (inner_some d (omega arith)) ∙ ap (λ o. and_then o (λ _. give (d + 1))) e

pub opens_faults : (d k : ℕ) (ts : List Piece) (e : Fault) → Faults e (reads_at d (token {A = Piece} k Some) ts) → Faults e (opening d k ts)
opens_faults d k ts fault.Memory f = tt
opens_faults d k ts (fault.Unexpected rest) f = opens_not d k ts (pieces rest.now) f
opens_faults d k ts (fault.TooDeep rest) f = at (ts) f
  where
    at : (ts : List Piece) → accept (of_kind lexicon d k Some) ts ≡ TooDeep (pieces rest.now) → opening d k ts ≡ TooDeep (pieces rest.now)
    at [] f = cc
    at (t ∷ ts) f = absurd (none (of_kind lexicon d k Some t) f)
      where
        none : (o : Option Piece) → picked o t ts ≡ TooDeep (pieces rest.now) → ⊥
        none (Some a) f = cc
        none None f = cc

-- ---- of each symbol

pub index_opens : (d : ℕ) (ts : List Piece) → reads_at d (squares an_expression) ts ≡ and_then (opening d 347 ts) (λ j. reads_at j (grammar an_expression) >>= λ x. (λ _. x) <$> reads_at j (token {A = Piece} 349 Some))
index_opens d ts = enclosed_opens d 347 349 an_expression ts

pub length_opens : (d : ℕ) (ts : List Piece) → reads_at d (squares a_length) ts ≡ and_then (opening d 347 ts) (λ j. reads_at j (grammar a_length) >>= λ x. (λ _. x) <$> reads_at j (token {A = Piece} 349 Some))
length_opens d ts = enclosed_opens d 347 349 a_length ts

pub pointer_opens : (d : ℕ) (ts : List Piece) → reads_at d (parens a_pointer) ts ≡ and_then (opening d 296 ts) (λ j. reads_at j (grammar a_pointer) >>= λ x. (λ _. x) <$> reads_at j (token {A = Piece} 297 Some))
pointer_opens d ts = enclosed_opens d 296 297 a_pointer ts

pub inner_opens : (d : ℕ) (ts : List Piece) → reads_at d (parens an_inner) ts ≡ and_then (opening d 296 ts) (λ j. reads_at j (grammar an_inner) >>= λ x. (λ _. x) <$> reads_at j (token {A = Piece} 297 Some))
inner_opens d ts = enclosed_opens d 296 297 an_inner ts

pub inside_opens : (d : ℕ) (ts : List Piece) → reads_at d (parens an_inside) ts ≡ and_then (opening d 296 ts) (λ j. reads_at j (grammar an_inside) >>= λ x. (λ _. x) <$> reads_at j (token {A = Piece} 297 Some))
inside_opens d ts = enclosed_opens d 296 297 an_inside ts

pub arguments_opens : (d : ℕ) (ts : List Piece) → reads_at d (parens arguments) ts ≡ and_then (opening d 296 ts) (λ j. reads_at j (grammar arguments) >>= λ x. (λ _. x) <$> reads_at j (token {A = Piece} 297 Some))
arguments_opens d ts = enclosed_opens d 296 297 arguments ts

pub test_opens : (d : ℕ) (ts : List Piece) → reads_at d (parens an_expression) ts ≡ and_then (opening d 296 ts) (λ j. reads_at j (grammar an_expression) >>= λ x. (λ _. x) <$> reads_at j (token {A = Piece} 297 Some))
test_opens d ts = enclosed_opens d 296 297 an_expression ts

pub forever_opens : (d : ℕ) (ts : List Piece) → reads_at d (parens forever) ts ≡ and_then (opening d 296 ts) (λ j. reads_at j (grammar forever) >>= λ x. (λ _. x) <$> reads_at j (token {A = Piece} 297 Some))
forever_opens d ts = enclosed_opens d 296 297 forever ts

pub types_opens : (d : ℕ) (ts : List Piece) → reads_at d (parens the_types) ts ≡ and_then (opening d 296 ts) (λ j. reads_at j (grammar the_types) >>= λ x. (λ _. x) <$> reads_at j (token {A = Piece} 297 Some))
types_opens d ts = enclosed_opens d 296 297 the_types ts

pub params_opens : (d : ℕ) (ts : List Piece) → reads_at d (parens the_params) ts ≡ and_then (opening d 296 ts) (λ j. reads_at j (grammar the_params) >>= λ x. (λ _. x) <$> reads_at j (token {A = Piece} 297 Some))
params_opens d ts = enclosed_opens d 296 297 the_params ts

pub stop_opens : (d : ℕ) (ts : List Piece) → reads_at d (parens stop_params) ts ≡ and_then (opening d 296 ts) (λ j. reads_at j (grammar stop_params) >>= λ x. (λ _. x) <$> reads_at j (token {A = Piece} 297 Some))
stop_opens d ts = enclosed_opens d 296 297 stop_params ts

pub inits_opens : (d : ℕ) (ts : List Piece) → reads_at d (braces initializers) ts ≡ and_then (opening d 379 ts) (λ j. reads_at j (grammar initializers) >>= λ x. (λ _. x) <$> reads_at j (token {A = Piece} 381 Some))
inits_opens d ts = enclosed_opens d 379 381 initializers ts

pub block_opens : (d : ℕ) (ts : List Piece) → reads_at d (braces a_block) ts ≡ and_then (opening d 379 ts) (λ j. reads_at j (grammar a_block) >>= λ x. (λ _. x) <$> reads_at j (token {A = Piece} 381 Some))
block_opens d ts = enclosed_opens d 379 381 a_block ts

pub body_opens : (d : ℕ) (ts : List Piece) → reads_at d (braces a_body) ts ≡ and_then (opening d 379 ts) (λ j. reads_at j (grammar a_body) >>= λ x. (λ _. x) <$> reads_at j (token {A = Piece} 381 Some))
body_opens d ts = enclosed_opens d 379 381 a_body ts

pub members_opens : (d : ℕ) (ts : List Piece) → reads_at d (braces the_members) ts ≡ and_then (opening d 379 ts) (λ j. reads_at j (grammar the_members) >>= λ x. (λ _. x) <$> reads_at j (token {A = Piece} 381 Some))
members_opens d ts = enclosed_opens d 379 381 the_members ts

pub ruleset openings = (index_opens, length_opens, pointer_opens, inner_opens, inside_opens, arguments_opens, test_opens, forever_opens, types_opens, params_opens, stop_opens, inits_opens, block_opens, body_opens, members_opens)

-- ---- faults within brackets

module _ (d opens closes : ℕ) (n : Symbol) (ts : List Piece) where
  pub inside_fault : (j : ℕ) (r : List Piece) (e : Fault) → opening d opens ts ≡ Done j r → Faults e (reads_at j (grammar n) r) → Faults e (enclosed_in d opens closes n (inner_at d) ts)
  inside_fault j r fault.Memory h f = tt
  inside_fault j r (fault.Unexpected q) h f = enclosed_opens d opens closes n ts ∙ ap (λ o. and_then o (behind closes n)) h ∙ ap (λ o. and_then o (λ x. (λ _. x) <$> reads_at j (token {A = Piece} closes Some))) f
  inside_fault j r (fault.TooDeep q) h f = enclosed_opens d opens closes n ts ∙ ap (λ o. and_then o (behind closes n)) h ∙ ap (λ o. and_then o (λ x. (λ _. x) <$> reads_at j (token {A = Piece} closes Some))) f

  pub close_fault : (j : ℕ) (r q : List Piece) (x : Tree n) (e : Fault) → opening d opens ts ≡ Done j r → reads_at j (grammar n) r ≡ Done x q → Faults e (reads_at j (token {A = Piece} closes Some) q) → Faults e (enclosed_in d opens closes n (inner_at d) ts)
  close_fault j r q x fault.Memory h i f = tt
  close_fault j r q x (fault.Unexpected s) h i f =
      enclosed_opens d opens closes n ts ∙ ap (λ o. and_then o (behind closes n)) h ∙ ap (λ o. and_then o (λ y. (λ _. y) <$> reads_at j (token {A = Piece} closes Some))) i ∙ ap (mapped (λ _. x)) f
  close_fault j r q x (fault.TooDeep s) h i f =
      enclosed_opens d opens closes n ts ∙ ap (λ o. and_then o (behind closes n)) h ∙ ap (λ o. and_then o (λ y. (λ _. y) <$> reads_at j (token {A = Piece} closes Some))) i ∙ ap (mapped (λ _. x)) f

  pub closed : (j : ℕ) (r q s : List Piece) (x : Tree n) (v : Piece) → opening d opens ts ≡ Done j r → reads_at j (grammar n) r ≡ Done x q → reads_at j (token {A = Piece} closes Some) q ≡ Done v s → enclosed_in d opens closes n (inner_at d) ts ≡ Done x s
  closed j r q s x v h i f =
      enclosed_opens d opens closes n ts ∙ ap (λ o. and_then o (behind closes n)) h ∙ ap (λ o. and_then o (λ y. (λ _. y) <$> reads_at j (token {A = Piece} closes Some))) i ∙ ap (mapped (λ _. x)) f
