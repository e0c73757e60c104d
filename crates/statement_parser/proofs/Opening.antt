-- A bracket that opens a level, where one is left, and what is read behind it.
use Rattle.std.proofs.Common.{◌≡◌, ℕ, zero, suc, List, [], ◌∷◌, refl, Option, Some, None}
use Rattle.std.specs.Option.{option_map}
use Rattle.iv_words.specs.declared.Span.{Span}
use Rattle.ivory_lexer.specs.declared.Token.{Token}
use Rattle.ivory_lexer.specs.declared.Mark.{Mark}
use Rattle.ivory_lexer.specs.declared.Mark.TheVariants as mark
use Rattle.reading.specs.Reader.{Outcome, Done, Unexpected, TooDeep, Reader, ◌>>=◌, ◌<$>◌, accept, and_then, give, below, barred, bar, nested, enclosed}
use Rattle.expression_grammar.specs.Tokens.{symbol}
use Rattle.module_grammar.specs.TypeReader.{array_rest, area}
use Rattle.module_grammar.specs.InitReader.{up_to_brace, init}
use Rattle.module_grammar.specs.StatementReader.{up_to_paren}
use Rattle.statement_parser.specs.Parts.{opening}

passed : {O A : Type 0} (o : Outcome Token O) (k : ℕ) (q : ℕ → Reader Token A) → and_then o (λ _. q k) ≡ and_then (and_then o (λ _. give k)) q
passed (Done a rest) k q = refl
passed (Unexpected rest) k q = refl
passed (TooDeep rest) k q = refl

stays_barred : {A : Type 0} (o : Option Span) (ts : List Token) (q : ℕ → Reader Token A) → barred o ts ≡ and_then (barred o ts) q
stays_barred (Some a) ts q = refl
stays_barred None ts q = refl

bar_stays : {A : Type 0} (m : Mark) (ts : List Token) (q : ℕ → Reader Token A) → bar (symbol m) ts ≡ and_then (bar (symbol m) ts) q
bar_stays m [] q = refl
bar_stays m (t ∷ ts) q = stays_barred (symbol m t) (t ∷ ts) q

nested_opens : {A B : Type 0} (m : Mark) (q : A → Reader Token B) (p : ℕ → A) (k : ℕ) (ts : List Token)
    → nested (symbol m) (option_map (λ x _. q x) (below p k)) ts ≡ and_then (opening m k ts) (λ j. q (p j))
unfolding below
nested_opens m q p zero ts = bar_stays m ts (λ j. q (p j))
nested_opens m q p (suc k) ts = passed (accept (symbol m) ts) k (λ j. q (p j))

pub enclosed_opens : {A B C : Type 0} (m : Mark) (c : Token → Option C) (f : A → C → B) (p : ℕ → Reader Token A) (k : ℕ) (ts : List Token)
    → enclosed (symbol m) c f (below p k) ts ≡ and_then (opening m k ts) (λ j. p j >>= λ x. f x <$> accept c)
unfolding below
enclosed_opens m c f p zero ts = bar_stays m ts (λ j. p j >>= λ x. f x <$> accept c)
enclosed_opens m c f p (suc k) ts = passed (accept (symbol m) ts) k (λ j. p j >>= λ x. f x <$> accept c)

pub enclosed_each_opens : {A B C D : Type 0} (m : Mark) (c : Token → Option C) (f : A → C → B) (q : D → Reader Token A) (p : ℕ → D) (k : ℕ) (ts : List Token)
    → enclosed (symbol m) c f (option_map q (below p k)) ts ≡ and_then (opening m k ts) (λ j. q (p j) >>= λ x. f x <$> accept c)
unfolding below
enclosed_each_opens m c f q p zero ts = bar_stays m ts (λ j. q (p j) >>= λ x. f x <$> accept c)
enclosed_each_opens m c f q p (suc k) ts = passed (accept (symbol m) ts) k (λ j. q (p j) >>= λ x. f x <$> accept c)

-- ---- as the readers of the grammar have it

pub array_opens : (k : ℕ) (ts : List Token)
    → nested (symbol mark.OpenBracket) (option_map (λ element _. array_rest element) (below area k)) ts ≡ and_then (opening mark.OpenBracket k ts) (λ j. array_rest (area j))
array_opens k ts = nested_opens mark.OpenBracket array_rest area k ts

pub inits_open : (k : ℕ) (ts : List Token)
    → nested (symbol mark.OpenBrace) (option_map (λ p _. up_to_brace p) (below init k)) ts ≡ and_then (opening mark.OpenBrace k ts) (λ j. up_to_brace (init j))
inits_open k ts = nested_opens mark.OpenBrace up_to_brace init k ts

pub parens_open : {A : Type 0} (p : ℕ → Reader Token A) (k : ℕ) (ts : List Token)
    → nested (symbol mark.OpenParen) (option_map (λ q _. up_to_paren q) (below p k)) ts ≡ and_then (opening mark.OpenParen k ts) (λ j. up_to_paren (p j))
parens_open p k ts = nested_opens mark.OpenParen up_to_paren p k ts

pub ruleset openings = (array_opens, inits_open, parens_open, enclosed_opens, enclosed_each_opens)
