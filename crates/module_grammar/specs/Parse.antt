-- What a parser of modules answers.
use Rattle.std.specs.Prelude.{◌≡◌, ℕ, ◌<◌, List, Option, Some, None}
use Rattle.ivory_lexer.specs.declared.Token.{Token}
use Rattle.ivory_tree.specs.declared.Module.{Module}
use Rattle.reading.specs.Reader.{whole}
use Rattle.reading.specs.Exact.{Answer, Tree, UnexpectedToken, DeepToken, answer, Exact, Spelled, SpelledWithin, UnexpectedAt, TooDeepAt}
use Rattle.expression_grammar.specs.Tokens.{signs}
use Rattle.module_grammar.specs.Modules.{Text}
use Rattle.module_grammar.specs.ItemReader.{module_}

-- how many levels may nest
abbrev pub levels : ℕ
levels = 32

abbrev pub parse : ℕ → List Token → Answer Module
parse limit ts = answer ts (whole (module_ limit) ts)

-- a text is read exactly, whatever the limit
abbrev pub ReadExactly : Type 0
ReadExactly = (limit : ℕ) → Exact signs limit Text (parse limit)

-- and has one tree at most, however deep it nests
abbrev pub OneTree : Type 0
OneTree = (x y : Module) (ts : List Token) → Spelled Text x ts → Spelled Text y ts → x ≡ y

-- ---- an answer, or none where memory ran out

abbrev pub Answers : Option (Answer Module) → Answer Module → Type 0
Answers (Some a) wanted = a ≡ wanted
Answers None wanted = Unit {0}

-- a tree is that of the tokens, within the levels
abbrev pub Found : List Token → Option (Answer Module) → Type 0
Found ts (Some (Tree x)) = SpelledWithin Text levels x ts
Found ts _ = Unit {0}

-- what is spelled within the levels is answered
abbrev pub Only : List Token → Option (Answer Module) → Type 0
Only ts a = (x : Module) → SpelledWithin Text levels x ts → Answers a (Tree x)

-- the tokens before an unexpected one begin a module, and not with it
abbrev pub Unexpected : List Token → Option (Answer Module) → Type 0
Unexpected ts (Some (UnexpectedToken i)) = UnexpectedAt Text ts i
Unexpected ts _ = Unit {0}

-- and it is answered, where no token before it is too deep
abbrev pub OnlyUnexpected : List Token → Option (Answer Module) → Type 0
OnlyUnexpected ts a = (i : ℕ) → UnexpectedAt Text ts i → ((j : ℕ) → j < i → TooDeepAt Text signs levels ts j → ⊥) → Answers a (UnexpectedToken i)

-- the tokens up to one that is too deep begin a module, in which it is the first to nest deeper than the levels
abbrev pub Deep : List Token → Option (Answer Module) → Type 0
Deep ts (Some (DeepToken i)) = TooDeepAt Text signs levels ts i
Deep ts _ = Unit {0}

-- and it is answered
abbrev pub OnlyDeep : List Token → Option (Answer Module) → Type 0
OnlyDeep ts a = (i : ℕ) → TooDeepAt Text signs levels ts i → Answers a (DeepToken i)
