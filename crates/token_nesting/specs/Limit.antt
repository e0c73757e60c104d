-- What a limit of nesting means, in terms of the tokens alone.
use Rattle.std.specs.Prelude.{◌≡◌, ◌↔◌, ℕ, zero, suc, ◌≤◌, ◌<◌, true, List, [], ◌∷◌, ◌++◌, length}
use Rattle.ivory_lexer.specs.declared.Token.{Token}
use Rattle.ivory_lexer.specs.declared.Mark.TheVariants as mark
use Rattle.ivory_tree.specs.declared.Module.{Module}
use Rattle.reading.specs.Row.{starts}
use Rattle.reading.specs.Exact.{Spelled, SpelledWithin, TooDeepAt}
use Rattle.expression_grammar.specs.Tokens.{is_mark, is_number, signs}
use Rattle.module_grammar.specs.Modules.{Text}
use Rattle.token_nesting.specs.Nesting.{nestings}

-- none of these is above the limit
abbrev pub AllWithin : ℕ → List ℕ → Type 0
AllWithin limit [] = Unit {0}
AllWithin limit (n ∷ ns) = (n ≤ limit) × AllWithin limit ns

-- the one at this place is the first above the limit
abbrev pub FirstAbove : ℕ → List ℕ → ℕ → Type 0
FirstAbove limit [] i = ⊥
FirstAbove limit (n ∷ ns) zero = limit < n
FirstAbove limit (n ∷ ns) (suc i) = (n ≤ limit) × FirstAbove limit ns i

-- a module begins with the tokens up to this place; a `-` there is a number's sign in it where it is one here
abbrev pub BeginsUpTo : List Token → ℕ → Type 0
BeginsUpTo ts i = (first : List Token) × (t : Token) × (rest : List Token) × (tail : List Token) × (x : Module) × (ts ≡ first ++ t ∷ rest) × (i ≡ length first)
    × Spelled Text x (first ++ t ∷ tail) × (is_mark mark.Minus t ≡ true → starts is_number tail ≡ starts is_number rest)

-- a text is a module within the limit where it is one and no token of it nests deeper
abbrev pub TokensTellWithin : Type 0
TokensTellWithin = (limit : ℕ) (x : Module) (ts : List Token) → SpelledWithin Text limit x ts ↔ (Spelled Text x ts × AllWithin limit (nestings ts))

-- a token is too deep where a module begins up to it and it is the first to nest deeper
abbrev pub TokensTellTooDeep : Type 0
TokensTellTooDeep = (limit : ℕ) (ts : List Token) (i : ℕ) → TooDeepAt Text signs limit ts i ↔ (BeginsUpTo ts i × FirstAbove limit (nestings ts) i)
