-- A small grammar: lists, one in the other, of names and numbers. With each list all names stand before the numbers.
--     value = NAME | NUMBER | list          list = "[" [ value { "," value } ] "]"
--     text  = { NAME } { NUMBER } { list }
use Rattle.std.specs.Prelude.{ℕ, zero, suc, List, [], ◌∷◌, Option, Some, None}
use Rattle.reading.specs.Language.{Language}
use Rattle.reading.specs.Reader.{whole}
use Rattle.reading.specs.Exact.{Answer, answer}
use Rattle.grammars.specs.Grammar.{Lexicon, Rule, empty, token, map, choice, stages, brackets, Grammar, one, separated}
use Rattle.grammars.specs.Spelled.{Spells}
use Rattle.grammars.specs.Reader.{read}

pub data Letter : Type 0 where
  Name Number : ℕ → Letter
  Comma OpenBracket CloseBracket : Letter

mutual
  pub data Value : Type 0 where
    Named Counted : ℕ → Value
    Listed : Values → Value

  pub data Values : Type 0 where
    Nothing : Values
    Pair : Value → Values → Values

abbrev pub values_of : List Value → Values
values_of [] = Nothing
values_of (x ∷ xs) = Pair x (values_of xs)

abbrev pub name_of : Letter → Option Value
name_of (Name n) = Some (Named n)
name_of _ = None

abbrev pub number_of : Letter → Option Value
number_of (Number n) = Some (Counted n)
number_of _ = None

abbrev pub kind : ℕ → Letter → ℕ
kind d (Name n) = 1
kind d (Number n) = 2
kind d Comma = 3
kind d OpenBracket = 4
kind d CloseBracket = 5

abbrev pub examples : ℕ → ℕ → List Letter
examples d k = Name 0 ∷ Number 0 ∷ Comma ∷ OpenBracket ∷ CloseBracket ∷ []

abbrev pub lexicon : Lexicon Letter
lexicon = record { kind = kind; examples = examples }

pub data Symbol : Type 0 where
  values text : Symbol

abbrev pub Tree : Symbol → Type 0
Tree values = List Value
Tree text = List Value

abbrev pub name : Rule Letter Symbol Tree Value
name = token 1 name_of

abbrev pub number : Rule Letter Symbol Tree Value
number = token 2 number_of

abbrev pub listed : List Value → Value
listed xs = Listed (values_of xs)

abbrev pub list : Rule Letter Symbol Tree Value
list = map listed (brackets 4 5 values)

-- names at stage 0, numbers at 0 and 1, lists at each
abbrev pub at_stage : ℕ → Rule Letter Symbol Tree Value
at_stage zero = choice name (choice number list)
at_stage (suc zero) = choice number list
at_stage (suc (suc s)) = list

abbrev pub rank : Value → ℕ
rank (Named n) = 0
rank (Counted n) = 1
rank (Listed xs) = 2

abbrev pub grammar : Grammar Letter Symbol Tree
grammar values = choice (separated (one 3) (choice name (choice number list))) (empty [])
grammar text = stages 2 rank at_stage

abbrev pub Text : Language Letter (List Value)
Text = Spells lexicon grammar 0 text

abbrev pub parse : ℕ → List Letter → Answer (List Value)
parse limit ts = answer ts (whole (read lexicon grammar 0 limit text) ts)

-- a rule that cannot be read by its first letter
abbrev pub unclear : Rule Letter Symbol Tree Value
unclear = choice name (choice list (choice number name))
