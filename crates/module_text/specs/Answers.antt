-- What the reading of a text answers: a tree, or what is wrong with the text.
use Rattle.std.specs.Prelude.{ℕ, ◌≤◌, List, length, Result, Ok, Err}
use Rattle.ivory_lexer.specs.Texts.{TokensOf}
use Rattle.ivory_lexer.specs.Tokens.{InOrder}
use Rattle.ivory_lexer.specs.declared.Token.{Token}
use Rattle.ivory_tree.specs.declared.Module.{Module}
use Rattle.module_text.specs.declared.fault.TextFault.{TextFault}
use Rattle.module_text.specs.declared.fault.TextFault.TheVariants as fault
use Rattle.module_text.specs.Lines.{fault_line}
use Rattle.module_text.specs.Verdicts.{TooLong, Faulty, Reads, Judged}

abbrev pub Refuses : List ℕ → TextFault → Type 0
Refuses text fault.TooLarge = Judged text TooLong
Refuses text (fault.At f) = Judged text (Faulty (fault_line f))
Refuses text fault.Memory = Unit {0}

-- the verdict on the text, unless memory ran out
abbrev pub Read : List ℕ → Result Module TextFault → Type 0
Read text (Ok tree) = Judged text (Reads tree)
Read text (Err why) = Refuses text why

-- ---- inside

-- the tokens of a text of a length that a module's may have
pub record IsCut (text : List ℕ) (ts : List Token) : Type 0 where
  pub tokens : TokensOf 0 text ts
  pub in_order : InOrder 0 ts (length text)
  pub few : length ts ≤ length text

abbrev pub Cut : List ℕ → Result (List Token) TextFault → Type 0
Cut text (Ok ts) = IsCut text ts
Cut text (Err why) = Refuses text why
