-- What a text is: longer than a module's text may be, at fault, or the text of a tree.
use Rattle.std.specs.Prelude.{◌≡◌, ℕ, ◌<◌, ◌≤◌, List, length, slice_get, Option, Some, None}
use Rattle.ivory_lexer.specs.Limits.{source_limit}
use Rattle.ivory_lexer.specs.Texts.{TokensOf, LexFaultOf}
use Rattle.ivory_lexer.specs.declared.Token.{Token}
use Rattle.ivory_lexer.specs.declared.LexFault.{LexFault}
use Rattle.ivory_lexer.specs.declared.LexFault.TheVariants as lexical
use Rattle.ivory_tree.specs.declared.Module.{Module}
use Rattle.reading.specs.Exact.{SpelledWithin, UnexpectedAt, TooDeepAt}
use Rattle.expression_grammar.specs.Tokens.{signs}
use Rattle.module_grammar.specs.Modules.{Text}
use Rattle.module_grammar.specs.Parse.{levels}
use Rattle.module_text.specs.declared.fault.Why.TheVariants.{BadByte, LongName, BigLiteral, OpenComment, Unexpected, TooDeep}
use Rattle.module_text.specs.Lines.{fault_at, fault_line}

pub data Verdict : Type 0 where
  TooLong : Verdict
  -- with the line that tells the fault
  Faulty : (line : List ℕ) → Verdict
  Reads : Module → Verdict

-- the line for a text that cannot be cut into tokens; want of memory is no fault of a text
abbrev pub lexical_line : List ℕ → LexFault → Option (List ℕ)
lexical_line text (lexical.BadByte at) = Some (fault_line (fault_at text at BadByte))
lexical_line text (lexical.LongName at) = Some (fault_line (fault_at text at LongName))
lexical_line text (lexical.BigLiteral at) = Some (fault_line (fault_at text at BigLiteral))
lexical_line text (lexical.OpenComment at) = Some (fault_line (fault_at text at OpenComment))
lexical_line text lexical.Memory = None

-- where a token begins; past the last token, where the text ends
abbrev pub start_of : List ℕ → Option Token → ℕ
start_of text None = length text
start_of text (Some t) = t.span.start

abbrev pub token_start : List ℕ → List Token → ℕ → ℕ
token_start text ts i = start_of text (slice_get ts i)

-- no token before this one is the first that nests too deep
abbrev pub NoneTooDeepBefore : List Token → ℕ → Type 0
NoneTooDeepBefore ts i = (j : ℕ) → j < i → ¬ TooDeepAt Text signs levels ts j

pub data Judged (text : List ℕ) : Verdict → Type 0 where
  too_long : source_limit < length text → Judged text TooLong
  not_cut : {why : LexFault} {line : List ℕ} → length text ≤ source_limit → LexFaultOf 0 text why → lexical_line text why ≡ Some line → Judged text (Faulty line)
  unexpected : {ts : List Token} {i : ℕ} → length text ≤ source_limit → TokensOf 0 text ts → UnexpectedAt Text ts i → NoneTooDeepBefore ts i
      → Judged text (Faulty (fault_line (fault_at text (token_start text ts i) Unexpected)))
  too_deep : {ts : List Token} {i : ℕ} → length text ≤ source_limit → TokensOf 0 text ts → TooDeepAt Text signs levels ts i
      → Judged text (Faulty (fault_line (fault_at text (token_start text ts i) TooDeep)))
  reads : {ts : List Token} {tree : Module} → length text ≤ source_limit → TokensOf 0 text ts → SpelledWithin Text levels tree ts → Judged text (Reads tree)

-- of a text one verdict holds, and no other
pub record ExactlyOne (text : List ℕ) : Type 0 where
  pub one : (v : Verdict) × Judged text v
  pub same : (v w : Verdict) → Judged text v → Judged text w → v ≡ w

abbrev pub EachTextHasOneVerdict : Type 0
EachTextHasOneVerdict = (text : List ℕ) → ExactlyOne text
