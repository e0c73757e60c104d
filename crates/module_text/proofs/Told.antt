-- From the parser's answer to what is said of the text.
use Rattle.std.proofs.Common.{◌≡◌, ℕ, ◌≤◌, List, length, Some}
use Rattle.ivory_lexer.specs.Limits.{source_limit}
use Rattle.ivory_lexer.specs.Texts.{TokensOf}
use Rattle.ivory_lexer.specs.declared.Token.{Token}
use Rattle.reading.specs.Exact.{UnexpectedToken, DeepToken}
use Rattle.module_grammar.specs.Parse.{Unexpected, OnlyDeep}
use Rattle.module_text.specs.Lines.{fault_at, fault_line}
use Rattle.module_text.specs.declared.fault.Why.TheVariants as why
use Rattle.module_text.specs.Verdicts.{Faulty, token_start, Judged, unexpected}

pub unexpected_there : (text : List ℕ) (ts : List Token) (i : ℕ) → length text ≤ source_limit → TokensOf 0 text ts → Unexpected ts (Some (UnexpectedToken i)) → OnlyDeep ts (Some (UnexpectedToken i))
    → Judged text (Faulty (fault_line (fault_at text (token_start text ts i) why.Unexpected)))
unexpected_there text ts i short cut at only = unexpected short cut at (λ j lt deep. let no : UnexpectedToken i ≡ DeepToken j = only j deep in absurd cc)
