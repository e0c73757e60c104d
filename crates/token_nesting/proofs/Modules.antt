-- What the tokens of a module tell.
use Rattle.std.proofs.Common.{◌≡◌, ℕ, zero, [], refl, sym, ap, ◌∙◌}
use Rattle.ivory_lexer.specs.declared.Token.{Token}
use Rattle.ivory_lexer.specs.declared.Mark.TheVariants as mark
use Rattle.ivory_lexer.specs.declared.Key.TheVariants as key
use Rattle.ivory_tree.specs.declared.Module.{Module}
use Rattle.reading.specs.Row.{Row, tokens}
use Rattle.reading.proofs.Rows.{append_nil}
use Rattle.module_grammar.specs.Modules as grammar
use Rattle.module_grammar.specs.Modules.{module_, Spells, Text}
use Rattle.token_nesting.specs.Open.{Start}
use Rattle.token_nesting.specs.Nesting.{nestings}
use Rattle.token_nesting.specs.Law.{depths, TokensTellNesting}
use Rattle.token_nesting.proofs.Scan.{Scan, anything, and}
use Rattle.token_nesting.proofs.Tokens.{scan_mark, scan_key, scan_name}
use Rattle.token_nesting.proofs.Lists.{all}
use Rattle.token_nesting.proofs.Items.{scan_item}

scan_module : {d : ℕ} {x : Module} {f : Row Token} → zero ≡ d → Spells module_ x d f → Scan anything Start [] f Start []
scan_module at (grammar.whole xs h t u v r) =
    and (scan_key key.KwModule at t (λ s rest. refl)) (and (scan_name at u (λ w s rest. refl)) (and (scan_mark mark.Semicolon at v (λ s rest. refl)) (all (scan_item at) xs h r)))

pub tokens_tell_nesting : TokensTellNesting
tokens_tell_nesting m row r = ap (λ x. nestings x) (sym (append_nil (tokens row))) ∙ (scan_module refl r).told [] refl ∙ append_nil (depths row)
