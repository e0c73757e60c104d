-- What the checker answers, from what it found.
use Rattle.std.proofs.Common.{◌≡◌, ℕ, Some, sym}
use Rattle.iv_words.specs.declared.Span.{Span}
use Rattle.ivory_lexer.specs.Tokens.{IsName}
use Rattle.ivory_tree.specs.Syntax.{ModuleSyntax}
use Rattle.ivory_tree.specs.Formed.{Formed}
use Rattle.core_tree.specs.Syntax.{ModuleCore}
use Rattle.core_validity.proofs.TextLike.{text_like}
use Rattle.rule_checker.specs.declared.RuleFault.{RuleFault}
use Rattle.rule_faults.specs.FirstFault.{FirstFault, first_fault}
use Rattle.rule_faults.proofs.Found.{found_law, unique_law}
use Rattle.typing_rules.specs.WellTyped.{Stands}
use Rattle.typing_laws.proofs.CleanModules.{not_both}
use Rattle.typing_laws.proofs.OneCore.{one_core}
use Rattle.iv_checker.specs.Answers.{IsCoreOf, IsFaultOf, StaysTextLike}

pub is_core : (m : ModuleSyntax) (core : ModuleCore) → Stands m core → IsCoreOf m core
is_core m core s = record { stands = s; only = λ other o. one_core m other core o s }

pub stays_text_like : (m : ModuleSyntax) (core : ModuleCore) → Stands m core → StaysTextLike m core
stays_text_like m core s = text_like IsName m core s

pub is_fault : (m : ModuleSyntax) (f : RuleFault) → Formed m → Some (f.rule, f.span) ≡ first_fault m → IsFaultOf m f
is_fault m f formed e =
    let here : FirstFault m f.rule f.span = found_law m f.rule f.span (sym e) in
    record {
      first = here;
      only = λ k s other. unique_law m k f.rule s f.span other here;
      untyped = λ typed. not_both m formed typed (record { rule = f.rule; span = f.span; fault = here });
    }
