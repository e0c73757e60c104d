-- The fault of a node, from its rule and the fault within it.
use Rattle.std.proofs.Common.{◌≡◌, ℕ, Bool, ap, sym, ◌∙◌}
use Rattle.std.specs.Prelude.{Option}
use Rattle.iv_words.specs.declared.Span.{Span}
use Rattle.area_types.specs.Syntax.{ValueType}
use Rattle.rule_faults.specs.Wants.{Want}
use Rattle.rule_checker.specs.Faults.{at_place}
use Rattle.rule_checker.specs.Rows.{least, node_rule, cond_rows}

pub same_rule : (w : Want) (before after : Option ℕ) (s : Bool) (t : Option ValueType) {r before_is after_is : Option ℕ} {settled : Bool} {own : Option ValueType} → r ≡ node_rule before w s t after → before ≡ before_is → s ≡ settled → t ≡ own → after ≡ after_is → r ≡ node_rule before_is w settled own after_is
same_rule w before after s t {r} {before_is} {after_is} {settled} {own} h b e o a =
    h ∙ ap (λ x. node_rule x w s t after) b ∙ ap (λ x. node_rule before_is w x t after) e
    ∙ ap (λ x. node_rule before_is w settled x after) o ∙ ap (λ x. node_rule before_is w settled own x) a

pub told_by : {r rule : Option ℕ} (s : Span) {answer whole inner within : Option (ℕ × Span)} → r ≡ rule → answer ≡ at_place r s inner → inner ≡ within → whole ≡ at_place rule s within → answer ≡ whole
told_by {r} {rule} s {answer} {whole} {inner} {within} h g i w = g ∙ ap (λ x. at_place x s inner) h ∙ ap (λ x. at_place rule s x) i ∙ sym w

pub same_arms : {r : Option ℕ} {sl sl_is sr sr_is : Bool} {t t_is u u_is o o_is : Option ValueType} → r ≡ least (cond_rows sl sr t u o) → sl ≡ sl_is → sr ≡ sr_is → t ≡ t_is → u ≡ u_is → o ≡ o_is → r ≡ least (cond_rows sl_is sr_is t_is u_is o_is)
same_arms {r} {sl} {sl_is} {sr} {sr_is} {t} {t_is} {u} {u_is} {o} {o_is} h a b x y z =
    h ∙ ap (λ k. least (cond_rows k sr t u o)) a ∙ ap (λ k. least (cond_rows sl_is k t u o)) b ∙ ap (λ k. least (cond_rows sl_is sr_is k u o)) x
    ∙ ap (λ k. least (cond_rows sl_is sr_is t_is k o)) y ∙ ap (λ k. least (cond_rows sl_is sr_is t_is u_is k)) z
