-- The core of a postfix, from the first step on.
use Rattle.std.specs.Prelude.{ℕ, Bool, true, false, List, [], ◌∷◌}
use Rattle.iv_words.specs.declared.Span.{Span}
use Rattle.ivory_tree.specs.Syntax.{Word, ExprSyntax}
use Rattle.ivory_tree.specs.declared.PrefixOp.{PrefixOp}
use Rattle.ivory_tree.specs.View.{StepSyntax, FieldStep, IndexStep}
use Rattle.area_types.specs.Syntax.{ValueType, Ix}
use Rattle.core_tree.specs.declared.Check.{Check}
use Rattle.core_tree.specs.declared.SiteKind.{SiteKind}
use Rattle.core_tree.specs.Syntax as core
use Rattle.core_tree.specs.Syntax.{ExprCore, type_of}
use Rattle.source_types.specs.Parts.{length_behind, element_type, field_type, word_type, bit_field_named, bit_field_number}
use Rattle.typing_rules.specs.Environments.{Env}
use Rattle.core_tree.specs.Operators.{prefix_sites}
use Rattle.typing_rules.specs.Sites.{unchecked, first_token}
use Rattle.typing_rules.specs.ExpressionCores.{type_or, number_or, number_in, bare, bits_number, new_field, new_type, new_sites, own, core_of}
use Rattle.check_numbers.specs.Numbered.{expr_from, expr_after, kinds_after}
use Rattle.core_maker.specs.Opened.{Form, AfterStep, based, first_of}

-- the type of a part of what has that type
abbrev pub step_own : Env → ValueType → StepSyntax → ValueType
step_own env t (FieldStep name) = type_or (field_type env.earlier t name.text)
step_own env t (IndexStep index brackets) = type_or (element_type t)

abbrev pub index_core : Env → ValueType → ExprSyntax → ExprCore
index_core env t index = core_of env (Ix (number_or (length_behind t))) index

abbrev pub with_step : Env → ValueType → ℕ → ExprCore → StepSyntax → ExprCore
with_step env t n c (FieldStep name) = core.Field (unchecked (step_own env t (FieldStep name))) c (number_or (number_in env t name.text))
with_step env t n c (IndexStep index brackets) = core.Element (unchecked (step_own env t (IndexStep index brackets))) c (expr_from n (index_core env t index))

abbrev pub after_step : Env → ValueType → ℕ → StepSyntax → ℕ
after_step env t n (FieldStep name) = n
after_step env t n (IndexStep index brackets) = expr_after n (index_core env t index)

abbrev pub with_steps : Env → ValueType → ℕ → ExprCore → List StepSyntax → ExprCore
with_steps env t n c [] = c
with_steps env t n c (x ∷ xs) = with_steps env (step_own env t x) (after_step env t n x) (with_step env t n c x) xs

abbrev pub after_steps : Env → ValueType → ℕ → List StepSyntax → ℕ
after_steps env t n [] = n
after_steps env t n (x ∷ xs) = after_steps env (step_own env t x) (after_step env t n x) xs

abbrev pub steps_own : Env → ValueType → List StepSyntax → ValueType
steps_own env t [] = t
steps_own env t (x ∷ xs) = steps_own env (step_own env t x) xs

-- ---- from the operand on

abbrev pub postfix_base : Env → ValueType → ℕ → Span → ExprSyntax → ExprCore
postfix_base env w n s base = based (first_of s base (expr_from n (core_of env w base)))

abbrev pub postfix_form : Env → ValueType → ℕ → Span → ExprSyntax → List StepSyntax → Form
postfix_form env w n s base ts = record {
  core = with_steps env (own env base) (expr_after n (core_of env w base)) (postfix_base env w n s base) ts;
  tail = AfterStep (steps_own env (own env base) ts);
}

abbrev pub postfix_after : Env → ValueType → ℕ → ExprSyntax → List StepSyntax → ℕ
postfix_after env w n base ts = after_steps env (own env base) (expr_after n (core_of env w base)) ts

abbrev pub has_steps : List StepSyntax → Bool
has_steps [] = false
has_steps (x ∷ xs) = true

abbrev pub form_by : Env → List StepSyntax → ValueType → ℕ → ExprCore → Form
form_by env ts t n c = record { core = with_steps env t n c ts; tail = AfterStep (steps_own env t ts) }

-- ---- other forms with an operand

abbrev pub word_core : Env → ValueType → ExprSyntax → ExprCore
word_core env t e = core_of env (type_or (word_type env.earlier t)) e

-- `-` or `~`
abbrev pub signed_core : Env → ValueType → Span → PrefixOp → ExprSyntax → ExprCore
signed_core env w s op e = core.Prefix (bare (type_of (core_of env w e)) (prefix_sites op) (first_token s 1)) op (core_of env w e)

-- ---- `set`

abbrev pub set_kinds : Env → ExprSyntax → Word → List SiteKind
set_kinds env e name = new_sites (new_field env e name)

-- the number after those of its own checks
abbrev pub set_number : Env → ℕ → Span → ExprSyntax → Word → ℕ
set_number env n s e name = kinds_after n (set_kinds env e name) (first_token s 3)

-- the new value of a field of bit data of this type
abbrev pub new_core : Env → ValueType → Word → ExprSyntax → ExprCore
new_core env bits name value = core_of env (new_type (bit_field_named env.earlier (bits_number bits) name)) value

abbrev pub set_with : Env → (t bits : ValueType) → Word → List Check → ExprCore → ℕ → ExprSyntax → ExprCore
set_with env t bits name checks c n value = core.SetField (record { ty = t; checks = checks }) c (number_or (bit_field_number env.earlier (bits_number bits) name)) (expr_from n (new_core env bits name value))
