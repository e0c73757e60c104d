-- The core of a chain, from the first link on.
use Rattle.std.specs.Prelude.{ℕ, Bool, true, false, ◌||◌, if◌then◌else◌, List, [], ◌∷◌}
use Rattle.iv_words.specs.declared.Span.{Span}
use Rattle.ivory_tree.specs.Syntax.{ExprSyntax}
use Rattle.ivory_tree.specs.View.{LinkSyntax}
use Rattle.area_types.specs.Syntax as types
use Rattle.area_types.specs.Syntax.{ValueType}
use Rattle.core_tree.specs.Syntax as core
use Rattle.core_tree.specs.Syntax.{Label}
use Rattle.source_types.specs.Operators.{is_logic, gives_truth}
use Rattle.source_types.specs.Settled.{settled}
use Rattle.typing_rules.specs.Environments.{Env}
use Rattle.core_tree.specs.Operators.{operator_sites}
use Rattle.core_tree.specs.Operators.{result_type}
use Rattle.typing_rules.specs.ExpressionCores.{bare, own, core_of}
use Rattle.check_numbers.specs.Numbered.{label_from, label_after, expr_from, expr_after}
use Rattle.core_maker.specs.Opened.{Form, AfterLink, joined, first_of}

-- ---- what is known before a link

abbrev pub link_settled : Bool → LinkSyntax → Bool
link_settled done l = gives_truth l.op || done || settled l.right

-- the type of the operator, by its form
abbrev pub link_own : Env → Bool → ValueType → LinkSyntax → ValueType
link_own env done t l = if gives_truth l.op then types.Truth else (if done then t else (if settled l.right then own env l.right else t))

-- what is wanted of what stands before the links; `w` is what is wanted of the whole
abbrev pub want_of : Env → (w : ValueType) → (done : Bool) → (t : ValueType) → List LinkSyntax → ValueType
want_of env w done t [] = w
want_of env w done t (l ∷ ls) =
    if is_logic l.op then types.Truth else (if done then t else (if settled l.right then own env l.right else want_of env w (link_settled done l) (link_own env done t l) ls))

-- ---- along the links

abbrev pub link_label : ValueType → LinkSyntax → Label
link_label o l = bare (result_type l.op o) (operator_sites l.op o) l.at

-- with the link, of whose operands this type is wanted
abbrev pub with_link : Env → (o : ValueType) → ℕ → Form → LinkSyntax → Form
with_link env o n left l = record {
  core = core.Binary (label_from n (link_label o l)) l.op (joined l.op left) (expr_from (label_after n (link_label o l)) (core_of env o l.right));
  tail = AfterLink l.op (result_type l.op o);
}

abbrev pub after_link : Env → (o : ValueType) → ℕ → LinkSyntax → ℕ
after_link env o n l = expr_after (label_after n (link_label o l)) (core_of env o l.right)

abbrev pub with_links : Env → ValueType → Bool → ValueType → ℕ → Form → List LinkSyntax → Form
with_links env w done t n left [] = left
with_links env w done t n left (l ∷ ls) =
    with_links env w (link_settled done l) (link_own env done t l) (after_link env (want_of env w done t (l ∷ ls)) n l) (with_link env (want_of env w done t (l ∷ ls)) n left l) ls

abbrev pub after_links : Env → ValueType → Bool → ValueType → ℕ → List LinkSyntax → ℕ
after_links env w done t n [] = n
after_links env w done t n (l ∷ ls) = after_links env w (link_settled done l) (link_own env done t l) (after_link env (want_of env w done t (l ∷ ls)) n l) ls

-- ---- from the first operand on

abbrev pub first_want : Env → ValueType → ExprSyntax → List LinkSyntax → ValueType
first_want env w first ls = want_of env w (settled first) (own env first) ls

-- the first operand, of a chain that begins at this place
abbrev pub chain_first : Env → ValueType → ℕ → Span → ExprSyntax → List LinkSyntax → Form
chain_first env w n s first ls = first_of s first (expr_from n (core_of env (first_want env w first ls) first))

abbrev pub chain_number : Env → ValueType → ℕ → ExprSyntax → List LinkSyntax → ℕ
chain_number env w n first ls = expr_after n (core_of env (first_want env w first ls) first)

abbrev pub chain_form : Env → ValueType → ℕ → Span → ExprSyntax → List LinkSyntax → Form
chain_form env w n s first ls = with_links env w (settled first) (own env first) (chain_number env w n first ls) (chain_first env w n s first ls) ls

abbrev pub chain_after : Env → ValueType → ℕ → ExprSyntax → List LinkSyntax → ℕ
chain_after env w n first ls = after_links env w (settled first) (own env first) (chain_number env w n first ls) ls

-- what stands before the links is wanted as this, where before the link before them something was wanted as `lead`
abbrev pub next_lead : (w : ValueType) → (done : Bool) → (t lead : ValueType) → List LinkSyntax → ValueType
next_lead w done t lead [] = w
next_lead w done t lead (l ∷ ls) = if is_logic l.op then types.Truth else (if done then t else lead)

abbrev pub has_links : List LinkSyntax → Bool
has_links [] = false
has_links (l ∷ ls) = true
