-- What the reading of a module text, the search for its first fault and the search for its form say of the text.
use Rattle.std.proofs.Common.{◌≡◌, ℕ, ◌<◌, ◌≤◌, List, length, Some, None, subst, arith}
use Rattle.ivory_lexer.specs.Limits.{source_limit}
use Rattle.ivory_tree.specs.Formed.{Formed}
use Rattle.ivory_tree.specs.Nodes.{module_nodes, nodes_count}
use Rattle.ivory_tree.specs.View.{module_of}
use Rattle.ivory_tree.specs.declared.Module.{Module}
use Rattle.first_form.specs.declared.FirstModule.{FirstModule}
use Rattle.first_form.specs.Stands.{Stands}
use Rattle.module_text.specs.Verdicts.{Verdict, TooLong, Faulty, Reads, Judged}
use Rattle.module_text.proofs.Verdicts.{judged_once}
use Rattle.module_text.proofs.Trees.{of_text}
use Rattle.rule_faults.specs.FirstFault.{first_fault}
use Rattle.rule_faults.proofs.Found.{found_law, none_is_faultless}
use Rattle.rule_checker.specs.declared.RuleFault.{RuleFault}
use Rattle.rule_checker.specs.Faults.{pair_of}
use Rattle.typing_laws.proofs.ExactlyOne.{faultless_is_typed}
use Rattle.ivoryc.specs.declared.status.Status.TheVariants as status
use Rattle.ivoryc.specs.Texts.{rule_fault_line}
use Rattle.core_tree.specs.Syntax.{ModuleCore}
use Rattle.iv_checker.specs.Answers.{IsCoreOf, IsFaultOf}
use Rattle.ivoryc.specs.Modules.{IsWellTyped, StandsFor, IsNoModule}
use Rattle.ivoryc.specs.Headline.{IsOfNoFirstForm}

-- a text without a first fault is that of a well typed module
pub keeps_rules : (text : List ℕ) (tree : Module) → Judged text (Reads tree) → first_fault (module_of tree) ≡ None → IsWellTyped text
keeps_rules text tree read none =
    record { tree = tree; read = read; typed = faultless_is_typed (module_of tree) (of_text text tree read).formed (none_is_faultless (module_of tree) none) }

-- and one with a first fault is that of none
pub breaks_rule : (text : List ℕ) (tree : Module) (f : RuleFault) → Judged text (Reads tree) → first_fault (module_of tree) ≡ Some (pair_of f)
    → IsNoModule text status.Refused (rule_fault_line text f.rule f.span)
breaks_rule text tree f read fault = IsNoModule.broken (record { tree = tree; read = read; fault = found_law (module_of tree) f.rule f.span fault })

-- a text that is read as no tree is not of the first form
no_form_by : (text : List ℕ) (v : Verdict) → Judged text v → ((tree : Module) → ¬ (v ≡ Reads tree)) → IsOfNoFirstForm text
no_form_by text v judged not core form = not form.tree (judged_once text v (Reads form.tree) judged form.read)

pub no_form_where_too_long : (text : List ℕ) → Judged text TooLong → IsOfNoFirstForm text
no_form_where_too_long text long = no_form_by text TooLong long (λ tree no. cc)

pub no_form_where_long : (text : List ℕ) → source_limit < length text → IsOfNoFirstForm text
no_form_where_long text long = no_form_where_too_long text (Judged.too_long long)

pub no_form_where_faulty : (text line : List ℕ) → Judged text (Faulty line) → IsOfNoFirstForm text
no_form_where_faulty text line faulty = no_form_by text (Faulty line) faulty (λ tree no. cc)

-- nor is one whose tree stands for no such module
pub no_form_of_tree : (text : List ℕ) (tree : Module) → Judged text (Reads tree) → ((core : FirstModule) → ¬ Stands (module_of tree) core) → IsOfNoFirstForm text
no_form_of_tree text tree read none core form =
    let verdicts : Reads form.tree ≡ Reads tree = judged_once text (Reads form.tree) (Reads tree) form.read read in
    let trees : form.tree ≡ tree = cc in
    let Is : Module → Type 0 = λ t. Stands (module_of t) core in
    none core (subst Is trees form.stands)

-- ---- what is asked of a tree

pub is_short : (text : List ℕ) (tree : Module) → Judged text (Reads tree) → length text ≤ source_limit
is_short text tree (Judged.reads short cut spelled) = short

pub is_formed : (text : List ℕ) (tree : Module) → Judged text (Reads tree) → Formed (module_of tree)
is_formed text tree read = (of_text text tree read).formed

pub has_few_nodes : (text : List ℕ) (tree : Module) → Judged text (Reads tree) → nodes_count (module_nodes (module_of tree)) ≤ 2147483648
has_few_nodes text tree read = omega (arith, is_short text tree read, (of_text text tree read).few_nodes)

-- ---- a core

pub has_core : (text : List ℕ) (tree : Module) (core : ModuleCore) → Judged text (Reads tree) → IsCoreOf (module_of tree) core → StandsFor text core
has_core text tree core read is = record { tree = tree; read = read; stands = is.stands }

pub has_fault : (text : List ℕ) (tree : Module) (f : RuleFault) → Judged text (Reads tree) → IsFaultOf (module_of tree) f
    → IsNoModule text status.Refused (rule_fault_line text f.rule f.span)
has_fault text tree f read is = IsNoModule.broken (record { tree = tree; read = read; fault = is.first })
