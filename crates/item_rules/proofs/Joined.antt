-- The first fault within an area of the module and within a procedure, from that of its parts.
use Rattle.std.proofs.Common.{◌≡◌, ap, sym, ◌∙◌}
use Rattle.std.specs.Prelude.{Result, Ok, Err, IfOk}
use Rattle.ivory_tree.specs.Syntax.{GlobalSyntax, ProcSyntax, Global, Procedure}
use Rattle.source_types.specs.Written.{area_in}
use Rattle.rule_faults.specs.Contexts.{Context, of_body}
use Rattle.rule_faults.specs.ExpressionRows.{area_row}
use Rattle.rule_faults.specs.FirstFault.{first_of}
use Rattle.rule_faults.specs.ItemRows.{init_rows, header_row, at_header, with_params, contracts_row, boundary_of, body_row, within_item}
use Rattle.rule_faults.specs.StatementRows.{block_row}
use Rattle.rule_checker.specs.Faults.{either}
use Rattle.rule_checker.proofs.Patterns.{first_joined}
use Rattle.item_rules.specs.Within as within

pub if_ok : {T E : Type 0} {P Q : T → Type 0} (r : Result T E) → ((x : T) → P x → Q x) → IfOk r P → IfOk r Q
if_ok (Ok x) f p = f x p
if_ok (Err x) f p = tt

pub global_told : (c : Context) (i : GlobalSyntax) → within.global_fault c i ≡ first_of (within_item c (Global i))
global_told c i = sym (first_joined (area_row c.earlier i.area) (init_rows c (area_in c.earlier i.area) i.init))

body_told : (c : Context) (p : ProcSyntax) → first_of (body_row c p) ≡ within.body_fault c p
body_told c p = first_joined (contracts_row c p.contracts) (block_row (record c { allowed = of_body }) c.gives p.body)

pub proc_told : (c : Context) (p : ProcSyntax) → within.proc_fault c p ≡ first_of (within_item c (Procedure p))
proc_told c p =
    let x : Context = with_params (at_header c p.header) p.header.params in
    sym (first_joined (header_row c (boundary_of p.exported) p.header) (body_row x p) ∙ ap (either (first_of (header_row c (boundary_of p.exported) p.header))) (body_told x p))
