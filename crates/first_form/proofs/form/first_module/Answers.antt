use Rattle.std.proofs.Common.{◌^◌, ◌<◌, ◌∙◌, List, length, map, Err, ap, sym, subst}
use Rattle.std.specs.List.{AllZip}
use Rattle.std.proofs.lemmas.Result.{err_from_is_err_and}
use Rattle.ivory_tree.specs.View.{item_of}
use Rattle.first_form.specs.declared.first.FirstImport.{FirstImport}
use Rattle.first_form.specs.Stands.{ProcStands}
use Rattle.first_form.specs.Tables.{ImportsFirst}
use Rattle.first_form.specs.Valid.{AllDifferent}
use Rattle.first_form.proofs.Refusals.{refused_on}
use Rattle.first_form.proofs.Whole.{Parted, parted_by, whole_stands, imports_refused, procs_refused, imports_named_first, each_import_few, imports_few}
use Rattle.first_form.proofs.form.first_module.Goals as goal
use Rattle.first_form.proofs.form.first_module.Goals.{After-split_at}

parts : (c : After-split_at) → Parted c.args.tree.now c.in_ok-items.items c.imports_first.result c.split_at.result.0.now c.split_at.result.1.now
parts c =
    parted_by c.args.tree.now c.as_slice-all.result.now c.in_ok-names.names c.in_ok-items.items c.imports_first.result c.split_at.result.0.now c.split_at.result.1.now
    c.as_slice-all.ensures c.in_ok-names.ensures (c.in_ok-items.ensures.names ∙ c.deref.ensures) c.imports_first.ensures.value c.split_at.ensures.front c.split_at.ensures.back

pub first_imports-requires : goal.first_imports-requires
first_imports-requires c = record { few = each_import_few _ _ _ _ _ (parts (goal.at.first_imports-requires c).After-split_at) (2 ^ 32) c.requires.few }

pub returns-in_err-imports-clause-refused : goal.returns-in_err-imports-clause-refused
returns-in_err-imports-clause-refused c =
    let p = err_from_is_err_and c.from_residual-in_err-imports.result c.from_residual-in_err-imports.ensures.1 in
    refused_on c.from_residual-in_err-imports.result c.in_err-imports.field-0.0 (p.1 ∙ ap Err p.2) c.in_err-imports.ensures.refused
    (imports_refused _ _ _ _ _ (parts (goal.at.returns-in_err-imports-clause-refused c).After-split_at))

pub first_procs-requires-clause-first : goal.first_procs-requires-clause-first
first_procs-requires-clause-first c =
    subst (λ (is : List FirstImport). ImportsFirst is c.in_ok-items.items) (sym c.deref-2.ensures)
    (imports_named_first _ _ _ _ _ (parts (goal.at.first_procs-requires-clause-first c).After-split_at) c.in_ok-imports.imports c.in_ok-imports.ensures.ok)

pub first_procs-requires-clause-few : goal.first_procs-requires-clause-few
first_procs-requires-clause-few c =
    subst (λ (is : List FirstImport). length is < 2 ^ 32) (sym c.deref-2.ensures)
    (imports_few _ _ _ _ _ (parts (goal.at.first_procs-requires-clause-few c).After-split_at) (2 ^ 32) c.in_ok-imports.imports c.requires.few c.in_ok-imports.ensures.ok)

pub returns-in_err-procs-clause-refused : goal.returns-in_err-procs-clause-refused
returns-in_err-procs-clause-refused c =
    let p = err_from_is_err_and c.from_residual-in_err-procs.result c.from_residual-in_err-procs.ensures.1 in
    refused_on c.from_residual-in_err-procs.result c.in_err-procs.field-0.0 (p.1 ∙ ap Err p.2) c.in_err-procs.ensures.refused
    (λ none. procs_refused _ _ _ _ _ (parts (goal.at.returns-in_err-procs-clause-refused c).After-split_at) c.in_ok-imports.imports c.in_ok-imports.ensures.ok
    (λ qs all. none qs (subst (λ (is : List FirstImport). AllZip (ProcStands is) (map item_of c.split_at.result.1.now) qs) (sym c.deref-2.ensures) all)))

pub returns-clause-ok : goal.returns-clause-ok
returns-clause-ok c =
    whole_stands _ _ _ _ _ (parts (goal.at.returns-clause-ok c).After-split_at) c.in_ok-imports.imports c.in_ok-procs.procs
    (subst (λ ns. AllDifferent ns) (sym c.in_ok-items.ensures.names) c.in_ok-items.ensures.different)
    c.in_ok-imports.ensures.ok
    (subst (λ (is : List FirstImport). AllZip (ProcStands is) (map item_of c.split_at.result.1.now) c.in_ok-procs.procs) c.deref-2.ensures c.in_ok-procs.ensures.ok)
