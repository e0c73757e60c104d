use Rattle.std.proofs.Common.{◌≡◌, true, false, sym, ap, ◌∙◌, arith}
use Rattle.std.proofs.lemmas.Bool.{not-false, not-true}
use Rattle.first_form.specs.Tables.{is_noted, noted}
use Rattle.first_form.proofs.NameTables.{table_more, table_refused}
use Rattle.first_form.proofs.names.table_of.Goals as goal

pub returns-then-not-branch-clause-refused : goal.returns-then-not-branch-clause-refused
returns-then-not-branch-clause-refused c =
    let used : is_noted c.in_ok-copy.field-0 c.loop-name.table ≡ true = not-false _ (sym c.in_ok-note.ensures.fresh ∙ c.if-not-branch.true) in
    table_refused _ _ _ c.name-item.result c.loop-name.invariant (omega arith) c.name-item.is (ap (λ n. is_noted n c.loop-name.table) (sym c.in_ok-copy.ensures) ∙ used)

pub loop-name-preserved : goal.loop-name-preserved
loop-name-preserved c =
    let fresh : is_noted c.in_ok-copy.field-0 c.loop-name.table ≡ false = not-true _ (sym c.in_ok-note.ensures.fresh ∙ c.if-not-branch.false) in
    table_more _ _ _ _ c.name-item.result c.loop-name.invariant (omega arith) c.name-item.is (ap (λ n. is_noted n c.loop-name.table) (sym c.in_ok-copy.ensures) ∙ fresh)
    (c.in_ok-note.ensures.names ∙ ap (noted c.loop-name.table) c.in_ok-copy.ensures)
