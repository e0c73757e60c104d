use Rattle.std.proofs.Common.{◌≡◌, None, map, slice_get, refl, sym, subst, ◌∙◌}
use Rattle.std.specs.List.{AllZip}
use Rattle.std.proofs.lemmas.List.{length-map}
use Rattle.std.proofs.lemmas.Option.{slice_get_read}
use Rattle.ivory_tree.specs.View.{expr_of}
use Rattle.first_form.specs.Stands.{ByteStands}
use Rattle.first_form.proofs.Lists.{get_past}
use Rattle.first_form.proofs.Calls.{no_place, no_import, miscounted, call_stands}
use Rattle.first_form.proofs.call.first_call.Goals as goal

pub returns-in_default-clause-refused : goal.returns-in_default-clause-refused
returns-in_default-clause-refused c = no_place _ _ _ c.requires.first c.requires.different (sym c.find.ensures ∙ c.in_default.is)

pub returns-in_default-get-clause-refused : goal.returns-in_default-get-clause-refused
returns-in_default-get-clause-refused c =
    let none : slice_get c.args.imports.now c.in-Some.place ≡ None = get_past _ _ c.in_default-get.ensures.lookup.3 in
    no_import _ _ _ c.in-Some.place c.requires.first c.requires.different (sym c.in-Some.ensures) none

pub returns-then-len-import-clause-refused : goal.returns-then-len-import-clause-refused
returns-then-len-import-clause-refused c =
    let at = c.in-Some-get.ensures.lookup in
    miscounted _ _ _ c.in-Some.place c.in-Some-get.import.now c.requires.first c.requires.different (sym c.in-Some.ensures) (slice_get_read _ _ _ _ refl at.3.0 at.1)
    (λ same. c.if-len-import.true (c.len.ensures ∙ sym (length-map c.args.call.now.args expr_of) ∙ same))

pub returns-clause-ok : goal.returns-clause-ok
returns-clause-ok c =
    let at = c.in-Some-get.ensures.lookup in
    call_stands _ _ _ _ c.in-Some-get.import.now c.requires.first (sym c.in-Some.ensures) (slice_get_read _ _ _ _ refl at.3.0 at.1)
    (length-map c.args.call.now.args expr_of ∙ sym c.len.ensures ∙ c.if-len-import.false)
    (subst (λ xs. AllZip ByteStands (map expr_of xs) c.in_ok-values.values) c.deref.ensures c.in_ok-values.ensures.ok)
