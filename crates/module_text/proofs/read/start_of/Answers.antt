use Rattle.std.proofs.Common.{◌≡◌, refl, sym, ap, length}
use Rattle.std.proofs.lemmas.Option.{slice_get_read, slice_get_past}
use Rattle.module_text.specs.Verdicts.{start_of}
use Rattle.module_text.proofs.Places.{token_is_within}
use Rattle.module_text.proofs.read.start_of.Goals as goal

pub returns-in-Some-clause-within : goal.returns-in-Some-clause-within
returns-in-Some-clause-within c =
    let at = c.in-Some.ensures.lookup in
    token_is_within 0 (length c.args.text.now) c.args.tokens.now c.args.i c.in-Some.token.now c.requires.in_order (rw c.as_slice.ensures at (slice_get_read c.as_slice.result.now _ c.args.i c.in-Some.token.now refl at.3.0 at.1))

pub returns-in-None-clause-start : goal.returns-in-None-clause-start
returns-in-None-clause-start c = ap (start_of c.args.text.now) (sym (rw c.as_slice.ensures at (slice_get_past c.as_slice.result.now c.args.i c.in-None.ensures.lookup.3)))
