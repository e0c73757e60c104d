use Rattle.std.proofs.Common.{map, ap, ◌∙◌}
use Rattle.area_types.specs.Tables.{structs_of, fits_after}
use Rattle.area_types.specs.View.{struct_of}
use Rattle.area_types.proofs.table.StructTable.struct_fits.Goals as goal

pub returns : goal.returns
returns c =
    c.fits_after.ensures
    ∙ ap (λ ss. fits_after (map struct_of ss) c.as_slice-2.result.now (struct_of c.args.d.now)) (c.as_slice.ensures ∙ ap (λ t. t.structs) c.self.view_is)
    ∙ ap (λ ws. fits_after (structs_of c.args.self.now) ws (struct_of c.args.d.now)) (c.as_slice-2.ensures ∙ ap (λ t. t.words) c.self.view_is)
