use Rattle.std.proofs.Common.{◌∷◌, [], ◌++◌, map, IsTrue, sym, subst}
use Rattle.std.proofs.lemmas.List.{map-append}
use Rattle.area_types.specs.Tables.{is_table, structs_of, fits_after}
use Rattle.area_types.specs.View.{struct_of}
use Rattle.area_types.proofs.Truths.{after_push}
use Rattle.area_types.proofs.Sound.{fit_last}
use Rattle.area_types.proofs.table.StructTable.add_struct.Goals as goal

pub invariant_of-self : goal.invariant_of-self
invariant_of-self c =
    let fits : IsTrue (fits_after (map struct_of c.self.inside.structs) c.self.inside.words (struct_of c.args.d)) =
    subst (λ t. IsTrue (fits_after (structs_of t) t.words (struct_of c.args.d))) (sym c.self.view_is) c.requires in
    let grown : IsTrue (is_table (map struct_of (c.self.inside.structs ++ c.args.d ∷ [])) c.self.inside.words) =
    subst (λ ss. IsTrue (is_table ss c.self.inside.words)) (sym (map-append struct_of c.self.inside.structs (c.args.d ∷ [])))
    (fit_last (map struct_of c.self.inside.structs) [] c.self.inside.words (struct_of c.args.d) c.self.invariant fits) in
    after_push (λ structs. IsTrue (is_table (map struct_of structs) c.self.inside.words)) c.push.result c.self.inside.structs c.push.new.self (c.self.inside.structs ++ c.args.d ∷ [])
    c.push.ensures.ok c.push.ensures.err c.self.invariant grown
