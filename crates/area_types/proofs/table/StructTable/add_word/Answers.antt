use Rattle.std.proofs.Common.{◌∷◌, [], ◌++◌, map, IsTrue}
use Rattle.area_types.specs.Tables.{is_table}
use Rattle.area_types.specs.View.{struct_of}
use Rattle.area_types.proofs.Truths.{after_push}
use Rattle.area_types.proofs.Words.{table_more}
use Rattle.area_types.proofs.table.StructTable.add_word.Goals as goal

pub invariant_of-self : goal.invariant_of-self
invariant_of-self c =
    after_push (λ words. IsTrue (is_table (map struct_of c.self.inside.structs) words)) c.push.result c.self.inside.words c.push.new.self (c.self.inside.words ++ c.args.w ∷ [])
    c.push.ensures.ok c.push.ensures.err c.self.invariant (table_more c.self.inside.words (c.args.w ∷ []) (map struct_of c.self.inside.structs) c.self.invariant)
