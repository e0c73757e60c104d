-- What is read from the object of a live area.
use Rattle.std.proofs.Common.{ℤ, Ok, ◌∙◌, ap}
use Rattle.type_trees.specs.Trees.{Leaf}
use Rattle.type_trees.specs.Layouts.{Metric}
use Rattle.type_trees.specs.Values.{Cell, cells}
use Rattle.c_memory.specs.Abstract.{Operations}
use Rattle.c_memory.specs.ValueLaws.{LawfulValues}
use Rattle.c_ast.specs.declared.CScalar.{CScalar}
use Rattle.c_ast.specs.Syntax.{Name}
use Rattle.area_objects.specs.Shapes.{Naming, shape, c_path}
use Rattle.area_objects.specs.Laws.{CellsRead, PartsSeen}
use Rattle.area_objects.proofs.Shapes.{part_shape}
use Rattle.area_objects.proofs.Values.{c_value, cells_c, at_c}
use Rattle.area_objects.proofs.Kept.{map_same, cell_fits, as_value}

module _ (m : Metric CScalar) (Can : CScalar → ℤ → Type 0) (M : Operations CScalar Name ℤ) (values : LawfulValues m Can (λ (n : ℤ). n) M) (g : Naming) where
  pub cells_read : CellsRead m Can M g
  cells_read objects areas mem k o a p s n both lives leads is =
      let h = both.holds k o a lives in (
        values.cell_read mem o a.constant (shape g a.ty) (c_value a.ty a.held) (c_path a.ty p) (g.scalar s) n (as_value m Can M g mem o a h) (part_shape g a.ty p (Leaf s) leads) (at_c a.ty p (Leaf s) a.held (Cell n) leads is),
        cell_fits Can g a.ty p s a.held n h.fits leads is,
      )

  pub parts_seen : PartsSeen m Can M g
  parts_seen objects areas mem k o a p b u both lives leads is =
      values.part_read mem o a.constant (shape g a.ty) (c_value a.ty a.held) (c_path a.ty p) (shape g b) (c_value b u) (as_value m Can M g mem o a (both.holds k o a lives)) (part_shape g a.ty p b leads) (at_c a.ty p b a.held u leads is)
      ∙ ap Ok (map_same (cells (c_value b u)) ∙ cells_c b u)
