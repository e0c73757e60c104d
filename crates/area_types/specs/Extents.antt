-- What one walk over an area finds: its numbers, each of which stops at the greatest `u32`.
use Rattle.std.specs.Prelude.{ℕ, ◌+◌, ◌*◌, ◌≡◌, List, min, max, Option, Result, IfOk}
use Rattle.std.specs.Option.{option_map}
use Rattle.iv_words.specs.declared.IntKind.{IntKind}
use Rattle.type_trees.specs.Multiples.{up}
use Rattle.type_trees.specs.Trees.{count, count_row, nodes, nodes_row, levels, levels_row, part, first}
use Rattle.type_trees.specs.Layouts.{align, align_row, size, end_row}
use Rattle.area_types.specs.Syntax.{Area}
use Rattle.area_types.specs.View.{found_of}
use Rattle.area_types.specs.Trees.{Written, WrittenRow, area_in}
use Rattle.area_types.specs.Sizes.{metric}
use Rattle.area_types.specs.declared.area.Area.{Area as AreaTree}
use Rattle.area_types.specs.declared.extent.Extent.{Extent}

abbrev pub capped : ℕ → ℕ
capped n = min n 4_294_967_295

abbrev pub extent_of : List IntKind → Written → Extent
extent_of words a = record {
  cells = capped (count a);
  nodes = capped (nodes a);
  size = capped (size (metric words) a);
  alignment = align (metric words) a;
  levels = capped (levels a);
}

-- of a row of fields; its size is where the last one ends
abbrev pub row_extent : List IntKind → WrittenRow → Extent
row_extent words fields = record {
  cells = capped (count_row fields);
  nodes = capped (nodes_row fields);
  size = capped (end_row (metric words) fields 0);
  alignment = align_row (metric words) fields;
  levels = capped (levels_row fields);
}

-- of an array of so many such elements
abbrev pub times : Extent → ℕ → Extent
times e n = record {
  cells = capped (n * e.cells);
  nodes = capped (1 + capped (n * e.nodes));
  size = capped (n * e.size);
  alignment = e.alignment;
  levels = capped (1 + e.levels);
}

-- of a row with one more field
abbrev pub with_field : Extent → Extent → Extent
with_field e f = record {
  cells = capped (e.cells + f.cells);
  nodes = capped (e.nodes + f.nodes);
  size = capped (capped (up e.size f.alignment) + f.size);
  alignment = max e.alignment f.alignment;
  levels = max e.levels f.levels;
}

-- of the struct of such a row
abbrev pub enclosed : Extent → Extent
enclosed e = record {
  cells = e.cells;
  nodes = capped (1 + e.nodes);
  size = capped (up e.size e.alignment);
  alignment = e.alignment;
  levels = capped (1 + e.levels);
}

-- the first cell and the area of a part
abbrev pub capped_cell_at : Written → List ℕ → Option (ℕ × Area)
capped_cell_at a path = option_map (λ b. (capped (first a path), area_in b)) (part a path)

-- what was found, and is no want of memory, is that part
abbrev pub Finds : {E : Type 0} → Result (Option (ℕ × AreaTree)) E → Written → List ℕ → Type 0
Finds result a path = IfOk result (λ found. option_map found_of found ≡ capped_cell_at a path)

-- the part that was found in an area, in one where so many cells stand before that area
abbrev pub behind : ℕ → Option (ℕ × Area) → Option (ℕ × Area)
behind before found = option_map (λ (f : ℕ × Area). (capped (before + f.0), f.1)) found
