-- What the imports so far stand for.
use Rattle.std.proofs.Common.{take, map}
use Rattle.std.specs.List.{AllZip}
use Rattle.ivory_tree.specs.View.{item_of}
use Rattle.first_form.specs.Stands.{ImportStands}
use Rattle.first_form.proofs.import.first_imports.Given as goal

abbrev pub invariant-loop-import : goal.invariant-loop-import
invariant-loop-import l = AllZip (ImportStands l.items) (map item_of (take l.import-index l.imports)) l.firsts
