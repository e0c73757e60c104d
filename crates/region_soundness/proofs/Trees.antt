-- Values of types: a value that fits has each part of the type, and another that fits the part can be put there.
use Rattle.std.proofs.Common.{◌≡◌, ℕ, ℤ, List, Some, IsTrue, refl}
use Rattle.type_trees.specs.Trees.{Leaf, part}
use Rattle.type_trees.specs.Values.{Cell, Parts, at, put}
use Rattle.type_trees.proofs.Values.{lens}
use Rattle.area_types.specs.Syntax.{ValueType}
use Rattle.area_types.specs.Tables.{Table}
use Rattle.area_types.specs.Trees.{Written}
use Rattle.core_tree.specs.Types.{is_value}
use Rattle.core_meaning.specs.Areas.{Held}
use Rattle.region_soundness.specs.Scoped.{HeldFits}

-- what a cell may hold
abbrev pub Holds : Table → ValueType → ℤ → Type 0
Holds table t v = IsTrue (is_value table t v)

pub part_held : (table : Table) (ty : Written) (path : List ℕ) (b : Written) (held : Held) → part ty path ≡ Some b → HeldFits table ty held → (x : Held) × (at held path ≡ Some x) × HeldFits table b x
part_held table ty path b held e f =
    let l = lens (Holds table) ty path b held e f in
    (l.value, l.is, l.fits)

pub put_fits : (table : Table) (ty : Written) (path : List ℕ) (b : Written) (held w : Held) → part ty path ≡ Some b → HeldFits table ty held → HeldFits table b w → HeldFits table ty (put held path w)
put_fits table ty path b held w e f g = (lens (Holds table) ty path b held e f).puts w g

-- a value of a stored type is one number of the type
pub leaf_number : (table : Table) (t : ValueType) (held : Held) → HeldFits table (Leaf t) held → (v : ℤ) × (held ≡ Cell v) × IsTrue (is_value table t v)
leaf_number table t (Cell v) f = (v, refl, f)
leaf_number table t (Parts vs) f = absurd f
