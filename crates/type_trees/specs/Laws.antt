-- What holds of trees of types, their layouts and their values.
use Rattle.std.specs.Prelude.{◌≡◌, ℕ, ◌+◌, ◌<◌, ◌≤◌, ◌⊎◌, List, ◌++◌, length, Some}
use Rattle.type_trees.specs.Multiples.{up, LeastMultiple}
use Rattle.type_trees.specs.Trees.{Tree, scalars, count, part, first}
use Rattle.type_trees.specs.Layouts.{Metric, size, lay, offset, Ascends}
use Rattle.type_trees.specs.Windows.{Window, Replaced}
use Rattle.type_trees.specs.Values.{Value, cells, at, put, HasForm}

-- members stand at the least offsets that their alignments allow
abbrev pub LeastOffsets : Type 0
LeastOffsets = (o a : ℕ) → 0 < a → LeastMultiple o a (up o a)

-- one before the other
abbrev pub Apart : ℕ → ℕ → ℕ → Type 0
Apart x y w = (x + w ≤ y) ⊎ (y + w ≤ x)

module _ (S N : Type 0) where
  -- a type has as many scalars as its list of them
  abbrev pub ScalarsCounted : Type 0
  ScalarsCounted = (a : Tree S N) → length (scalars a) ≡ count a

  -- those of a part stand in a row among those of the whole
  abbrev pub PartsInOrder : Type 0
  PartsInOrder = (a : Tree S N) (p : List ℕ) (b : Tree S N) → part a p ≡ Some b → Window (scalars a) (scalars b) (first a p)

  -- the scalars of a layout stand in order of declaration, do not overlap, and lie within the size
  abbrev pub ScalarsAscend : Type 0
  ScalarsAscend = (m : Metric S) (a : Tree S N) (b : ℕ) → Ascends m b (lay m a b) (b + size m a)

  -- those of a part stand in a row among those of the whole, at the part's offset
  abbrev pub PartsInRow : Type 0
  PartsInRow = (m : Metric S) (a : Tree S N) (p : List ℕ) (c : Tree S N) (b : ℕ) → part a p ≡ Some c → Window (lay m a b) (lay m c (b + offset m a p)) (first a p)

  -- a part lies within the whole
  abbrev pub PartsWithin : Type 0
  PartsWithin = (m : Metric S) (a : Tree S N) (p : List ℕ) (c : Tree S N) → part a p ≡ Some c → offset m a p + size m c ≤ size m a

  -- two parts of one type are the same part or apart
  abbrev pub PartsApart : Type 0
  PartsApart =
      (m : Metric S) (a : Tree S N) (p q : List ℕ) (c : Tree S N) → part a p ≡ Some c → part a q ≡ Some c → (p ≡ q) ⊎ Apart (offset m a p) (offset m a q) (size m c)

  -- a path behind another leads from where that one ends
  abbrev pub PathsJoin : Type 0
  PathsJoin =
      (m : Metric S) (a : Tree S N) (p q : List ℕ) (c : Tree S N) → part a p ≡ Some c → (part a (p ++ q) ≡ part c q) × (offset m a (p ++ q) ≡ offset m a p + offset m c q)

module _ (S N V : Type 0) where
  -- a value of a type has a cell for each scalar
  abbrev pub CellsCounted : Type 0
  CellsCounted = (a : Tree S N) (v : Value V) → HasForm a v → length (cells v) ≡ count a

  -- the value of a part, and another put in its place: its cells change and no others
  abbrev pub PutsReplace : Type 0
  PutsReplace =
      (a : Tree S N) (p : List ℕ) (b : Tree S N) (v w : Value V) → part a p ≡ Some b → HasForm a v → HasForm b w
      → (x : Value V) × (at v p ≡ Some x) × HasForm b x × HasForm a (put v p w) × Replaced (cells v) (cells x) (cells w) (cells (put v p w)) (first a p)
