-- What holds of the memory of numbers, in both byte orders.
use Rattle.std.specs.Prelude.{◌≡◌, ◌↔◌, ℕ, ◌+◌, ◌≤◌, ℤ, List, ◌∷◌, ◌++◌, Bool, true}
use Rattle.type_trees.specs.Trees.{Tree}
use Rattle.type_trees.specs.Layouts.{Metric, lay}
use Rattle.type_trees.specs.Values.{Value, Fits, HasForm}
use Rattle.c_memory.specs.Faithful.{Faithful}
use Rattle.c_memory.specs.Codecs.{ByteOrder, ScalarTable, SoundScalars, numbers, Held}
use Rattle.c_memory.specs.Initializers.{Init, zeros, initial, IsInit, spelled_out}
use Rattle.c_memory.specs.Standing.{stands, StandsAt}
use Rattle.c_memory.specs.Abstract.{Lawful}
use Rattle.c_memory.specs.ValueLaws.{LawfulValues}
use Rattle.c_memory.specs.Memories.{memory_of_numbers}
use Rattle.c_memory.specs.KindTables.{kind_table}

module _ (S P : Type 0) where
  -- a number that a scalar holds is read from the bytes that it was written to, and other bytes have none
  abbrev pub NumbersAreFaithful : Type 0
  NumbersAreFaithful = (t : ScalarTable S) → SoundScalars t → Faithful (numbers {P = P} t) (Held t)

-- the kinds of whole numbers are such scalars, whatever the byte order and the alignments
abbrev pub KindsAreSound : Type 0
KindsAreSound = (order : ByteOrder) (most : ℕ) → SoundScalars (kind_table order most)

module _ (S N : Type 0) where
  -- a wanted part begins at an offset exactly where a path leads to one there
  abbrev pub PartsStand : Type 0
  PartsStand = (m : Metric S) (wanted : Tree S N → Bool) (o : ℕ) (a : Tree S N) → (stands m wanted o a 0 ≡ true) ↔ StandsAt m wanted o a 0

  -- of two scalars of a layout the first ends before the second begins
  abbrev pub ScalarsApart : Type 0
  ScalarsApart =
      (m : Metric S) (a : Tree S N) (x y : ℕ × S) (left mid right : List (ℕ × S)) → lay m a 0 ≡ left ++ x ∷ (mid ++ y ∷ right) → x.0 + m.width x.1 ≤ y.0

module _ (S N P : Type 0) where
  abbrev pub MemoryIsLawful : Type 0
  MemoryIsLawful = (t : ScalarTable S) → SoundScalars t → Lawful t.metric (Held t) (memory_of_numbers {S = S} {N = N} P t)

module _ (S N P W : Type 0) where
  -- where each cell of a value is held as a number
  abbrev pub ValuesAreHeld : Type 0
  ValuesAreHeld = (t : ScalarTable S) → SoundScalars t → (f : W → ℤ) → LawfulValues t.metric (Held t) f (memory_of_numbers {S = S} {N = N} P t)

module _ (S N : Type 0) where
  -- an initializer of a type gives a value of it, where each scalar can hold its zero
  abbrev pub InitializersFit : Type 0
  InitializersFit =
      (t : ScalarTable S) (nought : S → ℤ) → ((s : S) → Held t s (nought s)) → (a : Tree S N) (i : Init ℤ) → IsInit (Held t) a i → Fits (Held t) a (initial nought a i)

  abbrev pub ZerosFit : Type 0
  ZerosFit = (t : ScalarTable S) (nought : S → ℤ) → ((s : S) → Held t s (nought s)) → (a : Tree S N) → Fits (Held t) a (zeros nought a)

  -- one that has every element gives just the value
  abbrev pub ElementsGiveTheValue : Type 0
  ElementsGiveTheValue = (nought : S → ℤ) (a : Tree S N) (v : Value ℤ) → HasForm a v → initial nought a (spelled_out v) ≡ v
