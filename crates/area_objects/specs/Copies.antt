-- A copy as a compiler makes it, part by part: it fills a part with the first of the new values and keeps the last of the old. What is copied
-- from is a part of the same type, so the same part, or one that the copy does not touch.
use Rattle.std.specs.Prelude.{◌≡◌, ℕ, zero, suc, ℤ, List, [], ◌∷◌, ◌++◌, slice_get, Some}
use Rattle.type_trees.specs.Trees.{part}
use Rattle.type_trees.specs.Values.{Parts, Values, Nil, Cons, at, at_row}
use Rattle.area_types.specs.Trees.{Written}
use Rattle.core_meaning.specs.Areas.{Held, Area, Areas, Live, put_at}

-- the first i of the new values, and the others of the old
abbrev pub mixed : ℕ → (new old : Values ℤ) → Values ℤ
mixed zero us ws = ws
mixed (suc i) us Nil = Nil
mixed (suc i) Nil (Cons w ws) = Cons w ws
mixed (suc i) (Cons u us) (Cons w ws) = Cons u (mixed i us ws)

-- a part of a live area, its type and what it holds
pub record PartIs (areas : Areas) (k : ℕ) (path : List ℕ) (b : Written) (u : Held) : Type 0 where
  pub area : Area
  pub live : slice_get areas k ≡ Some (Live area)
  pub leads : part area.ty path ≡ Some b
  pub holds : at area.held path ≡ Some u

-- part k, p of type b, which held ws, has got the first i values of the part j, r
abbrev pub filled_to : Areas → (k : ℕ) (p : List ℕ) → (i : ℕ) (us ws : Values ℤ) → Areas
filled_to areas k p i us ws = put_at k p (Parts (mixed i us ws)) areas

-- before the first of them nothing has changed
abbrev pub CopiesBegin : Type 0
CopiesBegin = (areas : Areas) (k : ℕ) (p : List ℕ) (b : Written) (us ws : Values ℤ) → PartIs areas k p b (Parts ws) → filled_to areas k p 0 us ws ≡ areas

-- The next one is still there in what is copied from, its place is still one of its type, and once it is put there one more is copied.
pub record NextCopied (areas : Areas) (k : ℕ) (p : List ℕ) (j : ℕ) (r : List ℕ) (i : ℕ) (us ws : Values ℤ) (e : Written) (u w : Held) : Type 0 where
  pub place : PartIs (filled_to areas k p i us ws) k (p ++ i ∷ []) e w
  pub source : PartIs (filled_to areas k p i us ws) j (r ++ i ∷ []) e u
  pub one_more : put_at k (p ++ i ∷ []) u (filled_to areas k p i us ws) ≡ filled_to areas k p (suc i) us ws

abbrev pub CopiesGoOn : Type 0
CopiesGoOn =
    (areas : Areas) (k : ℕ) (p : List ℕ) (j : ℕ) (r : List ℕ) (b e : Written) (i : ℕ) (us ws : Values ℤ) (u w : Held)
    → PartIs areas k p b (Parts ws) → PartIs areas j r b (Parts us) → part b (i ∷ []) ≡ Some e → at_row us i [] ≡ Some u → at_row ws i [] ≡ Some w
    → NextCopied areas k p j r i us ws e u w

-- how many values there are
abbrev pub many : Values ℤ → ℕ
many Nil = 0
many (Cons v vs) = suc (many vs)

-- when all are copied, the part holds what the other held
abbrev pub CopiesEnd : Type 0
CopiesEnd = (us ws : Values ℤ) → many us ≡ many ws → mixed (many us) us ws ≡ us
