-- What changes in the map of areas, and what stays: by the places of the map.
use Rattle.std.proofs.Common.{◌≡◌, ℕ, ℤ, zero, suc, List, [], ◌∷◌, Some, refl, ap, arith}
use Rattle.type_trees.specs.Values as tree
use Rattle.type_trees.specs.Values.{Cell, Parts, Nil, Cons, at, at_row, put, put_row}
use Rattle.core_meaning.specs.Areas.{Held, Live, Marked, Gone}
use Rattle.core_meaning.specs.AreaLaws.{PartsHoldWhatIsPut, OthersStay, TypesStay, MarkedAreasStay, TakenAreasAreGone, EarlierAreasStay}

mutual
  at_put : (v : Held) (path : List ℕ) (w x : Held) → at v path ≡ Some x → at (put v path w) path ≡ Some w
  at_put v [] w x e = refl
  at_put (Cell c) (i ∷ path) w x e = let no : ⊥ = cc in absurd no
  at_put (Parts vs) (i ∷ path) w x e = row_put vs i path w x e

  row_put : (vs : tree.Values ℤ) (i : ℕ) (path : List ℕ) (w x : Held) → at_row vs i path ≡ Some x → at_row (put_row vs i path w) i path ≡ Some w
  row_put Nil i path w x e = let no : ⊥ = cc in absurd no
  row_put (Cons v vs) zero path w x e = at_put v path w x e
  row_put (Cons v vs) (suc i) path w x e = row_put vs i path w x e

pub parts_hold : PartsHoldWhatIsPut
parts_hold [] k path held v e = let no : ⊥ = cc in absurd no
parts_hold (Live a ∷ areas) zero path held v e = at_put a.held path v held e
parts_hold (Marked a ∷ areas) zero path held v e = at_put a.held path v held e
parts_hold (Gone ∷ areas) zero path held v e = let no : ⊥ = cc in absurd no
parts_hold (a ∷ areas) (suc k) path held v e = parts_hold areas k path held v e

pub others_stay : OthersStay
others_stay [] k path v j apart = refl
others_stay (a ∷ areas) zero path v zero apart = absurd (apart refl)
others_stay (a ∷ areas) zero path v (suc j) apart = refl
others_stay (a ∷ areas) (suc k) path v zero apart = refl
others_stay (a ∷ areas) (suc k) path v (suc j) apart = others_stay areas k path v j (λ e. apart (ap suc e))

pub types_stay : TypesStay
types_stay [] k path v j q = refl
types_stay (Live a ∷ areas) zero path v zero q = refl
types_stay (Marked a ∷ areas) zero path v zero q = refl
types_stay (Gone ∷ areas) zero path v zero q = refl
types_stay (a ∷ areas) zero path v (suc j) q = refl
types_stay (a ∷ areas) (suc k) path v zero q = refl
types_stay (a ∷ areas) (suc k) path v (suc j) q = types_stay areas k path v j q

pub marked_stay : MarkedAreasStay
marked_stay [] k j q = (refl, refl)
marked_stay (Live a ∷ areas) zero zero q = (refl, refl)
marked_stay (Marked a ∷ areas) zero zero q = (refl, refl)
marked_stay (Gone ∷ areas) zero zero q = (refl, refl)
marked_stay (a ∷ areas) zero (suc j) q = marked_stay areas zero j q
marked_stay (a ∷ areas) (suc k) zero q = (refl, refl)
marked_stay (a ∷ areas) (suc k) (suc j) q = marked_stay areas k j q

pub taken_are_gone : TakenAreasAreGone
taken_are_gone [] k j q le = refl
taken_are_gone (a ∷ areas) zero zero q le = refl
taken_are_gone (a ∷ areas) zero (suc j) q le = taken_are_gone areas zero j q (omega arith)
taken_are_gone (a ∷ areas) (suc k) zero q le = absurd (omega (arith, le))
taken_are_gone (a ∷ areas) (suc k) (suc j) q le = taken_are_gone areas k j q (omega (arith, le))

pub earlier_stay : EarlierAreasStay
earlier_stay [] k j lt = refl
earlier_stay (a ∷ areas) zero j lt = absurd (omega (arith, lt))
earlier_stay (a ∷ areas) (suc k) zero lt = refl
earlier_stay (a ∷ areas) (suc k) (suc j) lt = earlier_stay areas k j (omega (arith, lt))
