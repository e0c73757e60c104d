-- A copy part by part. Two parts of one type are the same or their paths part; what is put at one is then not seen at the other.
use Rattle.std.proofs.Common.{◌≡◌, ◌≢◌, ℕ, zero, suc, ◌==◌, ℤ, List, [], ◌∷◌, ◌++◌, slice_get, Some, Bool, true, false, refl, sym, ◌∙◌, ap, subst, arith, ◌⊎◌, ⊎_elim, inl, inr}
use Rattle.std.proofs.lemmas.Bool.{eqb-true, eqb-false}
use Rattle.type_trees.specs.Trees.{Leaf, Many, Struct, End, Field, part, part_row}
use Rattle.type_trees.specs.Values.{Cell, Parts, Values, Nil, Cons, at, at_row, put, put_row}
use Rattle.type_trees.proofs.Parts.{levels_within}
use Rattle.type_trees.proofs.Paths.{part_append}
use Rattle.type_trees.proofs.Windows.{within}
use Rattle.area_types.specs.Trees.{Written, WrittenRow}
use Rattle.core_meaning.specs.Areas.{Held, Area, Areas, Live, with_part, put_part, put_at}
use Rattle.core_meaning.proofs.Areas.{others_stay}
use Rattle.area_objects.specs.Copies.{mixed, PartIs, filled_to, CopiesBegin, NextCopied, CopiesGoOn, CopiesEnd}
use Rattle.area_objects.proofs.Places.{put_here}

-- ---- paths that part

abbrev pub Parting : List ℕ → List ℕ → Type 0
Parting [] q = ⊥
Parting (i ∷ p) [] = ⊥
Parting (i ∷ p) (j ∷ q) = (i ≢ j) ⊎ ((i ≡ j) × Parting p q)

not_itself : (a : Written) (i : ℕ) (p : List ℕ) → part a (i ∷ p) ≡ Some a → ⊥
not_itself a i p h = omega (arith, levels_within a (i ∷ p) a h)

-- at one step, the same or not
further : (i j : ℕ) (p q : List ℕ) → (i ≡ j → (p ≡ q) ⊎ Parting p q) → (i ∷ p ≡ j ∷ q) ⊎ Parting (i ∷ p) (j ∷ q)
further i j p q h = go (i == j) refl
  where
    go : (x : Bool) → (i == j) ≡ x → (i ∷ p ≡ j ∷ q) ⊎ Parting (i ∷ p) (j ∷ q)
    go true e =
        let same : i ≡ j = eqb-true i j e in
        ⊎_elim (λ f. inl (ap (λ n. n ∷ p) same ∙ ap (λ l. j ∷ l) f)) (λ f. inr (inr (same, f))) (h same)
    go false e = inr (inl (eqb-false i j e))

mutual
  pub same_or_parting : (a : Written) (p q : List ℕ) (b : Written) → part a p ≡ Some b → part a q ≡ Some b → (p ≡ q) ⊎ Parting p q
  same_or_parting a [] [] b h k = inl refl
  same_or_parting a [] (j ∷ q) b h k = (let e : a ≡ b = cc in absurd (not_itself a j q (k ∙ ap Some (sym e))))
  same_or_parting a (i ∷ p) [] b h k = (let e : a ≡ b = cc in absurd (not_itself a i p (h ∙ ap Some (sym e))))
  same_or_parting (Leaf s) (i ∷ p) (j ∷ q) b h k = absurd (cc)
  same_or_parting (Many n a) (i ∷ p) (j ∷ q) b h k = further i j p q (λ e. same_or_parting a p q b (within n i a p b h).rest (within n j a q b k).rest)
  same_or_parting (Struct s r) (i ∷ p) (j ∷ q) b h k = further i j p q (λ e. row_parting r i p q b h (ap (λ n. part_row r n q) e ∙ k))

  row_parting : (r : WrittenRow) (i : ℕ) (p q : List ℕ) (b : Written) → part_row r i p ≡ Some b → part_row r i q ≡ Some b → (p ≡ q) ⊎ Parting p q
  row_parting End i p q b h k = absurd (cc)
  row_parting (Field f a r) zero p q b h k = same_or_parting a p q b h k
  row_parting (Field f a r) (suc i) p q b h k = row_parting r i p q b h k

-- ---- what is put, and what is found

mutual
  -- at a path that parts from it nothing has changed
  at_parting : (v : Held) (p q s : List ℕ) (x : Held) → Parting p q → at (put v p x) (q ++ s) ≡ at v (q ++ s)
  at_parting v [] q s x h = absurd h
  at_parting v (i ∷ p) [] s x h = absurd h
  at_parting (Cell c) (i ∷ p) (j ∷ q) s x h = refl
  at_parting (Parts vs) (i ∷ p) (j ∷ q) s x h = row_parted vs i j p q s x h

  row_parted : (vs : Values ℤ) (i j : ℕ) (p q s : List ℕ) (x : Held) → (i ≢ j) ⊎ ((i ≡ j) × Parting p q) → at_row (put_row vs i p x) j (q ++ s) ≡ at_row vs j (q ++ s)
  row_parted Nil i j p q s x h = refl
  row_parted (Cons v vs) zero zero p q s x h = ⊎_elim (λ ne. absurd (ne refl)) (λ e. at_parting v p q s x e.1) h
  row_parted (Cons v vs) zero (suc j) p q s x h = refl
  row_parted (Cons v vs) (suc i) zero p q s x h = refl
  row_parted (Cons v vs) (suc i) (suc j) p q s x h = row_parted vs i j p q s x (⊎_elim (λ ne. inl (λ e. ne (ap suc e))) (λ e. inr (omega (arith, e.0), e.1)) h)

mutual
  -- behind a path that leads to a part stands what was put there
  at_behind : (v : Held) (p s : List ℕ) (x y : Held) → at v p ≡ Some y → at (put v p x) (p ++ s) ≡ at x s
  at_behind v [] s x y h = refl
  at_behind (Cell c) (i ∷ p) s x y h = absurd (cc)
  at_behind (Parts vs) (i ∷ p) s x y h = row_behind vs i p s x y h

  row_behind : (vs : Values ℤ) (i : ℕ) (p s : List ℕ) (x y : Held) → at_row vs i p ≡ Some y → at_row (put_row vs i p x) i (p ++ s) ≡ at x s
  row_behind Nil i p s x y h = absurd (cc)
  row_behind (Cons v vs) zero p s x y h = at_behind v p s x y h
  row_behind (Cons v vs) (suc i) p s x y h = row_behind vs i p s x y h

mutual
  at_join : (v : Held) (p s : List ℕ) (y : Held) → at v p ≡ Some y → at v (p ++ s) ≡ at y s
  at_join v [] s y h = (let e : v ≡ y = cc in ap (λ x. at x s) e)
  at_join (Cell c) (i ∷ p) s y h = absurd (cc)
  at_join (Parts vs) (i ∷ p) s y h = row_join vs i p s y h

  row_join : (vs : Values ℤ) (i : ℕ) (p s : List ℕ) (y : Held) → at_row vs i p ≡ Some y → at_row vs i (p ++ s) ≡ at y s
  row_join Nil i p s y h = absurd (cc)
  row_join (Cons v vs) zero p s y h = at_join v p s y h
  row_join (Cons v vs) (suc i) p s y h = row_join vs i p s y h

mutual
  -- to put into what was put is to put both at once
  put_behind : (v : Held) (p s : List ℕ) (x z y : Held) → at v p ≡ Some y → put (put v p x) (p ++ s) z ≡ put v p (put x s z)
  put_behind v [] s x z y h = refl
  put_behind (Cell c) (i ∷ p) s x z y h = absurd (cc)
  put_behind (Parts vs) (i ∷ p) s x z y h = ap Parts (row_put_behind vs i p s x z y h)

  row_put_behind : (vs : Values ℤ) (i : ℕ) (p s : List ℕ) (x z y : Held) → at_row vs i p ≡ Some y → put_row (put_row vs i p x) i (p ++ s) z ≡ put_row vs i p (put x s z)
  row_put_behind Nil i p s x z y h = absurd (cc)
  row_put_behind (Cons v vs) zero p s x z y h = ap (λ q. Cons q vs) (put_behind v p s x z y h)
  row_put_behind (Cons v vs) (suc i) p s x z y h = ap (λ q. Cons v q) (row_put_behind vs i p s x z y h)

mutual
  -- to put what is there changes nothing
  put_itself : (v : Held) (p : List ℕ) (x : Held) → at v p ≡ Some x → put v p x ≡ v
  put_itself v [] x h = (let e : v ≡ x = cc in sym e)
  put_itself (Cell c) (i ∷ p) x h = absurd (cc)
  put_itself (Parts vs) (i ∷ p) x h = ap Parts (row_itself vs i p x h)

  row_itself : (vs : Values ℤ) (i : ℕ) (p : List ℕ) (x : Held) → at_row vs i p ≡ Some x → put_row vs i p x ≡ vs
  row_itself Nil i p x h = absurd (cc)
  row_itself (Cons v vs) zero p x h = ap (λ q. Cons q vs) (put_itself v p x h)
  row_itself (Cons v vs) (suc i) p x h = ap (λ q. Cons v q) (row_itself vs i p x h)

-- ---- mixed rows

mixed_here : (i : ℕ) (us ws : Values ℤ) → at_row (mixed i us ws) i [] ≡ at_row ws i []
mixed_here zero us ws = refl
mixed_here (suc i) us Nil = refl
mixed_here (suc i) Nil (Cons w ws) = refl
mixed_here (suc i) (Cons u us) (Cons w ws) = mixed_here i us ws

mixed_more : (i : ℕ) (us ws : Values ℤ) (u w : Held) → at_row us i [] ≡ Some u → at_row ws i [] ≡ Some w → put_row (mixed i us ws) i [] u ≡ mixed (suc i) us ws
mixed_more i us Nil u w h k = absurd (cc)
mixed_more i Nil (Cons x ws) u w h k = absurd (cc)
mixed_more zero (Cons y us) (Cons x ws) u w h k = (let e : y ≡ u = cc in ap (λ q. Cons q ws) (sym e))
mixed_more (suc i) (Cons y us) (Cons x ws) u w h k = ap (λ q. Cons y q) (mixed_more i us ws u w h k)

-- of a row with itself
mixed_itself : (i : ℕ) (us : Values ℤ) → mixed i us us ≡ us
mixed_itself zero us = refl
mixed_itself (suc i) Nil = refl
mixed_itself (suc i) (Cons u us) = ap (λ q. Cons u q) (mixed_itself i us)

pub copies_end : CopiesEnd
copies_end Nil Nil e = refl
copies_end Nil (Cons w ws) e = absurd (omega (arith, e))
copies_end (Cons u us) Nil e = absurd (omega (arith, e))
copies_end (Cons u us) (Cons w ws) e = ap (λ q. Cons u q) (copies_end us ws (omega (arith, e)))

-- ---- areas

put_again : (areas : Areas) (k : ℕ) (p q : List ℕ) (x z x' : Held) (a : Area) → slice_get areas k ≡ Some (Live a) → put (put a.held p x) q z ≡ put a.held p x' → put_at k q z (put_at k p x areas) ≡ put_at k p x' areas
put_again [] k p q x z x' a live e = absurd (cc)
put_again (y ∷ areas) zero p q x z x' a live e =
    let same : y ≡ Live a = cc in
    let both : put_part q z (put_part p x (Live a)) ≡ put_part p x' (Live a) = ap (λ h. Live (record a { held = h })) e in
    ap (λ s. s ∷ areas) (ap (λ s. put_part q z (put_part p x s)) same ∙ both ∙ ap (put_part p x') (sym same))
put_again (y ∷ areas) (suc k) p q x z x' a live e = ap (λ l. y ∷ l) (put_again areas k p q x z x' a live e)

put_nothing : (areas : Areas) (k : ℕ) (p : List ℕ) (x : Held) (a : Area) → slice_get areas k ≡ Some (Live a) → put a.held p x ≡ a.held → put_at k p x areas ≡ areas
put_nothing [] k p x a live e = absurd (cc)
put_nothing (y ∷ areas) zero p x a live e =
    let same : y ≡ Live a = cc in
    let both : put_part p x (Live a) ≡ Live a = ap (λ h. Live (record a { held = h })) e in
    ap (λ s. s ∷ areas) (ap (put_part p x) same ∙ both ∙ sym same)
put_nothing (y ∷ areas) (suc k) p x a live e = ap (λ l. y ∷ l) (put_nothing areas k p x a live e)

pub copies_begin : CopiesBegin
copies_begin areas k p b us ws at_ = put_nothing areas k p (Parts ws) at_.area at_.live (put_itself at_.area.held p (Parts ws) at_.holds)

module _ (areas : Areas) (k : ℕ) (p : List ℕ) (j : ℕ) (r : List ℕ) (b e : Written) (i : ℕ) (us ws : Values ℤ) (u w : Held)
    (to : PartIs areas k p b (Parts ws)) (source : PartIs areas j r b (Parts us)) (leads : part b (i ∷ []) ≡ Some e) (is_new : at_row us i [] ≡ Some u) (is_old : at_row ws i [] ≡ Some w) where
  abbrev some : Held
  some = Parts (mixed i us ws)

  abbrev now : Areas
  now = filled_to areas k p i us ws

  next_place : PartIs now k (p ++ i ∷ []) e w
  next_place = record {
    area = with_part p some to.area;
    live = put_here k p some areas to.area to.live;
    leads = part_append to.area.ty p (i ∷ []) b to.leads ∙ leads;
    holds = at_behind to.area.held p (i ∷ []) some (Parts ws) to.holds ∙ mixed_here i us ws ∙ is_old;
  }

  source_leads : part source.area.ty (r ++ i ∷ []) ≡ Some e
  source_leads = part_append source.area.ty r (i ∷ []) b source.leads ∙ leads

  source_holds : at source.area.held (r ++ i ∷ []) ≡ Some u
  source_holds = at_join source.area.held r (i ∷ []) (Parts us) source.holds ∙ is_new

  -- of another area
  source_beside : j ≢ k → PartIs now j (r ++ i ∷ []) e u
  source_beside ne = record { area = source.area; live = others_stay areas k p some j ne ∙ source.live; leads = source_leads; holds = source_holds }

  -- of this area, under its name
  module _ (one : source.area ≡ to.area) where
    there : at to.area.held (r ++ i ∷ []) ≡ Some u
    there = ap (λ (x : Area). at x.held (r ++ i ∷ [])) (sym one) ∙ source_holds

    leads_there : part to.area.ty (r ++ i ∷ []) ≡ Some e
    leads_there = ap (λ (x : Area). part x.ty (r ++ i ∷ [])) (sym one) ∙ source_leads

    -- the same part
    still_same : p ≡ r → at (put to.area.held p some) (r ++ i ∷ []) ≡ Some u
    still_same same =
        let from_there : at to.area.held p ≡ Some (Parts us) = ap (λ q. at to.area.held q) same ∙ ap (λ (x : Area). at x.held r) (sym one) ∙ source.holds in
        let rows : us ≡ ws = (let h : at to.area.held p ≡ Some (Parts ws) = to.holds in cc) in
        let whole : mixed i us ws ≡ us = ap (λ x. mixed i us x) (sym rows) ∙ mixed_itself i us in
        ap (λ q. at (put to.area.held p some) (q ++ i ∷ [])) (sym same) ∙ at_behind to.area.held p (i ∷ []) some (Parts ws) to.holds ∙ ap (λ x. at_row x i []) whole ∙ is_new

    still_there : at (put to.area.held p some) (r ++ i ∷ []) ≡ Some u
    still_there = ⊎_elim still_same (λ h. at_parting to.area.held p r (i ∷ []) some h ∙ there)
        (same_or_parting to.area.ty p r b to.leads (ap (λ (x : Area). part x.ty r) (sym one) ∙ source.leads))

    source_within : PartIs now k (r ++ i ∷ []) e u
    source_within = record { area = with_part p some to.area; live = put_here k p some areas to.area to.live; leads = leads_there; holds = still_there }

  next_source : PartIs now j (r ++ i ∷ []) e u
  next_source = go (j == k) refl
    where
      go : (x : Bool) → (j == k) ≡ x → PartIs now j (r ++ i ∷ []) e u
      go false ne = source_beside (eqb-false j k ne)
      go true same =
          let k_is : j ≡ k = eqb-true j k same in
          let one : source.area ≡ to.area = (let f : slice_get areas j ≡ Some (Live source.area) = source.live in let h : slice_get areas k ≡ Some (Live to.area) = to.live in cc) in
          subst (λ n. PartIs now n (r ++ i ∷ []) e u) (sym k_is) (source_within one)

  pub next_copied : NextCopied areas k p j r i us ws e u w
  next_copied = record {
    place = next_place;
    source = next_source;
    one_more = put_again areas k p (p ++ i ∷ []) some u (Parts (mixed (suc i) us ws)) to.area to.live
        (put_behind to.area.held p (i ∷ []) some u (Parts ws) to.holds ∙ ap (λ q. put to.area.held p (Parts q)) (mixed_more i us ws u w is_new is_old));
  }

pub copies_go_on : CopiesGoOn
copies_go_on areas k p j r b e i us ws u w to source leads is_new is_old = next_copied areas k p j r b e i us ws u w to source leads is_new is_old
