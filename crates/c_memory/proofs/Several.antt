-- Several scalars of an object in a row, over the laws of memory alone: what they show is read, what is written they show, and a copy
-- writes what was there at its start.
use Rattle.std.proofs.Common.{◌≡◌, ◌≢◌, ℕ, ◌+◌, List, [], ◌∷◌, ◌++◌, length, map, Option, Some, Result, Ok, Err, Bool, false, ◌≤◌, refl, sym, ◌∙◌, ap, subst, arith, ◌⊎◌, ⊎_elim, inl, inr, append_assoc, length-append}
use Rattle.type_trees.specs.Trees.{Tree}
use Rattle.type_trees.specs.Layouts.{Metric, Ascends, lay}
use Rattle.type_trees.proofs.Layouts.{reaches}
use Rattle.c_memory.specs.Seen.{EachFits}
use Rattle.c_memory.specs.Access.{Fault, and_then}
use Rattle.c_memory.specs.Copies.{read_each, write_each, copy_each, ApartFromAll, Clear}
use Rattle.c_memory.specs.Abstract.{Operations, Same, Lawful}

-- ---- where two rows stand

module _ {S : Type 0} (m : Metric S) where
  apart_after : (x : ℕ × S) (lo hi : ℕ) (ys : List (ℕ × S)) → x.0 + m.width x.1 ≤ lo → Ascends m lo ys hi → ApartFromAll m x ys
  apart_after x lo hi [] h a = tt
  apart_after x lo hi (y ∷ ys) h a = (inl (omega (arith, h, a.0)), apart_after x (y.0 + m.width y.1) hi ys (omega (arith, h, a.0)) a.1)

  apart_before : (x : ℕ × S) (lo hi : ℕ) (ys : List (ℕ × S)) → hi ≤ x.0 → Ascends m lo ys hi → ApartFromAll m x ys
  apart_before x lo hi [] h a = tt
  apart_before x lo hi (y ∷ ys) h a = (inr (omega (arith, h, a.0, reaches m (y.0 + m.width y.1) hi ys a.1)), apart_before x (y.0 + m.width y.1) hi ys h a.1)

  -- the same place
  pub clear_same : (lo hi : ℕ) (xs : List (ℕ × S)) → Ascends m lo xs hi → Clear m xs xs
  clear_same lo hi [] a = tt
  clear_same lo hi (x ∷ xs) a = (apart_after x (x.0 + m.width x.1) hi xs (omega arith) a.1, clear_same (x.0 + m.width x.1) hi xs a.1)

  pub clear_before : (lo hi low high : ℕ) (xs ys : List (ℕ × S)) → Ascends m lo xs hi → Ascends m low ys high → hi ≤ low → Clear m xs ys
  clear_before lo hi low high [] ys a b h = tt
  clear_before lo hi low high (x ∷ xs) [] a b h = tt
  clear_before lo hi low high (x ∷ xs) (y ∷ ys) a b h = (apart_after x (y.0 + m.width y.1) high ys (omega (arith, h, b.0, reaches m (x.0 + m.width x.1) hi xs a.1)) b.1, clear_before (x.0 + m.width x.1) hi (y.0 + m.width y.1) high xs ys a.1 b.1 (omega (arith, h, b.0)))

  pub clear_behind : (lo hi low high : ℕ) (xs ys : List (ℕ × S)) → Ascends m lo xs hi → Ascends m low ys high → high ≤ lo → Clear m xs ys
  clear_behind lo hi low high [] ys a b h = tt
  clear_behind lo hi low high (x ∷ xs) [] a b h = tt
  clear_behind lo hi low high (x ∷ xs) (y ∷ ys) a b h = (apart_before x (y.0 + m.width y.1) high ys (omega (arith, h, a.0)) b.1, clear_behind (x.0 + m.width x.1) hi (y.0 + m.width y.1) high xs ys a.1 b.1 (omega (arith, h, a.0)))

-- ---- reads, writes, copies

module _ {S N V : Type 0} (m : Metric S) (Can : S → V → Type 0) (M : Operations S N V) (law : Lawful m Can M) where
  pub same_refl : (mem : M.Memory) (q : ℕ) → Same m M mem mem q
  same_refl mem q = record { live = refl; reads = λ x. refl; refuses = λ x. refl; shows = λ c a us h. h }

  pub same_trans : (mem mid new : M.Memory) (q : ℕ) → Same m M mem mid q → Same m M mid new q → Same m M mem new q
  same_trans mem mid new q h k = record {
    live = k.live ∙ h.live;
    reads = λ x. k.reads x ∙ h.reads x;
    refuses = λ x. k.refuses x ∙ h.refuses x;
    shows = λ c a us e. k.shows c a us (h.shows c a us e);
  }

  -- several values written, after which the object shows `us`
  pub record Several (mem : M.Memory) (o : ℕ) (a : Tree S N) (xs : List (ℕ × S)) (vs : List V) (us : List (Option V)) : Type 0 where
    pub new : M.Memory
    pub is : write_each M.write mem o xs vs ≡ Ok new
    pub shows : M.Shows new o false a us
    pub others : (q : ℕ) → q ≢ o → Same m M mem new q
    pub count : M.count new ≡ M.count mem

  pub several : (o : ℕ) (a : Tree S N) (xs : List (ℕ × S)) (vs : List V) (mid : List (Option V)) (left right : List (ℕ × S)) (before after : List (Option V)) (mem : M.Memory)
      → M.Shows mem o false a (before ++ (mid ++ after)) → lay m a 0 ≡ left ++ (xs ++ right) → length left ≡ length before → length mid ≡ length xs → EachFits Can xs vs
      → Several mem o a xs vs (before ++ (map Some vs ++ after))
  several o a [] [] [] left right before after mem h is n l f = record { new = mem; is = refl; shows = h; others = λ q ne. same_refl mem q; count = refl }
  several o a [] [] (u ∷ mid) left right before after mem h is n l f = absurd (omega arith)
  several o a [] (v ∷ vs) mid left right before after mem h is n l f = absurd f
  several o a (x ∷ xs) [] mid left right before after mem h is n l f = absurd f
  several o a (x ∷ xs) (v ∷ vs) [] left right before after mem h is n l f = absurd (omega arith)
  several o a (x ∷ xs) (v ∷ vs) (u ∷ mid) left right before after mem h is n l f =
      let w = law.writes mem o a x before (mid ++ after) u v h (record { left = left; right = xs ++ right; is = is; number = n }) f.0 in
      let shows : M.Shows w.new o false a ((before ++ Some v ∷ []) ++ (mid ++ after)) = subst (λ us. M.Shows w.new o false a us) (sym (append_assoc before (Some v ∷ []) (mid ++ after))) w.shows in
      let number : length (left ++ x ∷ []) ≡ length (before ++ Some v ∷ []) = omega (arith, n, length-append left (x ∷ []), length-append before (Some v ∷ [])) in
      let rest = several o a xs vs mid (left ++ x ∷ []) right (before ++ Some v ∷ []) after w.new shows (is ∙ sym (append_assoc left (x ∷ []) (xs ++ right))) number (omega (arith, l)) f.1 in
      record {
        new = rest.new;
        is = ap (λ z. and_then z (λ next. write_each M.write next o xs vs)) w.is ∙ rest.is;
        shows = subst (λ us. M.Shows rest.new o false a us) (append_assoc before (Some v ∷ []) (map Some vs ++ after)) rest.shows;
        others = λ q ne. same_trans mem w.new rest.new q (law.others_stay mem w.new o x v q w.is ne) (rest.others q ne);
        count = rest.count ∙ law.count_stays mem w.new o x v w.is;
      }

  -- each scalar reads as its value
  abbrev pub EachRead : M.Memory → ℕ → List (ℕ × S) → List V → Type 0
  EachRead mem o [] [] = Unit {0}
  EachRead mem o [] (v ∷ vs) = ⊥
  EachRead mem o (x ∷ xs) [] = ⊥
  EachRead mem o (x ∷ xs) (v ∷ vs) = (M.read mem o x ≡ Ok v) × EachRead mem o xs vs

  pub each_read : (mem : M.Memory) (o : ℕ) (c : Bool) (a : Tree S N) (xs : List (ℕ × S)) (vs : List V) (left right : List (ℕ × S)) (before after : List (Option V))
      → M.Shows mem o c a (before ++ (map Some vs ++ after)) → lay m a 0 ≡ left ++ (xs ++ right) → length left ≡ length before → length vs ≡ length xs → EachRead mem o xs vs
  each_read mem o c a [] [] left right before after h is n l = tt
  each_read mem o c a [] (v ∷ vs) left right before after h is n l = absurd (omega arith)
  each_read mem o c a (x ∷ xs) [] left right before after h is n l = absurd (omega arith)
  each_read mem o c a (x ∷ xs) (v ∷ vs) left right before after h is n l =
      let number : length (left ++ x ∷ []) ≡ length (before ++ Some v ∷ []) = omega (arith, n, length-append left (x ∷ []), length-append before (Some v ∷ [])) in (
        law.reads mem o c a x before (map Some vs ++ after) (Some v) h (record { left = left; right = xs ++ right; is = is; number = n }),
        each_read mem o c a xs vs (left ++ x ∷ []) right (before ++ Some v ∷ []) after (subst (λ us. M.Shows mem o c a us) (sym (append_assoc before (Some v ∷ []) (map Some vs ++ after))) h)
            (is ∙ sym (append_assoc left (x ∷ []) (xs ++ right))) number (omega (arith, l)),
      )

  pub all_read : (mem : M.Memory) (o : ℕ) (xs : List (ℕ × S)) (vs : List V) → EachRead mem o xs vs → read_each M.read mem o xs ≡ Ok vs
  all_read mem o [] [] h = refl
  all_read mem o [] (v ∷ vs) h = absurd h
  all_read mem o (x ∷ xs) [] h = absurd h
  all_read mem o (x ∷ xs) (v ∷ vs) h =
      ap (λ z. and_then z (λ u. and_then (read_each M.read mem o xs) (λ us. Ok (u ∷ us)))) h.0
      ∙ ap (λ z. and_then z (λ us. Ok (v ∷ us))) (all_read mem o xs vs h.1)

  -- the target and the source of a copy are two objects, or stand clear in one
  abbrev pub Far : ℕ → List (ℕ × S) → ℕ → List (ℕ × S) → Type 0
  Far o xs q ys = (o ≢ q) ⊎ ((o ≡ q) × Clear m xs ys)

  still_read : (mem new : M.Memory) (o : ℕ) (x : ℕ × S) (v : V) (q : ℕ) (ys : List (ℕ × S)) (vs : List V) → M.write mem o x v ≡ Ok new → (o ≢ q) ⊎ ((o ≡ q) × ApartFromAll m x ys) → EachRead mem q ys vs → EachRead new q ys vs
  still_read mem new o x v q [] [] e far h = tt
  still_read mem new o x v q [] (u ∷ vs) e far h = absurd h
  still_read mem new o x v q (y ∷ ys) [] e far h = absurd h
  still_read mem new o x v q (y ∷ ys) (u ∷ vs) e far h = (
    ⊎_elim (λ ne. (law.others_stay mem new o x v q e (λ k. ne (sym k))).reads y) (λ s. ap (λ i. M.read new i y) (sym s.0) ∙ law.scalars_stay mem new o x v y e s.1.0 ∙ ap (λ i. M.read mem i y) s.0) far ∙ h.0,
    still_read mem new o x v q ys vs e (⊎_elim (λ ne. inl ne) (λ s. inr (s.0, s.1.1)) far) h.1,
  )

  pub copy_writes : (o : ℕ) (xs : List (ℕ × S)) (q : ℕ) (ys : List (ℕ × S)) (vs : List V) (mem : M.Memory) → EachRead mem q ys vs → length xs ≡ length ys → Far o xs q ys
      → copy_each M.read M.write mem o xs q ys ≡ write_each M.write mem o xs vs
  copy_writes o [] q ys vs mem h l far = refl
  copy_writes o (x ∷ xs) q [] vs mem h l far = absurd (omega arith)
  copy_writes o (x ∷ xs) q (y ∷ ys) [] mem h l far = absurd h
  copy_writes o (x ∷ xs) q (y ∷ ys) (v ∷ vs) mem h l far =
      let rest : Far o xs q ys = ⊎_elim (λ ne. inl ne) (λ s. inr (s.0, s.1.1)) far in
      let here : (o ≢ q) ⊎ ((o ≡ q) × ApartFromAll m x ys) = ⊎_elim (λ ne. inl ne) (λ s. inr (s.0, s.1.0)) far in
      ap (λ z. and_then z (λ u. and_then (M.write mem o x u) (λ next. copy_each M.read M.write next o xs q ys))) h.0
      ∙ go (M.write mem o x v) refl (λ new e. copy_writes o xs q ys vs new (still_read mem new o x v q ys vs e here h.1) (omega (arith, l)) rest)
    where
      go : (z : Result M.Memory Fault) → M.write mem o x v ≡ z → ((new : M.Memory) → M.write mem o x v ≡ Ok new → copy_each M.read M.write new o xs q ys ≡ write_each M.write new o xs vs)
          → and_then z (λ next. copy_each M.read M.write next o xs q ys) ≡ and_then z (λ next. write_each M.write next o xs vs)
      go (Ok new) e later = later new e
      go (Err fault) e later = refl
