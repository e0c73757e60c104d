-- A rule any number of times.
use Rattle.std.proofs.Common.{◌≡◌, ℕ, zero, suc, ◌≤◌, ◌<◌, Bool, true, false, List, [], ◌∷◌, ◌++◌, inl, inr, refl, sym, ap, ◌∙◌, subst, append_assoc, arith, cond, length, length-append}
use Rattle.reading.specs.Row.{Entry, Row, Signs, tokens, Shallow, starts, Fits}
use Rattle.reading.specs.Language.{Language, Many}
use Rattle.reading.specs.Reader.{Outcome, Done, Unexpected, TooDeep, Reader, and_then, mapped, many_up_to, many}
use Rattle.reading.specs.Good.{Good, Passed, ReadFrom, StopsAt, DeepAt}
use Rattle.reading.proofs.Rows.{append_nil, has_one, front_nil, joined, regroup, shallow_append, shallow_front, shallow_back, split_at, fits_front}
use Rattle.reading.proofs.Passing.{passed_more, still_stops}
use Rattle.reading.proofs.Starts.{StartsWith}

module _ {T A : Type 0} {signs : Signs T} (limit : ℕ) (c next test : T → Bool) (R : Language T A) (p : Reader T A) (gp : Good signs limit next R p) (begin : StartsWith test R)
    (apart : (t : T) → test t ≡ true → next t ≡ false) (within : (t : T) → test t ≡ true → c t ≡ true) (wider : (t : T) → next t ≡ true → c t ≡ true) where
  turn : ℕ → Outcome T A → Outcome T (List A)
  turn n o = and_then o (λ a rest. mapped (λ more. a ∷ more) (many_up_to n test p rest))

  turned : (n : ℕ) (ts : List T) (b : Bool) → starts test ts ≡ b → many_up_to (suc n) test p ts ≡ cond b (turn n (p ts)) (Done [] ts)
  unfolding turn
  turned n ts b e = ap (λ x. cond x (turn n (p ts)) (Done [] ts)) e

  IsDone : ℕ → Type 0
  IsDone n = (ts : List T) (vs : List A) (rest : List T) → many_up_to n test p ts ≡ Done vs rest → ReadFrom limit (Many R) ts vs rest

  done_in : (a : A) (vs : List A) (rest : List T) (o : Outcome T (List A)) → mapped (λ more. a ∷ more) o ≡ Done vs rest
      → (more : List A) × (vs ≡ a ∷ more) × (o ≡ Done more rest)
  done_in a vs rest (Done more r) h = let e : vs ≡ a ∷ more = cc in let same : r ≡ rest = cc in (more, e, ap (λ x. Done more x) same)
  done_in a vs rest (Unexpected r) h = cc
  done_in a vs rest (TooDeep r) h = cc

  done_turn : (n : ℕ) → IsDone n → (ts : List T) (vs : List A) (rest : List T) (o : Outcome T A) → p ts ≡ o → turn n o ≡ Done vs rest → ReadFrom limit (Many R) ts vs rest
  unfolding IsDone turn
  done_turn n ih ts vs rest (Done a r) e h =
      let k = done_in a vs rest (many_up_to n test p r) h in
      let d = gp.done ts a r e in
      let f = ih r k.0 rest k.2 in
      (d.0 ++ f.0, subst (λ x. Many R x (d.0 ++ f.0)) (sym k.1) (d.0, f.0, refl, d.1, f.1), shallow_append limit d.0 f.0 d.2 f.2, joined d.0 f.0 ts r rest d.3 f.3)
  done_turn n ih ts vs rest (Unexpected r) e h = cc
  done_turn n ih ts vs rest (TooDeep r) e h = cc

  stopped : (ts : List T) (vs : List A) (rest : List T) → Done [] ts ≡ Done vs rest → ReadFrom limit (Many R) ts vs rest
  stopped ts vs rest h = let nothing : vs ≡ [] = cc in let same : ts ≡ rest = cc in ([], subst (λ x. Many R x []) (sym nothing) refl, tt, same)

  done_at : (n : ℕ) → IsDone n → (ts : List T) (vs : List A) (rest : List T) (b : Bool) → cond b (turn n (p ts)) (Done [] ts) ≡ Done vs rest → ReadFrom limit (Many R) ts vs rest
  done_at n ih ts vs rest true h = done_turn n ih ts vs rest (p ts) refl h
  done_at n ih ts vs rest false h = stopped ts vs rest h

  done : (n : ℕ) → IsDone n
  unfolding IsDone turn
  done zero ts vs rest h = stopped ts vs rest h
  done (suc n) ts vs rest h = done_at n (done n) ts vs rest (starts test ts) h

  -- ---- a fault

  IsUnexpected : ℕ → Type 0
  IsUnexpected n = (ts rest : List T) → many_up_to n test p ts ≡ Unexpected rest → StopsAt limit (Many R) ts rest

  unexpected_in : (a : A) (rest : List T) (o : Outcome T (List A)) → mapped (λ more. a ∷ more) o ≡ Unexpected rest → o ≡ Unexpected rest
  unexpected_in a rest (Done more r) h = cc
  unexpected_in a rest (Unexpected r) h = let same : r ≡ rest = cc in ap Unexpected same
  unexpected_in a rest (TooDeep r) h = cc

  unexpected_turn : (n : ℕ) → IsUnexpected n → (ts rest : List T) (o : Outcome T A) → p ts ≡ o → turn n o ≡ Unexpected rest → StopsAt limit (Many R) ts rest
  unfolding IsUnexpected turn
  unexpected_turn n ih ts rest (Done a r) e h =
      let d = gp.done ts a r e in
      let f = ih r rest (unexpected_in a rest (many_up_to n test p r) h) in
      (d.0 ++ f.0, f.1, a ∷ f.2, (d.0, f.0 ++ f.1, append_assoc d.0 f.0 f.1, d.1, f.3), shallow_append limit d.0 f.0 d.2 f.4, joined d.0 f.0 ts r rest d.3 f.5)
  unexpected_turn n ih ts rest (Unexpected r) e h =
      let same : r ≡ rest = cc in
      let d = gp.unexpected ts rest (e ∙ ap Unexpected same) in
      (d.0, d.1, d.2 ∷ [], (d.0 ++ d.1, [], sym (append_nil (d.0 ++ d.1)), d.3, refl), d.4, d.5)
  unexpected_turn n ih ts rest (TooDeep r) e h = cc

  unexpected_at : (n : ℕ) → IsUnexpected n → (ts rest : List T) (b : Bool) → cond b (turn n (p ts)) (Done [] ts) ≡ Unexpected rest → StopsAt limit (Many R) ts rest
  unexpected_at n ih ts rest true h = unexpected_turn n ih ts rest (p ts) refl h
  unexpected_at n ih ts rest false h = cc

  unexpected : (n : ℕ) → IsUnexpected n
  unfolding IsUnexpected turn
  unexpected zero ts rest h = cc
  unexpected (suc n) ts rest h = unexpected_at n (unexpected n) ts rest (starts test ts) h

  IsTooDeep : ℕ → Type 0
  IsTooDeep n = (ts rest : List T) → many_up_to n test p ts ≡ TooDeep rest → DeepAt signs limit (Many R) ts rest

  too_deep_in : (a : A) (rest : List T) (o : Outcome T (List A)) → mapped (λ more. a ∷ more) o ≡ TooDeep rest → o ≡ TooDeep rest
  too_deep_in a rest (Done more r) h = cc
  too_deep_in a rest (Unexpected r) h = cc
  too_deep_in a rest (TooDeep r) h = let same : r ≡ rest = cc in ap TooDeep same

  too_deep_turn : (n : ℕ) → IsTooDeep n → (ts rest : List T) (o : Outcome T A) → p ts ≡ o → turn n o ≡ TooDeep rest → DeepAt signs limit (Many R) ts rest
  unfolding IsTooDeep turn
  too_deep_turn n ih ts rest (Done a r) e h =
      let d = gp.done ts a r e in
      let f = ih r rest (too_deep_in a rest (many_up_to n test p r) h) in
      (d.0 ++ f.0, f.1, f.2, f.3, a ∷ f.4, (d.0, f.0 ++ f.1 ∷ f.2, append_assoc d.0 f.0 (f.1 ∷ f.2), d.1, f.5), shallow_append limit d.0 f.0 d.2 f.6, f.7, f.8, joined d.0 f.0 ts r rest d.3 f.9, f.10)
  too_deep_turn n ih ts rest (TooDeep r) e h =
      let same : r ≡ rest = cc in
      let d = gp.too_deep ts rest (e ∙ ap TooDeep same) in
      (d.0, d.1, d.2, d.3, d.4 ∷ [], (d.0 ++ d.1 ∷ d.2, [], sym (append_nil (d.0 ++ d.1 ∷ d.2)), d.5, refl), d.6, d.7, d.8, d.9, d.10)
  too_deep_turn n ih ts rest (Unexpected r) e h = cc

  too_deep_at : (n : ℕ) → IsTooDeep n → (ts rest : List T) (b : Bool) → cond b (turn n (p ts)) (Done [] ts) ≡ TooDeep rest → DeepAt signs limit (Many R) ts rest
  too_deep_at n ih ts rest true h = too_deep_turn n ih ts rest (p ts) refl h
  too_deep_at n ih ts rest false h = cc

  too_deep : (n : ℕ) → IsTooDeep n
  unfolding IsTooDeep turn
  too_deep zero ts rest h = cc
  too_deep (suc n) ts rest h = too_deep_at n (too_deep n) ts rest (starts test ts) h

  -- ---- what is spelled is read

  many_suffix : (n : ℕ) (ts : List T) (o : Outcome T (List A)) → many_up_to n test p ts ≡ o → Passed ts o
  unfolding IsDone IsUnexpected
  many_suffix n ts (Done vs r) e = let d = done n ts vs r e in (tokens d.0, d.3)
  many_suffix n ts (Unexpected r) e = let d = unexpected n ts r e in (tokens d.0, d.5)
  many_suffix n ts (TooDeep r) e = tt

  starts_at : (a : A) (f : Row T) (rest : List T) → R a f → (starts test (tokens f ++ rest) ≡ true) × (0 < length (tokens f))
  starts_at a [] rest r = absurd (begin.nonempty a r)
  starts_at a (m ∷ f) rest r = (begin.first a m f r, omega arith)

  starts_in : (a : A) (row : Row T) (m : Entry T) (h : Row T) (rest : List T) → R a (row ++ m ∷ h) → starts test (tokens row ++ m.token ∷ rest) ≡ true
  starts_in a [] m h rest r = begin.first a m h r
  starts_in a (n ∷ row) m h rest r = begin.first a n (row ++ m ∷ h) r

  -- what follows one of them does not go on with it
  next_stops : (vs : List A) (g : Row T) (rest : List T) → Many R vs g → starts c rest ≡ false → starts next (tokens g ++ rest) ≡ false
  next_stops [] g rest e stop = rw e (still_stops next c wider rest stop)
  next_stops (a ∷ vs) g rest (f, h, e, rf, mg) stop = next_at a f h rest rf (subst (λ x. starts next (tokens g ++ rest) ≡ starts next (tokens x ++ rest)) e refl)
    where
      next_at : (a : A) (f h : Row T) (rest : List T) → R a f → starts next (tokens g ++ rest) ≡ starts next (tokens (f ++ h) ++ rest) → starts next (tokens g ++ rest) ≡ false
      next_at a [] h rest r e = absurd (begin.nonempty a r)
      next_at a (m ∷ f) h rest r e = e ∙ apart m.token (begin.first a m f r)

  head_stops : (vs : List A) (n : Entry T) (g : Row T) (rest : List T) → Many R vs (n ∷ g) → next n.token ≡ false
  head_stops [] n g rest e = cc
  head_stops (a ∷ vs) n g rest (f, h, e, rf, mg) = head_at f e rf
    where
      head_at : (f : Row T) → n ∷ g ≡ f ++ h → R a f → next n.token ≡ false
      head_at [] e r = absurd (begin.nonempty a r)
      head_at (m ∷ f) e r = let same : n ≡ m = cc in subst (λ x. next x.token ≡ false) (sym same) (apart m.token (begin.first a m f r))

  goes_on : (n : ℕ) (ts r : List T) (a : A) (o : Outcome T (List A)) → starts test ts ≡ true → p ts ≡ Done a r → many_up_to n test p r ≡ o
      → many_up_to (suc n) test p ts ≡ mapped (λ more. a ∷ more) o
  unfolding turn
  goes_on n ts r a o s e h = turned n ts true s ∙ ap (turn n) e ∙ ap (mapped (λ more. a ∷ more)) h

  shorter : (f : Row T) (x : List T) (n : ℕ) (ts : List T) → ts ≡ tokens f ++ x → 0 < length (tokens f) → length ts ≤ suc n → length x ≤ n
  shorter f x n ts e pos fits = omega (arith, ap length e, length-append (tokens f) x)

  positive : (f : Row T) (x : List T) (ts : List T) → ts ≡ tokens f ++ x → 0 < length (tokens f) → length ts ≤ 0 → ⊥
  positive f x ts e pos fits = omega (arith, ap length e, length-append (tokens f) x)

  complete : (n : ℕ) (vs : List A) (row : Row T) (rest : List T) → Many R vs row → Shallow limit row → starts c rest ≡ false → length (tokens row ++ rest) ≤ n
      → many_up_to n test p (tokens row ++ rest) ≡ Done vs rest
  complete zero [] row rest e s stop fits = rw e refl
  complete (suc n) [] row rest e s stop fits = rw e (turned n rest false (still_stops test c within rest stop))
  complete zero (a ∷ vs) row rest (f, g, e, rf, mg) s stop fits =
      absurd (positive f (tokens g ++ rest) (tokens row ++ rest) (ap (λ x. tokens x ++ rest) e ∙ regroup f g rest) ((starts_at a f rest rf).1) fits)
  complete (suc n) (a ∷ vs) row rest (f, g, e, rf, mg) s stop fits =
      let sh : Shallow limit (f ++ g) = subst (Shallow limit) e s in
      let place : tokens row ++ rest ≡ tokens f ++ (tokens g ++ rest) = ap (λ x. tokens x ++ rest) e ∙ regroup f g rest in
      let one = gp.complete a f (tokens g ++ rest) rf (shallow_front limit f g sh) (next_stops vs g rest mg stop) in
      let two = complete n vs g rest mg (shallow_back limit f g sh) stop (shorter f (tokens g ++ rest) n (tokens row ++ rest) place ((starts_at a f rest rf).1) fits) in
      goes_on n (tokens row ++ rest) (tokens g ++ rest) a (Done vs rest) (ap (starts test) place ∙ (starts_at a f (tokens g ++ rest) rf).0) (ap p place ∙ one) two

  mapped_passed : (a : A) (rest : List T) (o : Outcome T (List A)) → Passed rest o → Passed rest (mapped (λ more. a ∷ more) o)
  mapped_passed a rest (Done vs r) w = w
  mapped_passed a rest (Unexpected r) w = w
  mapped_passed a rest (TooDeep r) w = w

  turn_passed : (n : ℕ) (rest : List T) (o : Outcome T A) → Passed rest o → Passed rest (turn n o)
  unfolding turn
  turn_passed n rest (Done a r) w =
      subst (λ x. Passed x (turn n (Done a r))) (sym w.1)
      (passed_more w.0 r (turn n (Done a r)) (mapped_passed a r (many_up_to n test p r) (many_suffix n r (many_up_to n test p r) refl)))
  turn_passed n rest (Unexpected r) w = w
  turn_passed n rest (TooDeep r) w = w

  heads_stop : (vs : List A) (h : Row T) (m : Entry T) (tail : Row T) (rest : List T) → Many R vs (h ++ m ∷ tail) → starts next (tokens h ++ m.token ∷ rest) ≡ false
  heads_stop vs [] m tail rest w = head_stops vs m tail rest w
  heads_stop vs (x ∷ h) m tail rest w = head_stops vs x (h ++ m ∷ tail) rest w

  passes : (n : ℕ) (vs : List A) (row : Row T) (m : Entry T) (tail : Row T) (rest : List T) → Many R vs (row ++ m ∷ tail) → Shallow limit row → length (tokens row ++ m.token ∷ rest) ≤ n
      → Passed rest (many_up_to n test p (tokens row ++ m.token ∷ rest))
  passes n [] row m tail rest r s fits = absurd (has_one row m tail r)
  passes zero (a ∷ vs) row m tail rest (f, g, e, rf, mg) s room = absurd (omega (arith, length-append (tokens row) (m.token ∷ rest)))
  passes (suc n) (a ∷ vs) row m tail rest (f, g, e, rf, mg) s room =
      elim (split_at row m tail f g e) [
        | inl (h, here, there) ↦
            let sh : Shallow limit (f ++ h) = subst (Shallow limit) here s in
            let mh : Many R vs (h ++ m ∷ tail) = subst (Many R vs) there mg in
            let place : tokens row ++ m.token ∷ rest ≡ tokens f ++ (tokens h ++ m.token ∷ rest) = ap (λ x. tokens x ++ m.token ∷ rest) here ∙ regroup f h (m.token ∷ rest) in
            let one = gp.complete a f (tokens h ++ m.token ∷ rest) rf (shallow_front limit f h sh) (heads_stop vs h m tail rest mh) in
            let two = passes n vs h m tail rest mh (shallow_back limit f h sh) (shorter f (tokens h ++ m.token ∷ rest) n (tokens row ++ m.token ∷ rest) place ((starts_at a f rest rf).1) room) in
            subst (Passed rest) (sym (goes_on n (tokens row ++ m.token ∷ rest) (tokens h ++ m.token ∷ rest) a (many_up_to n test p (tokens h ++ m.token ∷ rest))
            (ap (starts test) place ∙ (starts_at a f (tokens h ++ m.token ∷ rest) rf).0) (ap p place ∙ one) refl))
            (mapped_passed a rest (many_up_to n test p (tokens h ++ m.token ∷ rest)) two)
        | inr (h, here, there) ↦
            let rh : R a (row ++ m ∷ h) = subst (R a) here rf in
            subst (Passed rest) (sym (turned n (tokens row ++ m.token ∷ rest) true (starts_in a row m h rest rh)))
            (turn_passed n rest (p (tokens row ++ m.token ∷ rest)) (gp.passes a row m h rest rh s))
      ]

  deep : (n : ℕ) (vs : List A) (row : Row T) (m : Entry T) (tail : Row T) (rest : List T) → Many R vs (row ++ m ∷ tail) → Shallow limit row
      → limit < m.depth → Fits signs m tail rest → length (tokens row ++ m.token ∷ rest) ≤ n → many_up_to n test p (tokens row ++ m.token ∷ rest) ≡ TooDeep (m.token ∷ rest)
  unfolding turn
  deep n [] row m tail rest r s lt fits room = absurd (has_one row m tail r)
  deep zero (a ∷ vs) row m tail rest (f, g, e, rf, mg) s lt fits room = absurd (omega (arith, length-append (tokens row) (m.token ∷ rest)))
  deep (suc n) (a ∷ vs) row m tail rest (f, g, e, rf, mg) s lt fits room =
      elim (split_at row m tail f g e) [
        | inl (h, here, there) ↦
            let sh : Shallow limit (f ++ h) = subst (Shallow limit) here s in
            let mh : Many R vs (h ++ m ∷ tail) = subst (Many R vs) there mg in
            let place : tokens row ++ m.token ∷ rest ≡ tokens f ++ (tokens h ++ m.token ∷ rest) = ap (λ x. tokens x ++ m.token ∷ rest) here ∙ regroup f h (m.token ∷ rest) in
            let one = gp.complete a f (tokens h ++ m.token ∷ rest) rf (shallow_front limit f h sh) (heads_stop vs h m tail rest mh) in
            let two = deep n vs h m tail rest mh (shallow_back limit f h sh) lt fits (shorter f (tokens h ++ m.token ∷ rest) n (tokens row ++ m.token ∷ rest) place ((starts_at a f rest rf).1) room) in
            goes_on n (tokens row ++ m.token ∷ rest) (tokens h ++ m.token ∷ rest) a (TooDeep (m.token ∷ rest))
            (ap (starts test) place ∙ (starts_at a f (tokens h ++ m.token ∷ rest) rf).0) (ap p place ∙ one) two
        | inr (h, here, there) ↦
            let rh : R a (row ++ m ∷ h) = subst (R a) here rf in
            let fits_h = fits_front signs m h g rest (λ nothing. gp.ends a row m (subst (λ x. R a (row ++ m ∷ x)) nothing rh) lt) (subst (λ x. Fits signs m x rest) there fits) in
            turned n (tokens row ++ m.token ∷ rest) true (starts_in a row m h rest rh) ∙ deep_turn n (gp.deep a row m h rest rh s lt fits_h)
      ]
    where
      deep_turn : (n : ℕ) → p (tokens row ++ m.token ∷ rest) ≡ TooDeep (m.token ∷ rest) → turn n (p (tokens row ++ m.token ∷ rest)) ≡ TooDeep (m.token ∷ rest)
      deep_turn n e = ap (turn n) e

  ends : (vs : List A) (row : Row T) (m : Entry T) → Many R vs (row ++ m ∷ []) → limit < m.depth → signs.sign m.token ≡ false
  ends [] row m r lt = absurd (has_one row m [] r)
  ends (a ∷ vs) row m (f, g, e, rf, mg) lt =
      elim (split_at row m [] f g e) [
        | inl (h, here, there) ↦ ends vs h m (subst (Many R vs) there mg) lt
        | inr (h, here, there) ↦ gp.ends a row m (subst (λ x. R a (row ++ m ∷ x)) (front_nil h g there) (subst (R a) here rf)) lt
      ]

  many_all : Good signs limit c (Many R) (many test p)
  unfolding many IsDone IsUnexpected IsTooDeep
  many_all = record {
    example = ([], [], refl);
    done = λ ts. done (length ts) ts;
    unexpected = λ ts. unexpected (length ts) ts;
    too_deep = λ ts. too_deep (length ts) ts;
    complete = λ vs row rest r s stop. complete (length (tokens row ++ rest)) vs row rest r s stop (omega arith);
    passes = λ vs row m tail rest r s. passes (length (tokens row ++ m.token ∷ rest)) vs row m tail rest r s (omega arith);
    deep = λ vs row m tail rest r s lt fits. deep (length (tokens row ++ m.token ∷ rest)) vs row m tail rest r s lt fits (omega arith);
    ends = ends;
  }

  -- ---- the loop of the code

  same_bound : (n k : ℕ) (ts : List T) → length ts ≤ n → length ts ≤ k → many_up_to n test p ts ≡ many_up_to k test p ts
  unfolding turn
  same_bound zero zero ts a b = refl
  same_bound zero (suc k) [] a b = refl
  same_bound zero (suc k) (t ∷ ts) a b = absurd (omega arith)
  same_bound (suc n) zero [] a b = refl
  same_bound (suc n) zero (t ∷ ts) a b = absurd (omega arith)
  same_bound (suc n) (suc k) ts a b = same_at (λ r x y. same_bound n k r x y) (starts test ts) refl
    where
      Same : Type 0
      Same = (r : List T) → length r ≤ n → length r ≤ k → many_up_to n test p r ≡ many_up_to k test p r

      same_turn : Same → (o : Outcome T A) → p ts ≡ o → starts test ts ≡ true → turn n o ≡ turn k o
      same_turn ih (Done v r) e s = ap (mapped (λ more. v ∷ more)) (let d = gp.done ts v r e in
          ih r (shorter d.0 r n ts d.3 ((starts_at v d.0 r d.1).1) a) (shorter d.0 r k ts d.3 ((starts_at v d.0 r d.1).1) b))
      same_turn ih (Unexpected r) e s = refl
      same_turn ih (TooDeep r) e s = refl

      same_at : Same → (b : Bool) → starts test ts ≡ b → many_up_to (suc n) test p ts ≡ many_up_to (suc k) test p ts
      same_at ih true s = turned n ts true s ∙ same_turn ih (p ts) refl s ∙ sym (turned k ts true s)
      same_at ih false s = turned n ts false s ∙ sym (turned k ts false s)

  step : (ts : List T) → many test p ts ≡ cond (starts test ts) (and_then (p ts) (λ a rest. mapped (λ more. a ∷ more) (many test p rest))) (Done [] ts)
  unfolding many turn
  step [] = refl
  step (t ∷ ts) = step_at (test t) refl
    where
      in_turn : (o : Outcome T A) → p (t ∷ ts) ≡ o → turn (length ts) o ≡ and_then o (λ a rest. mapped (λ more. a ∷ more) (many test p rest))
      in_turn (Done a r) e = ap (mapped (λ more. a ∷ more)) (let d = gp.done (t ∷ ts) a r e in
          same_bound (length ts) (length r) r (shorter d.0 r (length ts) (t ∷ ts) d.3 ((starts_at a d.0 r d.1).1) (omega arith)) (omega arith))
      in_turn (Unexpected r) e = refl
      in_turn (TooDeep r) e = refl

      step_at : (b : Bool) → test t ≡ b → many test p (t ∷ ts) ≡ cond (test t) (and_then (p (t ∷ ts)) (λ a rest. mapped (λ more. a ∷ more) (many test p rest))) (Done [] (t ∷ ts))
      step_at true s = turned (length ts) (t ∷ ts) true s ∙ in_turn (p (t ∷ ts)) refl ∙ sym (ap (λ b. cond b (and_then (p (t ∷ ts)) (λ a rest. mapped (λ more. a ∷ more) (many test p rest))) (Done [] (t ∷ ts))) s)
      step_at false s = turned (length ts) (t ∷ ts) false s ∙ sym (ap (λ b. cond b (and_then (p (t ∷ ts)) (λ a rest. mapped (λ more. a ∷ more) (many test p rest))) (Done [] (t ∷ ts))) s)

pub good_many : {T A : Type 0} {signs : Signs T} {limit : ℕ} {c next test : T → Bool} {R : Language T A} {p : Reader T A} → Good signs limit next R p → StartsWith test R
    → ((t : T) → test t ≡ true → next t ≡ false) → ((t : T) → test t ≡ true → c t ≡ true) → ((t : T) → next t ≡ true → c t ≡ true)
    → Good signs limit c (Many R) (many test p)
good_many {limit} {c} {next} {test} {R} {p} gp begin apart within wider = many_all limit c next test R p gp begin apart within wider

pub many_step : {T A : Type 0} {signs : Signs T} {limit : ℕ} {next test : T → Bool} {R : Language T A} {p : Reader T A} → Good signs limit next R p → StartsWith test R
    → ((t : T) → test t ≡ true → next t ≡ false)
    → (ts : List T) → many test p ts ≡ cond (starts test ts) (and_then (p ts) (λ a rest. mapped (λ more. a ∷ more) (many test p rest))) (Done [] ts)
many_step {limit} {next} {test} {R} {p} gp begin apart ts = step limit (λ _. true) next test R p gp begin apart (λ t e. refl) (λ t e. refl) ts
