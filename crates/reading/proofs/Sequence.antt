-- One rule after another.
use Rattle.std.proofs.Common.{◌≡◌, ℕ, ◌<◌, Bool, true, false, List, [], ◌∷◌, ◌++◌, inl, inr, refl, sym, ap, ◌∙◌, subst, append_assoc}
use Rattle.reading.specs.Row.{Entry, Row, Signs, tokens, Shallow, starts, Fits}
use Rattle.reading.specs.Language.{Language, Then, After, Before}
use Rattle.reading.specs.Reader.{Outcome, Done, Unexpected, TooDeep, Reader, and_then, ◌>>=◌, after, before}
use Rattle.reading.specs.Good.{Good, Passed, ReadFrom, StopsAt, DeepAt}
use Rattle.reading.proofs.Rows.{front_nil, joined, regroup, shallow_append, shallow_front, shallow_back, split_at, fits_append, fits_front}
use Rattle.reading.proofs.Passing.{suffix, passed_more, still_stops}
use Rattle.reading.proofs.Same.{none, good_map}

module _ {T A B : Type 0} {signs : Signs T} (limit : ℕ) (c wide : T → Bool) (P : Language T A) (Q : A → Language T B) (p : Reader T A) (q : A → Reader T B)
    (gp : Good signs limit c P p) (gq : (a : A) → Good signs limit wide (Q a) (q a))
    (first : (a : A) (b : B) (m : Entry T) (g : Row T) → Q a b (m ∷ g) → c m.token ≡ false)
    (empty : (a : A) (b : B) → Q a b [] → (t : T) → c t ≡ true → wide t ≡ true) where
  stops : (a : A) (b : B) (g : Row T) (rest : List T) → Q a b g → starts wide rest ≡ false → starts c (tokens g ++ rest) ≡ false
  stops a b [] rest qg e = still_stops c wide (empty a b qg) rest e
  stops a b (m ∷ g) rest qg e = first a b m g qg

  example : (b : B) × (row : Row T) × Then P Q b row
  example =
      let s = gp.example in
      let t = (gq s.0).example in
      (t.0, s.1 ++ t.1, (s.0, s.1, t.1, refl, s.2, t.2))

  done_go : (ts : List T) (b : B) (rest : List T) (o : Outcome T A) → p ts ≡ o → and_then o q ≡ Done b rest → ReadFrom limit (Then P Q) ts b rest
  done_go ts b rest (Done a r) e h =
      let d = gp.done ts a r e in
      let f = (gq a).done r b rest h in
      (d.0 ++ f.0, (a, d.0, f.0, refl, d.1, f.1), shallow_append limit d.0 f.0 d.2 f.2, joined d.0 f.0 ts r rest d.3 f.3)
  done_go ts b rest (Unexpected r) e h = cc
  done_go ts b rest (TooDeep r) e h = cc

  done : (ts : List T) (b : B) (rest : List T) → (p >>= q) ts ≡ Done b rest → ReadFrom limit (Then P Q) ts b rest
  done ts b rest h = done_go ts b rest (p ts) refl h

  unexpected_go : (ts rest : List T) (o : Outcome T A) → p ts ≡ o → and_then o q ≡ Unexpected rest → StopsAt limit (Then P Q) ts rest
  unexpected_go ts rest (Done a r) e h =
      let d = gp.done ts a r e in
      let f = (gq a).unexpected r rest h in
      (d.0 ++ f.0, f.1, f.2, (a, d.0, f.0 ++ f.1, append_assoc d.0 f.0 f.1, d.1, f.3), shallow_append limit d.0 f.0 d.2 f.4, joined d.0 f.0 ts r rest d.3 f.5)
  unexpected_go ts rest (Unexpected r) e h =
      let same : r ≡ rest = cc in
      let d = gp.unexpected ts rest (e ∙ ap Unexpected same) in
      let t = (gq d.2).example in
      (d.0, d.1 ++ t.1, t.0, (d.2, d.0 ++ d.1, t.1, sym (append_assoc d.0 d.1 t.1), d.3, t.2), d.4, d.5)
  unexpected_go ts rest (TooDeep r) e h = cc

  unexpected : (ts rest : List T) → (p >>= q) ts ≡ Unexpected rest → StopsAt limit (Then P Q) ts rest
  unexpected ts rest h = unexpected_go ts rest (p ts) refl h

  too_deep_go : (ts rest : List T) (o : Outcome T A) → p ts ≡ o → and_then o q ≡ TooDeep rest → DeepAt signs limit (Then P Q) ts rest
  too_deep_go ts rest (Done a r) e h =
      let d = gp.done ts a r e in
      let f = (gq a).too_deep r rest h in
      (d.0 ++ f.0, f.1, f.2, f.3, f.4, (a, d.0, f.0 ++ f.1 ∷ f.2, append_assoc d.0 f.0 (f.1 ∷ f.2), d.1, f.5), shallow_append limit d.0 f.0 d.2 f.6, f.7, f.8, joined d.0 f.0 ts r rest d.3 f.9, f.10)
  too_deep_go ts rest (Unexpected r) e h = cc
  too_deep_go ts rest (TooDeep r) e h =
      let same : r ≡ rest = cc in
      let d = gp.too_deep ts rest (e ∙ ap TooDeep same) in
      let t = (gq d.4).example in (
        d.0,
        d.1,
        d.2 ++ t.1,
        d.3,
        t.0,
        (d.4, d.0 ++ d.1 ∷ d.2, t.1, sym (append_assoc d.0 (d.1 ∷ d.2) t.1), d.5, t.2),
        d.6,
        d.7,
        d.8,
        d.9,
        fits_append signs d.1 d.2 t.1 d.3 (λ nothing. gp.ends d.4 d.0 d.1 (subst (λ x. P d.4 (d.0 ++ d.1 ∷ x)) nothing d.5) d.7) d.10,
      )

  too_deep : (ts rest : List T) → (p >>= q) ts ≡ TooDeep rest → DeepAt signs limit (Then P Q) ts rest
  too_deep ts rest h = too_deep_go ts rest (p ts) refl h

  -- the second reader goes on where the first is through
  goes_on : (ts r : List T) (a : A) (o : Outcome T B) → p ts ≡ Done a r → q a r ≡ o → (p >>= q) ts ≡ o
  goes_on ts r a o e h = ap (λ x. and_then x q) e ∙ h

  complete : (b : B) (row : Row T) (rest : List T) → Then P Q b row → Shallow limit row → starts wide rest ≡ false → (p >>= q) (tokens row ++ rest) ≡ Done b rest
  complete b row rest (a, f, g, e, pf, qg) s stop =
      let sh : Shallow limit (f ++ g) = subst (Shallow limit) e s in
      let one = gp.complete a f (tokens g ++ rest) pf (shallow_front limit f g sh) (stops a b g rest qg stop) in
      let two = (gq a).complete b g rest qg (shallow_back limit f g sh) stop in
      let place : tokens row ++ rest ≡ tokens f ++ (tokens g ++ rest) = ap (λ x. tokens x ++ rest) e ∙ regroup f g rest in
      goes_on (tokens row ++ rest) (tokens g ++ rest) a (Done b rest) (ap p place ∙ one) two

  passed_go : (ts rest : List T) (o : Outcome T A) → p ts ≡ o → Passed rest o → Passed rest (and_then o q)
  passed_go ts rest (Done a r) e w = subst (λ x. Passed x (q a r)) (sym w.1) (passed_more w.0 r (q a r) (suffix (gq a) r))
  passed_go ts rest (Unexpected r) e w = w
  passed_go ts rest (TooDeep r) e w = w

  head_stops : (a : A) (b : B) (h : Row T) (m : Entry T) (tail : Row T) (rest : List T) → Q a b (h ++ m ∷ tail) → starts c (tokens h ++ m.token ∷ rest) ≡ false
  head_stops a b [] m tail rest qg = first a b m tail qg
  head_stops a b (n ∷ h) m tail rest qg = first a b n (h ++ m ∷ tail) qg

  passes : (b : B) (row : Row T) (m : Entry T) (tail : Row T) (rest : List T) → Then P Q b (row ++ m ∷ tail) → Shallow limit row
      → Passed rest ((p >>= q) (tokens row ++ m.token ∷ rest))
  passes b row m tail rest (a, f, g, e, pf, qg) s =
      elim (split_at row m tail f g e) [
        | inl (h, here, there) ↦
            let sh : Shallow limit (f ++ h) = subst (Shallow limit) here s in
            let qh : Q a b (h ++ m ∷ tail) = subst (Q a b) there qg in
            let one = gp.complete a f (tokens h ++ m.token ∷ rest) pf (shallow_front limit f h sh) (head_stops a b h m tail rest qh) in
            let two = (gq a).passes b h m tail rest qh (shallow_back limit f h sh) in
            let place : tokens row ++ m.token ∷ rest ≡ tokens f ++ (tokens h ++ m.token ∷ rest) = ap (λ x. tokens x ++ m.token ∷ rest) here ∙ regroup f h (m.token ∷ rest) in
            subst (Passed rest) (sym (goes_on (tokens row ++ m.token ∷ rest) (tokens h ++ m.token ∷ rest) a (q a (tokens h ++ m.token ∷ rest)) (ap p place ∙ one) refl)) two
        | inr (h, here, there) ↦
            passed_go (tokens row ++ m.token ∷ rest) rest (p (tokens row ++ m.token ∷ rest)) refl (gp.passes a row m h rest (subst (P a) here pf) s)
      ]

  deep : (b : B) (row : Row T) (m : Entry T) (tail : Row T) (rest : List T) → Then P Q b (row ++ m ∷ tail) → Shallow limit row
      → limit < m.depth → Fits signs m tail rest → (p >>= q) (tokens row ++ m.token ∷ rest) ≡ TooDeep (m.token ∷ rest)
  deep b row m tail rest (a, f, g, e, pf, qg) s lt fits =
      elim (split_at row m tail f g e) [
        | inl (h, here, there) ↦
            let sh : Shallow limit (f ++ h) = subst (Shallow limit) here s in
            let qh : Q a b (h ++ m ∷ tail) = subst (Q a b) there qg in
            let one = gp.complete a f (tokens h ++ m.token ∷ rest) pf (shallow_front limit f h sh) (head_stops a b h m tail rest qh) in
            let two = (gq a).deep b h m tail rest qh (shallow_back limit f h sh) lt fits in
            let place : tokens row ++ m.token ∷ rest ≡ tokens f ++ (tokens h ++ m.token ∷ rest) = ap (λ x. tokens x ++ m.token ∷ rest) here ∙ regroup f h (m.token ∷ rest) in
            goes_on (tokens row ++ m.token ∷ rest) (tokens h ++ m.token ∷ rest) a (TooDeep (m.token ∷ rest)) (ap p place ∙ one) two
        | inr (h, here, there) ↦
            let ph : P a (row ++ m ∷ h) = subst (P a) here pf in
            let fits_h = fits_front signs m h g rest (λ nothing. gp.ends a row m (subst (λ x. P a (row ++ m ∷ x)) nothing ph) lt) (subst (λ x. Fits signs m x rest) there fits) in
            ap (λ o. and_then o q) (gp.deep a row m h rest ph s lt fits_h)
      ]

  ends : (b : B) (row : Row T) (m : Entry T) → Then P Q b (row ++ m ∷ []) → limit < m.depth → signs.sign m.token ≡ false
  ends b row m (a, f, g, e, pf, qg) lt =
      elim (split_at row m [] f g e) [
        | inl (h, here, there) ↦ (gq a).ends b h m (subst (Q a b) there qg) lt
        | inr (h, here, there) ↦
            gp.ends a row m (subst (λ x. P a (row ++ m ∷ x)) (front_nil h g there) (subst (P a) here pf)) lt
      ]

pub good_then : {T A B : Type 0} {signs : Signs T} {limit : ℕ} {c wide : T → Bool} {P : Language T A} {Q : A → Language T B} {p : Reader T A} {q : A → Reader T B}
    → Good signs limit c P p → ((a : A) → Good signs limit wide (Q a) (q a))
    → ((a : A) (b : B) (m : Entry T) (g : Row T) → Q a b (m ∷ g) → c m.token ≡ false)
    → ((a : A) (b : B) → Q a b [] → (t : T) → c t ≡ true → wide t ≡ true)
    → Good signs limit wide (Then P Q) (p >>= q)
good_then {limit} {c} {wide} {P} {Q} {p} {q} gp gq first empty = record {
  example = example limit c wide P Q p q gp gq first empty;
  done = done limit c wide P Q p q gp gq first empty;
  unexpected = unexpected limit c wide P Q p q gp gq first empty;
  too_deep = too_deep limit c wide P Q p q gp gq first empty;
  complete = complete limit c wide P Q p q gp gq first empty;
  passes = passes limit c wide P Q p q gp gq first empty;
  deep = deep limit c wide P Q p q gp gq first empty;
  ends = ends limit c wide P Q p q gp gq first empty;
}

-- the first rule ends in a token, so that nothing goes on from it
pub good_ended_then : {T A B : Type 0} {signs : Signs T} {limit : ℕ} {c : T → Bool} {P : Language T A} {Q : A → Language T B} {p : Reader T A} {q : A → Reader T B}
    → Good signs limit none P p → ((a : A) → Good signs limit c (Q a) (q a)) → Good signs limit c (Then P Q) (p >>= q)
good_ended_then gp gq = good_then gp gq (λ a b m g w. refl) (λ a b w t e. cc)

pub good_after : {T A B : Type 0} {signs : Signs T} {limit : ℕ} {c : T → Bool} {P : Language T A} {Q : Language T B} {p : Reader T A} {q : Reader T B}
    → Good signs limit none P p → Good signs limit c Q q → Good signs limit c (After P Q) (after p q)
good_after gp gq = good_ended_then gp (λ _. gq)

-- the second rule has a token at least, with which the first does not go on
pub good_before : {T A B : Type 0} {signs : Signs T} {limit : ℕ} {c wide : T → Bool} {P : Language T A} {Q : Language T B} {p : Reader T A} {q : Reader T B}
    → Good signs limit c P p → Good signs limit wide Q q → ((b : B) (m : Entry T) (g : Row T) → Q b (m ∷ g) → c m.token ≡ false) → ((b : B) → Q b [] → ⊥)
    → Good signs limit wide (Before P Q) (before p q)
good_before gp gq first nonempty = good_then gp (λ a. good_map (λ _. a) gq) (λ a b m g w. first w.0 m g w.1) (λ a b w t e. absurd (nonempty w.0 w.1))
