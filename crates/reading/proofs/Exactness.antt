-- A good reader of the whole text answers exactly.
use Rattle.std.proofs.Common.{◌≡◌, ℕ, ◌≤◌, ◌<◌, ◌+◌, ◌-◌, Bool, List, [], ◌∷◌, ◌++◌, ◌⊎◌, inl, inr, refl, sym, ap, ◌∙◌, subst, append_assoc, arith, length, length-append}
use native.Mathlib.Decide.{dec_le}
use Rattle.reading.specs.Row.{Entry, Row, Signs, tokens, Shallow, Fits}
use Rattle.reading.specs.Language.{Language}
use Rattle.reading.specs.Reader.{Outcome, Done, Unexpected, TooDeep, Reader, ended, whole}
use Rattle.reading.specs.Good.{Good, Passed}
use Rattle.reading.specs.Exact.{Spelled, SpelledWithin, Begins, Stuck, UnexpectedAt, TooDeepAt, Answer, Tree, UnexpectedToken, DeepToken, answer, Exact}
use Rattle.reading.proofs.Rows.{append_nil, tokens_append, regroup}

-- ---- rows

-- the first entry that lies deeper, if there is one
abbrev FirstDeep : {T : Type 0} → ℕ → Row T → Type 0
FirstDeep {T} limit row = (b : Row T) × (n : Entry T) × (c : Row T) × (row ≡ b ++ n ∷ c) × Shallow limit b × (limit < n.depth)

shallow_or : {T : Type 0} (limit : ℕ) (row : Row T) → Shallow limit row ⊎ FirstDeep limit row
shallow_or limit [] = inl tt
shallow_or limit (m ∷ row) = elim (dec_le m.depth limit) [
  | yes h ↦ elim (shallow_or limit row) [
    | inl s ↦ inl (h, s)
    | inr w ↦ inr (m ∷ w.0, w.1, w.2, ap (λ x. m ∷ x) w.3, (h, w.4), w.5)
  ]
  | no h ↦ inr ([], m, row, refl, tt, omega arith)
]

-- the row of a list that is cut at a token
abbrev Cut : {T : Type 0} → Row T → List T → T → Type 0
Cut {T} row first t = (a : Row T) × (m : Entry T) × (b : Row T) × (row ≡ a ++ m ∷ b) × (tokens a ≡ first) × (m.token ≡ t)

cut_more : {T : Type 0} (m : Entry T) (row : Row T) (u : T) (first : List T) (t : T) → m.token ≡ u → Cut row first t → Cut (m ∷ row) (u ∷ first) t
cut_more m row u first t same (a, n, b, row_is, front_is, is) =
    (m ∷ a, n, b, ap (λ x. m ∷ x) row_is, ap (λ x. m.token ∷ x) front_is ∙ ap (λ x. x ∷ first) same, is)

cut : {T : Type 0} (row : Row T) (first : List T) (t : T) (tail : List T) → tokens row ≡ first ++ t ∷ tail → Cut row first t
cut [] [] t tail e = cc
cut [] (u ∷ first) t tail e = cc
cut (m ∷ row) [] t tail e = let same : m.token ≡ t = cc in ([], m, row, refl, refl, same)
cut (m ∷ row) (u ∷ first) t tail e =
    let same : m.token ≡ u = cc in
    let back : tokens row ≡ first ++ t ∷ tail = cc in
    cut_more m row u first t same (cut row first t tail back)

-- what stands behind an entry is the same as far as the next token
fits_next : {T : Type 0} (signs : Signs T) (n : Entry T) (c : Row T) (m : Entry T) (tail : Row T) (rest : List T) → Fits signs n (c ++ m ∷ tail) (tokens c ++ m.token ∷ rest)
fits_next signs n [] m tail rest = λ is. refl
fits_next signs n (x ∷ c) m tail rest = λ is. refl

no_room : {T : Type 0} (t : T) (rest : List T) → (g : List T) × (rest ≡ g ++ t ∷ rest) → ⊥
no_room t rest (g, e) = omega (arith, ap length e, length-append g (t ∷ rest))

-- of two fronts of a list one is as long as the other, or goes on from it
longer : {T : Type 0} (f r g s : List T) → f ++ r ≡ g ++ s → (length g ≤ length f) ⊎ ((t : T) × (h : List T) × (q : List T) × (g ≡ f ++ t ∷ h) × (r ≡ t ∷ q))
longer f r [] s e = inl (omega arith)
longer [] r (y ∷ g) s e = inr (y, g, g ++ s, refl, e)
longer (x ∷ f) r (y ∷ g) s e =
    let same : x ≡ y = cc in
    let tails : f ++ r ≡ g ++ s = cc in
    elim (longer f r g s tails) [
      | inl le ↦ inl (omega (arith, le))
      | inr w ↦ inr (w.0, w.1, w.2, ap (λ z. y ∷ z) w.3 ∙ ap (λ z. z ∷ (f ++ w.0 ∷ w.1)) (sym same), w.4)
    ]

pub widen : {T : Type 0} (row : Row T) (a b : ℕ) → a ≤ b → Shallow a row → Shallow b row
widen [] a b h s = tt
widen (x ∷ row) a b h s = (omega (arith, s.0), widen row a b h s.1)

deepest : {T : Type 0} (row : Row T) → (limit : ℕ) × Shallow limit row
deepest [] = (0, tt)
deepest (m ∷ row) = let w = deepest row in (m.depth + w.0, (omega arith, widen row w.0 (m.depth + w.0) (omega arith) w.1))

-- ---- places

-- what begins a text does not reach past a place where none goes on
not_past : {T A : Type 0} (R : Language T A) (first rest more rest2 : List T) → first ++ rest ≡ more ++ rest2 → Stuck R first rest → Begins R more → length more ≤ length first
not_past R first rest more rest2 e stuck (tail, x, (row, r, is)) =
    elim (longer first rest more rest2 e) [
      | inl le ↦ le
      | inr (t, h, q, more_is, rest_is) ↦
          let there : tokens row ≡ (first ++ t ∷ []) ++ (h ++ tail) = is ∙ ap (λ y. y ++ tail) more_is ∙ append_assoc first (t ∷ h) tail ∙ sym (append_assoc first (t ∷ []) (h ++ tail)) in
          absurd (subst (Stuck R first) rest_is stuck (h ++ tail, x, (row, r, there)))
    ]

pub one_place : {T A : Type 0} (R : Language T A) (ts : List T) (i j : ℕ) → UnexpectedAt R ts i → UnexpectedAt R ts j → i ≡ j
one_place R ts i j (f, r, e, is, begins, stuck) (g, s, h, at, goes, stops) =
    let one = not_past R f r g s (sym e ∙ h) stuck goes in
    let two = not_past R g s f r (sym h ∙ e) stops begins in
    omega (arith, one, two, is, at)

abbrev pub left : {T A : Type 0} → Outcome T A → List T
left (Done x r) = r
left (Unexpected r) = r
left (TooDeep r) = r

module _ {T A : Type 0} {signs : Signs T} {limit : ℕ} {c : T → Bool} {R : Language T A} {p : Reader T A} (g : Good signs limit c R p) where
  deep_before : (x : A) (a : Row T) (m : Entry T) (b : Row T) (rest : List T) → FirstDeep limit a → R x (a ++ m ∷ b)
      → (r : List T) × (p (tokens a ++ m.token ∷ rest) ≡ TooDeep r)
  deep_before x a m b rest (f, n, c, e, s, lt) r =
      let rf : R x (f ++ n ∷ (c ++ m ∷ b)) = subst (R x) (ap (λ y. y ++ m ∷ b) e ∙ append_assoc f (n ∷ c) (m ∷ b)) r in
      let there : tokens a ++ m.token ∷ rest ≡ tokens f ++ n.token ∷ (tokens c ++ m.token ∷ rest) = ap (λ y. tokens y ++ m.token ∷ rest) e ∙ regroup f (n ∷ c) (m.token ∷ rest) in
      (_, ap p there ∙ g.deep x f n (c ++ m ∷ b) (tokens c ++ m.token ∷ rest) rf s lt (fits_next signs n c m b rest))

  -- where the tokens up to t begin a text, the reader gets past t or stops at nesting
  gets_past : (first : List T) (t : T) (rest : List T) → Begins R (first ++ t ∷ [])
      → Passed rest (p (first ++ t ∷ rest)) ⊎ ((r : List T) × (p (first ++ t ∷ rest) ≡ TooDeep r))
  gets_past first t rest (tail, x, (row, r, e)) =
      let w = cut row first t tail (e ∙ append_assoc first (t ∷ []) tail) in
      let spelled : R x (w.0 ++ w.1 ∷ w.2) = subst (R x) w.3 r in
      let there : tokens w.0 ++ w.1.token ∷ rest ≡ first ++ t ∷ rest = ap (λ y. y ++ w.1.token ∷ rest) w.4 ∙ ap (λ y. first ++ y ∷ rest) w.5 in
      elim (shallow_or limit w.0) [
        | inl s ↦ inl (subst (λ y. Passed rest (p y)) there (g.passes x w.0 w.1 w.2 rest spelled s))
        | inr d ↦ inr (let v = deep_before x w.0 w.1 w.2 rest d spelled in (v.0, ap p (sym there) ∙ v.1))
      ]

  -- what is spelled is read, or nests too deep
  is_read : (x : A) (ts : List T) → Spelled R x ts → (p ts ≡ Done x []) ⊎ ((r : List T) × (p ts ≡ TooDeep r))
  is_read x ts (row, r, e) =
      elim (shallow_or limit row) [
        | inl s ↦ inl (ap p (sym e ∙ sym (append_nil (tokens row))) ∙ g.complete x row [] r s refl)
        | inr (f, n, c, is, s, lt) ↦
            let there : ts ≡ tokens f ++ n.token ∷ tokens c = sym e ∙ ap tokens is ∙ tokens_append f (n ∷ c) in
            inr (_, ap p there ∙ g.deep x f n c (tokens c) (subst (R x) is r) s lt (λ same. refl))
      ]

  stuck : (first rest ts : List T) → ts ≡ first ++ rest → p ts ≡ Unexpected rest → Stuck R first rest
  stuck first [] ts e h = λ x spelled.
      elim (is_read x ts (spelled.0, spelled.1, spelled.2 ∙ sym (e ∙ append_nil first))) [ inl d ↦ cc (h, d) | inr d ↦ cc (h, d.1) ]
  stuck first (t ∷ rest) ts e h = λ b.
      elim (gets_past first t rest b) [
        | inl w ↦ no_room t rest (subst (Passed rest) (ap p (sym e) ∙ h) w)
        | inr w ↦ cc (h, w.1, ap p e)
      ]

  stuck_after : (x : A) (first : List T) (t : T) (rest ts : List T) → ts ≡ first ++ t ∷ rest → p ts ≡ Done x (t ∷ rest) → Stuck R first (t ∷ rest)
  stuck_after x first t rest ts e h = λ b.
      elim (gets_past first t rest b) [
        | inl w ↦ no_room t rest (subst (Passed rest) (ap p (sym e) ∙ h) w)
        | inr w ↦ cc (h, w.1, ap p e)
      ]

  place : (first rest ts : List T) → ts ≡ first ++ rest → length ts - length rest ≡ length first
  place first rest ts e = omega (arith, ap length e, length-append first rest)

  read_done : (x : A) (ts : List T) → p ts ≡ Done x [] → SpelledWithin R limit x ts
  read_done x ts h = let d = g.done ts x [] h in (d.0, d.1, d.2, sym (d.3 ∙ append_nil (tokens d.0)))

  read_unexpected : (ts rest : List T) → p ts ≡ Unexpected rest → UnexpectedAt R ts (length ts - length rest)
  read_unexpected ts rest h =
      let d = g.unexpected ts rest h in
      (tokens d.0, rest, d.5, place (tokens d.0) rest ts d.5, (tokens d.1, d.2, (d.0 ++ d.1, d.3, tokens_append d.0 d.1)), stuck (tokens d.0) rest ts d.5 h)

  -- a text that ends before the last token
  read_trailing : (x : A) (t : T) (ts rest : List T) → p ts ≡ Done x (t ∷ rest) → UnexpectedAt R ts (length ts - length (t ∷ rest))
  read_trailing x t ts rest h =
      let d = g.done ts x (t ∷ rest) h in
      (tokens d.0, t ∷ rest, d.3, place (tokens d.0) (t ∷ rest) ts d.3, ([], x, (d.0, d.1, sym (append_nil (tokens d.0)))), stuck_after x (tokens d.0) t rest ts d.3 h)

  read_deep : (ts rest : List T) → p ts ≡ TooDeep rest → TooDeepAt R signs limit ts (length ts - length rest)
  read_deep ts rest h =
      let d = g.too_deep ts rest h in
      let there : ts ≡ tokens d.0 ++ d.1.token ∷ d.3 = d.9 ∙ ap (λ y. tokens d.0 ++ y) d.8 in
      (d.0, d.1, d.2, d.3, d.4, there, place (tokens d.0) rest ts d.9, d.5, d.6, d.7, d.10)

  -- ---- the four parts

  found : (ts : List T) (x : A) (o : Outcome T A) → p ts ≡ o → answer ts (ended o) ≡ Tree x → SpelledWithin R limit x ts
  found ts x (Done y []) e h = let same : y ≡ x = cc in read_done x ts (e ∙ ap (λ v. Done v []) same)
  found ts x (Done y (t ∷ rest)) e h = cc
  found ts x (Unexpected rest) e h = cc
  found ts x (TooDeep rest) e h = cc

  only : (ts : List T) (x : A) → SpelledWithin R limit x ts → answer ts (whole p ts) ≡ Tree x
  only ts x (row, r, s, e) = ap (λ o. answer ts (ended o)) (ap p (sym e ∙ sym (append_nil (tokens row))) ∙ g.complete x row [] r s refl)

  unexpected : (ts : List T) (i : ℕ) (o : Outcome T A) → p ts ≡ o → answer ts (ended o) ≡ UnexpectedToken i → UnexpectedAt R ts i
  unexpected ts i (Done y []) e h = cc
  unexpected ts i (Done y (t ∷ rest)) e h = let same : length ts - length (t ∷ rest) ≡ i = cc in subst (λ v. UnexpectedAt R ts v) same (read_trailing y t ts rest e)
  unexpected ts i (Unexpected rest) e h = let same : length ts - length rest ≡ i = cc in subst (λ v. UnexpectedAt R ts v) same (read_unexpected ts rest e)
  unexpected ts i (TooDeep rest) e h = cc

  too_deep : (ts : List T) (i : ℕ) (o : Outcome T A) → p ts ≡ o → answer ts (ended o) ≡ DeepToken i → TooDeepAt R signs limit ts i
  too_deep ts i (Done y []) e h = cc
  too_deep ts i (Done y (t ∷ rest)) e h = cc
  too_deep ts i (Unexpected rest) e h = cc
  too_deep ts i (TooDeep rest) e h = let same : length ts - length rest ≡ i = cc in subst (λ v. TooDeepAt R signs limit ts v) same (read_deep ts rest e)

  only_deep : (ts : List T) (i : ℕ) → TooDeepAt R signs limit ts i → answer ts (whole p ts) ≡ DeepToken i
  only_deep ts i (row, m, tail, rest, x, e, is, r, s, lt, fits) =
      ap (λ o. answer ts (ended o)) (ap p e ∙ g.deep x row m tail rest r s lt fits) ∙ ap (λ k. DeepToken k) (place (tokens row) (m.token ∷ rest) ts e ∙ sym is)

  -- the answers exclude each other, so that the first unexpected token is told where none nests too deep before it
  no_tree : (ts : List T) (i : ℕ) → UnexpectedAt R ts i → (x : A) → SpelledWithin R limit x ts → ⊥
  no_tree ts i (first, [], e, is, begins, stuck) x (row, r, s, spelled) = stuck x (row, r, spelled ∙ e ∙ append_nil first)
  no_tree ts i (first, t ∷ rest, e, is, begins, stuck) x (row, r, s, spelled) =
      let le = not_past R first (t ∷ rest) ts [] (sym e ∙ sym (append_nil ts)) stuck ([], x, (row, r, spelled ∙ sym (append_nil ts))) in
      omega (arith, le, ap length e, length-append first (t ∷ rest))

  deep_first : (ts : List T) (i j : ℕ) → UnexpectedAt R ts i → TooDeepAt R signs limit ts j → j < i
  deep_first ts i j (first, rest, e, is, begins, stuck) (row, m, tail, after, x, at, place_is, r, s, lt, fits) =
      let up_to : tokens row ++ m.token ∷ after ≡ (tokens row ++ m.token ∷ []) ++ after = sym (append_assoc (tokens row) (m.token ∷ []) after) in
      let goes : tokens (row ++ m ∷ tail) ≡ (tokens row ++ m.token ∷ []) ++ tokens tail = tokens_append row (m ∷ tail) ∙ sym (append_assoc (tokens row) (m.token ∷ []) (tokens tail)) in
      let le = not_past R first rest (tokens row ++ m.token ∷ []) after (sym e ∙ at ∙ up_to) stuck (tokens tail, x, (row ++ m ∷ tail, r, goes)) in
      omega (arith, le, is, place_is, length-append (tokens row) (m.token ∷ []))

  only_unexpected : (ts : List T) (i : ℕ) (o : Outcome T A) → p ts ≡ o → UnexpectedAt R ts i → ((j : ℕ) → j < i → TooDeepAt R signs limit ts j → ⊥) → answer ts (ended o) ≡ UnexpectedToken i
  only_unexpected ts i (Done y []) e at none = absurd (no_tree ts i at y (read_done y ts e))
  only_unexpected ts i (Done y (t ∷ rest)) e at none = ap (λ k. UnexpectedToken k) (one_place R ts (length ts - length (t ∷ rest)) i (read_trailing y t ts rest e) at)
  only_unexpected ts i (Unexpected rest) e at none = ap (λ k. UnexpectedToken k) (one_place R ts (length ts - length rest) i (read_unexpected ts rest e) at)
  only_unexpected ts i (TooDeep rest) e at none =
      let deep = read_deep ts rest e in
      absurd (none (length ts - length rest) (deep_first ts i (length ts - length rest) at deep) deep)

  pub exact : Exact signs limit R (λ ts. answer ts (whole p ts))
  exact = record {
    found = λ ts x h. found ts x (p ts) refl h;
    only = only;
    unexpected = λ ts i h. unexpected ts i (p ts) refl h;
    only_unexpected = λ ts i at none. only_unexpected ts i (p ts) refl at none;
    too_deep = λ ts i h. too_deep ts i (p ts) refl h;
    only_deep = only_deep;
  }

  -- ---- for the code: what is left is no longer than what was given

  is_within : (ts : List T) (o : Outcome T A) → p ts ≡ o → length (left o) ≤ length ts
  is_within ts (Done x rest) h = let d = g.done ts x rest h in omega (arith, ap length d.3, length-append (tokens d.0) rest)
  is_within ts (Unexpected rest) h = let d = g.unexpected ts rest h in omega (arith, ap length d.5, length-append (tokens d.0) rest)
  is_within ts (TooDeep rest) h = let d = g.too_deep ts rest h in omega (arith, ap length d.9, length-append (tokens d.0) rest)

  pub left_within : (ts rest : List T) → left (p ts) ≡ rest → length rest ≤ length ts
  left_within ts rest h = omega (arith, is_within ts (p ts) refl, ap length h)

  ended_left : (o : Outcome T A) → left (ended o) ≡ left o
  ended_left (Done x []) = refl
  ended_left (Done x (t ∷ rest)) = refl
  ended_left (Unexpected rest) = refl
  ended_left (TooDeep rest) = refl

  pub whole_within : (ts rest : List T) → left (whole p ts) ≡ rest → length rest ≤ length ts
  whole_within ts rest h = left_within ts rest (sym (ended_left (p ts)) ∙ h)

-- One value at most, whatever the nesting, where the texts within each limit are parsed exactly.
pub one_value : {T A : Type 0} {signs : Signs T} (R : Language T A) (parse : ℕ → List T → Answer A) → ((limit : ℕ) → Exact signs limit R (parse limit))
    → (x y : A) (ts : List T) → Spelled R x ts → Spelled R y ts → x ≡ y
one_value R parse exact_at x y ts (f, rf, ef) (g, rg, eg) =
    let a = deepest f in
    let b = deepest g in
    let limit = a.0 + b.0 in
    let one = (exact_at limit).only ts x (f, rf, widen f a.0 limit (omega arith) a.1, ef) in
    let two = (exact_at limit).only ts y (g, rg, widen g b.0 limit (omega arith) b.1, eg) in
    cc
