-- A prefix operator that is a sign before a number: one level deeper with its operand, and TooDeep where none may nest.
use Rattle.std.proofs.Common.{◌≡◌, ℕ, suc, ◌≤◌, ◌<◌, Bool, true, false, not, List, [], ◌∷◌, ◌++◌, refl, sym, ap, ◌∙◌, subst, arith, cond, Option, Some}
use Rattle.reading.specs.Row.{Entry, Row, Signs, tokens, Shallow, starts, Fits}
use Rattle.reading.specs.Language.{Language, Terminal, Spanned, After, Either, Prefixed}
use Rattle.reading.specs.Reader.{Outcome, Done, Unexpected, TooDeep, Reader, accept, after, spanned, sign_first, prefixed, choose_sign}
use Rattle.reading.specs.Good.{Good, Passed, ReadFrom, StopsAt, DeepAt}
use Rattle.reading.proofs.Plain.{Plain, prefixed_ends}
use Rattle.reading.proofs.Tokens.{good_accept}
use Rattle.reading.proofs.Sequence.{good_after}
use Rattle.reading.proofs.Spans.{good_spanned}
use Rattle.reading.proofs.Nesting.{Within, barred_within, read_within}
use Rattle.reading.proofs.SignChoice.{GoodAtSign, Operators, Others, sign_flag, good_sign_choice}

operators : {T A B : Type 0} (signs : Signs T) (d : ℕ) (f : A → List T → B) (Q : Language T A) → Operators signs (Prefixed signs d f Q)
operators signs d f Q = record { shape = λ b row (x, m, n, g, e, at, is, isnt, q, v). (m, n, g, e, is, isnt) }

flag_of : {T : Type 0} (signs : Signs T) (t : T) (ts : List T) (b : Bool) → signs.sign t ≡ b → sign_first signs (t ∷ ts) ≡ true → b ≡ true
flag_of signs t ts true e h = refl
flag_of signs t ts false e h = sym (ap (λ y. cond y (not (starts signs.number ts)) false) e) ∙ h

flag_after : {T : Type 0} (signs : Signs T) (t : T) (ts : List T) (b : Bool) → starts signs.number ts ≡ b → signs.sign t ≡ true → sign_first signs (t ∷ ts) ≡ true → b ≡ false
flag_after signs t ts false e is h = refl
flag_after signs t ts true e is h = let isnt : false ≡ true = sym (sign_flag signs t ts true true is e) ∙ h in cc

-- what a sign with no number behind it tells
sign_there : {T : Type 0} (signs : Signs T) (t : T) (ts : List T) → sign_first signs (t ∷ ts) ≡ true → (signs.sign t ≡ true) × (starts signs.number ts ≡ false)
sign_there signs t ts h =
    let is = flag_of signs t ts (signs.sign t) refl h in
    (is, flag_after signs t ts (starts signs.number ts) refl is h)

module _ {T A B : Type 0} (signs : Signs T) (limit d : ℕ) (f : A → List T → B) (Q : Language T A) (example : (x : A) × (n : Entry T) × (g : Row T) × Q x (n ∷ g) × (signs.number n.token ≡ false)) where
  sample : (t : T) → signs.sign t ≡ true → (b : B) × (m : Entry T) × (tail : Row T) × Prefixed signs d f Q b (m ∷ tail) × (m.token ≡ t) × (starts signs.number (tokens tail) ≡ false)
  sample t is =
      let m : Entry T = record { token = t; depth = suc d } in
      let (x, n, g, q, isnt) = example in
      (f x (tokens (m ∷ n ∷ g)), m, n ∷ g, (x, m, n, g, refl, refl, is, isnt, q, refl), refl, isnt)

  -- where nothing may nest deeper
  module _ (c : T → Bool) (deeper : limit < suc d) (plain : Plain signs Q) where
    barred_too_deep : (ts rest : List T) → sign_first signs ts ≡ true → ◌≡◌ {A = Outcome T B} (TooDeep ts) (TooDeep rest) → DeepAt signs limit (Prefixed signs d f Q) ts rest
    unfolding sample
    barred_too_deep [] rest e h = cc
    barred_too_deep (t ∷ ts) rest e h =
        let w = sign_there signs t ts e in
        let x = sample t w.0 in
        let same : t ∷ ts ≡ rest = cc in
        let deep : suc d ≡ x.1.depth = refl in
        ([], x.1, x.2, ts, x.0, x.3, tt, omega arith, sym same, same, λ is. x.5 ∙ sym w.1)

    barred_deep : (b : B) (row : Row T) (m : Entry T) (tail : Row T) (rest : List T) → Prefixed signs d f Q b (row ++ m ∷ tail) → Shallow limit row → tokens row ++ m.token ∷ rest ≡ m.token ∷ rest
    barred_deep b [] m tail rest r s = refl
    barred_deep b (y ∷ row) m tail rest (x, k, n, g, e, at, is, isnt, q, v) s =
        absurd (let same : y ≡ k = cc in let depths : y.depth ≡ k.depth = ap (λ z. z.depth) same in omega (arith, s.0))

    barred_complete : (b : B) (row : Row T) → Prefixed signs d f Q b row → Shallow limit row → ⊥
    barred_complete b [] (x, k, n, g, e, at, is, isnt, q, v) s = cc
    barred_complete b (y ∷ row) (x, k, n, g, e, at, is, isnt, q, v) s = let same : y ≡ k = cc in let depths : y.depth ≡ k.depth = ap (λ z. z.depth) same in omega (arith, s.0)

    pub prefix_barred : GoodAtSign signs limit c (Prefixed signs d f Q) (λ ts. TooDeep ts)
    prefix_barred = record {
      done = λ ts b rest e h. absurd cc;
      unexpected = λ ts rest e h. absurd cc;
      too_deep = barred_too_deep;
      complete = λ b row rest r s stop. absurd (barred_complete b row r s);
      passes = λ b row m tail rest r s e. tt;
      passes_first = λ t rest e. tt;
      deep = λ b row m tail rest r s lt fits e. ap TooDeep (barred_deep b row m tail rest r s);
      ends = λ b row m r lt. prefixed_ends signs d f Q plain b row m r;
    }

  -- where one level more may nest: over a rule of the operator and any operand, a number too
  module _ (c : T → Bool) (fits_in : suc d ≤ limit) (p : Reader T B) (Loose : Language T B) (gp : Good signs limit c Loose p)
      (to : (b : B) (row : Row T) → Prefixed signs d f Q b row → Loose b row)
      (from : (b : B) (row : Row T) → Loose b row → (x : A) × (m : Entry T) × (n : Entry T) × (g : Row T) × (row ≡ m ∷ n ∷ g) × (m.depth ≡ suc d) × (signs.sign m.token ≡ true)
      × Q x (n ∷ g) × (b ≡ f x (tokens row))) where
    -- a row whose second token is no number
    told : (b : B) (m n : Entry T) (g : Row T) → Loose b (m ∷ n ∷ g) → signs.number n.token ≡ false → Prefixed signs d f Q b (m ∷ n ∷ g)
    told b m n g r isnt =
        let w = from b (m ∷ n ∷ g) r in
        let e = w.4 in
        let second : n ≡ w.2 = cc in
        (w.0, w.1, w.2, w.3, e, w.5, w.6, ap (λ y. signs.number y.token) (sym second) ∙ isnt, w.7, w.8)

    second_of : (t : T) (x y : Entry T) (row : Row T) (ts rest : List T) → sign_first signs ts ≡ true → ts ≡ tokens (x ∷ y ∷ row) ++ rest → signs.number y.token ≡ false
    second_of t x y row ts rest e h = (sign_there signs x.token (y.token ∷ (tokens row ++ rest)) (ap (sign_first signs) (sym h) ∙ e)).1

    read_done : (ts : List T) (b : B) (rest : List T) → sign_first signs ts ≡ true → p ts ≡ Done b rest → ReadFrom limit (Prefixed signs d f Q) ts b rest
    read_done ts b rest e h = let w = gp.done ts b rest h in go w.0 w.1 w.2 w.3
      where
        go : (row : Row T) → Loose b row → Shallow limit row → ts ≡ tokens row ++ rest → ReadFrom limit (Prefixed signs d f Q) ts b rest
        go [] r sh is = absurd (let w = from b [] r in let none = w.4 in cc)
        go (x ∷ []) r sh is = absurd (let w = from b (x ∷ []) r in let single = w.4 in cc)
        go (x ∷ y ∷ row) r sh is = (x ∷ y ∷ row, told b x y row r (second_of x.token x y row ts rest e is), sh, is)

    read_unexpected : (ts rest : List T) → sign_first signs ts ≡ true → p ts ≡ Unexpected rest → StopsAt limit (Prefixed signs d f Q) ts rest
    unfolding sample
    read_unexpected [] rest e h = cc
    read_unexpected (t ∷ us) rest e h = let w = gp.unexpected (t ∷ us) rest h in go w.0 w.1 w.2 w.3 w.4 w.5
      where
        go : (row tail : Row T) (b : B) → Loose b (row ++ tail) → Shallow limit row → t ∷ us ≡ tokens row ++ rest → StopsAt limit (Prefixed signs d f Q) (t ∷ us) rest
        go [] tail b r sh is = let x = sample t ((sign_there signs t us e).0) in ([], x.1 ∷ x.2, x.0, x.3, tt, is)
        go (y ∷ []) tail b r sh is =
            let x = sample t ((sign_there signs t us e).0) in
            let same : t ∷ us ≡ y.token ∷ rest = is in
            let head : t ≡ y.token = cc in
            let depth_is : x.1.depth ≡ suc d = refl in
            (x.1 ∷ [], x.2, x.0, x.3, (omega arith, tt), is ∙ ap (λ z. z ∷ rest) (sym head ∙ sym x.4))
        go (y ∷ z ∷ row) tail b r sh is = (y ∷ z ∷ row, tail, b, told b y z (row ++ tail) r (second_of t y z row (t ∷ us) rest e is), sh, is)

    read_too_deep : (ts rest : List T) → sign_first signs ts ≡ true → p ts ≡ TooDeep rest → DeepAt signs limit (Prefixed signs d f Q) ts rest
    read_too_deep ts rest e h = let w = gp.too_deep ts rest h in go w.0 w.1 w.2 w.3 w.4 w.5 w.6 w.7 w.8 w.9 w.10
      where
        go : (row : Row T) (m : Entry T) (tail : Row T) (after : List T) (b : B) → Loose b (row ++ m ∷ tail) → Shallow limit row → limit < m.depth → rest ≡ m.token ∷ after
            → ts ≡ tokens row ++ rest → Fits signs m tail after → DeepAt signs limit (Prefixed signs d f Q) ts rest
        go [] m tail after b r sh lt at is fit =
            absurd (let w = from b (m ∷ tail) r in let e2 = w.4 in let same : m ≡ w.1 = cc in let deep : m.depth ≡ suc d = ap (λ z. z.depth) same ∙ w.5 in omega arith)
        go (x ∷ []) m tail after b r sh lt at is fit =
            (x ∷ [], m, tail, after, b, told b x m tail r (second_of x.token x m [] ts after e (is ∙ ap (λ z. x.token ∷ z) at)), sh, lt, at, is, fit)
        go (x ∷ y ∷ row) m tail after b r sh lt at is fit =
            (x ∷ y ∷ row, m, tail, after, b, told b x y (row ++ m ∷ tail) r (second_of x.token x y row ts rest e is), sh, lt, at, is, fit)

    pub prefix_reads : GoodAtSign signs limit c (Prefixed signs d f Q) p
    prefix_reads = record {
      done = read_done;
      unexpected = read_unexpected;
      too_deep = read_too_deep;
      complete = λ b row rest r s stop. gp.complete b row rest (to b row r) s stop;
      passes = λ b row m tail rest r s e. gp.passes b row m tail rest (to b (row ++ m ∷ tail) r) s;
      passes_first = λ t rest e.
          let x = sample t ((sign_there signs t rest e).0) in
          subst (λ u. Passed rest (p (u ∷ rest))) x.4 (gp.passes x.0 [] x.1 x.2 rest (to x.0 (x.1 ∷ x.2) x.3) tt);
      deep = λ b row m tail rest r s lt fits e. gp.deep b row m tail rest (to b (row ++ m ∷ tail) r) s lt fits;
      ends = λ b row m r lt. gp.ends b row m (to b (row ++ m ∷ []) r) lt;
    }

-- the operator and any operand, as they are read
abbrev Loose : {T A B O : Type 0} → ℕ → (T → Option O) → (A → List T → B) → Language T A → Language T B
Loose d select f Q = Spanned f (After (Terminal (suc d) select) Q)

module _ {T A B O : Type 0} (signs : Signs T) (d : ℕ) (select : T → Option O) (f : A → List T → B) (Q : Language T A) where
  to_loose : ((t : T) → signs.sign t ≡ true → (o : O) × (select t ≡ Some o)) → (b : B) (row : Row T) → Prefixed signs d f Q b row → Loose d select f Q b row
  to_loose picks b row (x, m, n, g, e, at, is, isnt, q, v) = let w = picks m.token is in (x, (w.0, m ∷ [], n ∷ g, e, (m, refl, at, w.1), q), v)

  from_loose : ((t : T) (o : O) → select t ≡ Some o → signs.sign t ≡ true) → ((x : A) → Q x [] → ⊥) → (b : B) (row : Row T) → Loose d select f Q b row
      → (x : A) × (m : Entry T) × (n : Entry T) × (g : Row T) × (row ≡ m ∷ n ∷ g) × (m.depth ≡ suc d) × (signs.sign m.token ≡ true) × Q x (n ∷ g) × (b ≡ f x (tokens row))
  from_loose is_sign nonempty b row (x, (o, h, [], e, t, q), v) = absurd (nonempty x q)
  from_loose is_sign nonempty b row (x, (o, h, n ∷ g, e, (m, one, at, sel), q), v) = (x, m, n, g, e ∙ ap (λ y. y ++ n ∷ g) one, at, is_sign m.token o sel, q, v)

-- The operand is never empty, one begins with no number, and none ends in a sign. What stands where the operator may
-- stand can begin with any sign, as a number does.
pub good_prefixed : {T A B O : Type 0} {signs : Signs T} {limit d : ℕ} {c : T → Bool} {Q : Language T A} {S : Language T B} {inner : Option (Reader T A)} {s : Reader T B} (select : T → Option O) (f : A → List T → B)
    → ((t : T) (o : O) → select t ≡ Some o → signs.sign t ≡ true) → ((t : T) → signs.sign t ≡ true → (o : O) × (select t ≡ Some o)) → (t : T) × (signs.sign t ≡ true)
    → ((x : A) → Q x [] → ⊥) → (x : A) × (n : Entry T) × (g : Row T) × Q x (n ∷ g) × (signs.number n.token ≡ false) → Plain signs Q
    → Within signs limit d c Q inner → Good signs limit c S s → Others signs limit S
    → Good signs limit c (Either (Prefixed signs d f Q) S) (choose_sign signs (prefixed select f inner) s)
good_prefixed {signs} {limit} {d} {c} {Q} select f is_sign picks some_sign nonempty example plain (barred_within deeper) good others =
    good_sign_choice (prefix_barred signs limit d f Q example c deeper plain) good (operators signs d f Q) others
good_prefixed {signs} {limit} {d} {c} {Q} select f is_sign picks some_sign nonempty example plain (read_within {p} within operand) good others =
    let w = picks some_sign.0 some_sign.1 in
    good_sign_choice (prefix_reads signs limit d f Q example c within (spanned f (after (accept select) p)) (Loose d select f Q)
    (good_spanned f (good_after (good_accept select within w.0 some_sign.0 w.1) operand))
    (to_loose signs d select f Q picks) (from_loose signs d select f Q is_sign nonempty)) good (operators signs d f Q) others
