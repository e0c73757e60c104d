-- A choice by the first token.
use Rattle.std.proofs.Common.{◌≡◌, ℕ, Bool, true, false, List, [], ◌∷◌, ◌++◌, inl, inr, refl, sym, ap, ◌∙◌, subst, cond, Option, Some, None}
use Rattle.reading.specs.Row.{Entry, Row, Signs, tokens, starts}
use Rattle.reading.specs.Language.{Language, Either, Headed}
use Rattle.reading.specs.Reader.{Done, Unexpected, TooDeep, Reader, choose, head_of, headed, dispatch}
use Rattle.reading.specs.Good.{Good, Passed, ReadFrom, StopsAt, DeepAt}
use Rattle.reading.proofs.Passing.{still_stops}
use Rattle.reading.proofs.Starts.{StartsWith, StartsWithout, starts_apart}

module _ {T A : Type 0} {signs : Signs T} (limit : ℕ) (c test : T → Bool) (P Q : Language T A) (p q : Reader T A) (gp : Good signs limit c P p) (gq : Good signs limit c Q q)
    (first : (a : A) (m : Entry T) (row : Row T) → P a (m ∷ row) → test m.token ≡ true) (nonempty : (a : A) → P a [] → ⊥)
    (other : (a : A) (m : Entry T) (row : Row T) → Q a (m ∷ row) → test m.token ≡ false)
    (empty : (a : A) → Q a [] → (t : T) → test t ≡ true → c t ≡ true) where
  one_of : (ts : List T) (b : Bool) → starts test ts ≡ b → (choose test p q ts ≡ cond b (p ts) (q ts))
  one_of ts b e = ap (λ x. cond x (p ts) (q ts)) e

  choose_done : (ts : List T) (a : A) (rest : List T) (b : Bool) → cond b (p ts) (q ts) ≡ Done a rest → ReadFrom limit (Either P Q) ts a rest
  choose_done ts a rest true h = let d = gp.done ts a rest h in (d.0, inl d.1, d.2, d.3)
  choose_done ts a rest false h = let d = gq.done ts a rest h in (d.0, inr d.1, d.2, d.3)

  choose_unexpected : (ts rest : List T) (b : Bool) → cond b (p ts) (q ts) ≡ Unexpected rest → StopsAt limit (Either P Q) ts rest
  choose_unexpected ts rest true h = let d = gp.unexpected ts rest h in (d.0, d.1, d.2, inl d.3, d.4, d.5)
  choose_unexpected ts rest false h = let d = gq.unexpected ts rest h in (d.0, d.1, d.2, inr d.3, d.4, d.5)

  choose_too_deep : (ts rest : List T) (b : Bool) → cond b (p ts) (q ts) ≡ TooDeep rest → DeepAt signs limit (Either P Q) ts rest
  choose_too_deep ts rest true h = let d = gp.too_deep ts rest h in (d.0, d.1, d.2, d.3, d.4, inl d.5, d.6, d.7, d.8, d.9, d.10)
  choose_too_deep ts rest false h = let d = gq.too_deep ts rest h in (d.0, d.1, d.2, d.3, d.4, inr d.5, d.6, d.7, d.8, d.9, d.10)

  at_first : (a : A) (row : Row T) (rest : List T) → P a row → starts test (tokens row ++ rest) ≡ true
  at_first a [] rest r = absurd (nonempty a r)
  at_first a (m ∷ row) rest r = first a m row r

  at_other : (a : A) (row : Row T) (rest : List T) → Q a row → starts c rest ≡ false → starts test (tokens row ++ rest) ≡ false
  at_other a [] rest r stop = still_stops test c (empty a r) rest stop
  at_other a (m ∷ row) rest r stop = other a m row r

  at_first_deep : (a : A) (row : Row T) (m : Entry T) (tail : Row T) (rest : List T) → P a (row ++ m ∷ tail) → starts test (tokens row ++ m.token ∷ rest) ≡ true
  at_first_deep a [] m tail rest r = first a m tail r
  at_first_deep a (n ∷ row) m tail rest r = first a n (row ++ m ∷ tail) r

  at_other_deep : (a : A) (row : Row T) (m : Entry T) (tail : Row T) (rest : List T) → Q a (row ++ m ∷ tail) → starts test (tokens row ++ m.token ∷ rest) ≡ false
  at_other_deep a [] m tail rest r = other a m tail r
  at_other_deep a (n ∷ row) m tail rest r = other a n (row ++ m ∷ tail) r

  choose_all : Good signs limit c (Either P Q) (choose test p q)
  choose_all = record {
    example = (gp.example.0, gp.example.1, inl gp.example.2);
    done = λ ts a rest h. choose_done ts a rest (starts test ts) h;
    unexpected = λ ts rest h. choose_unexpected ts rest (starts test ts) h;
    too_deep = λ ts rest h. choose_too_deep ts rest (starts test ts) h;
    complete = λ a row rest r s stop. elim r [
      | inl w ↦ one_of (tokens row ++ rest) true (at_first a row rest w) ∙ gp.complete a row rest w s stop
      | inr w ↦ one_of (tokens row ++ rest) false (at_other a row rest w stop) ∙ gq.complete a row rest w s stop
    ];
    passes = λ a row m tail rest r s. elim r [
      | inl w ↦ subst (Passed rest) (sym (one_of (tokens row ++ m.token ∷ rest) true (at_first_deep a row m tail rest w))) (gp.passes a row m tail rest w s)
      | inr w ↦ subst (Passed rest) (sym (one_of (tokens row ++ m.token ∷ rest) false (at_other_deep a row m tail rest w))) (gq.passes a row m tail rest w s)
    ];
    deep = λ a row m tail rest r s lt fits. elim r [
      | inl w ↦ one_of (tokens row ++ m.token ∷ rest) true (at_first_deep a row m tail rest w) ∙ gp.deep a row m tail rest w s lt fits
      | inr w ↦ one_of (tokens row ++ m.token ∷ rest) false (at_other_deep a row m tail rest w) ∙ gq.deep a row m tail rest w s lt fits
    ];
    ends = λ a row m r lt. elim r [ inl w ↦ gp.ends a row m w lt | inr w ↦ gq.ends a row m w lt ];
  }

-- where the second rule has nothing, a token of the test would go on
pub good_choose : {T A : Type 0} {signs : Signs T} {limit : ℕ} {c test : T → Bool} {P Q : Language T A} {p q : Reader T A} → Good signs limit c P p → Good signs limit c Q q
    → StartsWith test P → StartsWithout test Q → ((a : A) → Q a [] → (t : T) → test t ≡ true → c t ≡ true) → Good signs limit c (Either P Q) (choose test p q)
good_choose {limit} {c} {test} {P} {Q} {p} {q} gp gq s n empty = choose_all limit c test P Q p q gp gq s.first s.nonempty n.first empty

-- of two rules that begin with different tokens
pub good_choice : {T A : Type 0} {signs : Signs T} {limit : ℕ} {c : T → Bool} {P Q : Language T A} {p q : Reader T A} (one other : T → Bool) → ((t : T) → other t ≡ true → one t ≡ false)
    → Good signs limit c P p → StartsWith one P → Good signs limit c Q q → StartsWith other Q → Good signs limit c (Either P Q) (choose one p q)
good_choice one other apart g s h n = good_choose g h s (starts_apart one apart n) (λ a r. absurd (n.nonempty a r))

-- ---- by the head of the first token

-- each rule begins with its own head
pub record Heads {T A H : Type 0} (head : T → Option H) (R : H → Language T A) : Type 0 where
  pub first : (h : H) (a : A) (m : Entry T) (row : Row T) → R h a (m ∷ row) → head m.token ≡ Some h
  pub nonempty : (h : H) (a : A) → R h a [] → ⊥

-- this one begins with none, and where it has nothing, a head would go on
pub record Headless {T A H : Type 0} (c : T → Bool) (head : T → Option H) (R : Language T A) : Type 0 where
  pub first : (a : A) (m : Entry T) (row : Row T) → R a (m ∷ row) → head m.token ≡ None
  pub empty : (a : A) → R a [] → (t : T) (h : H) → head t ≡ Some h → c t ≡ true

module _ {T A H : Type 0} {signs : Signs T} (limit : ℕ) (c : T → Bool) (head : T → Option H) (R : H → Language T A) (Other : Language T A)
    (rules : H → Reader T A) (other : Reader T A) (good : (h : H) → Good signs limit c (R h) (rules h)) (good_other : Good signs limit c Other other)
    (heads : Heads head R) (headless : Headless c head Other) where
  at_head : (ts : List T) (o : Option H) → head_of head ts ≡ o → dispatch head rules other ts ≡ headed o rules other ts
  at_head ts o e = ap (λ x. headed x rules other ts) e

  headed_done : (ts : List T) (a : A) (rest : List T) (o : Option H) → headed o rules other ts ≡ Done a rest → ReadFrom limit (Headed R Other) ts a rest
  headed_done ts a rest (Some h) e = let d = (good h).done ts a rest e in (d.0, inl (h, d.1), d.2, d.3)
  headed_done ts a rest None e = let d = good_other.done ts a rest e in (d.0, inr d.1, d.2, d.3)

  headed_unexpected : (ts rest : List T) (o : Option H) → headed o rules other ts ≡ Unexpected rest → StopsAt limit (Headed R Other) ts rest
  headed_unexpected ts rest (Some h) e = let d = (good h).unexpected ts rest e in (d.0, d.1, d.2, inl (h, d.3), d.4, d.5)
  headed_unexpected ts rest None e = let d = good_other.unexpected ts rest e in (d.0, d.1, d.2, inr d.3, d.4, d.5)

  headed_too_deep : (ts rest : List T) (o : Option H) → headed o rules other ts ≡ TooDeep rest → DeepAt signs limit (Headed R Other) ts rest
  headed_too_deep ts rest (Some h) e = let d = (good h).too_deep ts rest e in (d.0, d.1, d.2, d.3, d.4, inl (h, d.5), d.6, d.7, d.8, d.9, d.10)
  headed_too_deep ts rest None e = let d = good_other.too_deep ts rest e in (d.0, d.1, d.2, d.3, d.4, inr d.5, d.6, d.7, d.8, d.9, d.10)

  head_is : (h : H) (a : A) (row : Row T) (rest : List T) → R h a row → head_of head (tokens row ++ rest) ≡ Some h
  head_is h a [] rest r = absurd (heads.nonempty h a r)
  head_is h a (m ∷ row) rest r = heads.first h a m row r

  no_head_at : (rest : List T) → ((t : T) (h : H) → head t ≡ Some h → c t ≡ true) → starts c rest ≡ false → head_of head rest ≡ None
  no_head_at [] goes stop = refl
  no_head_at (t ∷ rest) goes stop = at (head t) refl
    where
      at : (o : Option H) → head t ≡ o → head t ≡ None
      at (Some h) is = let bad : c t ≡ true = goes t h is in cc
      at None is = is

  no_head : (a : A) (row : Row T) (rest : List T) → Other a row → starts c rest ≡ false → head_of head (tokens row ++ rest) ≡ None
  no_head a [] rest r stop = no_head_at rest (headless.empty a r) stop
  no_head a (m ∷ row) rest r stop = headless.first a m row r

  head_in : (h : H) (a : A) (row : Row T) (m : Entry T) (tail : Row T) (rest : List T) → R h a (row ++ m ∷ tail) → head_of head (tokens row ++ m.token ∷ rest) ≡ Some h
  head_in h a [] m tail rest r = heads.first h a m tail r
  head_in h a (n ∷ row) m tail rest r = heads.first h a n (row ++ m ∷ tail) r

  no_head_in : (a : A) (row : Row T) (m : Entry T) (tail : Row T) (rest : List T) → Other a (row ++ m ∷ tail) → head_of head (tokens row ++ m.token ∷ rest) ≡ None
  no_head_in a [] m tail rest r = headless.first a m tail r
  no_head_in a (n ∷ row) m tail rest r = headless.first a n (row ++ m ∷ tail) r

  pub dispatch_all : Good signs limit c (Headed R Other) (dispatch head rules other)
  dispatch_all = record {
    example = (good_other.example.0, good_other.example.1, inr good_other.example.2);
    done = λ ts a rest e. headed_done ts a rest (head_of head ts) e;
    unexpected = λ ts rest e. headed_unexpected ts rest (head_of head ts) e;
    too_deep = λ ts rest e. headed_too_deep ts rest (head_of head ts) e;
    complete = λ a row rest r s stop. elim r [
      | inl (h, w) ↦ at_head (tokens row ++ rest) (Some h) (head_is h a row rest w) ∙ (good h).complete a row rest w s stop
      | inr w ↦ at_head (tokens row ++ rest) None (no_head a row rest w stop) ∙ good_other.complete a row rest w s stop
    ];
    passes = λ a row m tail rest r s. elim r [
      | inl (h, w) ↦ subst (Passed rest) (sym (at_head (tokens row ++ m.token ∷ rest) (Some h) (head_in h a row m tail rest w))) ((good h).passes a row m tail rest w s)
      | inr w ↦ subst (Passed rest) (sym (at_head (tokens row ++ m.token ∷ rest) None (no_head_in a row m tail rest w))) (good_other.passes a row m tail rest w s)
    ];
    deep = λ a row m tail rest r s lt fits. elim r [
      | inl (h, w) ↦ at_head (tokens row ++ m.token ∷ rest) (Some h) (head_in h a row m tail rest w) ∙ (good h).deep a row m tail rest w s lt fits
      | inr w ↦ at_head (tokens row ++ m.token ∷ rest) None (no_head_in a row m tail rest w) ∙ good_other.deep a row m tail rest w s lt fits
    ];
    ends = λ a row m r lt. elim r [ inl (h, w) ↦ (good h).ends a row m w lt | inr w ↦ good_other.ends a row m w lt ];
  }

-- many rules with one lemma, and not one for each two heads
pub good_dispatch : {T A H : Type 0} {signs : Signs T} {limit : ℕ} {c : T → Bool} {head : T → Option H} {R : H → Language T A} {Other : Language T A} {rules : H → Reader T A} {other : Reader T A}
    → ((h : H) → Good signs limit c (R h) (rules h)) → Good signs limit c Other other → Heads head R → Headless c head Other → Good signs limit c (Headed R Other) (dispatch head rules other)
good_dispatch {limit} {c} {head} {R} {Other} {rules} {other} good good_other heads headless = dispatch_all limit c head R Other rules other good good_other heads headless
