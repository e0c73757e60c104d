-- Forms that answer a number: the tests of their checks stop where the source stops, and otherwise pay for the form's step.
use Rattle.std.proofs.Common.{◌≡◌, ℕ, zero, suc, ◌+◌, ◌^◌, ◌<◌, ◌≤◌, ℤ, Bool, true, false, List, [], ◌∷◌, ◌++◌, length, Option, Ok, Err, refl, sym, ◌∙◌, ap, subst, arith}
use Rattle.std.specs.Prelude.{if◌then◌else◌, not, ◌||◌, IsTrue}
use Rattle.std.specs.List.{list_any}
use Rattle.std.proofs.lemmas.List.Elements.{All-head, All-tail}
use Rattle.step_semantics.specs.Control.{Control}
use Rattle.step_semantics.specs.Follows.{Follows, Ends, Owed}
use Rattle.step_semantics.specs.Steps.{World, Progress, Halted, Exhausted, FailedCheck, Part, bind, tick, ticks, give, halt, after}
use Rattle.step_semantics.specs.Takes.{Reaches}
use Rattle.step_semantics.proofs.Paying.{pays_to, reaches_more}
use Rattle.step_semantics.proofs.Following.{eased}
use Rattle.core_tree.specs.Syntax.{Label}
use Rattle.core_tree.specs.declared.Check.{Check}
use Rattle.core_tree.specs.declared.SiteKind.{SiteKind}
use Rattle.core_meaning.specs.Checks.{Answer, same_kind, holds, tests_of, covered, passes, formless, answered, answering}
use Rattle.core_meaning.specs.State as source
use Rattle.core_meaning.specs.State.{State}
use Rattle.core_meaning.specs.Values.{Value, Num}
use Rattle.c_ast.specs.Syntax.{Expr, Stmt}
use Rattle.c_meaning.specs.State as target
use Rattle.c_meaning.specs.State.{CState}
use Rattle.c_meaning.specs.Values.{CValue}
use Rattle.area_objects.specs.Both.{Map}
use Rattle.area_objects.proofs.Outside.{areas_seen}
use Rattle.lower_values.specs.Pieces.{pad}
use Rattle.lower_values.specs.Tests.{test_for, test, tests, are_none}
use Rattle.form_answers.specs.Answering.{GuardTells, GuardsTell}
use Rattle.value_refinement.specs.Laws.{Numbered, owing, running}
use Rattle.value_refinement.specs.Related.{Related}
use Rattle.value_refinement.specs.Settings.{Setting, Set}
use Rattle.form_answers.specs.Standing.{TestIs}
use Rattle.value_refinement.proofs.Running.{runs_first, takes_pad, takes_test, stops_test, test_waits}

-- ---- areas are seen alike

pub areas_alike : (g : Setting) → Set g → (objects : Map) (s : State) (u : CState) → Related g objects s u → target.seen g.program u ≡ source.seen g.frame.core s
areas_alike g set objects s u related = areas_seen g.program g.naming g.frame.core objects s u related.both set.areas related.own

-- ---- tests

module _ (g : Setting) (guard : SiteKind → Expr) (is_settled : SiteKind → Bool) (u : CState) (w : World) where
  abbrev tests_on : List Check → List Stmt
  tests_on cs = tests g.frame guard is_settled cs

  no_steps : (f : ℕ → Progress CState (Control (Option CValue))) → Reaches 0 w f f
  no_steps f = record { waits = λ j lt. absurd (omega (arith, lt)); comes = λ j. let e : 0 + j ≡ j = omega arith in ap f e }

  one_more : (d : ℕ) (f h i : ℕ → Progress CState (Control (Option CValue))) → Reaches 1 w f h → Reaches d w h i → Reaches (suc d) w f i
  one_more d f h i first next = let e : 1 + d ≡ suc d = omega arith in subst (λ c. Reaches c w f i) e (reaches_more 1 d w f h i first next)

  one_test : (c : Check) → TestIs g.program u (guard c.kind) true → (skipped : Bool) → (rest : List Stmt) → Reaches 1 w (λ j. running g ((if skipped then pad else test_for (guard c.kind) c.site) ∷ rest) j w u) (λ j. running g rest j w u)
  one_test c holds true rest = runs_first g 1 pad rest w u u (takes_pad g w u)
  one_test c holds false rest = runs_first g 1 (test_for (guard c.kind) c.site) rest w u u (takes_test g w u (guard c.kind) c.site holds)

  -- all of them pass
  module _ (v : ℤ) where
    pub all_pass : (cs : List Check) (rest : List Stmt) → GuardsTell g.program u guard is_settled (Ok v) cs → Reaches (length (tests_on cs)) w (λ j. running g (tests_on cs ++ rest) j w u) (λ j. running g rest j w u)
    all_pass [] rest tell = no_steps (λ j. running g rest j w u)
    all_pass (c ∷ cs) rest tell = go (is_settled c.kind) tell.0 (all_pass cs rest (tell.1 refl)) where
      go : (b : Bool) → GuardTells b g.program u (guard c.kind) true → Reaches (length (tests_on cs)) w (λ j. running g (tests_on cs ++ rest) j w u) (λ j. running g rest j w u)
          → Reaches (length (if b then tests_on cs else test g.frame (guard c.kind) c ∷ tests_on cs)) w (λ j. running g ((if b then tests_on cs else test g.frame (guard c.kind) c ∷ tests_on cs) ++ rest) j w u) (λ j. running g rest j w u)
      go true t h = h
      go false t h = one_more (length (tests_on cs)) (λ j. running g ((test g.frame (guard c.kind) c ∷ tests_on cs) ++ rest) j w u) (λ j. running g (tests_on cs ++ rest) j w u) (λ j. running g rest j w u) (one_test c t (g.frame.skip c.site) (tests_on cs ++ rest)) h

    few_tests : (cs : List Check) → length (tests_on cs) ≤ length cs
    few_tests [] = omega arith
    few_tests (c ∷ cs) = go (is_settled c.kind) (few_tests cs) where
      go : (b : Bool) → length (tests_on cs) ≤ length cs → length (if b then tests_on cs else test g.frame (guard c.kind) c ∷ tests_on cs) ≤ suc (length cs)
      go true le = omega (arith, le)
      go false le = omega (arith, le)

    -- so does the source
    passes_all : {A : Type 0} (part : Part State A) (cs : List Check) (n : ℕ) (z : World) (s : State) → passes g.frame.core (tests_of (Ok v) cs) part n z s ≡ part n z s
    passes_all part [] n z s = refl
    passes_all part (c ∷ cs) n z s = passes_all part cs n z s

  -- one of them fails
  module _ (failed : SiteKind) where
    -- the first that does, and the statements of C before it
    pub record Stops (cs : List Check) (rest : List Stmt) : Type 1 where
      pub site : ℕ
      pub small : site < 2 ^ 32
      pub expr : Expr
      pub fails : TestIs g.program u expr false
      pub more : List Stmt
      pub steps : ℕ
      pub few : steps ≤ length cs
      pub reaches : Reaches steps w (λ j. running g (tests_on cs ++ rest) j w u) (λ j. running g ((if g.frame.skip site then pad else test_for expr site) ∷ more) j w u)
      pub halts : {A : Type 0} (part : Part State A) (n : ℕ) (z : World) (s : State) → passes g.frame.core (tests_of (Err failed) cs) part n z s ≡ Halted (FailedCheck site) z (source.seen g.frame.core s)

    -- this one fails
    here : (c : Check) (cs : List Check) (rest : List Stmt) → Numbered (c ∷ cs) → same_kind failed c.kind ≡ true → GuardTells (is_settled c.kind) g.program u (guard c.kind) false → Stops (c ∷ cs) rest
    here c cs rest small same tell = go (is_settled c.kind) refl tell where
      go : (b : Bool) → is_settled c.kind ≡ b → GuardTells b g.program u (guard c.kind) false → Stops (c ∷ cs) rest
      go true e t = let no : ⊥ = cc in absurd no
      go false e t = record {
        site = c.site;
        small = All-head (λ d. d.site < 2 ^ 32) c cs small;
        expr = guard c.kind;
        fails = t;
        more = tests_on cs ++ rest;
        steps = 0;
        few = omega arith;
        reaches =
            subst (λ b. Reaches 0 w (λ j. running g ((if b then tests_on cs else test g.frame (guard c.kind) c ∷ tests_on cs) ++ rest) j w u) (λ j. running g ((if g.frame.skip c.site then pad else test_for (guard c.kind) c.site) ∷ (tests_on cs ++ rest)) j w u))
            (sym e) (no_steps (λ j. running g ((if g.frame.skip c.site then pad else test_for (guard c.kind) c.site) ∷ (tests_on cs ++ rest)) j w u));
        halts = λ part n z s. ap (λ b. (if not b then passes g.frame.core (tests_of (Err failed) cs) part else halt (source.seen g.frame.core) (FailedCheck c.site)) n z s) same;
      }

    -- this one holds, and a later one fails
    later : (c : Check) (cs : List Check) (rest : List Stmt) → same_kind failed c.kind ≡ false → GuardTells (is_settled c.kind) g.program u (guard c.kind) true → Stops cs rest → Stops (c ∷ cs) rest
    later c cs rest other tell h = record {
      site = h.site;
      small = h.small;
      expr = h.expr;
      fails = h.fails;
      more = h.more;
      steps = (reach (is_settled c.kind) tell).0;
      few = (reach (is_settled c.kind) tell).1;
      reaches = (reach (is_settled c.kind) tell).2;
      halts = λ part n z s. ap (λ b. (if not b then passes g.frame.core (tests_of (Err failed) cs) part else halt (source.seen g.frame.core) (FailedCheck c.site)) n z s) other ∙ h.halts part n z s;
    } where
      reach : (b : Bool) → GuardTells b g.program u (guard c.kind) true
          → (k : ℕ) × (k ≤ suc (length cs)) × Reaches k w (λ j. running g ((if b then tests_on cs else test g.frame (guard c.kind) c ∷ tests_on cs) ++ rest) j w u) (λ j. running g ((if g.frame.skip h.site then pad else test_for h.expr h.site) ∷ h.more) j w u)
      reach true t = (h.steps, omega (arith, h.few), h.reaches)
      reach false t = (
        suc h.steps,
        omega (arith, h.few),
        one_more h.steps (λ j. running g ((test g.frame (guard c.kind) c ∷ tests_on cs) ++ rest) j w u) (λ j. running g (tests_on cs ++ rest) j w u) (λ j. running g ((if g.frame.skip h.site then pad else test_for h.expr h.site) ∷ h.more) j w u)
            (one_test c t (g.frame.skip c.site) (tests_on cs ++ rest)) h.reaches,
      )

    pub first_stops : (cs : List Check) (rest : List Stmt) → Numbered cs → IsTrue (covered (Err failed) cs) → GuardsTell g.program u guard is_settled (Err failed) cs → Stops cs rest
    first_stops [] rest small some tell = let no : ⊥ = cc in absurd no
    first_stops (c ∷ cs) rest small some tell = go (same_kind failed c.kind) refl some tell (λ t some. first_stops cs rest (All-tail (λ d. d.site < 2 ^ 32) c cs small) some t) where
      go : (b : Bool) → same_kind failed c.kind ≡ b → IsTrue (b || list_any (λ d. same_kind failed d.kind) cs) → (GuardTells (is_settled c.kind) g.program u (guard c.kind) (not b) × (IsTrue (not b) → GuardsTell g.program u guard is_settled (Err failed) cs))
          → (GuardsTell g.program u guard is_settled (Err failed) cs → IsTrue (list_any (λ d. same_kind failed d.kind) cs) → Stops cs rest) → Stops (c ∷ cs) rest
      go true e any t next = here c cs rest small e t.0
      go false e any t next = later c cs rest e t.0 (next (t.1 refl) any)

-- ---- a form with its checks

module _ (g : Setting) (set : Set g) (objects : Map) (s : State) (guard : SiteKind → Expr) (is_settled : SiteKind → Bool) (u : CState) (related : Related g objects s u) {A : Type 0}
    (post : A → State → Control (Option CValue) → CState → Type 0) (go : Value → Part State A) (rest : List Stmt) (x y spared : ℕ) (l : Label) (small : Numbered l.checks) (few : length l.checks ≤ 4) where
  abbrev row : List Stmt
  row = tests g.frame guard is_settled l.checks

  owed_now : (b : Bool) (P : Type 0) → P → Owed b P
  owed_now true P h = tt
  owed_now false P h = h

  -- the source goes on, once the form's step is taken
  goes_on : (v : ℤ) (n : ℕ) (w : World) → after (answering g.frame.core l (Ok v) n w s) go ≡ tick (go (Num v)) n w s
  goes_on v zero w = refl
  goes_on v (suc n) w = ap (λ r. after r go) (passes_all g guard is_settled u w v (give (Num v)) l.checks n w s)

  passing : (v : ℤ) → GuardsTell g.program u guard is_settled (Ok v) l.checks
      → ((m : ℕ) (w : World) → Follows g.frame.skip post (x + (if are_none row then 0 else 8)) y m (ticks (owing (are_none row)) (go (Num v)) m w s) (λ j. running g rest j w u))
      → (n : ℕ) (w : World) → Follows g.frame.skip post x y n (after (answering g.frame.core l (Ok v) n w s) go) (λ j. running g (row ++ rest) j w u)
  passing v tell next n w =
      subst (λ r. Follows g.frame.skip post x y n r (λ j. running g (row ++ rest) j w u)) (sym (goes_on v n w))
      (by_row row (all_pass g guard is_settled u w v l.checks rest tell) (few_tests g guard is_settled u w v l.checks) next)
    where
      by_row : (ts : List Stmt) → Reaches (length ts) w (λ j. running g (ts ++ rest) j w u) (λ j. running g rest j w u) → length ts ≤ length l.checks
          → ((m : ℕ) (w : World) → Follows g.frame.skip post (x + (if are_none ts then 0 else 8)) y m (ticks (owing (are_none ts)) (go (Num v)) m w s) (λ j. running g rest j w u))
          → Follows g.frame.skip post x y n (tick (go (Num v)) n w s) (λ j. running g (ts ++ rest) j w u)
      by_row [] reach le h = eased g.frame.skip post (x + 0) y x y n (tick (go (Num v)) n w s) (λ j. running g rest j w u) (omega arith) (omega arith) (h n w)
      by_row (t ∷ ts) reach le h =
          pays_to g.frame.skip post (suc (length ts)) 1 x (x + 8) y (go (Num v)) w s (omega arith) (omega (arith, le, few)) (λ j. running g ((t ∷ ts) ++ rest) j w u) (λ j. running g rest j w u) reach (λ m. h m w) n

  -- a run of both that ends at the first check that fails
  failing : (failed : SiteKind) → GuardsTell g.program u guard is_settled (Err failed) l.checks → (n : ℕ) (w : World)
      → Follows g.frame.skip post x y n (after (answering g.frame.core l (Err failed) n w s) go) (λ j. running g (row ++ rest) j w u)
  failing failed tell n w = by_cover (covered (Err failed) l.checks) refl where
    stopping : Stops g guard is_settled u w failed l.checks rest → (m : ℕ)
        → Follows g.frame.skip post x y m (after (tick (passes g.frame.core (tests_of (Err failed) l.checks) (answered g.frame.core (Err failed))) m w s) go) (λ j. running g (row ++ rest) j w u)
    stopping h zero = record { steps = 0; many = omega arith; few = omega arith; is = waits_first h.steps h.reaches } where
      waits_first : (k : ℕ) → Reaches k w (λ j. running g (row ++ rest) j w u) (λ j. running g ((if g.frame.skip h.site then pad else test_for h.expr h.site) ∷ h.more) j w u) → running g (row ++ rest) 0 w u ≡ Exhausted w
      waits_first zero r = r.comes 0 ∙ first_waits (g.frame.skip h.site)
        where
          first_waits : (b : Bool) → running g ((if b then pad else test_for h.expr h.site) ∷ h.more) 0 w u ≡ Exhausted w
          first_waits true = (runs_first g 1 pad h.more w u u (takes_pad g w u)).waits 0 (omega arith)
          first_waits false = test_waits g w u h.expr h.site h.more h.fails
      waits_first (suc k) r = r.waits 0 (omega arith)
    stopping h (suc m) =
        subst (λ r. Follows g.frame.skip post x y (suc m) (after r go) (λ j. running g (row ++ rest) j w u)) (sym (h.halts (answered g.frame.core (Err failed)) m w s))
        (owed_unless (g.frame.skip h.site) refl)
      where
        owed_unless : (b : Bool) → g.frame.skip h.site ≡ b → Owed (g.frame.skip h.site) (Ends x (suc m) (FailedCheck h.site) w (source.seen g.frame.core s) (λ j. running g (row ++ rest) j w u))
        owed_unless true e = subst (λ b. Owed b (Ends x (suc m) (FailedCheck h.site) w (source.seen g.frame.core s) (λ j. running g (row ++ rest) j w u))) (sym e) tt
        owed_unless false e = owed_now (g.frame.skip h.site) (Ends x (suc m) (FailedCheck h.site) w (source.seen g.frame.core s) (λ j. running g (row ++ rest) j w u)) (record {
          steps = h.steps + 2;
          few = omega (arith, h.few, few);
          is = h.reaches.comes 2 ∙ ap (λ b. running g ((if b then pad else test_for h.expr h.site) ∷ h.more) 2 w u) e ∙ stops_test g w u h.expr h.site h.more h.small h.fails 0
              ∙ ap (λ cells. Halted (FailedCheck h.site) w cells) (areas_alike g set objects s u related);
        })

    by_cover : (b : Bool) → covered (Err failed) l.checks ≡ b → Follows g.frame.skip post x y n (after ((if b then tick (passes g.frame.core (tests_of (Err failed) l.checks) (answered g.frame.core (Err failed))) else formless g.frame.core) n w s) go) (λ j. running g (row ++ rest) j w u)
    by_cover true e = stopping (first_stops g guard is_settled u w failed l.checks rest small e tell) n
    by_cover false e = tt

  -- what a form answers, and what is done with it
  pub answer_follows : (answer : Answer) → GuardsTell g.program u guard is_settled answer l.checks
      → ((v : ℤ) → answer ≡ Ok v → (m : ℕ) (w : World) → Follows g.frame.skip post (x + (if are_none row then 0 else 8)) y m (ticks (owing (are_none row)) (go (Num v)) m w s) (λ j. running g rest j w u))
      → (n : ℕ) (w : World) → Follows g.frame.skip post x y n (bind (answering g.frame.core l answer) go n w s) (λ j. running g (row ++ rest) j w u)
  answer_follows (Ok v) tell next n w = passing v tell (λ m z. next v refl m z) n w
  answer_follows (Err failed) tell next n w = failing failed tell n w
