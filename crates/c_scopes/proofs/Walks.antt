-- Walks one after another, and rules that are asked for late.
use Rattle.std.proofs.Common.{◌≡◌, refl, sym, ◌∙◌, ap, subst, ℕ, ◌+◌, ◌≤◌, Bool, true, false, List, [], ◌∷◌, ◌++◌, length, Option, Some, None, length-append, arith}
use Rattle.std.specs.Prelude.{nat_lt, if◌then◌else◌}
use Rattle.std.proofs.lemmas.Bool.Decides.{nat_tests}
use Rattle.std.proofs.lemmas.List.{append-nil}
use Rattle.c_text.specs.declared.fault.CFault.{CFault}
use Rattle.c_text.specs.declared.fault.CWhy.{CWhy}
use Rattle.c_text.specs.declared.fault.CWhy.TheVariants.{BadName, BadType}
use Rattle.c_text.specs.Rules.{Rule, NameIsKnown, Demand, why_of, ask, behind}
use Rattle.c_text.specs.FirstFault.{told, is_of_name, earlier, or_earlier, first_fault}
use Rattle.c_scopes.specs.declared.walk.Walk.{Walk}
use Rattle.c_scopes.specs.Joined.{last, joined, broken}
use Rattle.c_scopes.specs.Walks.{Walks, Asked}

-- ---- the earlier of faults

-- the first of two is told of both
abbrev comes_first : CFault → CFault → Bool
comes_first f g = if nat_lt f.at g.at then true else (if nat_lt g.at f.at then false else is_of_name f.why)

earlier_is : (f g : CFault) → earlier f g ≡ (if comes_first f g then f else g)
earlier_is f g = go (nat_lt f.at g.at) (nat_lt g.at f.at) (is_of_name f.why)
  where
    go : (a b c : Bool) → (if a then f else (if b then g else (if c then f else g))) ≡ (if (if a then true else (if b then false else c)) then f else g)
    go true b c = refl
    go false true c = refl
    go false false true = refl
    go false false false = refl

first_is : (f g : CFault) → comes_first f g ≡ true → earlier f g ≡ f
first_is f g e = earlier_is f g ∙ ap (λ b. if b then f else g) e

second_is : (f g : CFault) → comes_first f g ≡ false → earlier f g ≡ g
second_is f g e = earlier_is f g ∙ ap (λ b. if b then f else g) e

-- the same over places and whether a fault is of a name
abbrev test : ℕ → ℕ → Bool → Bool
test a b n = if nat_lt a b then true else (if nat_lt b a then false else n)

test_both : (a b c : ℕ) (n m : Bool) → test a b n ≡ true → test b c m ≡ true → test a c n ≡ true
test_both a b c n m e f = grind (arith, nat_tests)

test_neither : (a b c : ℕ) (n m : Bool) → test a b n ≡ false → test b c m ≡ false → test a c n ≡ false
test_neither a b c n m e f = grind (arith, nat_tests)

pub earlier_assoc : (f g h : CFault) → earlier (earlier f g) h ≡ earlier f (earlier g h)
earlier_assoc f g h =
    ap (λ x. earlier x h) (earlier_is f g) ∙ go (comes_first f g) (comes_first g h) refl refl ∙ ap (λ x. earlier f x) (sym (earlier_is g h))
  where
    go : (x y : Bool) → comes_first f g ≡ x → comes_first g h ≡ y → earlier (if x then f else g) h ≡ earlier f (if y then g else h)
    go true true p q = first_is f h (test_both f.at g.at h.at (is_of_name f.why) (is_of_name g.why) p q) ∙ sym (first_is f g p)
    go true false p q = refl
    go false true p q = first_is g h q ∙ sym (second_is f g p)
    go false false p q = second_is g h q ∙ sym (second_is f h (test_neither f.at g.at h.at (is_of_name f.why) (is_of_name g.why) p q))

-- each rule is of names or of types
proper : (r : Rule) → why_of r ≡ (if is_of_name (why_of r) then BadName else BadType)
proper NameIsKnown = refl
proper _ = refl

-- at one place it does not matter which comes first
beside : (a b : ℕ) (v w : CWhy) (n m : Bool) → a ≡ b → v ≡ (if n then BadName else BadType) → w ≡ (if m then BadName else BadType)
    → (let f : CFault = record { at = a; why = v } in let g : CFault = record { at = b; why = w } in (if n then f else g) ≡ (if m then g else f))
beside a b v w true true at p q = grind arith
beside a b v w true false at p q = refl
beside a b v w false true at p q = refl
beside a b v w false false at p q = grind arith

told_swap : (d e : Demand) → earlier (told d) (told e) ≡ earlier (told e) (told d)
told_swap d e = go (nat_lt d.at e.at) (nat_lt e.at d.at) refl refl
  where
    go : (x y : Bool) → nat_lt d.at e.at ≡ x → nat_lt e.at d.at ≡ y
        → (if x then told d else (if y then told e else (if is_of_name (why_of d.rule) then told d else told e))) ≡ (if y then told e else (if x then told d else (if is_of_name (why_of e.rule) then told e else told d)))
    go true true p q = absurd (grind (arith, nat_tests))
    go true false p q = refl
    go false true p q = refl
    go false false p q = beside d.at e.at (why_of d.rule) (why_of e.rule) (is_of_name (why_of d.rule)) (is_of_name (why_of e.rule)) (grind (arith, nat_tests)) (proper d.rule) (proper e.rule)

-- ---- faults that there may be

or_earlier_both : (f : CFault) (a b : Option CFault) → or_earlier f (joined a b) ≡ or_earlier (or_earlier f a) b
or_earlier_both f None b = refl
or_earlier_both f (Some g) None = refl
or_earlier_both f (Some g) (Some h) = sym (earlier_assoc f g h)

pub joined_assoc : (a b c : Option CFault) → joined (joined a b) c ≡ joined a (joined b c)
joined_assoc None b c = refl
joined_assoc (Some f) b c = ap Some (sym (or_earlier_both f b c))

-- the first fault of two rows of demands is the earlier of both
pub first_fault_both : (ds es : List Demand) → first_fault (ds ++ es) ≡ joined (first_fault ds) (first_fault es)
first_fault_both [] es = refl
first_fault_both (d ∷ ds) es = go d.kept (first_fault_both ds es)
  where
    go : (kept : Bool) → first_fault (ds ++ es) ≡ joined (first_fault ds) (first_fault es)
        → (if kept then first_fault (ds ++ es) else Some (or_earlier (told d) (first_fault (ds ++ es)))) ≡ joined (if kept then first_fault ds else Some (or_earlier (told d) (first_fault ds))) (first_fault es)
    go true both = both
    go false both = ap (λ x. Some (or_earlier (told d) x)) both ∙ ap Some (or_earlier_both (told d) (first_fault ds) (first_fault es))

-- one demand before others
abbrev before : Demand → Option CFault → Option CFault
before d x = if d.kept then x else Some (or_earlier (told d) x)

or_earlier_swap : (d e : Demand) (x : Option CFault) → or_earlier (told d) (Some (or_earlier (told e) x)) ≡ or_earlier (told e) (Some (or_earlier (told d) x))
or_earlier_swap d e x =
    or_earlier_both (told d) (Some (told e)) x ∙ ap (λ f. or_earlier f x) (told_swap d e) ∙ sym (or_earlier_both (told e) (Some (told d)) x)

before_swap : (d e : Demand) (x : Option CFault) → before d (before e x) ≡ before e (before d x)
before_swap d e x = go d.kept e.kept
  where
    go : (k l : Bool) → (if k then (if l then x else Some (or_earlier (told e) x)) else Some (or_earlier (told d) (if l then x else Some (or_earlier (told e) x))))
        ≡ (if l then (if k then x else Some (or_earlier (told d) x)) else Some (or_earlier (told e) (if k then x else Some (or_earlier (told d) x))))
    go true true = refl
    go true false = refl
    go false true = refl
    go false false = ap Some (or_earlier_swap d e x)

-- a demand that is asked last counts as one that is asked first
last_as_first : (d : Demand) (ds : List Demand) → first_fault (ds ++ d ∷ []) ≡ first_fault (d ∷ ds)
last_as_first d [] = refl
last_as_first d (e ∷ ds) = ap (before e) (last_as_first d ds) ∙ before_swap e d (first_fault ds)

-- ---- walks

pub behind_both : (at : ℕ) (t u : List ℕ) → behind at (t ++ u) ≡ behind (behind at t) u
behind_both at t u = simp length-append (omega arith)

-- one form and another behind it
module _ {a b c : Walk} {t u : List ℕ} {ds : List Demand} where
  pub followed : (es : ℕ → List Demand) → Walks a b t ds → Walks b c u (es b.at) → Walks a c (t ++ u) (ds ++ es (behind a.at t))
  followed es first second = record { place = place; fault = fault }
    where
      fits : a.at + length (t ++ u) ≤ last → (a.at + length t ≤ last) × ((a.at + length t) + length u ≤ last)
      fits h = let e : length (t ++ u) ≡ length t + length u = length-append t u in (omega arith, omega arith)

      place : a.at + length (t ++ u) ≤ last → c.at ≡ a.at + length (t ++ u)
      place h =
          let f = fits h in
          let at : b.at ≡ a.at + length t = first.place f.0 in
          second.place (omega (arith, at, f.1)) ∙ ap (λ n. n + length u) at ∙ sym (behind_both a.at t u)

      fault : a.at + length (t ++ u) ≤ last → c.fault ≡ joined a.fault (first_fault (ds ++ es (behind a.at t)))
      fault h =
          let f = fits h in
          let at : b.at ≡ a.at + length t = first.place f.0 in
          second.fault (omega (arith, at, f.1))
          ∙ ap (λ x. joined x (first_fault (es b.at))) (first.fault f.0)
          ∙ ap (λ n. joined (joined a.fault (first_fault ds)) (first_fault (es n))) at
          ∙ joined_assoc a.fault (first_fault ds) (first_fault (es (behind a.at t)))
          ∙ ap (joined a.fault) (sym (first_fault_both ds (es (behind a.at t))))

-- the same demands in other words
pub as_demands : {a b : Walk} {t : List ℕ} {ds es : List Demand} → ds ≡ es → Walks a b t ds → Walks a b t es
as_demands {a} {b} {t} same walks = subst (Walks a b t) same walks

pub as_text : {a b : Walk} {t u : List ℕ} {ds : List Demand} → t ≡ u → Walks a b t ds → Walks a b u ds
as_text {a} {b} {t} {u} {ds} same walks = subst (λ x. Walks a b x ds) same walks

-- a piece of which nothing is asked
pub passed : {a b c : Walk} {t u : List ℕ} {ds : List Demand} → Walks a b t ds → Walks b c u [] → Walks a c (t ++ u) ds
passed {a} {b} {c} {t} {u} {ds} first second = as_demands (append-nil ds) (followed (λ at. []) first second)

pub stands : (a : Walk) → Walks a a [] []
stands a = record { place = λ h. omega arith; fault = λ h. joined_none a.fault }
  where
    joined_none : (x : Option CFault) → x ≡ joined x None
    joined_none None = refl
    joined_none (Some f) = refl

-- a rule that is asked for at the place that is reached
pub asked_here : {a b : Walk} {k : Bool} (r : Rule) → Asked a b a.at (why_of r) k → Walks a b [] (ask a.at r k)
asked_here {a} {b} {k} r asked = record { place = λ h. asked.place ∙ omega arith; fault = λ h. asked.fault ∙ ap (joined a.fault) (one k) }
  where
    one : (x : Bool) → broken a.at (why_of r) x ≡ first_fault (ask a.at r x)
    one true = refl
    one false = refl

pub asked_next : {a b c : Walk} {t : List ℕ} {ds : List Demand} {k : Bool} (r : Rule) → Walks a b t ds → Asked b c b.at (why_of r) k → Walks a c t (ds ++ ask (behind a.at t) r k)
asked_next {a} {b} {c} {t} {ds} {k} r walks asked = as_text (append-nil t) (followed (λ at. ask at r k) walks (asked_here r asked))

-- a rule that is asked for once the form is walked through, at the form's place
pub asked_first : {a b c : Walk} {t : List ℕ} {ds : List Demand} {k : Bool} (r : Rule) → Walks a b t ds → Asked b c a.at (why_of r) k → Walks a c t (ask a.at r k ++ ds)
asked_first {a} {b} {c} {t} {ds} {k} r walks asked = record {
  place = λ h. asked.place ∙ walks.place h;
  fault = λ h. asked.fault ∙ ap (λ x. joined x (broken a.at (why_of r) k)) (walks.fault h) ∙ ap (λ x. joined (joined a.fault (first_fault ds)) x) (one k)
      ∙ joined_assoc a.fault (first_fault ds) (first_fault (ask a.at r k))
      ∙ ap (joined a.fault) (sym (first_fault_both ds (ask a.at r k)) ∙ last_as_first (record { at = a.at; rule = r; kept = k }) ds);
}
  where
    one : (x : Bool) → broken a.at (why_of r) x ≡ first_fault (ask a.at r x)
    one true = refl
    one false = refl

-- one more at the place where nothing was walked through yet
pub asked_again : {a b c : Walk} {ds : List Demand} {k : Bool} (r : Rule) → Walks a b [] ds → Asked b c b.at (why_of r) k → Walks a c [] (ds ++ ask a.at r k)
asked_again {a} {b} {c} {ds} {k} r walks asked =
    let same : behind a.at [] ≡ a.at = omega arith in
    as_demands (ap (λ n. ds ++ ask n r k) same) (asked_next r walks asked)

-- a form whose rules are not told
pub unasked : {a b : Walk} {t : List ℕ} {ds : List Demand} → Walks a b t ds → (let c : Walk = record { at = b.at; fault = a.fault } in Walks a c t [])
unasked {a} {b} {t} {ds} walks = record { place = walks.place; fault = λ h. (stands a).fault (omega arith) }
