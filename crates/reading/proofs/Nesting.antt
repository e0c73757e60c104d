-- One level deeper: where nothing may nest deeper, a token that would open a level is TooDeep, and else it is read with
-- what follows it there.
use Rattle.std.proofs.Common.{◌≡◌, ℕ, suc, ◌≤◌, ◌<◌, Bool, false, List, [], ◌∷◌, ◌++◌, refl, sym, ap, ◌∙◌, subst, arith, Option, Some, None}
use Rattle.reading.specs.Row.{Entry, Row, Signs, tokens, Shallow}
use Rattle.reading.specs.Language.{Language, Terminal, Then, Nested, Enclosed}
use Rattle.reading.specs.Reader.{Done, Unexpected, TooDeep, Reader, bar, barred, nested, enclosed}
use Rattle.reading.specs.Good.{Good, Passed, DeepAt}
use Rattle.reading.proofs.Same.{none, good_map}
use Rattle.reading.proofs.Tokens.{good_accept}
use Rattle.reading.proofs.Sequence.{good_then, good_ended_then}
use Rattle.reading.proofs.Starts.{terminal_nonempty}
use Rattle.reading.proofs.Plain.{Plain, plain_terminal, plain_mapped, plain_last}

module _ {T A B : Type 0} (signs : Signs T) (limit d : ℕ) (deeper : limit < d) (c : T → Bool) (select : T → Option A) (Q : A → Language T B)
    (rest_of : (a : A) → (b : B) × (row : Row T) × Q a b row) (plain : (t : T) (a : A) → select t ≡ Some a → signs.sign t ≡ false)
    (plain_rest : (a : A) → Plain signs (Q a)) where
  bar_done : (t : T) (ts : List T) (o : Option A) (b : B) (rest : List T) → barred {T = T} {A = A} {B = B} o (t ∷ ts) ≡ Done b rest → ⊥
  bar_done t ts (Some a) b rest h = cc
  bar_done t ts None b rest h = cc

  bar_unexpected : (ts : List T) (o : Option A) (rest : List T) → barred {T = T} {A = A} {B = B} o ts ≡ Unexpected rest → ts ≡ rest
  bar_unexpected ts (Some a) rest h = cc
  bar_unexpected ts None rest h = cc

  bar_deep : (t : T) (ts : List T) (o : Option A) → select t ≡ o → (rest : List T) → barred {T = T} {A = A} {B = B} o (t ∷ ts) ≡ TooDeep rest → DeepAt signs limit (Then (Terminal d select) Q) (t ∷ ts) rest
  bar_deep t ts (Some a) e rest h =
      let m : Entry T = record { token = t; depth = d } in
      let w = rest_of a in
      let same : t ∷ ts ≡ rest = cc in
      ([], m, w.1, ts, w.0, (a, m ∷ [], w.1, refl, (m, refl, refl, e), w.2), tt, deeper, sym same, same, λ is. let isnt : signs.sign t ≡ false = plain t a e in cc)
  bar_deep t ts None e rest h = cc

  no_shallow : (a : A) (b : B) (m n : Entry T) (f g row tail : Row T) → (m ∷ row) ++ tail ≡ f ++ g → f ≡ n ∷ [] → n.depth ≡ d → m.depth ≤ limit → ⊥
  no_shallow a b m n f g row tail e h is s =
      let e2 : m ∷ (row ++ tail) ≡ n ∷ g = e ∙ ap (λ x. x ++ g) h in
      let same : m ≡ n = cc in
      let depths : m.depth ≡ n.depth = ap (λ x. x.depth) same in omega arith

  bar_complete : (b : B) (row : Row T) (rest : List T) → Then (Terminal d select) Q b row → Shallow limit row → ⊥
  bar_complete b [] rest (a, f, g, e, (n, h, is, sel), qg) s = let e2 : [] ≡ n ∷ g = e ∙ ap (λ x. x ++ g) h in cc
  bar_complete b (m ∷ row) rest (a, f, g, e, (n, h, is, sel), qg) s =
      let e2 : m ∷ row ≡ n ∷ g = e ∙ ap (λ x. x ++ g) h in
      let same : m ≡ n = cc in
      let depths : m.depth ≡ n.depth = ap (λ x. x.depth) same in omega (arith, s.0)

  bar_at : (b : B) (row : Row T) (m : Entry T) (tail : Row T) (rest : List T) → Then (Terminal d select) Q b (row ++ m ∷ tail) → Shallow limit row
      → bar {T = T} {A = A} {B = B} select (tokens row ++ m.token ∷ rest) ≡ TooDeep (m.token ∷ rest)
  bar_at b [] m tail rest (a, f, g, e, (n, h, is, sel), qg) s =
      let e2 : m ∷ tail ≡ n ∷ g = e ∙ ap (λ x. x ++ g) h in
      let same : m ≡ n = cc in
      ap (λ o. barred o (m.token ∷ rest)) (ap (λ x. select x.token) same ∙ sel)
  bar_at b (x ∷ row) m tail rest (a, f, g, e, (n, h, is, sel), qg) s = absurd (no_shallow a b x n f g row (m ∷ tail) e h is s.0)

  bar_ends : (b : B) (row : Row T) (m : Entry T) → Then (Terminal d select) Q b (row ++ m ∷ []) → signs.sign m.token ≡ false
  bar_ends b [] m (a, f, g, e, (n, h, is, sel), qg) =
      let e2 : m ∷ [] ≡ n ∷ g = e ∙ ap (λ x. x ++ g) h in
      let same : m ≡ n = cc in
      plain m.token a (ap (λ x. select x.token) same ∙ sel)
  bar_ends b (x ∷ row) m (a, f, g, e, (n, h, is, sel), qg) =
      let e2 : x ∷ (row ++ m ∷ []) ≡ n ∷ g = e ∙ ap (λ x. x ++ g) h in
      let back : row ++ m ∷ [] ≡ g = cc in
      (plain_rest a).ends b row m (subst (Q a b) (sym back) qg)

  bar_all : (a : A) (t : T) → select t ≡ Some a → Good signs limit c (Then (Terminal d select) Q) (bar select)
  bar_all a t is =
      let m : Entry T = record { token = t; depth = d } in
      let w = rest_of a in
      let any : Then (Terminal d select) Q w.0 (m ∷ w.1) = (a, m ∷ [], w.1, refl, (m, refl, refl, is), w.2) in
      record {
        example = (w.0, m ∷ w.1, any);
        done = elim [ [] ↦ λ b rest h. absurd cc | u ∷ ts ↦ λ b rest h. absurd (bar_done u ts (select u) b rest h) ];
        unexpected = elim [
          | [] ↦ λ rest h. let e : [] ≡ rest = cc in ([], m ∷ w.1, w.0, any, tt, e)
          | u ∷ ts ↦ λ rest h. ([], m ∷ w.1, w.0, any, tt, bar_unexpected (u ∷ ts) (select u) rest h)
        ];
        too_deep = elim [ [] ↦ λ rest h. absurd cc | u ∷ ts ↦ λ rest h. bar_deep u ts (select u) refl rest h ];
        complete = λ b row rest r s stop. absurd (bar_complete b row rest r s);
        passes = λ b row m tail rest r s. subst (Passed rest) (sym (bar_at b row m tail rest r s)) tt;
        deep = λ b row m tail rest r s lt fits. bar_at b row m tail rest r s;
        ends = λ b row m r lt. bar_ends b row m r;
      }

-- the opening token is no sign, and some row goes on from it
pub good_bar : {T A B : Type 0} {signs : Signs T} {limit d : ℕ} {c : T → Bool} {select : T → Option A} {Q : A → Language T B}
    → limit < d → ((a : A) → (b : B) × (row : Row T) × Q a b row) → ((t : T) (a : A) → select t ≡ Some a → signs.sign t ≡ false) → ((a : A) → Plain signs (Q a))
    → (a : A) (t : T) → select t ≡ Some a → Good signs limit c (Then (Terminal d select) Q) (bar select)
good_bar {limit} {d} {c} {select} {Q} deeper rest_of plain plain_rest a t is = bar_all _ limit d deeper c select Q rest_of plain plain_rest a t is

-- what may follow an opening token one level below depth d: nothing, or what a good reader reads
pub data Below {T A B : Type 0} (signs : Signs T) (limit d : ℕ) (c : T → Bool) (Q : A → Language T B) : Option (A → Reader T B) → Type 0 where
  barred_there : limit < suc d → Below signs limit d c Q None
  read_there : {q : A → Reader T B} → suc d ≤ limit → ((a : A) → Good signs limit c (Q a) (q a)) → Below signs limit d c Q (Some q)

pub good_nested : {T A B : Type 0} {signs : Signs T} {limit d : ℕ} {c : T → Bool} {opens : T → Option A} {Q : A → Language T B} {inner : Option (A → Reader T B)}
    → Below signs limit d c Q inner → ((a : A) → (b : B) × (row : Row T) × Q a b row) → ((t : T) (a : A) → opens t ≡ Some a → signs.sign t ≡ false) → ((a : A) → Plain signs (Q a))
    → (a : A) (t : T) → opens t ≡ Some a → Good signs limit c (Nested d opens Q) (nested opens inner)
good_nested (barred_there deeper) rest_of plain plain_rest a t is = good_bar deeper rest_of plain plain_rest a t is
good_nested {opens} (read_there within good) rest_of plain plain_rest a t is = good_ended_then (good_accept opens within a t is) good

-- what may stand between two such tokens
pub data Within {T A : Type 0} (signs : Signs T) (limit d : ℕ) (c : T → Bool) (R : Language T A) : Option (Reader T A) → Type 0 where
  barred_within : limit < suc d → Within signs limit d c R None
  read_within : {p : Reader T A} → suc d ≤ limit → Good signs limit c R p → Within signs limit d c R (Some p)

-- neither token is a sign, and with the closing one nothing that stands before it goes on
pub record Brackets {T O C : Type 0} (signs : Signs T) (c : T → Bool) (opens : T → Option O) (closes : T → Option C) : Type 0 where
  pub opening : (o : O) × (t : T) × (opens t ≡ Some o)
  pub closing : (o : C) × (t : T) × (closes t ≡ Some o)
  pub opens_plain : (t : T) (o : O) → opens t ≡ Some o → signs.sign t ≡ false
  pub closes_plain : (t : T) (o : C) → closes t ≡ Some o → signs.sign t ≡ false
  pub closes_stops : (t : T) (o : C) → closes t ≡ Some o → c t ≡ false

stop_first : {T C : Type 0} (c : T → Bool) {d : ℕ} (closes : T → Option C) → ((t : T) (o : C) → closes t ≡ Some o → c t ≡ false) → (to : C) (m : Entry T) (row : Row T) → Terminal d closes to (m ∷ row) → c m.token ≡ false
stop_first c closes stops to m row (n, e, at, sel) = let same : m ≡ n = cc in stops m.token to (ap (λ x. closes x.token) same ∙ sel)

pub good_enclosed : {T A B O C : Type 0} {signs : Signs T} {limit d : ℕ} {c : T → Bool} {R : Language T A} {opens : T → Option O} {closes : T → Option C} {inner : Option (Reader T A)}
    → (f : A → C → B) → Brackets signs c opens closes → (x : A) × (row : Row T) × R x row → Within signs limit d c R inner → Good signs limit none (Enclosed d opens closes f R) (enclosed opens closes f inner)
good_enclosed {T} {d} {opens} {closes} f k example (barred_within deeper) =
    let m : Entry T = record { token = k.closing.1; depth = suc d } in
    let shut : Terminal (suc d) closes k.closing.0 (m ∷ []) = (m, refl, refl, k.closing.2) in
    good_bar deeper (λ _. (f example.0 k.closing.0, example.1 ++ m ∷ [], (example.0, example.1, m ∷ [], refl, example.2, (k.closing.0, shut, refl)))) k.opens_plain
    (λ _. plain_last (λ x. plain_mapped (f x) (plain_terminal k.closes_plain)) (λ x b (to, t, is). terminal_nonempty closes [] t [] refl)) k.opening.0 k.opening.1 k.opening.2
good_enclosed {d} {c} {opens} {closes} f k example (read_within within good) =
    good_ended_then (good_accept opens within k.opening.0 k.opening.1 k.opening.2) (λ _.
    good_then good (λ x. good_map (f x) (good_accept closes within k.closing.0 k.closing.1 k.closing.2))
    (λ x b m row (to, t, is). stop_first c closes k.closes_stops to m row t)
    (λ x b (to, t, is). absurd (terminal_nonempty closes [] t [] refl)))
