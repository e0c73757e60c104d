-- Tokens in order: where two rows meet, and where a row begins and ends.
use Rattle.std.proofs.Common.{◌≡◌, ℕ, ◌-◌, ◌<◌, ◌≤◌, List, [], ◌∷◌, ◌++◌, refl, sym, subst, length, arith}
use Rattle.std.specs.Prelude.{slice_get}
use Rattle.ivory_lexer.specs.declared.Token.{Token}
use Rattle.ivory_lexer.specs.Tokens.{InOrder}
use Rattle.reading.specs.Row.{Entry, Row, tokens}
use Rattle.expression_grammar.specs.Tokens.{span_of, end_of}

-- the tokens of a row are in order between these places
pub record Ordered (low : ℕ) (row : Row Token) (high : ℕ) : Type 0 where
  pub in_order : InOrder low (tokens row) high

ordered_up : (low : ℕ) (ts : List Token) (high : ℕ) → InOrder low ts high → low ≤ high
ordered_up low [] high o = o
ordered_up low (t ∷ ts) high o = let up : t.span.end ≤ high = ordered_up t.span.end ts high o.3 in omega arith

pub upward : {low high : ℕ} {row : Row Token} → Ordered low row high → low ≤ high
upward {low} {high} {row} o = ordered_up low (tokens row) high o.in_order

-- two rows meet at some place
pub record Met (low : ℕ) (f g : Row Token) (high : ℕ) : Type 0 where
  pub here : ℕ
  pub front : Ordered low f here
  pub back : Ordered here g high

pub split : {low high : ℕ} (f g : Row Token) → Ordered low (f ++ g) high → Met low f g high
split {low} {high} [] g o = record { here = low; front = record { in_order = omega arith }; back = o }
split {low} {high} (m ∷ f) g o =
    let w : Met m.token.span.end f g high = split f g (record { in_order = o.in_order.3 }) in
    record { here = w.here; front = record { in_order = (o.in_order.0, o.in_order.1, o.in_order.2, w.front.in_order) }; back = w.back }

-- what holds where the tokens of a row are in order
pub record Where (row : Row Token) (P : Type 0) : Type 0 where
  pub holds : {low high : ℕ} → Ordered low row high → P

pub always : {row : Row Token} {P : Type 0} → P → Where row P
always p = record { holds = λ o. p }

pub both : {row : Row Token} {P Q : Type 0} → Where row P → Where row Q → Where row (P × Q)
both p q = record { holds = λ o. (p.holds o, q.holds o) }

pub all_three : {row : Row Token} {P Q R : Type 0} → Where row P → Where row Q → Where row R → Where row (P × Q × R)
all_three p q r = record { holds = λ o. (p.holds o, q.holds o, r.holds o) }

pub ahead : {f : Row Token} (g : Row Token) {P : Type 0} → Where f P → Where (f ++ g) P
ahead {f} g p = record { holds = λ o. p.holds (split f g o).front }

pub behind : (f : Row Token) {g : Row Token} {P : Type 0} → Where g P → Where (f ++ g) P
behind f {g} p = record { holds = λ o. p.holds (split f g o).back }

-- a row with a token

abbrev pub Filled : Row Token → Type 0
Filled [] = ⊥
Filled (m ∷ row) = Unit {0}

pub filled_front : (f g : Row Token) → Filled f → Filled (f ++ g)
filled_front [] g none = absurd none
filled_front (m ∷ f) g is = tt

pub filled_back : (f g : Row Token) → Filled g → Filled (f ++ g)
filled_back [] g is = is
filled_back (m ∷ f) g is = tt

pub filled_token : {m : Entry Token} {f : Row Token} → f ≡ m ∷ [] → Filled f
filled_token e = subst Filled (sym e) tt

pub filled_up : {low high : ℕ} {f : Row Token} → Filled f → Ordered low f high → low < high
filled_up {f = []} none o = absurd none
filled_up {low} {high} {f = m ∷ f} is o = let up : m.token.span.end ≤ high = ordered_up m.token.span.end (tokens f) high o.in_order.3 in omega (arith, o.in_order.0, o.in_order.1)

-- the place of the only token of a row
pub record TokenPlace (low : ℕ) (t : Token) (high : ℕ) : Type 0 where
  pub begins : low ≤ t.span.start
  pub some : t.span.start < t.span.end
  pub ends : t.span.end ≤ high

pub token_place : {low high : ℕ} {m : Entry Token} {f : Row Token} → f ≡ m ∷ [] → Ordered low f high → TokenPlace low m.token high
token_place {low} {high} {m} e o =
    let p : Ordered low (m ∷ []) high = subst (λ r. Ordered low r high) e o in
    record { begins = p.in_order.0; some = p.in_order.1; ends = p.in_order.3 }

-- the end of the last of these tokens, or this place where there is none
abbrev last_place : ℕ → List Token → ℕ
last_place low [] = low
last_place low (t ∷ ts) = last_place t.span.end ts

at_last : (t : Token) (ts : List Token) → end_of (slice_get (t ∷ ts) (length ts)) ≡ last_place t.span.end ts
at_last t [] = refl
at_last t (u ∷ ts) = at_last u ts

ends_at : (t : Token) (ts : List Token) → (span_of (t ∷ ts)).end ≡ last_place t.span.end ts
unfolding span_of
ends_at t ts = let n : length (t ∷ ts) - 1 ≡ length ts = omega arith in rw n (at_last t ts)

starts_at : (t : Token) (ts : List Token) → (span_of (t ∷ ts)).start ≡ t.span.start
unfolding span_of
starts_at t ts = refl

ordered_to_last : (low : ℕ) (ts : List Token) (high : ℕ) → InOrder low ts high → InOrder low ts (last_place low ts) × (last_place low ts ≤ high)
ordered_to_last low [] high o = (omega arith, o)
ordered_to_last low (t ∷ ts) high o = let w = ordered_to_last t.span.end ts high o.3 in ((o.0, o.1, o.2, w.0), w.1)

-- a row lies tightly in its span
pub record Tight (low : ℕ) (row : Row Token) (high : ℕ) : Type 0 where
  pub begins : low ≤ (span_of (tokens row)).start
  pub inside : Ordered (span_of (tokens row)).start row (span_of (tokens row)).end
  pub ends : (span_of (tokens row)).end ≤ high
  pub some : (span_of (tokens row)).start < (span_of (tokens row)).end

pub tight : {low high : ℕ} (row : Row Token) → Filled row → Ordered low row high → Tight low row high
tight [] none o = absurd none
tight {low} {high} (m ∷ row) is o =
    let t = m.token in
    let ts = tokens row in
    let s = starts_at t ts in
    let e = ends_at t ts in
    let w = ordered_to_last t.span.end ts high o.in_order.3 in
    let up : t.span.end ≤ last_place t.span.end ts = ordered_up t.span.end ts (last_place t.span.end ts) w.0 in
    record {
      begins = rw s o.in_order.0;
      inside = record { in_order = ((let h : t.span.start ≤ t.span.start = omega arith in rw s h), o.in_order.1, o.in_order.2, rw e w.0) };
      ends = rw e w.1;
      some = rw (s, e) (omega arith);
    }
