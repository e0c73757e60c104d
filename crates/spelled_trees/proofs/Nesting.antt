-- How deep what a row spells can be: each level of nesting adds at most three, a block or an arm, and in it a right operand of
-- `||` and one of `&&`.
use Rattle.std.proofs.Common.{◌≡◌, ℕ, suc, ◌+◌, ◌-◌, ◌*◌, ◌≤◌, max, [], ◌∷◌, ◌++◌, ap, subst, arith}
use Rattle.ivory_lexer.specs.declared.Token.{Token}
use Rattle.reading.specs.Row.{Entry, Row, Shallow}
use Rattle.reading.proofs.Rows.{shallow_front, shallow_back}

-- by what nests in the levels that are left, and some more
pub record AtMost (d : ℕ) (row : Row Token) (n more : ℕ) : Type 0 where
  pub bound : (limit : ℕ) → Shallow limit row → d ≤ limit → n ≤ 3 * (limit - d) + more

pub flat : {d more : ℕ} {row : Row Token} → AtMost d row 0 more
flat = record { bound = λ limit s up. omega arith }

pub lower : {d n m less more : ℕ} {row : Row Token} → m ≤ n → less ≤ more → AtMost d row n less → AtMost d row m more
lower down wide a = record { bound = λ limit s up. omega (arith, a.bound limit s up) }

pub loose : {d n less more : ℕ} {row : Row Token} → less ≤ more → AtMost d row n less → AtMost d row n more
loose wide a = record { bound = λ limit s up. omega (arith, a.bound limit s up) }

pub deep_ahead : {d n more : ℕ} {f : Row Token} (g : Row Token) → AtMost d f n more → AtMost d (f ++ g) n more
deep_ahead {f} g a = record { bound = λ limit s up. a.bound limit (shallow_front limit f g s) up }

pub deep_behind : {d n more : ℕ} (f : Row Token) {g : Row Token} → AtMost d g n more → AtMost d (f ++ g) n more
deep_behind f {g} a = record { bound = λ limit s up. a.bound limit (shallow_back limit f g s) up }

pub deepest_of : {d n m more : ℕ} {row : Row Token} → AtMost d row n more → AtMost d row m more → AtMost d row (max n m) more
deepest_of a b = record { bound = λ limit s up. omega (arith, a.bound limit s up, b.bound limit s up) }

-- behind a token that opens a level, with a block or an arm
pub opened : {d n : ℕ} {m : Entry Token} {f g : Row Token} → f ≡ m ∷ [] → m.depth ≡ suc d → AtMost (suc d) g n 2 → AtMost d (f ++ g) (1 + n) 0
opened {d} {m} {f} {g} e at a = record {
  bound = λ limit s up.
      let one : Shallow limit (m ∷ []) = subst (Shallow limit) e (shallow_front limit f g s) in
      let within : suc d ≤ limit = omega (arith, at, one.0) in
      omega (arith, a.bound limit (shallow_back limit f g s) within);
}

-- the same without
pub inner : {d n : ℕ} {m : Entry Token} {f g : Row Token} → f ≡ m ∷ [] → m.depth ≡ suc d → AtMost (suc d) g n 2 → AtMost d (f ++ g) n 0
inner e at a = lower (omega arith) (omega arith) (opened e at a)

-- a row that begins at this depth
pub record Begins (d : ℕ) (row : Row Token) : Type 0 where
  pub first : Entry Token
  pub others : Row Token
  pub is : row ≡ first ∷ others
  pub deep : first.depth ≡ d

pub begins : {d : ℕ} {m : Entry Token} {f : Row Token} (g : Row Token) → f ≡ m ∷ [] → m.depth ≡ d → Begins d (f ++ g)
begins {m} g e at = record { first = m; others = g; is = ap (λ y. y ++ g) e; deep = at }

-- in a block or an arm of its own, which its first token opens
pub opens : {d n : ℕ} {f : Row Token} → Begins (suc d) f → AtMost (suc d) f n 2 → AtMost d f (1 + n) 0
opens {d} b a = record {
  bound = λ limit s up.
      let all : Shallow limit (b.first ∷ b.others) = subst (Shallow limit) b.is s in
      let within : suc d ≤ limit = omega (arith, b.deep, all.0) in
      omega (arith, a.bound limit s within);
}
