-- Operators in runs: exported procedures of two parameters, whose body returns one operation on them.
use Rattle.std.specs.Prelude.{◌≡◌, ℕ, ℤ, pos, neg_ℤ, List, [], ◌∷◌, Some, codes}
use Rattle.iv_words.specs.declared.IntKind.{IntKind}
use Rattle.iv_words.specs.declared.IntKind.TheVariants.{U8, U16, I8, I32, I64}
use Rattle.run_records.specs.declared.End.TheVariants.{Ended, Stopped}
use Rattle.run_records.specs.declared.Outcome.{Outcome}
use Rattle.ivory_tree.specs.declared.BinOp.{BinOp}
use Rattle.ivory_tree.specs.declared.BinOp.TheVariants as op
use Rattle.area_types.specs.Syntax.{Name, Truth, Int}
use Rattle.core_tree.specs.declared.Check.{Check}
use Rattle.core_tree.specs.declared.SiteKind.TheVariants.{Overflow, DivZero, Shift}
use Rattle.core_tree.specs.Syntax.{ProcCore, Return}
use Rattle.core_meaning.specs.Run.{run_src}
use Rattle.core_meaning.specs.ExampleForms.{site, constant, local, chain, procedure, module_of, script, shown, going, gave}

-- `export proc NAME(a : K, b : K) -> K { return a OP b; }`
abbrev pub operating : Name → IntKind → BinOp → List Check → ProcCore
operating name kind o checks =
    procedure name (Int kind ∷ Int kind ∷ []) (Some (Int kind)) [] (Return (Some (chain (Int kind) checks o (local (Int kind) 0) (local (Int kind) 1))) ∷ [])

abbrev pub run_of : ProcCore → List (Name × List ℤ) → ℕ → Outcome
run_of p calls n = run_src (module_of [] [] (p ∷ [])) (script calls []) n

-- one call on two numbers
abbrev pub on : ProcCore → ℤ → ℤ → ℕ → Outcome
on p a b n = run_of p ((p.name, a ∷ b ∷ []) ∷ []) n

abbrev pub gives : ProcCore → ℤ → Outcome
gives p v = shown (gave p.name v ∷ []) Ended []

abbrev pub stops : ℕ → Outcome
stops k = shown [] (Stopped k) []

-- the entry call, the operator and the return take a step each; a check that fails stops the run after the operator's
abbrev pub f : ProcCore
f = operating (codes "f") U8 op.Add (site 0 Overflow ∷ [])

pub record SumExamples : Type 0 where
  pub fits : on f (pos 255) (pos 0) 10_000 ≡ gives f (pos 255)
  pub in_three : on f (pos 255) (pos 0) 3 ≡ gives f (pos 255)
  pub in_two : on f (pos 255) (pos 0) 2 ≡ going []
  pub too_great : on f (pos 255) (pos 1) 10_000 ≡ stops 0
  pub stops_in_two : on f (pos 255) (pos 1) 2 ≡ stops 0
  pub goes_in_one : on f (pos 255) (pos 1) 1 ≡ going []

-- of its two checks the one for 0 comes first
abbrev pub quotient : ProcCore
quotient = operating (codes "f") I8 op.Div (site 0 DivZero ∷ site 1 Overflow ∷ [])

abbrev pub d : ProcCore
d = operating (codes "d") I32 op.Div (site 0 DivZero ∷ site 1 Overflow ∷ [])

abbrev pub r : ProcCore
r = operating (codes "r") I32 op.Rem (site 2 DivZero ∷ site 3 Overflow ∷ [])

pub record QuotientExamples : Type 0 where
  pub least : on quotient (neg_ℤ (pos 128)) (neg_ℤ (pos 1)) 10_000 ≡ stops 1
  pub by_zero : on quotient (neg_ℤ (pos 128)) (pos 0) 10_000 ≡ stops 0
  pub rounded : run_src (module_of [] [] (d ∷ r ∷ [])) (script ((codes "d", neg_ℤ (pos 7) ∷ pos 2 ∷ []) ∷ (codes "r", neg_ℤ (pos 7) ∷ pos 2 ∷ []) ∷ []) []) 10_000
      ≡ shown (gave (codes "d") (neg_ℤ (pos 3)) ∷ gave (codes "r") (neg_ℤ (pos 1)) ∷ []) Ended []

abbrev pub s : ProcCore
s = operating (codes "s") U8 op.Shl (site 0 Shift ∷ [])

pub record ShiftExamples : Type 0 where
  pub high_bit : on s (pos 1) (pos 7) 10_000 ≡ gives s (pos 128)
  pub modulo : on s (pos 255) (pos 7) 10_000 ≡ gives s (pos 128)
  pub too_far : on s (pos 1) (pos 8) 10_000 ≡ stops 0

abbrev pub w : ProcCore
w = operating (codes "w") U16 op.WrapMul []

abbrev pub c : ProcCore
c = operating (codes "c") U16 op.Mul (site 0 Overflow ∷ [])

abbrev pub m : ProcCore
m = operating (codes "m") I64 op.Mul (site 0 Overflow ∷ [])

pub record ProductExamples : Type 0 where
  pub wraps : on w (pos 65535) (pos 65535) 10_000 ≡ gives w (pos 1)
  pub stops_there : on c (pos 65535) (pos 65535) 10_000 ≡ stops 0
  pub greatest : on m (pos 9223372036854775807) (pos 1) 10_000 ≡ gives m (pos 9223372036854775807)
  pub too_great : on m (neg_ℤ (pos 9223372036854775808)) (neg_ℤ (pos 1)) 10_000 ≡ stops 0

-- `export proc g(z : int32_t) -> bool { return false && (1 / z == 1); }`: what decides is not evaluated further
abbrev pub g : ProcCore
g = procedure (codes "g") (Int I32 ∷ []) (Some Truth) [] (Return (Some (chain Truth [] op.AndAlso (constant Truth 0)
    (chain Truth [] op.Eq (chain (Int I32) (site 0 DivZero ∷ site 1 Overflow ∷ []) op.Div (constant (Int I32) 1) (local (Int I32) 0)) (constant (Int I32) 1)))) ∷ [])

abbrev pub gives_g : Outcome
gives_g = gives g (pos 0)

pub record AndExamples : Type 0 where
  pub decided : run_of g ((codes "g", pos 0 ∷ []) ∷ []) 10_000 ≡ gives_g
  pub in_three : run_of g ((codes "g", pos 0 ∷ []) ∷ []) 3 ≡ gives_g
  pub in_two : run_of g ((codes "g", pos 0 ∷ []) ∷ []) 2 ≡ going []
