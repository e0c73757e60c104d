-- The sites of a core: its checks, each once, in the order of the tokens that carry them, numbered from 0. At one token they
-- stand in the order in which its operator makes them: a quotient by 0 before a quotient that does not fit.
use Rattle.std.specs.Prelude.{◌≡◌, ℕ, suc, Bool, true, false, ◌&&◌, ◌||◌, nat_eq, nat_lt, List, [], ◌∷◌, IsTrue}
use Rattle.std.specs.List.Sorted.{IsPermutation}
use Rattle.core_tree.specs.declared.check.SiteKind.{SiteKind}
use Rattle.core_tree.specs.declared.check.SiteKind.TheVariants.{DivZero, Overflow}
use Rattle.core_tree.specs.declared.check.Check.{Check}
use Rattle.core_tree.specs.Syntax.{ModuleCore}
use Rattle.core_tree.specs.Checks.{checks_of}

-- the operator makes the first check before the second
abbrev pub is_made_before : SiteKind → SiteKind → Bool
is_made_before DivZero Overflow = true
is_made_before _ _ = false

-- its token begins before that of the other, or both are of one operator, which makes it before the other
abbrev pub stands_before : Check → Check → Bool
stands_before c d = nat_lt c.span.start d.span.start || (nat_eq c.span.start d.span.start && is_made_before c.kind d.kind)

abbrev pub IsFirstOf : Check → List Check → Type 0
IsFirstOf c [] = Unit {0}
IsFirstOf c (d ∷ ds) = IsTrue (stands_before c d)

-- each stands before the next
abbrev pub Ascends : List Check → Type 0
Ascends [] = Unit {0}
Ascends (c ∷ cs) = IsFirstOf c cs × Ascends cs

-- their numbers are n, n + 1 and so on
abbrev pub IsNumberedFrom : ℕ → List Check → Type 0
IsNumberedFrom n [] = Unit {0}
IsNumberedFrom n (c ∷ cs) = (c.site ≡ n) × IsNumberedFrom (suc n) cs

-- these checks as a row of sites
pub record AreSitesOf (checks sites : List Check) : Type 0 where
  pub all : IsPermutation checks sites
  pub ascending : Ascends sites
  pub numbered : IsNumberedFrom 0 sites

abbrev pub AreSites : ModuleCore → List Check → Type 0
AreSites m sites = AreSitesOf (checks_of m) sites
