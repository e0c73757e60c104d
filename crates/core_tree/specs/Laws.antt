-- Laws of cores: the same checks are one row of sites at most, and each exported procedure is an export.
use Rattle.std.specs.Prelude.{◌≡◌, List, map, filter}
use Rattle.core_tree.specs.declared.check.Check.{Check}
use Rattle.core_tree.specs.Syntax.{ModuleCore}
use Rattle.core_tree.specs.Exports.{exports_of}
use Rattle.core_tree.specs.Sites.{AreSitesOf}
use Rattle.core_tree.specs.Valid.{ValidCore}

abbrev pub SitesAreOneRow : Type 0
SitesAreOneRow = (checks row other : List Check) → AreSitesOf checks row → AreSitesOf checks other → row ≡ other

-- in order; their types are plain, since the core is valid
abbrev pub ExportsAreAll : Type 0
ExportsAreAll = (m : ModuleCore) → ValidCore m → map (λ x. x.name) (exports_of m) ≡ map (λ p. p.name) (filter (λ p. p.exported) m.procs)
