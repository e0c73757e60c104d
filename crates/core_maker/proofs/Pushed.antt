-- One more link or step stands outermost.
use Rattle.std.proofs.Common.{◌≡◌, List, [], ◌∷◌, ◌++◌, map, refl}
use Rattle.core_tree.specs.Syntax as core
use Rattle.core_tree.specs.Syntax.{ExprCore}
use Rattle.core_tree.specs.View.{linked, stepped, part_of, link_of, step_of}
use Rattle.core_tree.specs.declared.CoreLink.{CoreLink}
use Rattle.core_tree.specs.declared.CoreStep.{CoreStep}

pub link_pushed : (c : ExprCore) (links : List CoreLink) (x : CoreLink) → linked c (map link_of (links ++ x ∷ [])) ≡ core.Binary (link_of x).label (link_of x).op (linked c (map link_of links)) (link_of x).right
link_pushed c [] x = refl
link_pushed c (l ∷ ls) x = link_pushed (core.Binary (link_of l).label (link_of l).op c (link_of l).right) ls x

pub step_pushed : (c : ExprCore) (steps : List CoreStep) (x : CoreStep) → stepped c (map step_of (steps ++ x ∷ [])) ≡ part_of (stepped c (map step_of steps)) (step_of x)
step_pushed c [] x = refl
step_pushed c (t ∷ ts) x = step_pushed (part_of c (step_of t)) ts x
