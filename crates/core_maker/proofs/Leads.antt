-- What stands before the rest of the links is wanted as before the link, unless something is settled.
use Rattle.std.proofs.Common.{◌≡◌, List, [], ◌∷◌, Bool, true, false, cond, ◌||◌, refl, ap, ◌∙◌}
use Rattle.ivory_tree.specs.View.{LinkSyntax}
use Rattle.area_types.specs.Syntax as types
use Rattle.area_types.specs.Syntax.{ValueType}
use Rattle.source_types.specs.Operators.{is_logic, is_comparison}
use Rattle.source_types.specs.Settled.{settled}
use Rattle.typing_rules.specs.Environments.{Env}
use Rattle.typing_rules.specs.ExpressionCores.{own}
use Rattle.core_maker.specs.Chains.{link_settled, link_own, want_of, next_lead}

-- of a link that settles nothing
unsettled : (logic comparison d sr : Bool) (a t o x : ValueType) → (logic || comparison) || d || sr ≡ false → a ≡ cond logic types.Truth (cond d t (cond sr o x)) → a ≡ x
unsettled false false false false a t o x h k = k
unsettled true c d sr a t o x h k = let no : ⊥ = cc in absurd no
unsettled false true d sr a t o x h k = let no : ⊥ = cc in absurd no
unsettled false false true sr a t o x h k = let no : ⊥ = cc in absurd no
unsettled false false false true a t o x h k = let no : ⊥ = cc in absurd no

next_is : (done : Bool) (logic : Bool) (t lead rest : ValueType) → (done ≡ false → lead ≡ cond logic types.Truth (cond false t rest)) → cond logic types.Truth (cond done t lead) ≡ cond logic types.Truth (cond done t rest)
next_is true logic t lead rest h = refl
next_is false true t lead rest h = refl
next_is false false t lead rest h = h refl

pub lead_is : (env : Env) (w lead : ValueType) (d : Bool) (t : ValueType) (l : LinkSyntax) (ls : List LinkSyntax) → lead ≡ want_of env w d t (l ∷ ls) → next_lead w (link_settled d l) (link_own env d t l) lead ls ≡ want_of env w (link_settled d l) (link_own env d t l) ls
lead_is env w lead d t l [] h = refl
lead_is env w lead d t l (m ∷ ms) h =
    let u = link_own env d t l in
    next_is (link_settled d l) (is_logic m.op) u lead (cond (settled m.right) (own env m.right) (want_of env w (link_settled (link_settled d l) m) (link_own env (link_settled d l) u m) ms))
    (λ e. unsettled (is_logic l.op) (is_comparison l.op) d (settled l.right) lead t (own env l.right) (want_of env w (link_settled d l) u (m ∷ ms)) e h
    ∙ ap (λ (b : Bool). cond (is_logic m.op) types.Truth (cond b u (cond (settled m.right) (own env m.right) (want_of env w (link_settled (link_settled d l) m) (link_own env (link_settled d l) u m) ms)))) e)
