-- Checks numbered one after another, in the order in which they stand in a core.
use Rattle.std.specs.Prelude.{ℕ, ◌+◌, List, [], ◌∷◌}
use Rattle.core_tree.specs.Syntax as core
use Rattle.core_tree.specs.Syntax.{Label, ExprCore}
use Rattle.core_tree.specs.declared.Check.{Check}
use Rattle.core_tree.specs.declared.SiteKind.{SiteKind}
use Rattle.iv_words.specs.declared.Span.{Span}
use Rattle.typing_rules.specs.ExpressionCores.{checks_at}

abbrev pub checks_from : ℕ → List Check → List Check
checks_from n [] = []
checks_from n (c ∷ cs) = record { site = n; kind = c.kind; span = c.span } ∷ checks_from (n + 1) cs

-- the number after theirs
abbrev pub checks_after : ℕ → List Check → ℕ
checks_after n [] = n
checks_after n (c ∷ cs) = checks_after (n + 1) cs

abbrev pub label_from : ℕ → Label → Label
label_from n l = record { ty = l.ty; checks = checks_from n l.checks }

abbrev pub label_after : ℕ → Label → ℕ
label_after n l = checks_after n l.checks

abbrev pub expr_after : ℕ → ExprCore → ℕ
expr_after n (core.Number l value) = label_after n l
expr_after n (core.Outcome l) = label_after n l
expr_after n (core.Local l number) = label_after n l
expr_after n (core.AreaName l number) = label_after n l
expr_after n (core.Cast l e) = expr_after (label_after n l) e
expr_after n (core.ToIndex l e) = expr_after (label_after n l) e
expr_after n (core.WrapIndex l e) = expr_after (label_after n l) e
expr_after n (core.MakeBits l e) = expr_after (label_after n l) e
expr_after n (core.Raw l e) = expr_after (label_after n l) e
expr_after n (core.SetField l e field value) = expr_after (expr_after (label_after n l) e) value
expr_after n (core.Prefix l op e) = expr_after (label_after n l) e
expr_after n (core.Binary l op left right) = expr_after (label_after (expr_after n left) l) right
expr_after n (core.Field l e field) = label_after (expr_after n e) l
expr_after n (core.Element l e index) = expr_after (label_after (expr_after n e) l) index
expr_after n (core.Cond l test first second) = expr_after (expr_after (label_after (expr_after n test) l) first) second
expr_after n (core.Whole l e) = label_after (expr_after n e) l

abbrev pub expr_from : ℕ → ExprCore → ExprCore
expr_from n (core.Number l value) = core.Number (label_from n l) value
expr_from n (core.Outcome l) = core.Outcome (label_from n l)
expr_from n (core.Local l number) = core.Local (label_from n l) number
expr_from n (core.AreaName l number) = core.AreaName (label_from n l) number
expr_from n (core.Cast l e) = core.Cast (label_from n l) (expr_from (label_after n l) e)
expr_from n (core.ToIndex l e) = core.ToIndex (label_from n l) (expr_from (label_after n l) e)
expr_from n (core.WrapIndex l e) = core.WrapIndex (label_from n l) (expr_from (label_after n l) e)
expr_from n (core.MakeBits l e) = core.MakeBits (label_from n l) (expr_from (label_after n l) e)
expr_from n (core.Raw l e) = core.Raw (label_from n l) (expr_from (label_after n l) e)
expr_from n (core.SetField l e field value) = core.SetField (label_from n l) (expr_from (label_after n l) e) field (expr_from (expr_after (label_after n l) e) value)
expr_from n (core.Prefix l op e) = core.Prefix (label_from n l) op (expr_from (label_after n l) e)
expr_from n (core.Binary l op left right) = core.Binary (label_from (expr_after n left) l) op (expr_from n left) (expr_from (label_after (expr_after n left) l) right)
expr_from n (core.Field l e field) = core.Field (label_from (expr_after n e) l) (expr_from n e) field
expr_from n (core.Element l e index) = core.Element (label_from (expr_after n e) l) (expr_from n e) (expr_from (label_after (expr_after n e) l) index)
expr_from n (core.Cond l test first second) =
    core.Cond (label_from (expr_after n test) l) (expr_from n test) (expr_from (label_after (expr_after n test) l) first) (expr_from (expr_after (label_after (expr_after n test) l) first) second)
expr_from n (core.Whole l e) = core.Whole (label_from (expr_after n e) l) (expr_from n e)

-- ---- of these kinds at a token

abbrev pub kinds_from : ℕ → List SiteKind → Span → List Check
kinds_from n kinds at = checks_from n (checks_at kinds at)

abbrev pub kinds_after : ℕ → List SiteKind → Span → ℕ
kinds_after n kinds at = checks_after n (checks_at kinds at)
