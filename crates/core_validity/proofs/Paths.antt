-- A core falls through, and breaks, where the text does; and how many locals a statement adds.
use Rattle.std.proofs.Common.{◌≡◌, ℕ, ◌+◌, List, [], ◌∷◌, ◌++◌, length, true, false, ◌&&◌, ◌||◌, refl, sym, ◌∙◌, ap, ap₂, arith, append_assoc, append-nil, length-append}
use Rattle.ivory_tree.specs.Syntax.{StmtSyntax, BlockSyntax, StmtsSyntax}
use Rattle.area_types.specs.Syntax as types
use Rattle.area_types.specs.Syntax.{ValueType}
use Rattle.control_effects.specs.Falling as text_falls
use Rattle.control_effects.specs.Breaks as text_breaks
use Rattle.core_tree.specs.Syntax.{StmtCore, StmtsCore}
use Rattle.core_tree.specs.Falling.{stmt_breaks, stmts_break, stmt_falls, stmts_fall}
use Rattle.core_tree.specs.Environments.{locals_in, all_locals}
use Rattle.typing_rules.specs.Environments.{Env}
use Rattle.typing_rules.specs.Statements as stands
use Rattle.typing_rules.specs.Statements.{StandsStmt, StandsBlock, StandAll}
use Rattle.core_validity.proofs.Lists.{Begins}

-- ---- paths

mutual
  breaks_same : {env after : Env} {s : StmtSyntax} {c : StmtCore} → StandsStmt env s after c → stmt_breaks c ≡ text_breaks.stmt_breaks s
  breaks_same (stands.let_stands x h) = refl
  breaks_same (stands.let_call_stands x k) = refl
  breaks_same (stands.alloc_stands a x names fill) = refl
  breaks_same (stands.store_stands h q u) = refl
  breaks_same (stands.copy_stands h g k) = refl
  breaks_same (stands.call_stands k) = refl
  breaks_same (stands.if_stands u b) = block_breaks_same b
  breaks_same (stands.if_else_stands u h k) = ap₂ (λ x y. x || y) (block_breaks_same h) (block_breaks_same k)
  breaks_same (stands.map_stands x l b) = refl
  breaks_same (stands.upto_stands x l u b) = refl
  breaks_same (stands.downto_stands x l u b) = refl
  breaks_same (stands.forever_stands b) = refl
  breaks_same (stands.break_stands a) = refl
  breaks_same (stands.return_stands a r) = refl
  breaks_same (stands.assert_stands u m) = refl
  breaks_same (stands.no_alloc_stands b) = block_breaks_same b
  breaks_same (stands.no_break_stands b) = block_breaks_same b
  breaks_same (stands.no_return_stands b) = block_breaks_same b

  block_breaks_same : {env last : Env} {b : BlockSyntax} {p : StmtsCore} → StandsBlock env b last p → stmts_break p ≡ text_breaks.block_breaks b
  block_breaks_same (stands.braces all) = all_break_same all

  all_break_same : {env last : Env} {ss : StmtsSyntax} {p : StmtsCore} → StandAll env ss last p → stmts_break p ≡ text_breaks.stmts_break ss
  all_break_same stands.none_stand = refl
  all_break_same (stands.last_stands h) = ap (λ x. x || false) (breaks_same h)
  all_break_same (stands.more_stand h falls more) = ap₂ (λ x y. x || y) (breaks_same h) (all_break_same more)

mutual
  pub falls_same : {env after : Env} {s : StmtSyntax} {c : StmtCore} → StandsStmt env s after c → stmt_falls c ≡ text_falls.stmt_falls s
  falls_same (stands.let_stands x h) = refl
  falls_same (stands.let_call_stands x k) = refl
  falls_same (stands.alloc_stands a x names fill) = refl
  falls_same (stands.store_stands h q u) = refl
  falls_same (stands.copy_stands h g k) = refl
  falls_same (stands.call_stands k) = refl
  falls_same (stands.if_stands u b) = refl
  falls_same (stands.if_else_stands u h k) = ap₂ (λ x y. x || y) (block_falls_same h) (block_falls_same k)
  falls_same (stands.map_stands x l b) = refl
  falls_same (stands.upto_stands x l u b) = refl
  falls_same (stands.downto_stands x l u b) = refl
  falls_same (stands.forever_stands b) = block_breaks_same b
  falls_same (stands.break_stands a) = refl
  falls_same (stands.return_stands a r) = refl
  falls_same (stands.assert_stands u m) = refl
  falls_same (stands.no_alloc_stands b) = block_falls_same b
  falls_same (stands.no_break_stands b) = block_falls_same b
  falls_same (stands.no_return_stands b) = block_falls_same b

  pub block_falls_same : {env last : Env} {b : BlockSyntax} {p : StmtsCore} → StandsBlock env b last p → stmts_fall p ≡ text_falls.block_falls b
  block_falls_same (stands.braces all) = all_fall_same all

  all_fall_same : {env last : Env} {ss : StmtsSyntax} {p : StmtsCore} → StandAll env ss last p → stmts_fall p ≡ text_falls.stmts_fall ss
  all_fall_same stands.none_stand = refl
  all_fall_same (stands.last_stands h) = ap (λ x. x && true) (falls_same h)
  all_fall_same (stands.more_stand h falls more) = ap₂ (λ x y. x && y) (falls_same h) (all_fall_same more)

-- ---- locals

-- so many locals are added at the end
pub record Grown (before later : List ValueType) (count : ℕ) : Type 0 where
  pub added : List ValueType
  pub is : later ≡ before ++ added
  pub long : length added ≡ count

grown_none : (xs : List ValueType) → Grown xs xs 0
grown_none xs = record { added = []; is = sym (append-nil xs); long = refl }

grown_one : (xs : List ValueType) (t : ValueType) → Grown xs (xs ++ t ∷ []) 1
grown_one xs t = record { added = t ∷ []; is = refl; long = refl }

grown_both : (xs ys zs : List ValueType) (m n : ℕ) → Grown xs ys m → Grown ys zs n → Grown xs zs (m + n)
grown_both xs ys zs m n a b = record {
  added = a.added ++ b.added;
  is = b.is ∙ ap (λ l. l ++ b.added) a.is ∙ append_assoc xs a.added b.added;
  long = omega (arith, length-append a.added b.added, a.long, b.long);
}

pub begins_before : (xs ys zs : List ValueType) (count : ℕ) → Grown xs ys count → Begins ValueType ys zs → Begins ValueType xs zs
begins_before xs ys zs count g b = record { rest = g.added ++ b.rest; is = b.is ∙ ap (λ l. l ++ b.rest) g.is ∙ append_assoc xs g.added b.rest }

mutual
  pub stmt_grows : {env after : Env} {s : StmtSyntax} {c : StmtCore} → StandsStmt env s after c → Grown env.locals after.locals (locals_in c)
  stmt_grows (stands.let_stands {env = env} {c = c} x h) = grown_one env.locals _
  stmt_grows (stands.let_call_stands {env = env} {t = t} x k) = grown_one env.locals t
  stmt_grows (stands.alloc_stands {env = env} {area = area} a x names fill) = grown_one env.locals (stands.own area)
  stmt_grows (stands.store_stands {env = env} h q u) = grown_none env.locals
  stmt_grows (stands.copy_stands {env = env} h g k) = grown_none env.locals
  stmt_grows (stands.call_stands {env = env} k) = grown_none env.locals
  stmt_grows (stands.if_stands u b) = block_grows b
  stmt_grows (stands.if_else_stands {env = env} {last = last} {end = end} {p = p} {q = q} u h k) = grown_both env.locals last.locals end.locals (all_locals p) (all_locals q) (block_grows h) (block_grows k)
  stmt_grows (stands.map_stands {env = env} {last = last} {n = n} {p = p} x l b) = grown_both env.locals (env.locals ++ types.Ix n ∷ []) last.locals 1 (all_locals p) (grown_one env.locals (types.Ix n)) (block_grows b)
  stmt_grows (stands.upto_stands {env = env} {last = last} {n = n} {p = p} x l u b) = grown_both env.locals (env.locals ++ types.Ix n ∷ []) last.locals 1 (all_locals p) (grown_one env.locals (types.Ix n)) (block_grows b)
  stmt_grows (stands.downto_stands {env = env} {last = last} {n = n} {p = p} x l u b) = grown_both env.locals (env.locals ++ types.Ix n ∷ []) last.locals 1 (all_locals p) (grown_one env.locals (types.Ix n)) (block_grows b)
  stmt_grows (stands.forever_stands b) = block_grows b
  stmt_grows (stands.break_stands {env = env} a) = grown_none env.locals
  stmt_grows (stands.return_stands {env = env} a r) = grown_none env.locals
  stmt_grows (stands.assert_stands {env = env} u m) = grown_none env.locals
  stmt_grows (stands.no_alloc_stands b) = block_grows b
  stmt_grows (stands.no_break_stands b) = block_grows b
  stmt_grows (stands.no_return_stands b) = block_grows b

  pub block_grows : {env last : Env} {b : BlockSyntax} {p : StmtsCore} → StandsBlock env b last p → Grown env.locals last.locals (all_locals p)
  block_grows (stands.braces all) = all_grow all

  pub all_grow : {env last : Env} {ss : StmtsSyntax} {p : StmtsCore} → StandAll env ss last p → Grown env.locals last.locals (all_locals p)
  all_grow (stands.none_stand {env = env}) = grown_none env.locals
  all_grow (stands.last_stands {env = env} {after = after} {c = c} h) =
      let g = stmt_grows h in record { added = g.added; is = g.is; long = omega (arith, g.long) }
  all_grow (stands.more_stand {env = env} {after = after} {end = end} {c = c} {p = p} h falls more) = grown_both env.locals after.locals end.locals (locals_in c) (all_locals p) (stmt_grows h) (all_grow more)
