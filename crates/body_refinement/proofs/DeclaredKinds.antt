-- Which locals of a body are objects of their own. A list of objects that has of a statement's locals just its `alloc`s tells them apart; and
-- the list of all `alloc`s of a body is one, since each local has a number of its own.
use Rattle.std.proofs.Common.{◌≡◌, ℕ, suc, ◌+◌, ◌<◌, ◌≤◌, List, [], ◌∷◌, Bool, refl, ◌∙◌, ap, arith}
use Rattle.std.specs.Prelude.{◌++◌, ◌||◌, nat_eq, take, slice_get, Some, true, false}
use Rattle.std.proofs.Math.Bool.{or-false}
use Rattle.std.proofs.lemmas.Bool.{ne_eqb, eq-eqb}
use Rattle.area_types.specs.Syntax.{ValueType}
use Rattle.core_tree.specs.Environments.{Env, Point, locals_in, all_locals, after, skipping, looping, within_loop}
use Rattle.core_tree.specs.Syntax.{ProcCore, ModuleCore, StmtCore, Let, LetCall, Alloc, Store, Copy, Call, If, IfElse, Map, Upto, Downto, Forever, Break, Return, Assert, NoAlloc, NoBreak, NoReturn, StmtsCore, NoStmts, MoreStmts}
use Rattle.core_tree.specs.TypedItems.{env_of, start}
use Rattle.core_tree.specs.TypedStatements.{StmtTyped, StmtsTyped, IsNext}
use Rattle.core_tree.specs.Valid.{ValidCore}
use Rattle.lower_values.specs.Frames.{allocated, allocated_stmt, is_among}
use Rattle.body_refinement.specs.Kinds.{IsValue, KindsAre, AllKindsAre}

-- ---- numbers of two lists

among_both : (m : ℕ) (xs ys : List ℕ) → is_among m (xs ++ ys) ≡ (is_among m xs || is_among m ys)
among_both m [] ys = refl
among_both m (x ∷ xs) ys = or_later (nat_eq m x) (among_both m xs ys) where
  or_later : (here : Bool) → is_among m (xs ++ ys) ≡ (is_among m xs || is_among m ys) → (here || is_among m (xs ++ ys)) ≡ ((here || is_among m xs) || is_among m ys)
  or_later true e = refl
  or_later false e = e

among_first : (m : ℕ) (xs ys : List ℕ) → is_among m ys ≡ false → is_among m (xs ++ ys) ≡ is_among m xs
among_first m xs ys none = among_both m xs ys ∙ ap (λ b. is_among m xs || b) none ∙ or-false (is_among m xs)

among_second : (m : ℕ) (xs ys : List ℕ) → is_among m xs ≡ false → is_among m (xs ++ ys) ≡ is_among m ys
among_second m xs ys none = among_both m xs ys ∙ ap (λ b. b || is_among m ys) none

-- ---- no other number is that of an `alloc`

-- it is none of so many from the first on
abbrev Elsewhere : (m first many : ℕ) → Type 0
Elsewhere m first many = first ≤ m → m < first + many → ⊥

module _ (env : Env) where
  alloc_elsewhere : (at : Point) (x : ℕ) (ty : ValueType) → IsNext env at x ty → (m : ℕ) → Elsewhere m at.next 1 → is_among m (x ∷ []) ≡ false
  alloc_elsewhere at x ty name m out = ap (λ b. b || false) (ne_eqb m x (λ same. out (omega (arith, same, name.number_is)) (omega (arith, same, name.number_is))))

  mutual
    stmt_elsewhere : (c : StmtCore) (at : Point) → StmtTyped env at c → (m : ℕ) → Elsewhere m at.next (locals_in c) → is_among m (allocated_stmt c) ≡ false
    stmt_elsewhere (Let x e) at t m out = refl
    stmt_elsewhere (LetCall x c) at t m out = refl
    stmt_elsewhere (Alloc x a i) at t m out = alloc_elsewhere at x _ t.name m out
    stmt_elsewhere (Store a b) at t m out = refl
    stmt_elsewhere (Copy a b) at t m out = refl
    stmt_elsewhere (Call c) at t m out = refl
    stmt_elsewhere (If e a) at t m out = stmts_elsewhere a at t.1 m out
    stmt_elsewhere (IfElse e a b) at t m out =
        among_second m (allocated a) (allocated b) (stmts_elsewhere a at t.1 m (λ from to. out from (omega (arith, to))))
        ∙ stmts_elsewhere b (skipping (all_locals a) at) t.2 m (λ from to. out (omega (arith, from)) (omega (arith, to)))
    stmt_elsewhere (Map x n a) at t m out = stmts_elsewhere a (within_loop x at) t.1 m (λ from to. out (omega (arith, from)) (omega (arith, to)))
    stmt_elsewhere (Upto x n e a) at t m out = stmts_elsewhere a (within_loop x at) t.2 m (λ from to. out (omega (arith, from)) (omega (arith, to)))
    stmt_elsewhere (Downto x n e a) at t m out = stmts_elsewhere a (within_loop x at) t.2 m (λ from to. out (omega (arith, from)) (omega (arith, to)))
    stmt_elsewhere (Forever a) at t m out = stmts_elsewhere a (looping at) t m out
    stmt_elsewhere Break at t m out = refl
    stmt_elsewhere (Return e) at t m out = refl
    stmt_elsewhere (Assert e c) at t m out = refl
    stmt_elsewhere (NoAlloc a) at t m out = stmts_elsewhere a _ t m out
    stmt_elsewhere (NoBreak a) at t m out = stmts_elsewhere a _ t m out
    stmt_elsewhere (NoReturn a) at t m out = stmts_elsewhere a _ t m out

    stmts_elsewhere : (ss : StmtsCore) (at : Point) → StmtsTyped env at ss → (m : ℕ) → Elsewhere m at.next (all_locals ss) → is_among m (allocated ss) ≡ false
    stmts_elsewhere NoStmts at t m out = refl
    stmts_elsewhere (MoreStmts c ss) at t m out =
        among_second m (allocated_stmt c) (allocated ss) (stmt_elsewhere c at t.0 m (λ from to. out from (omega (arith, to))))
        ∙ stmts_elsewhere ss (after c at) t.2 m (λ from to. out (omega (arith, from)) (omega (arith, to)))

-- ---- lists that have of so many locals the same

abbrev Agree : (objects own : List ℕ) (first many : ℕ) → Type 0
Agree objects own first many = (m : ℕ) → first ≤ m → m < first + many → is_among m objects ≡ is_among m own

-- each part of two has its own
agree_parts : (objects xs ys : List ℕ) (first many more : ℕ)
    → ((m : ℕ) → Elsewhere m first many → is_among m xs ≡ false) → ((m : ℕ) → Elsewhere m (first + many) more → is_among m ys ≡ false)
    → Agree objects (xs ++ ys) first (many + more) → Agree objects xs first many × Agree objects ys (first + many) more
agree_parts objects xs ys first many more of_first of_second agree = (in_first, in_second) where
  in_first : Agree objects xs first many
  in_first m from to = agree m from (omega (arith, to)) ∙ among_first m xs ys (of_second m (λ later end. omega (arith, to, later)))

  in_second : Agree objects ys (first + many) more
  in_second m from to = agree m (omega (arith, from)) (omega (arith, to)) ∙ among_second m xs ys (of_first m (λ start before. omega (arith, from, before)))

-- ---- objects and values, statement by statement

module _ (env : Env) (objects : List ℕ) where
  -- a name that no `alloc` of what it brings has
  value_kind : (at : Point) (x : ℕ) (ty : ValueType) (own : List ℕ) (many : ℕ) → IsNext env at x ty → is_among x own ≡ false → Agree objects own at.next (1 + many) → IsValue objects x
  value_kind at x ty own many name none agree = agree x (omega (arith, name.number_is)) (omega (arith, name.number_is)) ∙ none

  object_kind : (at : Point) (x : ℕ) (ty : ValueType) → IsNext env at x ty → Agree objects (x ∷ []) at.next 1 → is_among x objects ≡ true
  object_kind at x ty name agree = agree x (omega (arith, name.number_is)) (omega (arith, name.number_is)) ∙ ap (λ b. b || false) (eq-eqb x x refl)

  -- the name of a loop, and its body
  loop_kinds : (x : ℕ) (ty : ValueType) (a : StmtsCore) (at : Point) → IsNext env at x ty → StmtsTyped env (within_loop x at) a
      → (Agree objects (allocated a) (suc at.next) (all_locals a) → AllKindsAre objects a) → Agree objects (allocated a) at.next (1 + all_locals a) → IsValue objects x × AllKindsAre objects a
  loop_kinds x ty a at name t body agree = (
    value_kind at x ty (allocated a) (all_locals a) name (stmts_elsewhere env a (within_loop x at) t x (λ from to. omega (arith, from, name.number_is))) agree,
    body (λ m from to. agree m (omega (arith, from)) (omega (arith, to))),
  )

  mutual
    pub stmt_kinds : (c : StmtCore) (at : Point) → StmtTyped env at c → Agree objects (allocated_stmt c) at.next (locals_in c) → KindsAre objects c
    stmt_kinds (Let x e) at t agree = value_kind at x _ [] 0 t.name refl agree
    stmt_kinds (LetCall x c) at t agree = value_kind at x _ [] 0 t.name refl agree
    stmt_kinds (Alloc x a i) at t agree = object_kind at x _ t.name agree
    stmt_kinds (Store a b) at t agree = tt
    stmt_kinds (Copy a b) at t agree = tt
    stmt_kinds (Call c) at t agree = tt
    stmt_kinds (If e a) at t agree = stmts_kinds a at t.1 agree
    stmt_kinds (IfElse e a b) at t agree =
        let parts = agree_parts objects (allocated a) (allocated b) at.next (all_locals a) (all_locals b) (stmts_elsewhere env a at t.1) (stmts_elsewhere env b (skipping (all_locals a) at) t.2) agree in
        (stmts_kinds a at t.1 parts.0, stmts_kinds b (skipping (all_locals a) at) t.2 parts.1)
    stmt_kinds (Map x n a) at t agree = loop_kinds x _ a at t.0.name t.1 (stmts_kinds a (within_loop x at) t.1) agree
    stmt_kinds (Upto x n e a) at t agree = loop_kinds x _ a at t.0.name t.2 (stmts_kinds a (within_loop x at) t.2) agree
    stmt_kinds (Downto x n e a) at t agree = loop_kinds x _ a at t.0.name t.2 (stmts_kinds a (within_loop x at) t.2) agree
    stmt_kinds (Forever a) at t agree = stmts_kinds a (looping at) t agree
    stmt_kinds Break at t agree = tt
    stmt_kinds (Return e) at t agree = tt
    stmt_kinds (Assert e c) at t agree = tt
    stmt_kinds (NoAlloc a) at t agree = stmts_kinds a _ t agree
    stmt_kinds (NoBreak a) at t agree = stmts_kinds a _ t agree
    stmt_kinds (NoReturn a) at t agree = stmts_kinds a _ t agree

    pub stmts_kinds : (ss : StmtsCore) (at : Point) → StmtsTyped env at ss → Agree objects (allocated ss) at.next (all_locals ss) → AllKindsAre objects ss
    stmts_kinds NoStmts at t agree = tt
    stmts_kinds (MoreStmts c ss) at t agree =
        let parts = agree_parts objects (allocated_stmt c) (allocated ss) at.next (locals_in c) (all_locals ss) (stmt_elsewhere env c at t.0) (stmts_elsewhere env ss (after c at) t.2) agree in
        (stmt_kinds c at t.0 parts.0, stmts_kinds ss (after c at) t.2 parts.1)

-- ---- bodies

pub kinds_known : (core : ModuleCore) → ValidCore core → (k : ℕ) (p : ProcCore) → slice_get core.procs k ≡ Some p → AllKindsAre (allocated p.body) p.body
kinds_known core valid k p is = stmts_kinds (env_of core (take k core.procs) p) (allocated p.body) p.body (start p) (valid.procs k p is).body (λ m from to. refl)
