-- What the statements before an expression add to a state: a name of the function stands as before, holds a value, or names an object made since. Such
-- statements call nothing but the stop of a check.
use Rattle.std.proofs.Common.{◌≡◌, ◌⊎◌, inl, inr, ⊎_elim, ℕ, zero, suc, ◌≤◌, ℤ, Bool, true, false, List, [], ◌∷◌, ◌++◌, length, Option, Some, None, Result, Ok, Err, refl, sym, ◌∙◌, ap, subst, arith, length-append}
use Rattle.std.specs.Prelude.{if◌then◌else◌}
use Rattle.std.specs.List.{find}
use Rattle.iv_words.specs.Words.{same_word}
use Rattle.iv_words.proofs.Equality.{same_self}
use Rattle.type_trees.specs.Trees.{Leaf, Many, Struct}
use Rattle.type_trees.specs.Values.{cells}
use Rattle.step_semantics.specs.Control.{Control, Falls, Broke, Returned, onward}
use Rattle.step_semantics.specs.Steps.{World, Progress, Finished, Halted, Exhausted, Part, give, after, tick, change, left, block}
use Rattle.c_memory.specs.Access.{Fault}
use Rattle.c_memory.specs.Initializers as values
use Rattle.c_ast.specs.declared.CBase.{CBase}
use Rattle.c_ast.specs.declared.CScalar.{CScalar}
use Rattle.c_ast.specs.declared.CScalar.TheVariants.{Int}
use Rattle.c_ast.specs.declared.CType.{CType}
use Rattle.c_ast.specs.declared.CType.TheVariants.{Value}
use Rattle.iv_words.specs.declared.IntKind.TheVariants.{U32}
use Rattle.c_ast.specs.Names.{named, stop_name}
use Rattle.c_ast.specs.Structs.{CTree, tree}
use Rattle.c_ast.specs.Syntax.{Name, Expr, Init, Stmt, Const, ConstCall, Object, Assign, If, IfElse, Forever, Break, Return, Block, Call, Stmts, Nil, Cons, FunctionCall}
use Rattle.c_ast.specs.View.{stmts_from}
use Rattle.c_ast.specs.Targets.{table_of}
use Rattle.c_meaning.specs.Calls as calls
use Rattle.c_meaning.specs.Calls.{CallResult, Calls, given, call, call_found, stop_call}
use Rattle.c_meaning.specs.Expressions.{eval, eval_place, eval_all}
use Rattle.c_meaning.specs.Initializers.{eval_init, as_number, in_numbers, made_with}
use Rattle.c_meaning.specs.Memory.{CObjects, memory_of, nought, answered, unless_refused}
use Rattle.c_meaning.specs.Places.{Lvalue, Known, Located}
use Rattle.c_meaning.specs.State.{Program, CState, Slot, Holding, Naming, declare, declare_object, leave}
use Rattle.c_meaning.specs.Statements.{exec, exec_all, stored, declaration, object, object_with, assign, call_step}
use Rattle.c_meaning.specs.Values.{CValue, Trouble, Num, Ptr, is_true, on_ok, as_assigned, as_arguments}
use Rattle.area_objects.proofs.Alike.{lawful_in}

one_more : {X : Type 0} (xs : List X) (x : X) → length xs ≤ length (xs ++ x ∷ [])
one_more xs x = omega (arith, length-append xs (x ∷ []))

-- ---- states

-- the name holds a value, or names an object made since
abbrev pub Fresh : CState → Option Slot → Type 0
Fresh t None = ⊥
Fresh t (Some (Holding v)) = Unit {0}
Fresh t (Some (Naming o b)) = length t.objects ≤ o

pub record Adds (t u : CState) : Type 0 where
  pub count : length t.objects ≤ length u.objects
  pub names : (x : Name) → (named u.frames.own x ≡ named t.frames.own x) ⊎ Fresh t (named u.frames.own x)

adds_none : (t : CState) → Adds t t
adds_none t = record { count = omega arith; names = λ x. inl refl }

fresh_before : (t u : CState) → length t.objects ≤ length u.objects → (slot : Option Slot) → Fresh u slot → Fresh t slot
fresh_before t u le None h = h
fresh_before t u le (Some (Holding v)) h = tt
fresh_before t u le (Some (Naming o b)) h = omega (arith, le, h)

-- what is fresh stays so
pub fresh_on : (first t u : CState) → length first.objects ≤ length t.objects → Adds t u → (x : Name) → Fresh first (named t.frames.own x) → Fresh first (named u.frames.own x)
fresh_on first t u le adds x h =
    ⊎_elim (λ same. subst (Fresh first) (sym same) h) (λ new. fresh_before first t le (named u.frames.own x) new) (adds.names x)

adds_twice : (t u v : CState) → Adds t u → Adds u v → Adds t v
adds_twice t u v a b = record {
  count = omega (arith, a.count, b.count);
  names = λ x. ⊎_elim (λ same. ⊎_elim (λ first. inl (same ∙ first)) (λ new. inr (subst (Fresh t) (sym same) new)) (a.names x)) (λ new. inr (fresh_before t u a.count (named v.frames.own x) new)) (b.names x);
}

with_slot : (t : CState) (x : Name) (slot : Slot) (objects : CObjects) → length t.objects ≤ length objects → Fresh t (Some slot) → (y : Name) → (b : Bool)
    → ((if b then Some slot else named t.frames.own y) ≡ named t.frames.own y) ⊎ Fresh t (if b then Some slot else named t.frames.own y)
with_slot t x slot objects le new y true = inr new
with_slot t x slot objects le new y false = inl refl

adds_value : (t : CState) (x : Name) (v : CValue) → Adds t (declare x v t)
adds_value t x v = record { count = omega arith; names = λ y. with_slot t x (Holding v) t.objects (omega arith) tt y (same_word x y) }

adds_object : (t : CState) (x : Name) (b : CBase) (made : CObjects) → length t.objects ≤ length made → Adds t (declare_object x b made t)
adds_object t x b made le = record { count = le; names = λ y. with_slot t x (Naming (length t.objects) b) made le (omega arith) y (same_word x y) }

-- ---- parts

-- where the part falls through, its state is one of these
abbrev pub Leaves : (CState → Type 0) → Progress CState (Control (Option CValue)) → Type 0
Leaves Q (Finished Falls w u n) = Q u
Leaves Q (Finished Broke w u n) = Unit {0}
Leaves Q (Finished (Returned v) w u n) = Unit {0}
Leaves Q (Halted how w seen) = Unit {0}
Leaves Q (Exhausted w) = Unit {0}

leaves_more : (P Q : CState → Type 0) → ((u : CState) → P u → Q u) → (r : Progress CState (Control (Option CValue))) → Leaves P r → Leaves Q r
leaves_more P Q f (Finished Falls w u n) h = f u h
leaves_more P Q f (Finished Broke w u n) h = tt
leaves_more P Q f (Finished (Returned v) w u n) h = tt
leaves_more P Q f (Halted how w seen) h = tt
leaves_more P Q f (Exhausted w) h = tt

-- one statement, and those after it
row_leaves : (P Q : CState → Type 0) (r : Progress CState (Control (Option CValue))) (rest : Part CState (Control (Option CValue))) → Leaves P r → ((w : World) (u : CState) (n : ℕ) → P u → Leaves Q (rest n w u)) → Leaves Q (after r (onward rest))
row_leaves P Q (Finished Falls w u n) rest h g = g w u n h
row_leaves P Q (Finished Broke w u n) rest h g = tt
row_leaves P Q (Finished (Returned v) w u n) rest h g = tt
row_leaves P Q (Halted how w seen) rest h g = tt
row_leaves P Q (Exhausted w) rest h g = tt

abbrev Never : Progress CState CallResult → Type 0
Never (Finished a w u n) = ⊥
Never (Halted how w seen) = Unit {0}
Never (Exhausted w) = Unit {0}

module _ (p : Program) (t : CState) where
  -- ---- writes and objects

  answered_count : (o : ℕ) (x : ℕ × CScalar) (i : ℤ) (new : CObjects) (r : Result CObjects Fault) → (memory_of p.target).write t.objects o x i ≡ r → answered r ≡ Ok new → length t.objects ≤ length new
  answered_count o x i new (Ok made) is e =
      let same : made ≡ new = cc in
      let kept = (lawful_in (table_of p.target)).count_stays t.objects made o x i is in
      subst (λ (z : CObjects). length t.objects ≤ length z) same (omega (arith, kept))
  answered_count o x i new (Err fault) is e = let no : ⊥ = cc in absurd no

  written_count : (o : ℕ) (x : ℕ × CScalar) (new : CObjects) (refused : Option Fault) (r : Result ℤ Trouble) → unless_refused refused (on_ok r (λ i. answered ((memory_of p.target).write t.objects o x i))) ≡ Ok new → length t.objects ≤ length new
  written_count o x new None (Ok i) e = answered_count o x i new ((memory_of p.target).write t.objects o x i) refl e
  written_count o x new None (Err trouble) e = let no : ⊥ = cc in absurd no
  written_count o x new (Some fault) r e = let no : ⊥ = cc in absurd no

  stored_count : (l : Lvalue) (v : CValue) (new : CObjects) → stored p.target t l v ≡ Ok new → length t.objects ≤ length new
  stored_count (Known known) v new e = let no : ⊥ = cc in absurd no
  stored_count (Located c to (Leaf k)) v new e = written_count to.object (to.offset, k) new ((memory_of p.target).refuses t.objects to.object (to.offset, k)) (as_number p.target k v) e
  stored_count (Located c to (Many n a)) v new e = let no : ⊥ = cc in absurd no
  stored_count (Located c to (Struct k r)) v new e = let no : ⊥ = cc in absurd no

  made_count : (a : CTree) (i : values.Init CValue) (new : CObjects) → made_with p.target a false t.objects i ≡ Ok new → length t.objects ≤ length new
  made_count a i new e = go (in_numbers p.target a i) e where
    go : (r : Result (values.Init ℤ) Trouble) → on_ok r (λ numbers. Ok ((memory_of p.target).initialize t.objects a false (cells (values.initial nought a numbers)))) ≡ Ok new → length t.objects ≤ length new
    go (Ok numbers) h =
        let made : CObjects = (memory_of p.target).initialize t.objects a false (cells (values.initial nought a numbers)) in
        let same : made ≡ new = cc in
        let more : length t.objects ≤ length ((memory_of p.target).initialize t.objects a false (cells (values.initial nought a numbers))) = one_more t.objects _ in
        subst (λ (z : CObjects). length t.objects ≤ length z) same more
    go (Err trouble) h = let no : ⊥ = cc in absurd no

  module _ (w : World) (Q : CState → Type 0) where
    given_leaves : {A : Type 0} (r : Result A Trouble) (next : A → Part CState (Control (Option CValue))) → ((a : A) → r ≡ Ok a → (n : ℕ) → Leaves Q (next a n w t)) → (n : ℕ) → Leaves Q (given p r next n w t)
    given_leaves (Ok a) next h n = h a refl n
    given_leaves (Err trouble) next h n = tt

    tick_leaves : (part : Part CState (Control (Option CValue))) → ((n : ℕ) → Leaves Q (part n w t)) → (n : ℕ) → Leaves Q (tick part n w t)
    tick_leaves part h zero = tt
    tick_leaves part h (suc n) = h n

    choice_leaves : (c d : Part CState (Control (Option CValue))) → ((n : ℕ) → Leaves Q (c n w t)) → ((n : ℕ) → Leaves Q (d n w t)) → (b : Bool) → (n : ℕ) → Leaves Q ((if b then c else d) n w t)
    choice_leaves c d h g true n = h n
    choice_leaves c d h g false n = g n

    -- ---- declarations

    const_leaves : (f : Calls) (x : Name) (ty : CType) (e : Expr) → ((v : CValue) → Q (declare x v t)) → (n : ℕ) → Leaves Q (exec p f (Const x ty e) n w t)
    const_leaves f x ty e h n =
        given_leaves (eval p e t) (λ v. tick (declaration p x ty v))
        (λ v is m. tick_leaves (declaration p x ty v) (λ i. given_leaves (as_assigned p.target ty v) (λ a. change Falls (declare x a)) (λ a same j. h a) i) m) n

    object_leaves : (f : Calls) (x : Name) (b : CBase) (i : Option Init) → ((made : CObjects) → length t.objects ≤ length made → Q (declare_object x b made t)) → (n : ℕ) → Leaves Q (exec p f (Object x b i) n w t)
    object_leaves f x b None h n =
        let made = (lawful_in (table_of p.target)).creates t.objects (tree p.unit.structs b) in
        tick_leaves (object p x b) (λ i. h ((memory_of p.target).create t.objects (tree p.unit.structs b)) (let count = made.count in omega (arith, count))) n
    object_leaves f x b (Some init) h n =
        given_leaves (eval_init p init t) (λ v. tick (object_with p x b v))
        (λ v is m. tick_leaves (object_with p x b v) (λ i. given_leaves (made_with p.target (tree p.unit.structs b) false t.objects v) (λ made. change Falls (declare_object x b made)) (λ made same j. h made (made_count (tree p.unit.structs b) v made same)) i) m) n

    -- ---- the stop of a check

    stop_never : (vs : List CValue) (n : ℕ) → Never (calls.stop_at p vs n w t)
    stop_never [] n = tt
    stop_never (Num kind site ∷ []) n = tt
    stop_never (Ptr c b to ∷ []) n = tt
    stop_never (v ∷ u ∷ vs) n = tt

    given_never : {A : Type 0} (r : Result A Trouble) (next : A → Part CState CallResult) → ((a : A) (n : ℕ) → Never (next a n w t)) → (n : ℕ) → Never (given p r next n w t)
    given_never (Ok a) next h n = h a n
    given_never (Err trouble) next h n = tt

    tick_never : (part : Part CState CallResult) → ((n : ℕ) → Never (part n w t)) → (n : ℕ) → Never (tick part n w t)
    tick_never part h zero = tt
    tick_never part h (suc n) = h n

    call_never : (f : Calls) (name : Name) → name ≡ stop_name → (vs : List CValue) (n : ℕ) → Never (call p f name vs n w t)
    call_never f name is vs n =
        let same : same_word name stop_name ≡ true = ap (λ x. same_word x stop_name) is ∙ same_self stop_name in
        subst (λ b. Never ((if b then stop_call p vs else call_found p f name vs (find (λ x. same_word x.name name) p.unit.externs)) n w t)) (sym same)
        (given_never (as_arguments p.target (Value (Int U32) ∷ []) vs) (calls.stop_at p) (λ a m. stop_never a m) n)

    never_leaves : (r : Progress CState CallResult) (next : CallResult → Part CState (Control (Option CValue))) → Never r → Leaves Q (after r next)
    never_leaves (Finished a v u n) next h = absurd h
    never_leaves (Halted how v seen) next h = tt
    never_leaves (Exhausted v) next h = tt

    stop_leaves : (f : Calls) (c : FunctionCall) → c.name ≡ stop_name → (n : ℕ) → Leaves Q (exec p f (Call c) n w t)
    stop_leaves f c is n =
        never_leaves (call_step p f c n w t) (λ result. give Falls)
        (given_never (eval_all p c.args t) (λ vs. tick (call p f c.name vs)) (λ vs m. tick_never (call p f c.name vs) (λ i. call_never f c.name is vs i) m) n)

  -- the end of a block
  left_adds : (r : Progress CState (Control (Option CValue))) → Leaves (Adds t) r → Leaves (Adds t) (left leave t r)
  left_adds (Finished Falls v u n) h =
      let ended = ((lawful_in (table_of p.target)).leaves u.objects (length t.objects)).count in
      record { count = omega (arith, h.count, ended); names = λ x. inl refl }
  left_adds (Finished Broke v u n) h = tt
  left_adds (Finished (Returned value) v u n) h = tt
  left_adds (Halted how v seen) h = tt
  left_adds (Exhausted v) h = tt

-- ---- statements

abbrev mutual
  pub Quiet : Stmt → Type 0
  Quiet (Const x ty e) = Unit {0}
  Quiet (ConstCall x ty c) = ⊥
  Quiet (Object x b i) = Unit {0}
  Quiet (Assign to e) = Unit {0}
  Quiet (If e a) = AllQuiet a
  Quiet (IfElse e a b) = AllQuiet a × AllQuiet b
  Quiet (Forever a) = ⊥
  Quiet Break = ⊥
  Quiet (Return e) = ⊥
  Quiet (Block a) = ⊥
  Quiet (Call c) = c.name ≡ stop_name

  pub AllQuiet : Stmts → Type 0
  AllQuiet Nil = Unit {0}
  AllQuiet (Cons s ss) = Quiet s × AllQuiet ss

abbrev pub QuietRow : List Stmt → Type 0
QuietRow ss = AllQuiet (stmts_from ss)

pub quiet_rows : (xs ys : List Stmt) → QuietRow xs → QuietRow ys → QuietRow (xs ++ ys)
quiet_rows [] ys h g = g
quiet_rows (x ∷ xs) ys h g = (h.0, quiet_rows xs ys h.1 g)

-- a statement that declares the name
abbrev pub Names : Name → Stmt → Type 0
Names x (Const y ty e) = y ≡ x
Names x (ConstCall y ty c) = ⊥
Names x (Object y b i) = y ≡ x
Names x (Assign to e) = ⊥
Names x (If e a) = ⊥
Names x (IfElse e a b) = ⊥
Names x (Forever a) = ⊥
Names x Break = ⊥
Names x (Return e) = ⊥
Names x (Block a) = ⊥
Names x (Call c) = ⊥

module _ (p : Program) (f : Calls) where
  mutual
    stmt_adds : (s : Stmt) → Quiet s → (w : World) (t : CState) (n : ℕ) → Leaves (Adds t) (exec p f s n w t)
    stmt_adds (Const x ty e) h w t n = const_leaves p t w (Adds t) f x ty e (λ v. adds_value t x v) n
    stmt_adds (ConstCall x ty c) h w t n = absurd h
    stmt_adds (Object x b i) h w t n = object_leaves p t w (Adds t) f x b i (λ made le. adds_object t x b made le) n
    stmt_adds (Assign to e) h w t n =
        given_leaves p t w (Adds t) (eval_place p to t) (λ l. given p (eval p e t) (λ v. tick (assign p l v)))
        (λ l is m.
        given_leaves p t w (Adds t) (eval p e t) (λ v. tick (assign p l v))
        (λ v same i.
        tick_leaves p t w (Adds t) (assign p l v)
        (λ j. given_leaves p t w (Adds t) (stored p.target t l v) (λ objects. change Falls (λ (u : CState). record u { objects = objects })) (λ new stores k. record { count = stored_count p t l v new stores; names = λ x. inl refl }) j) i) m) n
    stmt_adds (If e a) h w t n =
        given_leaves p t w (Adds t) (on_ok (eval p e t) is_true) (λ holds. tick (if holds then block leave (exec_all p f a) else give Falls))
        (λ holds is m.
        tick_leaves p t w (Adds t) (if holds then block leave (exec_all p f a) else give Falls)
        (λ i. choice_leaves p t w (Adds t) (block leave (exec_all p f a)) (give Falls) (λ j. left_adds p t (exec_all p f a j w t) (stmts_add a h w t j)) (λ j. adds_none t) holds i) m) n
    stmt_adds (IfElse e a b) h w t n =
        given_leaves p t w (Adds t) (on_ok (eval p e t) is_true) (λ holds. tick (if holds then block leave (exec_all p f a) else block leave (exec_all p f b)))
        (λ holds is m.
        tick_leaves p t w (Adds t) (if holds then block leave (exec_all p f a) else block leave (exec_all p f b))
        (λ i. choice_leaves p t w (Adds t) (block leave (exec_all p f a)) (block leave (exec_all p f b)) (λ j. left_adds p t (exec_all p f a j w t) (stmts_add a h.0 w t j)) (λ j. left_adds p t (exec_all p f b j w t) (stmts_add b h.1 w t j)) holds i) m) n
    stmt_adds (Forever a) h w t n = absurd h
    stmt_adds Break h w t n = absurd h
    stmt_adds (Return e) h w t n = absurd h
    stmt_adds (Block a) h w t n = absurd h
    stmt_adds (Call c) h w t n = stop_leaves p t w (Adds t) f c h n

    pub stmts_add : (ss : Stmts) → AllQuiet ss → (w : World) (t : CState) (n : ℕ) → Leaves (Adds t) (exec_all p f ss n w t)
    stmts_add Nil h w t n = adds_none t
    stmts_add (Cons s ss) h w t n =
        row_leaves (Adds t) (Adds t) (exec p f s n w t) (exec_all p f ss) (stmt_adds s h.0 w t n) (λ v u m first. leaves_more (Adds u) (Adds t) (λ z later. adds_twice t u z first later) (exec_all p f ss m v u) (stmts_add ss h.1 v u m))

  -- ---- names that are declared

  named_here : (x y : Name) (slot : Slot) (rest : List (Name × Slot)) → y ≡ x → named ((y, slot) ∷ rest) x ≡ Some slot
  named_here x y slot rest is = ap (λ b. if b then Some slot else named rest x) (ap (λ z. same_word z x) is ∙ same_self x)

  stmt_fresh : (x : Name) (s : Stmt) → Names x s → (w : World) (t : CState) (n : ℕ) → Leaves (λ u. Fresh t (named u.frames.own x)) (exec p f s n w t)
  stmt_fresh x (Const y ty e) is w t n = const_leaves p t w (λ u. Fresh t (named u.frames.own x)) f y ty e (λ v. subst (Fresh t) (sym (named_here x y (Holding v) t.frames.own is)) tt) n
  stmt_fresh x (Object y b i) is w t n =
      object_leaves p t w (λ u. Fresh t (named u.frames.own x)) f y b i
      (λ made le. subst (Fresh t) (sym (named_here x y (Naming (length t.objects) b) t.frames.own is)) (let at_most : length t.objects ≤ length t.objects = omega arith in at_most)) n
  stmt_fresh x (ConstCall y ty c) is w t n = absurd is
  stmt_fresh x (Assign to e) is w t n = absurd is
  stmt_fresh x (If e a) is w t n = absurd is
  stmt_fresh x (IfElse e a b) is w t n = absurd is
  stmt_fresh x (Forever a) is w t n = absurd is
  stmt_fresh x Break is w t n = absurd is
  stmt_fresh x (Return e) is w t n = absurd is
  stmt_fresh x (Block a) is w t n = absurd is
  stmt_fresh x (Call c) is w t n = absurd is

  -- behind a row that declares it a name is fresh
  pub declared_fresh : (x : Name) (front : List Stmt) (s : Stmt) (back : List Stmt) → Names x s → QuietRow (front ++ s ∷ back) → (w : World) (t : CState) (n : ℕ)
      → Leaves (λ u. Fresh t (named u.frames.own x)) (exec_all p f (stmts_from (front ++ s ∷ back)) n w t)
  declared_fresh x [] s back is quiet w t n =
      row_leaves (λ u. Fresh t (named u.frames.own x) × (length t.objects ≤ length u.objects)) (λ u. Fresh t (named u.frames.own x)) (exec p f s n w t) (exec_all p f (stmts_from back))
      (both (λ u. Fresh t (named u.frames.own x)) (Adds t) (exec p f s n w t) (stmt_fresh x s is w t n) (stmt_adds s quiet.0 w t n))
      (λ v u m first. leaves_more (Adds u) (λ z. Fresh t (named z.frames.own x)) (λ z later. fresh_on t u z first.1 later x first.0) (exec_all p f (stmts_from back) m v u) (stmts_add (stmts_from back) quiet.1 v u m))
    where
      both : (P : CState → Type 0) (Q : CState → Type 0) (r : Progress CState (Control (Option CValue))) → Leaves P r → Leaves (Adds t) r → Leaves (λ u. P u × (length t.objects ≤ length u.objects)) r
      both P Q (Finished Falls v u m) h g = (h, g.count)
      both P Q (Finished Broke v u m) h g = tt
      both P Q (Finished (Returned c) v u m) h g = tt
      both P Q (Halted how v seen) h g = tt
      both P Q (Exhausted v) h g = tt
  declared_fresh x (e ∷ front) s back is quiet w t n =
      row_leaves (Adds t) (λ u. Fresh t (named u.frames.own x)) (exec p f e n w t) (exec_all p f (stmts_from (front ++ s ∷ back))) (stmt_adds e quiet.0 w t n)
      (λ v u m first. leaves_more (λ z. Fresh u (named z.frames.own x)) (λ z. Fresh t (named z.frames.own x)) (λ z new. fresh_before t u first.count (named z.frames.own x) new) (exec_all p f (stmts_from (front ++ s ∷ back)) m v u)
      (declared_fresh x front s back is quiet.1 v u m))
