-- Places of a body: where a statement's parts and the statements behind it stand.
use Rattle.std.proofs.Common.{Contains, ◌≡◌, ℕ, zero, suc, ◌+◌, ◌<◌, ◌≤◌, List, [], ◌∷◌, length, None, refl, sym, ap, subst, arith}
use Rattle.std.specs.Prelude.{slice_get, map}
use Rattle.std.proofs.lemmas.Option.{slice_get_within}
use Rattle.area_types.specs.Syntax.{ValueType}
use Rattle.core_tree.specs.Environments.{Env, Point, locals_in, all_locals, after, skipping, looping, within_loop}
use Rattle.core_tree.specs.Syntax.{ProcCore, ParamCore, StmtCore, Let, LetCall, Alloc, Store, Copy, Call, If, IfElse, Map, Upto, Downto, Forever, Break, Return, Assert, NoAlloc, NoBreak, NoReturn, StmtsCore, NoStmts, MoreStmts}
use Rattle.core_tree.specs.TypedItems.{below}
use Rattle.core_tree.specs.TypedStatements.{StmtTyped, StmtsTyped, IsNext}
use Rattle.region_soundness.specs.Laws.{PlaceIn}
use Rattle.lower_types.specs.Names.{local_name}
use Rattle.lower_values.specs.Frames.{name_of, named_or}
use Rattle.body_refinement.specs.Bodies.{Lowered, frame_in}

-- ---- parts

module _ (p : ProcCore) (at : Point) (place : PlaceIn p at) where
  -- further on in the text, with the same names
  pub place_on : (later : Point) → later.scope ≡ at.scope → at.next ≤ later.next → PlaceIn p later
  place_on later same le = record {
    before = λ m here. omega (arith, place.before m (subst (λ xs. Contains xs m) same here), le);
    parameters = λ m here. subst (λ xs. Contains xs m) (sym same) (place.parameters m here);
  }

  -- with the name of the next local
  pub place_named : (later : Point) → later.scope ≡ at.next ∷ at.scope → at.next < later.next → PlaceIn p later
  place_named later same lt = record {
    before = λ m here. before_it m (subst (λ xs. Contains xs m) same here);
    parameters = λ m here. subst (λ xs. Contains xs m) (sym same) (further m (place.parameters m here));
  } where
    before_it : (m : ℕ) → Contains (at.next ∷ at.scope) m → m < later.next
    before_it m (zero, l, e) = let is : at.next ≡ m = cc in omega (arith, is, lt)
    before_it m (suc k, l, e) = let r : m < at.next = place.before m (k, omega (arith, l), e) in omega (arith, r, lt)

    further : (m : ℕ) → Contains at.scope m → Contains (at.next ∷ at.scope) m
    further m (k, l, e) = (suc k, omega (arith, l), e)

  -- the parameters are the first locals
  pub params_before : length p.params ≤ at.next
  params_before = go (length p.params) place.parameters where
    go : (n : ℕ) → ((m : ℕ) → Contains (below n) m → Contains at.scope m) → n ≤ at.next
    go zero h = omega arith
    go (suc n) h = let r : n < at.next = place.before n (h n (zero, omega arith, refl)) in omega (arith, r)

-- behind the last there is nothing
past_all : {A : Type 0} (xs : List A) (k : ℕ) → length xs ≤ k → slice_get xs k ≡ None
past_all [] k le = refl
past_all (x ∷ xs) zero le = absurd (omega (arith, le))
past_all (x ∷ xs) (suc k) le = past_all xs k (omega (arith, le))

map_length : {A B : Type 0} (f : A → B) (xs : List A) → length (map f xs) ≡ length xs
map_length f [] = refl
map_length f (x ∷ xs) = ap suc (map_length f xs)

-- a local that is declared in the body has the name of its number
pub local_named : (d : Lowered) (x : ℕ) → length d.proc.params ≤ x → name_of (frame_in d) x ≡ local_name x
local_named d x le = ap (named_or x) (past_all (map (λ (y : ParamCore). y.name) d.proc.params) x (omega (arith, map_length (λ (y : ParamCore). y.name) d.proc.params, le)))

-- ---- behind a statement

pub place_after : (p : ProcCore) (env : Env) (c : StmtCore) (at : Point) → StmtTyped env at c → PlaceIn p at → PlaceIn p (after c at)
place_after p env (Let x e) at t place = place_named p at place (after (Let x e) at) (ap (λ n. n ∷ at.scope) t.name.number_is) (omega arith)
place_after p env (LetCall x c) at t place = place_named p at place (after (LetCall x c) at) (ap (λ n. n ∷ at.scope) t.name.number_is) (omega arith)
place_after p env (Alloc x a i) at t place = place_named p at place (after (Alloc x a i) at) (ap (λ n. n ∷ at.scope) t.name.number_is) (omega arith)
place_after p env (Store a b) at t place = place_on p at place (after (Store a b) at) refl (omega arith)
place_after p env (Copy a b) at t place = place_on p at place (after (Copy a b) at) refl (omega arith)
place_after p env (Call c) at t place = place_on p at place (after (Call c) at) refl (omega arith)
place_after p env (If e a) at t place = place_on p at place (after (If e a) at) refl (omega arith)
place_after p env (IfElse e a b) at t place = place_on p at place (after (IfElse e a b) at) refl (omega arith)
place_after p env (Map x n a) at t place = place_on p at place (after (Map x n a) at) refl (omega arith)
place_after p env (Upto x n e a) at t place = place_on p at place (after (Upto x n e a) at) refl (omega arith)
place_after p env (Downto x n e a) at t place = place_on p at place (after (Downto x n e a) at) refl (omega arith)
place_after p env (Forever a) at t place = place_on p at place (after (Forever a) at) refl (omega arith)
place_after p env Break at t place = place_on p at place (after Break at) refl (omega arith)
place_after p env (Return e) at t place = place_on p at place (after (Return e) at) refl (omega arith)
place_after p env (Assert e c) at t place = place_on p at place (after (Assert e c) at) refl (omega arith)
place_after p env (NoAlloc a) at t place = place_on p at place (after (NoAlloc a) at) refl (omega arith)
place_after p env (NoBreak a) at t place = place_on p at place (after (NoBreak a) at) refl (omega arith)
place_after p env (NoReturn a) at t place = place_on p at place (after (NoReturn a) at) refl (omega arith)

-- ---- room

next_within : (env : Env) (at : Point) (x : ℕ) (ty : ValueType) → IsNext env at x ty → at.next + 1 ≤ length env.locals
next_within env at x ty n = let r : x < length env.locals = slice_get_within env.locals x ty n.type in omega (arith, r, n.number_is)

-- a name brings the first local of its body
loop_room : (env : Env) (at : Point) (x : ℕ) (ty : ValueType) (many : ℕ) → IsNext env at x ty → (suc at.next ≤ length env.locals → suc at.next + many ≤ length env.locals) → at.next + (1 + many) ≤ length env.locals
loop_room env at x ty many n h = let r = h (let q = next_within env at x ty n in omega (arith, q)) in omega (arith, r)

mutual
  pub stmt_room : (env : Env) (c : StmtCore) (at : Point) → StmtTyped env at c → at.next ≤ length env.locals → at.next + locals_in c ≤ length env.locals
  stmt_room env (Let x e) at t le = next_within env at x _ t.name
  stmt_room env (LetCall x c) at t le = next_within env at x _ t.name
  stmt_room env (Alloc x a i) at t le = next_within env at x _ t.name
  stmt_room env (Store a b) at t le = omega (arith, le)
  stmt_room env (Copy a b) at t le = omega (arith, le)
  stmt_room env (Call c) at t le = omega (arith, le)
  stmt_room env (If e a) at t le = stmts_room env a at t.1 le
  stmt_room env (IfElse e a b) at t le =
      let first : at.next + all_locals a ≤ length env.locals = stmts_room env a at t.1 le in
      let second : at.next + all_locals a + all_locals b ≤ length env.locals = stmts_room env b (skipping (all_locals a) at) t.2 first in
      omega (arith, second)
  stmt_room env (Map x n a) at t le = loop_room env at x _ (all_locals a) t.0.name (stmts_room env a (within_loop x at) t.1)
  stmt_room env (Upto x n e a) at t le = loop_room env at x _ (all_locals a) t.0.name (stmts_room env a (within_loop x at) t.2)
  stmt_room env (Downto x n e a) at t le = loop_room env at x _ (all_locals a) t.0.name (stmts_room env a (within_loop x at) t.2)
  stmt_room env (Forever a) at t le = stmts_room env a (looping at) t le
  stmt_room env Break at t le = omega (arith, le)
  stmt_room env (Return e) at t le = omega (arith, le)
  stmt_room env (Assert e c) at t le = omega (arith, le)
  stmt_room env (NoAlloc a) at t le = stmts_room env a _ t le
  stmt_room env (NoBreak a) at t le = stmts_room env a _ t le
  stmt_room env (NoReturn a) at t le = stmts_room env a _ t le

  pub stmts_room : (env : Env) (ss : StmtsCore) (at : Point) → StmtsTyped env at ss → at.next ≤ length env.locals → at.next + all_locals ss ≤ length env.locals
  stmts_room env NoStmts at t le = omega (arith, le)
  stmts_room env (MoreStmts c ss) at t le =
      let r : at.next + locals_in c + all_locals ss ≤ length env.locals = stmts_room env ss (after c at) t.2 (stmt_room env c at t.0 le) in
      omega (arith, r)
