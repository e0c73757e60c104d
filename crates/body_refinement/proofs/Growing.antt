-- The numbers of temporaries only grow from statement to statement.
use Rattle.std.proofs.Common.{ℕ, suc, ◌≤◌, List, [], ◌∷◌, Option, Some, None, arith}
use Rattle.type_trees.specs.Trees.{Leaf, Many, Struct, End, Field}
use Rattle.area_types.specs.Trees.{Written, WrittenRow}
use Rattle.core_tree.specs.Syntax as core
use Rattle.core_tree.specs.Syntax.{ExprCore, ContractCore, InitCore, InitsCore, StmtCore, StmtsCore, type_of, Let, LetCall, Alloc, Store, Copy, Call, If, IfElse, Map, Upto, Downto, Forever, Break, Return, Assert, NoAlloc, NoBreak, NoReturn, NoStmts, MoreStmts}
use Rattle.core_meaning.specs.Initializers.{part_types}
use Rattle.area_types.specs.Tables.{written_out}
use Rattle.c_ast.specs.declared.CType.{CType}
use Rattle.c_ast.specs.Syntax.{Place, Inits}
use Rattle.lower_values.specs.Expressions.{raw, place}
use Rattle.lower_values.specs.Frames.{Frame, type_in}
use Rattle.lower_values.specs.Pieces.{Piece, named, inline, atom}
use Rattle.lower_statements.specs.Conditions.{contract_tests, ensured_tests, return_value, return_nothing}
use Rattle.lower_statements.specs.Locals.{init_piece, inits_piece, local_init, rest_of}
use Rattle.lower_statements.specs.Parts.{copied, copied_fields, numbered_field, at_counter}
use Rattle.lower_statements.specs.Statements.{Home, arguments, behind, stmt_body, stmts_body}
use Rattle.value_refinement.proofs.Growing.{raw_grows, place_grows, atom_grows}

module _ (f : Frame) where
  mutual
    init_grows : (i : InitCore) (ty : Written) (k : ℕ) → k ≤ (init_piece f i ty k).next
    init_grows (core.One e) ty k = raw_grows f e k
    init_grows (core.Many is) ty k = inits_grow is (rest_of ty) (part_types ty) k

    inits_grow : (is : InitsCore) (rest : List Written → Inits) (types : List Written) (k : ℕ) → k ≤ (inits_piece f is rest types k).next
    inits_grow core.NoInits rest types k = omega arith
    inits_grow (core.MoreInits i is) rest [] k = omega arith
    inits_grow (core.MoreInits i is) rest (ty ∷ types) k =
        let a : k ≤ (init_piece f i ty k).next = init_grows i ty k in
        let b : (init_piece f i ty k).next ≤ (inits_piece f is rest types (init_piece f i ty k).next).next = inits_grow is rest types (init_piece f i ty k).next in
        omega (arith, a, b)

  local_init_grows : (i : Option InitCore) (ty : Written) (k : ℕ) → k ≤ (local_init f i ty k).next
  local_init_grows None ty k = omega arith
  local_init_grows (Some i) ty k = init_grows i ty k

  mutual
    copied_grows : (ty : Written) (to from : Place) (k : ℕ) → k ≤ (copied f ty to from k).next
    copied_grows (Leaf held) to from k = omega arith
    copied_grows (Many n a) to from k = let r : suc k ≤ (copied f a (at_counter k to) (at_counter k from) (suc k)).next = copied_grows a (at_counter k to) (at_counter k from) (suc k) in omega (arith, r)
    copied_grows (Struct s fields) to from k = fields_grow fields s to from k

    fields_grow : (fields : WrittenRow) (s : ℕ) (to from : Place) (k : ℕ) → k ≤ (copied_fields f fields s to from k).next
    fields_grow End s to from k = omega arith
    fields_grow (Field i a fields) s to from k =
        let one = copied f a (numbered_field f s i to) (numbered_field f s i from) k in
        let a : k ≤ one.next = copied_grows a (numbered_field f s i to) (numbered_field f s i from) k in
        let b : one.next ≤ (copied_fields f fields s to from one.next).next = fields_grow fields s to from one.next in
        omega (arith, a, b)

  arguments_grow : (es : List ExprCore) (k : ℕ) → k ≤ (arguments f es k).next
  arguments_grow [] k = omega arith
  arguments_grow (e ∷ es) k =
      let a : k ≤ (raw f e k).next = raw_grows f e k in
      let b : (raw f e k).next ≤ (arguments f es (raw f e k).next).next = arguments_grow es (raw f e k).next in
      omega (arith, a, b)

pub tests_grow : (f : Frame) (cs : List ContractCore) (k : ℕ) → k ≤ (contract_tests f cs k).next
tests_grow f [] k = omega arith
tests_grow f (c ∷ cs) k =
    let a : k ≤ (raw f c.cond k).next = raw_grows f c.cond k in
    let b : (raw f c.cond k).next ≤ (contract_tests f cs (raw f c.cond k).next).next = tests_grow f cs (raw f c.cond k).next in
    omega (arith, a, b)

module _ (f : Frame) where
  return_grows : (cs : List ContractCore) (ty : CType) (p : Piece) (k : ℕ) → k ≤ p.next → k ≤ (return_value f cs ty p).next
  return_grows [] ty p k le = le
  return_grows (c ∷ cs) ty p k le =
      let q : Piece = named ty (inline p) in
      let r : q.next ≤ (ensured_tests f (c ∷ cs) q.value q.next).next = tests_grow (record f { outcome = q.value }) (c ∷ cs) q.next in
      omega (arith, le, r)

  nothing_grows : (cs : List ContractCore) (k : ℕ) → k ≤ (return_nothing f cs k).next
  nothing_grows [] k = omega arith
  nothing_grows (c ∷ cs) k = tests_grow f (c ∷ cs) k

module _ (f : Frame) (home : Home) where
  mutual
    pub stmt_grows : (c : StmtCore) (k : ℕ) → k ≤ (stmt_body f home c k).next
    stmt_grows (Let x e) k = raw_grows f e k
    stmt_grows (LetCall x c) k = arguments_grow f c.args k
    stmt_grows (Alloc x area init) k = local_init_grows f init (written_out f.core.structs area) k
    stmt_grows (Store target e) k =
        let a : k ≤ (raw f e k).next = raw_grows f e k in
        let b : (raw f e k).next ≤ (place f target (raw f e k).next).next = place_grows f target (raw f e k).next in
        omega (arith, a, b)
    stmt_grows (Copy target source) k =
        let p = place f target k in
        let q = place f source p.next in
        let a : k ≤ p.next = place_grows f target k in
        let b : p.next ≤ q.next = place_grows f source p.next in
        let c : q.next ≤ (copied f (written_out f.core.structs (behind (type_of target))) p.place q.place q.next).next = copied_grows f (written_out f.core.structs (behind (type_of target))) p.place q.place q.next in
        omega (arith, a, b, c)
    stmt_grows (Call c) k = arguments_grow f c.args k
    stmt_grows (If e a) k =
        let first : k ≤ (raw f e k).next = raw_grows f e k in
        let r : (raw f e k).next ≤ (stmts_body f home a (raw f e k).next).next = stmts_grow a (raw f e k).next in
        omega (arith, first, r)
    stmt_grows (IfElse e a b) k =
        let one = stmts_body f home a (raw f e k).next in
        let first : k ≤ (raw f e k).next = raw_grows f e k in
        let r : (raw f e k).next ≤ one.next = stmts_grow a (raw f e k).next in
        let q : one.next ≤ (stmts_body f home b one.next).next = stmts_grow b one.next in
        omega (arith, first, r, q)
    stmt_grows (Map x n a) k = stmts_grow a k
    stmt_grows (Upto x n e a) k =
        let i : ℕ = (atom (type_in f (type_of e)) (raw f e k)).next in
        let first : k ≤ i = atom_grows (type_in f (type_of e)) (raw f e k) k (raw_grows f e k) in
        let r : i ≤ (stmts_body f home a i).next = stmts_grow a i in
        omega (arith, first, r)
    stmt_grows (Downto x n e a) k =
        let first : k ≤ (raw f e k).next = raw_grows f e k in
        let r : (raw f e k).next ≤ (stmts_body f home a (raw f e k).next).next = stmts_grow a (raw f e k).next in
        omega (arith, first, r)
    stmt_grows (Forever a) k = stmts_grow a k
    stmt_grows Break k = omega arith
    stmt_grows (Return None) k = nothing_grows f home.ensures k
    stmt_grows (Return (Some e)) k = return_grows f home.ensures home.result (raw f e k) k (raw_grows f e k)
    stmt_grows (Assert e check) k = raw_grows f e k
    stmt_grows (NoAlloc a) k = stmts_grow a k
    stmt_grows (NoBreak a) k = stmts_grow a k
    stmt_grows (NoReturn a) k = stmts_grow a k

    pub stmts_grow : (ss : StmtsCore) (k : ℕ) → k ≤ (stmts_body f home ss k).next
    stmts_grow NoStmts k = omega arith
    stmts_grow (MoreStmts c ss) k =
        let a : k ≤ (stmt_body f home c k).next = stmt_grows c k in
        let b : (stmt_body f home c k).next ≤ (stmts_body f home ss (stmt_body f home c k).next).next = stmts_grow ss (stmt_body f home c k).next in
        omega (arith, a, b)
