-- Statements keep the laws of parts, form by form.
use Rattle.std.proofs.Common.{ℕ, List, [], ◌∷◌, Option, Some, None}
use Rattle.std.specs.Prelude.{suc, pred, pos, unsigned_abs, slice_get}
use Rattle.run_records.specs.declared.Piece.{Piece}
use Rattle.run_records.specs.declared.Plain.{Plain}
use Rattle.step_semantics.specs.Steps.{Part, give}
use Rattle.step_semantics.specs.Control.{Falls, Broke}
use Rattle.step_semantics.specs.Lawful.{Lawful}
use Rattle.step_semantics.proofs.Laws.{give_lawful, bind_lawful, tick_lawful, ticks_lawful, by_state_lawful, change_lawful, choice_lawful, block_lawful}
use Rattle.step_semantics.proofs.ControlLaws.{also_lawful, forever_lawful}
use Rattle.step_semantics.proofs.CountedLaws.{counted_lawful}
use Rattle.step_semantics.proofs.RunLaws.{import_call_lawful}
use Rattle.type_trees.specs.Trees.{Leaf, Many, Struct, nodes}
use Rattle.area_types.specs.Trees.{Written}
use Rattle.core_tree.specs.declared.Check.{Check}
use Rattle.core_tree.specs.Syntax.{ModuleCore, ExprCore, InitCore, One, Many as Braces, InitsCore, NoInits, MoreInits, ImportCore, ContractCore, CallCore, StmtCore, StmtsCore, NoStmts, MoreStmts}
use Rattle.core_tree.specs.Syntax.{Let, LetCall, Alloc, Store, Copy, Call, If, IfElse, Map, Upto, Downto, Forever, Break, Return, Assert, NoAlloc, NoBreak, NoReturn}
use Rattle.core_meaning.specs.Values.{Value, Num}
use Rattle.core_meaning.specs.Areas.{Held, type_at, held_at}
use Rattle.core_meaning.specs.State.{State, seen, leave}
use Rattle.core_meaning.specs.Initializers.{init_value, init_values, first_value, part_types}
use Rattle.core_meaning.specs.Conditions.{Ensured, tested, tested_all}
use Rattle.core_meaning.specs.Imports.{pieces_of, reply_shape, asking, outside}
use Rattle.core_meaning.specs.Calls.{Calls, called, call}
use Rattle.core_meaning.specs.Statements.{Flow, naming, store, copied, copy, turn, returning, exec, exec_all}
use Rattle.core_meaning.proofs.ExpressionLaws.{formless_lawful, passes_lawful, on_number_lawful, on_truth_lawful, on_reference_lawful, on_some_lawful, choice_of_lawful, eval_lawful, eval_all_lawful}

-- ---- initializers

mutual
  init_value_lawful : (core : ModuleCore) (i : InitCore) (ty : Written) → Lawful (init_value core i ty)
  init_value_lawful core (One e) (Leaf t) = bind_lawful _ _ (eval_lawful core None e) (λ x. on_number_lawful core x _ (λ v. give_lawful _))
  init_value_lawful core (One e) (Many n a) = formless_lawful core
  init_value_lawful core (One e) (Struct k fields) = formless_lawful core
  init_value_lawful core (Braces is) (Leaf t) = formless_lawful core
  init_value_lawful core (Braces is) (Many n a) = bind_lawful _ _ (init_values_lawful core is (part_types (Many n a))) (λ vs. give_lawful _)
  init_value_lawful core (Braces is) (Struct k fields) = bind_lawful _ _ (init_values_lawful core is (part_types (Struct k fields))) (λ vs. give_lawful _)

  init_values_lawful : (core : ModuleCore) (is : InitsCore) (types : List Written) → Lawful (init_values core is types)
  init_values_lawful core NoInits types = give_lawful _
  init_values_lawful core (MoreInits i is) [] = formless_lawful core
  init_values_lawful core (MoreInits i is) (ty ∷ types) =
      bind_lawful _ _ (init_value_lawful core i ty) (λ v. bind_lawful _ _ (init_values_lawful core is types) (λ vs. give_lawful _))

first_value_lawful : (core : ModuleCore) (i : Option InitCore) (ty : Written) → Lawful (first_value core i ty)
first_value_lawful core None ty = give_lawful _
first_value_lawful core (Some i) ty = init_value_lawful core i ty

-- ---- contracts

pub tested_lawful : (core : ModuleCore) (outcome : Option Value) (cond : ExprCore) (check : Check) → Lawful (tested core outcome cond check)
tested_lawful core outcome cond check =
    bind_lawful _ _ (eval_lawful core outcome cond) (λ x. on_truth_lawful core x _ (λ holds. tick_lawful _ (passes_lawful core ((check.site, holds) ∷ []) (give tt) (give_lawful tt))))

pub tested_all_lawful : (core : ModuleCore) (outcome : Option Value) (cs : List ContractCore) → Lawful (tested_all core outcome cs)
tested_all_lawful core outcome [] = give_lawful tt
tested_all_lawful core outcome (c ∷ cs) = bind_lawful _ _ (tested_lawful core outcome c.cond c.check) (λ t. tested_all_lawful core outcome cs)

-- ---- calls

asking_lawful : (core : ModuleCore) (i : ImportCore) (args : List Value) (pieces : List Piece) (shape : List Plain) → Lawful (asking core i args pieces shape)
asking_lawful core i args pieces shape = tick_lawful _ (bind_lawful _ _ (import_call_lawful (seen core) i.name pieces shape) (λ reply. change_lawful _ _))

outside_lawful : (core : ModuleCore) (i : ImportCore) (args : List Value) → Lawful (outside core i args)
outside_lawful core i args =
    by_state_lawful _ (λ s. on_some_lawful core (pieces_of s.areas args) _ (λ pieces. on_some_lawful core (reply_shape core i) _ (asking_lawful core i args pieces)))

module _ (core : ModuleCore) (calls : Calls) (calls_lawful : (number : ℕ) (args : List Value) → Lawful (calls number args)) where
  called_lawful : (c : CallCore) (args : List Value) → Lawful (called core calls c args)
  called_lawful c args =
      choice_lawful _ _ (on_some_lawful core (slice_get core.imports c.callee) _ (λ i. outside_lawful core i args)) (tick_lawful _ (calls_lawful c.callee args)) c.import

  call_lawful : (c : CallCore) → Lawful (call core calls c)
  call_lawful c = bind_lawful _ (called core calls c) (eval_all_lawful core c.args) (called_lawful c)

-- ---- statements

naming_lawful : (number : ℕ) (v : Value) → Lawful (naming number v)
naming_lawful number v = change_lawful _ _

store_lawful : (core : ModuleCore) (target value : Value) → Lawful (store core target value)
store_lawful core target value =
    on_number_lawful core value _ (λ v. on_reference_lawful core target _ (λ k path. by_state_lawful _ (λ s. on_some_lawful core (type_at s.areas k path) _ (λ ty. tick_lawful _ (change_lawful _ _)))))

copied_lawful : (core : ModuleCore) (k : ℕ) (path : List ℕ) (target : Option Written) (source : Option Held) → Lawful (copied core k path target source)
copied_lawful core k path target source = on_some_lawful core target _ (λ ty. on_some_lawful core source _ (λ held. ticks_lawful (nodes ty) _ (change_lawful _ _)))

copy_lawful : (core : ModuleCore) (target source : Value) → Lawful (copy core target source)
copy_lawful core target source =
    on_reference_lawful core target _ (λ k path. on_reference_lawful core source _ (λ j from. by_state_lawful _ (λ s. copied_lawful core k path (type_at s.areas k path) (held_at s.areas j from))))

turn_lawful : (number : ℕ) (body : Part State Flow) → Lawful body → (i : ℕ) → Lawful (turn number body i)
turn_lawful number body l i = block_lawful leave _ (also_lawful (naming number (Num (pos i))) body (naming_lawful number _) l)

module _ (core : ModuleCore) (calls : Calls) (ensured : Ensured)
    (calls_lawful : (number : ℕ) (args : List Value) → Lawful (calls number args)) (ensured_lawful : (result : Option Value) → Lawful (ensured result)) where
  returning_lawful : (result : Option Value) → Lawful (returning ensured result)
  returning_lawful result = tick_lawful _ (bind_lawful _ _ (ensured_lawful result) (λ t. give_lawful _))

  mutual
    pub exec_lawful : (s : StmtCore) → Lawful (exec core calls ensured s)
    exec_lawful (Let number e) = bind_lawful _ _ (eval_lawful core None e) (λ v. tick_lawful _ (naming_lawful number v))
    exec_lawful (LetCall number c) = bind_lawful _ _ (call_lawful core calls calls_lawful c) (λ result. on_some_lawful core result (naming number) (naming_lawful number))
    exec_lawful (Alloc number area init) = bind_lawful _ _ (first_value_lawful core init _) (λ held. tick_lawful _ (change_lawful _ _))
    exec_lawful (Store target value) = bind_lawful _ _ (eval_lawful core None value) (λ v. bind_lawful _ _ (eval_lawful core None target) (λ r. store_lawful core r v))
    exec_lawful (Copy target source) = bind_lawful _ _ (eval_lawful core None target) (λ r. bind_lawful _ _ (eval_lawful core None source) (λ from. copy_lawful core r from))
    exec_lawful (Call c) = bind_lawful _ _ (call_lawful core calls calls_lawful c) (λ result. give_lawful Falls)
    exec_lawful (If e a) = choice_of_lawful core _ _ _ (eval_lawful core None e) (block_lawful leave _ (exec_all_lawful a)) (give_lawful Falls)
    exec_lawful (IfElse e a b) = choice_of_lawful core _ _ _ (eval_lawful core None e) (block_lawful leave _ (exec_all_lawful a)) (block_lawful leave _ (exec_all_lawful b))
    exec_lawful (Map number length a) = tick_lawful _ (counted_lawful suc _ (turn_lawful number _ (exec_all_lawful a)) (pred length) 0)
    exec_lawful (Upto number length e a) =
        bind_lawful _ _ (eval_lawful core None e) (λ x. on_number_lawful core x _ (λ last. tick_lawful _ (counted_lawful suc _ (turn_lawful number _ (exec_all_lawful a)) (unsigned_abs last) 0)))
    exec_lawful (Downto number length e a) =
        bind_lawful _ _ (eval_lawful core None e) (λ x. on_number_lawful core x _ (λ first.
        tick_lawful _ (counted_lawful pred _ (turn_lawful number _ (exec_all_lawful a)) (unsigned_abs first) (unsigned_abs first))))
    exec_lawful (Forever a) = forever_lawful _ (block_lawful leave _ (exec_all_lawful a))
    exec_lawful Break = tick_lawful _ (give_lawful Broke)
    exec_lawful (Return None) = returning_lawful None
    exec_lawful (Return (Some e)) = bind_lawful _ _ (eval_lawful core None e) (λ v. returning_lawful (Some v))
    exec_lawful (Assert e check) = bind_lawful _ _ (tested_lawful core None e check) (λ t. give_lawful Falls)
    exec_lawful (NoAlloc a) = block_lawful leave _ (exec_all_lawful a)
    exec_lawful (NoBreak a) = block_lawful leave _ (exec_all_lawful a)
    exec_lawful (NoReturn a) = block_lawful leave _ (exec_all_lawful a)

    pub exec_all_lawful : (ss : StmtsCore) → Lawful (exec_all core calls ensured ss)
    exec_all_lawful NoStmts = give_lawful Falls
    exec_all_lawful (MoreStmts s rest) = also_lawful _ _ (exec_lawful s) (exec_all_lawful rest)
