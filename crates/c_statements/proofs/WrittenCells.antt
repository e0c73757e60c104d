-- The scalars that a reply writes, one by one: they are those of the meaning, and where none of them is refused all are written.
use Rattle.std.proofs.Common.{◌≡◌, ℕ, zero, suc, ℤ, true, false, List, [], ◌∷◌, ◌++◌, length, map, drop, Option, Some, None, Result, Ok, Err, refl, sym, ap, ◌∙◌}
use Rattle.std.specs.Prelude.{slice_get, slice_set}
use Rattle.std.proofs.lemmas.List.{map-append, length-map}
use Rattle.run_records.specs.declared.Plain.{Plain}
use Rattle.type_trees.specs.Trees.{count}
use Rattle.type_trees.proofs.Scalars.{length_scalars, scalars_of_lay}
use Rattle.c_memory.specs.Access.{Fault, first_of, unless, and_then, of_object, write_fault, write_object, written as object_written, refusal, refuses, write}
use Rattle.c_memory.specs.Codecs.{numbers}
use Rattle.c_memory.specs.Copies.{write_each}
use Rattle.c_memory.specs.Objects.{Object, Objects}
use Rattle.c_memory.specs.Representations.{Representation}
use Rattle.c_ast.specs.declared.CBase.{CBase}
use Rattle.c_ast.specs.declared.CScalar.{CScalar}
use Rattle.c_ast.specs.declared.CStruct.{CStruct}
use Rattle.c_ast.specs.declared.Target.{Target}
use Rattle.c_ast.specs.Exports.{plain_of}
use Rattle.c_ast.specs.Scalars.{metric_of}
use Rattle.c_ast.specs.Structs.{tree}
use Rattle.c_ast.specs.Targets.{table_of}
use Rattle.c_meaning.specs.Calls.{pointed, written_shape, write_replies}
use Rattle.c_meaning.specs.Memory.{CObjects, memory_of, scalar_table, answered}
use Rattle.c_meaning.specs.Values.{Trouble, Address, CValue, Num, Ptr, on_ok}
use Rattle.c_statements.specs.Cells.{cell_of, all_behind, first_refusal, written}
use Rattle.c_statements.specs.declared.cells.Cell.{Cell}

-- ---- the types of the values

abbrev plain : Cell → Plain
plain c = plain_of c.scalar

plains_pointed : (o : ℕ) (places : List (ℕ × CScalar)) → map plain (map (cell_of o) places) ≡ map plain_of (map (λ x. x.1) places)
plains_pointed o [] = refl
plains_pointed o (x ∷ xs) = ap (λ r. plain_of x.1 ∷ r) (plains_pointed o xs)

pub shape_is : (t : Target) (structs : List CStruct) (vs : List CValue) → written_shape structs vs ≡ map plain (all_behind t structs vs)
shape_is t structs [] = refl
shape_is t structs (Num kind v ∷ vs) = shape_is t structs vs
shape_is t structs (Ptr true b to ∷ vs) = shape_is t structs vs
shape_is t structs (Ptr false b to ∷ vs) =
    ap (λ xs. map plain_of xs ++ written_shape structs vs) (sym (scalars_of_lay (metric_of t) (tree structs b) to.offset))
    ∙ ap (λ xs. xs ++ written_shape structs vs) (sym (plains_pointed to.object (pointed t structs b to)))
    ∙ ap (λ xs. map plain (map (cell_of to.object) (pointed t structs b to)) ++ xs) (shape_is t structs vs)
    ∙ sym (map-append plain (map (cell_of to.object) (pointed t structs b to)) (all_behind t structs vs))

-- ---- the writes

written_none : (t : Target) (cs : List Cell) (objects : CObjects) → written t cs [] objects ≡ Ok objects
written_none t [] objects = refl
written_none t (c ∷ cs) objects = refl

then_later : {A B C : Type 0} (r : Result A Fault) (f : A → Result B Fault) (g : B → Result C Fault) (h : A → Result C Fault) → ((a : A) → h a ≡ and_then (f a) g) → and_then r h ≡ and_then (and_then r f) g
then_later (Ok a) f g h e = e a
then_later (Err fault) f g h e = refl

then_same : {A B : Type 0} (r : Result A Fault) (f g : A → Result B Fault) → ((a : A) → f a ≡ g a) → and_then r f ≡ and_then r g
then_same (Ok a) f g e = e a
then_same (Err fault) f g e = refl

written_append : (t : Target) (xs ys : List Cell) (values : List ℤ) (objects : CObjects) → written t (xs ++ ys) values objects ≡ and_then (written t xs values objects) (written t ys (drop (length xs) values))
written_append t [] ys values objects = refl
written_append t (c ∷ cs) ys [] objects = sym (written_none t ys objects)
written_append t (c ∷ cs) ys (v ∷ vs) objects =
    then_later ((memory_of t).write objects c.object (c.at, c.scalar) v) (written t cs vs) (written t ys (drop (length cs) vs)) (written t (cs ++ ys) vs) (λ next. written_append t cs ys vs next)

each_is : (t : Target) (o : ℕ) (places : List (ℕ × CScalar)) (values : List ℤ) (objects : CObjects) → write_each (memory_of t).write objects o places values ≡ written t (map (cell_of o) places) values objects
each_is t o [] values objects = refl
each_is t o (x ∷ xs) [] objects = refl
each_is t o (x ∷ xs) (v ∷ vs) objects = then_same ((memory_of t).write objects o x v) (λ next. write_each (memory_of t).write next o xs vs) (written t (map (cell_of o) xs) vs) (λ next. each_is t o xs vs next)

length_pointed : (t : Target) (structs : List CStruct) (b : CBase) (to : Address) → length (map (cell_of to.object) (pointed t structs b to)) ≡ count (tree structs b)
length_pointed t structs b to =
    length-map (pointed t structs b to) (cell_of to.object) ∙ sym (length-map (pointed t structs b to) (λ x. x.1)) ∙ ap length (scalars_of_lay (metric_of t) (tree structs b) to.offset) ∙ length_scalars (tree structs b)

answered_then : (r : Result CObjects Fault) (f : CObjects → Result CObjects Trouble) (g : CObjects → Result CObjects Fault) → ((a : CObjects) → f a ≡ answered (g a)) → on_ok (answered r) f ≡ answered (and_then r g)
answered_then (Ok a) f g e = e a
answered_then (Err fault) f g e = refl

pub replies_are : (t : Target) (structs : List CStruct) (vs : List CValue) (values : List ℤ) (objects : CObjects) → write_replies t structs vs values objects ≡ answered (written t (all_behind t structs vs) values objects)
replies_are t structs [] values objects = refl
replies_are t structs (Num kind v ∷ vs) values objects = replies_are t structs vs values objects
replies_are t structs (Ptr true b to ∷ vs) values objects = replies_are t structs vs values objects
replies_are t structs (Ptr false b to ∷ vs) values objects =
    let here : List Cell = map (cell_of to.object) (pointed t structs b to) in
    let rest : List Cell = all_behind t structs vs in
    ap (λ r. on_ok (answered r) (write_replies t structs vs (drop (count (tree structs b)) values))) (each_is t to.object (pointed t structs b to) values objects)
    ∙ answered_then (written t here values objects) (write_replies t structs vs (drop (count (tree structs b)) values)) (written t rest (drop (count (tree structs b)) values)) (λ next. replies_are t structs vs (drop (count (tree structs b)) values) next)
    ∙ ap (λ k. answered (and_then (written t here values objects) (written t rest (drop k values)))) (sym (length_pointed t structs b to))
    ∙ ap answered (sym (written_append t here rest values objects))

-- ---- refusals

module _ {S N V B : Type 0} (r : Representation S V B) where
  set_refuses : (mem : Objects S N B) (o q : ℕ) (ob new : Object S N B) (y : ℕ × S) → slice_get mem o ≡ Some ob → write_fault r new y ≡ write_fault r ob y → refusal r (slice_get (slice_set mem o new) q) y ≡ refusal r (slice_get mem q) y
  set_refuses [] o q ob new y h e = absurd (cc)
  set_refuses (m ∷ mem) zero zero ob new y h e = let k : ob ≡ m = cc in e ∙ ap (λ x. write_fault r x y) k
  set_refuses (m ∷ mem) zero (suc q) ob new y h e = refl
  set_refuses (m ∷ mem) (suc o) zero ob new y h e = refl
  set_refuses (m ∷ mem) (suc o) (suc q) ob new y h e = set_refuses mem o q ob new y h e

  -- a write changes nothing of what may be written
  write_keeps : (mem new : Objects S N B) (o : ℕ) (x : ℕ × S) (v : V) → write r mem o x v ≡ Ok new → (q : ℕ) (y : ℕ × S) → refuses r new q y ≡ refuses r mem q y
  write_keeps mem new o x v h q y = go (slice_get mem o) refl h
    where
      done : (ob : Object S N B) (f : Option Fault) → slice_get mem o ≡ Some ob → and_then (unless f (Ok (object_written r ob x v))) (λ n. Ok (slice_set mem o n)) ≡ Ok new → refuses r new q y ≡ refuses r mem q y
      done ob (Some f) is e = absurd (cc)
      done ob None is e =
          let k : slice_set mem o (object_written r ob x v) ≡ new = cc in
          ap (λ m. refuses r m q y) (sym k) ∙ set_refuses mem o q ob (object_written r ob x v) y is refl

      go : (w : Option (Object S N B)) → slice_get mem o ≡ w → of_object w (λ ob. and_then (write_object r ob x v) (λ n. Ok (slice_set mem o n))) ≡ Ok new → refuses r new q y ≡ refuses r mem q y
      go None is e = absurd (cc)
      go (Some ob) is e = done ob (write_fault r ob x) is e

  -- what is not refused is written
  write_granted : (mem : Objects S N B) (o : ℕ) (x : ℕ × S) (v : V) → refuses r mem o x ≡ None → (new : Objects S N B) × (write r mem o x v ≡ Ok new)
  write_granted mem o x v h = go (slice_get mem o) h
    where
      go : (w : Option (Object S N B)) → refusal r w x ≡ None → (new : Objects S N B) × (of_object w (λ ob. and_then (write_object r ob x v) (λ n. Ok (slice_set mem o n))) ≡ Ok new)
      go None e = absurd (cc)
      go (Some ob) e = (slice_set mem o (object_written r ob x v), ap (λ f. and_then (unless f (Ok (object_written r ob x v))) (λ n. Ok (slice_set mem o n))) e)

  write_refused : (mem : Objects S N B) (o : ℕ) (x : ℕ × S) (v : V) (fault : Fault) → refuses r mem o x ≡ Some fault → write r mem o x v ≡ Err fault
  write_refused mem o x v fault h = go (slice_get mem o) h
    where
      go : (w : Option (Object S N B)) → refusal r w x ≡ Some fault → of_object w (λ ob. and_then (write_object r ob x v) (λ n. Ok (slice_set mem o n))) ≡ Err fault
      go None e = cc
      go (Some ob) e = ap (λ f. and_then (unless f (Ok (object_written r ob x v))) (λ n. Ok (slice_set mem o n))) e

module _ (t : Target) where
  kept_refusal : (mem new : CObjects) (o : ℕ) (x : ℕ × CScalar) (v : ℤ) → (memory_of t).write mem o x v ≡ Ok new → (cs : List Cell) (vs : List ℤ) → first_refusal t new cs vs ≡ first_refusal t mem cs vs
  kept_refusal mem new o x v h [] vs = refl
  kept_refusal mem new o x v h (c ∷ cs) [] = refl
  kept_refusal mem new o x v h (c ∷ cs) (u ∷ us) =
      ap (λ f. first_of f (first_refusal t new cs us)) (write_keeps (numbers {P = Address} (scalar_table (table_of t))) mem new o x v h c.object (c.at, c.scalar))
      ∙ ap (λ f. first_of ((memory_of t).refuses mem c.object (c.at, c.scalar)) f) (kept_refusal mem new o x v h cs us)

  first_none : (a b : Option Fault) → first_of a b ≡ None → (a ≡ None) × (b ≡ None)
  first_none None b h = (refl, h)
  first_none (Some fault) b h = absurd (cc)

  pub one_granted : (mem : CObjects) (o : ℕ) (x : ℕ × CScalar) (v : ℤ) → (memory_of t).refuses mem o x ≡ None → (new : CObjects) × ((memory_of t).write mem o x v ≡ Ok new)
  one_granted mem o x v h = write_granted (numbers {P = Address} (scalar_table (table_of t))) mem o x v h

  pub all_granted : (cs : List Cell) (vs : List ℤ) (mem : CObjects) → first_refusal t mem cs vs ≡ None → (new : CObjects) × (written t cs vs mem ≡ Ok new)
  all_granted [] vs mem h = (mem, refl)
  all_granted (c ∷ cs) [] mem h = (mem, refl)
  all_granted (c ∷ cs) (v ∷ vs) mem h =
      let both = first_none ((memory_of t).refuses mem c.object (c.at, c.scalar)) (first_refusal t mem cs vs) h in
      let next = one_granted mem c.object (c.at, c.scalar) v both.0 in
      let later = all_granted cs vs next.0 (kept_refusal mem next.0 c.object (c.at, c.scalar) v next.1 cs vs ∙ both.1) in
      (later.0, ap (λ r. and_then r (written t cs vs)) next.1 ∙ later.1)

  pub one_refused : (cs : List Cell) (vs : List ℤ) (mem : CObjects) (fault : Fault) → first_refusal t mem cs vs ≡ Some fault → written t cs vs mem ≡ Err fault
  one_refused [] vs mem fault h = absurd (cc)
  one_refused (c ∷ cs) [] mem fault h = absurd (cc)
  one_refused (c ∷ cs) (v ∷ vs) mem fault h = go ((memory_of t).refuses mem c.object (c.at, c.scalar)) refl h (λ next e. one_refused cs vs next fault e)
    where
      go : (f : Option Fault) → (memory_of t).refuses mem c.object (c.at, c.scalar) ≡ f → first_of f (first_refusal t mem cs vs) ≡ Some fault → ((next : CObjects) → first_refusal t next cs vs ≡ Some fault → written t cs vs next ≡ Err fault) → written t (c ∷ cs) (v ∷ vs) mem ≡ Err fault
      go (Some g) is e later =
          let k : g ≡ fault = cc in
          ap (λ r. and_then r (written t cs vs)) (write_refused (numbers {P = Address} (scalar_table (table_of t))) mem c.object (c.at, c.scalar) v g is) ∙ ap Err k
      go None is e later =
          let next = one_granted mem c.object (c.at, c.scalar) v is in
          ap (λ r. and_then r (written t cs vs)) next.1 ∙ later next.0 (kept_refusal mem next.0 c.object (c.at, c.scalar) v next.1 cs vs ∙ e)
