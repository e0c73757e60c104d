-- A copy part by part: the C of each part takes from one step for each of its nodes to four, and leaves the areas with the part put there.
use Rattle.std.proofs.Common.{◌≡◌, ℕ, zero, suc, ◌+◌, ◌-◌, ◌*◌, ◌==◌, ◌≤◌, ℤ, Bool, true, false, List, [], ◌∷◌, ◌++◌, slice_get, Some, Result, Ok, refl, sym, ◌∙◌, ap, subst, arith}
use Rattle.std.proofs.lemmas.Bool.{eqb-true, eqb-false}
use Rattle.std.proofs.lemmas.List.{append_assoc}
use Rattle.step_semantics.specs.Steps.{World}
use Rattle.step_semantics.specs.Takes.{Reaches}
use Rattle.step_semantics.proofs.Paying.{reaches_more}
use Rattle.type_trees.specs.Trees.{Leaf, Many, Struct, End, Field, nodes, nodes_row, part, part_row}
use Rattle.type_trees.specs.Values.{Cell, Parts, Values, Nil, Cons, EachOf, FitsRow}
use Rattle.type_trees.proofs.Values.{lens}
use Rattle.area_types.specs.Syntax.{ValueType}
use Rattle.area_types.specs.Trees.{Written, WrittenRow}
use Rattle.core_meaning.specs.Areas.{Held, Area, Areas, Live, put_at}
use Rattle.c_memory.specs.Access.{Fault}
use Rattle.c_ast.specs.declared.CKind.TheVariants.{Scalar}
use Rattle.c_ast.specs.Scalars.{metric_of}
use Rattle.c_ast.specs.Syntax.{Name, Read, Place, Stmt, Assign}
use Rattle.c_ast.specs.Targets.{table_of}
use Rattle.c_meaning.specs.Expressions as c
use Rattle.c_meaning.specs.Initializers.{as_number, number_of}
use Rattle.c_meaning.specs.Memory.{CObjects, memory_of}
use Rattle.c_meaning.specs.Places.{Lvalue, member_of, read}
use Rattle.c_meaning.specs.State.{CState, lives}
use Rattle.c_meaning.specs.Statements.{stored}
use Rattle.c_meaning.specs.Values.{CValue, Trouble, Num, on_ok}
use Rattle.c_meaning.proofs.HeldNumbers.{held_as_assigned}
use Rattle.area_objects.specs.Both.{Map, LiveIn, Done}
use Rattle.area_objects.specs.Copies.{PartIs, NextCopied, filled_to, many, mixed}
use Rattle.area_objects.specs.Holds.{CanHold, CellsFit}
use Rattle.area_objects.specs.Located.{FieldsApart, Numbered, NumberedFrom, located, many_fields}
use Rattle.area_objects.specs.PlaceLaws.{BothIn}
use Rattle.area_objects.specs.Shapes as shapes
use Rattle.area_objects.proofs.Alike.{lawful_in}
use Rattle.area_objects.proofs.Copies.{copies_begin, copies_go_on, copies_end}
use Rattle.area_objects.proofs.Kept.{part_fits}
use Rattle.area_objects.proofs.Lives.{objects_live}
use Rattle.area_objects.proofs.Located.{fields_located}
use Rattle.area_objects.proofs.Outside.{places_read, places_assigned}
use Rattle.lower_values.specs.Expressions.{field_name, fields_of}
use Rattle.lower_values.specs.Frames.{Frame}
use Rattle.lower_values.specs.Pieces.{pad}
use Rattle.lower_statements.specs.Parts.{copied, copied_fields, numbered_field, at_counter}
use Rattle.value_refinement.specs.Laws.{running}
use Rattle.value_refinement.specs.Settings.{Setting, Set}
use Rattle.value_refinement.proofs.Running.{runs_first, takes_pad}
use Rattle.statement_refinement.proofs.Stores.{takes_assign}
use Rattle.statement_refinement.specs.Moves.{StillLive}
use Rattle.statement_refinement.proofs.Written.{still_live}
use Rattle.body_refinement.proofs.Aside.{Aside, Fixed, aside_same, aside_twice, fixed_on}

-- a part of a live area of this type, with its object
pub record PartIn (objects : Map) (areas : Areas) (k o : ℕ) (ty : Written) (path : List ℕ) (b : Written) (v : Held) : Type 0 where
  pub is : PartIs areas k path b v
  pub type : is.area.ty ≡ ty
  pub object : slice_get objects k ≡ Some o

module _ (objects : Map) (areas : Areas) (k o : ℕ) (ty : Written) (path : List ℕ) (b : Written) (v : Held) (h : PartIn objects areas k o ty path b v) where
  pub part_lives : LiveIn objects areas k o h.is.area
  part_lives = record { live = h.is.live; object = h.object }

  -- where something was put, the area is the same but for what it holds
  pub same_area : (j : ℕ) (p : List ℕ) (x : Held) (l : StillLive (put_at j p x areas) k h.is.area) (now : Area) → slice_get (put_at j p x areas) k ≡ Some (Live now) → now ≡ l.area
  same_area j p x l now live = let same : Some (Live now) ≡ Some (Live l.area) = sym live ∙ l.live in cc

  -- what is a part there is a part of it
  abbrev pub part_still : (j : ℕ) (p : List ℕ) (x : Held) (longer : List ℕ) (c : Written) (w : Held) → PartIs (put_at j p x areas) k longer c w → PartIn objects (put_at j p x areas) k o ty longer c w
  part_still j p x longer c w now =
      let l = still_live j p x areas k h.is.area h.is.live in
      record { is = now; type = ap (λ (a : Area). a.ty) (same_area j p x l now.area now.live) ∙ l.type ∙ h.type; object = h.object }

  pub mutable_still : (j : ℕ) (p : List ℕ) (x : Held) (longer : List ℕ) (c : Written) (w : Held) → h.is.area.constant ≡ false → (now : PartIs (put_at j p x areas) k longer c w) → now.area.constant ≡ false
  mutable_still j p x longer c w mutable now =
      let l = still_live j p x areas k h.is.area h.is.live in
      ap (λ (a : Area). a.constant) (same_area j p x l now.area now.live) ∙ l.access ∙ mutable

module _ (g : Setting) (objects : Map) where
  -- the statements of a stretch, from state u, and what comes after them
  pub record Copied (areas : Areas) (least most : ℕ) (ss : List Stmt) (next : ℕ) (rest : List Stmt) (w : World) (u : CState) : Type 0 where
    pub steps : ℕ
    pub many : least ≤ steps
    pub few : steps ≤ most
    pub new : CState
    pub reaches : Reaches steps w (λ j. running g (ss ++ rest) j w u) (λ j. running g rest j w new)
    pub both : BothIn g.program.target g.naming objects areas new.objects
    pub aside : Aside g.program objects next u new

  abbrev pub At : Bool → ℕ → Written → List ℕ → Written → Lvalue
  At constant o ty path b = located g.program.target g.naming constant o ty path b

  -- the C of a part of this type copies it, from every state and at all places
  abbrev pub CopyOf : Written → Type 0
  CopyOf b =
      (areas : Areas) (u : CState) → BothIn g.program.target g.naming objects areas u.objects
      → (k o : ℕ) (ty : Written) (p : List ℕ) (old : Held) (part_to : PartIn objects areas k o ty p b old) → part_to.is.area.constant ≡ false
      → (j q : ℕ) (source_ty : Written) (r : List ℕ) (new : Held) → PartIn objects areas j q source_ty r b new
      → (constant source_constant : Bool) (to from : Place) (next : ℕ) → Fixed g.program objects next u to (At constant o ty p b) → Fixed g.program objects next u from (At source_constant q source_ty r b)
      → (rest : List Stmt) (w : World) → Copied (put_at k p new areas) (nodes b) (4 * nodes b - 3) (copied g.frame b to from next).stmts next rest w u

  -- what a part holds has its form
  pub holds_form : (areas : Areas) (u : CState) → BothIn g.program.target g.naming objects areas u.objects → (k o : ℕ) (ty : Written) (p : List ℕ) (b : Written) (v : Held) → PartIn objects areas k o ty p b v → CellsFit (CanHold (table_of g.program.target)) g.naming b v
  holds_form areas u both k o ty p b v h =
      let holds = both.holds k o h.is.area (part_lives objects areas k o ty p b v h) in
      part_fits (CanHold (table_of g.program.target)) g.naming h.is.area.ty p b h.is.area.held v holds.fits h.is.leads h.is.holds

-- ---- a scalar

module _ (g : Setting) (objects : Map) (x : ValueType) (areas : Areas) (u : CState) (both : BothIn g.program.target g.naming objects areas u.objects)
    (k o : ℕ) (ty : Written) (p : List ℕ) (old : Held) (part_to : PartIn objects areas k o ty p (Leaf x) old) (mutable : part_to.is.area.constant ≡ false)
    (j q : ℕ) (source_ty : Written) (r : List ℕ) (n : ℤ) (source : PartIn objects areas j q source_ty r (Leaf x) (Cell n)) (holds : CanHold (table_of g.program.target) (g.naming.scalar x) n)
    (constant source_constant : Bool) (to from : Place) (next : ℕ) (fixed : Fixed g.program objects next u to (At g objects constant o ty p (Leaf x))) (fixed_source : Fixed g.program objects next u from (At g objects source_constant q source_ty r (Leaf x)))
    (rest : List Stmt) (w : World) where
  placed : c.eval_place g.program to u ≡ Ok (At g objects constant o part_to.is.area.ty p (Leaf x))
  placed = fixed u (aside_same g.program objects next u) ∙ ap (λ t. let s : Result Lvalue Trouble = Ok (At g objects constant o t p (Leaf x)) in s) (sym part_to.type)

  abbrev value : CValue
  value = Num (Scalar (g.naming.scalar x)) n

  gives : c.eval g.program (Read from) u ≡ Ok value
  gives =
      ap (λ s. on_ok s (read g.program.target u)) (fixed_source u (aside_same g.program objects next u) ∙ ap (λ t. let s : Result Lvalue Trouble = Ok (At g objects source_constant q t r (Leaf x)) in s) (sym source.type))
      ∙ places_read g.program.target g.naming objects areas u j q source.is.area source_constant r x n both (part_lives objects areas j q source_ty r (Leaf x) (Cell n) source) source.is.leads source.is.holds

  number : as_number g.program.target (g.naming.scalar x) value ≡ Ok n
  number = ap (λ s. on_ok s number_of) (held_as_assigned g.program.target (g.naming.scalar x) (Scalar (g.naming.scalar x)) n holds)

  abbrev lives_there : LiveIn objects areas k o part_to.is.area
  lives_there = part_lives objects areas k o ty p (Leaf x) old part_to

  abbrev write : Result CObjects Fault
  write = (memory_of g.program.target).write u.objects o (shapes.place (metric_of g.program.target) g.naming part_to.is.area.ty p, g.naming.scalar x) n

  written : (done : Done (metric_of g.program.target) (CanHold (table_of g.program.target)) (memory_of g.program.target) g.naming write u.objects o objects (put_at k p (Cell n) areas))
      × (stored g.program.target u (At g objects constant o part_to.is.area.ty p (Leaf x)) value ≡ Ok done.new)
  written = places_assigned g.program.target g.naming objects areas u k o part_to.is.area constant p x value n both lives_there mutable part_to.is.leads number holds

  abbrev behind : CState
  behind = record u { objects = written.0.new }

  other_lives : (e : ℕ) (b : Bool) → (e == o) ≡ b → lives u e ≡ true → lives behind e ≡ true
  other_lives e true is h =
      let same : e ≡ o = eqb-true e o is in
      let l = still_live k p (Cell n) areas k part_to.is.area part_to.is.live in
      subst (λ i. lives behind i ≡ true) (sym same)
      (objects_live (metric_of g.program.target) (CanHold (table_of g.program.target)) (memory_of g.program.target) (lawful_in (table_of g.program.target)) g.naming objects (put_at k p (Cell n) areas) written.0.new k o l.area written.0.both
      (record { live = l.live; object = part_to.object }))
  other_lives e false is h = (written.0.others e (eqb-false e o is)).live ∙ h

  aside : Aside g.program objects next u behind
  aside = record {
    kept = record {
      names = λ name old_name. refl;
      callers = refl;
      count = (let same = written.0.count in omega (arith, same));
      objects_apart = λ e lt none. written.0.others e (λ same. none k (part_to.object ∙ ap Some (sym same)));
    };
    living = λ e lt h. other_lives e (e == o) refl h;
  }

  pub number_copied : Copied g objects (put_at k p (Cell n) areas) 1 1 (Assign to (Read from) ∷ []) next rest w u
  number_copied = record {
    steps = 1;
    many = omega arith;
    few = omega arith;
    new = behind;
    reaches = runs_first g 1 (Assign to (Read from)) rest w u behind (takes_assign g w u to (Read from) (At g objects constant o part_to.is.area.ty p (Leaf x)) value written.0.new placed gives written.1);
    both = written.0.both;
    aside = aside;
  }

pub scalar_copied : (g : Setting) (objects : Map) (x : ValueType) → CopyOf g objects (Leaf x)
scalar_copied g objects x areas u both k o ty p old part_to mutable j q source_ty r (Cell n) source constant source_constant to from next fixed fixed_source rest w =
    number_copied g objects x areas u both k o ty p old part_to mutable j q source_ty r n source (holds_form g objects areas u both j q source_ty r (Leaf x) (Cell n) source) constant source_constant to from next fixed fixed_source rest w
scalar_copied g objects x areas u both k o ty p old part_to mutable j q source_ty r (Parts vs) source constant source_constant to from next fixed fixed_source rest w =
    absurd (holds_form g objects areas u both j q source_ty r (Leaf x) (Parts vs) source)

-- ---- numbers of temporaries

mutual
  pub copied_grows : (f : Frame) (b : Written) (to from : Place) (k : ℕ) → k ≤ (copied f b to from k).next
  copied_grows f (Leaf x) to from k = omega arith
  copied_grows f (Many n a) to from k = let r = copied_grows f a (at_counter k to) (at_counter k from) (suc k) in omega (arith, r)
  copied_grows f (Struct s row) to from k = fields_grow f row s to from k

  fields_grow : (f : Frame) (row : WrittenRow) (s : ℕ) (to from : Place) (k : ℕ) → k ≤ (copied_fields f row s to from k).next
  fields_grow f End s to from k = omega arith
  fields_grow f (Field i a row) s to from k =
      let first : ℕ = (copied f a (numbered_field f s i to) (numbered_field f s i from) k).next in
      let r : k ≤ first = copied_grows f a (numbered_field f s i to) (numbered_field f s i from) k in
      let q : first ≤ (copied_fields f row s to from first).next = fields_grow f row s to from first in omega (arith, r, q)

-- ---- how many values there are

row_many : (Holds : ValueType → ℤ → Type 0) (row : WrittenRow) (us : Values ℤ) → FitsRow Holds row us → many us ≡ many_fields row
row_many Holds End Nil h = refl
row_many Holds End (Cons v us) h = absurd h
row_many Holds (Field f a row) Nil h = absurd h
row_many Holds (Field f a row) (Cons v us) h = ap suc (row_many Holds row us h.1)

pub each_many : (n : ℕ) (P : Held → Type 0) (us : Values ℤ) → EachOf n P us → many us ≡ n
each_many zero P Nil h = refl
each_many zero P (Cons v us) h = absurd h
each_many (suc n) P Nil h = absurd h
each_many (suc n) P (Cons v us) h = ap suc (each_many n P us h.1)

-- ---- one part after another

module _ (g : Setting) (objects : Map) (areas : Areas) (k o : ℕ) (ty : Written) (p : List ℕ) (b : Written) (ws : Values ℤ) (part_to : PartIn objects areas k o ty p b (Parts ws)) (mutable : part_to.is.area.constant ≡ false)
    (j q : ℕ) (source_ty : Written) (r : List ℕ) (us : Values ℤ) (source : PartIn objects areas j q source_ty r b (Parts us)) where
  -- part i of both, once the parts before it are copied
  pub record Here (i : ℕ) (a : Written) : Type 0 where
    pub old : Held
    pub new : Held
    pub part_to_here : PartIn objects (filled_to areas k p i us ws) k o ty (p ++ i ∷ []) a old
    pub mutable_here : part_to_here.is.area.constant ≡ false
    pub source_here : PartIn objects (filled_to areas k p i us ws) j q source_ty (r ++ i ∷ []) a new
    pub one_more : put_at k (p ++ i ∷ []) new (filled_to areas k p i us ws) ≡ filled_to areas k p (suc i) us ws

  pub part_here : (i : ℕ) (a : Written) → part b (i ∷ []) ≡ Some a → CellsFit (CanHold (table_of g.program.target)) g.naming b (Parts us) → CellsFit (CanHold (table_of g.program.target)) g.naming b (Parts ws) → Here i a
  part_here i a leads us_fit ws_fit =
      let u = lens (λ (s : ValueType) (n : ℤ). CanHold (table_of g.program.target) (g.naming.scalar s) n) b (i ∷ []) a (Parts us) leads us_fit in
      let w = lens (λ (s : ValueType) (n : ℤ). CanHold (table_of g.program.target) (g.naming.scalar s) n) b (i ∷ []) a (Parts ws) leads ws_fit in
      let n : NextCopied areas k p j r i us ws a u.value w.value = copies_go_on areas k p j r b a i us ws u.value w.value part_to.is source.is leads u.is w.is in
      record {
        old = w.value;
        new = u.value;
        part_to_here = part_still objects areas k o ty p b (Parts ws) part_to k p (Parts (mixed i us ws)) (p ++ i ∷ []) a w.value n.place;
        mutable_here = mutable_still objects areas k o ty p b (Parts ws) part_to k p (Parts (mixed i us ws)) (p ++ i ∷ []) a w.value mutable n.place;
        source_here = part_still objects areas j q source_ty r b (Parts us) source k p (Parts (mixed i us ws)) (r ++ i ∷ []) a u.value n.source;
        one_more = n.one_more;
      }

  pub first_none : (u : CState) → BothIn g.program.target g.naming objects areas u.objects → BothIn g.program.target g.naming objects (filled_to areas k p 0 us ws) u.objects
  first_none u both = subst (λ l. BothIn g.program.target g.naming objects l u.objects) (sym (copies_begin areas k p b us ws part_to.is)) both

  pub last_all : (i : ℕ) → many us ≡ i → many ws ≡ i → (u : CState) → BothIn g.program.target g.naming objects (filled_to areas k p i us ws) u.objects → BothIn g.program.target g.naming objects (put_at k p (Parts us) areas) u.objects
  last_all i e f u both =
      subst (λ l. BothIn g.program.target g.naming objects (put_at k p (Parts l) areas) u.objects)
      (ap (λ n. mixed n us ws) (sym e) ∙ copies_end us ws (e ∙ sym f)) both

  pub leads_to : part ty p ≡ Some b
  leads_to = ap (λ t. part t p) (sym part_to.type) ∙ part_to.is.leads

  pub leads_from : part source_ty r ≡ Some b
  leads_from = ap (λ t. part t r) (sym source.type) ∙ source.is.leads

-- ---- a struct

abbrev pub RowCopies : Setting → Map → WrittenRow → Type 0
RowCopies g objects End = Unit {0}
RowCopies g objects (Field f a row) = CopyOf g objects a × RowCopies g objects row

module _ (g : Setting) (set : Set g) (objects : Map) (s : ℕ) (row : WrittenRow) (apart : FieldsApart g.naming s row) (numbered : Numbered (Struct s row))
    (areas : Areas) (k o : ℕ) (ty : Written) (p : List ℕ) (ws : Values ℤ) (part_to : PartIn objects areas k o ty p (Struct s row) (Parts ws)) (mutable : part_to.is.area.constant ≡ false)
    (j q : ℕ) (source_ty : Written) (r : List ℕ) (us : Values ℤ) (source : PartIn objects areas j q source_ty r (Struct s row) (Parts us))
    (us_fit : CellsFit (CanHold (table_of g.program.target)) g.naming (Struct s row) (Parts us)) (ws_fit : CellsFit (CanHold (table_of g.program.target)) g.naming (Struct s row) (Parts ws))
    (constant source_constant : Bool) (to from : Place) (w : World) where
  -- the place of a field
  field_fixed : (c : Bool) (e : ℕ) (t : Written) (path : List ℕ) (l : Place) → part t path ≡ Some (Struct s row) → (f i : ℕ) → f ≡ i → (a : Written) → part (Struct s row) (i ∷ []) ≡ Some a → (next : ℕ) (u : CState)
      → Fixed g.program objects next u l (At g objects c e t path (Struct s row)) → Fixed g.program objects next u (numbered_field g.frame s f l) (At g objects c e t (path ++ i ∷ []) a)
  field_fixed c e t path l leads f i same a field next u fixed z aside =
      let name : Name = field_name (slice_get (fields_of (slice_get g.frame.table.structs s)) f) in
      ap (λ x. on_ok x (member_of g.program.target name)) (fixed z aside)
      ∙ ap (λ m. member_of g.program.target m (At g objects c e t path (Struct s row))) (sym (set.members s f) ∙ ap (g.naming.member s) same)
      ∙ (fields_located g.program.target g.naming c e t path s row i a apart numbered leads field).1

  fields_copied : (more : WrittenRow) → RowCopies g objects more → (i : ℕ) → NumberedFrom more i → ((f e : ℕ) (a : Written) → e ≡ i + f → part_row more f [] ≡ Some a → part_row row e [] ≡ Some a) → i + many_fields more ≡ many_fields row
      → (u : CState) → BothIn g.program.target g.naming objects (filled_to areas k p i us ws) u.objects
      → (next : ℕ) → Fixed g.program objects next u to (At g objects constant o ty p (Struct s row)) → Fixed g.program objects next u from (At g objects source_constant q source_ty r (Struct s row))
      → (rest : List Stmt) → Copied g objects (put_at k p (Parts us) areas) (nodes_row more) (4 * nodes_row more) (copied_fields g.frame more s to from next).stmts next rest w u
  fields_copied End copies i numbers tail all u both next fixed fixed_source rest =
      let has : many_fields row ≡ i = omega (arith, all) in
      record {
        steps = 0;
        many = omega arith;
        few = omega arith;
        new = u;
        reaches = record { waits = λ n lt. absurd (omega (arith, lt)); comes = λ n. (let e : 0 + n ≡ n = omega arith in ap (λ m. running g rest m w u) e) };
        both = last_all g objects areas k o ty p (Struct s row) ws part_to mutable j q source_ty r us source i (row_many _ row us us_fit ∙ has) (row_many _ row ws ws_fit ∙ has) u both;
        aside = aside_same g.program objects next u;
      }
  fields_copied (Field f a more) copies i numbers tail all u both next fixed fixed_source rest =
      let leads : part (Struct s row) (i ∷ []) ≡ Some a = tail 0 i a (omega arith) refl in
      let here : Here g objects areas k o ty p (Struct s row) ws part_to mutable j q source_ty r us source i a =
      part_here g objects areas k o ty p (Struct s row) ws part_to mutable j q source_ty r us source i a leads us_fit ws_fit in
      let to_field : Place = numbered_field g.frame s f to in
      let from_field : Place = numbered_field g.frame s f from in
      let later : ℕ = (copied g.frame a to_field from_field next).next in
      let grows : next ≤ later = copied_grows g.frame a to_field from_field next in
      let head : List Stmt = (copied g.frame a to_field from_field next).stmts in
      let tail_stmts : List Stmt = (copied_fields g.frame more s to from later).stmts in
      let one : Copied g objects (put_at k (p ++ i ∷ []) here.new (filled_to areas k p i us ws)) (nodes a) (4 * nodes a - 3) head next (tail_stmts ++ rest) w u =
      copies.0 (filled_to areas k p i us ws) u both k o ty (p ++ i ∷ []) here.old here.part_to_here here.mutable_here j q source_ty (r ++ i ∷ []) here.new here.source_here constant source_constant to_field from_field next
      (field_fixed constant o ty p to (leads_to g objects areas k o ty p (Struct s row) ws part_to mutable j q source_ty r us source) f i numbers.0 a leads next u fixed)
      (field_fixed source_constant q source_ty r from (leads_from g objects areas k o ty p (Struct s row) ws part_to mutable j q source_ty r us source) f i numbers.0 a leads next u fixed_source)
      (tail_stmts ++ rest) w in
      let both_on : BothIn g.program.target g.naming objects (filled_to areas k p (suc i) us ws) one.new.objects = subst (λ l. BothIn g.program.target g.naming objects l one.new.objects) here.one_more one.both in
      let others : Copied g objects (put_at k p (Parts us) areas) (nodes_row more) (4 * nodes_row more) tail_stmts later rest w one.new =
      fields_copied more copies.1 (suc i) numbers.2 (λ n e b is h. tail (suc n) e b (omega (arith, is)) h) (omega (arith, all)) one.new both_on later
      (fixed_on g.program objects next later u one.new to (At g objects constant o ty p (Struct s row)) grows fixed one.aside)
      (fixed_on g.program objects next later u one.new from (At g objects source_constant q source_ty r (Struct s row)) grows fixed_source one.aside) rest in
      record {
        steps = one.steps + others.steps;
        many = omega (arith, one.many, others.many);
        few = omega (arith, one.few, others.few);
        new = others.new;
        reaches = subst (λ ss. Reaches (one.steps + others.steps) w (λ n. running g ss n w u) (λ n. running g rest n w others.new)) (sym (append_assoc head tail_stmts rest))
            (reaches_more one.steps others.steps w (λ n. running g (head ++ (tail_stmts ++ rest)) n w u) (λ n. running g (tail_stmts ++ rest) n w one.new) (λ n. running g rest n w others.new) one.reaches others.reaches);
        both = others.both;
        aside = aside_twice g.program objects next later u one.new others.new grows one.aside others.aside;
      }

  pub row_copied : RowCopies g objects row → (u : CState) → BothIn g.program.target g.naming objects areas u.objects
      → (next : ℕ) → Fixed g.program objects next u to (At g objects constant o ty p (Struct s row)) → Fixed g.program objects next u from (At g objects source_constant q source_ty r (Struct s row))
      → (rest : List Stmt) → Copied g objects (put_at k p (Parts us) areas) (nodes (Struct s row)) (4 * nodes (Struct s row) - 3) (copied g.frame (Struct s row) to from next).stmts next rest w u
  row_copied copies u both next fixed fixed_source rest =
      let fields : List Stmt = (copied_fields g.frame row s to from next).stmts in
      let all : Copied g objects (put_at k p (Parts us) areas) (nodes_row row) (4 * nodes_row row) fields next rest w u =
      fields_copied row copies 0 numbered (λ f e a is h. (let same : f ≡ e = omega (arith, is) in subst (λ n. part_row row n [] ≡ Some a) same h)) (omega arith) u
      (first_none g objects areas k o ty p (Struct s row) ws part_to mutable j q source_ty r us source u both) next fixed fixed_source rest in
      record {
        steps = 1 + all.steps;
        many = omega (arith, all.many);
        few = omega (arith, all.few);
        new = all.new;
        reaches = reaches_more 1 all.steps w (λ n. running g (pad ∷ (fields ++ rest)) n w u) (λ n. running g (fields ++ rest) n w u) (λ n. running g rest n w all.new) (runs_first g 1 pad (fields ++ rest) w u u (takes_pad g w u)) all.reaches;
        both = all.both;
        aside = all.aside;
      }

pub struct_copied : (g : Setting) → Set g → (objects : Map) (s : ℕ) (row : WrittenRow) → FieldsApart g.naming s row → Numbered (Struct s row) → RowCopies g objects row → CopyOf g objects (Struct s row)
struct_copied g set objects s row apart numbered copies areas u both k o ty p (Parts ws) part_to mutable j q source_ty r (Parts us) source constant source_constant to from next fixed fixed_source rest w =
    row_copied g set objects s row apart numbered areas k o ty p ws part_to mutable j q source_ty r us source
    (holds_form g objects areas u both j q source_ty r (Struct s row) (Parts us) source) (holds_form g objects areas u both k o ty p (Struct s row) (Parts ws) part_to) constant source_constant to from w copies u both next fixed fixed_source rest
struct_copied g set objects s row apart numbered copies areas u both k o ty p (Cell n) part_to mutable j q source_ty r new source constant source_constant to from next fixed fixed_source rest w =
    absurd (holds_form g objects areas u both k o ty p (Struct s row) (Cell n) part_to)
struct_copied g set objects s row apart numbered copies areas u both k o ty p (Parts ws) part_to mutable j q source_ty r (Cell n) source constant source_constant to from next fixed fixed_source rest w =
    absurd (holds_form g objects areas u both j q source_ty r (Struct s row) (Cell n) source)
