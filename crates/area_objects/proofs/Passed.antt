-- Arguments of an import, one after another: a reference and its pointer lead to the same part, also once other parts were written.
use Rattle.std.proofs.Common.{◌≡◌, ◌≢◌, ℕ, ◌==◌, ℤ, List, [], ◌∷◌, length, drop, Bool, true, false, slice_get, Option, Some, None, Ok, refl, sym, ◌∙◌, ap, subst}
use Rattle.std.specs.Option.{option_map, option_and_then}
use Rattle.std.proofs.lemmas.Bool.{eqb-true, eqb-false}
use Rattle.run_records.specs.declared.Piece.{Piece}
use Rattle.run_records.specs.declared.Piece.TheVariants as piece
use Rattle.type_trees.specs.Trees.{count, part}
use Rattle.type_trees.specs.Layouts.{lay}
use Rattle.type_trees.specs.Values.{cells, at}
use Rattle.type_trees.proofs.Values.{lens}
use Rattle.area_types.specs.Syntax.{ValueType}
use Rattle.area_types.specs.Trees.{Written}
use Rattle.core_tree.specs.Syntax.{ModuleCore}
use Rattle.c_memory.specs.Abstract.{Same}
use Rattle.c_memory.specs.Copies.{write_each}
use Rattle.c_ast.specs.declared.CBase.{CBase}
use Rattle.c_ast.specs.declared.CStruct.{CStruct}
use Rattle.c_ast.specs.declared.Target.{Target}
use Rattle.c_ast.specs.Scalars.{metric_of}
use Rattle.c_ast.specs.Structs.{tree}
use Rattle.c_ast.specs.Targets.{table_of}
use Rattle.c_meaning.specs.Calls as calls
use Rattle.c_meaning.specs.Calls.{pointed, write_replies}
use Rattle.c_meaning.specs.Memory.{CObjects, memory_of, answered}
use Rattle.c_meaning.specs.Values as target
use Rattle.c_meaning.specs.Values.{Address, CValue, Trouble, on_ok}
use Rattle.core_meaning.specs.Areas.{Held, Area, Areas, Live, in_map, filled, with_part, put_at}
use Rattle.core_meaning.specs.Imports.{piece_of, pieces_of, writable, behind, written, all_written}
use Rattle.core_meaning.specs.Values as source
use Rattle.core_meaning.proofs.Areas.{others_stay}
use Rattle.area_objects.specs.Shapes.{Naming, shape, part_scalars}
use Rattle.area_objects.specs.Holds.{CanHold}
use Rattle.area_objects.specs.Both.{Map, LiveIn}
use Rattle.area_objects.specs.Located.{begins}
use Rattle.area_objects.specs.PlaceLaws.{BothIn}
use Rattle.area_objects.specs.Passed.{Points, Passed, AllPassed, ArgumentsSeen, Gets, AllGet, Replied, ArgumentsWritten}
use Rattle.area_objects.proofs.Alike.{lawful_in, values_in}
use Rattle.area_objects.proofs.Kept.{itself}
use Rattle.area_objects.proofs.Outside.{pointers_show}
use Rattle.area_objects.proofs.Places.{put_here}
use Rattle.area_objects.proofs.Shapes.{count_shape}
use Rattle.area_objects.proofs.Writes.{replies_written}

-- ---- what is seen

module _ (t : Target) (g : Naming) (structs : List CStruct) (objects : Map) (areas : Areas) (mem : CObjects) (both : BothIn t g objects areas mem) where
  -- one argument
  pub record Seen (v : source.Value) (u : CValue) : Type 0 where
    pub piece : Piece
    pub source_is : piece_of areas v ≡ Some piece
    pub target_is : calls.piece_of t structs mem u ≡ Ok piece

  pointer_seen : (k : ℕ) (path : List ℕ) (c : Bool) (b : CBase) (to : Address) → Points t g structs objects areas k path b to → Seen (source.Ref k path) (target.Ptr c b to)
  pointer_seen k path c b to p =
      let l = lens (λ (s : ValueType) (n : ℤ). CanHold (table_of t) (g.scalar s) n) p.area.ty path p.content p.area.held p.leads (both.holds k p.object p.area p.lives).fits in
      record {
        piece = piece.Cells (cells l.value);
        source_is = ap (λ x. option_map piece.Cells (option_map cells (option_and_then (λ (a : Area). at a.held path) (option_and_then in_map x)))) p.lives.live
            ∙ ap (λ x. option_map piece.Cells (option_map cells x)) l.is;
        target_is = ap (λ x. calls.piece_of t structs mem (target.Ptr c b x)) p.address
            ∙ pointers_show t g structs objects areas mem k p.object p.area c b path p.content l.value p.type both p.lives p.leads l.is;
      }

  one_seen : (core : ModuleCore) (ty : ValueType) (v : source.Value) (u : CValue) → Passed t g structs objects areas core ty v u → Seen v u
  one_seen core ty (source.Num v) (target.Num kind n) h = record { piece = piece.Value v; source_is = refl; target_is = ap (λ x. Ok (piece.Value x)) h.1 }
  one_seen core ty (source.Num v) (target.Ptr c b to) h = absurd h
  one_seen core ty (source.Ref k path) (target.Num kind n) h = absurd h
  one_seen core ty (source.Ref k path) (target.Ptr true b to) h = pointer_seen k path true b to h.1
  one_seen core ty (source.Ref k path) (target.Ptr false b to) h = pointer_seen k path false b to h.0

  all_seen : (core : ModuleCore) (params : List ValueType) (vs : List source.Value) (us : List CValue) → AllPassed t g structs objects areas core params vs us
      → (pieces : List Piece) × (pieces_of areas vs ≡ Some pieces) × (calls.pieces_of t structs mem us ≡ Ok pieces)
  all_seen core [] [] [] h = ([], refl, refl)
  all_seen core [] [] (u ∷ us) h = absurd h
  all_seen core [] (v ∷ vs) us h = absurd h
  all_seen core (ty ∷ params) [] us h = absurd h
  all_seen core (ty ∷ params) (v ∷ vs) [] h = absurd h
  all_seen core (ty ∷ params) (v ∷ vs) (u ∷ us) h =
      let one = one_seen core ty v u h.0 in
      let more = all_seen core params vs us h.1 in (
        one.piece ∷ more.0,
        ap (λ x. option_and_then (λ p. option_map (λ ps. p ∷ ps) (pieces_of areas vs)) x) one.source_is ∙ ap (option_map (λ ps. one.piece ∷ ps)) more.1,
        ap (λ x. on_ok x (λ p. on_ok (calls.pieces_of t structs mem us) (λ ps. Ok (p ∷ ps)))) one.target_is ∙ ap (λ x. on_ok x (λ ps. Ok (one.piece ∷ ps))) more.2,
      )

pub arguments_seen : ArgumentsSeen
arguments_seen t g structs core objects areas mem params vs us both h = all_seen t g structs objects areas mem both core params vs us h

-- ---- what lasts of arguments when another part is written

module _ (t : Target) (g : Naming) (structs : List CStruct) (objects : Map) (areas : Areas) (j : ℕ) (r : List ℕ) (x : Held) where
  abbrev now : Areas
  now = put_at j r x areas

  -- the area of a number is still live, of the same type and access
  pub record StillLive (k o : ℕ) (a : Area) : Type 0 where
    pub area : Area
    pub lives : LiveIn objects now k o area
    pub type : a.ty ≡ area.ty
    pub access : a.constant ≡ area.constant

  still_live : (k o : ℕ) (a : Area) → LiveIn objects areas k o a → StillLive k o a
  still_live k o a l = go (k == j) refl
    where
      go : (z : Bool) → (k == j) ≡ z → StillLive k o a
      go true e =
          let same : k ≡ j = eqb-true k j e in
          let live : slice_get now k ≡ Some (Live (with_part r x a)) = ap (slice_get now) same ∙ put_here j r x areas a (ap (slice_get areas) (sym same) ∙ l.live) in
          record { area = with_part r x a; lives = record { live = live; object = l.object }; type = refl; access = refl }
      go false e = record { area = a; lives = record { live = others_stay areas j r x k (eqb-false k j e) ∙ l.live; object = l.object }; type = refl; access = refl }

  points_still : (k : ℕ) (path : List ℕ) (b : CBase) (to : Address) (p : Points t g structs objects areas k path b to)
      → (q : Points t g structs objects now k path b to) × (q.content ≡ p.content) × (p.area.constant ≡ q.area.constant)
  points_still k path b to p =
      let s = still_live k p.object p.area p.lives in (
        record {
          object = p.object;
          area = s.area;
          lives = s.lives;
          content = p.content;
          leads = ap (λ ty. part ty path) (sym s.type) ∙ p.leads;
          type = p.type;
          address = p.address ∙ ap (λ ty. begins t g p.object ty path) s.type;
        },
        refl,
        s.access,
      )

  passed_still : (core : ModuleCore) (ty : ValueType) (v : source.Value) (u : CValue) → Passed t g structs objects areas core ty v u → Passed t g structs objects now core ty v u
  passed_still core ty (source.Num v) (target.Num kind n) h = h
  passed_still core ty (source.Num v) (target.Ptr c b to) h = absurd h
  passed_still core ty (source.Ref k path) (target.Num kind n) h = absurd h
  passed_still core ty (source.Ref k path) (target.Ptr true b to) h = (h.0, (points_still k path b to h.1).0)
  passed_still core ty (source.Ref k path) (target.Ptr false b to) h =
      let q = points_still k path b to h.0 in
      (q.0, h.1 ∙ ap Some (sym q.1), sym q.2 ∙ h.2)

  pub all_still : (core : ModuleCore) (params : List ValueType) (vs : List source.Value) (us : List CValue) → AllPassed t g structs objects areas core params vs us → AllPassed t g structs objects now core params vs us
  all_still core [] [] [] h = tt
  all_still core [] [] (u ∷ us) h = absurd h
  all_still core [] (v ∷ vs) us h = absurd h
  all_still core (ty ∷ params) [] us h = absurd h
  all_still core (ty ∷ params) (v ∷ vs) [] h = absurd h
  all_still core (ty ∷ params) (v ∷ vs) (u ∷ us) h = (passed_still core ty v u h.0, all_still core params vs us h.1)

-- ---- what is written

same_twice : (t : Target) (first second third : CObjects) (q : ℕ) → Same (metric_of t) (memory_of t) first second q → Same (metric_of t) (memory_of t) second third q → Same (metric_of t) (memory_of t) first third q
same_twice t first second third q h k = record {
  live = k.live ∙ h.live;
  reads = λ x. k.reads x ∙ h.reads x;
  refuses = λ x. k.refuses x ∙ h.refuses x;
  shows = λ c a us s. k.shows c a us (h.shows c a us s);
}

not_writable : (o : Option Written) (v : source.Value) (reply : List ℤ) (areas : Areas) → o ≡ None → (written o v reply areas ≡ areas) × (behind o reply ≡ reply)
not_writable None v reply areas e = (refl, refl)
not_writable (Some ty) v reply areas e = absurd (cc)

module _ (t : Target) (g : Naming) (structs : List CStruct) (core : ModuleCore) (objects : Map) where
  -- the pointer of a mutable reference: the first numbers are written behind it, and the others are left
  pub record OneWritten (areas : Areas) (mem : CObjects) (o : Option Written) (v : source.Value) (reply : List ℤ) (b : CBase) (to : Address) : Type 0 where
    pub new : CObjects
    pub is : answered (write_each (memory_of t).write mem to.object (pointed t structs b to) reply) ≡ Ok new
    pub both : BothIn t g objects (written o v reply areas) new
    pub others : (q : ℕ) → ((k : ℕ) → slice_get objects k ≢ Some q) → Same (metric_of t) (memory_of t) mem new q
    pub left : drop (count (tree structs b)) reply ≡ behind o reply
    pub count : length new ≡ length mem

  one_written : (areas : Areas) (mem : CObjects) (k : ℕ) (path : List ℕ) (b : CBase) (to : Address) (reply : List ℤ) → BothIn t g objects areas mem → (p : Points t g structs objects areas k path b to)
      → p.area.constant ≡ false → Gets t g (Some p.content) reply → OneWritten areas mem (Some p.content) (source.Ref k path) reply b to
  one_written areas mem k path b to reply both p mutable gets =
      let done = replies_written (metric_of t) (CanHold (table_of t)) (memory_of t) (lawful_in (table_of t)) (values_in (table_of t)) g objects areas mem k p.object p.area path p.content reply both p.lives mutable p.leads gets.0 gets.1 in
      let object_is : to.object ≡ p.object = ap (λ (x : Address). x.object) p.address in
      let scalars_are : pointed t structs b to ≡ part_scalars (metric_of t) g p.area.ty path p.content =
      ap (λ d. lay (metric_of t) d to.offset) p.type ∙ ap (λ (x : Address). lay (metric_of t) (shape g p.content) x.offset) p.address in
      record {
        new = done.new;
        is = ap (λ x. answered (write_each (memory_of t).write mem x (pointed t structs b to) reply)) object_is
            ∙ ap (λ xs. answered (write_each (memory_of t).write mem p.object xs reply)) scalars_are ∙ ap answered done.is;
        both = done.both;
        others = λ q none. done.others q (λ e. none k (p.lives.object ∙ ap Some (sym e)));
        count = done.count;
        left = ap (λ d. drop (count d) reply) p.type ∙ ap (λ n. drop n reply) (count_shape g p.content);
      }

  abbrev Rest : List ValueType → List source.Value → List CValue → List ℤ → Areas → CObjects → Type 0
  Rest params vs us reply areas mem = Replied t g (write_replies t structs us reply mem) mem objects (all_written core params vs reply areas)

  -- where an argument is not written, what comes after it begins where it did
  skipped : (o : Option Written) (v : source.Value) (params : List ValueType) (vs : List source.Value) (us : List CValue) (reply : List ℤ) (areas : Areas) (mem : CObjects) → o ≡ None → Rest params vs us reply areas mem
      → Replied t g (write_replies t structs us reply mem) mem objects (all_written core params vs (behind o reply) (written o v reply areas))
  skipped o v params vs us reply areas mem e rest =
      let n = not_writable o v reply areas e in
      subst (λ l. Replied t g (write_replies t structs us reply mem) mem objects (all_written core params vs l (written o v reply areas))) (sym n.1)
      (subst (λ l. Replied t g (write_replies t structs us reply mem) mem objects (all_written core params vs reply l)) (sym n.0) rest)

  joined : (areas : Areas) (mem : CObjects) (o : Option Written) (k : ℕ) (path : List ℕ) (b : CBase) (to : Address) (params : List ValueType) (vs : List source.Value) (us : List CValue) (reply : List ℤ)
      → (one : OneWritten areas mem o (source.Ref k path) reply b to) → Rest params vs us (behind o reply) (written o (source.Ref k path) reply areas) one.new
      → Replied t g (write_replies t structs (target.Ptr false b to ∷ us) reply mem) mem objects (all_written core params vs (behind o reply) (written o (source.Ref k path) reply areas))
  joined areas mem o k path b to params vs us reply one rest = record {
    new = rest.new;
    is = ap (λ r. on_ok r (write_replies t structs us (drop (count (tree structs b)) reply))) one.is ∙ ap (λ l. write_replies t structs us l one.new) one.left ∙ rest.is;
    both = rest.both;
    others = λ q none. same_twice t mem one.new rest.new q (one.others q none) (rest.others q none);
    count = rest.count ∙ one.count;
  }

  all_done : (params : List ValueType) (vs : List source.Value) (us : List CValue) (reply : List ℤ) (areas : Areas) (mem : CObjects)
      → BothIn t g objects areas mem → AllPassed t g structs objects areas core params vs us → AllGet t g core params reply → Rest params vs us reply areas mem
  all_done [] [] [] reply areas mem both h gets = record { new = mem; is = refl; both = both; others = λ q none. itself (metric_of t) (CanHold (table_of t)) (memory_of t) g mem q; count = refl }
  all_done [] [] (u ∷ us) reply areas mem both h gets = absurd h
  all_done [] (v ∷ vs) us reply areas mem both h gets = absurd h
  all_done (ty ∷ params) [] us reply areas mem both h gets = absurd h
  all_done (ty ∷ params) (v ∷ vs) [] reply areas mem both h gets = absurd h
  all_done (ty ∷ params) (source.Num v ∷ vs) (target.Num kind n ∷ us) reply areas mem both h gets =
      let none : writable core ty ≡ None = h.0.0 in
      let e = not_writable (writable core ty) (source.Num v) reply areas none in
      skipped (writable core ty) (source.Num v) params vs us reply areas mem none (all_done params vs us reply areas mem both h.1 (subst (λ l. AllGet t g core params l) e.1 gets.1))
  all_done (ty ∷ params) (source.Num v ∷ vs) (target.Ptr c b to ∷ us) reply areas mem both h gets = absurd h.0
  all_done (ty ∷ params) (source.Ref k path ∷ vs) (target.Num kind n ∷ us) reply areas mem both h gets = absurd h.0
  all_done (ty ∷ params) (source.Ref k path ∷ vs) (target.Ptr true b to ∷ us) reply areas mem both h gets =
      let none : writable core ty ≡ None = h.0.0 in
      let e = not_writable (writable core ty) (source.Ref k path) reply areas none in
      skipped (writable core ty) (source.Ref k path) params vs us reply areas mem none (all_done params vs us reply areas mem both h.1 (subst (λ l. AllGet t g core params l) e.1 gets.1))
  all_done (ty ∷ params) (source.Ref k path ∷ vs) (target.Ptr false b to ∷ us) reply areas mem both h gets =
      let p = h.0.0 in
      let is : writable core ty ≡ Some p.content = h.0.1 in
      let one = one_written areas mem k path b to reply both p h.0.2 (subst (λ o. Gets t g o reply) is gets.0) in
      let next : Areas = put_at k path (filled p.content reply) areas in
      let rest = all_done params vs us (behind (Some p.content) reply) next one.new one.both (all_still t g structs objects areas k path (filled p.content reply) core params vs us h.1)
      (subst (λ o. AllGet t g core params (behind o reply)) is gets.1) in
      subst (λ o. Replied t g (write_replies t structs (target.Ptr false b to ∷ us) reply mem) mem objects (all_written core params vs (behind o reply) (written o (source.Ref k path) reply areas))) (sym is)
      (joined areas mem (Some p.content) k path b to params vs us reply one rest)

pub arguments_written : ArgumentsWritten
arguments_written t g structs core objects areas mem params vs us reply both h gets = all_done t g structs core objects params vs us reply areas mem both h gets
