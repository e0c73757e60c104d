-- References: fields and elements of what a reference leads to, and what is read through one.
use Rattle.std.proofs.Common.{◌≡◌, ℕ, zero, suc, ◌+◌, ◌<◌, ◌≤◌, ℤ, pos, negsuc, Bool, IsTrue, List, [], ◌∷◌, ◌++◌, Option, Some, None, Result, Ok, refl, sym, ◌∙◌, ap, subst, arith}
use Rattle.std.specs.Prelude.{if◌then◌else◌, slice_get, unsigned_abs}
use Rattle.std.specs.Option.{option_map, option_and_then}
use Rattle.std.proofs.lemmas.List.{append_assoc}
use Rattle.step_semantics.specs.Follows.{Follows}
use Rattle.step_semantics.specs.Steps.{World, Part, bind, after, tick, give, by_state}
use Rattle.step_semantics.proofs.Equations.{after_after}
use Rattle.step_semantics.proofs.Following.{eased}
use Rattle.step_semantics.proofs.Paying.{pays_to}
use Rattle.type_trees.specs.Trees.{Leaf, Many, Struct, End, Field, part}
use Rattle.type_trees.specs.Values.{Cell, Parts, at}
use Rattle.area_types.specs.Syntax as types
use Rattle.area_types.specs.Syntax.{ValueType, Area}
use Rattle.area_types.specs.Tables.{structs_of, written_out}
use Rattle.area_types.specs.Trees.{Written, WrittenRow}
use Rattle.area_types.specs.declared.region.Region.{Region}
use Rattle.core_tree.specs.Environments.{struct_field}
use Rattle.iv_words.proofs.Equality.{same_self}
use Rattle.ivory_tree.specs.declared.PrefixOp.TheVariants as prefix
use Rattle.region_check.specs.Calls.{reference_of}
use Rattle.core_tree.specs.Syntax as core
use Rattle.core_tree.specs.Syntax.{ExprCore, Label, type_of}
use Rattle.core_tree.specs.TypedExpressions.{ExprTyped, StructFieldTyped, ElementTyped, DerefTyped}
use Rattle.core_tree.specs.Types.{is_value}
use Rattle.index_types.specs.Indices.{is_index}
use Rattle.core_meaning.specs.Areas.{Area as Held, Areas, Live, number_in, number_at}
use Rattle.core_meaning.specs.Areas as areas_of
use Rattle.core_meaning.specs.Checks.{on_some, on_reference}
use Rattle.core_meaning.specs.Expressions.{field_behind, element_behind, eval}
use Rattle.core_meaning.specs.Gives.{Gives}
use Rattle.core_meaning.specs.State.{State}
use Rattle.core_meaning.specs.Values.{Value, Num, Ref}
use Rattle.c_ast.specs.declared.CKind.TheVariants.{Scalar}
use Rattle.c_ast.specs.Scalars.{metric_of}
use Rattle.c_ast.specs.StaticTypes.{Stored, Arithmetic, member_tree, of_member, of_element, of_read, of_both}
use Rattle.c_ast.specs.Structs.{CTree, offset_named}
use Rattle.c_ast.specs.Syntax.{Expr, Read, Address, Place, Member, Element}
use Rattle.c_meaning.specs.Expressions as target_of
use Rattle.c_meaning.specs.Places.{Lvalue, Known, Located, part_at, behind, member_of, address_of}
use Rattle.c_meaning.specs.Places as places
use Rattle.c_meaning.specs.State.{CState}
use Rattle.c_meaning.specs.Values as target
use Rattle.c_meaning.specs.Values.{CValue, Trouble, on_ok}
use Rattle.region_soundness.specs.Fitting.{ValueFits}
use Rattle.region_soundness.proofs.Forms.{index_within}
use Rattle.region_soundness.proofs.Structs.{struct_there, struct_field_is, field_part}
use Rattle.area_objects.specs.Both.{Map}
use Rattle.area_objects.specs.Located.{Numbered, IsType, begins, located}
use Rattle.area_objects.specs.Shapes.{shape, members, base_of}
use Rattle.area_objects.proofs.Located.{fields_in_order, fields_located, elements_located, parts_pointed_to}
use Rattle.area_objects.proofs.Outside.{places_read}
use Rattle.lower_types.specs.Names.{elements_name}
use Rattle.lower_types.specs.Types.{scalar_for}
use Rattle.lower_values.specs.Expressions.{raw, place, field_in, reference_to}
use Rattle.lower_values.specs.Expressions as lowered
use Rattle.lower_values.specs.Pieces.{Piece, PlacePiece, pad}
use Rattle.value_refinement.specs.Kept.{Kept}
use Rattle.value_refinement.specs.Laws.{Stage, RawFollows, PlaceFollows, running}
use Rattle.value_refinement.specs.Related.{is_constant, PointerIs, PlaceIs, Related}
use Rattle.value_refinement.specs.Settings.{Setting, Set}
use Rattle.form_answers.specs.Standing.{HasScalar, IsNumber}
use Rattle.value_refinement.specs.Values.{Comes, Arrives, HasArithmetic}
use Rattle.value_refinement.proofs.Given.{index_operand}
use Rattle.value_refinement.proofs.Keeping.{kept_twice}
use Rattle.value_refinement.proofs.Names.{reference_follows}
use Rattle.value_refinement.proofs.Running.{runs_first, takes_pad}
use Rattle.value_refinement.proofs.Standings.{related_on}

module _ (g : Setting) (set : Set g) (objects : Map) (s : State) (stage : Stage g s) where
  -- a reference leads to a part of its own type
  module _ (e : ExprCore) (typed : ExprTyped g.env g.scope e) (constant : Bool) (region : Region) (area : Area) (is : type_of e ≡ types.Ref constant region area) where
    pub content_is : (k : ℕ) (path : List ℕ) → Gives g.frame.core g.outcome s e (Ref k path) → (w : CState) (c : Bool) (d : Expr) (points : PointerIs g objects s.areas w c d k path) → points.content ≡ written_out g.frame.core.structs area
    content_is k path gives w c d points =
        let fits : ValueFits g.frame.core stage.entry s.areas (types.Ref constant region area) (Ref k path) = subst (λ ty. ValueFits g.frame.core stage.entry s.areas ty (Ref k path)) is (stage.fits e (Ref k path) typed gives) in
        let live : Some (Live points.area) ≡ Some (Live fits.area) = sym points.lives.live ∙ fits.live in
        let same : points.area ≡ fits.area = cc in
        let both : Some points.content ≡ Some (written_out g.frame.core.structs area) = sym points.leads ∙ ap (λ a. part a.ty path) same ∙ fits.leads in
        cc

    pub no_number : (n : ℤ) → Gives g.frame.core g.outcome s e (Num n) → ⊥
    no_number n gives =
        let fits : ValueFits g.frame.core stage.entry s.areas (types.Ref constant region area) (Num n) = subst (λ ty. ValueFits g.frame.core stage.entry s.areas ty (Num n)) is (stage.fits e (Num n) typed gives) in
        let no : ⊥ = cc in no

  -- ---- longer paths

  -- a place that a longer path leads to
  deeper : (w : CState) (c : Bool) (to new : Place) (k : ℕ) (path longer : List ℕ) (h : PlaceIs g objects s.areas w c to k path) (b : Written)
      → part h.pointer.area.ty longer ≡ Some b → target_of.eval_place g.program new w ≡ Ok (located g.program.target g.naming c h.pointer.object h.pointer.area.ty longer b)
      → target_of.static_place_type g.program w new ≡ Some (Stored c (shape g.naming b)) → reference_to new ≡ Address new → IsType g.naming g.program.unit.structs (base_of g.naming b) b → PlaceIs g objects s.areas w c new k longer
  deeper w c to new k path longer h b leads is type itself declared =
      let pointer : PointerIs g objects s.areas w c (reference_to new) k longer = record {
        object = h.pointer.object;
        area = h.pointer.area;
        lives = h.pointer.lives;
        content = b;
        leads = leads;
        is = ap (λ d. target_of.eval g.program d w) itself ∙ ap (λ l. on_ok l address_of) is ∙ (parts_pointed_to g.program.target g.naming g.program.unit.structs c h.pointer.object h.pointer.area.ty longer b declared).0;
      } in
      record { pointer = pointer; is = is; type = type }

  -- ---- fields of structs

  -- a member that has a place has a type
  member_found : (c : Bool) (to r : target.Address) (a : CTree) (offset : ℕ) (found : Option CTree) → part_at c (behind to offset) found ≡ Ok (Located c r a) → found ≡ Some a
  member_found c to r a offset (Some b) e = let same : b ≡ a = cc in ap Some same
  member_found c to r a offset None e = let no : ⊥ = cc in absurd no

  module _ (l : Label) (e : ExprCore) (field : ℕ) (typed : ExprTyped g.env g.scope e) (whole : ExprTyped g.env g.scope (core.Field l e field)) (at_field : StructFieldTyped g.env l (type_of e) field) where
    abbrev number : ℕ
    number = at_field.number

    abbrev field_place : Place → Place
    field_place to = Member to (field_in g.frame (type_of e) field)

    field_there : struct_field g.frame.core number field ≡ Some at_field.area
    field_there = ap (λ m. struct_field m number field) (sym set.core) ∙ at_field.found

    -- the struct as it is written out
    pub record Rows : Type 0 where
      pub row : WrittenRow
      pub is : written_out g.frame.core.structs (types.Struct number) ≡ Struct number row

    rows : Rows
    rows =
        let f = struct_field_is g.frame.core number field at_field.area field_there in
        record { row = _; is = (struct_there g.frame.core.structs.words (structs_of g.frame.core.structs) number f.struct_type set.valid.table f.found).is }

    name_is : field_in g.frame (type_of e) field ≡ g.naming.member number field
    name_is = ap (λ ty. field_in g.frame ty field) at_field.operand ∙ sym (set.members number field)

    abbrev area_out : Written
    area_out = written_out g.frame.core.structs at_field.area

    field_leads : part (Struct number rows.row) (field ∷ []) ≡ Some area_out
    field_leads = subst (λ a. part a (field ∷ []) ≡ Some area_out) rows.is (field_part g.frame.core set.valid.table number field at_field.area field_there (written_out g.frame.core.structs (types.Struct number)) [] refl)

    -- the field's place, from that of its struct
    field_is : (k : ℕ) (path : List ℕ) → Gives g.frame.core g.outcome s e (Ref k path) → (w : CState) (to : Place) → PlaceIs g objects s.areas w (is_constant (type_of e)) to k path → PlaceIs g objects s.areas w (is_constant l.ty) (field_place to) k (path ++ field ∷ [])
    field_is k path gives w to h =
        let c0 : Bool = is_constant (type_of e) in
        let content : h.pointer.content ≡ Struct number rows.row = content_is e typed at_field.constant at_field.region (types.Struct number) at_field.operand k path gives w c0 (reference_to to) h.pointer ∙ rows.is in
        let leads : part h.pointer.area.ty path ≡ Some (Struct number rows.row) = h.pointer.leads ∙ ap Some content in
        let inner : target_of.eval_place g.program to w ≡ Ok (located g.program.target g.naming c0 h.pointer.object h.pointer.area.ty path (Struct number rows.row)) =
        h.is ∙ ap (λ b. let r : Result Lvalue Trouble = Ok (located g.program.target g.naming c0 h.pointer.object h.pointer.area.ty path b) in r) content in
        let found = fields_located g.program.target g.naming c0 h.pointer.object h.pointer.area.ty path number rows.row field area_out (set.apart number rows.row rows.is)
        (subst Numbered rows.is (fields_in_order g.frame.core.structs (types.Struct number))) leads field_leads in
        let named : member_of g.program.target (field_in g.frame (type_of e) field) (located g.program.target g.naming c0 h.pointer.object h.pointer.area.ty path (Struct number rows.row)) ≡ Ok (located g.program.target g.naming c0 h.pointer.object h.pointer.area.ty (path ++ field ∷ []) area_out) =
        ap (λ m. member_of g.program.target m (located g.program.target g.naming c0 h.pointer.object h.pointer.area.ty path (Struct number rows.row))) name_is ∙ found.1 in
        let tree : member_tree (members g.naming rows.row number) (field_in g.frame (type_of e) field) ≡ Some (shape g.naming area_out) =
        member_found c0 (begins g.program.target g.naming h.pointer.object h.pointer.area.ty path) (begins g.program.target g.naming h.pointer.object h.pointer.area.ty (path ++ field ∷ [])) (shape g.naming area_out)
        (offset_named (metric_of g.program.target) (shape g.naming (Struct number rows.row)) (field_in g.frame (type_of e) field)) (member_tree (members g.naming rows.row number) (field_in g.frame (type_of e) field)) named in
        let typed_to : target_of.static_place_type g.program w to ≡ Some (Stored c0 (shape g.naming (Struct number rows.row))) = h.type ∙ ap (λ b. Some (Stored c0 (shape g.naming b))) content in
        let type : target_of.static_place_type g.program w (field_place to) ≡ Some (Stored c0 (shape g.naming area_out)) =
        ap (option_and_then (of_member (field_in g.frame (type_of e) field))) typed_to ∙ ap (option_map (Stored c0)) tree in
        subst (λ b. PlaceIs g objects s.areas w b (field_place to) k (path ++ field ∷ [])) (ap is_constant at_field.operand ∙ sym (ap is_constant at_field.type))
        (deeper w c0 to (field_place to) k path (path ++ field ∷ []) h area_out found.0 (ap (λ r. on_ok r (member_of g.program.target (field_in g.frame (type_of e) field))) inner ∙ named) type refl
        (set.types (core.Field l e field) at_field.constant at_field.region at_field.area whole at_field.type).type)

    field_tick : {A : Type 0} (go : Value → Part State A) (k : ℕ) (path : List ℕ) (m : ℕ) (z : World) → after (field_behind g.frame.core (type_of e) field (Ref k path) m z s) go ≡ tick (go (Ref k (path ++ field ∷ []))) m z s
    field_tick go k path zero z = refl
    field_tick go k path (suc m) z = refl

    pub field_place_follows : PlaceFollows g objects s e → PlaceFollows g objects s (core.Field l e field)
    field_place_follows follows A post go rest x y from le t related goes n w =
        let q : PlacePiece = place g.frame e from in
        subst (λ r. Follows g.frame.skip post x y n r (λ j. running g ((place g.frame (core.Field l e field) from).before ++ rest) j w t)) (sym (after_after (eval g.frame.core g.outcome e n w s) (field_behind g.frame.core (type_of e) field) go))
        (subst (λ ss. Follows g.frame.skip post x y n (bind (eval g.frame.core g.outcome e) (λ v. bind (field_behind g.frame.core (type_of e) field v) go) n w s) (λ j. running g ss j w t)) (sym (append_assoc q.before (pad ∷ []) rest))
        (follows A post (λ v. bind (field_behind g.frame.core (type_of e) field v) go) (pad ∷ rest) x y from le t related (record { by = on }) n w))
      where
        on : (k : ℕ) (path : List ℕ) (u : CState) → Gives g.frame.core g.outcome s e (Ref k path) → Arrives g objects s from (place g.frame e from).place (place g.frame e from).next (type_of e) t k path u
            → (m : ℕ) (z : World) → Follows g.frame.skip post x y m (bind (field_behind g.frame.core (type_of e) field (Ref k path)) go m z s) (λ j. running g (pad ∷ rest) j z u)
        on k path u gives arrives m z =
            let there : Arrives g objects s from (field_place (place g.frame e from).place) (place g.frame e from).next l.ty t k (path ++ field ∷ []) u =
            record { grows = arrives.grows; kept = arrives.kept; stands = λ v kept. field_is k path gives v (place g.frame e from).place (arrives.stands v kept) } in
            subst (λ r. Follows g.frame.skip post x y m r (λ j. running g (pad ∷ rest) j z u)) (sym (field_tick go k path m z))
            (pays_to g.frame.skip post 1 1 x x y (go (Ref k (path ++ field ∷ []))) z s (omega arith) (omega arith) (λ j. running g (pad ∷ rest) j z u) (λ j. running g rest j z u) (runs_first g 1 pad rest z u u (takes_pad g z u))
            (λ i. goes.by k (path ++ field ∷ []) u (record { operand = Ref k path; is_given = gives; is = refl }) there i z) m)

    -- as a value, its address
    pub struct_field_follows : PlaceFollows g objects s e → RawFollows g objects s (core.Field l e field)
    struct_field_follows follows =
        reference_follows g set objects s (core.Field l e field) (field_place_follows follows) raw_is (no_number (core.Field l e field) whole at_field.constant at_field.region at_field.area at_field.type)
      where
        raw_is : (from : ℕ) → raw g.frame (core.Field l e field) from ≡ lowered.reference (place g.frame (core.Field l e field) from)
        raw_is from =
            ap (λ ty. lowered.field_piece g.frame ty field (raw g.frame e from) (place g.frame e from)) at_field.operand
            ∙ ap (λ ty. lowered.reference (lowered.member_of g.frame ty field (place g.frame e from))) (sym at_field.operand)

  -- ---- elements of arrays

  module _ (l : Label) (e index : ExprCore) (typed : ExprTyped g.env g.scope e) (index_typed : ExprTyped g.env g.scope index) (whole : ExprTyped g.env g.scope (core.Element l e index)) (at_element : ElementTyped l (type_of e) (type_of index)) where
    abbrev element_out : Written
    element_out = written_out g.frame.core.structs at_element.element

    -- the index is below the length
    index_low : (i : ℤ) → Gives g.frame.core g.outcome s index (Num i) → IsTrue (is_index at_element.length i)
    index_low i gives = subst (λ ty. IsTrue (is_value g.frame.core.structs ty i)) at_element.index_is (stage.fits index (Num i) index_typed gives)

    from_natural : (n : ℕ) (i : ℤ) → IsTrue (is_index n i) → i ≡ pos (unsigned_abs i)
    from_natural n (pos m) h = refl
    from_natural n (negsuc m) h = let no : ⊥ = cc in absurd no

    -- the element's place, from that of its array
    element_is : (k : ℕ) (path : List ℕ) → Gives g.frame.core g.outcome s e (Ref k path) → (i : ℤ) → Gives g.frame.core g.outcome s index (Num i) → (w : CState) (to : Place) (d : Expr)
        → PlaceIs g objects s.areas w (is_constant (type_of e)) to k path → IsNumber g.program w d i → HasArithmetic g.program w d → PlaceIs g objects s.areas w (is_constant l.ty) (Element (Member to elements_name) d) k (path ++ unsigned_abs i ∷ [])
    element_is k path gives i index_gives w to d h number static =
        let c0 : Bool = is_constant (type_of e) in
        let array : Written = written_out g.frame.core.structs (types.Array at_element.length at_element.element) in
        let low : unsigned_abs i < at_element.length = index_within at_element.length i (index_low i index_gives) in
        let content : h.pointer.content ≡ Many at_element.length element_out = content_is e typed at_element.constant at_element.region (types.Array at_element.length at_element.element) at_element.operand k path gives w c0 (reference_to to) h.pointer in
        let leads : part h.pointer.area.ty path ≡ Some (Many at_element.length element_out) = h.pointer.leads ∙ ap Some content in
        let inner : target_of.eval_place g.program to w ≡ Ok (located g.program.target g.naming c0 h.pointer.object h.pointer.area.ty path (Many at_element.length element_out)) =
        h.is ∙ ap (λ b. let r : Result Lvalue Trouble = Ok (located g.program.target g.naming c0 h.pointer.object h.pointer.area.ty path b) in r) content in
        let found = elements_located g.program.target g.naming c0 h.pointer.object h.pointer.area.ty path at_element.length (unsigned_abs i) element_out number.0 leads low in
        let is : target_of.eval_place g.program (Element (Member to elements_name) d) w ≡ Ok (located g.program.target g.naming c0 h.pointer.object h.pointer.area.ty (path ++ unsigned_abs i ∷ []) element_out) =
        ap (λ r. on_ok (on_ok r (member_of g.program.target elements_name)) (λ a. on_ok (target_of.eval g.program d w) (places.element_of g.program.target a))) inner
        ∙ ap (λ r. on_ok (member_of g.program.target elements_name (located g.program.target g.naming c0 h.pointer.object h.pointer.area.ty path (Many at_element.length element_out))) (λ a. on_ok r (places.element_of g.program.target a))) (number.1 ∙ ap (λ z. let r : Result CValue Trouble = Ok (target.Num number.0 z) in r) (from_natural at_element.length i (index_low i index_gives)))
        ∙ ap (λ m. on_ok (member_of g.program.target m (located g.program.target g.naming c0 h.pointer.object h.pointer.area.ty path (Many at_element.length element_out))) (λ a. places.element_of g.program.target a (target.Num number.0 (pos (unsigned_abs i))))) (sym set.elements)
        ∙ found.1 in
        let array_type : target_of.static_place_type g.program w (Member to elements_name) ≡ Some (Stored c0 (Many at_element.length (shape g.naming element_out))) =
        ap (option_and_then (of_member elements_name)) (h.type ∙ ap (λ b. Some (Stored c0 (shape g.naming b))) content)
        ∙ ap (λ m. option_map (Stored c0) (member_tree (Field g.naming.elements (Many at_element.length (shape g.naming element_out)) End) m)) (sym set.elements)
        ∙ ap (λ b. option_map (Stored c0) (if b then Some (Many at_element.length (shape g.naming element_out)) else None)) (same_self g.naming.elements) in
        let type : target_of.static_place_type g.program w (Element (Member to elements_name) d) ≡ Some (Stored c0 (shape g.naming element_out)) =
        ap (λ a. of_both of_element a (target_of.static_type g.program w d)) array_type ∙ ap (of_both of_element (Some (Stored c0 (Many at_element.length (shape g.naming element_out))))) static.type in
        subst (λ b. PlaceIs g objects s.areas w b (Element (Member to elements_name) d) k (path ++ unsigned_abs i ∷ [])) (ap is_constant at_element.operand ∙ sym (ap is_constant at_element.type))
        (deeper w c0 to (Element (Member to elements_name) d) k path (path ++ unsigned_abs i ∷ []) h element_out found.0 is type refl
        (set.types (core.Element l e index) at_element.constant at_element.region at_element.element whole at_element.type).type)

    element_tick : {A : Type 0} (go : Value → Part State A) (k : ℕ) (path : List ℕ) (i : ℤ) (m : ℕ) (z : World) → after (element_behind g.frame.core (Ref k path) (Num i) m z s) go ≡ tick (go (Ref k (path ++ unsigned_abs i ∷ []))) m z s
    element_tick go k path i zero z = refl
    element_tick go k path i (suc m) z = refl

    index_plain : reference_of (type_of index) ≡ None
    index_plain = ap reference_of at_element.index_is

    abbrev array_at : ℕ → PlacePiece
    array_at from = place g.frame e from

    abbrev index_at : ℕ → Piece
    index_at from = lowered.index_piece g.frame (type_of index) (raw g.frame index (array_at from).next)

    pub element_place_follows : PlaceFollows g objects s e → RawFollows g objects s index → PlaceFollows g objects s (core.Element l e index)
    element_place_follows follows index_follows A post go rest x y from le t related goes n w =
        subst (λ r. Follows g.frame.skip post x y n r (λ j. running g ((place g.frame (core.Element l e index) from).before ++ rest) j w t)) (sym (after_after (eval g.frame.core g.outcome e n w s) (λ v. bind (eval g.frame.core g.outcome index) (element_behind g.frame.core v)) go))
        (subst (λ ss. Follows g.frame.skip post x y n (bind (eval g.frame.core g.outcome e) (λ v. bind (bind (eval g.frame.core g.outcome index) (element_behind g.frame.core v)) go) n w s) (λ j. running g ss j w t))
        (sym (append_assoc (array_at from).before ((index_at from).before ++ pad ∷ []) rest ∙ ap (λ ss. (array_at from).before ++ ss) (append_assoc (index_at from).before (pad ∷ []) rest)))
        (follows A post (λ v. bind (bind (eval g.frame.core g.outcome index) (element_behind g.frame.core v)) go) ((index_at from).before ++ (pad ∷ rest)) x y from le t related (record { by = on_array }) n w))
      where
        on_both : (k : ℕ) (path : List ℕ) (u : CState) → Gives g.frame.core g.outcome s e (Ref k path) → Arrives g objects s from (array_at from).place (array_at from).next (type_of e) t k path u
            → (v : ℤ) (u2 : CState) → Gives g.frame.core g.outcome s index (Num v) → (array_at from).next ≤ (index_at from).next → Kept g.program (array_at from).next u u2 → ((z : CState) → Kept g.program (index_at from).next u2 z → IsNumber g.program z (index_at from).value v × HasArithmetic g.program z (index_at from).value)
            → (m : ℕ) (z : World) → Follows g.frame.skip post x y m (bind (element_behind g.frame.core (Ref k path) (Num v)) go m z s) (λ j. running g (pad ∷ rest) j z u2)
        on_both k path u gives arrives v u2 index_gives grows kept stands m z =
            let there : Arrives g objects s from (Element (Member (array_at from).place elements_name) (index_at from).value) (index_at from).next l.ty t k (path ++ unsigned_abs v ∷ []) u2 = record {
              grows = omega (arith, arrives.grows, grows);
              kept = kept_twice g.program from (array_at from).next t u u2 arrives.grows arrives.kept kept;
              stands = λ c kept2. element_is k path gives v index_gives c (array_at from).place (index_at from).value (arrives.stands c (kept_twice g.program (array_at from).next (index_at from).next u u2 c grows kept kept2)) (stands c kept2).0 (stands c kept2).1;
            } in
            subst (λ r. Follows g.frame.skip post x y m r (λ j. running g (pad ∷ rest) j z u2)) (sym (element_tick go k path v m z))
            (pays_to g.frame.skip post 1 1 x x y (go (Ref k (path ++ unsigned_abs v ∷ []))) z s (omega arith) (omega arith) (λ j. running g (pad ∷ rest) j z u2) (λ j. running g rest j z u2) (runs_first g 1 pad rest z u2 u2 (takes_pad g z u2))
            (λ c. goes.by k (path ++ unsigned_abs v ∷ []) u2 (record { area = k; path = path; array_given = gives; element = v; index_given = index_gives; is = refl }) there c z) m)

        on_array : (k : ℕ) (path : List ℕ) (u : CState) → Gives g.frame.core g.outcome s e (Ref k path) → Arrives g objects s from (array_at from).place (array_at from).next (type_of e) t k path u
            → (m : ℕ) (z : World) → Follows g.frame.skip post x y m (bind (bind (eval g.frame.core g.outcome index) (element_behind g.frame.core (Ref k path))) go m z s) (λ j. running g ((index_at from).before ++ (pad ∷ rest)) j z u)
        on_array k path u gives arrives m z =
            subst (λ r. Follows g.frame.skip post x y m r (λ j. running g ((index_at from).before ++ (pad ∷ rest)) j z u)) (sym (after_after (eval g.frame.core g.outcome index m z s) (element_behind g.frame.core (Ref k path)) go))
            (index_operand g set objects s stage index index_typed index_plain index_follows A post (λ v. bind (element_behind g.frame.core (Ref k path) v) go) (pad ∷ rest) x y (array_at from).next (omega (arith, le, arrives.grows)) u
            (related_on g set objects s from le t u arrives.kept related)
            (λ v u2 index_gives indexed c d. on_both k path u gives arrives v u2 index_gives indexed.grows indexed.kept indexed.stands c d) m z)

    -- as a value, its address
    pub element_follows : PlaceFollows g objects s e → RawFollows g objects s index → RawFollows g objects s (core.Element l e index)
    element_follows follows index_follows =
        reference_follows g set objects s (core.Element l e index) (element_place_follows follows index_follows) (λ from. refl) (no_number (core.Element l e index) whole at_element.constant at_element.region at_element.element at_element.type)

  -- ---- what is read through a reference

  module _ (l : Label) (e : ExprCore) (typed : ExprTyped g.env g.scope e) (at_cell : DerefTyped l (type_of e)) where
    -- the number in a cell is what the area holds there
    held_there : (k : ℕ) (path : List ℕ) (v : ℤ) (a : areas_of.Area) → slice_get s.areas k ≡ Some (Live a) → number_at s.areas k path ≡ Some v → at a.held path ≡ Some (Cell v)
    held_there k path v a live e = in_cell (at a.held path) (sym (ap (λ found. option_and_then number_in (option_and_then (λ b. at b.held path) (option_and_then areas_of.in_map found))) live) ∙ e) where
      in_cell : (o : Option areas_of.Held) → option_and_then number_in o ≡ Some v → o ≡ Some (Cell v)
      in_cell (Some (Cell n)) h = let same : n ≡ v = cc in ap (λ m. Some (Cell m)) same
      in_cell (Some (Parts vs)) h = let no : ⊥ = cc in absurd no
      in_cell None h = let no : ⊥ = cc in absurd no

    cell_is : (k : ℕ) (path : List ℕ) → Gives g.frame.core g.outcome s e (Ref k path) → (v : ℤ) → number_at s.areas k path ≡ Some v → (w : CState) → Related g objects s w → (to : Place) → PlaceIs g objects s.areas w (is_constant (type_of e)) to k path
        → HasScalar g.program w (scalar_for g.frame.table l.ty) (Read to) v
    cell_is k path gives v holds w related to h =
        let c0 : Bool = is_constant (type_of e) in
        let content : h.pointer.content ≡ Leaf l.ty = content_is e typed at_cell.constant at_cell.region (types.Stored l.ty) at_cell.operand k path gives w c0 (reference_to to) h.pointer in
        let leads : part h.pointer.area.ty path ≡ Some (Leaf l.ty) = h.pointer.leads ∙ ap Some content in
        let read : places.read g.program.target w (located g.program.target g.naming c0 h.pointer.object h.pointer.area.ty path (Leaf l.ty)) ≡ Ok (target.Num (Scalar (g.naming.scalar l.ty)) v) =
        places_read g.program.target g.naming objects s.areas w k h.pointer.object h.pointer.area c0 path l.ty v related.both h.pointer.lives leads (held_there k path v h.pointer.area h.pointer.lives.live holds) in
        record {
          gives =
              ap (λ r. on_ok r (places.read g.program.target w)) (h.is ∙ ap (λ b. let r : Result Lvalue Trouble = Ok (located g.program.target g.naming c0 h.pointer.object h.pointer.area.ty path b) in r) content)
              ∙ read ∙ ap (λ k. let r : Result CValue Trouble = Ok (target.Num (Scalar k) v) in r) (set.scalars l.ty);
          type = ap (option_and_then of_read) (h.type ∙ ap (λ b. Some (Stored c0 (shape g.naming b))) content) ∙ ap (λ k. Some (Arithmetic (Scalar k))) (set.scalars l.ty);
        }

    abbrev behind_it : Value → Part State Value
    behind_it v = on_reference g.frame.core v (λ k path. by_state (λ st. on_some g.frame.core (number_at st.areas k path) (λ n. tick (give (Num n)))))

    pub deref_follows : PlaceFollows g objects s e → RawFollows g objects s (core.Prefix l prefix.Deref e)
    deref_follows follows A post go rest x y from le t related goes n w =
        subst (λ r. Follows g.frame.skip post x y n r (λ j. running g ((place g.frame e from).before ++ rest) j w t)) (sym (after_after (eval g.frame.core g.outcome e n w s) behind_it go))
        (follows A post (λ v. bind (behind_it v) go) rest x y from le t related (record { by = λ k path u gives arrives m z. on k path u gives arrives m z (number_at s.areas k path) refl }) n w)
      where
        cell_tick : (v : ℤ) (m : ℕ) (z : World) → after (tick (give (Num v)) m z s) go ≡ tick (go (Num v)) m z s
        cell_tick v zero z = refl
        cell_tick v (suc m) z = refl

        on : (k : ℕ) (path : List ℕ) (u : CState) → Gives g.frame.core g.outcome s e (Ref k path) → Arrives g objects s from (place g.frame e from).place (place g.frame e from).next (type_of e) t k path u
            → (m : ℕ) (z : World) → (found : Option ℤ) → number_at s.areas k path ≡ found → Follows g.frame.skip post x y m (after (on_some g.frame.core found (λ v. tick (give (Num v))) m z s) go) (λ j. running g rest j z u)
        on k path u gives arrives m z None is = tt
        on k path u gives arrives m z (Some v) is =
            let here : Comes g objects s from (lowered.read_of (place g.frame e from)) l.ty t (Num v) u = record {
              grows = arrives.grows;
              kept = arrives.kept;
              stands = λ c kept. (tt, cell_is k path gives v is c (related_on g set objects s (place g.frame e from).next (omega (arith, le, arrives.grows)) u c kept (related_on g set objects s from le t u arrives.kept related)) (place g.frame e from).place (arrives.stands c kept));
            } in
            subst (λ r. Follows g.frame.skip post x y m r (λ j. running g rest j z u)) (sym (cell_tick v m z))
            (eased g.frame.skip post (x + 0) y x y m (tick (go (Num v)) m z s) (λ j. running g rest j z u) (omega arith) (omega arith)
            (goes.by (Num v) u (record { area = k; path = path; is_given = gives; number = v; holds = is; is = refl }) here m z))
