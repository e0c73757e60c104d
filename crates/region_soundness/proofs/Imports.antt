-- Calls of imports: the outside sees what is there, and what it replies fits the result and the areas that it may write.
use Rattle.std.proofs.Common.{◌≡◌, ℕ, zero, suc, ℤ, pos, negsuc, List, [], ◌∷◌, ◌++◌, Option, Some, None, All, IsTrue, ◌&&◌, true, false, refl, sym, ◌∙◌, ap, subst, arith}
use Rattle.std.specs.Prelude.{int_le}
use Rattle.std.specs.List.{list_all, flat_map}
use Rattle.std.specs.Option.{option_to_list, option_map, option_and_then}
use Rattle.std.proofs.lemmas.Bool.Decides.{nat_tests}
use Rattle.std.proofs.lemmas.List.Elements.{All-head, All-tail}
use Rattle.run_records.specs.declared.Piece.{Piece}
use Rattle.run_records.specs.declared.Piece.TheVariants as piece
use Rattle.run_records.specs.declared.Plain.{Plain}
use Rattle.run_records.specs.declared.Plain.TheVariants as plain
use Rattle.run_records.specs.Scripts.{plain_fits, values_fit}
use Rattle.step_semantics.specs.Steps.{World, Part, bind, change}
use Rattle.step_semantics.specs.Imports.{import_call}
use Rattle.step_semantics.specs.Safe.{HasMeaning, Safe}
use Rattle.step_semantics.proofs.Keeping.{Given, keeps_after, keeps_tick, keeps_import_call}
use Rattle.index_types.specs.Indices.{is_index}
use Rattle.type_trees.specs.Trees.{count, scalars}
use Rattle.type_trees.specs.Values.{at, cells}
use Rattle.type_trees.proofs.Scalars.{length_scalars}
use Rattle.area_types.specs.Syntax as types
use Rattle.area_types.specs.Syntax.{ValueType}
use Rattle.area_types.specs.Tables.{Table, written_out}
use Rattle.area_types.specs.Trees.{Written}
use Rattle.area_types.specs.declared.region.Region.{Region}
use Rattle.area_types.proofs.Truths.{both, also}
use Rattle.region_check.specs.Calls.{Reference, reference_of}
use Rattle.region_check.specs.Substitutions.{under, applied}
use Rattle.core_tree.specs.Exports.{plain_of}
use Rattle.core_tree.specs.Syntax.{ModuleCore, ImportCore}
use Rattle.core_tree.specs.Types as core_types
use Rattle.core_tree.specs.Types.{is_value}
use Rattle.core_tree.specs.Environments.{type_of_plain}
use Rattle.core_tree.specs.TypedItems.{ImportTyped, is_given_plain}
use Rattle.core_tree.specs.TypedCalls.{ArgumentsFit}
use Rattle.source_types.specs.Values.{is_plain}
use Rattle.core_meaning.specs.Values.{Value, Num, Ref}
use Rattle.core_meaning.specs.Areas.{Area, Areas, area_at, type_at, cells_at, filled}
use Rattle.core_meaning.specs.State.{State, seen}
use Rattle.core_meaning.specs.Checks.{on_some}
use Rattle.core_meaning.specs.Imports.{piece_of, pieces_of, writable, scalars_of, plains_of, reply_shape, behind, written, all_written, result_in, cells_in, after_reply, asking, outside}
use Rattle.region_soundness.specs.Fitting.{Entry, RefersAs, ValueFits}
use Rattle.region_soundness.specs.Scoped.{AreasFit}
use Rattle.region_soundness.proofs.Trees.{part_held}
use Rattle.region_soundness.proofs.Lasting.{Lasting, lasting_refl, lasting_trans, put_lasts, put_areas_fit, ValuesFitAll, values_last, there, leads_to}
use Rattle.region_soundness.proofs.Cells.{Gets, gets_front, gets_behind, filled_fits}
use Rattle.region_soundness.proofs.Forms.{some_safe}

-- ---- what the outside sees

cells_there : (core : ModuleCore) (entry : Entry) (areas : Areas) → AreasFit core.structs areas → (r : Option Reference) (k : ℕ) (path : List ℕ) → RefersAs core entry areas r k path → (cs : List ℤ) × (cells_at areas k path ≡ Some cs)
cells_there core entry areas fit None k path f = absurd f
cells_there core entry areas fit (Some r) k path f =
    let here : area_at areas k ≡ Some f.area = there areas k f.area f.live in
    let p = part_held core.structs f.area.ty path (written_out core.structs r.area) f.area.held f.leads (fit k f.area here) in
    (cells p.0, ap (option_map cells) (ap (option_and_then (λ (a : Area). at a.held path)) here ∙ p.1))

piece_there : (core : ModuleCore) (entry : Entry) (areas : Areas) → AreasFit core.structs areas → (t : ValueType) (v : Value) → ValueFits core entry areas t v → (p : Piece) × (piece_of areas v ≡ Some p)
piece_there core entry areas fit t (Num v) f = (piece.Value v, refl)
piece_there core entry areas fit t (Ref k path) f = let c = cells_there core entry areas fit (reference_of t) k path f in (piece.Cells c.0, ap (option_map piece.Cells) c.1)

pub pieces_there : (core : ModuleCore) (entry : Entry) (areas : Areas) → AreasFit core.structs areas → (given : List ValueType) (args : List Value) → ValuesFitAll core entry areas given args → (ps : List Piece) × (pieces_of areas args ≡ Some ps)
pieces_there core entry areas fit [] [] f = ([], refl)
pieces_there core entry areas fit [] (v ∷ args) f = absurd f
pieces_there core entry areas fit (t ∷ given) [] f = absurd f
pieces_there core entry areas fit (t ∷ given) (v ∷ args) f =
    let p = piece_there core entry areas fit t v f.0 in
    let ps = pieces_there core entry areas fit given args f.1 in
    (p.0 ∷ ps.0, ap (λ o. option_and_then (λ x. option_map (λ xs. x ∷ xs) (pieces_of areas args)) o) p.1 ∙ ap (option_map (λ xs. p.0 ∷ xs)) ps.1)

-- ---- the shape of a reply

-- the types of the cells that the import may write
abbrev pub given_back : ModuleCore → List ValueType → List ValueType
given_back core params = flat_map (λ t. scalars_of (writable core t)) params

plain_there : (t : ValueType) → IsTrue (is_plain t) → (p : Plain) × (plain_of t ≡ Some p)
plain_there types.Truth h = (plain.Truth, refl)
plain_there (types.Int kind) h = (plain.Int kind, refl)
plain_there (types.Ix n) h = let no : ⊥ = cc in absurd no
plain_there (types.Bits k) h = let no : ⊥ = cc in absurd no
plain_there (types.Ref c r a) h = let no : ⊥ = cc in absurd no

plains_there : (ts : List ValueType) → IsTrue (list_all is_plain ts) → (ps : List Plain) × (plains_of ts ≡ Some ps)
plains_there [] h = ([], refl)
plains_there (t ∷ ts) h =
    let q = both (is_plain t) (list_all is_plain ts) h in
    let p = plain_there t q.0 in
    let ps = plains_there ts q.1 in
    (p.0 ∷ ps.0, ap (λ o. option_and_then (λ x. option_map (λ xs. x ∷ xs) (plains_of ts)) o) p.1 ∙ ap (option_map (λ xs. p.0 ∷ xs)) ps.1)

plain_both : (ts us : List ValueType) → IsTrue (list_all is_plain ts) → IsTrue (list_all is_plain us) → IsTrue (list_all is_plain (ts ++ us))
plain_both [] us h k = k
plain_both (t ∷ ts) us h k = let q = both (is_plain t) (list_all is_plain ts) h in also (is_plain t) (list_all is_plain (ts ++ us)) q.0 (plain_both ts us q.1 k)

written_plain : (core : ModuleCore) (t : ValueType) → IsTrue (is_given_plain core.structs t) → IsTrue (list_all is_plain (scalars_of (writable core t)))
written_plain core types.Truth h = refl
written_plain core (types.Int kind) h = refl
written_plain core (types.Ix n) h = refl
written_plain core (types.Bits k) h = refl
written_plain core (types.Ref false r a) h = h
written_plain core (types.Ref true r a) h = refl

all_plain : (core : ModuleCore) (params : List ValueType) → All (λ t. IsTrue (is_given_plain core.structs t)) params → IsTrue (list_all is_plain (given_back core params))
all_plain core [] h = refl
all_plain core (t ∷ params) h =
    let P : ValueType → Type 0 = λ u. IsTrue (is_given_plain core.structs u) in
    plain_both (scalars_of (writable core t)) (given_back core params) (written_plain core t (All-head P t params h)) (all_plain core params (All-tail P t params h))

-- ---- the values of a reply

truth_value : (v : ℤ) → IsTrue (int_le (pos 0) v && int_le v (pos 1)) → IsTrue (is_index 2 v)
truth_value (pos n) h = grind (arith, nat_tests)
truth_value (negsuc n) h = let no : ⊥ = cc in absurd no

plain_value : (table : Table) (t : ValueType) (p : Plain) → plain_of t ≡ Some p → (v : ℤ) → IsTrue (plain_fits p v) → IsTrue (is_value table t v)
plain_value table types.Truth p e v h = let same : plain.Truth ≡ p = cc in truth_value v (subst (λ x. IsTrue (plain_fits x v)) (sym same) h)
plain_value table (types.Int kind) p e v h = let same : plain.Int kind ≡ p = cc in subst (λ x. IsTrue (plain_fits x v)) (sym same) h
plain_value table (types.Ix n) p e v h = let no : ⊥ = cc in absurd no
plain_value table (types.Bits k) p e v h = let no : ⊥ = cc in absurd no
plain_value table (types.Ref c r a) p e v h = let no : ⊥ = cc in absurd no

record PlainsMore (t : ValueType) (ts : List ValueType) (ps : List Plain) : Type 0 where
  first : Plain
  later : List Plain
  has : plain_of t ≡ Some first
  more : plains_of ts ≡ Some later
  is : ps ≡ first ∷ later

plains_more : (t : ValueType) (ts : List ValueType) (ps : List Plain) (o : Option Plain) (r : Option (List Plain)) → plain_of t ≡ o → plains_of ts ≡ r → option_and_then (λ x. option_map (λ xs. x ∷ xs) r) o ≡ Some ps → PlainsMore t ts ps
plains_more t ts ps None r e q h = let no : ⊥ = cc in absurd no
plains_more t ts ps (Some p) None e q h = let no : ⊥ = cc in absurd no
plains_more t ts ps (Some p) (Some qs) e q h = let same : ps ≡ p ∷ qs = cc in record { first = p; later = qs; has = e; more = q; is = same }

no_values : (p : Plain) (ps : List Plain) → IsTrue (values_fit (p ∷ ps) []) → ⊥
no_values p ps h = cc

gets_plains : (table : Table) (ts : List ValueType) (ps : List Plain) (vs : List ℤ) → plains_of ts ≡ Some ps → IsTrue (values_fit ps vs) → Gets table ts vs
gets_plains table [] ps vs e h i t q = let no : ⊥ = cc in absurd no
gets_plains table (x ∷ ts) ps [] e h i t q =
    let m = plains_more x ts ps (plain_of x) (plains_of ts) refl refl e in
    absurd (no_values m.first m.later (subst (λ xs. IsTrue (values_fit xs [])) m.is h))
gets_plains table (x ∷ ts) ps (v ∷ vs) e h zero t q =
    let m = plains_more x ts ps (plain_of x) (plains_of ts) refl refl e in
    let f = both (plain_fits m.first v) (values_fit m.later vs) (subst (λ xs. IsTrue (values_fit xs (v ∷ vs))) m.is h) in
    let same : x ≡ t = cc in
    subst (λ y. IsTrue (is_value table y v)) same (plain_value table x m.first m.has v f.0)
gets_plains table (x ∷ ts) ps (v ∷ vs) e h (suc i) t q =
    let m = plains_more x ts ps (plain_of x) (plains_of ts) refl refl e in
    let f = both (plain_fits m.first v) (values_fit m.later vs) (subst (λ xs. IsTrue (values_fit xs (v ∷ vs))) m.is h) in
    gets_plains table ts m.later vs m.more f.1 i t q

-- the result that an import has
abbrev pub PlainFits : Table → Option Plain → Option Value → Type 0
PlainFits table None None = Unit {0}
PlainFits table None (Some v) = ⊥
PlainFits table (Some t) None = ⊥
PlainFits table (Some t) (Some (Num v)) = IsTrue (is_value table (type_of_plain t) v)
PlainFits table (Some t) (Some (Ref k path)) = ⊥

pub plain_result_fits : (core : ModuleCore) (entry : Entry) (areas : Areas) (t : Plain) (v : Value) → PlainFits core.structs (Some t) (Some v) → ValueFits core entry areas (type_of_plain t) v
plain_result_fits core entry areas t (Num v) f = f
plain_result_fits core entry areas t (Ref k path) f = absurd f

as_plain : (p : Plain) → plain_of (type_of_plain p) ≡ Some p
as_plain plain.Truth = refl
as_plain (plain.Int kind) = refl

record Reply (table : Table) (ts : List ValueType) (result : Option Plain) (reply : List ℤ) : Type 0 where
  fits : PlainFits table result (result_in result reply)
  cells : Gets table ts (cells_in result reply)

read_reply : (table : Table) (ts : List ValueType) (ps : List Plain) → plains_of ts ≡ Some ps → (result : Option Plain) (reply : List ℤ) → IsTrue (values_fit (option_to_list result ++ ps) reply) → Reply table ts result reply
read_reply table ts ps e None reply h = record { fits = tt; cells = gets_plains table ts ps reply e h }
read_reply table ts ps e (Some t) [] h = absurd (no_values t ps h)
read_reply table ts ps e (Some t) (v ∷ reply) h =
    let f = both (plain_fits t v) (values_fit ps reply) h in
    record { fits = plain_value table (type_of_plain t) t (as_plain t) v f.0; cells = gets_plains table ts ps reply e f.1 }

-- ---- what is written

-- a map of areas that lasts, and holds what fits
pub record WellWritten (table : Table) (before after : Areas) : Type 0 where
  pub fit : AreasFit table after
  pub lasting : Lasting before after

not_written : (table : Table) (areas : Areas) → AreasFit table areas → WellWritten table areas areas
not_written table areas fit = record { fit = fit; lasting = lasting_refl areas }

-- a mutable reference parameter gets a reference to its area
one_written : (core : ModuleCore) (entry : Entry) (areas : Areas) → AreasFit core.structs areas → (r : Region) (target : types.Area) (g : ValueType) (v : Value) (reply : List ℤ)
    → core_types.Fits (types.Ref false r target) g → ValueFits core entry areas g v → Gets core.structs (scalars (written_out core.structs target)) reply
    → WellWritten core.structs areas (written (Some (written_out core.structs target)) v reply areas)
one_written core entry areas fit r target types.Truth v reply f h gets = absurd f
one_written core entry areas fit r target (types.Int kind) v reply f h gets = absurd f
one_written core entry areas fit r target (types.Ix n) v reply f h gets = absurd f
one_written core entry areas fit r target (types.Bits j) v reply f h gets = absurd f
one_written core entry areas fit r target (types.Ref d q b) (Num v) reply f h gets = not_written core.structs areas fit
one_written core entry areas fit r target (types.Ref d q b) (Ref k path) reply f h gets =
    let ty : Written = written_out core.structs target in
    let leads : type_at areas k path ≡ Some ty = leads_to core entry areas (record { constant = d; region = q; area = b }) k path h ∙ ap (λ a. Some (written_out core.structs a)) f.1 in
    record { fit = put_areas_fit core.structs areas k path (filled ty reply) ty leads (filled_fits core.structs ty reply gets) fit; lasting = put_lasts k path (filled ty reply) areas }

module _ (core : ModuleCore) (entry : Entry) (regions : ℕ → Region) where
  param_written : (t g : ValueType) (v : Value) (areas : Areas) (reply : List ℤ) → AreasFit core.structs areas → core_types.Fits (applied regions t) g → ValueFits core entry areas g v → Gets core.structs (scalars_of (writable core t)) reply
      → WellWritten core.structs areas (written (writable core t) v reply areas)
  param_written types.Truth g v areas reply fit f h gets = not_written core.structs areas fit
  param_written (types.Int kind) g v areas reply fit f h gets = not_written core.structs areas fit
  param_written (types.Ix n) g v areas reply fit f h gets = not_written core.structs areas fit
  param_written (types.Bits j) g v areas reply fit f h gets = not_written core.structs areas fit
  param_written (types.Ref true r a) g v areas reply fit f h gets = not_written core.structs areas fit
  param_written (types.Ref false r a) g v areas reply fit f h gets = one_written core entry areas fit (under regions r) a g v reply f h gets

  gets_after : (o : Option Written) (ts : List ValueType) (reply : List ℤ) → Gets core.structs (scalars_of o ++ ts) reply → Gets core.structs ts (behind o reply)
  gets_after None ts reply h = h
  gets_after (Some ty) ts reply h = gets_behind core.structs (scalars ty) ts reply (count ty) (length_scalars ty) h

  pub all_well_written : (params given : List ValueType) (args : List Value) (reply : List ℤ) (areas : Areas) → ArgumentsFit regions params given → ValuesFitAll core entry areas given args → Gets core.structs (given_back core params) reply → AreasFit core.structs areas
      → WellWritten core.structs areas (all_written core params args reply areas)
  all_well_written [] given args reply areas f h gets fit = not_written core.structs areas fit
  all_well_written (t ∷ params) given [] reply areas f h gets fit = not_written core.structs areas fit
  all_well_written (t ∷ params) [] (v ∷ args) reply areas f h gets fit = absurd f
  all_well_written (t ∷ params) (g ∷ given) (v ∷ args) reply areas f h gets fit =
      let next : Areas = written (writable core t) v reply areas in
      let one = param_written t g v areas reply fit f.0 h.0 (gets_front core.structs (scalars_of (writable core t)) (given_back core params) reply gets) in
      let more = all_well_written params given args (behind (writable core t) reply) next f.1 (values_last core entry areas next one.lasting given args h.1) (gets_after (writable core t) (given_back core params) reply gets) one.fit in
      record { fit = more.fit; lasting = lasting_trans areas next (all_written core params args (behind (writable core t) reply) next) one.lasting more.lasting }

-- ---- the call

-- the import has replied
pub record Replied (core : ModuleCore) (i : ImportCore) (s : State) (result : Option Value) (u : State) : Type 0 where
  pub fits : PlainFits core.structs i.result result
  pub frames : u.frames ≡ s.frames
  pub areas : AreasFit core.structs u.areas
  pub lasting : Lasting s.areas u.areas

module _ (core : ModuleCore) (i : ImportCore) (typed : ImportTyped core i) (entry : Entry) (s : State) (areas_fit : AreasFit core.structs s.areas)
    (regions : ℕ → Region) (given : List ValueType) (args : List Value) (fit : ArgumentsFit regions i.params given) (values : ValuesFitAll core entry s.areas given args) where
  replied_with : (ps : List Plain) → plains_of (given_back core i.params) ≡ Some ps → (reply : List ℤ) → IsTrue (values_fit (option_to_list i.result ++ ps) reply) → Replied core i s (result_in i.result reply) (after_reply core i args reply s)
  replied_with ps e reply h =
      let r = read_reply core.structs (given_back core i.params) ps e i.result reply h in
      let w = all_well_written core entry regions i.params given args (cells_in i.result reply) s.areas fit values r.cells areas_fit in
      record { fits = r.fits; frames = refl; areas = w.fit; lasting = w.lasting }

  asking_safe : (ps : List Plain) → plains_of (given_back core i.params) ≡ Some ps → (pieces : List Piece) (n : ℕ) (w : World) → Safe (Replied core i s) (asking core i args pieces (option_to_list i.result ++ ps) n w s)
  asking_safe ps e pieces n w =
      let shape : List Plain = option_to_list i.result ++ ps in
      let call : Part State (List ℤ) = import_call (seen core) i.name pieces shape in
      let next : List ℤ → Part State (Option Value) = λ reply. change (result_in i.result reply) (after_reply core i args reply) in
      keeps_tick HasMeaning (Replied core i s) (bind call next) n w s
      (λ m. keeps_after HasMeaning (Given s shape) (Replied core i s) (call m w s) next (keeps_import_call HasMeaning (seen core) tt tt s i.name pieces shape m w)
      (λ reply u g j z. subst (λ x. Replied core i s (result_in i.result reply) (after_reply core i args reply x)) (sym g.same) (replied_with ps e reply g.fits)))

  pub outside_safe : (n : ℕ) (w : World) → Safe (Replied core i s) (outside core i args n w s)
  outside_safe n w =
      let pieces = pieces_there core entry s.areas areas_fit given args values in
      let ps = plains_there (given_back core i.params) (all_plain core i.params typed.given) in
      let shaped : reply_shape core i ≡ Some (option_to_list i.result ++ ps.0) = ap (option_map (λ cells. option_to_list i.result ++ cells)) ps.1 in
      some_safe core entry s (Replied core i s) (pieces_of s.areas args) pieces.0 (λ pieces. on_some core (reply_shape core i) (asking core i args pieces)) n w pieces.1
      (some_safe core entry s (Replied core i s) (reply_shape core i) (option_to_list i.result ++ ps.0) (asking core i args pieces.0) n w shaped (asking_safe ps.0 ps.1 pieces.0 n w))
