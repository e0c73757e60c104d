-- What holds of the state at a place of a body, and what a part of the body leaves.
use Rattle.std.proofs.Common.{◌≡◌, ⊎_elim, ◌⊎◌, inl, inr, ℕ, zero, suc, ◌<◌, ◌≤◌, Bool, true, false, not, cond, List, [], ◌∷◌, length, Option, Some, None, Contains, IsTrue, refl, sym, ◌∙◌, ap, subst, arith, eq-eqb}
use Rattle.std.specs.Prelude.{slice_get, ◌==◌}
use Rattle.std.specs.List.{find}
use Rattle.std.specs.Option.{option_map}
use Rattle.std.proofs.lemmas.Bool.{eqb-true, false_from_ne_true}
use Rattle.step_semantics.specs.Control.{Falls, Broke, Returned}
use Rattle.area_types.specs.Syntax as types
use Rattle.area_types.specs.Syntax.{ValueType}
use Rattle.area_types.specs.declared.region.Region.TheVariants.{Global, Param, Own}
use Rattle.region_check.specs.Calls.{Reference}
use Rattle.region_check.specs.Substitutions.{escapes}
use Rattle.core_tree.specs.Syntax.{ModuleCore}
use Rattle.core_tree.specs.Environments.{Env}
use Rattle.core_meaning.specs.Values.{Value, Num, Ref}
use Rattle.core_meaning.specs.Areas.{AreaState, Areas, from_place, marked}
use Rattle.core_meaning.specs.State.{State, with_name, leave}
use Rattle.core_meaning.specs.Statements.{Flow}
use Rattle.region_soundness.specs.Fitting.{Entry, Referred, Refers, ValueFits}
use Rattle.region_soundness.specs.Scoped.{AreasFit, NamesFit, NameFits, name_in}
use Rattle.region_soundness.proofs.Lasting.{Lasting, lasting_refl, lasting_trans, lasting_longer, mark_lasts, mark_areas_fit, names_last, globals_last}
use Rattle.region_soundness.proofs.Known.{Knows, activation}

-- ---- a call that was entered

-- the areas of the module and those to which its arguments referred come before its own
pub record Entered (core : ModuleCore) (entry : Entry) : Type 0 where
  pub referred : (j k : ℕ) → Referred entry j k → k < entry.first
  pub globals : length core.areas ≤ entry.first

-- ---- states of a body

-- With these locals in scope, those of the parameters among them, and so many locals before this place in the text.
pub record Stands (env : Env) (base scope : List ℕ) (next : ℕ) (entry : Entry) (s : State) : Type 0 where
  pub knows : Knows env scope entry s
  pub below : (m : ℕ) → Contains scope m → m < next
  pub parameters : (m : ℕ) → Contains base m → Contains scope m
  pub room : entry.first ≤ length s.areas
  pub named : (m : ℕ) (v : Value) → name_in s.frames.own.names m ≡ Some v → Contains scope m
  pub args : (m : ℕ) (v : Value) → slice_get entry.args m ≡ Some v → name_in s.frames.own.names m ≡ Some v

-- the areas of the first state last, and the calls that are open are those of before
pub record Lasts (s u : State) : Type 0 where
  pub areas : Lasting s.areas u.areas
  pub first : u.frames.own.first ≡ s.frames.own.first
  pub callers : u.frames.callers ≡ s.frames.callers

pub lasts_refl : (s : State) → Lasts s s
lasts_refl s = record { areas = lasting_refl s.areas; first = refl; callers = refl }

pub lasts_trans : (s t u : State) → Lasts s t → Lasts t u → Lasts s u
lasts_trans s t u h g = record { areas = lasting_trans s.areas t.areas u.areas h.areas g.areas; first = g.first ∙ h.first; callers = g.callers ∙ h.callers }

abbrev pub ResultFits : ModuleCore → Entry → Areas → Option ValueType → Option Value → Type 0
ResultFits core entry areas None None = Unit {0}
ResultFits core entry areas None (Some v) = ⊥
ResultFits core entry areas (Some t) None = ⊥
ResultFits core entry areas (Some t) (Some v) = ValueFits core entry areas t v

-- ---- names

contains_cases : (x z : ℕ) (xs : List ℕ) → Contains (x ∷ xs) z → (x ≡ z) ⊎ Contains xs z
contains_cases x z xs (zero, lt, e) = inl e
contains_cases x z xs (suc k, lt, e) = inr (k, omega arith, e)

pub contains_more : (x z : ℕ) (xs : List ℕ) → Contains xs z → Contains (x ∷ xs) z
contains_more x z xs (k, lt, e) = (suc k, omega arith, e)

pub name_here : (names : List (ℕ × Value)) (number : ℕ) (v : Value) → name_in ((number, v) ∷ names) number ≡ Some v
name_here names number v = ap (λ b. option_map (λ (x : ℕ × Value). x.1) (cond b (Some (number, v)) (find (λ x. x.0 == number) names))) (eq-eqb number number refl)

pub name_past : (names : List (ℕ × Value)) (m number : ℕ) (v : Value) → (m ≡ number → ⊥) → name_in ((m, v) ∷ names) number ≡ name_in names number
name_past names m number v apart =
    ap (λ b. option_map (λ (x : ℕ × Value). x.1) (cond b (Some (m, v)) (find (λ x. x.0 == number) names))) (false_from_ne_true (m == number) (λ e. apart (eqb-true m number e)))

module _ (env : Env) (base : List ℕ) (entry : Entry) where
  -- a name more, which is the next local of the text
  pub stands_named : (scope : List ℕ) (next : ℕ) (s : State) (ty : ValueType) (v : Value) → Stands env base scope next entry s → slice_get env.locals next ≡ Some ty → ValueFits env.core entry s.areas ty v
      → Stands env base (next ∷ scope) (suc next) entry (with_name next v s)
  stands_named scope next s ty v st typed fits = record {
    knows = record {
      areas = st.knows.areas;
      globals = st.knows.globals;
      names = λ m t c e. ⊎_elim (λ same. here m t same e) (λ c'. past m t c' e) (contains_cases next m scope c);
    };
    below = λ m c. ⊎_elim (λ same. omega (arith, same)) (λ c'. omega (arith, st.below m c')) (contains_cases next m scope c);
    parameters = λ m c. contains_more next m scope (st.parameters m c);
    room = st.room;
    named = λ m x e. known m x (next == m) refl e;
    args = λ m x e. let old = st.args m x e in name_past s.frames.own.names next m v (λ same. omega (arith, st.below m (st.named m x old), same)) ∙ old;
  }
    where
      known : (m : ℕ) (x : Value) (b : Bool) → (next == m) ≡ b → name_in ((next, v) ∷ s.frames.own.names) m ≡ Some x → Contains (next ∷ scope) m
      known m x true same e = (zero, omega arith, eqb-true next m same)
      known m x false other e = contains_more next m scope (st.named m x (sym (name_past s.frames.own.names next m v (λ same. let no : ⊥ = (let yes = eq-eqb next m same in cc) in no)) ∙ e))

      here : (m : ℕ) (t : ValueType) → next ≡ m → slice_get env.locals m ≡ Some t → NameFits env.core entry s.areas ((next, v) ∷ s.frames.own.names) m t
      here m t same e =
          let is : ty ≡ t = (let both : Some ty ≡ Some t = sym typed ∙ ap (slice_get env.locals) same ∙ e in cc) in
          record { value = v; has = ap (name_in ((next, v) ∷ s.frames.own.names)) (sym same) ∙ name_here s.frames.own.names next v; fits = subst (λ x. ValueFits env.core entry s.areas x v) is fits }

      past : (m : ℕ) (t : ValueType) → Contains scope m → slice_get env.locals m ≡ Some t → NameFits env.core entry s.areas ((next, v) ∷ s.frames.own.names) m t
      past m t c e =
          let f = st.knows.names m t c e in
          record { value = f.value; has = name_past s.frames.own.names next m v (λ same. omega (arith, st.below m c, same)) ∙ f.has; fits = f.fits }

  -- the same names, over areas that last
  pub stands_on : (scope : List ℕ) (next : ℕ) (s u : State) → Stands env base scope next entry s → Lasting s.areas u.areas → AreasFit env.core.structs u.areas → u.frames.own.names ≡ s.frames.own.names → Stands env base scope next entry u
  stands_on scope next s u st l fit names = record {
    knows = record {
      areas = fit;
      globals = globals_last env.core s.areas u.areas l st.knows.globals;
      names = subst (NamesFit env.core u.areas (activation env scope entry)) (sym names) (names_last env.core s.areas u.areas l (activation env scope entry) s.frames.own.names st.knows.names);
    };
    below = st.below;
    parameters = st.parameters;
    room = omega (arith, st.room, lasting_longer s.areas u.areas l);
    named = λ m v e. st.named m v (ap (λ xs. name_in xs m) (sym names) ∙ e);
    args = λ m v e. ap (λ xs. name_in xs m) names ∙ st.args m v e;
  }

  -- further on in the text
  pub stands_further : (scope : List ℕ) (next next' : ℕ) (s : State) → next ≤ next' → Stands env base scope next entry s → Stands env base scope next' entry s
  stands_further scope next next' s le st = record { knows = st.knows; below = λ m c. omega (arith, le, st.below m c); parameters = st.parameters; room = st.room; named = st.named; args = st.args }

  -- what is known of the parameters
  pub knows_parameters : (scope : List ℕ) (next : ℕ) (s : State) → Stands env base scope next entry s → Knows env base entry s
  knows_parameters scope next s st = record { areas = st.knows.areas; globals = st.knows.globals; names = λ m t c e. st.knows.names m t (st.parameters m c) e }

-- ---- areas that are marked, or taken out of the map

early_place : (f : AreaState → AreaState) (n k : ℕ) (areas : Areas) → k < n → slice_get (from_place f n areas) k ≡ slice_get areas k
early_place f n k [] lt = refl
early_place f zero k (a ∷ areas) lt = absurd (omega arith)
early_place f (suc n) zero (a ∷ areas) lt = refl
early_place f (suc n) (suc k) (a ∷ areas) lt = early_place f n k areas (omega arith)

-- a value that refers to none of the call's own areas fits as before, where those from its first own one on, or from a later one, change
module _ (core : ModuleCore) (entry : Entry) (entered : Entered core entry) (f : AreaState → AreaState) (n : ℕ) (late : entry.first ≤ n) (areas : Areas) where
  refers_early : (r : Reference) (k : ℕ) (path : List ℕ) → k < entry.first → Refers core entry areas r k path → Refers core entry (from_place f n areas) r k path
  refers_early r k path lt h = record { area = h.area; live = early_place f n k areas (omega (arith, lt, late)) ∙ h.live; leads = h.leads; access = h.access; allowed = h.allowed }

  pub value_early : (t : ValueType) (v : Value) → IsTrue (not (escapes t)) → ValueFits core entry areas t v → ValueFits core entry (from_place f n areas) t v
  value_early t (Num v) kept fits = fits
  value_early types.Truth (Ref k path) kept fits = fits
  value_early (types.Int kind) (Ref k path) kept fits = fits
  value_early (types.Ix m) (Ref k path) kept fits = fits
  value_early (types.Bits m) (Ref k path) kept fits = fits
  value_early (types.Ref c Global a) (Ref k path) kept fits = refers_early (record { constant = c; region = Global; area = a }) k path (let lt : k < length core.areas = fits.allowed in omega (arith, lt, entered.globals)) fits
  value_early (types.Ref c (Param j) a) (Ref k path) kept fits = refers_early (record { constant = c; region = Param j; area = a }) k path (entered.referred j k fits.allowed) fits
  value_early (types.Ref c Own a) (Ref k path) kept fits = let no : ⊥ = cc in absurd no

  pub result_early : (result : Option ValueType) (v : Option Value) → ((t : ValueType) → result ≡ Some t → IsTrue (not (escapes t))) → ResultFits core entry areas result v → ResultFits core entry (from_place f n areas) result v
  result_early None None kept fits = tt
  result_early None (Some v) kept fits = fits
  result_early (Some t) None kept fits = fits
  result_early (Some t) (Some v) kept fits = value_early t v (kept t refl) fits

-- ---- what a part of a body leaves

module _ (env : Env) (base : List ℕ) (entry : Entry) (s : State) where
  pub record Passed (scope : List ℕ) (next : ℕ) (falls : Bool) (u : State) : Type 0 where
    pub reached : IsTrue falls
    pub lasts : Lasts s u
    pub stands : Stands env base scope next entry u

  pub record Broken (breaks may : Bool) (u : State) : Type 0 where
    pub reached : IsTrue breaks
    pub allowed : IsTrue may
    pub lasts : Lasts s u
    pub areas : AreasFit env.core.structs u.areas

  pub record Ended (result : Option Value) (u : State) : Type 0 where
    pub lasts : Lasts s u
    pub areas : AreasFit env.core.structs u.areas
    pub fits : ResultFits env.core entry u.areas env.result result

  -- it falls through only where it may by its form, and breaks only where a break of its own stands in it and is allowed
  abbrev pub Came : (scope : List ℕ) (next : ℕ) (falls breaks may : Bool) → Flow → State → Type 0
  Came scope next falls breaks may Falls u = Passed scope next falls u
  Came scope next falls breaks may Broke u = Broken breaks may u
  Came scope next falls breaks may (Returned result) u = Ended result u

  -- a turn of a loop, whose names are gone
  pub record BrokenLoop (scope : List ℕ) (next : ℕ) (breaks : Bool) (u : State) : Type 0 where
    pub reached : IsTrue breaks
    pub lasts : Lasts s u
    pub stands : Stands env base scope next entry u

  abbrev pub Turned : (scope : List ℕ) (next : ℕ) (breaks : Bool) → Flow → State → Type 0
  Turned scope next breaks Falls u = Passed scope next true u
  Turned scope next breaks Broke u = BrokenLoop scope next breaks u
  Turned scope next breaks (Returned result) u = Ended result u

-- a statement that does not fall through leaves the names that it found
abbrev pub NamesKept : State → Flow → State → Type 0
NamesKept s Falls u = Unit {0}
NamesKept s Broke u = u.frames.own.names ≡ s.frames.own.names
NamesKept s (Returned result) u = u.frames.own.names ≡ s.frames.own.names

-- so does the end of a block
pub left_names : (s u : State) (flow : Flow) → NamesKept s flow (leave s u)
left_names s u Falls = tt
left_names s u Broke = refl
left_names s u (Returned result) = refl

module _ (env : Env) (base : List ℕ) (entry : Entry) where
  -- from an earlier state
  pub came_since : (s t : State) (scope : List ℕ) (next : ℕ) (falls breaks may : Bool) (flow : Flow) (u : State) → Lasts s t → Came env base entry t scope next falls breaks may flow u → Came env base entry s scope next falls breaks may flow u
  came_since s t scope next falls breaks may Falls u l c = record { reached = c.reached; lasts = lasts_trans s t u l c.lasts; stands = c.stands }
  came_since s t scope next falls breaks may Broke u l c = record { reached = c.reached; allowed = c.allowed; lasts = lasts_trans s t u l c.lasts; areas = c.areas }
  came_since s t scope next falls breaks may (Returned result) u l c = record { lasts = lasts_trans s t u l c.lasts; areas = c.areas; fits = c.fits }

  pub turned_since : (s t : State) (scope : List ℕ) (next : ℕ) (breaks : Bool) (flow : Flow) (u : State) → Lasts s t → Turned env base entry t scope next breaks flow u → Turned env base entry s scope next breaks flow u
  turned_since s t scope next breaks Falls u l c = record { reached = refl; lasts = lasts_trans s t u l c.lasts; stands = c.stands }
  turned_since s t scope next breaks Broke u l c = record { reached = c.reached; lasts = lasts_trans s t u l c.lasts; stands = c.stands }
  turned_since s t scope next breaks (Returned result) u l c = record { lasts = lasts_trans s t u l c.lasts; areas = c.areas; fits = c.fits }

  -- in ways that are allowed further
  pub came_weaker : (s : State) (scope : List ℕ) (next : ℕ) (falls breaks may falls_too breaks_too may_too : Bool) (flow : Flow) (u : State) → (IsTrue falls → IsTrue falls_too) → (IsTrue breaks → IsTrue breaks_too) → (IsTrue may → IsTrue may_too)
      → Came env base entry s scope next falls breaks may flow u → Came env base entry s scope next falls_too breaks_too may_too flow u
  came_weaker s scope next falls breaks may falls_too breaks_too may_too Falls u f b m c = record { reached = f c.reached; lasts = c.lasts; stands = c.stands }
  came_weaker s scope next falls breaks may falls_too breaks_too may_too Broke u f b m c = record { reached = b c.reached; allowed = m c.allowed; lasts = c.lasts; areas = c.areas }
  came_weaker s scope next falls breaks may falls_too breaks_too may_too (Returned result) u f b m c = c

  -- ---- the end of a block

  module _ (entered : Entered env.core entry) (kept : (t : ValueType) → env.result ≡ Some t → IsTrue (not (escapes t))) (scope : List ℕ) (next next' : ℕ) (le : next ≤ next') (s : State) (st : Stands env base scope next entry s) where
    left_lasts : (u : State) → Lasts s u → Lasts s (leave s u)
    left_lasts u l = record { areas = mark_lasts s.areas u.areas l.areas; first = l.first; callers = l.callers }

    left_stands : (u : State) → Lasts s u → AreasFit env.core.structs u.areas → Stands env base scope next' entry (leave s u)
    left_stands u l fit = stands_further env base entry scope next next' (leave s u) le (stands_on env base entry scope next s (leave s u) st (left_lasts u l).areas (mark_areas_fit env.core.structs u.areas (length s.areas) fit) refl)

    left_ended : (result : Option Value) (u : State) → Ended env base entry s result u → Ended env base entry s result (leave s u)
    left_ended result u c = record {
      lasts = left_lasts u c.lasts;
      areas = mark_areas_fit env.core.structs u.areas (length s.areas) c.areas;
      fits = result_early env.core entry entered marked (length s.areas) st.room u.areas env.result result kept c.fits;
    }

    pub left_came : (inner : List ℕ) (further : ℕ) (falls breaks may : Bool) (flow : Flow) (u : State) → Came env base entry s inner further falls breaks may flow u → Came env base entry s scope next' falls breaks may flow (leave s u)
    left_came inner further falls breaks may Falls u c = record { reached = c.reached; lasts = left_lasts u c.lasts; stands = left_stands u c.lasts c.stands.knows.areas }
    left_came inner further falls breaks may Broke u c = record { reached = c.reached; allowed = c.allowed; lasts = left_lasts u c.lasts; areas = mark_areas_fit env.core.structs u.areas (length s.areas) c.areas }
    left_came inner further falls breaks may (Returned result) u c = left_ended result u c

    pub left_turned : (inner : List ℕ) (further : ℕ) (falls breaks may : Bool) (flow : Flow) (u : State) → Came env base entry s inner further falls breaks may flow u → Turned env base entry s scope next' breaks flow (leave s u)
    left_turned inner further falls breaks may Falls u c = record { reached = refl; lasts = left_lasts u c.lasts; stands = left_stands u c.lasts c.stands.knows.areas }
    left_turned inner further falls breaks may Broke u c = record { reached = c.reached; lasts = left_lasts u c.lasts; stands = left_stands u c.lasts c.areas }
    left_turned inner further falls breaks may (Returned result) u c = left_ended result u c
