-- Forms of expressions: where their operands come to values that fit their types, so do they, or a check stops them.
use Rattle.std.proofs.Common.{◌≡◌, ℕ, ℤ, Bool, true, false, ◌||◌, not, List, [], ◌∷◌, ◌++◌, length, Option, Some, None, Ok, Err, IsTrue, refl, sym, ◌∙◌, ap, subst}
use Rattle.std.specs.Prelude.{◌<◌, pos, negsuc, int_le, int_lt, unsigned_abs, if◌then◌else◌, is_some}
use Rattle.std.specs.List.{list_any}
use Rattle.std.specs.Option.{option_and_then}
use Rattle.step_semantics.specs.Steps.{World, FailedCheck, Progress, Part, give, halt, after, bind, tick, by_state}
use Rattle.step_semantics.specs.Safe.{HasMeaning, Safe}
use Rattle.step_semantics.proofs.Keeping.{keeps_after, keeps_tick}
use Rattle.int_ops.specs.Operators.{truth}
use Rattle.index_types.specs.Indices.{is_index}
use Rattle.area_types.proofs.Truths.{both, is_below}
use Rattle.type_trees.specs.Trees.{Leaf, part}
use Rattle.type_trees.specs.Values.{at}
use Rattle.area_types.specs.Syntax as types
use Rattle.area_types.specs.Syntax.{ValueType, Truth}
use Rattle.area_types.specs.Tables.{written_out}
use Rattle.region_check.specs.Calls.{Reference, reference_of, may_stand_for}
use Rattle.area_types.specs.declared.region.Region.{Region}
use Rattle.area_types.specs.Trees.{Written}
use Rattle.core_tree.specs.declared.Check.{Check}
use Rattle.core_tree.specs.declared.SiteKind.{SiteKind}
use Rattle.core_tree.specs.Syntax.{ModuleCore, Label}
use Rattle.core_tree.specs.Types.{is_value}
use Rattle.core_tree.specs.TypedExpressions.{DerefTyped, ElementTyped}
use Rattle.core_meaning.specs.Values.{Value, Num, Ref}
use Rattle.core_meaning.specs.Areas.{type_at, held_at, number_at, number_in}
use Rattle.core_meaning.specs.State.{State, seen}
use Rattle.core_meaning.specs.Checks.{lost, formless, passes, Answer, same_kind, covered, tests_of, answered, answering, on_number, on_truth, on_reference, on_some}
use Rattle.core_meaning.specs.Expressions.{found, read_name, of_number, of_numbers, negated, number_behind, choice, element_behind}
use Rattle.core_meaning.specs.Gives.{is_true}
use Rattle.region_soundness.specs.Fitting.{Entry, Allows, Refers, RefersAs, ValueFits}
use Rattle.region_soundness.specs.Scoped.{AreasFit}
use Rattle.region_soundness.proofs.Answered.{Answered, AnswersOne, AnswersTwo}
use Rattle.region_soundness.proofs.Lasting.{there, leads_to}
use Rattle.region_soundness.proofs.Trees.{part_held, leaf_number}
use Rattle.region_soundness.proofs.Structs.{element_part}

pub index_within : (n : ℕ) (i : ℤ) → IsTrue (is_index n i) → unsigned_abs i < n
index_within n (pos i) h = is_below i n (both (int_le (pos 0) (pos i)) (int_lt (pos i) (pos n)) h).1
index_within n (negsuc i) h = let no : ⊥ = cc in absurd no

-- a value of the type, in the same state
pub record Gave (core : ModuleCore) (entry : Entry) (s : State) (ty : ValueType) (x : Value) (u : State) : Type 0 where
  pub same : u ≡ s
  pub fits : ValueFits core entry s.areas ty x

-- ---- parts

module _ (core : ModuleCore) (entry : Entry) (s : State) where
  abbrev G : ValueType → Value → State → Type 0
  G ty = Gave core entry s ty

  pub gave_after : {B : Type 0} (post : B → State → Type 0) (ty : ValueType) (r : Progress State Value) (next : Value → Part State B)
      → Safe (G ty) r → ((x : Value) → ValueFits core entry s.areas ty x → (n : ℕ) (w : World) → Safe post (next x n w s)) → Safe post (after r next)
  gave_after post ty r next h f = keeps_after HasMeaning (G ty) post r next h (λ x u g n w. subst (λ t. Safe post (next x n w t)) (sym g.same) (f x g.fits n w))

  pub some_safe : {A B : Type 0} (post : B → State → Type 0) (o : Option A) (a : A) (next : A → Part State B) (n : ℕ) (w : World) → o ≡ Some a → Safe post (next a n w s) → Safe post (on_some core o next n w s)
  some_safe post o a next n w e h = subst (λ x. Safe post (on_some core x next n w s)) (sym e) h

  -- a value of a type that is no reference's is a number
  pub number_safe : {B : Type 0} (post : B → State → Type 0) (ty : ValueType) (x : Value) (next : ℤ → Part State B) (n : ℕ) (w : World)
      → reference_of ty ≡ None → ValueFits core entry s.areas ty x → ((v : ℤ) → IsTrue (is_value core.structs ty v) → Safe post (next v n w s)) → Safe post (on_number core x next n w s)
  number_safe post ty (Num v) next n w e fits h = h v fits
  number_safe post ty (Ref k path) next n w e fits h = absurd (subst (λ o. RefersAs core entry s.areas o k path) e fits)

  pub truth_safe : {B : Type 0} (post : B → State → Type 0) (x : Value) (next : Bool → Part State B) (n : ℕ) (w : World)
      → ValueFits core entry s.areas Truth x → ((b : Bool) → Safe post (next b n w s)) → Safe post (on_truth core x next n w s)
  truth_safe post (Num v) next n w fits h = h (is_true v)
  truth_safe post (Ref k path) next n w fits h = absurd fits

  -- a value of a reference's type is a reference
  pub reference_safe : {B : Type 0} (post : B → State → Type 0) (c : Bool) (r : Region) (a : types.Area) (x : Value) (next : ℕ → List ℕ → Part State B) (n : ℕ) (w : World)
      → ValueFits core entry s.areas (types.Ref c r a) x → ((k : ℕ) (path : List ℕ) → Refers core entry s.areas (record { constant = c; region = r; area = a }) k path → Safe post (next k path n w s)) → Safe post (on_reference core x next n w s)
  reference_safe post c r a (Num v) next n w fits h = let no : ⊥ = cc in absurd no
  reference_safe post c r a (Ref k path) next n w fits h = h k path fits

  pub if_safe : {A : Type 0} (post : A → State → Type 0) (b : Bool) (first second : Part State A) (n : ℕ) (w : World) → Safe post (first n w s) → Safe post (second n w s) → Safe post ((if b then first else second) n w s)
  if_safe post true first second n w h g = h
  if_safe post false first second n w h g = g

  pub if_true_safe : {A : Type 0} (post : A → State → Type 0) (b : Bool) (first second : Part State A) (n : ℕ) (w : World) → b ≡ true → Safe post (first n w s) → Safe post ((if b then first else second) n w s)
  if_true_safe post true first second n w e h = h
  if_true_safe post false first second n w e h = let no : ⊥ = cc in absurd no

  -- ---- checks

  pass_all : {A : Type 0} (post : A → State → Type 0) (v : ℤ) (checks : List Check) (last : Part State A) (n : ℕ) (w : World) → Safe post (last n w s) → Safe post (passes core (tests_of (Ok v) checks) last n w s)
  pass_all post v [] last n w h = h
  pass_all post v (c ∷ cs) last n w h = pass_all post v cs last n w h

  unless_stopped : {A : Type 0} (post : A → State → Type 0) (b : Bool) (site : ℕ) (rest : Part State A) (n : ℕ) (w : World) → (b ≡ false → Safe post (rest n w s)) → Safe post ((if not b then rest else halt (seen core) (FailedCheck site)) n w s)
  unless_stopped post true site rest n w h = tt
  unless_stopped post false site rest n w h = h refl

  stopped : {A : Type 0} (post : A → State → Type 0) (failed : SiteKind) (checks : List Check) (last : Part State A) (n : ℕ) (w : World) → IsTrue (list_any (λ c. same_kind failed c.kind) checks) → Safe post (passes core (tests_of (Err failed) checks) last n w s)
  stopped post failed [] last n w h = let no : ⊥ = cc in absurd no
  stopped post failed (c ∷ cs) last n w h =
      unless_stopped post (same_kind failed c.kind) c.site (passes core (tests_of (Err failed) cs) last) n w
      (λ e. stopped post failed cs last n w (subst (λ b. IsTrue (b || list_any (λ c. same_kind failed c.kind) cs)) e h))

  answering_safe : (l : Label) (answer : Answer) → Answered core.structs l answer → (n : ℕ) (w : World) → Safe (G l.ty) (answering core l answer n w s)
  answering_safe l (Ok v) a n w =
      keeps_tick HasMeaning (G l.ty) (passes core (tests_of (Ok v) l.checks) (answered core (Ok v))) n w s
      (λ m. pass_all (G l.ty) v l.checks (answered core (Ok v)) m w (record { same = refl; fits = a.fits v refl }))
  answering_safe l (Err failed) a n w =
      if_true_safe (G l.ty) (covered (Err failed) l.checks) (tick (passes core (tests_of (Err failed) l.checks) (answered core (Err failed)))) (formless core) n w a.covers
      (keeps_tick HasMeaning (G l.ty) (passes core (tests_of (Err failed) l.checks) (answered core (Err failed))) n w s
      (λ m. stopped (G l.ty) failed l.checks (answered core (Err failed)) m w a.covers))

  -- ---- forms

  pub of_number_safe : (l : Label) (from : ValueType) (form : Option (ℤ → Answer)) (operand : Part State Value) → reference_of from ≡ None → AnswersOne core.structs from l form
      → ((n : ℕ) (w : World) → Safe (G from) (operand n w s)) → (n : ℕ) (w : World) → Safe (G l.ty) (of_number core l form operand n w s)
  of_number_safe l from form operand plain a h n w =
      let next : (ℤ → Answer) → Part State Value = λ answer. bind operand (λ x. on_number core x (λ v. answering core l (answer v))) in
      some_safe (G l.ty) form a.answer next n w a.has
      (gave_after (G l.ty) from (operand n w s) (λ x. on_number core x (λ v. answering core l (a.answer v))) (h n w)
      (λ x fits m z. number_safe (G l.ty) from x (λ v. answering core l (a.answer v)) m z plain fits (λ v is. answering_safe l (a.answer v) (a.each v is) m z)))

  pub of_numbers_safe : (l : Label) (t u : ValueType) (form : Option (ℤ → ℤ → Answer)) (left right : Part State Value) → reference_of t ≡ None → reference_of u ≡ None → AnswersTwo core.structs t u l form
      → ((n : ℕ) (w : World) → Safe (G t) (left n w s)) → ((n : ℕ) (w : World) → Safe (G u) (right n w s)) → (n : ℕ) (w : World) → Safe (G l.ty) (of_numbers core l form left right n w s)
  of_numbers_safe l t u form left right plain plain' a h g n w =
      let last : Value → Value → Part State Value = λ x y. on_number core x (λ v. on_number core y (λ v'. answering core l (a.answer v v'))) in
      let next : (ℤ → ℤ → Answer) → Part State Value = λ answer. bind left (λ x. bind right (λ y. on_number core x (λ v. on_number core y (λ v'. answering core l (answer v v'))))) in
      some_safe (G l.ty) form a.answer next n w a.has
      (gave_after (G l.ty) t (left n w s) (λ x. bind right (last x)) (h n w)
      (λ x fits m z. gave_after (G l.ty) u (right m z s) (last x) (g m z)
      (λ y fits' j q. number_safe (G l.ty) t x (λ v. on_number core y (λ v'. answering core l (a.answer v v'))) j q plain fits
      (λ v is. number_safe (G l.ty) u y (λ v'. answering core l (a.answer v v')) j q plain' fits' (λ v' is'. answering_safe l (a.answer v v') (a.each v v' is is') j q)))))

  truth_fits : (b : Bool) → ValueFits core entry s.areas Truth (Num (truth b))
  truth_fits true = refl
  truth_fits false = refl

  pub negated_safe : (operand : Part State Value) → ((n : ℕ) (w : World) → Safe (G Truth) (operand n w s)) → (n : ℕ) (w : World) → Safe (G Truth) (negated core operand n w s)
  negated_safe operand h n w =
      let next : Bool → Part State Value = λ holds. tick (give (Num (truth (not holds)))) in
      gave_after (G Truth) Truth (operand n w s) (λ x. on_truth core x next) (h n w)
      (λ x fits m z. truth_safe (G Truth) x next m z fits (λ b. keeps_tick HasMeaning (G Truth) (give (Num (truth (not b)))) m z s (λ j. record { same = refl; fits = truth_fits (not b) })))

  -- a truth, and then one of two parts
  pub choice_safe : {A : Type 0} (post : A → State → Type 0) (test : Part State Value) (first second : Part State A) → ((n : ℕ) (w : World) → Safe (G Truth) (test n w s)) → ((n : ℕ) (w : World) → Safe post (first n w s))
      → ((n : ℕ) (w : World) → Safe post (second n w s)) → (n : ℕ) (w : World) → Safe post (choice core test first second n w s)
  choice_safe post test first second h g k n w =
      let next : Bool → Part State _ = λ holds. tick (if holds then first else second) in
      gave_after post Truth (test n w s) (λ x. on_truth core x next) (h n w)
      (λ x fits m z. truth_safe post x next m z fits (λ b. keeps_tick HasMeaning post (if b then first else second) m z s (λ j. if_safe post b first second j z (g j z) (k j z))))

  found_safe : (ty : ValueType) (x : Value) → ValueFits core entry s.areas ty x → (n : ℕ) (w : World) → Safe (G ty) (found core s.areas x n w s)
  found_safe ty (Num v) fits n w = record { same = refl; fits = fits }
  found_safe ty (Ref k path) fits n w = go (reference_of ty) refl fits
    where
      go : (o : Option Reference) → reference_of ty ≡ o → RefersAs core entry s.areas o k path → Safe (Gave core entry s ty) (found core s.areas (Ref k path) n w s)
      go None e f = absurd f
      go (Some r) e f =
          let leads : type_at s.areas k path ≡ Some (written_out core.structs r.area) = leads_to core entry s.areas r k path f in
          if_true_safe (Gave core entry s ty) (is_some (type_at s.areas k path)) (give (Ref k path)) (lost core) n w (ap is_some leads) (record { same = refl; fits = fits })

  pub name_safe : (ty : ValueType) (look : State → Option Value) (v : Value) → look s ≡ Some v → ValueFits core entry s.areas ty v → (n : ℕ) (w : World) → Safe (G ty) (read_name core look n w s)
  name_safe ty look v has fits n w = some_safe (G ty) (look s) v (found core s.areas) n w has (found_safe ty v fits n w)

  -- `*r`
  pub number_behind_safe : (l : Label) (from : ValueType) (operand : Part State Value) → AreasFit core.structs s.areas → DerefTyped l from
      → ((n : ℕ) (w : World) → Safe (G from) (operand n w s)) → (n : ℕ) (w : World) → Safe (G l.ty) (number_behind core operand n w s)
  number_behind_safe l from operand fit d h n w =
      let behind : ℕ → List ℕ → Part State Value = λ k path. by_state (λ s. on_some core (number_at s.areas k path) (λ v. tick (give (Num v)))) in
      gave_after (G l.ty) from (operand n w s) (λ x. on_reference core x behind) (h n w)
      (λ x fits m z. reference_safe (G l.ty) d.constant d.region (types.Stored l.ty) x behind m z (subst (λ t. ValueFits core entry s.areas t x) d.operand fits)
      (λ k path r.
      let whole = fit k r.area (there s.areas k r.area r.live) in
      let p = part_held core.structs r.area.ty path (Leaf l.ty) r.area.held r.leads whole in
      let q = leaf_number core.structs l.ty p.0 p.2 in
      let at_path : held_at s.areas k path ≡ Some p.0 = ap (option_and_then (λ a. at a.held path)) (there s.areas k r.area r.live) ∙ p.1 in
      let number : number_at s.areas k path ≡ Some q.0 = ap (option_and_then number_in) at_path ∙ ap number_in q.1 in
      some_safe (G l.ty) (number_at s.areas k path) q.0 (λ v. tick (give (Num v))) m z number
      (keeps_tick HasMeaning (G l.ty) (give (Num q.0)) m z s (λ j. record { same = refl; fits = q.2 }))))

  -- a reference to a part of what a reference leads to
  pub deeper : (r r' : Reference) (k i : ℕ) (path : List ℕ) → Refers core entry s.areas r k path → r'.constant ≡ r.constant → r'.region ≡ r.region
      → ((w : Written) → part w path ≡ Some (written_out core.structs r.area) → part w (path ++ i ∷ []) ≡ Some (written_out core.structs r'.area)) → Refers core entry s.areas r' k (path ++ i ∷ [])
  deeper r r' k i path f e d h = record {
    area = f.area;
    live = f.live;
    leads = h f.area.ty f.leads;
    access = subst (λ c. IsTrue (may_stand_for f.area.constant c)) (sym e) f.access;
    allowed = subst (λ a. Allows (length core.areas) entry a k) (sym d) f.allowed;
  }

  pub element_safe : (l : Label) (from index : ValueType) (array place : Part State Value) → ElementTyped l from index
      → ((n : ℕ) (w : World) → Safe (G from) (array n w s)) → ((n : ℕ) (w : World) → Safe (G index) (place n w s)) → (n : ℕ) (w : World)
      → Safe (G l.ty) (bind array (λ x. bind place (element_behind core x)) n w s)
  element_safe l from index array place e h g n w =
      gave_after (G l.ty) from (array n w s) (λ x. bind place (element_behind core x)) (h n w)
      (λ x fits m z. gave_after (G l.ty) index (place m z s) (element_behind core x) (g m z)
      (λ y fits' j q.
      let past : ℕ → List ℕ → ℤ → Part State Value = λ k path i. tick (give (Ref k (path ++ unsigned_abs i ∷ []))) in
      reference_safe (G l.ty) e.constant e.region (types.Array e.length e.element) x (λ k path. on_number core y (past k path)) j q (subst (λ t. ValueFits core entry s.areas t x) e.operand fits)
      (λ k path r. number_safe (G l.ty) (types.Ix e.length) y (past k path) j q refl (subst (λ t. ValueFits core entry s.areas t y) e.index_is fits')
      (λ i is. keeps_tick HasMeaning (G l.ty) (give (Ref k (path ++ unsigned_abs i ∷ []))) j q s
      (λ t. record {
        same = refl;
        fits = subst (λ ty. ValueFits core entry s.areas ty (Ref k (path ++ unsigned_abs i ∷ []))) (sym e.type)
            (deeper (record { constant = e.constant; region = e.region; area = types.Array e.length e.element }) (record { constant = e.constant; region = e.region; area = e.element }) k (unsigned_abs i) path r refl refl
            (λ w leads. element_part core.structs e.length (unsigned_abs i) e.element (index_within e.length i is) w path leads));
      })))))
