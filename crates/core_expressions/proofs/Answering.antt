-- What a form that answers comes to, by its answer and its checks.
use Rattle.std.proofs.Common.{◌≡◌, ℕ, zero, suc, ℤ, List, [], ◌∷◌, Bool, true, false, Some, None, Ok, Err, refl, ap, ◌∙◌}
use Rattle.std.specs.Prelude.{◌||◌, if◌then◌else◌, not}
use Rattle.std.specs.List.{list_any}
use Rattle.run_records.specs.declared.Reason.TheVariants.{Dead}
use Rattle.step_semantics.specs.Steps as steps
use Rattle.step_semantics.specs.Steps.{Part, Finished, Halted, FailedCheck, NoMeaning, give, halt, tick}
use Rattle.core_tree.specs.declared.Check.{Check}
use Rattle.core_tree.specs.declared.SiteKind.{SiteKind}
use Rattle.core_tree.specs.Syntax.{ModuleCore}
use Rattle.core_meaning.specs.Values.{Num}
use Rattle.core_meaning.specs.State.{State, seen}
use Rattle.core_meaning.specs.Checks.{Answer, same_kind, passes, tests_of, covered, formless}
use Rattle.core_expressions.specs.Forms.{first_site}
use Rattle.core_expressions.specs.Operands.{answering_by}

pub tick_same : {A : Type 0} (f g : Part State A) (n : ℕ) (w : steps.World) (s : State) → ((m : ℕ) → f m w s ≡ g m w s) → tick f n w s ≡ tick g n w s
tick_same f g zero w s h = refl
tick_same f g (suc n) w s h = h n

pub all_pass : {A : Type 0} (core : ModuleCore) (v : ℤ) (checks : List Check) (part : Part State A) (n : ℕ) (w : steps.World) (s : State) → passes core (tests_of (Ok v) checks) part n w s ≡ part n w s
all_pass core v [] part n w s = refl
all_pass core v (c ∷ cs) part n w s = all_pass core v cs part n w s

pub first_fails : {A : Type 0} (core : ModuleCore) (kind : SiteKind) (site : ℕ) (checks : List Check) (part : Part State A) (n : ℕ) (w : steps.World) (s : State) → first_site checks kind ≡ Some site
    → passes core (tests_of (Err kind) checks) part n w s ≡ halt (seen core) (FailedCheck site) n w s
first_fails core kind site [] part n w s h = let no : ⊥ = cc h in absurd no
first_fails core kind site (c ∷ cs) part n w s h =
    (elim (same_kind kind c.kind) as (λ b. (if b then Some c.site else first_site cs kind) ≡ Some site → (if not b then passes core (tests_of (Err kind) cs) part else halt (seen core) (FailedCheck c.site)) n w s ≡ Halted (FailedCheck site) w (seen core s))
    [ true ↦ λ e. (let k : c.site ≡ site = cc e in ap (λ j. Halted (FailedCheck j) w (seen core s)) k) | false ↦ λ e. first_fails core kind site cs part n w s e ]) h

pub first_covers : (kind : SiteKind) (site : ℕ) (checks : List Check) → first_site checks kind ≡ Some site → covered (Err kind) checks ≡ true
first_covers kind site [] h = let no : ⊥ = cc h in absurd no
first_covers kind site (c ∷ cs) h =
    (elim (same_kind kind c.kind) as (λ b. (if b then Some c.site else first_site cs kind) ≡ Some site → (b || list_any (λ d. same_kind kind d.kind) cs) ≡ true)
    [ true ↦ λ e. refl | false ↦ λ e. first_covers kind site cs e ]) h

pub none_covers : (kind : SiteKind) (checks : List Check) → first_site checks kind ≡ None → covered (Err kind) checks ≡ false
none_covers kind [] h = refl
none_covers kind (c ∷ cs) h =
    (elim (same_kind kind c.kind) as (λ b. (if b then Some c.site else first_site cs kind) ≡ None → (b || list_any (λ d. same_kind kind d.kind) cs) ≡ false)
    [ true ↦ λ e. (let no : ⊥ = cc e in absurd no) | false ↦ λ e. none_covers kind cs e ]) h

module _ (core : ModuleCore) (checks : List Check) (n : ℕ) (w : steps.World) (s : State) where
  pub answers_number : (answer : Answer) (v : ℤ) → answer ≡ Ok v → answering_by core checks answer n w s ≡ tick (give (Num v)) n w s
  answers_number answer v e = ap (λ a. answering_by core checks a n w s) e ∙ tick_same (passes core (tests_of (Ok v) checks) (give (Num v))) (give (Num v)) n w s (λ m. all_pass core v checks (give (Num v)) m w s)

  pub answers_failure : (answer : Answer) (kind : SiteKind) (site : ℕ) → answer ≡ Err kind → first_site checks kind ≡ Some site → answering_by core checks answer n w s ≡ tick (halt (seen core) (FailedCheck site)) n w s
  answers_failure answer kind site e h =
      ap (λ a. answering_by core checks a n w s) e
      ∙ ap (λ (b : Bool). (if b then tick (passes core (tests_of (Err kind) checks) (formless core)) else formless core) n w s) (first_covers kind site checks h)
      ∙ tick_same (passes core (tests_of (Err kind) checks) (formless core)) (halt (seen core) (FailedCheck site)) n w s (λ m. first_fails core kind site checks (formless core) m w s h)

  pub answers_nothing : (answer : Answer) (kind : SiteKind) → answer ≡ Err kind → first_site checks kind ≡ None → answering_by core checks answer n w s ≡ Halted (NoMeaning Dead) w (seen core s)
  answers_nothing answer kind e h =
      ap (λ a. answering_by core checks a n w s) e
      ∙ ap (λ (b : Bool). (if b then tick (passes core (tests_of (Err kind) checks) (formless core)) else formless core) n w s) (none_covers kind checks h)
