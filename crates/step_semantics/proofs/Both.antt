-- From a part that follows another to both directions: the second refines the first.
use Rattle.std.proofs.Common.{◌≡◌, ◌≢◌, ℕ, Bool, true, false, ◌+◌, ◌*◌, List, refl, sym, ◌∙◌, ap, subst, arith, max}
use Rattle.std.specs.Prelude.{IsTrue}
use Rattle.run_records.specs.declared.AreaCells.{AreaCells}
use Rattle.run_records.specs.declared.End.TheVariants.{Ended, Going, Stopped, Undefined}
use Rattle.run_records.specs.declared.Outcome.{Outcome}
use Rattle.run_records.specs.declared.Reason.{Reason}
use Rattle.step_semantics.specs.Steps.{World, Halt, FailedCheck, MissingReply, UnfitReply, NoMeaning, Progress, Finished, Halted, Exhausted, Part}
use Rattle.step_semantics.specs.Runs.{outcome}
use Rattle.step_semantics.specs.Lawful.{Prefix, Lawful}
use Rattle.step_semantics.specs.Safe.{NeverUndefined, NeverFailsAt}
use Rattle.step_semantics.specs.Follows.{Ends, Owed, Follows}
use Rattle.step_semantics.specs.Refines.{Meets, Refines}
use Rattle.step_semantics.specs.Outcomes.{OutcomeLaws}
use Rattle.step_semantics.proofs.Ends.{halt_is_over}
use Rattle.step_semantics.proofs.RunLaws.{part_outcomes}

-- where each outcome of the source is met
pub refines_where_met : (source target : ℕ → Outcome) → OutcomeLaws target → NeverUndefined source → ((n : ℕ) → Meets target n (source n)) → Refines source target
refines_where_met source target l defined m =
    let back : (n : ℕ) → (target n).end ≢ Going → source n ≡ target n = λ n over. sym (m n).is ∙ l.ends_stay n (m n).steps (m n).many over in
    record {
      within = λ n. subst (λ o. Prefix (target n).events o.events) (m n).is (l.events_grow n (m n).steps (m n).many);
      reaches = λ n. subst (λ o. Prefix o.events (target (16 * n + 16)).events) (m n).is (l.events_grow (m n).steps (16 * n + 16) (m n).few);
      ends = λ n over. l.ends_stay (m n).steps (16 * n + 16) (m n).few (λ e. over (ap (λ o. o.end) (sym (m n).is) ∙ e)) ∙ (m n).is;
      ends_only = back;
      defined = λ n reason e.
          let over : (target n).end ≢ Going = λ g. let q : Going ≡ Undefined reason = sym g ∙ e in absurd (cc) in
          defined n reason (ap (λ o. o.end) (back n over) ∙ e);
    }

module _ {S T A B : Type 0} (excused : ℕ → Bool) (see : S → List AreaCells) (see' : T → List AreaCells) (post : A → S → B → T → Type 0) (alike : (a : A) (s : S) (b : B) (t : T) → post a s b t → see s ≡ see' t) (part : Part S A) (part' : Part T B) (lawful : Lawful part') (w : World) (s : S) (t : T) where
  abbrev source : ℕ → Outcome
  source n = outcome see (part n w s)

  abbrev target : ℕ → Outcome
  target n = outcome see' (part' n w t)

  met_end : (n : ℕ) (how : Halt) (v : World) (seen : List AreaCells) → Ends 16 n how v seen (λ j. part' j w t) → Meets target n (outcome {A = A} see (Halted how v seen))
  met_end n how v seen h =
      let f : target h.steps ≡ outcome {A = B} see' (Halted how v seen) = ap (outcome see') h.is in
      let over : (target h.steps).end ≢ Going = λ e. halt_is_over how (sym (ap (λ o. o.end) f) ∙ e) in
      record { steps = max n h.steps; many = omega arith; few = omega (arith, h.few); is = (part_outcomes see' part' lawful w t).ends_stay h.steps (max n h.steps) (omega arith) over ∙ f }

  -- what is owed, where it is not excused
  owed_met : (b : Bool) (P Q : Type 0) → (IsTrue b → ⊥) → (P → Q) → Owed b P → Q
  owed_met true P Q kept f h = absurd (kept refl)
  owed_met false P Q kept f h = f h

  met : (n y : ℕ) (r : Progress S A) → ((reason : Reason) → (outcome see r).end ≢ Undefined reason) → ((site : ℕ) → IsTrue (excused site) → (outcome see r).end ≢ Stopped site) → Follows excused post 16 y n r (λ j. part' j w t) → Meets target n (outcome see r)
  met n y (Finished a v u m) defined unfailed h =
      let b = h.leads.by m in
      let e : see u ≡ see' h.state = alike a u h.value h.state h.holds in
      record {
        steps = b.0;
        many = omega (arith, b.1);
        few = omega (arith, b.2);
        is = ap (outcome see') b.3 ∙ ap (λ l. let o : Outcome = record { events = v.events; end = Ended; areas = l } in o) (sym e);
      }
  met n y (Halted (NoMeaning reason) v seen) defined unfailed h = absurd (defined reason refl)
  met n y (Halted (FailedCheck site) v seen) defined unfailed h =
      owed_met (excused site) (Ends 16 n (FailedCheck site) v seen (λ j. part' j w t)) (Meets target n (outcome {A = A} see (Halted (FailedCheck site) v seen))) (λ e. unfailed site e refl) (met_end n (FailedCheck site) v seen) h
  met n y (Halted MissingReply v seen) defined unfailed h = met_end n MissingReply v seen h
  met n y (Halted UnfitReply v seen) defined unfailed h = met_end n UnfitReply v seen h
  met n y (Exhausted v) defined unfailed h = record { steps = h.steps; many = h.many; few = h.few; is = ap (outcome see') h.is }

  pub part_refines : (y : ℕ) → NeverUndefined source → NeverFailsAt excused source → ((n : ℕ) → Follows excused post 16 y n (part n w s) (λ j. part' j w t)) → Refines source target
  part_refines y defined unfailed h = refines_where_met source target (part_outcomes see' part' lawful w t) defined (λ n. met n y (part n w s) (defined n) (unfailed n) (h n))
