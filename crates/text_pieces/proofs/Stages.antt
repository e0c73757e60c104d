-- One text after another on their way into a sink.
use Rattle.std.proofs.Common.{◌≡◌, refl, sym, ◌∙◌, ap, subst, ℕ, ◌+◌, ◌≤◌, Bool, true, false, List, [], ◌++◌, length, append_assoc, length-append, inl, inr, arith}
use Rattle.std.specs.Prelude.{Result, Ok, Err, is_err, OnOk, OnErr}
use Rattle.std.proofs.lemmas.List.{append-nil}
use Rattle.iv_base.specs.Counts.{capped, last, Rose}
use Rattle.iv_base.specs.Sinks.{grown, GrewByPrefix}
use Rattle.iv_base.proofs.Prefixes.{grown_grown, part_of_first}
use Rattle.text_pieces.specs.Stages.{Stage, WentOn, Refused, LeftAlone, Puts}

-- what was added by both, and what waits
both_whole : (first second waits rest before a b : List ℕ) → first ++ waits ≡ before ++ a → second ++ rest ≡ waits ++ b → (first ++ second) ++ rest ≡ before ++ (a ++ b)
both_whole first second waits rest before a b one two =
    append_assoc first second rest ∙ ap (λ x. first ++ x) two ∙ sym (append_assoc first waits b) ∙ ap (λ x. x ++ b) one ∙ append_assoc before a b

capped_both : (start middle waits before a b : ℕ) → capped (middle + waits) ≡ capped (start + (before + a)) → capped (middle + (waits + b)) ≡ capped (start + (before + (a + b)))
capped_both start middle waits before a b same = omega arith

counts_both : (s m : Stage) (a b : List ℕ) → WentOn s m a → capped (m.taken + length (m.waiting ++ b)) ≡ capped (s.taken + length (s.waiting ++ (a ++ b)))
counts_both s m a b first =
    let same : capped (m.taken + length m.waiting) ≡ capped (s.taken + (length s.waiting + length a)) = simp length-append at first.counts in
    simp length-append (capped_both s.taken m.taken (length m.waiting) (length s.waiting) (length a) (length b) same)

went_on_both : (s m e : Stage) (a b : List ℕ) → WentOn s m a → WentOn m e b → WentOn s e (a ++ b)
went_on_both s m e a b first second = record {
  added = first.added ++ second.added;
  whole = both_whole first.added second.added m.waiting e.waiting s.waiting a b first.whole second.whole;
  holds = second.holds ∙ ap (λ h. grown h second.added) first.holds ∙ grown_grown s.held first.added second.added;
  counts = second.counts ∙ counts_both s m a b first;
}

-- the sink refused the second text

rose_later : (before between now : ℕ) → before ≤ between → Rose between now → Rose before now
rose_later before between now less (inl more) = inl (omega arith)
rose_later before between now less (inr still) = inr still

refused_second : (s m e : Stage) (a b : List ℕ) → s.faults ≤ m.faults → WentOn s m a → Refused m e b → Refused s e (a ++ b)
refused_second s m e a b less first second = record {
  part = record {
    added = first.added ++ second.part.added;
    rest = second.part.rest;
    whole = both_whole first.added second.part.added m.waiting second.part.rest s.waiting a b first.whole second.part.whole;
    holds = second.part.holds ∙ ap (λ h. grown h second.part.added) first.holds ∙ grown_grown s.held first.added second.part.added;
  };
  rose = rose_later s.faults m.faults e.faults less second.rose;
}

-- it refused the first, and was then left alone
refused_first : (s m e : Stage) (a b : List ℕ) → Refused s m a → LeftAlone m e → Refused s e (a ++ b)
refused_first s m e a b first after = record {
  part = subst (λ h. GrewByPrefix s.held h (s.waiting ++ (a ++ b))) (sym after.same_held)
      (subst (GrewByPrefix s.held m.held) (append_assoc s.waiting a b) (part_of_first s.held m.held (s.waiting ++ a) b first.part));
  rose = subst (Rose s.faults) (sym after.same_faults) first.rose;
}

alone_both : (s m e : Stage) → LeftAlone s m → LeftAlone m e → LeftAlone s e
alone_both s m e first second = record {
  still = second.still;
  same_held = second.same_held ∙ first.same_held;
  same_faults = second.same_faults ∙ first.same_faults;
}

refused_both : (s m e : Stage) (a b : List ℕ) (refused : Bool) → m.refused ≡ refused → Puts s m a → Puts m e b → s.refused ≡ false → e.refused ≡ true → Refused s e (a ++ b)
refused_both s m e a b true is first second fine bad = refused_first s m e a b (first.part fine is) (second.alone is)
refused_both s m e a b false is first second fine bad = refused_second s m e a b first.later (first.whole fine is) (second.part is bad)

whole_both : (s m e : Stage) (a b : List ℕ) (refused : Bool) → m.refused ≡ refused → Puts s m a → Puts m e b → s.refused ≡ false → e.refused ≡ false → WentOn s e (a ++ b)
whole_both s m e a b true is first second fine good = let bad : e.refused ≡ true = (second.alone is).still in cc
whole_both s m e a b false is first second fine good = went_on_both s m e a b (first.whole fine is) (second.whole is good)

-- two texts
pub then : {s m e : Stage} {a b : List ℕ} → Puts s m a → Puts m e b → Puts s e (a ++ b)
then {s} {m} {e} {a} {b} first second = record {
  same_sink = second.same_sink ∙ first.same_sink;
  later = omega (arith, first.later, second.later);
  alone = λ bad. alone_both s m e (first.alone bad) (second.alone (first.alone bad).still);
  whole = whole_both s m e a b m.refused refl first second;
  part = refused_both s m e a b m.refused refl first second;
}

-- the same text in other words
pub as_text : {s e : Stage} {a b : List ℕ} → a ≡ b → Puts s e a → Puts s e b
as_text {s} {e} same puts = subst (Puts s e) same puts

-- what an answer says once nothing waits any more
pub record Arrived {T E : Type 0} (before now : Stage) (text : List ℕ) (answer : Result T E) : Type 0 where
  pub held : OnOk answer (now.held ≡ grown before.held text)
  pub taken : OnOk answer (now.taken ≡ capped (before.taken + length text))
  pub part : OnErr answer (GrewByPrefix before.held now.held text)

on_ok : {T E P : Type 0} (answer : Result T E) (refused : Bool) → is_err answer ≡ refused → (refused ≡ false → P) → OnOk answer P
on_ok (Ok x) refused is holds = holds (sym is)
on_ok (Err x) refused is holds = tt

on_err : {T E P : Type 0} (answer : Result T E) (refused : Bool) → is_err answer ≡ refused → (refused ≡ true → P) → OnErr answer P
on_err (Ok x) refused is holds = tt
on_err (Err x) refused is holds = holds (sym is)

capped_small : (n m : ℕ) → n ≤ last → capped (n + 0) ≡ capped m → n ≡ capped m
capped_small n m small same = omega arith

went_whole : (s e : Stage) (text : List ℕ) → s.waiting ≡ [] → e.waiting ≡ [] → WentOn s e text → e.held ≡ grown s.held text
went_whole s e text none gone went =
    went.holds ∙ ap (grown s.held) (sym (append-nil went.added) ∙ ap (λ w. went.added ++ w) (sym gone) ∙ went.whole ∙ ap (λ w. w ++ text) none)

counted_whole : (s e : Stage) (text : List ℕ) → s.waiting ≡ [] → e.waiting ≡ [] → e.taken ≤ last → WentOn s e text → e.taken ≡ capped (s.taken + length text)
counted_whole s e text none gone small went =
    capped_small e.taken (s.taken + length text) small
    (ap (λ w. capped (e.taken + length w)) (sym gone) ∙ went.counts ∙ ap (λ w. capped (s.taken + length (w ++ text))) none)

-- a text that begins with nothing waiting, and the put of what waits in the end
pub arrived : {T E : Type 0} {start s m e : Stage} {text : List ℕ} (answer : Result T E) → start.waiting ≡ [] → start.refused ≡ false → s ≡ start → Puts s m text → Puts m e []
    → e.waiting ≡ [] → (e.refused ≡ false → e.taken ≤ last) → is_err answer ≡ e.refused → Arrived start e text answer
arrived {T} {E} {start} {s} {m} {e} {text} answer none fine begins puts ends gone counted is =
    let all : Puts start e text = as_text (append-nil text) (then (subst (λ x. Puts x m text) begins puts) ends) in
    record {
      held = on_ok answer e.refused is (λ good. went_whole start e text none gone (all.whole fine good));
      taken = on_ok answer e.refused is (λ good. counted_whole start e text none gone (counted good) (all.whole fine good));
      part = on_err answer e.refused is (λ bad. subst (λ w. GrewByPrefix start.held e.held (w ++ text)) none (all.part fine bad).part);
    }
