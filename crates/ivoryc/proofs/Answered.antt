-- From why a status was answered to which status must be answered: over a store that tells what it holds, the words and the texts leave
-- one answer where nothing failed, or want of memory.
use Rattle.std.proofs.Common.{◌≡◌, ℕ, ◌+◌, ◌≤◌, ◌⊎◌, List, Option, Some, None, refl, sym, ◌∙◌, ap, subst, inl, inr}
use Rattle.iv_base.specs.Stores.{FileMap}
use Rattle.ivoryc.specs.declared.command.Command.{Command}
use Rattle.ivoryc.specs.declared.status.Status.{Status}
use Rattle.ivoryc.specs.declared.status.Status.TheVariants as status
use Rattle.ivoryc.specs.Commands.{command}
use Rattle.ivoryc.specs.Calls.{Call, StandsUnder, Unread, Unwritten}
use Rattle.ivoryc.specs.Allowed.{Answer, Compiles, Gives, Refuses, Allows, status_of}
use Rattle.ivoryc.specs.Answers.{Comes}
use Rattle.ivoryc.specs.Promise.{ComesTo, Writes, Due, IsAnswered, IsTold, output_for, files_named, files_due, Promise}
use Rattle.ivoryc.proofs.Once.{comes_to_once}

-- this status, or want of memory
abbrev ThisOrMemory : Status → Status → Type 0
ThisOrMemory wanted s = (s ≡ wanted) ⊎ (s ≡ status.Memory)

none_or_some : {A : Type 0} (o : Option Command) (c : Command) → o ≡ None → o ≡ Some c → A
none_or_some o c none some = cc

-- ---- no command

words_where : (c : Call) (s : Status) → IsAnswered c s → command c.words ≡ None → ¬ Unwritten c.err → ThisOrMemory status.Words s
words_where c status.Done w none written = none_or_some _ _ none w.writes.comes_to.is
words_where c status.Refused w none written = none_or_some _ _ none w.comes_to.is
words_where c status.Words w none written = inl refl
words_where c status.ReadFault w none written = none_or_some _ _ none w.is_command.is
words_where c status.WriteFault (inl w) none written = none_or_some _ _ none w.writes.comes_to.is
words_where c status.WriteFault (inr w) none written = absurd (written w.err.unwritten)
words_where c status.Memory w none written = inr refl
words_where c status.TooLarge w none written = none_or_some _ _ none w.comes_to.is
words_where c status.Script w none written = none_or_some _ _ none w.comes_to.is
words_where c status.NotBuilt w none written = none_or_some _ _ none w.comes_to.is

-- ---- a command

-- it comes to one answer
one_answer : (c : Call) (a b : Answer) → IsTold c.store.before → ComesTo c a → ComesTo c b → b ≡ a
one_answer c a b told p q =
    let asked : q.asked ≡ p.asked = cc in
    let Comes_ : Command → Type 0 = λ x. Comes (StandsUnder c.store.before.holds) x b in
    comes_to_once c.store.before.holds told.files told.holds p.asked b a (subst Comes_ asked q.comes) p.comes

refused_where : (c : Call) (a : Answer) (s : Status) (line : List ℕ) → IsTold c.store.before → ComesTo c a → ComesTo c (Refuses s line)
    → ThisOrMemory (status_of a) s
refused_where c a s line told p q = inl (ap status_of (one_answer c a (Refuses s line) told p q))

-- what is written comes of an answer that goes to `out`
written_where : (a : Answer) (bytes : List ℕ) → Allows a bytes → status.Done ≡ status_of a
written_where (Compiles text) bytes allowed = refl
written_where (Gives given) bytes allowed = refl
written_where (Refuses s line) bytes allowed = absurd allowed

out_where : (c : Call) (a : Answer) (bytes : List ℕ) → Allows a bytes → output_for c a ≡ c.out
out_where c (Compiles text) bytes allowed = refl
out_where c (Gives given) bytes allowed = refl
out_where c (Refuses s line) bytes allowed = absurd allowed

done_where : (c : Call) (a : Answer) (bytes : List ℕ) → IsTold c.store.before → ComesTo c a → Writes c bytes → status.Done ≡ status_of a
done_where c a bytes told p w = written_where w.answer bytes w.allowed ∙ ap status_of (one_answer c a w.answer told p w.comes_to)

unwritten_out : (c : Call) (a : Answer) (bytes : List ℕ) → IsTold c.store.before → ComesTo c a → Writes c bytes → Unwritten c.out → Unwritten (output_for c a)
unwritten_out c a bytes told p w failed =
    let out : output_for c a ≡ c.out = sym (ap (output_for c) (one_answer c a w.answer told p w.comes_to)) ∙ out_where c w.answer bytes w.allowed in
    subst Unwritten (sym out) failed

unwritten_err : (c : Call) (a : Answer) (line : List ℕ) → IsTold c.store.before → ComesTo c a → ¬ Unread c.store → Due c line → Unwritten c.err
    → Unwritten (output_for c a)
unwritten_err c a line told p read (Due.words none) failed = none_or_some _ _ none p.is
unwritten_err c a line told p read (Due.read_fault is unread) failed = absurd (read unread)
unwritten_err c a line told p read (Due.refused {s = s} q) failed = subst Unwritten (ap (output_for c) (one_answer c a (Refuses s line) told p q)) failed

status_where : (c : Call) (s : Status) (a : Answer) → IsAnswered c s → ComesTo c a → IsTold c.store.before → ¬ Unread c.store
    → ¬ Unwritten (output_for c a) → ThisOrMemory (status_of a) s
status_where c status.Done a w p told read written = inl (done_where c a w.bytes told p w.writes)
status_where c status.Refused a w p told read written = refused_where c a status.Refused w.line told p w.comes_to
status_where c status.Words a w p told read written = none_or_some _ _ w.asked p.is
status_where c status.ReadFault a w p told read written = absurd (read w.unread)
status_where c status.WriteFault a (inl w) p told read written = absurd (written (unwritten_out c a w.bytes told p w.writes w.out.unwritten))
status_where c status.WriteFault a (inr w) p told read written = absurd (written (unwritten_err c a w.line told p read w.due w.err.unwritten))
status_where c status.Memory a w p told read written = inr refl
status_where c status.TooLarge a w p told read written = refused_where c a status.TooLarge w.line told p w.comes_to
status_where c status.Script a w p told read written = refused_where c a status.Script w.line told p w.comes_to
status_where c status.NotBuilt a w p told read written = refused_where c a status.NotBuilt w.line told p w.comes_to

-- the loads of a call
pub record LoadsWell (c : Call) : Type 0 where
  pub loads : c.store.after.loads ≤ c.store.before.loads + files_named (command c.words)
  pub due : (files : FileMap) → c.store.before.holds ≡ Some files → c.store.after.loads ≤ c.store.before.loads + files_due files (command c.words)
  pub holds : c.store.after.holds ≡ c.store.before.holds
  pub later : c.store.before.faults ≤ c.store.after.faults

pub promise_from : (c : Call) → IsAnswered c c.status → LoadsWell c → Promise c
promise_from c answer well =
    record {
      answer = answer;
      no_command = λ none written. words_where c c.status answer none written;
      complete = λ a p told read written. status_where c c.status a answer p told read written;
      loads = well.loads;
      loads_due = well.due;
      holds = well.holds;
      later = well.later;
    }
