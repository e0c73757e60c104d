-- The answers of the steps of a command make up what the command comes to, and those of a call what the call promises.
use Rattle.std.proofs.Common.{◌≡◌, ℕ, ◌+◌, ◌<◌, ◌≤◌, ◌⊎◌, Bool, true, false, nat_lt, if◌then◌else◌, List, length, Some, None, Result, Ok, Err, refl, sym, ap, subst, inl, inr, arith}
use Rattle.iv_base.specs.Stores.{FileMap, text_of}
use Rattle.ivory_lexer.specs.Limits.{source_limit}
use Rattle.c_reader.specs.Answers.{text_limit}
use Rattle.module_text.specs.Verdicts.{Judged}
use Rattle.ivoryc.specs.declared.command.Command.{Command}
use Rattle.ivoryc.specs.declared.command.Command.TheVariants.{Emit, Check, Sites, Run, CRun, Big}
use Rattle.ivoryc.specs.declared.input_fault.InputFault.{InputFault}
use Rattle.ivoryc.specs.declared.input_fault.InputFault.TheVariants as input
use Rattle.ivoryc.specs.declared.refusal.Refusal.{Refusal}
use Rattle.ivoryc.specs.declared.refusal.Refusal.TheVariants as refusal
use Rattle.ivoryc.specs.declared.status.Status.{Status}
use Rattle.ivoryc.specs.declared.status.Status.TheVariants as status
use Rattle.ivoryc.specs.Commands.{command}
use Rattle.ivoryc.specs.Texts.{usage_line, read_fault_line, too_large_line}
use Rattle.ivoryc.specs.Causes.{status_of, line_of, answer_of}
use Rattle.ivoryc.specs.Calls.{StoreSeen, SinkSeen, Change, Call, Unchanged, Took, FailedAt, StandsUnder}
use Rattle.ivoryc.specs.Modules.{IsNoModule}
use Rattle.ivoryc.specs.Allowed.{Answer}
use Rattle.ivoryc.specs.ModuleAnswers.{Emits, Checks, ListsSites, Measures, not_compiled, not_checked, not_listed}
use Rattle.ivoryc.specs.RunAnswers.{RunsModule, RunsUnit}
use Rattle.ivoryc.specs.Answers.{Given, TooLongFor, text_long, script_long, too_large, emitted, checked, listed, ran, run_too_long, c_ran, c_too_long, measured}
use Rattle.ivoryc.specs.Promise.{ComesTo, IsCommand, Writes, Due, IsAnswered, files_named, files_due, two_due, Promise}
use Rattle.ivoryc.specs.Steps.{LoadsAtMost, IsWhole, IsTooLong, Loaded, LoadsFor, LoadsBoth, AreWhole, IsScriptTooLong, BothLoaded, Wrote, Does, ComesOver, Performed, Ran, Tells, Reported}
use Rattle.ivoryc.proofs.ModuleTexts.{no_form_where_long}
use Rattle.ivoryc.proofs.Answered.{LoadsWell, promise_from}

-- ---- from what came of texts to what the command comes to

wrote : (Is So : Answer → Type 0) (Done : List ℕ → Type 0) → ((a : Answer) → Is a → So a) → Wrote Is Done → Wrote So Done
wrote Is So Done so w = record { answer = w.answer; is = so w.answer w.is; bytes = w.bytes; allowed = w.allowed; done = w.done }

pub does : (asked : Command) (store : Change StoreSeen) (out : Change SinkSeen) (r : Result (Unit {0}) Refusal) (Is : Answer → Type 0)
    → ((a : Answer) → Is a → ComesOver store asked a) → Does Is out r → Performed asked store out r
does asked store out (Ok done) Is so w = wrote Is (ComesOver store asked) (Took out) so w
does asked store out (Err refusal.Words) Is so none = absurd none
does asked store out (Err refusal.ReadFault) Is so none = absurd none
does asked store out (Err refusal.WriteFault) Is so w = wrote Is (ComesOver store asked) (FailedAt out) so w
does asked store out (Err refusal.Memory) Is so same = same
does asked store out (Err (refusal.Input f)) Is so (is, same) = (so (answer_of f) is, same)

-- ---- commands of one file

pub one_load : (asked : Command) (store : Change StoreSeen) → files_named (Some asked) ≡ 1 → ((files : FileMap) → files_due files (Some asked) ≡ 1)
    → LoadsAtMost 1 store → LoadsFor asked store
one_load asked store named due most =
    record {
      most = record { loads = rw named most.loads; holds = most.holds; later = most.later };
      due = λ files told. rw (due files) most.loads;
    }

unloaded : (asked : Command) (file : List ℕ) (store : Change StoreSeen) (out : Change SinkSeen) (r : Refusal)
    → (IsTooLong file source_limit store → ComesOver store asked too_large) → Loaded file source_limit store (Err r) → Unchanged out → Performed asked store out (Err r)
unloaded asked file store out refusal.Words long loaded same = absurd loaded
unloaded asked file store out refusal.ReadFault long loaded same = (loaded, same)
unloaded asked file store out refusal.WriteFault long loaded same = absurd loaded
unloaded asked file store out refusal.Memory long loaded same = same
unloaded asked file store out (refusal.Input input.TooLarge) long loaded same = (long loaded, same)
unloaded asked file store out (refusal.Input (input.Module f)) long loaded same = absurd loaded
unloaded asked file store out (refusal.Input (input.Rule b)) long loaded same = absurd loaded
unloaded asked file store out (refusal.Input input.NotBuilt) long loaded same = absurd loaded
unloaded asked file store out (refusal.Input (input.CText f)) long loaded same = absurd loaded
unloaded asked file store out (refusal.Input (input.Script f)) long loaded same = absurd loaded

-- a text that is too long is that of no module
long_is_none : (file : List ℕ) (store : Change StoreSeen) (long : IsTooLong file source_limit store) → IsNoModule long.text status.TooLarge too_large_line
long_is_none file store long = IsNoModule.too_long (Judged.too_long long.long)

-- ---- `emit`

pub emit_unloaded : (file : List ℕ) (store : Change StoreSeen) (out : Change SinkSeen) (r : Refusal) → Loaded file source_limit store (Err r) → Unchanged out
    → Performed (Emit file) store out (Err r)
emit_unloaded file store out r =
    unloaded (Emit file) file store out r (λ long. emitted long.stands (not_compiled (no_form_where_long long.text long.long) (long_is_none file store long)))

pub emit_does : (file text seen : List ℕ) (store : Change StoreSeen) (out : Change SinkSeen) (r : Result (Unit {0}) Refusal) → IsWhole file source_limit store text
    → seen ≡ text → Does (Emits seen) out r → Performed (Emit file) store out r
emit_does file text seen store out r whole same d =
    let Over : List ℕ → Type 0 = λ t. Does (Emits t) out r in
    does (Emit file) store out r (Emits text) (λ a is. emitted whole.stands is) (subst Over same d)

-- ---- `check`

pub check_unloaded : (file : List ℕ) (store : Change StoreSeen) (out : Change SinkSeen) (r : Refusal) → Loaded file source_limit store (Err r) → Unchanged out
    → Performed (Check file) store out (Err r)
check_unloaded file store out r = unloaded (Check file) file store out r (λ long. checked long.stands (not_checked (long_is_none file store long)))

pub check_does : (file text seen : List ℕ) (store : Change StoreSeen) (out : Change SinkSeen) (r : Result (Unit {0}) Refusal) → IsWhole file source_limit store text
    → seen ≡ text → Does (Checks seen) out r → Performed (Check file) store out r
check_does file text seen store out r whole same d =
    let Over : List ℕ → Type 0 = λ t. Does (Checks t) out r in
    does (Check file) store out r (Checks text) (λ a is. checked whole.stands is) (subst Over same d)

-- ---- `sites`

pub sites_unloaded : (file : List ℕ) (store : Change StoreSeen) (out : Change SinkSeen) (r : Refusal) → Loaded file source_limit store (Err r) → Unchanged out
    → Performed (Sites file) store out (Err r)
sites_unloaded file store out r = unloaded (Sites file) file store out r (λ long. listed long.stands (not_listed (long_is_none file store long)))

pub sites_does : (file text seen : List ℕ) (store : Change StoreSeen) (out : Change SinkSeen) (r : Result (Unit {0}) Refusal) → IsWhole file source_limit store text
    → seen ≡ text → Does (ListsSites seen) out r → Performed (Sites file) store out r
sites_does file text seen store out r whole same d =
    let Over : List ℕ → Type 0 = λ t. Does (ListsSites t) out r in
    does (Sites file) store out r (ListsSites text) (λ a is. listed whole.stands is) (subst Over same d)

-- ---- commands of a file and a script

too_long_for : (file : List ℕ) (most : ℕ) (script : List ℕ) (store : Change StoreSeen) → IsTooLong file most store ⊎ IsScriptTooLong file most script store
    → TooLongFor (StandsUnder store.before.holds) file most script
too_long_for file most script store (inl long) = text_long long.stands long.long
too_long_for file most script store (inr long) = script_long long.whole.stands long.whole.short long.long.stands long.long.long

given : (file : List ℕ) (most : ℕ) (script text said : List ℕ) (store : Change StoreSeen) → AreWhole file most script store (text, said)
    → Given (StandsUnder store.before.holds) file most script text said
given file most script text said store whole =
    record { text_stands = whole.text_whole.stands; text_short = whole.text_whole.short; script_stands = whole.script_whole.stands; script_short = whole.script_whole.short }

both_unloaded : (asked : Command) (file : List ℕ) (most : ℕ) (script : List ℕ) (store : Change StoreSeen) (out : Change SinkSeen) (r : Refusal)
    → (TooLongFor (StandsUnder store.before.holds) file most script → ComesOver store asked too_large) → BothLoaded file most script store (Err r) → Unchanged out
    → Performed asked store out (Err r)
both_unloaded asked file most script store out refusal.Words long loaded same = absurd loaded
both_unloaded asked file most script store out refusal.ReadFault long loaded same = (loaded, same)
both_unloaded asked file most script store out refusal.WriteFault long loaded same = absurd loaded
both_unloaded asked file most script store out refusal.Memory long loaded same = same
both_unloaded asked file most script store out (refusal.Input input.TooLarge) long loaded same = (long (too_long_for file most script store loaded), same)
both_unloaded asked file most script store out (refusal.Input (input.Module f)) long loaded same = absurd loaded
both_unloaded asked file most script store out (refusal.Input (input.Rule b)) long loaded same = absurd loaded
both_unloaded asked file most script store out (refusal.Input input.NotBuilt) long loaded same = absurd loaded
both_unloaded asked file most script store out (refusal.Input (input.CText f)) long loaded same = absurd loaded
both_unloaded asked file most script store out (refusal.Input (input.Script f)) long loaded same = absurd loaded

due_of : (file : List ℕ) (most : ℕ) (files : FileMap) (x : Bool) → nat_lt most (length (text_of (files file))) ≡ x → (loads before : ℕ)
    → (most < length (text_of (files file)) → loads ≤ before + 1) → loads ≤ before + 2 → loads ≤ before + (if x then 1 else 2)
due_of file most files true is loads before one two = one (grind arith)
due_of file most files false is loads before one two = two

pub two_loads : (asked : Command) (file : List ℕ) (most : ℕ) (store : Change StoreSeen) → files_named (Some asked) ≡ 2
    → ((files : FileMap) → files_due files (Some asked) ≡ two_due files most file) → LoadsBoth file most store → LoadsFor asked store
two_loads asked file most store named due both =
    record {
      most = record { loads = rw named both.two.loads; holds = both.two.holds; later = both.two.later };
      due = λ files told.
          rw (due files) (due_of file most files (nat_lt most (length (text_of (files file)))) refl store.after.loads store.before.loads (both.due files told) both.two.loads);
    }

-- ---- `run`

pub run_unloaded : (file script : List ℕ) (n : ℕ) (store : Change StoreSeen) (out : Change SinkSeen) (r : Refusal)
    → BothLoaded file source_limit script store (Err r) → Unchanged out → Performed (Run file script n) store out (Err r)
run_unloaded file script n store out r = both_unloaded (Run file script n) file source_limit script store out r (λ long. run_too_long long)

pub run_does : (file script text said seen heard : List ℕ) (n : ℕ) (store : Change StoreSeen) (out : Change SinkSeen) (r : Result (Unit {0}) Refusal)
    → AreWhole file source_limit script store (text, said) → seen ≡ text → heard ≡ said → Does (RunsModule seen heard n) out r
    → Performed (Run file script n) store out r
run_does file script text said seen heard n store out r whole same alike d =
    let Over : List ℕ → Type 0 = λ t. Does (RunsModule t heard n) out r in
    let By : List ℕ → Type 0 = λ t. Does (RunsModule text t n) out r in
    does (Run file script n) store out r (RunsModule text said n) (λ a is. ran (given file source_limit script text said store whole) is) (subst By alike (subst Over same d))

-- ---- `crun`

pub crun_unloaded : (file script : List ℕ) (n : ℕ) (store : Change StoreSeen) (out : Change SinkSeen) (r : Refusal)
    → BothLoaded file text_limit script store (Err r) → Unchanged out → Performed (CRun file script n) store out (Err r)
crun_unloaded file script n store out r = both_unloaded (CRun file script n) file text_limit script store out r (λ long. c_too_long long)

pub crun_does : (file script text said seen heard : List ℕ) (n : ℕ) (store : Change StoreSeen) (out : Change SinkSeen) (r : Result (Unit {0}) Refusal)
    → AreWhole file text_limit script store (text, said) → seen ≡ text → heard ≡ said → Does (RunsUnit seen heard n) out r
    → Performed (CRun file script n) store out r
crun_does file script text said seen heard n store out r whole same alike d =
    let Over : List ℕ → Type 0 = λ t. Does (RunsUnit t heard n) out r in
    let By : List ℕ → Type 0 = λ t. Does (RunsUnit text t n) out r in
    does (CRun file script n) store out r (RunsUnit text said n) (λ a is. c_ran (given file text_limit script text said store whole) is) (subst By alike (subst Over same d))

-- ---- `big`

pub big_performed : (k : ℕ) (store : Change StoreSeen) (out : Change SinkSeen) (r : Result (Unit {0}) Refusal) → Does (Measures k) out r → Performed (Big k) store out r
big_performed k store out r = does (Big k) store out r (Measures k) (λ a is. measured is)

pub big_loads : (k : ℕ) (seen : StoreSeen) → LoadsFor (Big k) (record { before = seen; after = seen })
big_loads k seen = record { most = record { loads = omega arith; holds = refl; later = omega arith }; due = λ files told. omega arith }

-- ---- from a command's answer to the call's

-- how a call ends after its command
abbrev Ends : Result (Unit {0}) Refusal → Status → Change SinkSeen → Type 0
Ends (Ok done) s err = (s ≡ status.Done) × Unchanged err
Ends (Err r) s err = Reported r s err

answered : (c : Call) (s : Status) → c.status ≡ s → IsAnswered c s → IsAnswered c c.status
answered c s is answer = let Answered : Status → Type 0 = λ t. IsAnswered c t in subst Answered (sym is) answer

-- the status, and its line in `err`, where there was a cause
told : (c : Call) (line : List ℕ) (s : Status) → Due c line → Unchanged c.out → Tells line s c.status c.err → (Took c.err line → IsAnswered c s)
    → IsAnswered c c.status
told c line s due out (inl (is, took)) answer = answered c s is (answer took)
told c line s due out (inr (is, failed)) answer = answered c status.WriteFault is (inr (record { line = line; due = due; out = out; err = failed }))

none_answered : (c : Call) → command c.words ≡ None → Unchanged c.out → Reported refusal.Words c.status c.err → IsAnswered c c.status
none_answered c none out reported =
    told c usage_line status.Words (Due.words none) out reported (λ took. record { asked = none; out = out; err = took })

memory_answered : (c : Call) → Unchanged c.out → Reported refusal.Memory c.status c.err → IsAnswered c c.status
memory_answered c out (is, err) = answered c status.Memory is (record { out = out; err = err })

-- what is wrong with an input is answered with its status
input_where : (c : Call) (f : InputFault) → ComesTo c (answer_of f) → Unchanged c.out → Took c.err (line_of f) → IsAnswered c (status_of f)
input_where c input.TooLarge p out err = record { line = _; comes_to = p; out = out; err = err }
input_where c (input.Module f) p out err = record { line = _; comes_to = p; out = out; err = err }
input_where c (input.Rule b) p out err = record { line = _; comes_to = p; out = out; err = err }
input_where c input.NotBuilt p out err = record { line = _; comes_to = p; out = out; err = err }
input_where c (input.CText f) p out err = record { line = _; comes_to = p; out = out; err = err }
input_where c (input.Script f) p out err = record { line = _; comes_to = p; out = out; err = err }

writes : (c : Call) (asked : Command) (Done : List ℕ → Type 0) → command c.words ≡ Some asked → (w : Wrote (ComesOver c.store asked) Done) → Writes c w.bytes
writes c asked Done is w = record { answer = w.answer; comes_to = record { asked = asked; is = is; comes = w.is }; allowed = w.allowed }

command_answered : (c : Call) (r : Result (Unit {0}) Refusal) (asked : Command) → command c.words ≡ Some asked → Performed asked c.store c.out r
    → Ends r c.status c.err → IsAnswered c c.status
command_answered c (Ok done) asked is w (ends, err) =
    answered c status.Done ends (record { bytes = w.bytes; writes = writes c asked (Took c.out) is w; out = w.done; err = err })
command_answered c (Err refusal.Words) asked is w ends = absurd w
command_answered c (Err refusal.ReadFault) asked is (failed, out) ends =
    let known : IsCommand c = record { asked = asked; is = is } in
    told c read_fault_line status.ReadFault (Due.read_fault known failed) out ends
    (λ took. record { is_command = known; unread = failed; out = out; err = took })
command_answered c (Err refusal.WriteFault) asked is w (ends, err) =
    answered c status.WriteFault ends (inl (record { bytes = w.bytes; writes = writes c asked (FailedAt c.out) is w; out = w.done; err = err }))
command_answered c (Err refusal.Memory) asked is out ends = memory_answered c out ends
command_answered c (Err (refusal.Input f)) asked is (comes, out) ends =
    let p : ComesTo c (answer_of f) = record { asked = asked; is = is; comes = comes } in
    told c (line_of f) (status_of f) (Due.refused p) out ends (λ took. input_where c f p out took)

-- a store that nothing was asked of
unasked : (c : Call) → Unchanged c.store → LoadsWell c
unasked c same =
    let loads : c.store.after.loads ≡ c.store.before.loads = ap (λ s. s.loads) same in
    let faults : c.store.after.faults ≡ c.store.before.faults = ap (λ s. s.faults) same in
    record { loads = omega arith; due = λ files told. omega arith; holds = ap (λ s. s.holds) same; later = omega arith }

-- a store that was asked for the files of the command
asked_for : (c : Call) (asked : Command) → command c.words ≡ Some asked → LoadsFor asked c.store → LoadsWell c
asked_for c asked is for =
    record { loads = rw is for.most.loads; due = λ files told. rw is (for.due files told); holds = for.most.holds; later = for.most.later }

promised : (c : Call) (r : Result (Unit {0}) Refusal) → Ran c.words c.store c.out r → Ends r c.status c.err → Promise c
promised c r (Ran.no_command none store out) ends = promise_from c (none_answered c none out ends) (unasked c store)
promised c r (Ran.performed asked is loads performed) ends = promise_from c (command_answered c r asked is performed ends) (asked_for c asked is loads)
promised c r (Ran.no_memory store out) ends = promise_from c (memory_answered c out ends) (unasked c store)

pub promised_done : (c : Call) (r : Result (Unit {0}) Refusal) (done : Unit {0}) → r ≡ Ok done → Ran c.words c.store c.out r → c.status ≡ status.Done
    → Unchanged c.err → Promise c
promised_done c r done is run s err =
    let Runs : Result (Unit {0}) Refusal → Type 0 = λ t. Ran c.words c.store c.out t in
    promised c (Ok done) (subst Runs is run) (s, err)

pub promised_refused : (c : Call) (r : Result (Unit {0}) Refusal) (why : Refusal) → r ≡ Err why → Ran c.words c.store c.out r → Reported why c.status c.err
    → Promise c
promised_refused c r why is run reported =
    let Runs : Result (Unit {0}) Refusal → Type 0 = λ t. Ran c.words c.store c.out t in
    promised c (Err why) (subst Runs is run) reported
