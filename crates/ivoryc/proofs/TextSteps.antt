-- The answers of the steps from a text on make up what came of the text.
use Rattle.std.proofs.Common.{◌≡◌, ℕ, List, ◌++◌, length, map, Result, Ok, Err, refl, sym, ◌∙◌, ap, subst}
use Rattle.std.proofs.lemmas.List.{length-map}
use Rattle.run_records.specs.declared.Export.{Export}
use Rattle.run_records.specs.declared.Script.{Script}
use Rattle.iv_script.specs.declared.ScriptFault.{ScriptFault}
use Rattle.generated_module.specs.Generated.{generated}
use Rattle.core_tree.specs.Syntax.{ModuleCore}
use Rattle.core_tree.specs.Sites.{AreSites}
use Rattle.core_tree.specs.declared.Check.{Check}
use Rattle.contract_checks.specs.Sites.{check_of}
use Rattle.contract_checks.specs.declared.Site.{Site}
use Rattle.module_text.specs.Answers.{Refuses}
use Rattle.module_text.specs.Lines.{fault_line}
use Rattle.module_text.specs.declared.TextFault.{TextFault}
use Rattle.module_text.specs.declared.TextFault.TheVariants as text_fault
use Rattle.c_ast.specs.declared.CUnit.{CUnit}
use Rattle.c_ast.specs.declared.Target.TheVariants.{T32}
use Rattle.c_ast.specs.View.{unit_of}
use Rattle.c_text.specs.Spelling.{unit_text}
use Rattle.c_text.specs.ReadsBack.{ReadsBack}
use Rattle.c_grammar.proofs.Texts.{texts_apart}
use Rattle.ivoryc.specs.declared.c_fault.CTextFault.{CTextFault}
use Rattle.ivoryc.specs.declared.input_fault.InputFault.TheVariants as input
use Rattle.ivoryc.specs.declared.refusal.Refusal.{Refusal}
use Rattle.ivoryc.specs.declared.refusal.Refusal.TheVariants as refusal
use Rattle.ivoryc.specs.declared.status.Status.{Status}
use Rattle.ivoryc.specs.declared.status.Status.TheVariants as status
use Rattle.ivoryc.specs.Causes.{refusal_of_text, status_of, line_of, answer_of}
use Rattle.ivoryc.specs.Calls.{SinkSeen, Change, Unchanged}
use Rattle.ivoryc.specs.Texts.{size_text}
use Rattle.ivoryc.specs.Modules.{StandsFor, IsNoModule}
use Rattle.ivoryc.specs.Headline.{IsOfNoFirstForm, IsCompiled}
use Rattle.ivoryc.specs.Allowed as allowed
use Rattle.ivoryc.specs.Allowed.{Answer, Compiles, Gives, Allows}
use Rattle.ivoryc.specs.ModuleAnswers.{Emits, compiled, not_compiled, not_built, Measures, measured, not_measured, big_script, big_text}
use Rattle.ivoryc.specs.RunAnswers.{RunsBy, RunsUnit, c_at_fault, module_report}
use Rattle.ivoryc.specs.RunAnswers as runs
use Rattle.ivoryc.proofs.ModuleTexts.{no_form_where_too_long, no_form_where_faulty}
use Rattle.ivoryc.specs.Steps.{NoModule, IsUnitOf, NoUnit, IsScript, IsScriptFault, unread, unfit, ScriptFor, IsCFault, ReadC, Written, Does}

-- bytes that such an answer lets be written
pub written_does : (Is : Answer → Type 0) (out : Change SinkSeen) (a : Answer) (bytes : List ℕ) (r : Result (Unit {0}) Refusal) → Is a → Allows a bytes
    → Written bytes out r → Does Is out r
written_does Is out a bytes (Ok done) is lets took = record { answer = a; is = is; bytes = bytes; allowed = lets; done = took }
written_does Is out a bytes (Err refusal.Words) is lets none = absurd none
written_does Is out a bytes (Err refusal.ReadFault) is lets none = absurd none
written_does Is out a bytes (Err refusal.WriteFault) is lets failed = record { answer = a; is = is; bytes = bytes; allowed = lets; done = failed }
written_does Is out a bytes (Err refusal.Memory) is lets same = same
written_does Is out a bytes (Err (refusal.Input f)) is lets none = absurd none

-- ---- module texts

pub unread_is_none : (text : List ℕ) (f : TextFault) → Refuses text f → NoModule text (refusal_of_text f)
unread_is_none text text_fault.TooLarge long = IsNoModule.too_long long
unread_is_none text (text_fault.At f) faulty = IsNoModule.at_fault faulty
unread_is_none text text_fault.Memory none = tt

pub none_does : (Is : Answer → Type 0) (text : List ℕ) (out : Change SinkSeen) (r : Refusal) → ((s : Status) (line : List ℕ) → IsNoModule text s line → Is (allowed.Refuses s line))
    → NoModule text r → Unchanged out → Does Is out (Err r)
none_does Is text out refusal.Words so none same = absurd none
none_does Is text out refusal.ReadFault so none same = absurd none
none_does Is text out refusal.WriteFault so none same = absurd none
none_does Is text out refusal.Memory so none same = same
none_does Is text out (refusal.Input f) so none same = (so (status_of f) (line_of f) none, same)

-- ---- compilation

-- the unit's own text reads back as it
is_compiled : (text : List ℕ) (u : CUnit) → IsUnitOf text u → IsCompiled text (unit_text (unit_of u))
is_compiled text u is =
    let Reads : List ℕ → Type 0 = λ bytes. ReadsBack (unit_of u) bytes T32 in
    record {
      core = is.core;
      form = is.form;
      unit = unit_of u;
      reads_back = subst Reads is.compiled.reads_back.spelled.is is.compiled.reads_back;
      shape = is.compiled.shape;
      refines = is.compiled.refines;
      only = λ v spells. texts_apart v (unit_of u) (unit_text (unit_of u)) spells (record { in_subset = is.compiled.reads_back.spelled.in_subset; is = refl });
    }

-- no text is that of no module for want of a form
never_unbuilt : {A : Type 0} (text line : List ℕ) (s : Status) → s ≡ status.NotBuilt → IsNoModule text s line → A
never_unbuilt text line s is (IsNoModule.too_long long) = let no : ⊥ = cc in absurd no
never_unbuilt text line s is (IsNoModule.at_fault faulty) = let no : ⊥ = cc in absurd no
never_unbuilt text line s is (IsNoModule.broken b) = let no : ⊥ = cc in absurd no

pub no_unit_where_none : (text : List ℕ) (r : Refusal) → IsOfNoFirstForm text → NoModule text r → NoUnit text r
no_unit_where_none text refusal.Words none not = not
no_unit_where_none text refusal.ReadFault none not = not
no_unit_where_none text refusal.WriteFault none not = not
no_unit_where_none text refusal.Memory none not = not
no_unit_where_none text (refusal.Input input.TooLarge) none not = (none, not)
no_unit_where_none text (refusal.Input (input.Module f)) none not = (none, not)
no_unit_where_none text (refusal.Input (input.Rule b)) none not = (none, not)
no_unit_where_none text (refusal.Input input.NotBuilt) none not = never_unbuilt text _ _ refl not
no_unit_where_none text (refusal.Input (input.CText f)) none not = (none, not)
no_unit_where_none text (refusal.Input (input.Script f)) none not = (none, not)

pub compiled_does : (text : List ℕ) (out : Change SinkSeen) (u : CUnit) (r : Result (Unit {0}) Refusal) → IsUnitOf text u → Written (unit_text (unit_of u)) out r
    → Does (Emits text) out r
compiled_does text out u r unit done = written_does (Emits text) out (Compiles text) (unit_text (unit_of u)) r (compiled unit.form) (is_compiled text u unit) done

pub unread_is_no_unit : (text : List ℕ) (f : TextFault) → Refuses text f → NoUnit text (refusal_of_text f)
unread_is_no_unit text text_fault.TooLarge long = (no_form_where_too_long text long, IsNoModule.too_long long)
unread_is_no_unit text (text_fault.At f) faulty = (no_form_where_faulty text (fault_line f) faulty, IsNoModule.at_fault faulty)
unread_is_no_unit text text_fault.Memory none = tt

pub no_unit_does : (text : List ℕ) (out : Change SinkSeen) (r : Refusal) → NoUnit text r → Unchanged out → Does (Emits text) out (Err r)
no_unit_does text out refusal.Words none same = absurd none
no_unit_does text out refusal.ReadFault none same = absurd none
no_unit_does text out refusal.WriteFault none same = absurd none
no_unit_does text out refusal.Memory none same = same
no_unit_does text out (refusal.Input input.TooLarge) none same = (not_compiled none.0 none.1, same)
no_unit_does text out (refusal.Input (input.Module f)) none same = (not_compiled none.0 none.1, same)
no_unit_does text out (refusal.Input (input.Rule b)) none same = (not_compiled none.0 none.1, same)
no_unit_does text out (refusal.Input input.NotBuilt) none same = (not_built none, same)
no_unit_does text out (refusal.Input (input.CText f)) none same = (not_compiled none.0 none.1, same)
no_unit_does text out (refusal.Input (input.Script f)) none same = (not_compiled none.0 none.1, same)

-- ---- generated modules

pub big_none_does : (k : ℕ) (seen : List ℕ) (out : Change SinkSeen) (r : Refusal) → seen ≡ generated k → NoModule seen r → Unchanged out
    → Does (Measures k) out (Err r)
big_none_does k seen out r same none =
    let Over : List ℕ → Type 0 = λ t. NoModule t r in
    none_does (Measures k) (generated k) out r (λ s line not. not_measured not) (subst Over same none)

pub big_does : (k : ℕ) (text seen report bytes : List ℕ) (core : ModuleCore) (sites : List Site) (out : Change SinkSeen) (r : Result (Unit {0}) Refusal)
    → text ≡ generated k → seen ≡ text → StandsFor seen core → AreSites core (map check_of sites) → bytes ≡ size_text k (length text) (length sites) ++ report
    → report ≡ module_report core 100000 big_script → Written bytes out r → Does (Measures k) out r
big_does k text seen report bytes core sites out r is same stands are sized reported done =
    let Over : List ℕ → Type 0 = λ t. StandsFor t core in
    let checks : List Check = map check_of sites in
    let count : length sites ≡ length checks = sym (length-map sites check_of) in
    let whole : bytes ≡ big_text k core checks =
    sized ∙ ap (λ t. size_text k (length t) (length sites) ++ report) is ∙ ap (λ n. size_text k (length (generated k)) n ++ report) count
    ∙ ap (λ t. size_text k (length (generated k)) (length checks) ++ t) reported in
    written_does (Measures k) out (Gives (big_text k core checks)) bytes r (measured (subst Over (same ∙ is) stands) are) whole done

-- ---- scripts

script_fault : (exports : List Export) (reported : Script → List ℕ) (said : List ℕ) (f : ScriptFault) → IsScriptFault exports said f
    → RunsBy exports reported said (answer_of (input.Script f))
script_fault exports reported said f (unread says) = runs.unread says
script_fault exports reported said f (unfit says not) = runs.unfit says not

pub script_does : (Is : Answer → Type 0) (exports : List Export) (reported : Script → List ℕ) (said : List ℕ) (out : Change SinkSeen) (r : Refusal)
    → ((a : Answer) → RunsBy exports reported said a → Is a) → ScriptFor exports said (Err r) → Unchanged out → Does Is out (Err r)
script_does Is exports reported said out refusal.Words so none same = absurd none
script_does Is exports reported said out refusal.ReadFault so none same = absurd none
script_does Is exports reported said out refusal.WriteFault so none same = absurd none
script_does Is exports reported said out refusal.Memory so none same = same
script_does Is exports reported said out (refusal.Input input.TooLarge) so none same = absurd none
script_does Is exports reported said out (refusal.Input (input.Module f)) so none same = absurd none
script_does Is exports reported said out (refusal.Input (input.Rule b)) so none same = absurd none
script_does Is exports reported said out (refusal.Input input.NotBuilt) so none same = absurd none
script_does Is exports reported said out (refusal.Input (input.CText f)) so none same = absurd none
script_does Is exports reported said out (refusal.Input (input.Script f)) so fault same = (so (answer_of (input.Script f)) (script_fault exports reported said f fault), same)

pub run_written : (Is : Answer → Type 0) (exports : List Export) (reported : Script → List ℕ) (said : List ℕ) (out : Change SinkSeen) (s : Script)
    (r : Result (Unit {0}) Refusal) → ((a : Answer) → RunsBy exports reported said a → Is a) → IsScript exports said s → Written (reported s) out r → Does Is out r
run_written Is exports reported said out s r so script done =
    written_does Is out (Gives (reported s)) (reported s) r (so (Gives (reported s)) (runs.fitting script.says script.fits)) refl done

-- ---- C texts

c_faulty : (text said : List ℕ) (n : ℕ) (f : CTextFault) → IsCFault text f → RunsUnit text said n (answer_of (input.CText f))
c_faulty text said n f is =
    let Told : CTextFault → Type 0 = λ g. RunsUnit text said n (answer_of (input.CText g)) in
    subst Told (sym is.at) (c_at_fault is.fault is.is)

pub c_unread_does : (text said : List ℕ) (n : ℕ) (out : Change SinkSeen) (r : Refusal) → ReadC text (Err r) → Unchanged out → Does (RunsUnit text said n) out (Err r)
c_unread_does text said n out refusal.Words none same = absurd none
c_unread_does text said n out refusal.ReadFault none same = absurd none
c_unread_does text said n out refusal.WriteFault none same = absurd none
c_unread_does text said n out refusal.Memory none same = same
c_unread_does text said n out (refusal.Input input.TooLarge) none same = absurd none
c_unread_does text said n out (refusal.Input (input.Module f)) none same = absurd none
c_unread_does text said n out (refusal.Input (input.Rule b)) none same = absurd none
c_unread_does text said n out (refusal.Input input.NotBuilt) none same = absurd none
c_unread_does text said n out (refusal.Input (input.CText f)) fault same = (c_faulty text said n f fault, same)
c_unread_does text said n out (refusal.Input (input.Script f)) none same = absurd none
