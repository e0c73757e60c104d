-- Over the texts that stand under the names of its files, a command comes to one answer.
use Rattle.std.proofs.Common.{◌≡◌, ℕ, ◌<◌, ◌≤◌, List, length, Option, Some, Result, Ok, Err, refl, sym, ◌∙◌, ap, subst, arith}
use Rattle.std.specs.Prelude.{IsOk}
use Rattle.iv_base.specs.Stores.{FileMap}
use Rattle.iv_words.specs.declared.Span.{Span}
use Rattle.run_records.specs.declared.Export.{Export}
use Rattle.run_records.specs.declared.Script.{Script}
use Rattle.iv_script.specs.Fit.{fit_of}
use Rattle.iv_script.specs.ScriptText.{script_limit, script_of}
use Rattle.iv_script.specs.declared.ScriptFault.{ScriptFault}
use Rattle.iv_script.proofs.Fitting.{fits_where_ok}
use Rattle.generated_module.specs.Generated.{generated}
use Rattle.ivory_lexer.specs.Limits.{source_limit}
use Rattle.ivory_tree.specs.View.{module_of}
use Rattle.ivory_tree.specs.declared.Module.{Module}
use Rattle.module_text.specs.Verdicts.{Verdict, TooLong, Faulty, Reads, Judged}
use Rattle.module_text.proofs.Verdicts.{judged_once}
use Rattle.module_text.proofs.Trees.{of_text}
use Rattle.first_form.specs.declared.FirstModule.{FirstModule}
use Rattle.core_tree.specs.Syntax.{ModuleCore}
use Rattle.core_tree.specs.Exports.{exports_of}
use Rattle.core_tree.specs.Sites.{AreSites}
use Rattle.core_tree.specs.declared.Check.{Check}
use Rattle.core_tree.specs.Checks.{checks_of}
use Rattle.core_tree.proofs.Sites.{sites_are_one_row}
use Rattle.rule_faults.specs.FirstFault.{FirstFault}
use Rattle.rule_faults.proofs.Found.{unique_law}
use Rattle.typing_rules.specs.WellTyped.{Stands, WellTyped}
use Rattle.typing_laws.proofs.ExactlyOne.{exactly_one}
use Rattle.typing_laws.proofs.OneCore.{one_core as core_once}
use Rattle.c_ast.specs.declared.Target.TheVariants.{T32}
use Rattle.c_ast.specs.Exports.{c_exports}
use Rattle.c_reader.specs.Answers.{text_limit}
use Rattle.c_reader.proofs.Verdicts.{not_unit_and_fault, one_unit, one_fault}
use Rattle.ivoryc.specs.declared.command.Command.{Command}
use Rattle.ivoryc.specs.declared.command.Command.TheVariants as command
use Rattle.ivoryc.specs.declared.command.Command.TheVariants.{Emit, Sites, Run, CRun, Big}
use Rattle.ivoryc.specs.declared.status.Status.{Status}
use Rattle.ivoryc.specs.declared.status.Status.TheVariants as status
use Rattle.ivoryc.specs.Texts.{too_large_line, rule_fault_line, sites_text, c_fault_line, script_line}
use Rattle.ivoryc.specs.Calls.{StandsUnder}
use Rattle.ivoryc.specs.Modules.{IsWellTyped, StandsFor, IsNoModule, too_long, at_fault, broken}
use Rattle.ivoryc.specs.Headline.{FirstForm, IsOfNoFirstForm}
use Rattle.ivoryc.specs.Allowed.{Answer, Gives, Refuses}
use Rattle.ivoryc.specs.ModuleAnswers.{Emits, compiled, not_compiled, not_built, Checks, checked, not_checked, ListsSites, listed, not_listed, Measures, measured, not_measured, big_text}
use Rattle.ivoryc.specs.RunAnswers.{RunsBy, fitting, unread, unfit, RunsModule, ran, not_ran, module_report, RunsUnit, c_ran, c_at_fault, unit_report}
use Rattle.ivoryc.specs.Answers as answers
use Rattle.ivoryc.specs.Answers.{Standing, Given, TooLongFor, text_long, script_long, Comes, run_too_long, c_too_long}

-- ---- a module text

-- what one that reads as this verdict is refused with
abbrev Says : List ℕ → Verdict → Answer → Type 0
Says text TooLong a = a ≡ Refuses status.TooLarge too_large_line
Says text (Faulty line) a = a ≡ Refuses status.Refused line
Says text (Reads tree) a = (rule : ℕ) × (span : Span) × FirstFault (module_of tree) rule span × (a ≡ Refuses status.Refused (rule_fault_line text rule span))

said_once : (text : List ℕ) (v : Verdict) (a b : Answer) → Says text v a → Says text v b → a ≡ b
said_once text TooLong a b p q = p ∙ sym q
said_once text (Faulty line) a b p q = p ∙ sym q
said_once text (Reads tree) a b (j, s, fault, is) (k, t, other, is2) =
    let one = unique_law (module_of tree) j k s t fault other in
    is ∙ ap (λ r. Refuses status.Refused (rule_fault_line text r s)) one.0 ∙ ap (λ r. Refuses status.Refused (rule_fault_line text k r)) one.1 ∙ sym is2

record IsRefused (text : List ℕ) (a : Answer) : Type 0 where
  verdict : Verdict
  judged : Judged text verdict
  says : Says text verdict a

is_refused : (text line : List ℕ) (s : Status) → IsNoModule text s line → IsRefused text (Refuses s line)
is_refused text line s (too_long long) = record { verdict = TooLong; judged = long; says = refl }
is_refused text line s (at_fault faulty) = record { verdict = Faulty line; judged = faulty; says = refl }
is_refused text line s (broken {rule = rule} {span = span} b) = record { verdict = Reads b.tree; judged = b.read; says = (rule, span, b.fault, refl) }

refused_once : (text : List ℕ) (a b : Answer) → IsRefused text a → IsRefused text b → a ≡ b
refused_once text a b p q =
    let verdict : p.verdict ≡ q.verdict = judged_once text p.verdict q.verdict p.judged q.judged in
    let Is : Verdict → Type 0 = λ v. Says text v b in
    said_once text p.verdict a b p.says (subst Is (sym verdict) q.says)

-- two refusals of one text
none_once : (text line words : List ℕ) (s t : Status) → IsNoModule text s line → IsNoModule text t words → Refuses s line ≡ Refuses t words
none_once text line words s t p q = refused_once text (Refuses s line) (Refuses t words) (is_refused text line s p) (is_refused text words t q)

-- a well typed module breaks no rule
sound : {A : Type 0} (text : List ℕ) (tree : Module) (rule : ℕ) (span : Span) → Judged text (Reads tree) → WellTyped (module_of tree)
    → FirstFault (module_of tree) rule span → A
sound text tree rule span read typed fault =
    absurd ((exactly_one (module_of tree) (of_text text tree read).formed).1 typed (record { rule = rule; span = span; fault = fault }))

typed_or_none : {A : Type 0} (text line : List ℕ) (s : Status) → IsWellTyped text → IsNoModule text s line → A
typed_or_none text line s w (too_long long) =
    let no : Reads w.tree ≡ TooLong = judged_once text (Reads w.tree) TooLong w.read long in let not : ⊥ = cc in absurd not
typed_or_none text line s w (at_fault faulty) =
    let no : Reads w.tree ≡ Faulty line = judged_once text (Reads w.tree) (Faulty line) w.read faulty in let not : ⊥ = cc in absurd not
typed_or_none text line s w (broken {rule = rule} {span = span} b) =
    let verdicts : Reads b.tree ≡ Reads w.tree = judged_once text (Reads b.tree) (Reads w.tree) b.read w.read in
    let trees : b.tree ≡ w.tree = cc in
    let Faults : Module → Type 0 = λ t. FirstFault (module_of t) rule span in
    sound text w.tree rule span w.read w.typed (subst Faults trees b.fault)

form_or_none : {A : Type 0} (text : List ℕ) (core : FirstModule) → FirstForm text core → IsOfNoFirstForm text → A
form_or_none text core form none = absurd (none core form)

emits_once : (text : List ℕ) (a b : Answer) → Emits text a → Emits text b → a ≡ b
emits_once text a b (compiled form) (compiled other) = refl
emits_once text a b (compiled {core = core} form) (not_compiled none not) = form_or_none text core form none
emits_once text a b (compiled {core = core} form) (not_built un) = form_or_none text core form un.none
emits_once text a b (not_compiled none not) (compiled {core = core} form) = form_or_none text core form none
emits_once text a b (not_compiled none not) (not_compiled none2 not2) = none_once text _ _ _ _ not not2
emits_once text a b (not_compiled none not) (not_built un) = typed_or_none text _ _ un.typed not
emits_once text a b (not_built un) (compiled {core = core} form) = form_or_none text core form un.none
emits_once text a b (not_built un) (not_compiled none not) = typed_or_none text _ _ un.typed not
emits_once text a b (not_built un) (not_built un2) = refl

checks_once : (text : List ℕ) (a b : Answer) → Checks text a → Checks text b → a ≡ b
checks_once text a b (checked typed) (checked typed2) = refl
checks_once text a b (checked typed) (not_checked not) = typed_or_none text _ _ typed not
checks_once text a b (not_checked not) (checked typed) = typed_or_none text _ _ typed not
checks_once text a b (not_checked not) (not_checked not2) = none_once text _ _ _ _ not not2

-- a text stands for one core
one_core : (text : List ℕ) (c d : ModuleCore) → StandsFor text c → StandsFor text d → c ≡ d
one_core text c d p q =
    let verdicts : Reads p.tree ≡ Reads q.tree = judged_once text (Reads p.tree) (Reads q.tree) p.read q.read in
    let trees : p.tree ≡ q.tree = cc in
    let Has : Module → Type 0 = λ t. Stands (module_of t) c in
    core_once (module_of q.tree) c d (subst Has trees p.stands) q.stands

core_or_none : {A : Type 0} (text line : List ℕ) (s : Status) (core : ModuleCore) → StandsFor text core → IsNoModule text s line → A
core_or_none text line s core p none = typed_or_none text line s (record { tree = p.tree; read = p.read; typed = record { core = core; stands = p.stands } }) none

-- whose sites are one row
one_row : (c d : ModuleCore) (p q : List Check) → c ≡ d → AreSites c p → AreSites d q → p ≡ q
one_row c d p q same x y = let Has : ModuleCore → Type 0 = λ m. AreSites m q in sites_are_one_row (checks_of c) p q x (subst Has (sym same) y)

lists_once : (text : List ℕ) (a b : Answer) → ListsSites text a → ListsSites text b → a ≡ b
lists_once text a b (listed {core = c} {sites = p} x s) (listed {core = d} {sites = q} y t) = ap (λ r. Gives (sites_text text r)) (one_row c d p q (one_core text c d x y) s t)
lists_once text a b (listed {core = c} x s) (not_listed not) = core_or_none text _ _ c x not
lists_once text a b (not_listed not) (listed {core = c} x s) = core_or_none text _ _ c x not
lists_once text a b (not_listed not) (not_listed not2) = none_once text _ _ _ _ not not2

measures_once : (k : ℕ) (a b : Answer) → Measures k a → Measures k b → a ≡ b
measures_once k a b (measured {core = c} {sites = p} x s) (measured {core = d} {sites = q} y t) =
    let cores : c ≡ d = one_core (generated k) c d x y in
    ap (λ m. Gives (big_text k m p)) cores ∙ ap (λ r. Gives (big_text k d r)) (one_row c d p q cores s t)
measures_once k a b (measured {core = c} x s) (not_measured not) = core_or_none (generated k) _ _ c x not
measures_once k a b (not_measured not) (measured {core = c} x s) = core_or_none (generated k) _ _ c x not
measures_once k a b (not_measured not) (not_measured not2) = none_once (generated k) _ _ _ _ not not2

-- ---- runs

-- what comes of a script
abbrev fitted : List ℕ → Result (Unit {0}) ScriptFault → Answer
fitted bytes (Err fault) = Refuses status.Script (script_line fault)
fitted bytes (Ok done) = Gives bytes

abbrev run_by : List Export → (Script → List ℕ) → Result Script ScriptFault → Answer
run_by exports reported (Err fault) = Refuses status.Script (script_line fault)
run_by exports reported (Ok s) = fitted (reported s) (fit_of s.calls exports)

fitted_ok : (bytes : List ℕ) (r : Result (Unit {0}) ScriptFault) → IsOk r → fitted bytes r ≡ Gives bytes
fitted_ok bytes (Ok done) ok = refl
fitted_ok bytes (Err fault) ok = let no : ⊥ = cc in absurd no

says_so : (exports : List Export) (reported : Script → List ℕ) (said : List ℕ) (s : Script) (a : Answer) → script_of said ≡ Ok s
    → fitted (reported s) (fit_of s.calls exports) ≡ a → a ≡ run_by exports reported (script_of said)
says_so exports reported said s a says is = sym (ap (run_by exports reported) says ∙ is)

by_script : (exports : List Export) (reported : Script → List ℕ) (said : List ℕ) (a : Answer) → RunsBy exports reported said a
    → a ≡ run_by exports reported (script_of said)
by_script exports reported said a (fitting {s = s} says fits) =
    let ok : IsOk (fit_of s.calls exports) = (fits_where_ok s.calls exports (fit_of s.calls exports) refl).1 fits in
    says_so exports reported said s (Gives (reported s)) says (fitted_ok (reported s) (fit_of s.calls exports) ok)
by_script exports reported said a (unread says) = sym (ap (run_by exports reported) says)
by_script exports reported said a (unfit {s = s} {fault = fault} says not) =
    says_so exports reported said s (Refuses status.Script (script_line fault)) says (ap (fitted (reported s)) not)

module_once : (text said : List ℕ) (n : ℕ) (a b : Answer) → RunsModule text said n a → RunsModule text said n b → a ≡ b
module_once text said n a b (ran {core = c} x r) (ran {core = d} y t) =
    by_script (exports_of c) (module_report c n) said a r
    ∙ ap (λ m. run_by (exports_of m) (module_report m n) (script_of said)) (one_core text c d x y)
    ∙ sym (by_script (exports_of d) (module_report d n) said b t)
module_once text said n a b (ran {core = c} x r) (not_ran not) = core_or_none text _ _ c x not
module_once text said n a b (not_ran not) (ran {core = c} x r) = core_or_none text _ _ c x not
module_once text said n a b (not_ran not) (not_ran not2) = none_once text _ _ _ _ not not2

unit_once : (text said : List ℕ) (n : ℕ) (a b : Answer) → RunsUnit text said n a → RunsUnit text said n b → a ≡ b
unit_once text said n a b (c_ran {u = u} x r) (c_ran {u = v} y t) =
    by_script (c_exports u) (unit_report u n) said a r
    ∙ ap (λ w. run_by (c_exports w) (unit_report w n) (script_of said)) (one_unit T32 text u v x y)
    ∙ sym (by_script (c_exports v) (unit_report v n) said b t)
unit_once text said n a b (c_ran {u = u} x r) (c_at_fault fault is) = absurd (not_unit_and_fault T32 text u fault x is)
unit_once text said n a b (c_at_fault fault is) (c_ran {u = u} x r) = absurd (not_unit_and_fault T32 text u fault x is)
unit_once text said n a b (c_at_fault f p) (c_at_fault g q) = ap (λ h. Refuses status.Refused (c_fault_line text h)) (one_fault T32 text f g p q)

-- ---- a command

-- under a name stands one text
abbrev pub OneText : Standing → Type 0
OneText stands = (name s t : List ℕ) → stands name s → stands name t → s ≡ t

-- what comes of the one text
of_one : (stands : Standing) → OneText stands → (Is : List ℕ → Answer → Type 0) → ((t : List ℕ) (a b : Answer) → Is t a → Is t b → a ≡ b)
    → (file t u : List ℕ) (a b : Answer) → stands file t → stands file u → Is t a → Is u b → a ≡ b
of_one stands one Is once file t u a b p q x y = let Over : List ℕ → Type 0 = λ r. Is r b in once t a b x (subst Over (one file u t q p) y)

-- no text is longer than a limit and within it
not_both : {A : Type 0} (stands : Standing) → OneText stands → (name s t : List ℕ) (most : ℕ) → stands name s → most < length s → stands name t
    → length t ≤ most → A
not_both stands one name s t most p big q short =
    let same : length s ≡ length t = ap length (one name s t p q) in
    absurd (omega arith)

not_given : {A : Type 0} (stands : Standing) → OneText stands → (file : List ℕ) (most : ℕ) (script text said : List ℕ) → Given stands file most script text said
    → TooLongFor stands file most script → A
not_given stands one file most script text said g (text_long p big) = not_both stands one file _ text most p big g.text_stands g.text_short
not_given stands one file most script text said g (script_long p short q big) = not_both stands one script _ said script_limit q big g.script_stands g.script_short

-- what comes of the two texts
of_two : (stands : Standing) → OneText stands → (Is : List ℕ → List ℕ → Answer → Type 0) → ((t s : List ℕ) (a b : Answer) → Is t s a → Is t s b → a ≡ b)
    → (file : List ℕ) (most : ℕ) (script t u r s : List ℕ) (a b : Answer) → Given stands file most script t r → Given stands file most script u s → Is t r a → Is u s b
    → a ≡ b
of_two stands one Is once file most script t u r s a b g h x y =
    let Over : List ℕ → Type 0 = λ v. Is v s b in
    let By : List ℕ → Type 0 = λ v. Is t v b in
    once t r a b x (subst By (one script s r h.script_stands g.script_stands) (subst Over (one file u t h.text_stands g.text_stands) y))

comes_once : (stands : Standing) → OneText stands → (asked : Command) (a b : Answer) → Comes stands asked a → Comes stands asked b → a ≡ b
comes_once stands one (Emit file) a b (answers.emitted {text = t} p x) (answers.emitted {text = u} q y) = of_one stands one Emits emits_once file t u a b p q x y
comes_once stands one (command.Check file) a b (answers.checked {text = t} p x) (answers.checked {text = u} q y) = of_one stands one Checks checks_once file t u a b p q x y
comes_once stands one (Sites file) a b (answers.listed {text = t} p x) (answers.listed {text = u} q y) = of_one stands one ListsSites lists_once file t u a b p q x y
comes_once stands one (Run file script n) a b (answers.ran {text = t} {said = r} g x) (answers.ran {text = u} {said = s} h y) =
    of_two stands one (λ v w c. RunsModule v w n c) (λ v w. module_once v w n) file source_limit script t u r s a b g h x y
comes_once stands one (Run file script n) a b (answers.ran {text = t} {said = r} g x) (run_too_long long) = not_given stands one file source_limit script t r g long
comes_once stands one (Run file script n) a b (run_too_long long) (answers.ran {text = u} {said = s} h y) = not_given stands one file source_limit script u s h long
comes_once stands one (Run file script n) a b (run_too_long long) (run_too_long long2) = refl
comes_once stands one (CRun file script n) a b (answers.c_ran {text = t} {said = r} g x) (answers.c_ran {text = u} {said = s} h y) =
    of_two stands one (λ v w c. RunsUnit v w n c) (λ v w. unit_once v w n) file text_limit script t u r s a b g h x y
comes_once stands one (CRun file script n) a b (answers.c_ran {text = t} {said = r} g x) (c_too_long long) = not_given stands one file text_limit script t r g long
comes_once stands one (CRun file script n) a b (c_too_long long) (answers.c_ran {text = u} {said = s} h y) = not_given stands one file text_limit script u s h long
comes_once stands one (CRun file script n) a b (c_too_long long) (c_too_long long2) = refl
comes_once stands one (Big k) a b (answers.measured x) (answers.measured y) = measures_once k a b x y

-- what a store tells under a name is one text
one_text : (files : FileMap) → OneText (StandsUnder (Some files))
one_text files name s t p q = p ∙ sym q

-- so over a store that tells what it holds the words leave one answer
pub comes_to_once : (holds : Option FileMap) (files : FileMap) → holds ≡ Some files → (asked : Command) (a b : Answer) → Comes (StandsUnder holds) asked a
    → Comes (StandsUnder holds) asked b → a ≡ b
comes_to_once holds files told asked a b p q =
    let Over : Answer → Option FileMap → Type 0 = λ x h. Comes (StandsUnder h) asked x in
    comes_once (StandsUnder (Some files)) (one_text files) asked a b (subst (Over a) told p) (subst (Over b) told q)
