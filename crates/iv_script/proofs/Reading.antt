-- A script line by line: what earlier lines say stands before what the rest says.
use Rattle.std.proofs.Common.{◌≡◌, refl, sym, ◌∙◌, ap, subst, ℕ, ◌+◌, List, [], ◌∷◌, ◌++◌, append_assoc}
use Rattle.std.specs.Prelude.{Result, Ok, Err}
use Rattle.std.proofs.lemmas.List.{append-nil}
use Rattle.run_records.specs.declared.Script.{Script}
use Rattle.iv_script.specs.declared.fault.ScriptFault.{ScriptFault}
use Rattle.iv_script.specs.declared.fault.ScriptWhy.{ScriptWhy}
use Rattle.iv_script.specs.declared.line.Line.{Line}
use Rattle.iv_script.specs.declared.line.Line.TheVariants.{Nothing, Call, Reply}
use Rattle.iv_script.specs.declared.fault.ScriptError.{ScriptError}
use Rattle.iv_script.specs.declared.fault.ScriptError.TheVariants.{At, Memory}
use Rattle.iv_script.specs.Answers.{Answers, at_line}
use Rattle.iv_script.specs.ScriptText.{line_words, line_said, before_rest, script_from}
use Rattle.iv_script.specs.Cuts.{said_behind, followed}

followed_one : (script : Script) (n : ℕ) (line : Line) (rest : Result Script ScriptFault)
    → followed script (before_rest n (Ok line) rest) ≡ followed (said_behind n line script) rest
followed_one script n line (Err fault) = refl
followed_one script n Nothing (Ok more) = refl
followed_one script n (Call name values) (Ok more) =
    ap (λ calls. Ok (record { calls = calls; replies = script.replies ++ more.replies })) (sym (append_assoc script.calls (record { name = name; values = values; line = n } ∷ []) more.calls))
followed_one script n (Reply values) (Ok more) =
    ap (λ replies. Ok (record { calls = script.calls ++ more.calls; replies = replies })) (sym (append_assoc script.replies (record { values = values; line = n } ∷ []) more.replies))

ok_said : (n : ℕ) (said : Result Line ScriptWhy) (line : Line) → at_line n said ≡ Ok line → said ≡ Ok line
ok_said n (Ok x) line is = cc
ok_said n (Err why) line is = let no : ⊥ = cc in absurd no

-- a line that says something
pub line_more : (script : Script) (n : ℕ) (text : List ℕ) (ls : List (List ℕ)) (all : List (List ℕ)) (line : Line) → all ≡ text ∷ ls
    → at_line n (line_said (line_words text)) ≡ Ok line → followed script (script_from n all) ≡ followed (said_behind n line script) (script_from (n + 1) ls)
line_more script n text ls all line is said =
    ap (λ xs. followed script (script_from n xs)) is
    ∙ ap (λ s. followed script (before_rest n s (script_from (n + 1) ls))) (ok_said n (line_said (line_words text)) line said)
    ∙ followed_one script n line (script_from (n + 1) ls)

faulty : (script : Script) (n : ℕ) (said : Result Line ScriptWhy) (rest : Result Script ScriptFault) (fault : ScriptFault) → at_line n said ≡ Err fault
    → followed script (before_rest n said rest) ≡ Err fault
faulty script n (Ok line) rest fault is = let no : ⊥ = cc in absurd no
faulty script n (Err why) rest fault is = cc

-- a line that is at fault
pub line_faulty : (script : Script) (n : ℕ) (text : List ℕ) (ls : List (List ℕ)) (all : List (List ℕ)) (fault : ScriptFault) → all ≡ text ∷ ls
    → at_line n (line_said (line_words text)) ≡ Err fault → followed script (script_from n all) ≡ Err fault
line_faulty script n text ls all fault is said =
    ap (λ xs. followed script (script_from n xs)) is ∙ faulty script n (line_said (line_words text)) (script_from (n + 1) ls) fault said

-- the first line, and the end
pub none_before : (script : Script) (said : Result Script ScriptFault) → script.calls ≡ [] → script.replies ≡ [] → followed script said ≡ said
none_before script (Err fault) a b = refl
none_before script (Ok more) a b = ap (λ calls. Ok (record { calls = calls ++ more.calls; replies = script.replies ++ more.replies })) a ∙ ap (λ replies. Ok (record { calls = more.calls; replies = replies ++ more.replies })) b

pub none_left : (script : Script) (n : ℕ) → followed script (script_from n []) ≡ Ok script
none_left script n =
    ap (λ calls. Ok (record { calls = calls; replies = script.replies ++ [] })) (append-nil script.calls)
    ∙ ap (λ replies. Ok (record { calls = script.calls; replies = replies })) (append-nil script.replies)

error_told : (script : Script) (n : ℕ) (text : List ℕ) (ls : List (List ℕ)) (all : List (List ℕ)) (whole : Result Script ScriptFault) (error : ScriptError) → all ≡ text ∷ ls
    → followed script (script_from n all) ≡ whole → Answers (at_line n (line_said (line_words text))) (Err error) → Answers whole (Err error)
error_told script n text ls all whole (At fault) is so_far said = sym so_far ∙ line_faulty script n text ls all fault is said
error_told script n text ls all whole Memory is so_far said = tt

-- a line that could not be read
pub told : (script : Script) (n : ℕ) (text : List ℕ) (ls : List (List ℕ)) (all : List (List ℕ)) (whole : Result Script ScriptFault) (error : ScriptError) (r : Result Script ScriptError)
    → r ≡ Err error → all ≡ text ∷ ls → followed script (script_from n all) ≡ whole → Answers (at_line n (line_said (line_words text))) (Err error) → Answers whole r
told script n text ls all whole error r fails is so_far said = subst (Answers whole) (sym fails) (error_told script n text ls all whole error is so_far said)
