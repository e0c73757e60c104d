-- What `emit`, `check`, `sites` and `big` come to over a module text.
use Rattle.std.specs.Prelude.{ℕ, pos, List, [], ◌∷◌, ◌++◌, length, codes}
use Rattle.run_records.specs.declared.Script.{Script}
use Rattle.generated_module.specs.Generated.{generated}
use Rattle.first_form.specs.declared.FirstModule.{FirstModule}
use Rattle.core_tree.specs.Syntax.{ModuleCore}
use Rattle.core_tree.specs.Sites.{AreSites}
use Rattle.core_tree.specs.declared.Check.{Check}
use Rattle.ivoryc.specs.declared.status.Status.{Status}
use Rattle.ivoryc.specs.declared.status.Status.TheVariants as status
use Rattle.ivoryc.specs.Texts.{ok_line, not_built_line, sites_text, size_text}
use Rattle.ivoryc.specs.Modules.{IsWellTyped, StandsFor, IsNoModule}
use Rattle.ivoryc.specs.RunAnswers.{module_report}
use Rattle.ivoryc.specs.Headline.{FirstForm, IsOfNoFirstForm, IsUnbuilt}
use Rattle.ivoryc.specs.Allowed.{Answer, Compiles, Gives, Refuses}

-- `emit`: the C text of a module of the form that is compiled so far; of another the first fault comes before the form
pub data Emits (text : List ℕ) : Answer → Type 0 where
  compiled : {core : FirstModule} → FirstForm text core → Emits text (Compiles text)
  not_compiled : {line : List ℕ} {s : Status} → IsOfNoFirstForm text → IsNoModule text s line → Emits text (Refuses s line)
  not_built : IsUnbuilt text → Emits text (Refuses status.NotBuilt not_built_line)

-- `check`
pub data Checks (text : List ℕ) : Answer → Type 0 where
  checked : IsWellTyped text → Checks text (Gives ok_line)
  not_checked : {line : List ℕ} {s : Status} → IsNoModule text s line → Checks text (Refuses s line)

-- `sites`
pub data ListsSites (text : List ℕ) : Answer → Type 0 where
  listed : {core : ModuleCore} {sites : List Check} → StandsFor text core → AreSites core sites → ListsSites text (Gives (sites_text text sites))
  not_listed : {line : List ℕ} {s : Status} → IsNoModule text s line → ListsSites text (Refuses s line)

-- the outside calls `all` with 5
abbrev pub big_script : Script
big_script = record { calls = record { name = codes "all"; values = pos 5 ∷ []; line = 1 } ∷ []; replies = [] }

-- the sizes of a generated module, and the report of a run of it
abbrev pub big_text : ℕ → ModuleCore → List Check → List ℕ
big_text k core sites = size_text k (length (generated k)) (length sites) ++ module_report core 100000 big_script

-- `big`
pub data Measures (k : ℕ) : Answer → Type 0 where
  measured : {core : ModuleCore} {sites : List Check} → StandsFor (generated k) core → AreSites core sites → Measures k (Gives (big_text k core sites))
  not_measured : {line : List ℕ} {s : Status} → IsNoModule (generated k) s line → Measures k (Refuses s line)
