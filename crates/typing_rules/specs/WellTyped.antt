-- Which modules are well typed: those for which some core stands.
use Rattle.std.specs.Prelude.{◌≡◌, false, List, [], ◌∷◌, None}
use Rattle.ivory_tree.specs.Syntax.{Word, ItemSyntax, BitsData, Struct, Global, Import, Procedure, GlobalSyntax, HeaderSyntax, ProcSyntax, StructSyntax, ModuleSyntax}
use Rattle.ivory_tree.specs.declared.items.BitsItem.{BitsItem}
use Rattle.area_types.specs.Tables.{structs_of}
use Rattle.bit_data.specs.declared.BitLayout.{BitLayout}
use Rattle.alloc_effects.specs.declared.allowed.Allowed.{Allowed}
use Rattle.core_tree.specs.Syntax.{AreaCore, ImportCore, ProcCore, ModuleCore}
use Rattle.core_tree.specs.declared.Check.{Check}
use Rattle.core_tree.specs.Sites.{AreSites}
use Rattle.source_types.specs.Environments.{Earlier, nothing_earlier, words}
use Rattle.source_types.specs.Written.{regions_of}
use Rattle.source_types.specs.Items.{after, item_names}
use Rattle.typing_rules.specs.Environments.{Env}
use Rattle.typing_rules.specs.Items.{StandsBits, StandsStruct, StandsArea, StandsImport, StandsProc}

-- there is no code outside of bodies
abbrev pub of_no_code : Allowed
of_no_code = record { may_alloc = false; may_break = false; may_return = false }

-- outside of procedures, after earlier items
abbrev pub outside : List Word → Earlier → Env
outside names earlier = record { earlier = earlier; names = names; regions = []; result = None; in_ensures = false; allowed = of_no_code; scope = []; locals = [] }

-- at a header, with its region parameters
abbrev pub at_header : List Word → Earlier → HeaderSyntax → Env
at_header names earlier h = record (outside names earlier) { regions = regions_of h.params }

-- items after earlier ones, what is declared at the end, and the cores of each kind in order
pub data StandItems (names : List Word) : Earlier → List ItemSyntax → (end : Earlier) → List BitLayout → List AreaCore → List ImportCore → List ProcCore → Type 0 where
  no_items : {earlier : Earlier} → StandItems names earlier [] earlier [] [] [] []
  bits : {earlier end : Earlier} {i : BitsItem} {items : List ItemSyntax} {b : BitLayout} {bs : List BitLayout} {as' : List AreaCore} {is : List ImportCore} {ps : List ProcCore} → StandsBits earlier i b
      → StandItems names (after earlier (BitsData i)) items end bs as' is ps → StandItems names earlier (BitsData i ∷ items) end (b ∷ bs) as' is ps
  struct : {earlier end : Earlier} {i : StructSyntax} {items : List ItemSyntax} {bs : List BitLayout} {as' : List AreaCore} {is : List ImportCore} {ps : List ProcCore} → StandsStruct earlier i
      → StandItems names (after earlier (Struct i)) items end bs as' is ps → StandItems names earlier (Struct i ∷ items) end bs as' is ps
  area : {earlier end : Earlier} {i : GlobalSyntax} {items : List ItemSyntax} {bs : List BitLayout} {a : AreaCore} {as' : List AreaCore} {is : List ImportCore} {ps : List ProcCore} → StandsArea (outside names earlier) i a
      → StandItems names (after earlier (Global i)) items end bs as' is ps → StandItems names earlier (Global i ∷ items) end bs (a ∷ as') is ps
  import : {earlier end : Earlier} {h : HeaderSyntax} {items : List ItemSyntax} {bs : List BitLayout} {as' : List AreaCore} {i : ImportCore} {is : List ImportCore} {ps : List ProcCore} → StandsImport (at_header names earlier h) h i
      → StandItems names (after earlier (Import h)) items end bs as' is ps → StandItems names earlier (Import h ∷ items) end bs as' (i ∷ is) ps
  procedure : {earlier end : Earlier} {p : ProcSyntax} {items : List ItemSyntax} {bs : List BitLayout} {as' : List AreaCore} {is : List ImportCore} {c : ProcCore} {ps : List ProcCore} → StandsProc (at_header names earlier p.header) p c
      → StandItems names (after earlier (Procedure p)) items end bs as' is ps → StandItems names earlier (Procedure p ∷ items) end bs as' is (c ∷ ps)

pub record Stands (m : ModuleSyntax) (core : ModuleCore) : Type 0 where
  pub end : Earlier
  pub items : StandItems (item_names m.items) nothing_earlier m.items end core.layouts core.areas core.imports core.procs
  pub structs : structs_of core.structs ≡ end.structs
  pub words : core.structs.words ≡ words end
  -- its checks are numbered by the order of the tokens that carry them
  pub sites : List Check
  pub numbered : AreSites core sites

pub record WellTyped (m : ModuleSyntax) : Type 0 where
  pub core : ModuleCore
  pub stands : Stands m core
