-- What became of a walk through a text: it is behind a form's text, and the form's demands were asked.
use Rattle.std.specs.Prelude.{◌≡◌, ℕ, ◌+◌, ◌≤◌, Bool, List, length}
use Rattle.c_text.specs.declared.fault.CWhy.{CWhy}
use Rattle.c_text.specs.Rules.{Demand}
use Rattle.c_text.specs.FirstFault.{first_fault}
use Rattle.c_scopes.specs.declared.walk.Walk.{Walk}
use Rattle.c_scopes.specs.Joined.{last, joined, broken}

-- the places of the text fit, and then it is behind the text, and knows the first fault of the demands besides
pub record Walks (before now : Walk) (text : List ℕ) (ds : List Demand) : Type 0 where
  pub place : before.at + length text ≤ last → now.at ≡ before.at + length text
  pub fault : before.at + length text ≤ last → now.fault ≡ joined before.fault (first_fault ds)

-- one rule was asked for at a place
pub record Asked (before now : Walk) (at : ℕ) (why : CWhy) (kept : Bool) : Type 0 where
  pub place : now.at ≡ before.at
  pub fault : now.fault ≡ joined before.fault (broken at why kept)
