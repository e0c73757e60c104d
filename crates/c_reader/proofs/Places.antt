-- Every rule is asked for at a place within the text: expressions, places, initializers and calls.
use Rattle.std.proofs.Common.{ℕ, zero, suc, ◌+◌, ◌≤◌, List, [], ◌∷◌, ◌++◌, map, length, codes, Option, length-append, arith}
use Rattle.c_ast.specs.declared.types.CBase.{CBase}
use Rattle.c_ast.specs.declared.types.CBase.TheVariants as base
use Rattle.c_ast.specs.declared.types.CType.{CType}
use Rattle.c_ast.specs.declared.types.CType.TheVariants.{Void, Value, Pointer}
use Rattle.c_ast.specs.declared.types.Target.{Target}
use Rattle.c_ast.specs.Names.{named}
use Rattle.c_ast.specs.Structs.{CTree, CRow}
use Rattle.c_ast.specs.Syntax.{Expr, Number, Read, Address, Unary, Binary, Cast, Cond, Place, Var, At, Member, Element, Init, One, Zero, Many, Inits, NoInits, MoreInits, FunctionCall}
use Rattle.type_trees.specs.Trees as trees
use Rattle.type_trees.specs.Trees.{Leaf, Struct, End, Field}
use Rattle.c_text.specs.TypeText.{listed, base_text, star_text, type_text}
use Rattle.c_text.specs.ExpressionText.{unary_text, binary_text, expr_text, place_text, init_text, init_texts, call_text}
use Rattle.c_text.specs.Rules.{Demand, behind}
use Rattle.c_text.specs.Scopes.{Names}
use Rattle.c_text.specs.ExpressionRules.{base_demands, type_demands, expr_demands, place_demands, given_demands, tested_demands, args_demands, params_of, call_demands, loose_demands, init_demands, elements_demands, members_demands}

-- all places are at most this one
abbrev pub Within : ℕ → List Demand → Type 0
Within e [] = Unit {0}
Within e (d ∷ ds) = (d.at ≤ e) × Within e ds

pub both : (e : ℕ) (ds es : List Demand) → Within e ds → Within e es → Within e (ds ++ es)
both e [] es w v = v
both e (d ∷ ds) es w v = (w.0, both e ds es w.1 v)

-- a text from a place on ends there at the latest
abbrev pub Fits : ℕ → List ℕ → ℕ → Type 0
Fits at t e = at + length t ≤ e

pub starts : (at e : ℕ) (t : List ℕ) → Fits at t e → at ≤ e
starts at e t f = omega (arith, f)

-- of texts one after another, the front, what is behind it, and what stands between two others
pub front : (at e : ℕ) (t s : List ℕ) → Fits at (t ++ s) e → Fits at t e
front at e t s f = grind (arith, length-append)

pub rest : (at e : ℕ) (p t : List ℕ) → Fits at (p ++ t) e → Fits (behind at p) t e
rest at e p t f = grind (arith, length-append)

pub middle : (at e : ℕ) (p t s : List ℕ) → Fits at (p ++ t ++ s) e → Fits (behind at p) t e
middle at e p t s f = rest at e p t (front at e (p ++ t) s f)

-- ---- types

pub base_within : (names : Names) (at e : ℕ) (b : CBase) → Fits at (base_text b) e → Within e (base_demands names at b)
base_within names at e (base.Scalar s) f = tt
base_within names at e (base.Struct tag) f = (starts (behind at (codes "struct ")) e tag (rest at e (codes "struct ") tag f), tt)

pub type_within : (names : Names) (at e : ℕ) (t : CType) → Fits at (type_text t) e → Within e (type_demands names at t)
type_within names at e Void f = tt
type_within names at e (Value s) f = tt
type_within names at e (Pointer constant b) f = base_within names at e b (front at e (base_text b) (star_text constant) f)

-- ---- expressions and places

first_operand : (at e : ℕ) (a o b : List ℕ) → Fits at (codes "(" ++ a ++ codes " " ++ o ++ codes " " ++ b ++ codes ")") e → Fits (behind at (codes "(")) a e
first_operand at e a o b f = grind (arith, length-append)

tested : (at e : ℕ) (c a b : List ℕ) → Fits at (codes "(" ++ c ++ codes " ? " ++ a ++ codes " : " ++ b ++ codes ")") e → Fits (behind at (codes "(")) c e
tested at e c a b f = grind (arith, length-append)

first_arm : (at e : ℕ) (c a b : List ℕ) → Fits at (codes "(" ++ c ++ codes " ? " ++ a ++ codes " : " ++ b ++ codes ")") e → Fits (behind at (codes "(" ++ c ++ codes " ? ")) a e
first_arm at e c a b f = grind (arith, length-append)

cast_type : (at e : ℕ) (t x : List ℕ) → Fits at (codes "((" ++ t ++ codes ")" ++ x ++ codes ")") e → Fits (behind at (codes "((")) t e
cast_type at e t x f = grind (arith, length-append)

module _ (target : Target) (names : Names) where
  mutual
    pub expr_within : (at e : ℕ) (x : Expr) → Fits at (expr_text x) e → Within e (expr_demands target names at x)
    expr_within at e (Number v suffix) f = (starts at e (expr_text (Number v suffix)) f, tt)
    expr_within at e (Read place) f = (starts at e (place_text place) f, place_within at e place f)
    expr_within at e (Address place) f = (starts at e (expr_text (Address place)) f, place_within (behind at (codes "(&")) e place (middle at e (codes "(&") (place_text place) (codes ")") f))
    expr_within at e (Unary op x) f =
        (starts at e (expr_text (Unary op x)) f, expr_within (behind at (codes "(" ++ unary_text op)) e x (middle at e (codes "(" ++ unary_text op) (expr_text x) (codes ")") f))
    expr_within at e (Binary op a b) f =
        let second = codes "(" ++ expr_text a ++ codes " " ++ binary_text op ++ codes " " in (
          starts at e (expr_text (Binary op a b)) f,
          both e (expr_demands target names (behind at (codes "(")) a) (expr_demands target names (behind at second) b)
              (expr_within (behind at (codes "(")) e a (first_operand at e (expr_text a) (binary_text op) (expr_text b) f)) (expr_within (behind at second) e b (middle at e second (expr_text b) (codes ")") f)),
        )
    expr_within at e (Cast t x) f =
        let inner = codes "((" ++ type_text t ++ codes ")" in (
          starts at e (expr_text (Cast t x)) f,
          both e (type_demands names (behind at (codes "((")) t) (expr_demands target names (behind at inner) x)
              (type_within names (behind at (codes "((")) e t (cast_type at e (type_text t) (expr_text x) f)) (expr_within (behind at inner) e x (middle at e inner (expr_text x) (codes ")") f)),
        )
    expr_within at e (Cond c a b) f =
        let first = codes "(" ++ expr_text c ++ codes " ? " in
        let second = codes "(" ++ expr_text c ++ codes " ? " ++ expr_text a ++ codes " : " in (
          starts at e (expr_text (Cond c a b)) f,
          both e (expr_demands target names (behind at (codes "(")) c ++ expr_demands target names (behind at first) a) (expr_demands target names (behind at second) b)
              (both e (expr_demands target names (behind at (codes "(")) c) (expr_demands target names (behind at first) a)
              (expr_within (behind at (codes "(")) e c (tested at e (expr_text c) (expr_text a) (expr_text b) f)) (expr_within (behind at first) e a (first_arm at e (expr_text c) (expr_text a) (expr_text b) f)))
              (expr_within (behind at second) e b (middle at e second (expr_text b) (codes ")") f)),
        )

    pub place_within : (at e : ℕ) (p : Place) → Fits at (place_text p) e → Within e (place_demands target names at p)
    place_within at e (Var x) f = let s = starts at e x f in (s, (s, (s, tt)))
    place_within at e (At x) f = (starts at e (place_text (At x)) f, expr_within (behind at (codes "(*")) e x (middle at e (codes "(*") (expr_text x) (codes ")") f))
    place_within at e (Member place m) f =
        let dot = place_text place ++ codes "." in (
          starts at e (dot ++ m) f,
          both e (place_demands target names at place) _ (place_within at e place (front at e (place_text place) (codes ".") (front at e dot m f))) (front at e dot m f, tt),
        )
    place_within at e (Element place x) f =
        let bracket = place_text place ++ codes "[" in
        let opened = front at e bracket (expr_text x) (front at e (bracket ++ expr_text x) (codes "]") f) in (
          starts at e (bracket ++ expr_text x ++ codes "]") f,
          both e _ (expr_demands target names (behind at bracket) x) (both e (place_demands target names at place) _ (place_within at e place (front at e (place_text place) (codes "[") opened)) (opened, tt))
              (expr_within (behind at bracket) e x (middle at e bracket (expr_text x) (codes "]") f)),
        )

  pub given_within : (at e : ℕ) (t : CType) (x : Expr) → Fits at (expr_text x) e → Within e (given_demands target names at t x)
  given_within at e t x f = (starts at e (expr_text x) f, expr_within at e x f)

  pub tested_within : (at e : ℕ) (x : Expr) → Fits at (expr_text x) e → Within e (tested_demands target names at x)
  tested_within at e x f = (starts at e (expr_text x) f, expr_within at e x f)

  -- ---- calls

  pub args_within : (at e : ℕ) (ts : List CType) (xs : List Expr) → Fits at (listed (map expr_text xs)) e → Within e (args_demands target names at ts xs)
  args_within at e ts [] f = tt
  args_within at e [] (x ∷ []) f = both e (expr_demands target names at x) [] (expr_within at e x f) tt
  args_within at e (t ∷ []) (x ∷ []) f = both e (given_demands target names at t x) [] (given_within at e t x f) tt
  args_within at e (t ∷ u ∷ ts) (x ∷ []) f = both e (given_demands target names at t x) [] (given_within at e t x f) tt
  args_within at e [] (x ∷ y ∷ xs) f =
      let next = expr_text x ++ codes ", " in
      both e (expr_demands target names at x) (args_demands target names (behind at next) [] (y ∷ xs)) (expr_within at e x (front at e (expr_text x) (codes ", ") (front at e next (listed (map expr_text (y ∷ xs))) f)))
      (args_within (behind at next) e [] (y ∷ xs) (rest at e next (listed (map expr_text (y ∷ xs))) f))
  args_within at e (t ∷ ts) (x ∷ y ∷ xs) f =
      let next = expr_text x ++ codes ", " in
      both e (given_demands target names at t x) (args_demands target names (behind at next) ts (y ∷ xs)) (given_within at e t x (front at e (expr_text x) (codes ", ") (front at e next (listed (map expr_text (y ∷ xs))) f)))
      (args_within (behind at next) e ts (y ∷ xs) (rest at e next (listed (map expr_text (y ∷ xs))) f))

  pub call_within : (at e : ℕ) (wanted : Option CType) (c : FunctionCall) → Fits at (call_text c) e → Within e (call_demands target names at wanted c)
  call_within at e wanted c f =
      let s = starts at e (call_text c) f in
      let bracket = c.name ++ codes "(" in
      (s, (s, (s, args_within (behind at bracket) e (params_of target names (named names.functions c.name)) c.args (middle at e bracket (listed (map expr_text c.args)) (codes ")") f))))

  -- ---- initializers

  loose_within : (at e : ℕ) (i : Init) → Fits at (init_text i) e → Within e (loose_demands target names at i)
  loose_within at e (One x) f = expr_within at e x f
  loose_within at e Zero f = tt
  loose_within at e (Many is) f = tt

  mutual
    pub init_within : (at e : ℕ) (a : CTree) (i : Init) → Fits at (init_text i) e → Within e (init_demands target names at a i)
    init_within at e (Leaf s) (One x) f = given_within at e (Value s) x f
    init_within at e (Leaf s) Zero f = (starts at e (init_text Zero) f, tt)
    init_within at e (Leaf s) (Many is) f = (starts at e (init_text (Many is)) f, tt)
    init_within at e (trees.Many n a) (One x) f = (starts at e (expr_text x) f, expr_within at e x f)
    init_within at e (trees.Many n a) Zero f = tt
    init_within at e (trees.Many n a) (Many is) f = elements_within (behind at (codes "{")) e n a is (middle at e (codes "{") (listed (init_texts is)) (codes "}") f)
    init_within at e (Struct k r) (One x) f = (starts at e (expr_text x) f, expr_within at e x f)
    init_within at e (Struct k r) Zero f = tt
    init_within at e (Struct k r) (Many is) f = members_within (behind at (codes "{")) e r is (middle at e (codes "{") (listed (init_texts is)) (codes "}") f)

    pub elements_within : (at e n : ℕ) (a : CTree) (is : Inits) → Fits at (listed (init_texts is)) e → Within e (elements_demands target names at n a is)
    elements_within at e n a NoInits f = tt
    elements_within at e zero a (MoreInits i NoInits) f = (starts at e (init_text i) f, loose_within at e i f)
    elements_within at e zero a (MoreInits i (MoreInits j is)) f =
        let here = front at e (init_text i) (codes ", ") (front at e (init_text i ++ codes ", ") (listed (init_texts (MoreInits j is))) f) in
        (starts at e (init_text i) here, loose_within at e i here)
    elements_within at e (suc n) a (MoreInits i NoInits) f = both e (init_demands target names at a i) [] (init_within at e a i f) tt
    elements_within at e (suc n) a (MoreInits i (MoreInits j is)) f =
        let next = init_text i ++ codes ", " in
        both e (init_demands target names at a i) (elements_demands target names (behind at next) n a (MoreInits j is)) (init_within at e a i (front at e (init_text i) (codes ", ") (front at e next (listed (init_texts (MoreInits j is))) f)))
        (elements_within (behind at next) e n a (MoreInits j is) (rest at e next (listed (init_texts (MoreInits j is))) f))

    pub members_within : (at e : ℕ) (r : CRow) (is : Inits) → Fits at (listed (init_texts is)) e → Within e (members_demands target names at r is)
    members_within at e r NoInits f = tt
    members_within at e End (MoreInits i NoInits) f = (starts at e (init_text i) f, loose_within at e i f)
    members_within at e End (MoreInits i (MoreInits j is)) f =
        let here = front at e (init_text i) (codes ", ") (front at e (init_text i ++ codes ", ") (listed (init_texts (MoreInits j is))) f) in
        (starts at e (init_text i) here, loose_within at e i here)
    members_within at e (Field m a r) (MoreInits i NoInits) f = both e (init_demands target names at a i) [] (init_within at e a i f) tt
    members_within at e (Field m a r) (MoreInits i (MoreInits j is)) f =
        let next = init_text i ++ codes ", " in
        both e (init_demands target names at a i) (members_demands target names (behind at next) r (MoreInits j is)) (init_within at e a i (front at e (init_text i) (codes ", ") (front at e next (listed (init_texts (MoreInits j is))) f)))
        (members_within (behind at next) e r (MoreInits j is) (rest at e next (listed (init_texts (MoreInits j is))) f))
