-- The checks of a core stand in the order of the text, each within the place of the form that makes it.
use Rattle.std.proofs.Common.{◌≡◌, ℕ, ◌+◌, ◌≤◌, ◌<◌, List, [], ◌∷◌, ◌++◌, map, flat_map, Option, Bool, true, false, ◌&&◌, ◌||◌, refl, sym, ◌∙◌, ap, ap₂, subst, All, IfSome, arith, nat_lt, nat_eq, eq-eqb, le_refl, append_assoc, append-nil}
use Rattle.std.proofs.lemmas.Bool.Decides.{nat_tests}
use Rattle.std.proofs.lemmas.List.Elements.{All-head, All-tail}
use Rattle.iv_words.specs.declared.Name.{Name}
use Rattle.iv_words.specs.declared.Span.{Span}
use Rattle.ivory_tree.specs.Syntax as syntax
use Rattle.ivory_tree.specs.Syntax.{Word, ExprSyntax, InitSyntax, InitsSyntax, CallSyntax, StmtSyntax, BlockSyntax, StmtsSyntax, AreaSyntax, ContractSyntax, ProcSyntax, ItemSyntax, ModuleSyntax}
use Rattle.ivory_tree.specs.Places.{expr_span}
use Rattle.ivory_tree.specs.Nodes.{Node, At, Nodes, Nil, Cons, place, nodes_from, one, joined, area_node, expr_node, init_node, init_nodes, call_node, stmt_node, block_node, stmt_nodes, header_nodes, contract_node, proc_nodes, item_node}
use Rattle.ivory_tree.specs.Formed.{last_end, Placed, PlacedRow, FormedExpr, FormedInit, FormedInits, FormedStmt, FormedBlock, FormedStmts, FormedContract, FormedProc, FormedItem}
use Rattle.ivory_tree.specs.declared.expr.BinOp.{BinOp}
use Rattle.ivory_tree.specs.declared.expr.BinOp.TheVariants.{OrElse, AndAlso, Or, Xor, And, Eq, Ne, Lt, Le, Gt, Ge, Shl, Shr, Add, Sub, WrapAdd, WrapSub, Mul, Div, Rem, WrapMul}
use Rattle.ivory_tree.specs.declared.expr.PrefixOp.{PrefixOp}
use Rattle.ivory_tree.specs.declared.expr.PrefixOp.TheVariants.{Neg, Not, Flip, Deref}
use Rattle.area_types.specs.Syntax as types
use Rattle.area_types.specs.Syntax.{ValueType, Area}
use Rattle.area_types.specs.declared.region.Region.{Region}
use Rattle.bit_data.specs.declared.BitLayout.{BitLayout}
use Rattle.core_tree.specs.Syntax as core
use Rattle.core_tree.specs.Syntax.{Label, ExprCore, InitCore, InitsCore, CallCore, StmtCore, StmtsCore, AreaCore, ImportCore, ContractCore, ProcCore}
use Rattle.core_tree.specs.Checks.{expr_checks, init_checks, inits_checks, call_checks, stmt_checks, stmts_checks, contract_checks, proc_checks}
use Rattle.core_tree.specs.Sites.{is_made_before, stands_before, Ascends}
use Rattle.core_tree.specs.declared.Check.{Check}
use Rattle.core_tree.specs.declared.SiteKind.{SiteKind}
use Rattle.core_tree.specs.declared.SiteKind.TheVariants as site
use Rattle.source_types.specs.Environments.{Earlier}
use Rattle.source_types.specs.Values.{is_signed_integer}
use Rattle.typing_rules.specs.Environments.{Env, next}
use Rattle.core_tree.specs.Types.{has_indices_of, has_values_of}
use Rattle.core_tree.specs.Operators.{divisions, operator_sites, prefix_sites, unless}
use Rattle.typing_rules.specs.Sites.{Labelled, unchecked, first_token, index_sites}
use Rattle.typing_rules.specs.Wholes.{part, is_chain_prefix, is_postfix_prefix}
use Rattle.typing_rules.specs.Expressions as rule
use Rattle.typing_rules.specs.Expressions.{Has, Under, chain, field_of, element_of}
use Rattle.typing_rules.specs.Calls.{Fit, no_args, value_arg, reference_arg, Calls}
use Rattle.typing_rules.specs.Initializers.{Fills, FillElements, FillFields, stored, array, struct, no_elements, more_elements, no_fields, more_fields}
use Rattle.typing_rules.specs.Statements as stands
use Rattle.typing_rules.specs.Statements.{StandsStmt, StandsBlock, StandAll, MayFill, Returns, Marks}
use Rattle.typing_rules.specs.Items as item
use Rattle.typing_rules.specs.Items.{Contracts, StandsContract, StandsProc, contract_site, contract_bytes}
use Rattle.typing_rules.specs.WellTyped as module_rule
use Rattle.typing_rules.specs.WellTyped.{StandItems}

-- ---- checks from one place on, up to another

abbrev mutual
  pub Rising : (low : ℕ) → List Check → (high : ℕ) → Type 0
  Rising low [] high = low ≤ high
  Rising low (c ∷ cs) high = (low ≤ c.span.start) × Later c cs high

  pub Later : Check → List Check → (high : ℕ) → Type 0
  Later c [] high = c.span.start < high
  Later c (d ∷ ds) high = (stands_before c d ≡ true) × Later d ds high

below_is : (m n : ℕ) → m < n → nat_lt m n ≡ true
below_is m n h = grind (arith, nat_tests)

is_before : (c d : Check) → c.span.start < d.span.start → stands_before c d ≡ true
is_before c d h = ap (λ b. b || (nat_eq c.span.start d.span.start && is_made_before c.kind d.kind)) (below_is c.span.start d.span.start h)

le_both : (a b c : ℕ) → a ≤ b → b ≤ c → a ≤ c
le_both a b c h k = omega arith

lt_le : (a b c : ℕ) → a < b → b ≤ c → a < c
lt_le a b c h k = omega arith

lt_is_le : (a b : ℕ) → a < b → a ≤ b
lt_is_le a b h = omega arith

next_le : (a b : ℕ) → a < b → a + 1 ≤ b
next_le a b h = omega arith

lt_next : (a : ℕ) → a < a + 1
lt_next a = omega arith

later_join : (c : Check) (xs ys : List Check) (mid high : ℕ) → Later c xs mid → Rising mid ys high → Later c (xs ++ ys) high
later_join c [] [] mid high h k = lt_le c.span.start mid high h k
later_join c [] (d ∷ ds) mid high h k = (is_before c d (lt_le c.span.start mid d.span.start h k.0), k.1)
later_join c (x ∷ xs) ys mid high h k = (h.0, later_join x xs ys mid high h.1 k)

join : (low mid high : ℕ) (xs ys : List Check) → Rising low xs mid → Rising mid ys high → Rising low (xs ++ ys) high
join low mid high [] [] h k = le_both low mid high h k
join low mid high [] (d ∷ ds) h k = (le_both low mid d.span.start h k.0, k.1)
join low mid high (c ∷ cs) ys h k = (h.0, later_join c cs ys mid high h.1 k)

later_widen : (c : Check) (cs : List Check) (high wide : ℕ) → high ≤ wide → Later c cs high → Later c cs wide
later_widen c [] high wide h k = lt_le c.span.start high wide k h
later_widen c (d ∷ ds) high wide h k = (k.0, later_widen d ds high wide h k.1)

widen : (deep low high wide : ℕ) (cs : List Check) → deep ≤ low → high ≤ wide → Rising low cs high → Rising deep cs wide
widen deep low high wide [] h k r = le_both deep low wide h (le_both low high wide r k)
widen deep low high wide (c ∷ cs) h k r = (le_both deep low c.span.start h r.0, later_widen c cs high wide k r.1)

at_most_start : (c d : Check) → stands_before c d ≡ true → c.span.start ≤ d.span.start
at_most_start c d h = go (nat_lt c.span.start d.span.start) refl (nat_eq c.span.start d.span.start) refl h
  where
    go : (a : Bool) → nat_lt c.span.start d.span.start ≡ a → (b : Bool) → nat_eq c.span.start d.span.start ≡ b → a || (b && is_made_before c.kind d.kind) ≡ true → c.span.start ≤ d.span.start
    go true e b f g = grind (arith, nat_tests)
    go false e true f g = grind (arith, nat_tests)
    go false e false f g = let no : ⊥ = cc in absurd no

later_bound : (c : Check) (cs : List Check) (high : ℕ) → Later c cs high → c.span.start < high
later_bound c [] high h = h
later_bound c (d ∷ ds) high h = let e = at_most_start c d h.0 in let k = later_bound d ds high h.1 in omega arith

later_front : (c : Check) (xs ys : List Check) (high : ℕ) → Later c (xs ++ ys) high → Later c xs high
later_front c [] ys high h = later_bound c ys high h
later_front c (x ∷ xs) ys high h = (h.0, later_front x xs ys high h.1)

front : (low high : ℕ) (xs ys : List Check) → Rising low (xs ++ ys) high → Rising low xs high
front low high [] [] h = h
front low high [] (c ∷ cs) h = let k = later_bound c cs high h.1 in le_both low c.span.start high h.0 (lt_is_le c.span.start high k)
front low high (x ∷ xs) ys h = (h.0, later_front x xs ys high h.1)

-- nothing after them
and_none : (low high : ℕ) (cs : List Check) → Rising low cs high → Rising low (cs ++ []) high
and_none low high cs h = join low high high cs [] h (le_refl high)

later_ascends : (c : Check) (cs : List Check) (high : ℕ) → Later c cs high → Ascends (c ∷ cs)
later_ascends c [] high h = (tt, tt)
later_ascends c (d ∷ ds) high h = (h.0, later_ascends d ds high h.1)

pub rising_ascends : (low high : ℕ) (cs : List Check) → Rising low cs high → Ascends cs
rising_ascends low high [] h = tt
rising_ascends low high (c ∷ cs) h = later_ascends c cs high h.1

-- ---- the checks of one token

abbrev Orderly : List SiteKind → Type 0
Orderly [] = Unit {0}
Orderly (k ∷ []) = Unit {0}
Orderly (k ∷ l ∷ []) = is_made_before k l ≡ true
Orderly (k ∷ l ∷ m ∷ more) = ⊥

orderly_divisions : (b : Bool) → Orderly (divisions b)
orderly_divisions true = refl
orderly_divisions false = tt

orderly_operator : (op : BinOp) (t : ValueType) → Orderly (operator_sites op t)
orderly_operator OrElse t = tt
orderly_operator AndAlso t = tt
orderly_operator Or t = tt
orderly_operator Xor t = tt
orderly_operator And t = tt
orderly_operator Eq t = tt
orderly_operator Ne t = tt
orderly_operator Lt t = tt
orderly_operator Le t = tt
orderly_operator Gt t = tt
orderly_operator Ge t = tt
orderly_operator Shl t = tt
orderly_operator Shr t = tt
orderly_operator Add t = tt
orderly_operator Sub t = tt
orderly_operator WrapAdd t = tt
orderly_operator WrapSub t = tt
orderly_operator Mul t = tt
orderly_operator Div t = orderly_divisions (is_signed_integer t)
orderly_operator Rem t = orderly_divisions (is_signed_integer t)
orderly_operator WrapMul t = tt

orderly_prefix : (op : PrefixOp) → Orderly (prefix_sites op)
orderly_prefix Neg = tt
orderly_prefix Not = tt
orderly_prefix Flip = tt
orderly_prefix Deref = tt

orderly_unless : (b : Bool) (k : SiteKind) → Orderly (unless b k)
orderly_unless true k = tt
orderly_unless false k = tt

orderly_index : (n : ℕ) (t : ValueType) → Orderly (index_sites n t)
orderly_index n (types.Int kind) = orderly_unless (has_indices_of n kind) site.Index
orderly_index n types.Truth = tt
orderly_index n (types.Ix m) = tt
orderly_index n (types.Bits k) = tt
orderly_index n (types.Ref constant region area) = tt

same_place : (c d : Check) → c.span.start ≡ d.span.start → is_made_before c.kind d.kind ≡ true → stands_before c d ≡ true
same_place c d h k = go (nat_lt c.span.start d.span.start)
  where
    go : (a : Bool) → a || (nat_eq c.span.start d.span.start && is_made_before c.kind d.kind) ≡ true
    go true = refl
    go false = ap (λ b. b && is_made_before c.kind d.kind) (eq-eqb c.span.start d.span.start h) ∙ k

token_rising : (checks : List Check) (kinds : List SiteKind) (at : Span) (high : ℕ) → Orderly kinds → map (λ (c : Check). c.kind) checks ≡ kinds → map (λ (c : Check). c.span) checks ≡ map (λ (k : SiteKind). at) kinds → at.start < high
    → Rising at.start checks high
token_rising [] kinds at high o h k l = lt_is_le at.start high l
token_rising (c ∷ []) [] at high o h k l = let no : ⊥ = cc in absurd no
token_rising (c ∷ []) (x ∷ []) at high o h k l =
    let e : c.span ≡ at = cc in
    let s : c.span.start ≡ at.start = ap (λ (z : Span). z.start) e in
    (omega arith, omega arith)
token_rising (c ∷ []) (x ∷ y ∷ kinds) at high o h k l = let no : ⊥ = cc in absurd no
token_rising (c ∷ d ∷ []) [] at high o h k l = let no : ⊥ = cc in absurd no
token_rising (c ∷ d ∷ []) (x ∷ []) at high o h k l = let no : ⊥ = cc in absurd no
token_rising (c ∷ d ∷ []) (x ∷ y ∷ []) at high o h k l =
    let e : c.span ≡ at = cc in
    let f : d.span ≡ at = cc in
    let a : c.kind ≡ x = cc in
    let b : d.kind ≡ y = cc in
    let s : c.span.start ≡ at.start = ap (λ (z : Span). z.start) e in
    let t : d.span.start ≡ at.start = ap (λ (z : Span). z.start) f in
    (omega arith, (same_place c d (s ∙ sym t) (ap₂ is_made_before a b ∙ o), omega arith))
token_rising (c ∷ d ∷ []) (x ∷ y ∷ z ∷ kinds) at high o h k l = absurd o
token_rising (c ∷ d ∷ e ∷ checks) [] at high o h k l = let no : ⊥ = cc in absurd no
token_rising (c ∷ d ∷ e ∷ checks) (x ∷ []) at high o h k l = let no : ⊥ = cc in absurd no
token_rising (c ∷ d ∷ e ∷ checks) (x ∷ y ∷ []) at high o h k l = let no : ⊥ = cc in absurd no
token_rising (c ∷ d ∷ e ∷ checks) (x ∷ y ∷ z ∷ kinds) at high o h k l = absurd o

label_rising : {label : Label} {t : ValueType} {kinds : List SiteKind} {at : Span} → Labelled label t kinds at → Orderly kinds → (high : ℕ) → at.start < high → Rising at.start label.checks high
label_rising {label = label} {kinds = kinds} {at = at} l o high h = token_rising label.checks kinds at high o l.checks.kinds l.checks.places h

-- ---- places

place_is : (e : ExprSyntax) → place (expr_node e) ≡ expr_span e
place_is (syntax.Literal s v) = refl
place_is (syntax.Truth s b) = refl
place_is (syntax.Outcome s) = refl
place_is (syntax.Variable s name) = refl
place_is (syntax.Cast s kind e) = refl
place_is (syntax.ToIndex s n e) = refl
place_is (syntax.WrapIndex s n e) = refl
place_is (syntax.MakeBits s name e) = refl
place_is (syntax.Raw s e) = refl
place_is (syntax.SetField s e name value) = refl
place_is (syntax.Prefix s op e) = refl
place_is (syntax.Binary s op at left right) = refl
place_is (syntax.Field s e name) = refl
place_is (syntax.Element s brackets e index) = refl
place_is (syntax.Cond s test first second) = refl
place_is (syntax.Bare s e) = refl

-- the checks of an expression lie within it
abbrev pub Inside : Node → List Check → Type 0
Inside n cs = Rising (place n).start cs (place n).end

part_rising : (lo hi : ℕ) (prefix : Bool) (c : ExprCore) → Rising lo (expr_checks c) hi → Rising lo (expr_checks (part prefix c)) hi
part_rising lo hi false c h = h
part_rising lo hi true (core.Number l value) h = h
part_rising lo hi true (core.Outcome l) h = h
part_rising lo hi true (core.Local l number) h = h
part_rising lo hi true (core.AreaName l number) h = h
part_rising lo hi true (core.Cast l e) h = h
part_rising lo hi true (core.ToIndex l e) h = h
part_rising lo hi true (core.WrapIndex l e) h = h
part_rising lo hi true (core.MakeBits l e) h = h
part_rising lo hi true (core.Raw l e) h = h
part_rising lo hi true (core.SetField l e field value) h = h
part_rising lo hi true (core.Prefix l op e) h = h
part_rising lo hi true (core.Binary l op left right) h = h
part_rising lo hi true (core.Field l e field) h = h
part_rising lo hi true (core.Element l e index) h = h
part_rising lo hi true (core.Cond l test first second) h = h
part_rising lo hi true (core.Whole l c) h = front lo hi (expr_checks c) l.checks h

-- of one part
one_inside : (s : Span) (n : Node) (cs : List Check) → Placed (At s (one n)) → Inside n cs → Inside (At s (one n)) cs
one_inside s n cs p h = widen s.start (place n).start (place n).end s.end cs p.1.0 p.2 h

-- of a token at its start, and one part
token_then : (s : Span) (n : Node) (xs cs : List Check) → Placed (At s (one n)) → s.start < (place n).start → Rising s.start xs (s.start + 1) → Inside n cs → Inside (At s (one n)) (xs ++ cs)
token_then s n xs cs p b t h = join s.start (s.start + 1) s.end xs cs t (widen (s.start + 1) (place n).start (place n).end s.end cs (next_le s.start (place n).start b) p.2 h)

-- of two parts
two_inside : (s : Span) (n m : Node) (cs ds : List Check) → Placed (At s (Cons n (one m))) → Inside n cs → Inside m ds → Inside (At s (Cons n (one m))) (cs ++ ds)
two_inside s n m cs ds p h k =
    join s.start (place n).end s.end cs ds (widen s.start (place n).start (place n).end (place n).end cs p.1.0 (le_refl (place n).end) h)
    (widen (place n).end (place m).start (place m).end s.end ds p.1.2.0 p.2 k)

before_of : (s : Span) (e : ExprSyntax) → s.start < (expr_span e).start → s.start < (place (expr_node e)).start
before_of s e h = subst (λ (x : Span). s.start < x.start) (sym (place_is e)) h

-- ---- expressions

binary_inside : (s at : Span) (op : BinOp) (left right : ExprSyntax) (c d : ExprCore) (label : Label) (t : ValueType) (kinds : List SiteKind) → Labelled label t kinds at → Orderly kinds → FormedExpr (syntax.Binary s op at left right)
    → Placed (expr_node (syntax.Binary s op at left right)) → Inside (expr_node left) (expr_checks c) → Inside (expr_node right) (expr_checks d) → Inside (expr_node (syntax.Binary s op at left right)) (expr_checks (chain s op left label c d))
binary_inside s at op left right c d label t kinds l o f p h k =
    let a = place (expr_node left) in
    let b = place (expr_node right) in
    let after_left : a.end ≤ at.start = subst (λ (x : Span). x.end ≤ at.start) (sym (place_is left)) f.0.0 in
    let before_right : at.end ≤ b.start = subst (λ (x : Span). at.end ≤ x.start) (sym (place_is right)) f.0.2 in
    let cs = expr_checks (part (is_chain_prefix s op left) c) in
    and_none s.start s.end (cs ++ (label.checks ++ expr_checks d))
    (join s.start a.end s.end cs (label.checks ++ expr_checks d) (widen s.start a.start a.end a.end cs p.1.0 (le_refl a.end) (part_rising a.start a.end (is_chain_prefix s op left) c h))
    (join a.end at.end s.end label.checks (expr_checks d) (widen a.end at.start at.end at.end label.checks after_left (le_refl at.end) (label_rising l o at.end f.0.1)) (widen at.end b.start b.end s.end (expr_checks d) before_right p.2 k)))

choice_inside : (s : Span) (test first second : ExprSyntax) (b c d : ExprCore) (t : ValueType) → Placed (expr_node (syntax.Cond s test first second)) → Inside (expr_node test) (expr_checks b) → Inside (expr_node first) (expr_checks c)
    → Inside (expr_node second) (expr_checks d) → Inside (expr_node (syntax.Cond s test first second)) (expr_checks (core.Cond (unchecked t) b c d))
choice_inside s test first second b c d t p h k l =
    let x = place (expr_node test) in
    let y = place (expr_node first) in
    let z = place (expr_node second) in
    join s.start x.end s.end (expr_checks b) (expr_checks c ++ expr_checks d) (widen s.start x.start x.end x.end (expr_checks b) p.1.0 (le_refl x.end) h)
    (join x.end y.end s.end (expr_checks c) (expr_checks d) (widen x.end y.start y.end y.end (expr_checks c) p.1.2.0 (le_refl y.end) k) (widen y.end z.start z.end s.end (expr_checks d) p.1.2.2.0 p.2 l))

signed_inside : (s : Span) (op : PrefixOp) (e : ExprSyntax) (c : ExprCore) (label : Label) (t : ValueType) → Labelled label t (prefix_sites op) (first_token s 1) → FormedExpr (syntax.Prefix s op e) → Placed (expr_node (syntax.Prefix s op e)) → Inside (expr_node e) (expr_checks c)
    → Inside (expr_node (syntax.Prefix s op e)) (expr_checks (core.Prefix label op c))
signed_inside s op e c label t l f p h = token_then s (expr_node e) label.checks (expr_checks c) p (before_of s e f.0) (label_rising l (orderly_prefix op) (s.start + 1) (lt_next s.start)) h

mutual
  pub has_inside : {env : Env} {e : ExprSyntax} {c : ExprCore} → Has env e c → FormedExpr e → Placed (expr_node e) → Inside (expr_node e) (expr_checks c)
  has_inside (rule.truth {s = s}) f p = lt_is_le s.start s.end p.0
  has_inside (rule.outcome {s = s} h g) f p = lt_is_le s.start s.end p.0
  has_inside (rule.local {s = s} h) f p = lt_is_le s.start s.end p.0
  has_inside (rule.area_name {s = s} n h g k) f p = lt_is_le s.start s.end p.0
  has_inside (rule.cast {s = s} {kind = kind} {e = e} {c = c} {label = label} h i l) f p =
      token_then s (expr_node e) label.checks (expr_checks c) p (before_of s e f.0) (label_rising l (orderly_unless (has_values_of kind (core.type_of c)) site.Cast) (s.start + 1) (lt_next s.start)) (has_inside h f.1 p.1.1)
  has_inside (rule.cast_literal {s = s} {e = e} {c = c} n u) f p = one_inside s (expr_node e) (expr_checks c) p (under_inside u f.1 p.1.1)
  has_inside (rule.to_index {s = s} {n = n} {e = e} {c = c} {label = label} k h i l) f p =
      token_then s (expr_node e) label.checks (expr_checks c) p (before_of s e f.0) (label_rising l (orderly_index n (core.type_of c)) (s.start + 1) (lt_next s.start)) (has_inside h f.1 p.1.1)
  has_inside (rule.wrap_index {s = s} {e = e} {c = c} k h i) f p = one_inside s (expr_node e) (expr_checks c) p (has_inside h f p.1.1)
  has_inside (rule.make_bits {s = s} {e = e} {c = c} n v u) f p = one_inside s (expr_node e) (expr_checks c) p (under_inside u f p.1.1)
  has_inside (rule.raw {s = s} {e = e} {c = c} h v) f p = one_inside s (expr_node e) (expr_checks c) p (has_inside h f p.1.1)
  has_inside (rule.set_field {s = s} {e = e} {value = value} {c = c} {d = d} {f = field} {label = label} h q n m u l) f p =
      let a = place (expr_node e) in
      let b = place (expr_node value) in
      join s.start (s.start + 1) s.end label.checks (expr_checks c ++ expr_checks d) (label_rising l (orderly_unless _ site.Cast) (s.start + 1) (lt_next s.start))
      (join (s.start + 1) a.end s.end (expr_checks c) (expr_checks d) (widen (s.start + 1) a.start a.end a.end (expr_checks c) (next_le s.start a.start (before_of s e f.0)) (le_refl a.end) (has_inside h f.2 p.1.1))
      (widen a.end b.start b.end s.end (expr_checks d) p.1.2.0 p.2 (under_inside u f.3 p.1.2.1)))
  has_inside (rule.negated {s = s} {e = e} {c = c} u) f p = one_inside s (expr_node e) (expr_checks c) p (under_inside u f.1 p.1.1)
  has_inside (rule.read {s = s} {e = e} {c = c} h q) f p = one_inside s (expr_node e) (expr_checks c) p (has_inside h f.1 p.1.1)
  has_inside (rule.signed {s = s} {op = op} {e = e} {c = c} {label = label} a h t l) f p = signed_inside s op e c label (core.type_of c) l f p (has_inside h f.1 p.1.1)
  has_inside (rule.logical {s = s} {at = at} {op = op} {left = left} {right = right} {c = c} {d = d} l u v) f p =
      binary_inside s at op left right c d (unchecked types.Truth) types.Truth [] (record { ty = refl; checks = record { kinds = refl; places = refl } }) tt f p (under_inside u f.1 p.1.1) (under_inside v f.2 p.1.2.1)
  has_inside (rule.by_left {s = s} {at = at} {op = op} {left = left} {right = right} {c = c} {d = d} {label = label} l h u i k) f p =
      binary_inside s at op left right c d label _ (operator_sites op (core.type_of c)) k (orderly_operator op (core.type_of c)) f p (has_inside h f.1 p.1.1) (under_inside u f.2 p.1.2.1)
  has_inside (rule.by_right {s = s} {at = at} {op = op} {left = left} {right = right} {c = c} {d = d} {label = label} l n h u i k) f p =
      binary_inside s at op left right c d label _ (operator_sites op (core.type_of d)) k (orderly_operator op (core.type_of d)) f p (under_inside u f.1 p.1.1) (has_inside h f.2 p.1.2.1)
  has_inside (rule.bit_field {s = s} {e = e} {c = c} h q t n) f p =
      let cs = expr_checks (part (is_postfix_prefix s e) c) in
      let a = place (expr_node e) in
      and_none s.start s.end (cs ++ []) (and_none s.start s.end cs (widen s.start a.start a.end s.end cs p.1.0 p.2 (part_rising a.start a.end (is_postfix_prefix s e) c (has_inside h f p.1.1))))
  has_inside (rule.field {s = s} {e = e} {c = c} h q t n) f p =
      let cs = expr_checks (part (is_postfix_prefix s e) c) in
      let a = place (expr_node e) in
      and_none s.start s.end (cs ++ []) (and_none s.start s.end cs (widen s.start a.start a.end s.end cs p.1.0 p.2 (part_rising a.start a.end (is_postfix_prefix s e) c (has_inside h f p.1.1))))
  has_inside (rule.element {s = s} {brackets = brackets} {e = e} {index = index} {c = c} {d = d} h q u) f p =
      let cs = expr_checks (part (is_postfix_prefix s e) c) in
      let a = place (expr_node e) in
      and_none s.start s.end (cs ++ expr_checks d)
      (two_inside s (expr_node e) (expr_node index) cs (expr_checks d) p (part_rising a.start a.end (is_postfix_prefix s e) c (has_inside h f.0 p.1.1)) (under_inside u f.1 p.1.2.1))
  has_inside (rule.choice_by_first {s = s} {test = test} {first = first} {second = second} {b = b} {c = c} {d = d} u h v n) f p =
      choice_inside s test first second b c d (core.type_of c) p (under_inside u f.0 p.1.1) (has_inside h f.1 p.1.2.1) (under_inside v f.2 p.1.2.2.1)
  has_inside (rule.choice_by_second {s = s} {test = test} {first = first} {second = second} {b = b} {c = c} {d = d} u m h v n) f p =
      choice_inside s test first second b c d (core.type_of d) p (under_inside u f.0 p.1.1) (under_inside v f.1 p.1.2.1) (has_inside h f.2 p.1.2.2.1)

  pub under_inside : {env : Env} {t : ValueType} {e : ExprSyntax} {c : ExprCore} → Under env t e c → FormedExpr e → Placed (expr_node e) → Inside (expr_node e) (expr_checks c)
  under_inside (rule.has h q) f p = has_inside h f p
  under_inside (rule.literal {s = s} h) f p = lt_is_le s.start s.end p.0
  under_inside (rule.signed_under {t = t} {s = s} {op = op} {e = e} {c = c} {label = label} a n u q l) f p = signed_inside s op e c label t l f p (under_inside u f.1 p.1.1)
  under_inside (rule.operated_under {t = t} {s = s} {at = at} {op = op} {left = left} {right = right} {c = c} {d = d} {label = label} g n m u v i l) f p =
      binary_inside s at op left right c d label t (operator_sites op t) l (orderly_operator op t) f p (under_inside u f.1 p.1.1) (under_inside v f.2 p.1.2.1)
  under_inside (rule.choice_under {t = t} {s = s} {test = test} {first = first} {second = second} {b = b} {c = c} {d = d} u n m v x) f p =
      choice_inside s test first second b c d t p (under_inside u f.0 p.1.1) (under_inside v f.1 p.1.2.1) (under_inside x f.2 p.1.2.2.1)

-- ---- rows

abbrev pub InRow : ℕ → Nodes → List Check → Type 0
InRow low ns cs = Rising low cs (last_end low ns)

-- a node, and then a row
node_then : (low : ℕ) (n : Node) (ns : Nodes) (xs ys : List Check) → low ≤ (place n).start → Inside n xs → InRow (place n).end ns ys → InRow low (Cons n ns) (xs ++ ys)
node_then low n ns xs ys h k r = join low (place n).end (last_end (place n).end ns) xs ys (widen low (place n).start (place n).end (place n).end xs h (le_refl (place n).end) k) r

-- all within the place around a row
row_inside : (s : Span) (ns : Nodes) (cs : List Check) → Placed (At s ns) → InRow s.start ns cs → Inside (At s ns) cs
row_inside s ns cs p r = widen s.start s.start (last_end s.start ns) s.end cs (le_refl s.start) p.2 r

args_inside : {env : Env} {regions : ℕ → Region} {params : List (Option ValueType)} {args : List ExprSyntax} {cs : List ExprCore} → Fit env regions params args cs → All FormedExpr args → (low : ℕ) → PlacedRow low (nodes_from (map expr_node args))
    → InRow low (nodes_from (map expr_node args)) (flat_map expr_checks cs)
args_inside no_args f low p = le_refl low
args_inside (value_arg {e = e} {args = args} {c = c} {cs = cs} n u fit) f low p =
    node_then low (expr_node e) (nodes_from (map expr_node args)) (expr_checks c) (flat_map expr_checks cs) p.0 (under_inside u (All-head FormedExpr e args f) p.1) (args_inside fit (All-tail FormedExpr e args f) (place (expr_node e)).end p.2)
args_inside (reference_arg {e = e} {args = args} {c = c} {cs = cs} r h g x fit) f low p =
    node_then low (expr_node e) (nodes_from (map expr_node args)) (expr_checks c) (flat_map expr_checks cs) p.0 (has_inside h (All-head FormedExpr e args f) p.1) (args_inside fit (All-tail FormedExpr e args f) (place (expr_node e)).end p.2)

call_inside : {env : Env} {call : CallSyntax} {c : CallCore} {result : Option ValueType} → Calls env call c result → All FormedExpr call.args → Placed (call_node call) → Inside (call_node call) (call_checks c)
call_inside {call = call} {c = c} k f p = row_inside call.span (nodes_from (map expr_node call.args)) (call_checks c) p (args_inside k.fit f call.span.start p.1)

mutual
  init_inside : {env : Env} {a : Area} {i : InitSyntax} {c : InitCore} → Fills env a i c → FormedInit i → Placed (init_node i) → Inside (init_node i) (init_checks c)
  init_inside (stored {e = e} {c = c} u) f p = one_inside (expr_span e) (expr_node e) (expr_checks c) p (under_inside u f p.1.1)
  init_inside (array {s = s} {inits = inits} {cs = cs} more) f p = row_inside s (init_nodes inits) (inits_checks cs) p (elements_inside more f s.start p.1)
  init_inside (struct {s = s} {inits = inits} {cs = cs} at more) f p = row_inside s (init_nodes inits) (inits_checks cs) p (fields_inside more f s.start p.1)

  elements_inside : {env : Env} {n : ℕ} {element : Area} {is : InitsSyntax} {cs : InitsCore} → FillElements env n element is cs → FormedInits is → (low : ℕ) → PlacedRow low (init_nodes is) → InRow low (init_nodes is) (inits_checks cs)
  elements_inside no_elements f low p = le_refl low
  elements_inside (more_elements {i = i} {is = is} {c = c} {cs = cs} h more) f low p =
      node_then low (init_node i) (init_nodes is) (init_checks c) (inits_checks cs) p.0 (init_inside h f.0 p.1) (elements_inside more f.1 (place (init_node i)).end p.2)

  fields_inside : {env : Env} {fields : List types.Field} {is : InitsSyntax} {cs : InitsCore} → FillFields env fields is cs → FormedInits is → (low : ℕ) → PlacedRow low (init_nodes is) → InRow low (init_nodes is) (inits_checks cs)
  fields_inside no_fields f low p = le_refl low
  fields_inside (more_fields {i = i} {is = is} {c = c} {cs = cs} h more) f low p =
      node_then low (init_node i) (init_nodes is) (init_checks c) (inits_checks cs) p.0 (init_inside h f.0 p.1) (fields_inside more f.1 (place (init_node i)).end p.2)

-- ---- statements

empty_inside : (s : Span) (ns : Nodes) → Placed (At s ns) → Inside (At s ns) []
empty_inside s ns p = lt_is_le s.start s.end p.0

nonempty : (n : Node) → Placed n → (place n).start < (place n).end
nonempty (At s ns) p = p.0

alloc_inside : {env : Env} {a : Area} {init : Option InitSyntax} {c : Option InitCore} → MayFill env a init c → (s : Span) (name : Name) (text : AreaSyntax) (number : ℕ) → IfSome init FormedInit → Placed (stmt_node (syntax.Alloc s name text init))
    → Inside (stmt_node (syntax.Alloc s name text init)) (stmt_checks (core.Alloc number a c))
alloc_inside stands.zero s name text number f p = empty_inside s (one (area_node text)) p
alloc_inside (stands.filled {i = i} {c = c} h) s name text number f p =
    let n = init_node i in
    let k = init_inside h f p.1.2.1 in
    let a = place (area_node text) in
    widen s.start (place n).start (place n).end s.end (init_checks c) (le_both s.start a.start (place n).start p.1.0 (le_both a.start a.end (place n).start (lt_is_le a.start a.end (nonempty (area_node text) p.1.1)) p.1.2.0)) p.2 k

return_inside : {env : Env} {o : Option ValueType} {e : Option ExprSyntax} {c : Option ExprCore} → Returns env o e c → (s : Span) → IfSome e FormedExpr → Placed (stmt_node (syntax.Return s e)) → Inside (stmt_node (syntax.Return s e)) (stmt_checks (core.Return c))
return_inside stands.nothing s f p = empty_inside s Nil p
return_inside (stands.value {e = e} {c = c} n u) s f p = one_inside s (expr_node e) (expr_checks c) p (under_inside u f p.1.1)
return_inside (stands.reference {e = e} {c = c} r h g x) s f p = one_inside s (expr_node e) (expr_checks c) p (has_inside h f p.1.1)

-- a check at the first token, and then a condition
marked_inside : (s : Span) (e : ExprSyntax) (check : Check) (kind : SiteKind) (bytes : ℕ) (cs : List Check) → Marks check kind (first_token s bytes) → Placed (At s (one (expr_node e))) → s.start < (expr_span e).start → Inside (expr_node e) cs
    → Inside (At s (one (expr_node e))) (check ∷ cs)
marked_inside s e check kind bytes cs m p b h =
    let start : check.span.start ≡ s.start = ap (λ (x : Span). x.start) m.1 in
    token_then s (expr_node e) (check ∷ []) cs p (before_of s e b) (omega arith, omega arith) h

mutual
  stmt_inside : {env after : Env} {s : StmtSyntax} {c : StmtCore} → StandsStmt env s after c → FormedStmt s → Placed (stmt_node s) → Inside (stmt_node s) (stmt_checks c)
  stmt_inside (stands.let_stands {s = s} {e = e} {c = c} x h) f p = one_inside s (expr_node e) (expr_checks c) p (has_inside h f p.1.1)
  stmt_inside (stands.let_call_stands {s = s} {call = call} {c = c} x k) f p = one_inside s (call_node call) (call_checks c) p (call_inside k f p.1.1)
  stmt_inside (stands.alloc_stands {env = env} {s = s} {name = name} {text = text} a x names fill) f p = alloc_inside fill s name text (next env) f.1 p
  stmt_inside (stands.store_stands {s = s} {target = target} {value = value} {c = c} {d = d} h q u) f p = two_inside s (expr_node target) (expr_node value) (expr_checks c) (expr_checks d) p (has_inside h f.0 p.1.1) (under_inside u f.1 p.1.2.1)
  stmt_inside (stands.copy_stands {s = s} {target = target} {source = source} {c = c} {d = d} h g k) f p = two_inside s (expr_node target) (expr_node source) (expr_checks c) (expr_checks d) p (has_inside h f.0 p.1.1) (has_inside g f.1 p.1.2.1)
  stmt_inside (stands.call_stands {s = s} {call = call} {c = c} k) f p = one_inside s (call_node call) (call_checks c) p (call_inside k f p.1.1)
  stmt_inside (stands.if_stands {s = s} {test = test} {first = first} {c = c} {p = q} u b) f p = two_inside s (expr_node test) (block_node first) (expr_checks c) (stmts_checks q) p (under_inside u f.0 p.1.1) (block_inside b f.1 p.1.2.1)
  stmt_inside (stands.if_else_stands {s = s} {test = test} {first = first} {second = second} {c = c} {p = a} {q = b} u h k) f p =
      let x = place (expr_node test) in
      let y = place (block_node first) in
      let z = place (block_node second) in
      join s.start x.end s.end (expr_checks c) (stmts_checks a ++ stmts_checks b) (widen s.start x.start x.end x.end (expr_checks c) p.1.0 (le_refl x.end) (under_inside u f.0 p.1.1))
      (join x.end y.end s.end (stmts_checks a) (stmts_checks b) (widen x.end y.start y.end y.end (stmts_checks a) p.1.2.0 (le_refl y.end) (block_inside h f.1 p.1.2.1)) (widen y.end z.start z.end s.end (stmts_checks b) p.1.2.2.0 p.2 (block_inside k f.2 p.1.2.2.1)))
  stmt_inside (stands.map_stands {s = s} {body = body} {p = q} x l b) f p = one_inside s (block_node body) (stmts_checks q) p (block_inside b f p.1.1)
  stmt_inside (stands.upto_stands {s = s} {bound = bound} {body = body} {c = c} {p = q} x l u b) f p = two_inside s (expr_node bound) (block_node body) (expr_checks c) (stmts_checks q) p (under_inside u f.0 p.1.1) (block_inside b f.1 p.1.2.1)
  stmt_inside (stands.downto_stands {s = s} {bound = bound} {body = body} {c = c} {p = q} x l u b) f p = two_inside s (expr_node bound) (block_node body) (expr_checks c) (stmts_checks q) p (under_inside u f.0 p.1.1) (block_inside b f.1 p.1.2.1)
  stmt_inside (stands.forever_stands {s = s} {body = body} {p = q} b) f p = one_inside s (block_node body) (stmts_checks q) p (block_inside b f p.1.1)
  stmt_inside (stands.break_stands {s = s} a) f p = empty_inside s Nil p
  stmt_inside (stands.return_stands {s = s} a r) f p = return_inside r s f p
  stmt_inside (stands.assert_stands {s = s} {cond = cond} {c = c} {check = check} u m) f p = marked_inside s cond check site.Assert 6 (expr_checks c) m p f.0 (under_inside u f.1 p.1.1)
  stmt_inside (stands.no_alloc_stands {s = s} {body = body} {p = q} b) f p = one_inside s (block_node body) (stmts_checks q) p (block_inside b f p.1.1)
  stmt_inside (stands.no_break_stands {s = s} {body = body} {p = q} b) f p = one_inside s (block_node body) (stmts_checks q) p (block_inside b f p.1.1)
  stmt_inside (stands.no_return_stands {s = s} {body = body} {p = q} b) f p = one_inside s (block_node body) (stmts_checks q) p (block_inside b f p.1.1)

  block_inside : {env last : Env} {b : BlockSyntax} {q : StmtsCore} → StandsBlock env b last q → FormedBlock b → Placed (block_node b) → Inside (block_node b) (stmts_checks q)
  block_inside (stands.braces {s = s} {stmts = stmts} {p = q} all) f p = row_inside s (stmt_nodes stmts) (stmts_checks q) p (all_inside all f s.start p.1)

  all_inside : {env last : Env} {ss : StmtsSyntax} {q : StmtsCore} → StandAll env ss last q → FormedStmts ss → (low : ℕ) → PlacedRow low (stmt_nodes ss) → InRow low (stmt_nodes ss) (stmts_checks q)
  all_inside stands.none_stand f low p = le_refl low
  all_inside (stands.last_stands {s = s} {c = c} h) f low p = node_then low (stmt_node s) Nil (stmt_checks c) [] p.0 (stmt_inside h f.0 p.1) (le_refl (place (stmt_node s)).end)
  all_inside (stands.more_stand {s = s} {next_one = next_one} {rest = rest} {c = c} {p = q} h falls more) f low p =
      node_then low (stmt_node s) (stmt_nodes (syntax.MoreStmts next_one rest)) (stmt_checks c) (stmts_checks q) p.0 (stmt_inside h f.0 p.1) (all_inside more f.1 (place (stmt_node s)).end p.2)

-- ---- procedures and items

contracts_inside : {env : Env} {cs : List ContractSyntax} {ds : List ContractCore} → Contracts env cs ds → All FormedContract cs → (low : ℕ) (more : Nodes) → PlacedRow low (joined (nodes_from (map contract_node cs)) more) → (ys : List Check)
    → ((mid : ℕ) → PlacedRow mid more → InRow mid more ys) → InRow low (joined (nodes_from (map contract_node cs)) more) (flat_map contract_checks ds ++ ys)
contracts_inside item.no_contracts f low more p ys k = k low p
contracts_inside (item.more_contracts {c = c} {contracts = cs} {d = d} {cores = ds} h rest) f low more p ys k =
    let formed = All-head FormedContract c cs f in
    let one_is : Inside (contract_node c) (contract_checks d) = marked_inside c.span c.cond d.check (contract_site c.before) (contract_bytes c.before) (expr_checks d.cond) h.check p.1 formed.0 (under_inside h.cond formed.1 p.1.1.1) in
    subst (InRow low (Cons (contract_node c) (joined (nodes_from (map contract_node cs)) more))) (sym (append_assoc (contract_checks d) (flat_map contract_checks ds) ys))
    (node_then low (contract_node c) (joined (nodes_from (map contract_node cs)) more) (contract_checks d) (flat_map contract_checks ds ++ ys) p.0 one_is (contracts_inside rest (All-tail FormedContract c cs f) (place (contract_node c)).end more p.2 ys k))

-- a row without checks, and then another
skip_row : (ns more : Nodes) (low : ℕ) (cs : List Check) → PlacedRow low (joined ns more) → ((mid : ℕ) → PlacedRow mid more → InRow mid more cs) → InRow low (joined ns more) cs
skip_row Nil more low cs p k = k low p
skip_row (Cons n ns) more low cs p k =
    widen low (place n).end (last_end (place n).end (joined ns more)) (last_end (place n).end (joined ns more)) cs (le_both low (place n).start (place n).end p.0 (lt_is_le (place n).start (place n).end (nonempty n p.1))) (le_refl _)
    (skip_row ns more (place n).end cs p.2 k)

proc_inside : {env : Env} {p : ProcSyntax} {c : ProcCore} → StandsProc env p c → FormedProc p → Placed (item_node (syntax.Procedure p)) → Inside (item_node (syntax.Procedure p)) (proc_checks c)
proc_inside {p = p} {c = c} h f q =
    let body = one (block_node p.body) in
    let later = joined (nodes_from (map contract_node p.contracts)) body in
    row_inside p.span (proc_nodes p) (proc_checks c) q
    (skip_row (header_nodes p.header) later p.span.start (proc_checks c) q.1
    (λ mid r. contracts_inside h.contracts f.1 mid body r (stmts_checks c.body)
    (λ m b. subst (InRow m body) (append-nil (stmts_checks c.body)) (node_then m (block_node p.body) Nil (stmts_checks c.body) [] b.0 (block_inside h.body f.2 b.1) (le_refl (place (block_node p.body)).end)))))

-- an item without checks
skip_item : (low : ℕ) (n : Node) (ns : Nodes) (cs : List Check) → low ≤ (place n).start → Placed n → InRow (place n).end ns cs → InRow low (Cons n ns) cs
skip_item low n ns cs h p r =
    widen low (place n).end (last_end (place n).end ns) (last_end (place n).end ns) cs (le_both low (place n).start (place n).end h (lt_is_le (place n).start (place n).end (nonempty n p))) (le_refl (last_end (place n).end ns)) r

pub items_inside : {names : List Word} {earlier end : Earlier} {items : List ItemSyntax} {bs : List BitLayout} {as' : List AreaCore} {is : List ImportCore} {ps : List ProcCore} → StandItems names earlier items end bs as' is ps → All FormedItem items
    → (low : ℕ) → PlacedRow low (nodes_from (map item_node items)) → InRow low (nodes_from (map item_node items)) (flat_map proc_checks ps)
items_inside module_rule.no_items f low p = le_refl low
items_inside (module_rule.bits {i = i} {items = items} {ps = ps} h more) f low p =
    skip_item low (item_node (syntax.BitsData i)) (nodes_from (map item_node items)) (flat_map proc_checks ps) p.0 p.1 (items_inside more (All-tail FormedItem (syntax.BitsData i) items f) i.span.end p.2)
items_inside (module_rule.struct {i = i} {items = items} {ps = ps} h more) f low p =
    skip_item low (item_node (syntax.Struct i)) (nodes_from (map item_node items)) (flat_map proc_checks ps) p.0 p.1 (items_inside more (All-tail FormedItem (syntax.Struct i) items f) i.span.end p.2)
items_inside (module_rule.area {i = i} {items = items} {ps = ps} h more) f low p =
    skip_item low (item_node (syntax.Global i)) (nodes_from (map item_node items)) (flat_map proc_checks ps) p.0 p.1 (items_inside more (All-tail FormedItem (syntax.Global i) items f) i.span.end p.2)
items_inside (module_rule.import {h = x} {items = items} {ps = ps} h more) f low p =
    skip_item low (item_node (syntax.Import x)) (nodes_from (map item_node items)) (flat_map proc_checks ps) p.0 p.1 (items_inside more (All-tail FormedItem (syntax.Import x) items f) x.span.end p.2)
items_inside (module_rule.procedure {p = x} {items = items} {c = c} {ps = ps} h more) f low p =
    node_then low (item_node (syntax.Procedure x)) (nodes_from (map item_node items)) (proc_checks c) (flat_map proc_checks ps) p.0 (proc_inside h (All-head FormedItem (syntax.Procedure x) items f) p.1)
    (items_inside more (All-tail FormedItem (syntax.Procedure x) items f) x.span.end p.2)
