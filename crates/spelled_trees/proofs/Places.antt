-- Where the nodes of a row stand: within it, one after another.
use Rattle.std.proofs.Common.{ℕ, ◌<◌, ◌≤◌, [], ◌∷◌, ◌++◌, arith}
use Rattle.iv_words.specs.declared.Span.{Span}
use Rattle.ivory_lexer.specs.declared.Token.{Token}
use Rattle.ivory_tree.specs.Nodes.{Node, At, Nodes, Nil, Cons, place, one, joined}
use Rattle.ivory_tree.specs.Formed.{Placed, PlacedRow, last_end}
use Rattle.reading.specs.Row.{Row, tokens}
use Rattle.expression_grammar.specs.Tokens.{span_of}
use Rattle.spelled_trees.proofs.Order.{Ordered, Where, upward, split, Filled, filled_front, filled_up, tight}

-- ---- between two places

pub record Inside (low high : ℕ) (n : Node) : Type 0 where
  pub begins : low ≤ (place n).start
  pub placed : Placed n
  pub ends : (place n).end ≤ high

pub record AllInside (low high : ℕ) (ns : Nodes) : Type 0 where
  pub placed : PlacedRow low ns
  pub ends : last_end low ns ≤ high

pub not_empty : (n : Node) → Placed n → (place n).start < (place n).end
not_empty (At s ns) p = p.0

pub no_nodes : {low high : ℕ} → low ≤ high → AllInside low high Nil
no_nodes up = record { placed = tt; ends = up }

pub wider : {low high less more : ℕ} {n : Node} → less ≤ low → high ≤ more → Inside low high n → Inside less more n
wider before after i = record { begins = omega (arith, i.begins); placed = i.placed; ends = omega (arith, i.ends) }

pub all_wider : {low high less more : ℕ} {ns : Nodes} → less ≤ low → high ≤ more → AllInside low high ns → AllInside less more ns
all_wider {ns = Nil} before after i = record { placed = tt; ends = omega (arith, i.ends) }
all_wider {ns = Cons n ns} before after i = record { placed = (omega (arith, i.placed.0), i.placed.1, i.placed.2); ends = omega (arith, i.ends) }

pub one_more : {low mid high : ℕ} {n : Node} {ns : Nodes} → Inside low mid n → AllInside mid high ns → AllInside low high (Cons n ns)
one_more {low} {mid} {high} {n} {ns} i is =
    let rest : AllInside (place n).end high ns = all_wider i.ends (omega arith) is in
    record { placed = (i.begins, i.placed, rest.placed); ends = rest.ends }

pub all_joined : {low mid high : ℕ} (ns : Nodes) {ms : Nodes} → AllInside low mid ns → AllInside mid high ms → AllInside low high (joined ns ms)
all_joined Nil i is = all_wider i.ends (omega arith) is
all_joined {mid} {high} (Cons n ns) {ms} i is =
    let rest : AllInside (place n).end high (joined ns ms) = all_joined ns (record { placed = i.placed.2; ends = i.ends }) is in
    record { placed = (i.placed.0, i.placed.1, rest.placed); ends = rest.ends }

pub node_inside : {low high : ℕ} {s : Span} {ns : Nodes} → low ≤ s.start → s.start < s.end → s.end ≤ high → AllInside s.start s.end ns → Inside low high (At s ns)
node_inside before some after is = record { begins = before; placed = (some, is.placed, is.ends); ends = after }

-- ---- the nodes of a row of tokens

pub record Lies (row : Row Token) (n : Node) : Type 0 where
  pub inside : {low high : ℕ} → Ordered low row high → Inside low high n

pub record AllLie (row : Row Token) (ns : Nodes) : Type 0 where
  pub inside : {low high : ℕ} → Ordered low row high → AllInside low high ns

pub lie_none : {row : Row Token} → AllLie row Nil
lie_none = record { inside = λ o. no_nodes (upward o) }

pub lie_behind : (f : Row Token) {g : Row Token} {ns : Nodes} → AllLie g ns → AllLie (f ++ g) ns
lie_behind f {g} l = record { inside = λ o. let m = split f g o in all_wider (upward m.front) (omega arith) (l.inside m.back) }

pub lie_ahead : {f : Row Token} (g : Row Token) {ns : Nodes} → AllLie f ns → AllLie (f ++ g) ns
lie_ahead {f} g l = record { inside = λ o. let m = split f g o in all_wider (omega arith) (upward m.back) (l.inside m.front) }

pub lie_then : {f g : Row Token} {n : Node} {ns : Nodes} → Lies f n → AllLie g ns → AllLie (f ++ g) (Cons n ns)
lie_then {f} {g} l ls = record { inside = λ o. let m = split f g o in one_more (l.inside m.front) (ls.inside m.back) }

pub lie_joined : {f g : Row Token} {ns ms : Nodes} → AllLie f ns → AllLie g ms → AllLie (f ++ g) (joined ns ms)
lie_joined {f} {g} {ns} l ls = record { inside = λ o. let m = split f g o in all_joined ns (l.inside m.front) (ls.inside m.back) }

pub lies_alone : {f : Row Token} {n : Node} → Lies f n → AllLie f (one n)
lies_alone l = record { inside = λ {low} {high} o. one_more (l.inside o) (no_nodes (omega arith)) }

pub lies_ahead : {f : Row Token} (g : Row Token) {n : Node} → Lies f n → Lies (f ++ g) n
lies_ahead {f} g l = record { inside = λ o. let m = split f g o in wider (omega arith) (upward m.back) (l.inside m.front) }

pub lies_behind : (f : Row Token) {g : Row Token} {n : Node} → Lies g n → Lies (f ++ g) n
lies_behind f {g} l = record { inside = λ o. let m = split f g o in wider (upward m.front) (omega arith) (l.inside m.back) }

-- a node at the span of its tokens
pub lies_at : {row : Row Token} {ns : Nodes} → Filled row → AllLie row ns → Lies row (At (span_of (tokens row)) ns)
lies_at {row} filled l = record { inside = λ o. let t = tight row filled o in node_inside t.begins t.some t.ends (l.inside t.inside) }

-- a row with a node has a token
pub filled_node : (f : Row Token) (n : Node) → Lies f n → Filled f
filled_node [] n l =
    let i : Inside 0 0 n = l.inside (record { in_order = omega arith }) in
    let some = not_empty n i.placed in
    absurd (omega (arith, i.ends))
filled_node (m ∷ f) n l = tt

-- a node behind the first tokens begins after the span of all
pub begins_later : (f : Row Token) {g : Row Token} {n : Node} {ns : Nodes} → Filled f → AllLie g (Cons n ns) → Where (f ++ g) ((span_of (tokens (f ++ g))).start < (place n).start)
begins_later f {g} {ns = ns} filled l = record {
  holds = λ o.
      let t = tight (f ++ g) (filled_front f g filled) o in
      let m = split f g t.inside in
      let is = l.inside m.back in
      omega (arith, filled_up filled m.front, is.placed.0);
}

-- what a row spells, seen as a node, and as something that has a form
pub record Stands {B : Type 0} (node : B → Node) (Form : B → Type 0) (row : Row Token) (b : B) : Type 0 where
  pub lies : Lies row (node b)
  pub formed : Where row (Form b)
