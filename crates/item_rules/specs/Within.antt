-- The first fault within an area of the module and within a procedure, of its parts one after another, and an item with its parts.
use Rattle.std.specs.Prelude.{ℕ, List, ◌∷◌, Option}
use Rattle.iv_words.specs.declared.Span.{Span}
use Rattle.ivory_tree.specs.Syntax.{GlobalSyntax, ProcSyntax, ItemSyntax}
use Rattle.source_types.specs.Written.{area_in}
use Rattle.rule_faults.specs.Contexts.{Context, of_body}
use Rattle.rule_faults.specs.ExpressionRows.{area_row}
use Rattle.rule_faults.specs.FirstFault.{first_of}
use Rattle.rule_faults.specs.ItemRows.{init_rows, header_row, at_header, with_params, contracts_row, boundary_of, within_item}
use Rattle.rule_faults.specs.Nodes.{Node, AnItem}
use Rattle.rule_faults.specs.StatementRows.{block_row}
use Rattle.rule_checker.specs.Faults.{either}

abbrev pub global_fault : Context → GlobalSyntax → Option (ℕ × Span)
global_fault context i = either (first_of (area_row context.earlier i.area)) (first_of (init_rows context (area_in context.earlier i.area) i.init))

-- in the context of its parameters
abbrev pub body_fault : Context → ProcSyntax → Option (ℕ × Span)
body_fault context p = either (first_of (contracts_row context p.contracts)) (first_of (block_row (record context { allowed = of_body }) context.gives p.body))

abbrev pub proc_fault : Context → ProcSyntax → Option (ℕ × Span)
proc_fault context p = either (first_of (header_row context (boundary_of p.exported) p.header)) (body_fault (with_params (at_header context p.header) p.header.params) p)

abbrev pub item_row : Context → ItemSyntax → List Node
item_row context item = AnItem context.earlier item ∷ within_item context item
