use Rattle.std.proofs.Common.{List, Contains, ap, sym, subst}
use Rattle.std.proofs.lemmas.Bool.{both_ways}
use Rattle.hpr_graph.specs.declared.link.Link.{Link}
use Rattle.hpr_graph.specs.Numbered.{row_items}
use Rattle.hpr_graph.proofs.draft.Draft.add_link.Goals as goal

pub returns-then-has_link-clause-there : goal.returns-then-has_link-clause-there
returns-then-has_link-clause-there c =
    subst (λ (ls : List Link). Contains ls c.args.link) (sym (ap row_items c.edges_into.ensures.row)) (c.has_link.ensures.0 c.if-has_link.true)

pub push_new_link-requires-clause-fresh : goal.push_new_link-requires-clause-fresh
push_new_link-requires-clause-fresh c = λ h.
    both_ways c.has_link.result c.if-has_link.false (c.has_link.ensures.1 (subst (λ (ls : List Link). Contains ls c.args.link) (ap row_items c.edges_into.ensures.row) h))

pub returns-clause-known : goal.returns-clause-known
returns-clause-known c = λ h.
    absurd (both_ways c.has_link.result c.if-has_link.false (c.has_link.ensures.1 (subst (λ (ls : List Link). Contains ls c.args.link) (ap row_items c.edges_into.ensures.row) h)))
