use Rattle.std.proofs.Common.{◌∙◌, Bool, Option, List, IfSome, length, sym, subst}
use Rattle.std.proofs.lemmas.Bool.{eqb-true}
use Rattle.std.proofs.lemmas.List.{nil_from_length}
use Rattle.hpr_paths.specs.Successors.{spots}
use Rattle.hpr_build.specs.Variables.{IsFreeRow}
use Rattle.hpr_build.proofs.flow_links.push_flows_of.Goals as goal

pub push_free_flows-requires-clause-none : goal.push_free_flows-requires-clause-none
push_free_flows-requires-clause-none c = nil_from_length c.args.variable.now.definitions.now
    (eqb-true (length c.args.variable.now.definitions.now) 0 (sym c.is_empty.ensures ∙ c.if-is_empty.true))

pub push_free_flows-requires-clause-row : goal.push_free_flows-requires-clause-row
push_free_flows-requires-clause-row c = subst (λ (o : Option (List Bool)). IfSome o (IsFreeRow (spots c.args.tables.now.program.now))) c.in-Some.is
    c.requires.tables.free
