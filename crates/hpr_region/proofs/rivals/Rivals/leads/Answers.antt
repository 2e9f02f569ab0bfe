use Rattle.std.proofs.Common.{List, ℕ, ap, ◌∙◌}
use Rattle.hpr_forest.specs.Marks.{is_in}
use Rattle.hpr_region.proofs.Rivalry.{source_reader}
use Rattle.hpr_region.proofs.rivals.Rivals.leads.Goals as goal

pub returns : goal.returns
returns c = c.has.ensures ∙ ap (λ (xs : List ℕ). is_in xs c.args.source) c.sources_of.ensures ∙ source_reader c.args.flows.now c.args.self.now c.requires.rivals c.args.source c.args.item
