use Rattle.std.proofs.Common.{◌∙◌}
use Rattle.hpr_located.proofs.Standing.{by_order}
use Rattle.hpr_located.proofs.source.Source.place.Goals as goal

pub returns : goal.returns
returns c = c.copied.ensures ∙ c.get.ensures.value ∙ by_order c.args.vertex.now c.args.self.now.places.entries
