use Rattle.std.proofs.Common.{sym, ap, ◌∙◌, arith}
use Rattle.hpr_forest.specs.Blocks.{row_at}
use Rattle.hpr_order.proofs.Steps.{read_of}
use Rattle.hpr_region.proofs.flows.Flows.readers_of.Goals as goal

pub returns : goal.returns
returns c = c.deref.ensures.value
    ∙ ap row_at (sym (read_of c.args.self.now.readers.items c.args.item c.index.result.now (omega arith)
    c.index.ensures))
