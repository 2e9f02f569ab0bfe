use Rattle.std.proofs.Common.{sym, ◌∙◌}
use Rattle.hpr_region.proofs.Latest.{last_within}
use Rattle.hpr_region.proofs.flows.Flows.clashes.Goals as goal

pub is_reached_wrongly-requires-clause-last : goal.is_reached_wrongly-requires-clause-last
is_reached_wrongly-requires-clause-last c = λ v d e. last_within c.args.self.now v c.args.placed.now d (sym (c.requires.summary.last v) ∙ e)

pub kills-requires : goal.kills-requires
kills-requires c = record {
  rivals = c.requires.rivals;
  needs = c.requires.needs;
  row = c.requires.row;
  marks = c.requires.marks;
  child = c.requires.child;
  once = c.requires.once;
  fresh = c.requires.fresh;
}
