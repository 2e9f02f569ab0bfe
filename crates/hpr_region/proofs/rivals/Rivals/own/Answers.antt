use Rattle.std.proofs.Common.{ℕ, ◌<◌, List, All, vec_len, sym, subst}
use Rattle.hpr_region.proofs.Rivalry.{sources_within}
use Rattle.hpr_region.proofs.rivals.Rivals.own.Goals as goal

pub tied-requires-clause-sources : goal.tied-requires-clause-sources
tied-requires-clause-sources c = subst (λ (ds : List ℕ). All (λ k. k < vec_len c.args.flows.now.slots) ds) (sym c.sources_of.ensures) (sources_within c.args.flows.now c.args.self.now c.requires.rivals c.args.child)
