use Rattle.std.proofs.Common.{◌∙◌, map}
use Rattle.hpr_located.specs.Sources.{standing_of}
use Rattle.hpr_kit.proofs.Merging.{first_told}
use Rattle.hpr_kit.proofs.merge.files_for.Goals as goal

pub returns-in_default : goal.returns-in_default
returns-in_default c = c.variants_first.ensures ∙ first_told c.args.outcome.now (map standing_of c.args.sources.items) c.in_default.not-Interference
