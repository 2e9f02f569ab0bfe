use Rattle.std.proofs.Common.{length, sym}
use Rattle.std.proofs.lemmas.Bool.{eqb-true}
use Rattle.hpr_located.specs.Sources.{standing_of}
use Rattle.hpr_kit.proofs.Merging.{not_turned, turned}
use Rattle.hpr_kit.proofs.merge.turn.Goals as goal

pub returns-then-not-is_empty : goal.returns-then-not-is_empty
returns-then-not-is_empty c = turned standing_of c.args.sources.now c.rotate_left.new.self c.rotate_left.ensures.after

pub returns-else-not-is_empty : goal.returns-else-not-is_empty
returns-else-not-is_empty c = not_turned standing_of c.args.sources.now (eqb-true (length c.args.sources.now) 0 (sym c.if-not-is_empty.ensures))
