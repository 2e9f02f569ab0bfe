use Rattle.std.proofs.Common.{◌≡◌, take, vec_len}
use Rattle.hpr_paths.specs.Successors.{spots}
use Rattle.hpr_build.specs.Reaching.{AreReaching}
use Rattle.hpr_build.proofs.reaching.rows_by_searches.Given as goal

abbrev pub invariant-loop-user : goal.invariant-loop-user
invariant-loop-user l = record {
  len : vec_len l.rows ≡ l.user-index;
  exact : AreReaching (spots l.tables.program.now) l.variable.name.now l.variable.definitions.now (take l.user-index l.variable.users.now) l.rows.items;
}
