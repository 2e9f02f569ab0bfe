use Rattle.std.proofs.Common.{◌≡◌, ◌≤◌, ◌+◌, ◌*◌, ◌++◌, drop, vec_len}
use Rattle.hpr_syntax.specs.Body.{part_count, done}
use Rattle.hpr_syntax.specs.BodyOf.{body_of, before}
use Rattle.hpr_paths.specs.Successors.{spots_of}
use Rattle.hpr_paths.proofs.build.+push.Given as goal

abbrev pub invariant-push_block-loop-i : goal.invariant-push_block-loop-i
invariant-push_block-loop-i l = record {
  view : l.block ≡ body_of l.stmt-items;
  part : part_count (body_of (drop l.i l.stmt-items)) ≤ part_count l.block;
  spots : l.spots.items ++ spots_of (body_of (drop l.i l.stmt-items)) (vec_len l.spots) l.follow l.nest ≡ l.fn.spots.items ++ spots_of l.block (vec_len l.fn.spots) l.follow l.nest;
  len : vec_len l.spots + part_count (body_of (drop l.i l.stmt-items)) ≡ vec_len l.fn.spots + part_count l.block;
}

abbrev pub decreases-push_block : goal.decreases-push_block
decreases-push_block l = 2 * part_count l.block.now + 1

abbrev pub decreases-push_stmt : goal.decreases-push_stmt
decreases-push_stmt l = 2 * part_count (before l.stmt.now done)
