use Rattle.std.proofs.Common.{◌≡◌, ◌≤◌, ◌+◌, ◌*◌, ◌++◌, drop, vec_len}
use Rattle.hpr_syntax.specs.Body.{part_count, done}
use Rattle.hpr_syntax.specs.BodyOf.{body_of, before}
use Rattle.hpr_build.specs.Places.{places_of}
use Rattle.hpr_build.proofs.places.+push.Given as goal

abbrev pub invariant-push_block-loop-stmt : goal.invariant-push_block-loop-stmt
invariant-push_block-loop-stmt l = record {
  view : l.block ≡ body_of l.stmt-items;
  part : part_count (body_of (drop l.stmt-index l.stmt-items)) ≤ part_count l.block;
  places : l.places.items ++ places_of (body_of (drop l.stmt-index l.stmt-items)) (vec_len l.places + 1) l.parent l.others ≡ l.fn.places.items ++ places_of l.block (vec_len l.fn.places + 1) l.parent l.others;
  len : vec_len l.places + part_count (body_of (drop l.stmt-index l.stmt-items)) ≡ vec_len l.fn.places + part_count l.block;
}

abbrev pub decreases-push_block : goal.decreases-push_block
decreases-push_block l = 2 * part_count l.block.now + 1

abbrev pub decreases-push_stmt : goal.decreases-push_stmt
decreases-push_stmt l = 2 * part_count (before l.stmt.now done)
