use Rattle.std.proofs.Common.{◌≡◌, vec_len, take}
use Rattle.hpr_syntax.specs.BodyOf.{body_of}
use Rattle.hpr_edit.specs.InPlace.{times}
use Rattle.hpr_edit.proofs.change.+change.Given as goal

abbrev pub decreases-change_part : goal.decreases-change_part
decreases-change_part l = goal.size-change_part l

abbrev pub decreases-change_within : goal.decreases-change_within
decreases-change_within l = goal.size-change_within l

-- the parts that were looked at don't hold the tag, and nothing has changed
abbrev pub invariant-change_part-loop-at : goal.invariant-change_part-loop-at
invariant-change_part-loop-at l =
    (body_of l.block-inside.stmts.items ≡ l.fn.block) ×
    (l.at-end ≡ vec_len l.block-inside.stmts) ×
    (times l.tag (body_of (take l.at l.block-inside.stmts.items)) ≡ 0)
