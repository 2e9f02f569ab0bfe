use Rattle.std.proofs.Common.{◌≡◌, vec_len, take}
use Rattle.hpr_syntax.specs.BodyOf.{body_of}
use Rattle.hpr_edit.specs.InPlace.{times}
use Rattle.hpr_edit.proofs.exchange.+exchange.Given as goal

abbrev pub decreases-exchange : goal.decreases-exchange
decreases-exchange l = goal.size-exchange l

abbrev pub decreases-exchange_within : goal.decreases-exchange_within
decreases-exchange_within l = goal.size-exchange_within l

-- the parts that were looked at don't hold the tag, and nothing has changed
abbrev pub invariant-exchange-loop-at : goal.invariant-exchange-loop-at
invariant-exchange-loop-at l =
    (body_of l.block-inside.stmts.items ≡ l.fn.block) ×
    (l.at-end ≡ vec_len l.block-inside.stmts) ×
    (times l.tag (body_of (take l.at l.block-inside.stmts.items)) ≡ 0) ×
    (l.hand ≡ l.fn.hand)
