use Rattle.std.proofs.Common.{length, sym, arith}
use Rattle.std.specs.declared.cmp.Ordering.TheVariants.{Less, Equal, Greater}
use Rattle.std.proofs.lemmas.Cmp.{ranked}
use Rattle.hpr_verify.proofs.Rows.{agree_more, agree_turned, greater_turned, item_at, merged_first, none_apart, offered_less, offered_more}
use Rattle.hpr_verify.proofs.first.first_apart.Goals as goal

pub returns-in-Less : goal.returns-in-Less
returns-in-Less g c =
    let xs = c.args.offered.now in
    let ys = c.args.merged.now in
    let at = c.loop-at.at in
    let x = c.index-offered-at.result in
    let y = c.index-merged-at.result in
    offered_less g.T.InRow.order g.met.T.InRow.total xs ys c.requires.offered c.requires.merged at c.loop-at.invariant x y
    (item_at xs at x (omega (arith, c.loop-at-test.true, c.min-shared.ensures)) c.index-offered-at.is)
    (item_at ys at y (omega (arith, c.loop-at-test.true, c.min-shared.ensures)) c.index-merged-at.is) c.in-Less.ensures

pub returns-in-Greater : goal.returns-in-Greater
returns-in-Greater g c =
    let xs = c.args.offered.now in
    let ys = c.args.merged.now in
    let at = c.loop-at.at in
    let x = c.index-offered-at.result in
    let y = c.index-merged-at.result in
    merged_first g.T.InRow.order xs ys at
    (offered_less g.T.InRow.order g.met.T.InRow.total ys xs c.requires.merged c.requires.offered at (agree_turned xs ys at c.loop-at.invariant) y x
    (item_at ys at y (omega (arith, c.loop-at-test.true, c.min-shared.ensures)) c.index-merged-at.is)
    (item_at xs at x (omega (arith, c.loop-at-test.true, c.min-shared.ensures)) c.index-offered-at.is)
    (greater_turned g.T.InRow.order g.met.T.InRow.total x y c.in-Greater.ensures))

pub loop-at-preserved : goal.loop-at-preserved
loop-at-preserved g c =
    let xs = c.args.offered.now in
    let ys = c.args.merged.now in
    let at = c.loop-at.at in
    let x = c.index-offered-at.result in
    let y = c.index-merged-at.result in
    agree_more g.T.InRow.order g.met.T.InRow.exact xs ys at x y c.loop-at.invariant
    (item_at xs at x (omega (arith, c.loop-at-test.true, c.min-shared.ensures)) c.index-offered-at.is)
    (item_at ys at y (omega (arith, c.loop-at-test.true, c.min-shared.ensures)) c.index-merged-at.is) c.in-Equal.ensures

pub returns-in-Less-cmp : goal.returns-in-Less-cmp
returns-in-Less-cmp g c =
    let xs = c.args.offered.now in
    let ys = c.args.merged.now in
    let n = c.min-shared.result in
    let less = ranked (length xs) (length ys) Less c.in-Less-cmp.ensures in
    merged_first g.T.InRow.order xs ys n
    (offered_more g.T.InRow.order g.met.T.InRow.total ys xs c.requires.merged c.requires.offered n
    (λ j low. sym (c.loop-at.invariant j (omega (arith, low, c.loop-at-test.false)))) (omega (arith, less, c.min-shared.ensures)) (omega (arith, less, c.min-shared.ensures)))

pub returns-in-Equal-cmp : goal.returns-in-Equal-cmp
returns-in-Equal-cmp g c =
    let xs = c.args.offered.now in
    let ys = c.args.merged.now in
    let n = c.min-shared.result in
    let same = ranked (length xs) (length ys) Equal c.in-Equal-cmp.ensures in
    none_apart g.T.InRow.order g.met.T.InRow.total xs ys c.requires.offered c.requires.merged n
    (λ j low. c.loop-at.invariant j (omega (arith, low, c.loop-at-test.false))) (omega (arith, same, c.min-shared.ensures)) (omega (arith, same, c.min-shared.ensures))

pub returns-in-Greater-cmp : goal.returns-in-Greater-cmp
returns-in-Greater-cmp g c =
    let xs = c.args.offered.now in
    let ys = c.args.merged.now in
    let n = c.min-shared.result in
    let more = ranked (length xs) (length ys) Greater c.in-Greater-cmp.ensures in
    offered_more g.T.InRow.order g.met.T.InRow.total xs ys c.requires.offered c.requires.merged n
    (λ j low. c.loop-at.invariant j (omega (arith, low, c.loop-at-test.false))) (omega (arith, more, c.min-shared.ensures)) (omega (arith, more, c.min-shared.ensures))
