use Rattle.std.proofs.Common.{◌≡◌, ◌+◌, ◌<◌, ◌++◌, ◌∷◌, [], arith, get_or, length, sym, take}
use Rattle.std.proofs.lemmas.List.{length-take-le, take_all, take_more}
use Rattle.std.proofs.lemmas.List.Elements.{Contains-get_or}
use Rattle.hpr_search.specs.Rows.{numbers_of}
use Rattle.hpr_search.proofs.RowLists.{length_rows}
use Rattle.hpr_conflicts.proofs.Rowed.{all_rows, rowed_more, rowed_none}
use Rattle.hpr_conflicts.proofs.groups.group_rows.Goals as goal

pub loop-at-init : goal.loop-at-init
loop-at-init c = rowed_none c.args.count (numbers_of c.in_ok-rows.rows.items) c.in_ok-rows.ensures

pub push_at-requires : goal.push_at-requires
push_at-requires c =
    let ns = c.args.numbers.now in
    let less : get_or ns c.loop-at.at 0 < c.args.count = c.requires (get_or ns c.loop-at.at 0) (Contains-get_or ns c.loop-at.at 0 c.loop-at-test.true) in
    let many : length (numbers_of c.loop-at.rows.items) ≡ length c.loop-at.rows.items = length_rows c.loop-at.rows.items in
    let count = c.loop-at.invariant.count in
    omega (arith, less, many, count)

pub loop-at-preserved : goal.loop-at-preserved
loop-at-preserved c =
    let ns = c.args.numbers.now in
    let i = c.loop-at.at in
    let n = get_or ns i 0 in
    let less : n < c.args.count = c.requires n (Contains-get_or ns i 0 c.loop-at-test.true) in
    let place : i ≡ length (take i ns) = sym (length-take-le i ns (omega (arith, c.loop-at-test.true))) in
    let more = rowed_more (take i ns) c.args.count (numbers_of c.loop-at.rows.items) c.loop-at.invariant n less i place in
    let next : take (i + 1) ns ≡ take i ns ++ n ∷ [] = take_more ns i 0 c.loop-at-test.true in
    rw (next, c.in_ok-push_at.ensures) more

pub returns : goal.returns
returns c =
    let all = all_rows (take c.loop-at.at c.args.numbers.now) c.args.count (numbers_of c.loop-at.rows.items) c.loop-at.invariant in
    rw (take_all c.loop-at.at c.args.numbers.now c.loop-at-test.false) at all
