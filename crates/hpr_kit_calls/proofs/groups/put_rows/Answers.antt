use Rattle.std.proofs.Common.{◌<◌}
use Rattle.std.proofs.lemmas.List.Elements.{All-contains}
use Rattle.hpr_kit_calls.proofs.groups.put_rows.Goals as goal

pub group_rows-requires : goal.group_rows-requires
group_rows-requires c = λ n has.
    All-contains (λ m. m < c.args.count) c.args.numbers.now n (c.are_below.ensures.0 c.if-not-are_below.false) has
