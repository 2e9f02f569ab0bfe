use Rattle.hpr_region.proofs.Searching.{number_of, placed_more}
use Rattle.hpr_region.proofs.search.Search.place.Goals as goal

pub returns-clause-placed : goal.returns-clause-placed
returns-clause-placed c =
    let s = c.args.self.now in
    let item = c.item_of-item.result in
    placed_more s c.push.new.self item c.args.child c.push.ensures.plan c.push.ensures.placed (number_of s.plan item c.args.child c.item_of-item.ensures.item)
