use Rattle.std.proofs.Common.{ℕ, get_or, ◌∙◌}
use Rattle.std.proofs.lemmas.List.Elements.{Contains-get_or}
use Rattle.hpr_search.specs.Rows.{numbers_at}
use Rattle.hpr_graph.specs.declared.link.Link.{Link}
use Rattle.hpr_merge.proofs.NewLinks.{no_link}
use Rattle.hpr_merge.proofs.Putting.{firsts_next, firsts_whole}
use Rattle.hpr_merge.proofs.firsts.firsts_from.Goals as goal

abbrev no_pair : ℕ × Link
no_pair = (0, no_link)

pub put_from-requires-clause-target : goal.put_from-requires-clause-target
put_from-requires-clause-target c = c.requires (get_or c.args.links.now c.loop-link.link-index no_pair)
    (Contains-get_or c.args.links.now c.loop-link.link-index no_pair c.loop-link-test.true)

pub loop-link-preserved : goal.loop-link-preserved
loop-link-preserved c = record {
  count = c.in_ok-put_from.ensures.put.count ∙ c.loop-link.invariant.count;
  closed = c.in_ok-put_from.ensures.closed;
  firsts = firsts_next (numbers_at c.args.rows.now) c.args.links.now c.loop-link.link-index no_pair c.loop-link.firsts.items
      c.put_from.new.firsts.items c.loop-link-test.true c.loop-link.invariant.firsts c.in_ok-put_from.ensures.put c.in_ok-put_from.ensures.closed
      c.in_ok-put_from.ensures.there;
}

pub returns-clause-firsts : goal.returns-clause-firsts
returns-clause-firsts c = firsts_whole (numbers_at c.args.rows.now) c.args.links.now c.loop-link.link-index c.loop-link.firsts.items
    c.loop-link-test.false c.loop-link.invariant.firsts
