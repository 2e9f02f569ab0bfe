use Rattle.std.proofs.Common.{◌∙◌, ◌+◌, sym, ap, arith, rules, map-id}
use Rattle.std.proofs.lemmas.List.{length_push}
use Rattle.std.proofs.lemmas.Iterator.Adapters.{YieldsList-from_vec}
use Rattle.std.proofs.lemmas.Iterator.Consumers.{YieldsList-turn, YieldsList-end}
use Rattle.hpr_graph.specs.Split.{with_new_tags}
use Rattle.hpr_split.proofs.Renamed.{new_tags_more}
use Rattle.hpr_split.proofs.renaming.with_new_tags.Goals as goal

pub overflow_add-last : goal.overflow_add-last
overflow_add-last c =
    let turn = YieldsList-turn (YieldsList-from_vec {s = c.into_iter-part-iterator.result} c.args.parts.items (search rules) (search rules))
    c.loop-part.yielded c.loop-part.part-iterator c.loop-part.yielded_by c.next.result c.next.new.self c.in-Some.part c.in-Some.is c.next.ensures.steps in
    omega (arith, c.loop-part.invariant.last, c.requires, turn.0)

pub loop-part-preserved : goal.loop-part-preserved
loop-part-preserved c = record {
  last = omega (arith, c.loop-part.invariant.last, length_push c.loop-part.yielded c.in-Some.part);
  tagged =
      new_tags_more c.args.serial (c.loop-part.last + 1) c.loop-part.yielded c.in-Some.part c.new_tag.result c.loop-part.renamed.items c.push.new.self.items c.loop-part.invariant.tagged c.in_ok-push.ensures.items c.new_tag.ensures
      (omega (arith, c.loop-part.invariant.last));
}

pub returns : goal.returns
returns c =
    let end = YieldsList-end (YieldsList-from_vec {s = c.into_iter-part-iterator.result} c.args.parts.items (search rules) (search rules))
    c.loop-part.yielded c.loop-part.part-iterator c.loop-part.yielded_by c.next.result c.next.new.self c.in-None.is c.next.ensures.steps in
    c.loop-part.invariant.tagged ∙ ap (with_new_tags c.args.serial) (sym (map-id c.loop-part.yielded) ∙ end.0)
