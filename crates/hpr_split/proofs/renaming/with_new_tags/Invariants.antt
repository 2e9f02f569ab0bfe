use Rattle.std.proofs.Common.{◌≡◌, ◌+◌, length}
use Rattle.hpr_graph.specs.Split.{with_new_tags}
use Rattle.hpr_split.proofs.renaming.with_new_tags.Given as goal

abbrev pub invariant-loop-part : goal.invariant-loop-part
invariant-loop-part l = record {
  last : l.last ≡ l.fn.serial + length l.yielded;
  tagged : l.renamed.items ≡ with_new_tags l.fn.serial l.yielded;
}
