use Rattle.std.proofs.Common.{◌≡◌, ℕ, Option, Some, length, slice_get, take}
use Rattle.hpr_graph.specs.declared.link.Link.{Link}
use Rattle.hpr_merge.specs.Known.{IsLinkOf}
use Rattle.hpr_merge.proofs.known.known_links.Given as goal

abbrev pub invariant-loop-number : goal.invariant-loop-number
invariant-loop-number l = record {
  count : length l.links.items ≡ l.number-index;
  each : (i n : ℕ) (o : Option (ℕ × Link)) → slice_get (take l.number-index l.numbers) i ≡ Some n → slice_get l.links.items i ≡ Some o
      → IsLinkOf l.firsts l.unknown l.found n o;
}
