use Rattle.std.proofs.Common.{◌≡◌, drop, List, []}
use Rattle.std.specs.BTreeSet.{contains}
use Rattle.std.specs.List.{list_any}
use Rattle.hpr_terms.specs.declared.tag.Tag.{Tag}
use Rattle.hpr_terms.specs.contracts.tag.TagOrd.TheImpl as tags
use Rattle.hpr_syntax.specs.Parts.{same_tag}
use Rattle.hpr_syntax.specs.Shape.{first_repeated}
use Rattle.hpr_syntax.proofs.shape.first_repeated.Given as goal

abbrev pub invariant-loop-tag : goal.invariant-loop-tag
invariant-loop-tag l =
    (earlier : List Tag) ×
    (first_repeated same_tag [] l.tags ≡ first_repeated same_tag earlier (drop l.tag-index l.tags)) ×
    ((t : Tag) → contains (tags.ghosts).cmp l.seen t ≡ list_any (same_tag t) earlier)
