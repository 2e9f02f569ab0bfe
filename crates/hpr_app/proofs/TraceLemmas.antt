-- The lines of items are those of the instances.
use Rattle.std.proofs.Common.{◌≡◌, List, [], ◌∷◌, ◌++◌, flat_map, refl, ap, ◌∙◌}
use Rattle.hpr_meaning.specs.Instances.{Instance}
use Rattle.hpr_meaning.specs.Items.{Item, items_after, items_of}
use Rattle.hpr_app.specs.Private.ItemLine.{item_line}
use Rattle.hpr_decisions.specs.TraceText.{instance_line, trace_text}

lines_after : (log is : List Instance) → flat_map item_line (items_after log is) ≡ flat_map instance_line is
lines_after log [] = refl
lines_after log (i ∷ is) = ap (λ lines. instance_line i ++ lines) (lines_after (i ∷ log) is)

pub lines_of : (items : List Item) (is : List Instance) → items ≡ items_of is → flat_map item_line items ≡ trace_text is
lines_of items is e = ap (flat_map item_line) e ∙ lines_after [] is
