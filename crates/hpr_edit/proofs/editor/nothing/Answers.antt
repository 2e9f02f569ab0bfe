use Rattle.std.proofs.Common.{ap, ◌∙◌}
use Rattle.hpr_syntax.specs.BodyOf.{body_of}
use Rattle.hpr_edit.proofs.Proper.{nothing_is}
use Rattle.hpr_edit.proofs.editor.nothing.Goals as goal

pub from_parts-requires : goal.from_parts-requires
from_parts-requires c = rw (c.new.ensures, c.new-3.ensures ∙ ap body_of c.new-2.ensures.items, c.new-4.ensures.items) nothing_is
