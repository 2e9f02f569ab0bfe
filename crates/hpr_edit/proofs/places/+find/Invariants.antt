use Rattle.std.proofs.Common.{◌≡◌, drop}
use Rattle.hpr_syntax.specs.BodyOf.{body_of}
use Rattle.hpr_syntax.specs.Parts.{find_stmt}
use Rattle.hpr_edit.specs.Places.{place_from}
use Rattle.hpr_edit.specs.Tested.{left_at}
use Rattle.hpr_edit.proofs.places.+find.Given as goal

abbrev pub invariant-find_from-loop-at : goal.invariant-find_from-loop-at
invariant-find_from-loop-at l =
    (body_of l.stmt-items ≡ l.block) ×
    (find_stmt l.tag l.block ≡ find_stmt l.tag (body_of (drop l.at l.stmt-items))) ×
    (place_from l.tag l.parent 0 l.block ≡ place_from l.tag l.parent l.at (body_of (drop l.at l.stmt-items))) ×
    (left_at l.tag l.levels l.block ≡ left_at l.tag l.levels (body_of (drop l.at l.stmt-items)))
