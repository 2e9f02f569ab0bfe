use Rattle.std.proofs.Common.{◌∙◌, ◌++◌, List, ℕ, sym, ap, subst}
use Rattle.std.proofs.lemmas.List.{append-nil, drop_all}
use Rattle.hpr_search.specs.Marks.{IsMarked}
use Rattle.hpr_impact.specs.Lines.{AreMarkedLines}
use Rattle.hpr_impact.specs.Private.Marking.{marked_from}
use Rattle.hpr_impact.proofs.Marking.{lines_marked}
use Rattle.hpr_impact.proofs.lines.marked_text.Goals as goal

pub returns : goal.returns
returns c =
    let marks = c.args.marks.now in
    let bytes = c.args.bytes.now in
    let text = c.loop-byte.text.items in
    let rest = ap (λ (bs : List ℕ). text ++ marked_from marks c.loop-byte.begins c.loop-byte.line bs) (drop_all c.loop-byte.byte-index bytes c.loop-byte-test.false) in
    subst (AreMarkedLines (IsMarked marks) 1 bytes) (sym c.loop-byte.invariant.text ∙ rest ∙ append-nil text) (lines_marked marks bytes)
