use Rattle.std.proofs.Common.{◌≡◌, eqb, get_or, sym, ap, ◌∙◌}
use Rattle.std.proofs.lemmas.List.{get_or_default}
use Rattle.hpr_forest.specs.Counting.{row_of}
use Rattle.hpr_forest.proofs.Counted.{full_left}
use Rattle.hpr_forest.proofs.counts.Counts.is_full.Goals as goal

pub returns : goal.returns
returns c = λ rows placed are.
    let left = c.args.self.now.left.items in
    let read : c.index.result.now ≡ get_or left c.args.row 0 = c.index.ensures ∙ sym (get_or_default left c.args.row 0 c.index.result.now c.requires) in
    ap (λ n. eqb n 0) (read ∙ are.each c.args.row) ∙ sym (full_left placed (row_of rows c.args.row))
