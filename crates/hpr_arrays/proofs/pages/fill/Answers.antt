use Rattle.std.proofs.Common.{rules, ◌≡◌, pos, replicate, length, ap, sym, ◌∙◌}
use Rattle.std.proofs.lemmas.List.{nil_from_length}
use Rattle.hpr_arrays.specs.Pages.{page_of}
use Rattle.hpr_arrays.proofs.pages.fill.Goals as goal

pub returns-in_ok-row-clause-ok : goal.returns-in_ok-row-clause-ok
returns-in_ok-row-clause-ok c =
    let empty : length c.args.row.now.items ≡ 0 = search rules in
    let zeros : c.in_ok-row.field-0.items ≡ replicate 256 (pos 0) = search rules in
    zeros ∙ sym (ap page_of (nil_from_length c.args.row.now.items empty))
