use Rattle.std.proofs.Common.{◌≡◌, Some, IfSome, map, set, sym, subst}
use Rattle.std.specs.Option.{option_copied}
use Rattle.std.proofs.lemmas.List.{map-set}
use Rattle.hpr_report.proofs.table.fill.Goals as goal

pub returns-in-Some-clause-filled : goal.returns-in-Some-clause-filled
returns-in-Some-clause-filled c =
    subst (λ o. IfSome o (λ at. map option_copied (set c.args.cells.now.items c.in-Some.at (Some c.args.value)) ≡ set (map option_copied c.args.cells.now.items) at (Some c.args.value.now)))
    (sym c.in-Some.is) (map-set option_copied c.args.cells.now.items c.in-Some.at (Some c.args.value))
