use Rattle.std.proofs.Common.{◌≡◌, List, map, take}
use Rattle.std.specs.List.{AllZip}
use Rattle.serde_json.specs.View.{view}
use Rattle.hpr_search.specs.Rows.{numbers_of}
use Rattle.hpr_located.specs.Sources.{standing_of}
use Rattle.hpr_interference.specs.Answers.{group_data}
use Rattle.hpr_interference.specs.Groups.{Group}
use Rattle.hpr_interference.specs.Private.Rows.{IsRow}
use Rattle.hpr_interference.proofs.groups.group_values.Given as goal

abbrev pub invariant-loop-row : goal.invariant-loop-row
invariant-loop-row l =
    (gs : List Group) × AllZip (IsRow l.conflicts) (numbers_of (take l.row-index l.rows)) gs
    × (map view l.values.items ≡ map (group_data (map standing_of l.sources)) gs)
