use Rattle.std.proofs.Common.{◌≡◌, ℕ, drop, List, []}
use Rattle.std.specs.BTreeSet.{contains}
use Rattle.std.specs.List.{list_any}
use Rattle.std.specs.Str.{bytes_eq}
use Rattle.hpr_terms.specs.contracts.name.NameOrd.TheImpl as names
use Rattle.hpr_syntax.specs.Shape.{first_repeated}
use Rattle.hpr_syntax.proofs.shape.first_repeated_name.Given as goal

abbrev pub invariant-loop-name : goal.invariant-loop-name
invariant-loop-name l =
    (earlier : List (List ℕ)) ×
    (first_repeated bytes_eq [] l.names ≡ first_repeated bytes_eq earlier (drop l.name-index l.names)) ×
    ((x : List ℕ) → contains (names.ghosts).cmp l.seen x ≡ list_any (bytes_eq x) earlier)
