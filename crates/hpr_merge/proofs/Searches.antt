-- Ascending lists of links are sorted, and what a search in an ascending list of numbers finds.
use Rattle.std.proofs.Common.{ℕ, ◌↔◌, Result, List, length, Contains, IsTrue}
use Rattle.std.specs.Result.{is_ok}
use Rattle.std.specs.FinMap.{nat_cmp-IsAntisymmetric}
use Rattle.std.specs.Ordering.{nat_cmp}
use Rattle.std.specs.List.Sorted.{IsBinarySearchResult, IsSearchInRange}
use Rattle.std.proofs.lemmas.Cmp.{nat_cmp_total}
use Rattle.hpr_graph.specs.InOrder.{Ascends}
use Rattle.hpr_graph.proofs.Searches.{sorted_ascending, found_sorted}

pub number_found : (xs : List ℕ) (n : ℕ) (r : Result ℕ ℕ) → Ascends nat_cmp xs → IsSearchInRange r (length xs) → IsBinarySearchResult (λ y. nat_cmp y n) xs r → IsTrue (is_ok r) ↔ Contains xs n
number_found xs n r up = found_sorted nat_cmp nat_cmp_total xs nat_cmp-IsAntisymmetric n (sorted_ascending nat_cmp nat_cmp_total xs up) r
