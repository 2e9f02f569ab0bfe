-- For each vertex the first of some links, told with their targets, from whose target steps lead to it.
--
-- Leads steps a b           == a walk of steps leads from a to b
-- IsFirstFrom steps cs x o  == o is the first of the pairs from whose vertex steps lead to x, none where they
--                              lead to x from none of them
-- AreFirstsFrom steps cs os == that, at each vertex
-- HasOne os x               == a pair stands at x
-- IsClosedUnder steps os    == steps lead from where a pair stands only to where one stands
-- IsPutAt P c old new       == the pair c is put at places that have P and had none; all others are as they
--                              were
-- none_weight o             == 1 where there is no pair, else 0
-- none_count os             == how many places have no pair
-- ArePut ps c old new before after == c is put at exactly those of the points ps that had none; these wait
--                              now, with what waited before, so nothing is lost of both counts together
use Rattle.std.specs.Prelude.{◌≡◌, ℕ, ◌+◌, ◌<◌, ◌⊎◌, Option, Some, None, List, Contains, slice_get, length}
use Rattle.std.specs.Prelude.{sum_by}
use Rattle.hpr_search.specs.Walks.{Walk}
use Rattle.hpr_graph.specs.declared.link.Link.{Link}

abbrev pub Leads : (ℕ → List ℕ) → ℕ → ℕ → Type 0
Leads steps a b = (via : List ℕ) × Walk steps a via b

abbrev pub IsFirstFrom : (ℕ → List ℕ) → List (ℕ × Link) → ℕ → Option (ℕ × Link) → Type 0
IsFirstFrom steps cs x None = (c : ℕ × Link) → Contains cs c → ¬ Leads steps c.0 x
IsFirstFrom steps cs x (Some c) =
    Leads steps c.0 x
    × ((i : ℕ) × (slice_get cs i ≡ Some c)
    × ((j : ℕ) (d : ℕ × Link) → j < i → slice_get cs j ≡ Some d → ¬ Leads steps d.0 x))

abbrev pub AreFirstsFrom : (ℕ → List ℕ) → List (ℕ × Link) → List (Option (ℕ × Link)) → Type 0
AreFirstsFrom steps cs os =
    (x : ℕ) (o : Option (ℕ × Link)) → slice_get os x ≡ Some o → IsFirstFrom steps cs x o

abbrev pub HasOne : List (Option (ℕ × Link)) → ℕ → Type 0
HasOne os x = (c : ℕ × Link) × (slice_get os x ≡ Some (Some c))

abbrev pub IsClosedUnder : (ℕ → List ℕ) → List (Option (ℕ × Link)) → Type 0
IsClosedUnder steps os = (x y : ℕ) → HasOne os x → Contains (steps x) y → HasOne os y

pub record IsPutAt (P : ℕ → Type 0) (c : ℕ × Link) (old new : List (Option (ℕ × Link))) : Type 0 where
  pub count : length new ≡ length old
  pub kept : (x : ℕ) (d : ℕ × Link) → slice_get old x ≡ Some (Some d) → slice_get new x ≡ Some (Some d)
  pub only : (x : ℕ) (d : ℕ × Link) → slice_get new x ≡ Some (Some d)
      → (slice_get old x ≡ Some (Some d)) ⊎ ((slice_get old x ≡ Some None) × (d ≡ c) × P x)

abbrev pub none_weight : Option (ℕ × Link) → ℕ
none_weight None = 1
none_weight (Some c) = 0

abbrev pub none_count : List (Option (ℕ × Link)) → ℕ
none_count os = sum_by none_weight os

pub record ArePut (ps : List ℕ) (c : ℕ × Link) (old new : List (Option (ℕ × Link))) (before after : List ℕ)
    : Type 0 where
  pub put : IsPutAt (Contains ps) c old new
  pub all : (x : ℕ) → Contains ps x → HasOne new x
  pub kept : (x : ℕ) → Contains before x → Contains after x
  pub only : (x : ℕ) → Contains after x → Contains before x ⊎ Contains ps x
  pub put_wait : (x : ℕ) → slice_get old x ≡ Some None → HasOne new x → Contains after x
  pub left : none_count new + length after ≡ none_count old + length before
