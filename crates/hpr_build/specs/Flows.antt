-- Flow edges from one definition, by number.
--
-- IsFlowAt spots x d u kind  == some undisturbed path for x from d to u takes no back edge to a loop that
--                               encloses both (Independent), or the one to the loop w, which encloses both
--                               (Carried w)
-- CutsTo spots x d c row     == the row marks what an undisturbed path for x goes to from d, with no back
--                               edge to one of the first c loops around d
-- AreCuts spots x d n rows places == for each c below n, there is a row at the c-th of these places, and it
--                                    is so
-- IsCarriedBy row w u        == the row, if there is one, marks u, or u is w
-- CarriesTo spots x d w row  == u is carried so exactly where what d defines comes round to the loop w and
--                               goes on from there to u
-- AreCarries spots x d n rows == for each of the first n loops around d, the row at its place is so
-- IsKindBelow n c loops cuts carries u kind == the rows say that the kind is one of u's: c loops enclose
--                                              both, of which the first n count for Carried
-- IsFlowBelow n c loops cuts carries u f == f leads to u, and its kind is so
use Rattle.std.specs.Prelude.{◌≡◌, ℕ, ◌<◌, ◌⊎◌, ◌↔◌, Bool, Option, Some, None, List, [], Contains, slice_index_or, length, take}
use Rattle.hpr_search.specs.Marks.{IsMarked}
use Rattle.hpr_paths.specs.declared.spot.Step.{Step}
use Rattle.hpr_paths.specs.Spots.{Spot, nest_at}
use Rattle.hpr_paths.specs.Numbers.{NumberUndisturbed}
use Rattle.hpr_reach.specs.Reaches.{back_to, Reaches}
use Rattle.hpr_reach.specs.Flows.{ComesRound, GoesOn, AvoidsCommon}
use Rattle.hpr_build.specs.declared.flows.Flow.{Flow}
use Rattle.hpr_build.specs.declared.flows.FlowKind.{FlowKind}
use Rattle.hpr_build.specs.declared.flows.FlowKind.TheVariants.{Independent, Carried}

abbrev pub IsFlowAt : List Spot → List ℕ → ℕ → ℕ → FlowKind → Type 0
IsFlowAt spots x d u Independent = (steps : List Step) × NumberUndisturbed spots x d u steps × AvoidsCommon spots d u steps
IsFlowAt spots x d u (Carried w) =
    Contains (nest_at spots d) w × Contains (nest_at spots u) w × ((steps : List Step) × NumberUndisturbed spots x d u steps × Contains steps (back_to w))

abbrev pub CutsTo : List Spot → List ℕ → ℕ → ℕ → List Bool → Type 0
CutsTo spots x d c row = (u : ℕ) → IsMarked row u ↔ Reaches spots x (take c (nest_at spots d)) d u

abbrev pub AreCuts : List Spot → List ℕ → ℕ → ℕ → List (List Bool) → List ℕ → Type 0
AreCuts spots x d n rows places =
    (c : ℕ) → c < n → (slice_index_or places c 0 < length rows) × CutsTo spots x d c (slice_index_or rows (slice_index_or places c 0) [])

abbrev pub IsCarriedBy : Option (List Bool) → ℕ → ℕ → Type 0
IsCarriedBy None w u = ⊥
IsCarriedBy (Some row) w u = (u ≡ w) ⊎ IsMarked row u

abbrev pub CarriesTo : List Spot → List ℕ → ℕ → ℕ → Option (List Bool) → Type 0
CarriesTo spots x d w row = (u : ℕ) → IsCarriedBy row w u ↔ (ComesRound spots x w d × GoesOn spots x w u)

abbrev pub AreCarries : List Spot → List ℕ → ℕ → ℕ → List (Option (List Bool)) → Type 0
AreCarries spots x d n rows =
    (i : ℕ) → i < n → CarriesTo spots x d (slice_index_or (nest_at spots d) i 0) (slice_index_or rows i None)

abbrev pub IsKindBelow : ℕ → List ℕ → List Bool → List (Option (List Bool)) → ℕ → FlowKind → Type 0
IsKindBelow n loops cut carries u Independent = IsMarked cut u
IsKindBelow n loops cut carries u (Carried w) =
    (i : ℕ) × (i < n) × (slice_index_or loops i 0 ≡ w) × IsCarriedBy (slice_index_or carries i None) w u

abbrev pub IsFlowBelow : ℕ → List ℕ → List Bool → List (Option (List Bool)) → ℕ → Flow → Type 0
IsFlowBelow n loops cut carries u f = (f.to ≡ u) × IsKindBelow n loops cut carries u f.kind
