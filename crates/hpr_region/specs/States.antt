-- What a search keeps.
--
-- IsPendingBy choices items pending == the counts of what is left are those of the items, where there are
--                                      tables
-- IsState plan places items placed marks summary rivals needs pending == the items may stand so, one behind
--       the other, and have marks; `placed` has the numbers of their vertices; `places` has the item of each
--       number; there is room for all items; the summary and the counts of needs and of what is left are
--       those of the items
use Rattle.std.specs.Prelude.{◌≡◌, ℕ, ◌≤◌, Bool, Option, Some, None, List, [], Vec, vec_len, vec_capacity}
use Rattle.std.specs.Global.{Global}
use Rattle.hpr_forest.specs.declared.blocks.Blocks.{Blocks}
use Rattle.hpr_forest.specs.declared.pending.Pending.{Pending}
use Rattle.hpr_forest.specs.Choices.{Follows}
use Rattle.hpr_forest.specs.Marks.{IsMarksOf}
use Rattle.hpr_forest.specs.Pending.{IsPending}
use Rattle.hpr_order.specs.Numbers.{ArePlaces}
use Rattle.hpr_region.specs.declared.plan.Plan.{Plan}
use Rattle.hpr_region.specs.declared.rivals.Rivals.{Rivals}
use Rattle.hpr_region.specs.declared.summary.Summary.{Summary}
use Rattle.hpr_region.specs.Plans.{may_follow, numbers_at, size_of}
use Rattle.hpr_region.specs.Private.Needs.{AreNeeds, AreRivals}
use Rattle.hpr_region.specs.Private.Summaries.{IsSummary}

abbrev pub IsPendingBy : Option Blocks → List ℕ → Option Pending → Type 0
IsPendingBy None items pending = Unit {0}
IsPendingBy (Some b) items None = ⊥
IsPendingBy (Some b) items (Some p) = IsPending b items p

pub record IsState (plan : Plan) (places : List (Option ℕ)) (items placed : Vec ℕ Global) (marks : Vec Bool Global) (summary : Summary) (rivals : Rivals) (needs : Vec ℕ Global) (pending : Option Pending) : Type 0 where
  pub front : Follows (may_follow plan) [] items.items
  pub numbers : placed.items ≡ numbers_at plan items.items
  pub row : vec_len marks ≡ size_of plan
  pub marked : IsMarksOf marks.items items.items
  pub items_room : size_of plan ≤ vec_capacity items
  pub placed_room : size_of plan ≤ vec_capacity placed
  pub placing : ArePlaces plan.numbers.items places
  pub summed : IsSummary plan.flows items.items summary
  pub rivalry : AreRivals plan.flows rivals
  pub counted : AreNeeds plan.flows rivals items.items needs.items
  pub waits : IsPendingBy plan.choices items.items pending
