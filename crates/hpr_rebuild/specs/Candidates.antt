-- What is searched: the orders of a graph's parts, as items of a plan, and the arrangements that have them as
-- preorders.
--
-- FitsInOrder g issued plan order == an arrangement with these items in this order has the graph
-- AreCandidates g regions issued plan == the plan is that of the graph by some rank; the regions are the
--                                        graph's; the issued numbers are proper, and allow all tags of the
--                                        graph
use Rattle.std.specs.Prelude.{◌≡◌, ℕ, Bool, Option, List}
use Rattle.std.proofs.Common.{subst}
use Rattle.hpr_syntax.specs.Issued.{Issued}
use Rattle.hpr_syntax.specs.Tree.{Tree}
use Rattle.hpr_graph.specs.declared.vertex.Vertex.{Vertex}
use Rattle.hpr_graph.specs.Numbered.{Numbered, graph_in}
use Rattle.hpr_graph.specs.Rank.{parts_of}
use Rattle.hpr_graph.specs.Arrangements.{IsArrangement}
use Rattle.hpr_graph.specs.Answer.{Fits}
use Rattle.hpr_order.specs.Regions.{AreRegionsOf}
use Rattle.hpr_order.specs.Arranging.{AreIssued}
use Rattle.hpr_region.specs.declared.plan.Plan.{Plan}
use Rattle.hpr_region.specs.Plans.{IsPlanOf, vertices_at}
use Rattle.hpr_syntax.specs.Proper.{IsProperIssued}

abbrev pub FitsInOrder : Numbered → Issued → Plan → List ℕ → Type 0
FitsInOrder g issued plan order = (p : Tree) × IsArrangement (graph_in g) issued p × (parts_of p ≡ vertices_at g plan order) × Fits (graph_in g) p

pub record AreCandidates (g : Numbered) (regions : List (Option (ℕ × Bool))) (issued : Issued) (plan : Plan) : Type 0 where
  pub plan_of : (rank : List Vertex) × IsPlanOf g rank plan
  pub regions_of : AreRegionsOf g regions
  pub proper : IsProperIssued issued
  pub allowed : AreIssued (graph_in g) issued

-- both stay where what they speak of stays
pub fits_too : {g h : Numbered} {issued issued' : Issued} {plan plan' : Plan} → g ≡ h → issued ≡ issued' → plan ≡ plan' → (order : List ℕ) → FitsInOrder g issued plan order
    → FitsInOrder h issued' plan' order
fits_too {g} {h} {issued} {issued'} {plan} {plan'} same numbers_ stays order f =
    subst (λ (p : Plan). FitsInOrder h issued' p order) stays
    (subst (λ (i : Issued). FitsInOrder h i plan order) numbers_ (subst (λ (x : Numbered). FitsInOrder x issued plan order) same f))

pub sound_too : {g h : Numbered} {rs rs' : List (Option (ℕ × Bool))} {issued issued' : Issued} {plan plan' : Plan} → g ≡ h → rs ≡ rs' → issued ≡ issued' → plan ≡ plan'
    → AreCandidates g rs issued plan → AreCandidates h rs' issued' plan'
sound_too {g} {h} {rs} {rs'} {issued} {issued'} {plan} {plan'} same regions_ numbers_ stays is =
    subst (λ (p : Plan). AreCandidates h rs' issued' p) stays
    (subst (λ (i : Issued). AreCandidates h rs' i plan) numbers_
    (subst (λ (r : List (Option (ℕ × Bool))). AreCandidates h r issued plan) regions_ (subst (λ (x : Numbered). AreCandidates x rs issued plan) same is)))
