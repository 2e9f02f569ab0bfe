-- Paths by number and by tag.
use Rattle.std.proofs.Common.{◌≡◌, ℕ, Option, List, [], ◌∷◌, refl, ap, ◌∙◌}
use Rattle.hpr_terms.specs.declared.tag.Tag.{Tag}
use Rattle.hpr_syntax.specs.Tree.{Tree}
use Rattle.hpr_syntax.specs.Skeleton.{Point}
use Rattle.hpr_syntax.specs.Pairs.{IsPair}
use Rattle.hpr_syntax.specs.Paths.{Path, one, step}
use Rattle.hpr_syntax.specs.Shape.{IsProgram}
use Rattle.hpr_paths.specs.declared.spot.Step.{Step}
use Rattle.hpr_paths.specs.Spots.{role_at, point_of}
use Rattle.hpr_paths.specs.Successors.{spots}
use Rattle.hpr_paths.specs.Numbers.{IsNumberOf, mark_of, marks_of, Leads}
use Rattle.hpr_paths.proofs.Whole.{pair_of_step, step_leads}
use Rattle.hpr_paths.proofs.Marks.{step_from}

leads_somewhere : (t : Tree) (p q : ℕ) (s : Step) → Leads (spots t) p q s → (a : Point) × IsNumberOf (spots t) q a
leads_somewhere t p q s lead =
    let y = step_leads t p s lead.0 in
    (point_of y.1.0, (y.1.0, ap (role_at (spots t)) lead.1 ∙ y.1.1, refl))

abbrev Marks : Type 0
Marks = List (Option Tag)

module _ (t : Tree) (Stops : ℕ → Type 0) (StopsAt : Point → Type 0) where
  pub path_of_numbers : ((p : ℕ) (a : Point) → IsNumberOf (spots t) p a → StopsAt a → Stops p) → {p q : ℕ} {steps : List Step} (a z : Point) → Path (Leads (spots t)) Stops p q steps → IsNumberOf (spots t) p a → IsNumberOf (spots t) q z → Path (IsPair t.body) StopsAt a z (marks_of (spots t) steps)
  path_of_numbers stops a z (one {a = p} {z = q} {m = s} lead) na nz = one (pair_of_step t p q s a z lead na nz)
  path_of_numbers stops a z (step {a = p} {b = b} {m = s} lead on path) na nz =
      let there = leads_somewhere t p b s lead in
      step (pair_of_step t p b s a there.0 lead na there.1) (λ x. on (stops b there.0 there.1 x)) (path_of_numbers stops there.0 z path there.1 nz)

  pub numbers_of_path : IsProgram t → ((p : ℕ) (a : Point) → IsNumberOf (spots t) p a → Stops p → StopsAt a) → {a z : Point} {marks : Marks} (p : ℕ) → IsNumberOf (spots t) p a → Path (IsPair t.body) StopsAt a z marks
      → (q : ℕ) × (steps : List Step) × Path (Leads (spots t)) Stops p q steps × IsNumberOf (spots t) q z × (marks ≡ marks_of (spots t) steps)
  numbers_of_path prog stops p na (one {a = a} {z = z} {m = m} pair) =
      let k = step_from t p a z m prog na pair in
      (k.0, k.1 ∷ [], one k.2, k.3, ap (λ (x : Option Tag). x ∷ []) k.4)
  numbers_of_path prog stops p na (step {a = a} {b = b} {m = m} {ms = ms} pair on path) =
      let k = step_from t p a b m prog na pair in
      let r = numbers_of_path prog stops k.0 k.3 path in
      (r.0, k.1 ∷ r.1, step k.2 (λ x. on (stops k.0 b k.3 x)) r.2, r.3, ap (λ (x : Option Tag). x ∷ ms) k.4 ∙ ap (λ (xs : Marks). mark_of (spots t) k.1 ∷ xs) r.4)
