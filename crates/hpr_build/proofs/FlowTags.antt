-- Flow edges by number and by tag.
use Rattle.std.proofs.Common.{◌≡◌, ℕ, Option, Some, List, Contains, ◌↔◌, ap, subst}
use Rattle.std.specs.Option.{option_and_then}
use Rattle.std.proofs.lemmas.List.Elements.{All-contains}
use Rattle.hpr_terms.specs.declared.tag.Tag.{Tag}
use Rattle.hpr_syntax.specs.Tree.{Tree}
use Rattle.hpr_syntax.specs.Skeleton.{Point, at, skeleton}
use Rattle.hpr_syntax.specs.Places.{EnclosesBoth}
use Rattle.hpr_syntax.specs.Paths.{IsUndisturbed}
use Rattle.hpr_syntax.specs.Shape.{IsProgram}
use Rattle.hpr_paths.specs.declared.spot.Step.{Step}
use Rattle.hpr_paths.specs.Spots.{tag_of, tag_at, nest_at, IsLoopAt}
use Rattle.hpr_paths.specs.Successors.{spots}
use Rattle.hpr_paths.specs.Numbers.{IsNumberOf, marks_of, NumberUndisturbed}
use Rattle.hpr_paths.proofs.Sound.{are_spots}
use Rattle.hpr_paths.proofs.Tags.{number_once}
use Rattle.hpr_paths.proofs.Encloses.{encloses_by_number, number_encloses}
use Rattle.hpr_reach.specs.Reaches.{back_to}
use Rattle.hpr_reach.specs.Flows.{AvoidsCommon}
use Rattle.hpr_reach.proofs.Marked.{step_of_mark, mark_of_step, tag_of_number, tags_once}
use Rattle.hpr_reach.proofs.ByTags.{path_to_tags, path_to_numbers, carried_tags}
use Rattle.hpr_build.specs.declared.flows.FlowKind.TheVariants.{Independent, Carried}
use Rattle.hpr_build.specs.Flows.{IsFlowAt}
use Rattle.hpr_graph.specs.ProgramGraph as around

abbrev Marks : Type 0
Marks = List (Option Tag)

module _ (t : Tree) (prog : IsProgram t) (p q : ℕ) (a z : Point) (na : IsNumberOf (spots t) p a) (nz : IsNumberOf (spots t) q z) where
  abbrev Nest : ℕ → List ℕ
  Nest n = nest_at (spots t) n

  avoids_to_tags : (steps : List Step) → AvoidsCommon (spots t) p q steps → around.AvoidsCommon t a z (marks_of (spots t) steps)
  avoids_to_tags steps avoids w around there =
      let l = number_encloses t p q a z w prog na nz around in
      let s = step_of_mark (spots t) steps w there in
      avoids l.0 l.1 l.2 (subst (λ (n : ℕ). Contains steps (back_to n)) (tags_once t prog s.0 l.0 w s.2 l.3) s.1)

  tag_of_loop : (l : ℕ) → Contains (Nest p) l → (w : Tag) × (tag_at (spots t) l ≡ Some w)
  tag_of_loop l h =
      let loop : IsLoopAt (spots t) l = All-contains (λ v. IsLoopAt (spots t) v) (Nest p) l ((are_spots t).loops p) h in
      (loop.0, ap (option_and_then tag_of) loop.2)

  avoids_to_numbers : (steps : List Step) → around.AvoidsCommon t a z (marks_of (spots t) steps) → AvoidsCommon (spots t) p q steps
  avoids_to_numbers steps avoids l h k there =
      let w = tag_of_loop l h in
      avoids w.0 (encloses_by_number t p q l a z w.0 na nz h k w.1) (mark_of_step (spots t) steps l w.0 there w.1)

  pub independent_by_tags : (x : List ℕ) → IsFlowAt (spots t) x p q Independent ↔ ((marks : Marks) × IsUndisturbed t.body x a z marks × around.AvoidsCommon t a z marks)
  independent_by_tags x = (
    (λ (steps, path, avoids). (marks_of (spots t) steps, path_to_tags t prog x p q a z steps path na nz, avoids_to_tags steps avoids)),
    (λ (marks, path, avoids).
        let k = path_to_numbers t prog x p a z marks na path in
        let place : k.0 ≡ q = number_once t k.0 q z prog k.3 nz in
        (k.1, subst (λ (n : ℕ). NumberUndisturbed (spots t) x p n k.1) place k.2, avoids_to_numbers k.1 (subst (around.AvoidsCommon t a z) k.4 avoids))),
  )

  module _ (l : ℕ) (w : Tag) (nl : IsNumberOf (spots t) l (at w)) where
    both_around : (Contains (Nest p) l × Contains (Nest q) l) ↔ EnclosesBoth (skeleton t.body) a z w
    both_around =
        let tag : tag_at (spots t) l ≡ Some w = tag_of_number (spots t) l w nl in (
          (λ (h, k). encloses_by_number t p q l a z w na nz h k tag),
          (λ around.
              let m = number_encloses t p q a z w prog na nz around in
              let same : m.0 ≡ l = tags_once t prog m.0 l w m.3 tag in
              (subst (Contains (Nest p)) same m.1, subst (Contains (Nest q)) same m.2)),
        )

    pub carried_by_tags : (x : List ℕ) → IsFlowAt (spots t) x p q (Carried l) ↔ (EnclosesBoth (skeleton t.body) a z w × ((marks : Marks) × IsUndisturbed t.body x a z marks × Contains marks (Some w)))
    carried_by_tags x =
        let path = carried_tags t prog x p q l a z w na nz nl in (
          (λ (h, k, there). (both_around.0 (h, k), path.0 there)),
          (λ (around, there). let b = both_around.1 around in (b.0, b.1, path.1 there)),
        )
