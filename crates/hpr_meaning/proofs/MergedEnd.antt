-- A program with the merged graph is covered by base and its variants, so it ends where they do.
use Rattle.hpr_meaning.specs.Any.Meaning.{Meaning, HasLaws}
use Rattle.std.proofs.Common.{◌≡◌, ℕ, zero, suc, ◌+◌, List, [], ◌∷◌, Contains, refl, ap, subst, inl, inr}
use Rattle.std.specs.List.{AllByRecursion}
use Rattle.hpr_terms.specs.declared.tag.Tag.{Tag}
use Rattle.hpr_syntax.specs.declared.rows.Content.{Content}
use Rattle.hpr_meaning.specs.Any.Kept.{Ends}
use Rattle.hpr_meaning.specs.Any.Run.{FinalValues}
use Rattle.hpr_syntax.specs.Shape.{IsProgram}
use Rattle.hpr_syntax.specs.Tree.{Tree}
use Rattle.hpr_graph.specs.declared.vertex.Vertex.{Vertex}
use Rattle.hpr_graph.specs.declared.vertex.Vertex.TheVariants.{Part}
use Rattle.hpr_graph.specs.Answer.{Fits, graphs_of, merged_of_all}
use Rattle.hpr_graph.specs.Graphs.{Graph, Same}
use Rattle.hpr_graph.specs.Points.{IsAffected, IsPreservedBy, changed}
use Rattle.hpr_graph.specs.ProgramGraph.{graph_of}
use Rattle.hpr_graph.specs.Slices.{slice_at, slice_of}
use Rattle.hpr_graph.proofs.Laws.{same_turned, slice_at_same, same_then}
use Rattle.hpr_paths.proofs.Among.{Among, here, there, contains_among}
use Rattle.hpr_meaning.specs.Any.CoverLaw.{DoesEnd}
use Rattle.hpr_meaning.specs.CoverLaw.{Version, HasPartFrom, IsCovered, steps_of}
use Rattle.hpr_meaning.specs.Any.KeptLaw.{Finished, DoesFinish, programs_of, steps_in}
use Rattle.hpr_meaning.specs.UnionLaw.{KeepsIn, KeepsEach}
use Rattle.hpr_meaning.proofs.CoveredEnd.{covered_ends}
use Rattle.hpr_meaning.proofs.Unions.{keeps_preserved}

-- a vertex of the slice of some vertices, each of which has one slice in both graphs
part_from : (p m : Tree) (S : Vertex → Type 0) → ((v : Vertex) → S v → Same (slice_at (graph_of p) v) (slice_at (graph_of m) v)) → (w : Vertex) → (slice_of (graph_of p) S).vertex w
    → HasPartFrom p m w
part_from p m S same w (is, (v, es, one, leads)) = (v, same v one, (is, (v, es, refl, leads)))

-- the slice of a point in the graph of a program that has the merged graph, from one there
pub in_program : (whole : Graph) (m : Tree) → Fits whole m → (g : Graph) (v : Vertex) → Same (slice_at whole v) (slice_at g v) → Same (slice_at g v) (slice_at (graph_of m) v)
in_program whole m fits g v e =
    same_then (slice_at g v) (slice_at whole v) (slice_at (graph_of m) v) (same_turned (slice_at whole v) (slice_at g v) e)
    (same_turned (slice_at (graph_of m) v) (slice_at whole v) (slice_at_same (graph_of m) whole v fits))

module _ (M : Meaning) (LW : HasLaws M) where
  -- the programs with their steps
  abbrev versions_of : List (Finished M) → List Version
  versions_of [] = []
  versions_of (r ∷ rs) = (r.program, r.steps) ∷ versions_of rs

  steps_same : (rs : List (Finished M)) → steps_of (versions_of rs) ≡ steps_in M rs
  steps_same [] = refl
  steps_same (r ∷ rs) = ap (λ n. r.steps + n) (steps_same rs)

  all_end : (s : M.State) (rs : List (Finished M)) → AllByRecursion IsProgram (programs_of M rs) → AllByRecursion (DoesFinish M s) rs → AllByRecursion (DoesEnd M s) (versions_of rs)
  all_end s [] programs ended = tt
  all_end s (r ∷ rs) programs ended = ((programs.0, (r.finals, ended.0)), all_end s rs programs.1 ended.1)

  module _ (base m : Tree) (whole : Graph) (fits : Fits whole m) where
    abbrev Found : List Version → Tag → Content → Type 0
    Found is t c = (i : Version) × Among i is × HasPartFrom i.0 m (Part t c)

    later : (i : Version) (is : List Version) (t : Tag) (c : Content) → Found is t c → Found (i ∷ is) t c
    later i is t c (j, among, part) = (j, there among, part)

    own : (r : Finished M) (is : List Version) → ((v : Vertex) → IsAffected (graph_of r.program) (graph_of base) v → Same (slice_at whole v) (slice_at (graph_of r.program) v))
        → (t : Tag) (c : Content) → (slice_of (graph_of r.program) (IsAffected (graph_of r.program) (graph_of base))).vertex (Part t c)
        → Found ((r.program, r.steps) ∷ is) t c
    own r is keeps t c h = (
      (r.program, r.steps),
      here,
      part_from r.program m (IsAffected (graph_of r.program) (graph_of base)) (λ v one. in_program whole m fits (graph_of r.program) v (keeps v one)) (Part t c) h,
    )

    changed_from : (rs : List (Finished M)) → KeepsIn whole (graph_of base) (graphs_of (programs_of M rs)) → (t : Tag) (c : Content)
        → (changed (graph_of base) (graphs_of (programs_of M rs))).vertex (Part t c) → Found (versions_of rs) t c
    changed_from [] keeps t c h = absurd h
    changed_from (r ∷ []) keeps t c h = own r [] (keeps zero) t c h
    changed_from (r ∷ q ∷ rs) keeps t c (inl h) = own r (versions_of (q ∷ rs)) (keeps zero) t c h
    changed_from (r ∷ q ∷ rs) keeps t c (inr h) =
        later (r.program, r.steps) (versions_of (q ∷ rs)) t c (changed_from (q ∷ rs) (λ i. keeps (suc i)) t c h)

  module _ (base m : Tree) (rs : List (Finished M)) (is : IsProgram base) (all : AllByRecursion IsProgram (programs_of M rs)) (is_m : IsProgram m)
      (fits : Fits (merged_of_all base (programs_of M rs)) m) (keeps : KeepsEach base (programs_of M rs)) (s : M.State) (n0 : ℕ) where
    abbrev Whole : Graph
    Whole = merged_of_all base (programs_of M rs)

    abbrev versions : List Version
    versions = (base, n0) ∷ versions_of rs

    covered : IsCovered versions m
    covered t c says = go ((fits.0 (Part t c)).0 says)
      where
        go : Whole.vertex (Part t c) → (i : Version) × Contains versions i × HasPartFrom i.0 m (Part t c)
        go (inl h) = let found = changed_from base m Whole fits rs keeps t c h in (found.0, contains_among found.0 versions (there found.1), found.2)
        go (inr h) = (
          (base, n0),
          contains_among (base, n0) versions here,
          part_from base m (IsPreservedBy (graph_of base) (graphs_of (programs_of M rs)))
              (λ v one. in_program Whole m fits (graph_of base) v (keeps_preserved base (programs_of M rs) is all v one)) (Part t c) h,
        )

    pub merged_ends : (f0 : FinalValues M) → Ends M base s n0 f0 → AllByRecursion (DoesFinish M s) rs → (g : FinalValues M) × Ends M m s (n0 + steps_in M rs) g
    merged_ends f0 e0 ended =
        let g = covered_ends M LW m s versions is_m ((is, (f0, e0)), all_end s rs all ended) covered in
        (g.0, subst (λ n. Ends M m s (n0 + n) g.0) (steps_same rs) g.1)
