-- The marks of a search are those of a slice, or of what is reached.
use Rattle.std.proofs.Common.{◌≡◌, ℕ, ◌<◌, Bool, List, All, Contains, length, ◌∙◌, subst, false, replicate, ap, arith}
use Rattle.std.proofs.lemmas.List.Elements.{All-contains}
use Rattle.hpr_terms.proofs.Facts.{get_below}
use Rattle.hpr_search.specs.Walks as walks
use Rattle.std.proofs.lemmas.List.{length-replicate}
use Rattle.hpr_search.specs.Marks.{IsMarked}
use Rattle.hpr_search.proofs.Marked.{no_marks}
use Rattle.hpr_graph.specs.declared.vertex.Vertex.{Vertex}
use Rattle.hpr_graph.specs.Graphs.{Same, restrict_to}
use Rattle.hpr_graph.specs.Numbered.{Numbered, IsNumbered, IsMarkedVertex, graph_in}
use Rattle.hpr_graph.specs.Slices.{IsReached, ReachesOne}
use Rattle.hpr_graph.proofs.Laws.{restrict_same_on, closed_by_numbers}
use Rattle.hpr_slice.specs.Vertices.{IsOneOf, MarksExactly}
use Rattle.hpr_slice.specs.Neighbours.{AreTargets, sources_at}
use Rattle.hpr_graph.proofs.Lists.{place_of}
use Rattle.hpr_search.specs.Rows.{numbers_at}
use Rattle.hpr_slice.proofs.Walks.{leads_back, walk_back, leads_ahead, walk_ahead}

module _ (g : Numbered) (k : IsNumbered g) (numbers : List ℕ) (within : All (λ n. n < length g.vertices) numbers) (marks : List Bool) where
  pub marks_slice : length marks ≡ length g.vertices → ((p : ℕ) → IsMarked marks p → walks.IsReached (sources_at g) numbers p) → ((p : ℕ) → walks.IsReached (sources_at g) numbers p → IsMarked marks p)
      → MarksExactly g (ReachesOne (graph_in g) (IsOneOf g numbers)) marks
  marks_slice size sound complete = record {
    count = size;
    exact = λ at v at_v. (
      λ m.
          (let (n, via, has, walk) = sound at m in
          let (s, at_s) = get_below g.vertices n (All-contains (λ x. x < length g.vertices) numbers n within has) in
          let (es, leads) = leads_back g k n at via s v walk at_s at_v in
          (s, es, (n, has, at_s), leads)),
      λ (s, es, (n, has, at_s), leads).
          (let (m, via, at_m, walk) = walk_back g k at es s v leads at_v in
          complete at (m, via, subst (Contains numbers) (k.once n m s at_s at_m) has, walk)),
    );
  }

  module _ (rows : List (List ℕ)) (targets : AreTargets g rows) where
    pub marks_reached : length marks ≡ length rows → ((p : ℕ) → IsMarked marks p → walks.IsReached (numbers_at rows) numbers p) → ((p : ℕ) → walks.IsReached (numbers_at rows) numbers p → IsMarked marks p)
        → MarksExactly g (IsReached (graph_in g) (IsOneOf g numbers)) marks
    marks_reached size sound complete = record {
      count = size ∙ targets.count;
      exact = λ at v at_v. (
        λ m.
            (let (n, via, has, walk) = sound at m in
            let (s, at_s) = get_below g.vertices n (All-contains (λ x. x < length g.vertices) numbers n within has) in
            let (es, leads) = leads_ahead g k rows targets n at via s v walk at_s at_v in
            (s, es, (n, has, at_s), leads)),
        λ (s, es, (n, has, at_s), leads).
            (let (p, via, at_p, walk) = walk_ahead g k rows targets n es s v leads at_s in
            let same : p ≡ at = k.once p at v at_p at_v in
            complete at (n, via, has, subst (λ (x : ℕ). walks.Walk (numbers_at rows) n via x) same walk)),
      );
    }

-- nothing is reached from nowhere
pub marks_none : (g : Numbered) (numbers : List ℕ) (marks : List Bool) → length numbers ≡ 0 → marks ≡ replicate (length g.vertices) false → MarksExactly g (IsReached (graph_in g) (IsOneOf g numbers)) marks
marks_none g numbers marks none is = record {
  count = ap length is ∙ length-replicate (length g.vertices) false;
  exact = λ at v at_v. (
    λ m. absurd (no_marks (length g.vertices) at (subst (λ (ms : List Bool). IsMarked ms at) is m)),
    λ (s, es, (n, has, at_s), leads). absurd (let l = has.1 in omega (arith, l, none)),
  );
}

-- what is restricted to the marks is restricted to what is marked
pub marked_only : (g : Numbered) (P : Vertex → Type 0) (marks : List Bool) → MarksExactly g P marks → Same (restrict_to (graph_in g) (IsMarkedVertex g marks)) (restrict_to (graph_in g) P)
marked_only g P marks m =
    restrict_same_on (graph_in g) (IsMarkedVertex g marks) P (closed_by_numbers g)
    (λ v there. (
      λ (at, at_v, marked). (m.exact at v at_v).0 marked,
      λ p. (let (at, at_v) = place_of g.vertices v there in (at, at_v, (m.exact at v at_v).1 p)),
    ))
