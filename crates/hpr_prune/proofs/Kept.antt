-- What is left does what it did: it has the slice by all its vertices from the whole program.
use Rattle.hpr_meaning.specs.Any.Meaning.{Meaning, HasLaws}
use Rattle.std.proofs.Common.{◌≡◌, ℕ, ◌+◌, List, [], ◌∷◌, ◌⊎◌, refl, sym, subst, inl, inr, arith}
use Rattle.hpr_syntax.specs.Tree.{Tree}
use Rattle.hpr_syntax.specs.Shape.{IsProgram}
use Rattle.hpr_meaning.specs.Any.Run.{After, Outcome, FinalValues, final_values, outcome, run_body}
use Rattle.hpr_meaning.specs.Any.Run as run
use Rattle.hpr_meaning.specs.Any.Kept.{Ends}
use Rattle.hpr_graph.specs.declared.vertex.Vertex.{Vertex}
use Rattle.hpr_graph.specs.declared.vertex.Vertex.TheVariants.{Part, Final}
use Rattle.hpr_graph.specs.declared.edge.Edge.{Edge}
use Rattle.hpr_graph.specs.Graphs.{Graph, IsWithin, Same, HasVertices}
use Rattle.hpr_graph.specs.Whole.{HasLoops}
use Rattle.hpr_graph.specs.Slices.{LeadsTo, ReachesOne, slice_of, slice_at}
use Rattle.hpr_graph.specs.ProgramGraph.{IsVertexOf, IsEdgeOf, graph_of}
use Rattle.hpr_graph.proofs.Laws.{same_turned, same_then, same_from_within, within_from_same, within_then, slice_within, vertices_map, third_map_on}
use Rattle.hpr_closure.proofs.ProgramLoops.{program_loops}
use Rattle.hpr_closure.proofs.ProgramWhole.{says_once, ends_by}
use Rattle.hpr_closure.proofs.WholeSlices.{edge_inside, point_within}
use Rattle.hpr_paths.proofs.Among.{Among, here, among_cons, among_none, among_contains, contains_among}
use Rattle.hpr_paths.proofs.Different.{distinct_program}
use Rattle.hpr_meaning.specs.Any.OrderLaw.{vertex_of}
use Rattle.hpr_meaning.specs.Any.SliceLaw.{SharesSlice}
use Rattle.hpr_meaning.specs.Any.CoverLaw.{DoesEnd}
use Rattle.hpr_meaning.specs.CoverLaw.{Version, IsCovered}
use Rattle.hpr_meaning.proofs.SharedSlices.{slice_shared, final_name}
use Rattle.hpr_meaning.proofs.CoveredEnd.{covered_end}
use Rattle.hpr_prune.specs.Programs.{IsPruned, IsDrawn, without_idle}
use Rattle.hpr_prune.specs.Any.KeptLaw.{names_in, IsKeptBy}
use Rattle.hpr_prune.proofs.GraphOf.{edge_back, drawn_by}

vertices_both : (P Q R : Vertex → Type 0) → ((v : Vertex) → P v → Q v → R v) → (e : Edge) → HasVertices P e → HasVertices Q e → HasVertices R e
vertices_both P Q R f e h g = (f e.to h.0 g.0, f e.from h.1 g.1, third_map_on P Q R f e.kind h.2 g.2)

module _ (M : Meaning) (LW : HasLaws M) where
  -- the final values are of the names of `end`
  same_finals : {f g : FinalValues M} {m n : ℕ} → ◌≡◌ {A = Outcome M} (run.ends f m) (run.ends g n) → f ≡ g
  same_finals e = cc

  names_final : (names : List (List ℕ)) (s : M.State) → names_in M (final_values M names s) ≡ names
  names_final [] s = refl
  names_final (x ∷ names) s = let e = names_final names s in rw e refl

  names_after : (names : List (List ℕ)) (n : ℕ) (a : After M) (g : FinalValues M) (steps : ℕ) → outcome M names n a ≡ run.ends g steps → names_in M g ≡ names
  names_after names n (run.goes s left) g steps e = subst (λ y. names_in M y ≡ names) (same_finals e) (names_final names s)
  names_after names n (run.stops t f left) g steps e = absurd cc
  names_after names n run.spent g steps e = absurd cc

  module _ (p q : Tree) (ip : IsProgram p) (iq : IsProgram q) (S : Vertex → Type 0) (pr : IsPruned (slice_of (graph_of p) S).vertex p q)
      (same : Same (graph_of q) (without_idle (slice_of (graph_of p) S))) where
    p_loops : HasLoops (graph_of p)
    p_loops = program_loops p (says_once p ip)

    q_loops : HasLoops (graph_of q)
    q_loops = program_loops q (says_once q iq)

    -- all vertices of what is left
    abbrev All : Vertex → Type 0
    All = (graph_of q).vertex

    abbrev Left : Vertex → Type 0
    Left v = (slice_of (graph_of p) S).vertex v × IsDrawn (slice_of (graph_of p) S) v

    left_by : (w : Vertex) (es : List Edge) (v : Vertex) → All v → IsVertexOf p w → LeadsTo (graph_of p) w es v → Left w
    left_by w [] v has is e = subst Left (sym e) ((same.0 v).0 has)
    left_by w (e ∷ es) v has is (edge, l, from, rest) =
        let next : Left e.to = left_by e.to es v has (ends_by p e.kind e.from e.to edge).0 rest in
        let inner : (slice_of (graph_of p) S).edge e = (edge, edge_inside (graph_of p) (p_loops) S e edge l next.0.1) in
        (subst (slice_of (graph_of p) S).vertex from (edge_back p q ip S pr e edge l next.0), drawn_by p q ip S pr w e inner l from)

    reaches_left : (w : Vertex) → IsVertexOf p w → ReachesOne (graph_of p) All w → Left w
    reaches_left w is (v, es, has, leads) = left_by w es v has is leads

    itself : (g : Graph) (v : Vertex) → All v → ReachesOne g All v
    itself g v has = (v, [], has, refl)

    ends_in : (e : Edge) → IsEdgeOf q e → HasVertices All e
    ends_in e h = ends_by q e.kind e.from e.to h

    -- the slice of p by these
    of_p : Same (slice_of (graph_of p) All) (without_idle (slice_of (graph_of p) S))
    of_p = (
      (λ w. ((λ h. reaches_left w h.0 h.1), (λ h. (h.0.0, itself (graph_of p) w ((same.0 w).1 h))))),
      (λ e. (
        (λ h. let both = vertices_both (IsVertexOf p) (ReachesOne (graph_of p) All) Left reaches_left e (ends_by p e.kind e.from e.to h.0) h.1 in
            ((h.0, vertices_map Left (ReachesOne (graph_of p) S) (λ v l. l.0.1) e both), vertices_map Left (IsDrawn (slice_of (graph_of p) S)) (λ v l. l.1) e both)),
        (λ h. (h.0.0, vertices_map All (ReachesOne (graph_of p) All) (itself (graph_of p)) e (ends_in e ((same.1 e).1 h)))),
      )),
    )

    -- and of q
    of_q : Same (slice_of (graph_of q) All) (graph_of q)
    of_q = ((λ w. ((λ h. h.0), (λ h. (h, itself (graph_of q) w h)))), (λ e. ((λ h. h.0), (λ h. (h, vertices_map All (ReachesOne (graph_of q) All) (itself (graph_of q)) e (ends_in e h))))))

    one_slice : Same (slice_of (graph_of p) All) (slice_of (graph_of q) All)
    one_slice = same_then (slice_of (graph_of p) All) (without_idle (slice_of (graph_of p) S)) (slice_of (graph_of q) All) of_p
        (same_turned (slice_of (graph_of q) All) (without_idle (slice_of (graph_of p) S)) (same_then (slice_of (graph_of q) All) (graph_of q) (without_idle (slice_of (graph_of p) S)) of_q same))

    p_in_q : IsWithin (slice_of (graph_of p) All) (graph_of q)
    p_in_q = within_then (slice_of (graph_of p) All) (slice_of (graph_of q) All) (graph_of q) (within_from_same (slice_of (graph_of p) All) (slice_of (graph_of q) All) one_slice) (slice_within (graph_of q) All)

    q_in_p : IsWithin (slice_of (graph_of q) All) (graph_of p)
    q_in_p = within_then (slice_of (graph_of q) All) (slice_of (graph_of p) All) (graph_of p)
        (within_from_same (slice_of (graph_of q) All) (slice_of (graph_of p) All) (same_turned (slice_of (graph_of p) All) (slice_of (graph_of q) All) one_slice)) (slice_within (graph_of p) All)

    covered : (n : ℕ) → IsCovered ((p, n) ∷ []) q
    covered n t c says = (
      (p, n),
      contains_among (p, n) ((p, n) ∷ []) here,
      (
        Part t c,
        same_from_within (slice_at (graph_of p) (Part t c)) (slice_at (graph_of q) (Part t c))
            (point_within (graph_of p) (p_loops) All (graph_of q) p_in_q (Part t c) says) (point_within (graph_of q) (q_loops) All (graph_of p) q_in_p (Part t c) says),
        (((same.0 (Part t c)).0 says).0.0, (Part t c, [], refl, refl)),
      ),
    )

    module _ (s : M.State) (n : ℕ) (f : FinalValues M) (e : Ends M p s n f) where
      is_version : (i : Version) → (◌≡◌ {A = Version} (p, n) i) ⊎ Among i [] → DoesEnd M s i
      is_version i (inl is) = subst (DoesEnd M s) is (ip, (f, e))
      is_version i (inr h) = absurd (among_none i h)

      ends_too : (g : FinalValues M) × Ends M q s n g
      ends_too =
          let g = covered_end M LW q s ((p, n) ∷ []) iq (λ i c. is_version i (among_cons (among_contains i ((p, n) ∷ []) c))) (covered n) in
          let sum : n + 0 ≡ n = omega arith in (g.0, subst (λ k. Ends M q s k g.0) sum g.1)

      shared : SharesSlice M p q All s n n
      shared = slice_shared M LW p q All s n n e.0 f ip iq one_slice e.1

      in_slice : (v : Vertex) → All v → (slice_of (graph_of p) All).vertex v
      in_slice v h = (((same.0 v).0 h).0.0, itself (graph_of p) v h)

      pub kept : IsKeptBy M p q s n f
      kept = record {
        ends = (
          ends_too.0,
          ends_too.1,
          names_after q.finals n (run_body M q.body s n) ends_too.0 ends_too.1.0 ends_too.1.1,
          λ x v c. (shared.same_finals f ends_too.0 e.0 ends_too.1.0 e.1 ends_too.1.1 x v
              (in_slice (Final x) (final_name M LW q s n (distinct_program q iq) ends_too.0 ends_too.1.0 ends_too.1.1 x v c))).1 c,
        );
        steps = λ i says. (
          (λ c. shared.done_alike i c (in_slice (vertex_of M i) says)),
          (λ c. shared.done_by_both ends_too.0 ends_too.1.0 ends_too.1.1 i c (in_slice (vertex_of M i) says)),
        );
      }
