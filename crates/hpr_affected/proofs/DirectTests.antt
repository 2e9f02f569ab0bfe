-- The test of a vertex is whether it is directly affected.
use Rattle.std.proofs.Common.{◌≡◌, ℕ, ◌↔◌, inl, inr, Bool, true, false, IsTrue, Option, Some, None, List, slice_get, refl, sym, ap, ◌∙◌, subst}
use Rattle.std.proofs.lemmas.Option.{slice_get_within}
use Rattle.hpr_search.specs.Marks.{IsMarked}
use Rattle.hpr_graph.specs.declared.vertex.Vertex.{Vertex}
use Rattle.hpr_graph.specs.declared.edge.Kind.{Kind}
use Rattle.hpr_graph.specs.declared.edge.Kind.TheVariants as kind
use Rattle.hpr_graph.specs.declared.edge.Edge.{Edge}
use Rattle.hpr_graph.specs.declared.link.LinkKind.{LinkKind}
use Rattle.hpr_graph.specs.declared.link.LinkKind.TheVariants.{Control, Independent, Carried, Order}
use Rattle.hpr_graph.specs.declared.link.Link.{Link}
use Rattle.hpr_graph.specs.Numbered.{Numbered, HasVertex, HasEdge, IsKindAt, IsNumbered, graph_in}
use Rattle.hpr_graph.specs.Moves.{number_at}
use Rattle.hpr_graph.specs.Slices.{Leads}
use Rattle.hpr_graph.proofs.Lists.{some_inj, contains_at}
use Rattle.hpr_graph.specs.Direct.{IsAlike, IsDirectlyAffected}
use Rattle.hpr_closure.proofs.FiniteGraphs.{finite_by_numbers}
use Rattle.hpr_closure.proofs.Reached.{edge_there}
use Rattle.hpr_affected.specs.Lacking.{AreNumbersIn}
use Rattle.hpr_closure.specs.Counts.{counts_at, Counts}
use Rattle.hpr_affected.specs.Differing.{CountsLacking, AreDiffering, HasOwn, IsDiffering, IsDirectBy}
use Rattle.hpr_affected.proofs.MovedLinks.{same_at, edge_from_there, there_from_edge}

-- a link counts where its edge does
counts_by : (vs : List Vertex) (to n : ℕ) (l : Link) (k : LinkKind) (e : Edge) (f : Kind) (v : Vertex) → slice_get vs to ≡ Some e.to → IsKindAt vs k e.from f → slice_get vs n ≡ Some v → counts_at k to ≡ n → Counts f e.to v
counts_by vs to n l (Control label) e f v at is at_n c = subst (λ (g : Kind). Counts g e.to v) (sym is) (some_inj e.to v (sym at ∙ ap (slice_get vs) c ∙ at_n))
counts_by vs to n l Independent e f v at (x, d, is) at_n c = subst (λ (g : Kind). Counts g e.to v) (sym is) (some_inj e.to v (sym at ∙ ap (slice_get vs) c ∙ at_n))
counts_by vs to n l (Carried w) e f v at (x, y, d, at_w, is) at_n c = subst (λ (g : Kind). Counts g e.to v) (sym is) (some_inj e.to v (sym at ∙ ap (slice_get vs) c ∙ at_n))
counts_by vs to n l (Order u) e f v at (y, at_u, is) at_n c = subst (λ (g : Kind). Counts g e.to v) (sym is) (some_inj y v (sym at_u ∙ ap (slice_get vs) c ∙ at_n))

module _ (vs : List Vertex) (once : (i j : ℕ) (x : Vertex) → slice_get vs i ≡ Some x → slice_get vs j ≡ Some x → i ≡ j) where
  by_counts : (to n : ℕ) (k : LinkKind) (e : Edge) (f : Kind) (v : Vertex) → slice_get vs to ≡ Some e.to → IsKindAt vs k e.from f → slice_get vs n ≡ Some v → Counts f e.to v → counts_at k to ≡ n
  by_counts to n (Control label) e f v at is at_n c =
      let same : e.to ≡ v = subst (λ (g : Kind). Counts g e.to v) is c in once to n v (at ∙ ap Some same) at_n
  by_counts to n Independent e f v at (x, d, is) at_n c =
      let same : e.to ≡ v = subst (λ (g : Kind). Counts g e.to v) is c in once to n v (at ∙ ap Some same) at_n
  by_counts to n (Carried w) e f v at (x, y, d, at_w, is) at_n c =
      let same : e.to ≡ v = subst (λ (g : Kind). Counts g e.to v) is c in once to n v (at ∙ ap Some same) at_n
  by_counts to n (Order u) e f v at (y, at_u, is) at_n c =
      let same : y ≡ v = subst (λ (g : Kind). Counts g e.to v) is c in once u n v (at_u ∙ ap Some same) at_n

-- where both graphs have v and the same edges that count at it, they are alike there, and the other way round
counts_leading : (e : Edge) (f : Kind) (v : Vertex) → e.to ≡ v → Leads f → Counts f e.to v
counts_leading e (kind.Control label) v to l = to
counts_leading e (kind.Independent x) v to l = to
counts_leading e (kind.Carried x w) v to l = to
counts_leading e (kind.Order u) v to l = absurd l

alike_edge : (g h : Numbered) (e : Edge) (f : Kind) (v : Vertex) → e.kind ≡ f → IsAlike (graph_in g) (graph_in h) v → Counts f e.to v → HasEdge g e ↔ HasEdge h e
alike_edge g h e (kind.Control label) v is a c = a.1 e c (subst Leads (sym is) tt)
alike_edge g h e (kind.Independent x) v is a c = a.1 e c (subst Leads (sym is) tt)
alike_edge g h e (kind.Carried x w) v is a c = a.1 e c (subst Leads (sym is) tt)
alike_edge g h e (kind.Order u) v is a c = a.2 e (is ∙ ap (λ (w : Vertex). kind.Order w) c)

module _ (g h : Numbered) (kg : IsNumbered g) (kh : IsNumbered h) (ns : List (Option ℕ)) (numbers : AreNumbersIn g h ns) where
  -- a link counts that h lacks: so does its edge
  own_edge : (n : ℕ) (v : Vertex) → slice_get g.vertices n ≡ Some v → CountsLacking g h ns n → HasOwn (graph_in g) (graph_in h) v
  own_edge n v at_n (to, (l, has, absent, c)) =
      let (e, is) = kg.links to l has in
      (e, (to, l, has, is), (λ there. absent (there_from_edge g h kh ns numbers to l e is there)), counts_by g.vertices to n l l.kind e e.kind v is.0 is.2 at_n c)

  -- and the other way round
  own_link : (n : ℕ) (v : Vertex) → slice_get g.vertices n ≡ Some v → HasOwn (graph_in g) (graph_in h) v → CountsLacking g h ns n
  own_link n v at_n (e, (to, l, has, is), absent, c) =
      (to, (l, has, (λ there. absent (edge_from_there g h kh ns numbers to l e is there)), by_counts g.vertices kg.once to n l.kind e e.kind v is.0 is.2 at_n c))

  -- the marks are those of these vertices
  pub own_marks : (marks : List Bool) → AreDiffering g h ns marks → IsDiffering g h ns marks
  own_marks marks d = record {
    numbers = numbers;
    own = record {
      count = d.count;
      exact = λ at v at_v.
          (let below = slice_get_within g.vertices at v at_v in (
            λ marked. own_edge at v at_v ((d.exact at below).0 marked),
            λ own. (d.exact at below).1 (own_link at v at_v own),
          ));
    };
  }

-- the same of numbers that are read
pub own_read : (g h : Numbered) (kg : IsNumbered g) (kh : IsNumbered h) (ns read : List (Option ℕ)) (marks : List Bool) → AreNumbersIn g h ns → read ≡ ns → AreDiffering g h read marks → IsDiffering g h ns marks
own_read g h kg kh ns read marks numbers is d = own_marks g h kg kh ns numbers marks (subst (λ (xs : List (Option ℕ)). AreDiffering g h xs marks) is d)

-- where no edge counts that h lacks, h has each edge that counts there
kept_edge : (g h : Numbered) (kh : IsNumbered h) (v : Vertex) → ¬ HasOwn (graph_in g) (graph_in h) v → (e : Edge) → Counts e.kind e.to v → HasEdge g e → HasEdge h e
kept_edge g h kh v none e c has = elim (edge_there (graph_in h) (finite_by_numbers h kh) e) [ inl there ↦ there | inr absent ↦ absurd (none (e, has, absent, c)) ]

-- what the numbers and the marks tell of a vertex
module _ (g h : Numbered) (kg : IsNumbered g) (kh : IsNumbered h) (ns back : List (Option ℕ)) (differ others : List Bool) (way : IsDiffering g h ns differ) (way_back : IsDiffering h g back others) where
  module _ (at : ℕ) (v : Vertex) (at_v : slice_get g.vertices at ≡ Some v) where
    -- an edge that counts there is one graph's alone
    differs_here : HasOwn (graph_in g) (graph_in h) v → ¬ IsAlike (graph_in g) (graph_in h) v
    differs_here (e, has, lacks, c) alike = lacks ((alike_edge g h e e.kind v refl alike c).0 has)

    differs_there : HasOwn (graph_in h) (graph_in g) v → ¬ IsAlike (graph_in g) (graph_in h) v
    differs_there (e, has, lacks, c) alike = lacks ((alike_edge g h e e.kind v refl alike c).1 has)

    same_edge : ¬ HasOwn (graph_in g) (graph_in h) v → ¬ HasOwn (graph_in h) (graph_in g) v → (e : Edge) → Counts e.kind e.to v → HasEdge g e ↔ HasEdge h e
    same_edge here there e c = (kept_edge g h kh v here e c, kept_edge h g kg v there e c)

    alike_then : HasVertex h v → ¬ HasOwn (graph_in g) (graph_in h) v → ¬ HasOwn (graph_in h) (graph_in g) v → IsAlike (graph_in g) (graph_in h) v
    alike_then has here there = (
      has,
      λ e is l. same_edge here there e (counts_leading e e.kind v is l),
      λ e is. same_edge here there e (subst (λ (k : Kind). Counts k e.to v) (sym is) refl),
    )

    by_number : (n : Option ℕ) → number_at ns at ≡ n → (test : Bool) → IsTrue test ↔ IsDirectBy ns differ others at → IsTrue test ↔ IsDirectlyAffected (graph_in g) (graph_in h) v
    by_number None none test t = (
      λ _. (contains_at g.vertices at v at_v, λ alike. way.numbers.strangers at v at_v none alike.0),
      λ _. t.1 (inl none),
    )
    by_number (Some to) number test t = (
      λ is. (
        contains_at g.vertices at v at_v,
        elim (t.0 is) [
          | inl none ↦ absurd (let both : None ≡ Some to = sym none ∙ number in cc)
          | inr marked ↦ elim marked [
            | inl here ↦ differs_here ((way.own.exact at v at_v).0 here)
            | inr (to', number', there) ↦ differs_there ((way_back.own.exact to v there_v).0 (subst (IsMarked others) (some_inj to' to (sym number' ∙ number)) there))
          ]
        ],
      ),
      λ direct. true_unless test (λ no. direct.1 (alike_then (contains_at h.vertices to v there_v)
          (λ own. no (t.1 (inr (inl ((way.own.exact at v at_v).1 own)))))
          (λ own. no (t.1 (inr (inr (to, number, (way_back.own.exact to v there_v).1 own))))))),
    )
      where
        there_v : slice_get h.vertices to ≡ Some v
        there_v = same_at g h kh ns way.numbers at to v number at_v

        true_unless : (b : Bool) → ¬ (¬ IsTrue b) → IsTrue b
        true_unless true n = refl
        true_unless false n = absurd (n (λ e. cc))

    pub direct_test : (test : Bool) → IsTrue test ↔ IsDirectBy ns differ others at → IsTrue test ↔ IsDirectlyAffected (graph_in g) (graph_in h) v
    direct_test test t = by_number (number_at ns at) refl test t

-- a test of numbers and marks that are read
pub direct_read : (ns ns' : List (Option ℕ)) (differ differ' others others' : List Bool) (at : ℕ) (test : Bool) → ns' ≡ ns → differ' ≡ differ → others' ≡ others → IsTrue test ↔ IsDirectBy ns' differ' others' at → IsTrue test ↔ IsDirectBy ns differ others at
direct_read ns ns' differ differ' others others' at test a b c t =
    subst (λ (x : List (Option ℕ)). IsTrue test ↔ IsDirectBy x differ others at) a
    (subst (λ (y : List Bool). IsTrue test ↔ IsDirectBy ns' y others at) b (subst (λ (z : List Bool). IsTrue test ↔ IsDirectBy ns' differ' z at) c t))
