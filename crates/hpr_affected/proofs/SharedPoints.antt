-- What all of some graphs share with a base, one graph after another.
use Rattle.std.proofs.Common.{◌≡◌, ℕ, zero, suc, ◌+◌, ◌<◌, ◌≤◌, ◌↔◌, ◌⊎◌, inl, inr, Bool, false, IsTrue, Some, List, [], ◌∷◌, ◌++◌, length, take, replicate, get_or, slice_get, sym, ap, ◌∙◌, subst, arith}
use Rattle.std.proofs.lemmas.List.{take_more, take_all, length-replicate, map-append}
use Rattle.std.proofs.lemmas.Option.{slice_get_within}
use Rattle.hpr_search.specs.Marks.{IsMarked}
use Rattle.hpr_search.proofs.Marked.{no_marks}
use Rattle.hpr_graph.specs.declared.vertex.Vertex.{Vertex}
use Rattle.hpr_graph.specs.Graphs.{Graph}
use Rattle.hpr_graph.specs.Numbered.{Numbered, graph_in, graphs_in}
use Rattle.hpr_graph.specs.Points.{AllShare, IsInit, IsPreservedBy, IsShared}
use Rattle.hpr_graph.specs.Whole.{AreAll, IsWhole}
use Rattle.hpr_graph.proofs.Lists.{some_inj, contains_at}
use Rattle.hpr_affected.specs.Comparison.{Sides, MarksAffected}
use Rattle.hpr_affected.specs.Shared.{AreOfBase, MarksUnshared, others_of}

-- one graph more
share_more : (base : Graph) (gs : List Numbered) (h : Numbered) (v : Vertex) → AllShare base (graphs_in gs) v → IsShared base (graph_in h) v → AllShare base (graphs_in (gs ++ h ∷ [])) v
share_more base [] h v all here = here
share_more base (g ∷ []) h v all here = (all, here)
share_more base (g ∷ k ∷ gs) h v all here = (all.0, share_more base (k ∷ gs) h v all.1 here)

share_each : (base : Graph) (gs : List Numbered) (h : Numbered) (v : Vertex) → AllShare base (graphs_in (gs ++ h ∷ [])) v → AllShare base (graphs_in gs) v × IsShared base (graph_in h) v
share_each base [] h v all = (tt, all)
share_each base (g ∷ []) h v all = (all.0, all.1)
share_each base (g ∷ k ∷ gs) h v all = let more = share_each base (k ∷ gs) h v all.1 in ((all.0, more.0), more.1)

-- the marks of none, of one, and of one more
pub unshared_none : (base : Numbered) (marks : List Bool) (k : ℕ) → k ≡ length base.vertices → marks ≡ replicate k false → MarksUnshared base [] marks
unshared_none base marks k size is =
    rw is (record {
      count = length-replicate k false ∙ size;
      unshared = λ at v at_v marked all. no_marks k at marked;
      shared = λ at v at_v unmarked. tt;
    })

pub unshared_one : (base h : Numbered) (marks : List Bool) → MarksAffected base h marks → MarksUnshared base (h ∷ []) marks
unshared_one base h marks a = record {
  count = a.affected.count;
  unshared = λ at v at_v marked all. ((a.affected.exact at v at_v).0 marked).1 all;
  shared = a.shared;
}

pub unshared_more : (base h : Numbered) (affected old new : List Bool) → MarksAffected base h affected → length new ≡ length old
    → ((at : ℕ) → at < length old → IsMarked new at ↔ (IsMarked old at ⊎ IsMarked affected at)) → (gs : List Numbered) → MarksUnshared base gs old → MarksUnshared base (gs ++ h ∷ []) new
unshared_more base h affected old new a count exact gs m = record {
  count = count ∙ m.count;
  unshared = λ at v at_v marked all.
      (let w = slice_get_within base.vertices at v at_v in
      let each = share_each (graph_in base) gs h v all in
      elim ((exact at (omega (arith, w, m.count))).0 marked) [
        | inl was ↦ m.unshared at v at_v was each.0
        | inr now ↦ ((a.affected.exact at v at_v).0 now).1 each.1
      ]);
  shared = λ at v at_v unmarked.
      (let w = slice_get_within base.vertices at v at_v in
      let either = exact at (omega (arith, w, m.count)) in
      share_more (graph_in base) gs h v (m.shared at v at_v (λ was. unmarked (either.1 (inl was)))) (a.shared at v at_v (λ now. unmarked (either.1 (inr now)))));
}

-- the test of a vertex
pub preserved_test : (base : Numbered) (gs : List Numbered) (marks : List Bool) → MarksUnshared base gs marks → (at : ℕ) (x : Vertex) (test : Bool) → slice_get base.vertices at ≡ Some x
    → IsTrue test ↔ ((¬ IsInit x) × (¬ IsMarked marks at)) → (v : Vertex) → slice_get base.vertices at ≡ Some v → IsTrue test ↔ IsPreservedBy (graph_in base) (graphs_in gs) v
preserved_test base gs marks m at x test at_x t v at_v =
    let same : x ≡ v = some_inj x v (sym at_x ∙ at_v) in (
      λ yes. (let (other, unmarked) = t.0 yes in (subst (λ (z : Vertex). ¬ IsInit z) same other, contains_at base.vertices at v at_v, m.shared at v at_v unmarked)),
      λ (other, at_base, all). t.1 (subst (λ (z : Vertex). ¬ IsInit z) (sym same) other, λ marked. m.unshared at v at_v marked all),
    )

-- comparisons, one after another
pub others_more : (cs : List Sides) (i : ℕ) (d : Sides) → i < length cs → others_of (take (i + 1) cs) ≡ others_of (take i cs) ++ (get_or cs i d).other ∷ []
others_more cs i d l = ap others_of (take_more cs i d l) ∙ map-append (λ (c : Sides). c.other) (take i cs) (get_or cs i d ∷ [])

pub base_at : (base : Numbered) (cs : List Sides) (i : ℕ) (d : Sides) → i < length cs → AreOfBase base cs → (get_or cs i d).graph ≡ base
base_at base [] i d l all = absurd (omega (arith, l))
base_at base (c ∷ cs) zero d l all = all.0
base_at base (c ∷ cs) (suc i) d l all = base_at base cs i d (omega (arith, l)) all.1

pub other_at : (cs : List Sides) (i : ℕ) (d : Sides) → i < length cs → AreAll IsWhole (graphs_in (others_of cs)) → IsWhole (graph_in (get_or cs i d).other)
other_at [] i d l all = absurd (omega (arith, l))
other_at (c ∷ cs) zero d l all = all.0
other_at (c ∷ cs) (suc i) d l all = other_at cs i d (omega (arith, l)) all.1

pub all_others : (base : Numbered) (cs : List Sides) (i : ℕ) (marks : List Bool) → length cs ≤ i → MarksUnshared base (others_of (take i cs)) marks → MarksUnshared base (others_of cs) marks
all_others base cs i marks l = subst (λ (ds : List Sides). MarksUnshared base (others_of ds) marks) (take_all i cs l)

-- marks that are read
pub unshared_read : (base : Numbered) (gs : List Numbered) (marks read : List Bool) → read ≡ marks → MarksUnshared base gs marks → MarksUnshared base gs read
unshared_read base gs marks read is = subst (MarksUnshared base gs) (sym is)
