-- What the graph, the rank and the issued numbers of a split are.
use Rattle.std.proofs.Common.{◌≡◌, ◌≢◌, Bool, ℕ, ◌+◌, ◌≤◌, List, length, map, Contains, sym, ap, ◌∙◌, subst, arith}
use Rattle.hpr_terms.specs.declared.tag.Tag.{Tag}
use Rattle.hpr_syntax.specs.declared.rows.Content.{Content}
use Rattle.hpr_syntax.specs.Issued.{Issued, issued_to}
use Rattle.hpr_graph.specs.declared.vertex.Vertex.{Vertex}
use Rattle.hpr_graph.specs.declared.vertex.Vertex.TheVariants.{Part}
use Rattle.hpr_graph.specs.Fits.{IsPart}
use Rattle.hpr_graph.specs.Graphs.{Graph, IsOnce, Same}
use Rattle.hpr_graph.specs.Numbered.{Numbered, HasVertex, IsMarkedVertex, graph_in}
use Rattle.hpr_graph.specs.Split.{AreIssuedAmong, AreSplitParts, HasOneContent, PassSerials, max_serial, renamed, split_graph, split_numbered, split_rank, with_new_tags}
use Rattle.hpr_graph.proofs.InOrder.{vertices_agree}
use Rattle.hpr_split.specs.Marks.{IsUnmarked}
use Rattle.hpr_split.proofs.Chosen.{marked_stranger}
use Rattle.hpr_split.proofs.NewTags.{below_issued, below_ranked, issued_kept, renamed_issued, renamed_once, renamed_one_content, renamed_ranked}
use Rattle.hpr_split.proofs.Renamed.{new_tags_length}
use Rattle.hpr_split.proofs.SplitGraph.{split_same}

-- a graph has one list of parts that are split
pub one_split : (g : Graph) (P : Vertex → Type 0) (vs us : List Vertex) → AreSplitParts g P vs → AreSplitParts g P us → vs ≡ us
one_split g P vs us a b = vertices_agree (record { vertex = λ v. g.vertex v × IsPart v × P v; edge = g.edge }) vs us a b

pub never_past : (g : Graph) (P : Vertex → Type 0) (z : ℕ) (vs : List Vertex) → AreSplitParts g P vs → z + length vs ≤ max_serial → ¬ PassSerials g P z
never_past g P z vs split fits (us, other, past) =
    let same : length vs ≡ length us = ap (λ (ws : List Vertex). length ws) (one_split g P vs us split other) in
    omega (arith, fits, past, same)

module _ (g h : Numbered) (rs : List (Vertex × Tag)) (is : h ≡ split_numbered rs g) where
  pub answered_graph : Same (graph_in h) (split_graph rs (graph_in g))
  answered_graph = subst (λ (k : Numbered). Same (graph_in k) (split_graph rs (graph_in g))) (sym is) (split_same rs g)

  pub answered_ranked : (rank ranks : List Vertex) → ranks ≡ split_rank rs rank → ((t : Tag) (c : Content) → HasVertex g (Part t c) → Contains rank (Part t c)) → (t : Tag) (c : Content) → HasVertex h (Part t c) → Contains ranks (Part t c)
  answered_ranked rank ranks ranks_is ranked t c has =
      subst (λ (ws : List Vertex). Contains ws (Part t c)) (sym ranks_is)
      (renamed_ranked rs g.vertices rank ranked t c (subst (λ (k : Numbered). HasVertex k (Part t c)) is has))

module _ (g : Numbered) (keep : List Bool) (rank : List Vertex) (issued : Issued) (vs : List Vertex) (split : AreSplitParts (graph_in g) (IsUnmarked g keep) vs)
    (rs : List (Vertex × Tag)) (rs_is : rs ≡ with_new_tags (issued_to 0 issued) vs) where
  are_parts : (v : Vertex) → Contains vs v → IsPart v
  are_parts v h = ((split.1 v).0 h).1

  all_tagged : (us ws : List Vertex) → us ≡ map (renamed rs) ws → us ≡ map (renamed (with_new_tags (issued_to 0 issued) vs)) ws
  all_tagged us ws e = e ∙ ap (λ (qs : List (Vertex × Tag)). map (renamed qs) ws) rs_is

  module _ (ranks : List Vertex) (ranks_is : ranks ≡ split_rank rs rank) (serials : AreIssuedAmong (Contains rank) issued) where
    pub answered_once : IsOnce rank → IsOnce ranks
    answered_once once =
        subst (λ (us : List Vertex). IsOnce us) (sym (all_tagged ranks rank ranks_is))
        (renamed_once (issued_to 0 issued) vs are_parts rank (below_issued rank issued serials) once)

    pub answered_serials : (more : Issued) → issued_to 0 more ≡ issued_to 0 issued + length rs → ((a : ℕ) → a ≢ 0 → issued_to a more ≡ issued_to a issued) → AreIssuedAmong (Contains ranks) more
    answered_serials more author others =
        let count : length rs ≡ length vs = ap (λ (qs : List (Vertex × Tag)). length qs) rs_is ∙ new_tags_length (issued_to 0 issued) vs in
        subst (λ (us : List Vertex). AreIssuedAmong (Contains us) more) (sym (all_tagged ranks rank ranks_is))
        (renamed_issued (issued_to 0 issued) vs are_parts issued more (author ∙ ap (λ (n : ℕ). issued_to 0 issued + n) count) (issued_kept issued more (length rs) author others) rank serials)

    pub answered_one_content : (h : Numbered) → h ≡ split_numbered rs g → IsOnce g.vertices → ((t : Tag) (c : Content) → HasVertex g (Part t c) → Contains rank (Part t c)) → HasOneContent (IsMarkedVertex g keep) → HasOneContent (HasVertex h)
    answered_one_content h is once ranked one =
        subst (λ (us : List Vertex). HasOneContent (Contains us)) (sym (all_tagged h.vertices g.vertices (ap (λ (k : Numbered). k.vertices) is)))
        (renamed_one_content (issued_to 0 issued) vs are_parts g.vertices (IsMarkedVertex g keep) (below_ranked g.vertices rank issued ranked serials) (marked_stranger g keep vs once split) one)
