-- What is searched for a base and its variants: the merged graph with split tags, its rank and its issued numbers.
use Rattle.std.proofs.Common.{◌≡◌, ℕ, ◌≤◌, inl, inr, List, [], ◌∷◌, length, Contains, refl, sym, ap, ◌∙◌, subst}
use Rattle.std.specs.List.{AllByRecursion}
use Rattle.hpr_terms.specs.declared.tag.Tag.{Tag}
use Rattle.hpr_terms.proofs.Facts.{in_cons, in_here, in_map, in_none}
use Rattle.hpr_syntax.specs.Issued.{issued_to}
use Rattle.hpr_syntax.specs.Proper.{IsProperIssued}
use Rattle.hpr_syntax.specs.Shape.{IsProgram}
use Rattle.hpr_syntax.specs.Tree.{Tree}
use Rattle.hpr_syntax.proofs.IssuedTags.{serial_of}
use Rattle.hpr_graph.specs.declared.vertex.Vertex.{Vertex}
use Rattle.hpr_graph.specs.declared.vertex.Vertex.TheVariants.{Part}
use Rattle.hpr_graph.specs.Answer.{AnswerBy, Fits, IsFound, IsFoundFor, IsPart, AreSplitOff, IsSearchedRankOf, graphs_of, issued_of_all, merged_of, merged_of_all, searched_graph_of, searched_issued_of}
use Rattle.hpr_graph.specs.Graphs.{Graph, IsOnce}
use Rattle.hpr_graph.specs.Points.{AllShare, IsShared}
use Rattle.hpr_graph.specs.ProgramGraph.{graph_of}
use Rattle.hpr_graph.specs.Rank.{IsRankOf}
use Rattle.hpr_graph.specs.Split.{AreIssuedAmong, AreRenamed, HasOneContent, IsSplitOff, renamed, split_graph, split_rank}
use Rattle.hpr_graph.specs.Whole.{AreAll}
use Rattle.hpr_graph.proofs.Bounded.{Bounded, of_within}
use Rattle.hpr_graph.proofs.Laws.{part_tag}
use Rattle.hpr_closure.proofs.ProgramWhole.{says_once}
use Rattle.hpr_merge.proofs.EdgeStands.{changed_by}
use Rattle.hpr_merge.proofs.SomeConflicts.{OfSome, of_number, some_bounded}
use Rattle.hpr_order.specs.Arranging.{AreIssued, IsRanking}
use Rattle.hpr_order.proofs.Ranks.{rank_has, rank_once}
use Rattle.hpr_rebuild.proofs.Sames.{found_same}
use Rattle.hpr_region.proofs.PartOrder.{part_says}
use Rattle.hpr_rename.proofs.MappedAlike.{split_none}
use Rattle.hpr_split.proofs.NewTags.{below_issued, renamed_once}
use Rattle.hpr_split.proofs.Renamed.{renamed_part}
use Rattle.hpr_engine.proofs.Premises.{of_variant, parts_issued, proper_issued, ranking}
use Rattle.hpr_engine.proofs.Raised.{program_raised, with_issued}
use Rattle.hpr_engine.proofs.SplitNumbers.{split_proper, split_serials}
use Rattle.hpr_engine.proofs.SplitParts.{in_turn, none_renamed, one_content_behind, one_renamed, some_renamed}

-- where nothing is split off, the rank is as it was
pub rank_itself : (r : List Vertex) → split_rank [] r ≡ r
rank_itself [] = refl
rank_itself (v ∷ r) = ap (λ (vs : List Vertex). v ∷ vs) (rank_itself r)

-- where a program has the graph, no tag has two contents
pub fitting_content : (g : Graph) (p : Tree) → IsProgram p → Fits g p → HasOneContent g.vertex
fitting_content g p is fits t c d h k = says_once p is t c d ((fits.0 (Part t c)).1 h) ((fits.0 (Part t d)).1 k)

contents : (vs : List Tree) → AllByRecursion IsProgram vs → AreAll (λ h. HasOneContent h.vertex) (graphs_of vs)
contents [] all = tt
contents (v ∷ vs) all = (says_once v all.0, contents vs all.1)

-- each vertex of the merged graph is one of a variant's, since what is preserved is one of all
first_shares : (base a : Tree) (vs : List Tree) (s : Vertex) → AllShare (graph_of base) (graphs_of (a ∷ vs)) s → IsShared (graph_of base) (graph_of a) s
first_shares base a [] s share = share
first_shares base a (b ∷ vs) s share = share.0

pub in_variant : (base a : Tree) (vs : List Tree) (v : Vertex) → (merged_of_all base (a ∷ vs)).vertex v → (p : Tree) × Contains (a ∷ vs) p × (graph_of p).vertex v
in_variant base a vs v (inl h) = of_variant (graph_of base) (a ∷ vs) v h
in_variant base a vs v (inr (has, (s, es, (other, stands, shared), leads))) =
    (a, in_here a vs, (((first_shares base a vs s shared).1.0 v).0 (has, (s, es, refl, leads))).0)

-- a part that is split off is no part of the first variant, so it is one of a later variant; of two it is the second one's
pub of_later : (base a : Tree) (vs : List Tree) (v : Vertex) → IsSplitOff (graphs_of (a ∷ vs)) (merged_of_all base (a ∷ vs)) v
    → ((p : Tree) × Contains vs p × (graph_of p).vertex v) × ¬ (graph_of a).vertex v
of_later base a vs v (t, (c, v_is, there), others, gone) =
    let not_first : ¬ (graph_of a).vertex v = λ h. gone (inl ((c, v_is, there), h)) in
    let (p, among, has) = in_variant base a vs v there in
    let later : (q : Tree) × Contains vs q × (graph_of q).vertex v =
    elim (in_cons a p vs among) [ inl e ↦ absurd (not_first (subst (λ (q : Tree). (graph_of q).vertex v) (sym e) has)) | inr behind ↦ (p, behind, has) ] in
    (later, not_first)

pub of_b : (base a b : Tree) (v : Vertex) → IsSplitOff (graph_of a ∷ graph_of b ∷ []) (merged_of base a b) v → (graph_of b).vertex v × ¬ (graph_of a).vertex v
of_b base a b v off =
    let ((p, there, has), not_a) = of_later base a (b ∷ []) v off in
    let is_b : (graph_of b).vertex v =
    elim (in_cons b p [] there) [ inl e ↦ subst (λ (q : Tree). (graph_of q).vertex v) (sym e) has | inr none ↦ absurd (in_none p none) ] in
    (is_b, not_a)

module _ (base : Tree) (vs : List Tree) where
  abbrev M : Graph
  M = merged_of_all base vs

  abbrev IsOff : Vertex → Type 0
  IsOff = IsSplitOff (graphs_of vs) M

  abbrev last : ℕ
  last = issued_to 0 (issued_of_all base vs)

  pub one_split_off : (rs ss : List (Vertex × Tag)) → AreSplitOff base vs rs → AreSplitOff base vs ss → rs ≡ ss
  one_split_off = one_renamed M IsOff last

  -- the merged graph has so many vertices, and so many of them are split off
  of_some : (v : Vertex) → M.vertex v → OfSome (base ∷ vs) v
  of_some v (inl h) = let more = changed_by (graph_of base) (graphs_of vs) v h in inr (of_number vs more.0 v more.1.0)
  of_some v (inr h) = inl h.0

  pub vertices_bounded : Bounded M.vertex
  vertices_bounded = of_within M.vertex (OfSome (base ∷ vs)) of_some (some_bounded (base ∷ vs))

  pub some_split_off : ¬ (¬ ((rs : List (Vertex × Tag)) × AreSplitOff base vs rs))
  some_split_off = some_renamed M IsOff last (of_within (λ v. M.vertex v × IsPart v × IsOff v) M.vertex (λ v h. h.0) vertices_bounded)

  pub none_split_off : HasOneContent M.vertex → (rs : List (Vertex × Tag)) → AreSplitOff base vs rs → rs ≡ []
  none_split_off one rs split = none_renamed (graphs_of vs) M last rs one split

  -- what is found, for these parts
  abbrev pub IsFoundWith : {X : Type 0} → List (Vertex × Tag) → ℕ → AnswerBy X → Type 0
  IsFoundWith {X} rs tries r =
      (rank : List Vertex) × IsSearchedRankOf rs base vs rank × IsFound {X = X} (searched_graph_of rs base vs) rank (searched_issued_of rs base vs) tries r

  pub found_with : {X : Type 0} (rs : List (Vertex × Tag)) → AreSplitOff base vs rs → (tries : ℕ) (r : AnswerBy X) → IsFoundFor {X = X} base vs tries r → IsFoundWith {X = X} rs tries r
  found_with {X} rs split tries r (ss, other, found) =
      subst (λ (qs : List (Vertex × Tag)). IsFoundWith {X = X} qs tries r) (one_split_off ss rs other split) found

  -- where nothing is split off, it is found for the merged graph
  pub found_whole : {X : Type 0} → HasOneContent M.vertex → (tries : ℕ) (r : AnswerBy X) → IsFoundFor {X = X} base vs tries r
      → (rank : List Vertex) × IsRankOf base vs rank × IsFound {X = X} M rank (issued_of_all base vs) tries r
  found_whole {X} one tries r (rs, split, found) =
      let (ranks, (rank, is, e), whole) = subst (λ (qs : List (Vertex × Tag)). IsFoundWith {X = X} qs tries r) (none_split_off one rs split) found in
      let of_rank = subst (λ (l : List Vertex). IsFound {X = X} (split_graph [] M) l (issued_of_all base vs) tries r) (e ∙ rank_itself rank) whole in
      (rank, is, found_same {X = X} (split_graph [] M) M (split_none M) rank (issued_of_all base vs) tries r of_rank)

  module _ (is : IsProgram base) (all : AllByRecursion IsProgram vs) where
    -- the serials of the parts in the rank are issued
    pub rank_serials : (r : List Vertex) → IsRankOf base vs r → AreIssuedAmong (Contains r) (issued_of_all base vs)
    rank_serials r is_rank t c h =
        let (p, there, listed) = (rank_has base vs r is_rank (Part t c)).0 h in
        let (s, d, same, says) = part_says p (Part t c) listed in
        subst (λ (u : Tag). (1 ≤ u.serial) × (u.serial ≤ issued_to u.author (issued_of_all base vs))) (sym (part_tag t s c d same))
        (serial_of (with_issued (issued_of_all base vs) p) (program_raised base vs p is all there) s d says)

    -- no tag has two contents in what is searched, where the serials suffice
    pub one_content : (rs : List (Vertex × Tag)) → AreRenamed M IsOff last rs → HasOneContent (searched_graph_of rs base vs).vertex
    one_content rs are =
        one_content_behind (graphs_of vs) M (contents vs all) last
        (λ v has t c v_is author. subst (λ (a : ℕ). t.serial ≤ issued_to a (issued_of_all base vs)) author (parts_issued base vs is all t c (subst M.vertex v_is has)).1) rs are

    module _ (rs : List (Vertex × Tag)) (split : AreSplitOff base vs rs) where
      pub searched_once : (r : List Vertex) → IsRankOf base vs r → IsOnce (split_rank rs r)
      searched_once r is_rank =
          let (us, rs_is, parts) = in_turn M IsOff last rs split in
          subst (λ (qs : List (Vertex × Tag)). IsOnce (split_rank qs r)) (sym rs_is)
          (renamed_once last us parts r (below_issued r (issued_of_all base vs) (rank_serials r is_rank)) (rank_once base vs r is_rank all))

      pub searched_ranking : (r : List Vertex) → IsRankOf base vs r → IsRanking (searched_graph_of rs base vs) (split_rank rs r)
      searched_ranking r is_rank = record {
        all = λ t c (v, has, v_is).
            (let (s, was) = renamed_part rs v t c v_is in
            let listed : Contains r v = subst (Contains r) (sym was) ((ranking base vs r is_rank all).all s c (subst M.vertex was has)) in
            subst (Contains (split_rank rs r)) v_is (in_map (renamed rs) r v listed));
        once = searched_once r is_rank;
      }

      pub searched_serials : AreIssued (searched_graph_of rs base vs) (searched_issued_of rs base vs)
      searched_serials =
          let (us, rs_is, parts) = in_turn M IsOff last rs split in
          split_serials M (issued_of_all base vs) (proper_issued base vs is all).0 (parts_issued base vs is all) us parts rs rs_is

    pub searched_proper : (rs : List (Vertex × Tag)) → AreSplitOff base vs rs → IsProperIssued (searched_issued_of rs base vs)
    searched_proper rs (inl (are, fits)) = split_proper (length rs) (issued_of_all base vs) (proper_issued base vs is all) fits
    searched_proper rs (inr (past, none)) =
        subst (λ (qs : List (Vertex × Tag)). IsProperIssued (searched_issued_of qs base vs)) (sym none) (proper_issued base vs is all)
