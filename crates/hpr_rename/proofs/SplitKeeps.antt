-- Where there is no conflict, a program with what is searched keeps the meaning of all variants: under the new tags base and its
-- variants are programs that do the same, and what is searched is their merged graph.
use Rattle.hpr_meaning.specs.Any.Meaning.{Meaning, HasLaws}
use Rattle.std.proofs.Common.{◌≡◌, ◌⊎◌, ℕ, zero, suc, ◌+◌, ◌≤◌, List, [], ◌∷◌, length, map, Contains, refl, sym, ap, ◌∙◌, subst, inl, inr}
use Rattle.std.specs.List.{AllByRecursion}
use Rattle.hpr_terms.specs.declared.tag.Tag.{Tag}
use Rattle.hpr_syntax.specs.Issued.{issued_to}
use Rattle.hpr_meaning.specs.Any.Kept.{Ends}
use Rattle.hpr_meaning.specs.Any.Run.{FinalValues}
use Rattle.hpr_syntax.specs.Shape.{IsProgram}
use Rattle.hpr_syntax.specs.Tree.{Tree}
use Rattle.hpr_graph.specs.declared.vertex.Vertex.{Vertex}
use Rattle.hpr_graph.specs.Answer.{Fits, AreSplitOff, graphs_of, merged_of_all, issued_of_all, searched_graph_of}
use Rattle.hpr_graph.specs.Conflicts.{HasNoConflict, graph_at}
use Rattle.hpr_graph.specs.Fits.{IsPart}
use Rattle.hpr_graph.specs.Graphs.{Graph, Same}
use Rattle.hpr_graph.specs.Points.{merged_all}
use Rattle.hpr_graph.specs.ProgramGraph.{graph_of}
use Rattle.hpr_graph.specs.Slices.{slice_at}
use Rattle.hpr_graph.specs.Split.{IsSplitOff, PassSerials, AreRenamed, max_serial, with_new_tags, split_graph}
use Rattle.hpr_graph.proofs.Laws.{AllSame, affected_same, graph_at_same, merged_all_same, same_then, same_turned, slice_at_same}
use Rattle.hpr_closure.proofs.ProgramWhole.{program_whole, programs_whole}
use Rattle.hpr_closure.proofs.WholeSlices.{merged_whole}
use Rattle.hpr_split.proofs.NewTags.{IsBelow}
use Rattle.hpr_split.proofs.Renamed.{new_tags_length}
use Rattle.hpr_meaning.specs.Any.KeptLaw.{Finished, DoesFinish, HasChanged, HasValue, KeepsAll, programs_of, steps_in}
use Rattle.hpr_meaning.specs.UnionLaw.{KeepsIn, KeepsEach}
use Rattle.hpr_meaning.proofs.KeptMeaning.{meaning_kept}
use Rattle.hpr_meaning.proofs.SidesKept.{each_kept}
use Rattle.hpr_meaning.proofs.WithoutConflict.{all_kept}
use Rattle.hpr_rename.specs.Renamed.{tree_with}
use Rattle.hpr_rename.specs.Any.RenamedRuns.{outcome_with}
use Rattle.hpr_rename.proofs.Courses.{renamed_run}
use Rattle.hpr_rename.proofs.IssuedAll.{AreBelow, all_below, merged_below}
use Rattle.hpr_rename.proofs.Mapped.{affected_in, mapped, merged_mapped, slices_out}
use Rattle.hpr_rename.proofs.MappedAlike.{split_mapped, split_none}
use Rattle.hpr_rename.proofs.Retagged.{all_issued, retag, retagged, retagged_graph, retagged_program}
use Rattle.hpr_rename.proofs.SplitParts.{split_swap, split_swap_back, split_swap_init, split_swap_is}

-- slices that are kept, kept in mapped graphs, and in the same ones
kept_mapped : (f : Vertex → Vertex) → ((v : Vertex) → f (f v) ≡ v) → (m base : Graph) (gs : List Graph) → KeepsIn m base gs
    → KeepsIn (mapped f m) (mapped f base) (map (mapped f) gs)
kept_mapped f back m base [] keeps i v affected = absurd affected.0
kept_mapped f back m base (g ∷ gs) keeps zero v affected = slices_out f back m g v (keeps zero (f v) (affected_in f back g base v affected))
kept_mapped f back m base (g ∷ gs) keeps (suc i) v affected = kept_mapped f back m base gs (λ j. keeps (suc j)) i v affected

kept_same : (m m' base base' : Graph) (gs hs : List Graph) → Same m m' → Same base base' → AllSame gs hs → KeepsIn m base gs
    → KeepsIn m' base' hs
kept_same m m' base base' gs hs same same_base all keeps i v affected =
    let g : Graph = graph_at gs i in
    let h : Graph = graph_at hs i in
    let one : Same g h = graph_at_same gs hs all i in
    same_then (slice_at m' v) (slice_at m v) (slice_at h v) (same_turned (slice_at m v) (slice_at m' v) (slice_at_same m m' v same))
    (same_then (slice_at m v) (slice_at g v) (slice_at h v)
    (keeps i v (affected_same h g base' base (same_turned g h one) (same_turned base base' same_base) v affected))
    (slice_at_same g h v one))

module _ (M : Meaning) (LW : HasLaws M) where
  -- programs with other tags finish as the programs do, with the same values
  module _ (other : Tree → Tree) (same : (p : Tree) (s : M.State) (n : ℕ) (f : FinalValues M) → Ends M p s n f → Ends M (other p) s n f) where
    abbrev finished : Finished M → Finished M
    finished r = record { program = other r.program; steps = r.steps; finals = r.finals }

    programs_same : (rs : List (Finished M)) → programs_of M (map finished rs) ≡ map other (programs_of M rs)
    programs_same [] = refl
    programs_same (r ∷ rs) = ap (λ (ts : List Tree). other r.program ∷ ts) (programs_same rs)

    steps_same : (rs : List (Finished M)) → steps_in M (map finished rs) ≡ steps_in M rs
    steps_same [] = refl
    steps_same (r ∷ rs) = ap (λ n. r.steps + n) (steps_same rs)

    all_finish : (s : M.State) (rs : List (Finished M)) → AllByRecursion (DoesFinish M s) rs → AllByRecursion (DoesFinish M s) (map finished rs)
    all_finish s [] ended = tt
    all_finish s (r ∷ rs) ended = (same r.program s r.steps r.finals ended.0, all_finish s rs ended.1)

    changed_same : (f0 f : FinalValues M) (rs : List (Finished M)) → AllByRecursion (HasChanged M f0 f) (map finished rs)
        → AllByRecursion (HasChanged M f0 f) rs
    changed_same f0 f [] all = tt
    changed_same f0 f (r ∷ rs) all = (all.0, changed_same f0 f rs all.1)

    values_same : (x : List ℕ) (v : M.Value) (rs : List (Finished M)) → AllByRecursion (HasValue M x v) rs
        → AllByRecursion (HasValue M x v) (map finished rs)
    values_same x v [] all = tt
    values_same x v (r ∷ rs) all = (all.0, values_same x v rs all.1)

    keeps_same : (base m : Tree) (vs : List Tree) → KeepsAll M (other base) (map other vs) m → KeepsAll M base vs m
    keeps_same base m vs keeps s n0 f0 rs are e0 ended =
        let under = programs_same rs ∙ ap (map other) are in
        let (f, end, kept) = keeps s n0 f0 (map finished rs) under (same base s n0 f0 e0) (all_finish s rs ended) in (
          f,
          subst (λ (n : ℕ). Ends M m s (n0 + n) f) (steps_same rs) end,
          record {
            changed = changed_same f0 f rs kept.changed;
            agreed = λ x v c0 cs. kept.agreed x v c0 (values_same x v rs cs);
          },
        )

  ends_same : (f : Tag → Tag) (issued : List (ℕ × ℕ)) (p : Tree) (s : M.State) (n : ℕ) (finals : FinalValues M) → Ends M p s n finals
      → Ends M (tree_with f issued p) s n finals
  ends_same f issued p s n finals (steps, is) = (steps, renamed_run M LW f issued p s n ∙ ap (outcome_with M f) is)

  -- under the new tags
  module _ (z : ℕ) (us : List Vertex) (parts : (v : Vertex) → Contains us v → IsPart v) (low : (v : Vertex) → Contains us v → IsBelow z v)
      (most : z + length us ≤ max_serial) where
    abbrev other : Tree → Tree
    other p = retagged z us p

    abbrev swapped : Vertex → Vertex
    swapped v = split_swap z us parts low v

    all_programs : (vs : List Tree) → AllByRecursion IsProgram vs → AllByRecursion (AreBelow z) vs → AllByRecursion IsProgram (map other vs)
    all_programs [] all below = tt
    all_programs (p ∷ vs) all below = (retagged_program z us p all.0 below.0 most, all_programs vs all.1 below.1)

    all_graphs : (vs : List Tree) → AllByRecursion IsProgram vs → AllByRecursion (AreBelow z) vs
        → AllSame (map (mapped swapped) (graphs_of vs)) (graphs_of (map other vs))
    all_graphs [] all below = tt
    all_graphs (p ∷ vs) all below = (
      same_turned (graph_of (other p)) (mapped swapped (graph_of p)) (retagged_graph z us p all.0 below.0 parts low),
      all_graphs vs all.1 below.1,
    )

    module _ (base : Tree) (vs : List Tree) (is : IsProgram base) (all : AllByRecursion IsProgram vs)
        (below : AllByRecursion (AreBelow z) (base ∷ vs)) where
      abbrev Whole : Graph
      Whole = merged_of_all base vs

      abbrev Other : Graph
      Other = merged_of_all (other base) (map other vs)

      abbrev Graphs : List Graph
      Graphs = map (mapped swapped) (graphs_of vs)

      abbrev Others : List Graph
      Others = graphs_of (map other vs)

      base_same : Same (mapped swapped (graph_of base)) (graph_of (other base))
      base_same =
          same_turned (graph_of (other base)) (mapped swapped (graph_of base))
          (retagged_graph z us base is below.0 parts low)

      variants_same : AllSame Graphs Others
      variants_same = all_graphs vs all below.1

      merged_same : Same (mapped swapped Whole) Other
      merged_same =
          let between : Graph = merged_all (mapped swapped (graph_of base)) Graphs in
          same_then (mapped swapped Whole) between Other
          (same_turned between (mapped swapped Whole)
          (merged_mapped swapped (split_swap_back z us parts low) (split_swap_init z us parts low) (graph_of base) (graphs_of vs)))
          (merged_all_same (mapped swapped (graph_of base)) (graph_of (other base)) Graphs Others base_same variants_same)

      split_same : Same (split_graph (with_new_tags z us) Whole) Other
      split_same =
          let whole = merged_whole (graph_of base) (graphs_of vs) (program_whole base is) (programs_whole vs all) in
          same_then (split_graph (with_new_tags z us) Whole) (mapped swapped Whole) Other
          (split_mapped Whole whole.ends (with_new_tags z us) swapped (split_swap_back z us parts low)
          (λ v has. split_swap_is z us parts low v (merged_below z base vs below v has)))
          merged_same

      other_kept : KeepsEach base vs → KeepsEach (other base) (map other vs)
      other_kept keeps =
          kept_same (mapped swapped Whole) Other (mapped swapped (graph_of base)) (graph_of (other base)) Graphs Others
          merged_same base_same variants_same
          (kept_mapped swapped (split_swap_back z us parts low) Whole (graph_of base) (graphs_of vs) keeps)

      split_keeps : (m : Tree) → IsProgram m → KeepsEach base vs → Fits (split_graph (with_new_tags z us) Whole) m → KeepsAll M base vs m
      split_keeps m is_m keeps fits =
          keeps_same other (λ p s n f. ends_same (retag z us p) (all_issued p) p s n f) base m vs
          (meaning_kept M LW (other base) m (map other vs) (retagged_program z us base is below.0 most) (all_programs vs all below.1) is_m
          (same_then (graph_of m) (split_graph (with_new_tags z us) Whole) Other fits split_same) (other_kept keeps))

  module _ (base m : Tree) (vs : List Tree) (rs : List (Vertex × Tag)) (is : IsProgram base) (all : AllByRecursion IsProgram vs)
      (is_m : IsProgram m)
      (free : HasNoConflict (graph_of base) (graphs_of vs)) (fits : Fits (searched_graph_of rs base vs) m) where
    abbrev G : Graph
    G = merged_of_all base vs

    abbrev z : ℕ
    z = issued_to 0 (issued_of_all base vs)

    abbrev P : Vertex → Type 0
    P = IsSplitOff (graphs_of vs) G

    below : AllByRecursion (AreBelow z) (base ∷ vs)
    below = all_below base vs is all

    none_split : rs ≡ [] → KeepsAll M base vs m
    none_split none =
        let same = subst (λ (qs : List (Vertex × Tag)). Same (split_graph qs G) G) (sym none) (split_none G) in
        all_kept M LW base m vs is all is_m free (same_then (graph_of m) (split_graph rs G) G fits same)

    some_split : AreRenamed G P z rs → z + length rs ≤ max_serial → KeepsAll M base vs m
    some_split (us, those, are) most =
        let parts : (v : Vertex) → Contains us v → IsPart v = λ v there. ((those.1 v).0 there).1 in
        let low : (v : Vertex) → Contains us v → IsBelow z v = λ v there. merged_below z base vs below v ((those.1 v).0 there).0 in
        let count : length rs ≡ length us = ap (λ (qs : List (Vertex × Tag)). length qs) are ∙ new_tags_length z us in
        let within = subst (λ (n : ℕ). z + n ≤ max_serial) count most in
        split_keeps z us parts low within base vs is all below m is_m (each_kept base vs is all free)
        (subst (λ (qs : List (Vertex × Tag)). Fits (split_graph qs G) m) are fits)

    kept_by : (AreRenamed G P z rs × (z + length rs ≤ max_serial)) ⊎ (PassSerials G P z × (rs ≡ [])) → KeepsAll M base vs m
    kept_by (inl (some, most)) = some_split some most
    kept_by (inr (past, none)) = none_split none

  pub split_kept : (base m : Tree) (vs : List Tree) (rs : List (Vertex × Tag)) → IsProgram base → AllByRecursion IsProgram vs → IsProgram m
      → HasNoConflict (graph_of base) (graphs_of vs)
      → AreSplitOff base vs rs → Fits (searched_graph_of rs base vs) m → KeepsAll M base vs m
  split_kept base m vs rs is all is_m free split fits = kept_by base m vs rs is all is_m free fits split
