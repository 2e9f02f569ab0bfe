-- What is told of graphs is said on `out` or `err`, and not on the words.
use Rattle.std.proofs.Common.{◌≡◌, ◌≢◌, ℕ, List, [], ◌∷◌, refl, sym, subst, inl, inr, None}
use Rattle.hpr_io.specs.Files.{Files}
use Rattle.hpr_syntax.specs.Tree.{Tree}
use Rattle.hpr_graph.specs.Graphs.{Same}
use Rattle.hpr_graph.specs.Numbered.{Numbered, graph_in}
use Rattle.hpr_graph.specs.ProgramGraph.{graph_of}
use Rattle.hprkit_words.specs.declared.forms.GraphForm.{GraphForm}
use Rattle.hprkit_words.specs.declared.forms.GraphForm.TheVariants as graph_form
use Rattle.hprkit_words.specs.declared.forms.ImpactForm.{ImpactForm}
use Rattle.hprkit_words.specs.declared.forms.ImpactForm.TheVariants as impact_form
use Rattle.hpr_located.specs.Sources.{Standing}
use Rattle.hpr_kit.specs.Answer.{Answer, prints, refuses}
use Rattle.hpr_json.specs.Refusals.{edges_text}
use Rattle.hpr_kit.specs.Graphs.{AreConflictsTold, AreReasonsTold, HasTooManyEdges, IsGraphTold, IsImpactTold, OnGraph, OnGraphs, OnPoints}
use Rattle.hpr_kit.specs.Merges.{IsMergeTold}
use Rattle.hpr_kit.specs.Private.Graphs.{SaysIn}
use Rattle.hpr_kit.specs.Sources.{OnSource, OnSources}
use Rattle.hpr_kit.specs.declared.load.Halt.{Halt}
use Rattle.hpr_kit.specs.declared.load.Halt.TheVariants as halt
use Rattle.hpr_kit.specs.declared.status.Status.TheVariants.{Words}
use Rattle.hpr_kit.proofs.TakenLemmas.{not_words}

pub record IsSaid (a : Answer) : Type 0 where
  pub taken : a.status ≢ Words
  pub none : a.rewrite ≡ None

printed : (bytes : List ℕ) (a : Answer) → a ≡ prints bytes → IsSaid a
printed bytes a is = record { taken = not_words a (prints bytes) is tt; none = subst (λ (x : Answer). x.rewrite ≡ None) (sym is) refl }

refused : (message : List ℕ) (a : Answer) → a ≡ refuses message → IsSaid a
refused message a is = record { taken = not_words a (refuses message) is tt; none = subst (λ (x : Answer). x.rewrite ≡ None) (sym is) refl }

pub on_source : (files : Files) (file : List ℕ) (next : Tree → Standing → Type 0) (a : Answer) → ((p : Tree) (s : Standing) → next p s → IsSaid a)
    → OnSource files file next a → IsSaid a
on_source files file next a said (inl (why, cause, is)) = refused _ a is
on_source files file next a said (inr (p, spelled, (s, stands, h))) = said p s h

pub on_sources : (files : Files) (names : List (List ℕ)) (next : List Tree → List Standing → Type 0) (a : Answer)
    → ((ps : List Tree) (ss : List Standing) → next ps ss → IsSaid a) → OnSources files names next a → IsSaid a
on_sources files [] next a said h = said [] [] h
on_sources files (n ∷ names) next a said h =
    on_source files n (λ p s. OnSources files names (λ ps ss. next (p ∷ ps) (s ∷ ss)) a) a
    (λ p s then. on_sources files names (λ ps ss. next (p ∷ ps) (s ∷ ss)) a (λ ps ss. said (p ∷ ps) (s ∷ ss)) then) h

module _ (file : List ℕ) (p : Tree) (a : Answer) where
  pub on_graph : (next : Numbered → Type 0) → ((g : Numbered) → next g → IsSaid a) → OnGraph file p next a → IsSaid a
  on_graph next said (inl (many, is)) = refused _ a is
  on_graph next said (inr (few, (g, same, h))) = said g h

  graph_told : (form : GraphForm) (s : Standing) (g : Numbered) → IsGraphTold form p s g a → IsSaid a
  graph_told graph_form.Json s g (d, told, is) = printed _ a is
  graph_told (graph_form.Dot without) s g (text, drawn, is) = printed _ a is

  pub graph_said : (form : GraphForm) (s : Standing) → OnGraph file p (λ g. IsGraphTold form p s g a) a → IsSaid a
  graph_said form s h = on_graph (λ g. IsGraphTold form p s g a) (λ g told. graph_told form s g told) h

  impact_told : (form : ImpactForm) (g : Numbered) (ns bytes : List ℕ) (s : Standing) → IsImpactTold form g ns bytes s a → IsSaid a
  impact_told impact_form.Points g ns bytes s (text, told, is) = printed _ a is
  impact_told impact_form.Json g ns bytes s (d, told, is) = printed _ a is
  impact_told impact_form.Marks g ns bytes s (text, told, is) = printed _ a is

  on_points : (form : ImpactForm) (g : Numbered) (words : List (List ℕ)) (bytes : List ℕ) (s : Standing)
      → OnPoints g words (λ ns. IsImpactTold form g ns bytes s a) a → IsSaid a
  on_points form g words bytes s (inl (word, first, is)) = refused _ a is
  on_points form g words bytes s (inr (all, (ns, numbers, told))) = impact_told form g ns bytes s told

  pub impact_said : (form : ImpactForm) (words : List (List ℕ)) (bytes : List ℕ) (s : Standing)
      → OnGraph file p (λ g. OnPoints g words (λ ns. IsImpactTold form g ns bytes s a) a) a → IsSaid a
  impact_said form words bytes s h = on_graph (λ g. OnPoints g words (λ ns. IsImpactTold form g ns bytes s a) a) (λ g told. on_points form g words bytes s told) h

reasons_told : (g base : Numbered) (s : Standing) (a : Answer) → AreReasonsTold g base s a → IsSaid a
reasons_told g base s a (rs, are, is) = printed _ a is

pub reasons_said : (base : List ℕ) (p : Tree) (variant : List ℕ) (q : Tree) (s : Standing) (a : Answer)
    → OnGraph base p (λ h. OnGraph variant q (λ g. AreReasonsTold g h s a) a) a → IsSaid a
reasons_said base p variant q s a told =
    on_graph base p a (λ h. OnGraph variant q (λ g. AreReasonsTold g h s a) a)
    (λ h then. on_graph variant q a (λ g. AreReasonsTold g h s a) (λ g is. reasons_told g h s a is) then) told

on_graphs : (names : List (List ℕ)) (ps : List Tree) (next : List Numbered → Type 0) (a : Answer) → ((gs : List Numbered) → next gs → IsSaid a)
    → OnGraphs names ps next a → IsSaid a
on_graphs [] ps next a said h = said [] h
on_graphs (n ∷ names) [] next a said h = said [] h
on_graphs (n ∷ names) (p ∷ ps) next a said h =
    on_graph n p a (λ g. OnGraphs names ps (λ gs. next (g ∷ gs)) a) (λ g then. on_graphs names ps (λ gs. next (g ∷ gs)) a (λ gs. said (g ∷ gs)) then) h

conflicts_told : (gs : List Numbered) (ss : List Standing) (a : Answer) → AreConflictsTold gs ss a → IsSaid a
conflicts_told gs ss a (cs, d, are, told, is) = printed _ a is

pub conflicts_said : (names : List (List ℕ)) (ps : List Tree) (ss : List Standing) (a : Answer) → OnGraphs names ps (λ gs. AreConflictsTold gs ss a) a → IsSaid a
conflicts_said names ps ss a h = on_graphs names ps (λ gs. AreConflictsTold gs ss a) a (λ gs told. conflicts_told gs ss a told) h

merge_told : (ps : List Tree) (tries : ℕ) (ss : List Standing) (a : Answer) → IsMergeTold ps tries ss a → IsSaid a
merge_told ps tries ss a (o, comes, (d, told, is)) = printed _ a is

pub merge_said : (names : List (List ℕ)) (ps : List Tree) (tries : ℕ) (ss : List Standing) (a : Answer) → OnGraphs names ps (λ gs. IsMergeTold ps tries ss a) a → IsSaid a
merge_said names ps tries ss a h = on_graphs names ps (λ gs. IsMergeTold ps tries ss a) a (λ gs told. merge_told ps tries ss a told) h

-- the second graph has too many edges, and the first hasn't
pub second_too_many : (file : List ℕ) (p : Tree) (h : Numbered) → Same (graph_in h) (graph_of p) → (¬ HasTooManyEdges p) → (other : List ℕ) (q : Tree)
    (N : Numbered → Numbered → Answer → Type 0) (x : Halt) → SaysIn (λ a. HasTooManyEdges q × (a ≡ refuses (edges_text other))) x
    → SaysIn (λ a. OnGraph file p (λ h. OnGraph other q (λ g. N h g a) a) a) x
second_too_many file p h same few other q N (halt.Refused reply) k = inr (few, (h, same, inl k))
second_too_many file p h same few other q N (halt.Stop s) k = k
