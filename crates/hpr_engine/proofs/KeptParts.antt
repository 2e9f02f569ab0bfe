-- Parts that keep their tags, found program by program.
use Rattle.std.proofs.Common.{◌≡◌, ℕ, zero, suc, ◌+◌, ◌<◌, ◌≤◌, Bool, true, false, ◌↔◌, ◌⊎◌, inl, inr, List, [], ◌∷◌, length, take, drop, get_or, replicate, Contains, refl, sym, ap, ◌∙◌, subst}
use Rattle.std.proofs.lemmas.List.{length-replicate}
use Rattle.hpr_terms.specs.declared.tag.Tag.{Tag}
use Rattle.hpr_terms.proofs.Facts.{in_none, in_cons, in_here, in_later, taken_item}
use Rattle.hpr_search.specs.Marks.{IsMarked}
use Rattle.hpr_search.proofs.Marked.{no_marks}
use Rattle.hpr_syntax.specs.declared.rows.Content.{Content}
use Rattle.hpr_syntax.specs.Shape.{IsProgram}
use Rattle.hpr_syntax.specs.Tree.{Tree}
use Rattle.hpr_graph.specs.declared.vertex.Vertex.{Vertex}
use Rattle.hpr_graph.specs.declared.vertex.Vertex.TheVariants.{Part}
use Rattle.hpr_graph.specs.Answer.{graphs_of}
use Rattle.hpr_graph.specs.Graphs.{Graph}
use Rattle.hpr_graph.specs.Numbered.{Numbered, IsMarkedVertex, graph_in}
use Rattle.hpr_graph.specs.ProgramGraph.{graph_of}
use Rattle.hpr_graph.specs.Rank.{parts_of}
use Rattle.hpr_graph.specs.Split.{HasOneContent, HasTag, KeepsTag}
use Rattle.hpr_graph.specs.Whole.{SaysOnce}
use Rattle.hpr_graph.proofs.Laws.{part_tag}
use Rattle.hpr_graph.proofs.Lists.{taken_all}
use Rattle.hpr_closure.proofs.ProgramWhole.{says_once}
use Rattle.hpr_region.proofs.PartOrder.{part_says, says_part}
use Rattle.hpr_engine.specs.Kept.{is_taken, IsTaken, IsFreeAmong, HasTagAmong, AreKeptMore, AreTakenMore, AreKeptBy}
use Rattle.hpr_engine.proofs.InTurn.{next_to_come, none_to_come}

pub record AreKept (g : Numbered) (P : Vertex → Type 0) (taken taken' : List (ℕ × ℕ)) (keep keep' : List Bool) : Type 0 where
  pub marks : length keep' ≡ length keep
  pub kept : AreKeptMore g P taken keep keep'
  pub more : AreTakenMore g P taken taken'

-- one vertex more
module _ (g : Numbered) (P R : Vertex → Type 0) (x : Vertex) (joins : (v : Vertex) → R v ↔ (P v ⊎ (x ≡ v))) (one : HasOneContent R)
    (taken next last : List (ℕ × ℕ)) (keep keep' keep'' : List Bool) (so_far : AreKept g P taken next keep keep') (now : AreKept g (λ v. v ≡ x) next last keep' keep'') where
  -- a part with the tag of one that was kept is that one
  free_then : (v : Vertex) (t : Tag) → HasTag (graph_in g) t v → R v → ¬ IsTaken taken t → x ≡ v → (b : Bool) → is_taken next t ≡ b → IsMarkedVertex g keep'' v
  free_then v t tag r free same false is =
      (now.kept v).1 (inr (t, tag, sym same, λ h. (let f : true ≡ false = sym h ∙ is in cc)))
  free_then v t (c, is_v, has) r free same true is = elim ((so_far.more t).0 is) [
    | inl was ↦ absurd (free was)
    | inr (w, (d, is_w, has_w), p) ↦ (let content : d ≡ c = one t d c (subst R is_w ((joins w).1 (inl p))) (subst R is_v r) in
        let w_is_v : w ≡ v = is_w ∙ ap (λ (e : Content). Part t e) content ∙ sym is_v in
        (now.kept v).1 (inl ((so_far.kept v).1 (inr (t, (c, is_v, has), subst P w_is_v p, free)))))
  ]

  kept_then : (v : Vertex) → IsFreeAmong (graph_in g) R taken v → IsMarkedVertex g keep'' v
  kept_then v (t, tag, r, free) = elim ((joins v).0 r) [
    | inl p ↦ (now.kept v).1 (inl ((so_far.kept v).1 (inr (t, tag, p, free))))
    | inr same ↦ free_then v t tag r free same (is_taken next t) refl
  ]

  kept_before : (v : Vertex) → IsMarkedVertex g keep'' v → IsMarkedVertex g keep v ⊎ IsFreeAmong (graph_in g) R taken v
  kept_before v h = elim ((now.kept v).0 h) [
    | inl was ↦ elim ((so_far.kept v).0 was) [ inl old ↦ inl old | inr (t, tag, p, free) ↦ inr (t, tag, (joins v).1 (inl p), free) ]
    | inr (t, tag, same, free) ↦ inr (t, tag, (joins v).1 (inr (sym same)), λ was. free ((so_far.more t).1 (inl was)))
  ]

  taken_before : (t : Tag) → IsTaken last t → IsTaken taken t ⊎ HasTagAmong (graph_in g) R t
  taken_before t h = elim ((now.more t).0 h) [
    | inl was ↦ elim ((so_far.more t).0 was) [ inl old ↦ inl old | inr (w, tag, p) ↦ inr (w, tag, (joins w).1 (inl p)) ]
    | inr (w, tag, same) ↦ inr (w, tag, (joins w).1 (inr (sym same)))
  ]

  taken_then : (t : Tag) → HasTagAmong (graph_in g) R t → IsTaken last t
  taken_then t (w, tag, r) = elim ((joins w).0 r) [
    | inl p ↦ (now.more t).1 (inl ((so_far.more t).1 (inr (w, tag, p))))
    | inr same ↦ (now.more t).1 (inr (w, tag, sym same))
  ]

  kept_more : AreKept g R taken last keep keep''
  kept_more = record {
    marks = now.marks ∙ so_far.marks;
    kept = λ v. (kept_before v, λ h. elim h [ inl old ↦ (now.kept v).1 (inl ((so_far.kept v).1 (inl old))) | inr free ↦ kept_then v free ]);
    more = λ t. (taken_before t, λ h. elim h [ inl old ↦ (now.more t).1 (inl ((so_far.more t).1 (inl old))) | inr some ↦ taken_then t some ]);
  }

in_whole : (n : ℕ) (vs : List Vertex) (v : Vertex) → Contains (take n vs) v → Contains vs v
in_whole zero vs v h = absurd (in_none v h)
in_whole (suc n) [] v h = absurd (in_none v h)
in_whole (suc n) (x ∷ vs) v h = elim (in_cons x v (take n vs) h) [ inl e ↦ subst (Contains (x ∷ vs)) e (in_here x vs) | inr later ↦ in_later x v vs (in_whole n vs v later) ]

-- the parts of a program, one after the other
module _ (g : Numbered) (parts : List Vertex) (i : ℕ) (taken next : List (ℕ × ℕ)) (keep keep' : List Bool) (so_far : AreKept g (Contains (take i parts)) taken next keep keep') where
  pub kept_next : (x : Vertex) (last : List (ℕ × ℕ)) (keep'' : List Bool) → HasOneContent (Contains parts) → i < length parts → x ≡ get_or parts i x
      → AreKept g (λ v. v ≡ x) next last keep' keep'' → AreKept g (Contains (take (i + 1) parts)) taken last keep keep''
  kept_next x last keep'' one within is now =
      kept_more g (Contains (take i parts)) (Contains (take (i + 1) parts)) x (λ v. taken_item parts i x v within is)
      (λ t c d a b. one t c d (in_whole (i + 1) parts (Part t c) a) (in_whole (i + 1) parts (Part t d) b)) taken next last keep keep' keep'' so_far now

  pub kept_all : length parts ≤ i → AreKept g (Contains parts) taken next keep keep'
  kept_all past =
      let whole : (v : Vertex) → Contains (take i parts) v ↔ Contains parts v = λ v. (in_whole i parts v, taken_all parts i v past) in
      record {
        marks = so_far.marks;
        kept = λ v. (
          λ h. elim ((so_far.kept v).0 h) [ inl old ↦ inl old | inr (t, tag, p, free) ↦ inr (t, tag, (whole v).0 p, free) ],
          λ h. (so_far.kept v).1 (elim h [ inl old ↦ inl old | inr (t, tag, p, free) ↦ inr (t, tag, (whole v).1 p, free) ]),
        );
        more = λ t. (
          λ h. elim ((so_far.more t).0 h) [ inl old ↦ inl old | inr (w, tag, p) ↦ inr (w, tag, (whole w).0 p) ],
          λ h. (so_far.more t).1 (elim h [ inl old ↦ inl old | inr (w, tag, p) ↦ inr (w, tag, (whole w).1 p) ]),
        );
      }

-- a program's parts are those of its graph
part_in : (p : Tree) (v : Vertex) → Contains (parts_of p) v → (graph_of p).vertex v
part_in p v h = let (s, d, same, says) = part_says p v h in subst (graph_of p).vertex (sym same) says

pub graph_part : (p : Tree) (g : Graph) (t : Tag) (v : Vertex) → HasTag g t v → Contains (parts_of p) v ↔ (graph_of p).vertex v
graph_part p g t v (c, is, has) = (
  part_in p v,
  λ h. subst (Contains (parts_of p)) (sym is) (says_part p t c (subst (graph_of p).vertex is h)),
)

parts_content : (p : Tree) → SaysOnce p → HasOneContent (Contains (parts_of p))
parts_content p once t c d a b = once t c d (part_in p (Part t c) a) (part_in p (Part t d) b)

-- the parts of a program, listed, are its graph's
module _ (g : Numbered) (p : Tree) (vs : List Vertex) (same : vs ≡ parts_of p) where
  listed : (t : Tag) (v : Vertex) → HasTag (graph_in g) t v → Contains vs v ↔ (graph_of p).vertex v
  listed t v tag =
      let part = graph_part p (graph_in g) t v tag in
      (λ h. part.0 (subst (λ (us : List Vertex). Contains us v) same h), λ h. subst (λ (us : List Vertex). Contains us v) (sym same) (part.1 h))

  pub kept_of : (taken : List (ℕ × ℕ)) (keep keep' : List Bool) → AreKeptMore g (Contains vs) taken keep keep' → AreKeptMore g (graph_of p).vertex taken keep keep'
  kept_of taken keep keep' more v = (
    λ h. elim ((more v).0 h) [ inl old ↦ inl old | inr (t, tag, there, free) ↦ inr (t, tag, (listed t v tag).0 there, free) ],
    λ h. (more v).1 (elim h [ inl old ↦ inl old | inr (t, tag, has, free) ↦ inr (t, tag, (listed t v tag).1 has, free) ]),
  )

  pub taken_of : (taken taken' : List (ℕ × ℕ)) → AreTakenMore g (Contains vs) taken taken' → AreTakenMore g (graph_of p).vertex taken taken'
  taken_of taken taken' more t = (
    λ h. elim ((more t).0 h) [ inl old ↦ inl old | inr (w, tag, there) ↦ inr (w, tag, (listed t w tag).0 there) ],
    λ h. (more t).1 (elim h [ inl old ↦ inl old | inr (w, tag, has) ↦ inr (w, tag, (listed t w tag).1 has) ]),
  )

-- what keeps its tag by all graphs: what is marked, and what keeps it by those to come where its tag isn't taken
abbrev pub AreKeptSoFar : List Graph → List Graph → Numbered → List (ℕ × ℕ) → List Bool → Type 0
AreKeptSoFar all rest g taken keep =
    (v : Vertex) (t : Tag) → HasTag (graph_in g) t v → KeepsTag all (graph_in g) t v ↔ (IsMarkedVertex g keep v ⊎ ((¬ IsTaken taken t) × KeepsTag rest (graph_in g) t v))

pub none_kept : (all : List Graph) (g : Numbered) (taken : List (ℕ × ℕ)) (keep : List Bool) → taken ≡ [] → ((v : Vertex) → ¬ IsMarkedVertex g keep v) → AreKeptSoFar all all g taken keep
none_kept all g taken keep none clear v t tag = (
  λ k. inr (λ was. (let f : false ≡ true = ap (λ (ts : List (ℕ × ℕ)). is_taken ts t) (sym none) ∙ was in cc), k),
  λ h. elim h [ inl marked ↦ absurd (clear v marked) | inr (free, k) ↦ k ],
)

-- the next graph
module _ (all rest : List Graph) (h : Graph) (g : Numbered) (taken taken' : List (ℕ × ℕ)) (keep keep' : List Bool)
    (so_far : AreKeptSoFar all (h ∷ rest) g taken keep) (kept : AreKeptMore g h.vertex taken keep keep') (more : AreTakenMore g h.vertex taken taken') where
  kept_then_more : (v : Vertex) (t : Tag) → HasTag (graph_in g) t v → KeepsTag all (graph_in g) t v → IsMarkedVertex g keep' v ⊎ ((¬ IsTaken taken' t) × KeepsTag rest (graph_in g) t v)
  kept_then_more v t tag k = elim ((so_far v t tag).0 k) [
    | inl marked ↦ inl ((kept v).1 (inl marked))
    | inr (free, later) ↦ elim later [
      | inl (its, has) ↦ inl ((kept v).1 (inr (t, its, has, free)))
      | inr (none, behind) ↦ inr (λ was. elim ((more t).0 was) [ inl old ↦ free old | inr some ↦ none some ], behind)
    ]
  ]

  kept_by_more : (v : Vertex) (t : Tag) → HasTag (graph_in g) t v → IsMarkedVertex g keep' v ⊎ ((¬ IsTaken taken' t) × KeepsTag rest (graph_in g) t v) → KeepsTag all (graph_in g) t v
  kept_by_more v t tag m = elim m [
    | inl marked ↦ elim ((kept v).0 marked) [
      | inl old ↦ (so_far v t tag).1 (inl old)
      | inr (s, its, has, free) ↦ (let same : s ≡ t = part_tag s t its.0 tag.0 (sym its.1 ∙ tag.1) in
          (so_far v t tag).1 (inr (λ was. free (subst (IsTaken taken) (sym same) was), inl (tag, has))))
    ]
    | inr (free, behind) ↦ (so_far v t tag).1 (inr (λ old. free ((more t).1 (inl old)), inr (λ some. free ((more t).1 (inr some)), behind)))
  ]

  pub kept_graph : AreKeptSoFar all rest g taken' keep'
  kept_graph v t tag = (kept_then_more v t tag, kept_by_more v t tag)

pub kept_by_all : (all : List Graph) (g : Numbered) (taken : List (ℕ × ℕ)) (keep : List Bool) → AreKeptSoFar all [] g taken keep → AreKeptBy all g keep
kept_by_all all g taken keep so_far v t tag = (
  λ marked. (so_far v t tag).1 (inl marked),
  λ k. elim ((so_far v t tag).0 k) [ inl marked ↦ marked | inr (free, none) ↦ absurd none ],
)

-- the variants one after the other
module _ (g : Numbered) (vs : List Tree) (i : ℕ) (taken : List (ℕ × ℕ)) (keep : List Bool) (so_far : AreKeptSoFar (graphs_of vs) (graphs_of (drop i vs)) g taken keep) where
  pub kept_variant : (v : Tree) (taken' : List (ℕ × ℕ)) (keep' : List Bool) → i < length vs → v ≡ get_or vs i v → AreKeptMore g (graph_of v).vertex taken keep keep'
      → AreTakenMore g (graph_of v).vertex taken taken' → AreKeptSoFar (graphs_of vs) (graphs_of (drop (i + 1) vs)) g taken' keep'
  kept_variant v taken' keep' l is kept more =
      kept_graph (graphs_of vs) (graphs_of (drop (i + 1) vs)) (graph_of v) g taken taken' keep keep'
      (subst (λ (ws : List Tree). AreKeptSoFar (graphs_of vs) (graphs_of ws) g taken keep) (next_to_come vs i v l is) so_far) kept more

  pub kept_variants : length vs ≤ i → AreKeptBy (graphs_of vs) g keep
  kept_variants l =
      kept_by_all (graphs_of vs) g taken keep
      (subst (λ (ws : List Tree). AreKeptSoFar (graphs_of vs) (graphs_of ws) g taken keep) (none_to_come vs i l) so_far)

-- nothing is marked yet
module _ (g : Numbered) (n : ℕ) (keep : List Bool) (none : keep ≡ replicate n false) where
  pub no_vertex_marked : (v : Vertex) → ¬ IsMarkedVertex g keep v
  no_vertex_marked v (at, there, mark) = no_marks n at (subst (λ (marks : List Bool). IsMarked marks at) none mark)

  pub marks_begun : n ≡ length g.vertices → length keep ≡ length g.vertices
  marks_begun count = ap length none ∙ length-replicate n false ∙ count

pub listed_content : (p : Tree) (vs : List Vertex) → IsProgram p → vs ≡ parts_of p → HasOneContent (Contains vs)
listed_content p vs is same = subst (λ (us : List Vertex). HasOneContent (Contains us)) (sym same) (parts_content p (says_once p is))
