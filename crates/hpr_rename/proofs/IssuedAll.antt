-- Author 0's number among all issued ones is at least that of each program, and so are the serials of its parts.
use Rattle.std.proofs.Common.{◌≡◌, ℕ, ◌+◌, ◌≤◌, eqb, Bool, true, false, if◌then◌else◌, List, [], ◌∷◌, map, refl, ap, subst, inl, inr, arith}
use Rattle.std.specs.List.{AllByRecursion}
use Rattle.std.proofs.lemmas.Bool.{cases_eq, eqb-true}
use Rattle.hpr_syntax.specs.Issued.{Issued, AscendsFrom, IsIssued, issued_to, raised, raised_by}
use Rattle.hpr_syntax.specs.Shape.{IsProgram}
use Rattle.hpr_syntax.specs.Tree.{Tree}
use Rattle.hpr_syntax.proofs.IssuedLemmas.{raised_keeps, raised_greater, raised_others}
use Rattle.hpr_syntax.proofs.IssuedTags.{serial_of}
use Rattle.hpr_graph.specs.declared.vertex.Vertex.{Vertex}
use Rattle.hpr_graph.specs.Answer.{graphs_of, merged_of_all, issued_all, issued_of_all}
use Rattle.hpr_graph.specs.Graphs.{Graph}
use Rattle.hpr_graph.specs.Points.{changed}
use Rattle.hpr_graph.specs.ProgramGraph.{IsVertexOf, graph_of}
use Rattle.hpr_split.proofs.NewTags.{IsBelow}

-- no number falls, and each pair is reached
raised_more : (a n : ℕ) (rows : Issued) → IsIssued rows → (x : ℕ) → issued_to x rows ≤ issued_to x (raised a n rows)
raised_more a n rows h x = elim (cases_eq x a) [
  | inl e ↦ (let g = raised_greater a n rows h in
      let own : issued_to x rows ≡ issued_to a rows = ap (λ (b : ℕ). issued_to b rows) e in
      let new : issued_to x (raised a n rows) ≡ issued_to a (raised a n rows) = ap (λ (b : ℕ). issued_to b (raised a n rows)) e in
      omega (arith, g, own, new))
  | inr ne ↦ (let o = raised_others a n rows x ne in omega (arith, o))
]

raises_more : (low : ℕ) (ps rows : Issued) → AscendsFrom low ps → IsIssued rows → (x : ℕ)
    → issued_to x rows ≤ issued_to x (raised_by ps rows)
raises_more low [] rows ascend h x = omega arith
raises_more low (p ∷ ps) rows ascend h x =
    let one = raised_more p.0 p.1 rows h x in
    let more = raises_more (p.0 + 1) ps (raised p.0 p.1 rows) ascend.2 (raised_keeps p.0 p.1 rows ascend.1 h) x in
    omega (arith, one, more)

raises_keep : (low : ℕ) (ps rows : Issued) → AscendsFrom low ps → IsIssued rows → IsIssued (raised_by ps rows)
raises_keep low [] rows ascend h = h
raises_keep low (p ∷ ps) rows ascend h = raises_keep (p.0 + 1) ps (raised p.0 p.1 rows) ascend.2 (raised_keeps p.0 p.1 rows ascend.1 h)

reached_if : (b : Bool) (x : ℕ) (p : ℕ × ℕ) (ps : Issued) (n : ℕ) → eqb p.0 x ≡ b → (p.0 ≡ x → p.1 ≤ n) → issued_to x ps ≤ n
    → (if b then p.1 else issued_to x ps) ≤ n
reached_if true x p ps n e here later = here (eqb-true p.0 x e)
reached_if false x p ps n e here later = later

reached : (low : ℕ) (ps rows : Issued) → AscendsFrom low ps → IsIssued rows → (x : ℕ) → issued_to x ps ≤ issued_to x (raised_by ps rows)
reached low [] rows ascend h x = omega arith
reached low (p ∷ ps) rows ascend h x =
    let next : Issued = raised p.0 p.1 rows in
    let kept : IsIssued next = raised_keeps p.0 p.1 rows ascend.1 h in
    let more = raises_more (p.0 + 1) ps next ascend.2 kept x in
    let g = raised_greater p.0 p.1 rows h in
    reached_if (eqb p.0 x) x p ps (issued_to x (raised_by ps next)) refl
    (λ e. (let own : issued_to p.0 next ≡ issued_to x next = ap (λ (a : ℕ). issued_to a next) e in omega (arith, g, own, more)))
    (reached (p.0 + 1) ps next ascend.2 kept x)

-- the numbers of all programs together
abbrev numbers_of : List Tree → List Issued
numbers_of vs = map (λ v. v.issued) vs

all_more : (start : Issued) (vs : List Tree) → IsIssued start → AllByRecursion IsProgram vs → (x : ℕ)
    → issued_to x start ≤ issued_to x (issued_all start (numbers_of vs))
all_more start [] h all x = omega arith
all_more start (v ∷ vs) h all x =
    let one = raises_more 0 v.issued start all.0.proper.ascending h x in
    let more = all_more (raised_by v.issued start) vs (raises_keep 0 v.issued start all.0.proper.ascending h) all.1 x in
    omega (arith, one, more)

-- a program's parts of author 0 have serials up to z
abbrev pub AreBelow : ℕ → Tree → Type 0
AreBelow z p = (v : Vertex) → IsVertexOf p v → IsBelow z v

below_from : (z : ℕ) (p : Tree) → IsProgram p → issued_to 0 p.issued ≤ z → AreBelow z p
below_from z p is le v has t c e author =
    let (one, low) = serial_of p is t c (subst (IsVertexOf p) e has) in
    let own : issued_to t.author p.issued ≡ issued_to 0 p.issued = ap (λ (a : ℕ). issued_to a p.issued) author in
    omega (arith, low, own, le)

variants_below : (start : Issued) (vs : List Tree) → IsIssued start → AllByRecursion IsProgram vs
    → AllByRecursion (AreBelow (issued_to 0 (issued_all start (numbers_of vs)))) vs
variants_below start [] h all = tt
variants_below start (v ∷ vs) h all =
    let next : Issued = raised_by v.issued start in
    let kept : IsIssued next = raises_keep 0 v.issued start all.0.proper.ascending h in
    let one = reached 0 v.issued start all.0.proper.ascending h 0 in
    let more = all_more next vs kept all.1 0 in
    (below_from (issued_to 0 (issued_all next (numbers_of vs))) v all.0 (omega (arith, one, more)), variants_below next vs kept all.1)

pub all_below : (base : Tree) (vs : List Tree) → IsProgram base → AllByRecursion IsProgram vs
    → AllByRecursion (AreBelow (issued_to 0 (issued_of_all base vs))) (base ∷ vs)
all_below base vs is all = (
  below_from (issued_to 0 (issued_of_all base vs)) base is (all_more base.issued vs is.proper.ascending all 0),
  variants_below base.issued vs is.proper.ascending all,
)

-- so have those of the merged graph
changed_below : (z : ℕ) (base : Graph) (vs : List Tree) → AllByRecursion (AreBelow z) vs → (v : Vertex)
    → (changed base (graphs_of vs)).vertex v → IsBelow z v
changed_below z base [] low v h = absurd h
changed_below z base (p ∷ []) low v h = low.0 v h.0
changed_below z base (p ∷ q ∷ vs) low v (inl h) = low.0 v h.0
changed_below z base (p ∷ q ∷ vs) low v (inr h) = changed_below z base (q ∷ vs) low.1 v h

pub merged_below : (z : ℕ) (base : Tree) (vs : List Tree) → AllByRecursion (AreBelow z) (base ∷ vs) → (v : Vertex)
    → (merged_of_all base vs).vertex v → IsBelow z v
merged_below z base vs low v (inl h) = changed_below z (graph_of base) vs low.1 v h
merged_below z base vs low v (inr h) = low.0 v h.0
