use Rattle.std.proofs.Common.{◌≡◌, ℕ, ◌<◌, Bool, true, false, ◌↔◌, ◌⊎◌, inl, inr, IsTrue, List, length, set, Some, slice_get, refl, sym, ap, ◌∙◌, subst, arith}
use Rattle.std.proofs.lemmas.List.{get_or-set_same, get_or-set_other, length-set}
use Rattle.std.proofs.lemmas.Option.{slice_get_within}
use Rattle.hpr_terms.specs.declared.tag.Tag.{Tag}
use Rattle.hpr_terms.proofs.Facts.{contains_at}
use Rattle.hpr_search.specs.Marks.{IsMarked}
use Rattle.hpr_search.proofs.Marked.{same_or_other}
use Rattle.hpr_syntax.specs.declared.rows.Content.{Content}
use Rattle.hpr_graph.specs.declared.vertex.Vertex.{Vertex}
use Rattle.hpr_graph.specs.declared.vertex.Vertex.TheVariants.{Part}
use Rattle.hpr_graph.specs.Numbered.{Numbered, IsMarkedVertex, graph_in}
use Rattle.hpr_graph.specs.Split.{HasTag}
use Rattle.hpr_graph.proofs.Laws.{part_tag}
use Rattle.hpr_engine.specs.Kept.{is_taken, IsTaken, IsFreeAmong, AreKeptMore, AreTakenMore}
use Rattle.hpr_engine.proofs.kept.keep_if_free.Goals as goal

-- a vertex that is no part of the graph
module _ (g : Numbered) (x : Vertex) (none : (t : Tag) → ¬ HasTag (graph_in g) t x) (taken : List (ℕ × ℕ)) (keep : List Bool) where
  nothing_marked : AreKeptMore g (λ v. v ≡ x) taken keep keep
  nothing_marked v = (
    λ h. inl h,
    λ h. elim h [ inl was ↦ was | inr (t, tag, same, free) ↦ absurd (none t (subst (HasTag (graph_in g) t) same tag)) ],
  )

  nothing_taken : AreTakenMore g (λ v. v ≡ x) taken taken
  nothing_taken t = (
    λ h. inl h,
    λ h. elim h [ inl was ↦ was | inr (w, tag, same) ↦ absurd (none t (subst (HasTag (graph_in g) t) same tag)) ],
  )

was_taken : (taken free : Bool) → (IsTrue free ↔ (¬ (taken ≡ true))) → free ≡ false → taken ≡ true
was_taken true free told is = refl
was_taken false free told is = let yes = told.1 (λ e. cc) in absurd cc

-- a part of the graph
module _ (g : Numbered) (x : Vertex) (tag : Tag) (c : Content) (is : x ≡ Part tag c) (at : ℕ) (there : slice_get g.vertices at ≡ Some x) (taken : List (ℕ × ℕ)) where
  has : HasTag (graph_in g) tag x
  has = (c, is, contains_at g.vertices at x there)

  its_tag : (t : Tag) (v : Vertex) → HasTag (graph_in g) t v → v ≡ x → t ≡ tag
  its_tag t v (d, was, in_g) same = part_tag t tag d c (sym was ∙ same ∙ is)

  tag_taken : (taken' : List (ℕ × ℕ)) → ((t : Tag) → IsTaken taken' t ↔ (IsTaken taken t ⊎ (t ≡ tag))) → AreTakenMore g (λ v. v ≡ x) taken taken'
  tag_taken taken' more t = (
    λ h. elim ((more t).0 h) [ inl was ↦ inl was | inr same ↦ inr (x, subst (λ (s : Tag). HasTag (graph_in g) s x) (sym same) has, refl) ],
    λ h. (more t).1 (elim h [ inl was ↦ inl was | inr (w, had, same) ↦ inr (its_tag t w had same) ]),
  )

  -- its tag was taken
  not_marked : (keep : List Bool) → IsTaken taken tag → AreKeptMore g (λ v. v ≡ x) taken keep keep
  not_marked keep was v = (
    λ h. inl h,
    λ h. elim h [ inl old ↦ old | inr (t, had, same, free) ↦ absurd (free (subst (IsTaken taken) (sym (its_tag t v had same)) was)) ],
  )

  -- its tag was free
  module _ (keep : List Bool) (within : at < length keep) (free : ¬ IsTaken taken tag) where
    marked_before : (v : Vertex) → IsMarkedVertex g (set keep at true) v → IsMarkedVertex g keep v ⊎ IsFreeAmong (graph_in g) (λ u. u ≡ x) taken v
    marked_before v (n, sits, mark) = elim (same_or_other n at) [
      | inl e ↦ (let here : Some v ≡ Some x = sym sits ∙ ap (slice_get g.vertices) e ∙ there in
          let same : v ≡ x = cc in
          inr (tag, subst (HasTag (graph_in g) tag) (sym same) has, same, free))
      | inr other ↦ inl (n, sits, sym (get_or-set_other keep at n true false other) ∙ mark)
    ]

    marked_then : (v : Vertex) → IsMarkedVertex g keep v ⊎ IsFreeAmong (graph_in g) (λ u. u ≡ x) taken v → IsMarkedVertex g (set keep at true) v
    marked_then v (inr (t, had, same, unused)) = (at, there ∙ ap Some (sym same), get_or-set_same keep at true false within)
    marked_then v (inl (n, sits, mark)) = (
      n,
      sits,
      elim (same_or_other n at) [
        | inl e ↦ subst (IsMarked (set keep at true)) (sym e) (get_or-set_same keep at true false within)
        | inr other ↦ get_or-set_other keep at n true false other ∙ mark
      ],
    )

    now_marked : AreKeptMore g (λ v. v ≡ x) taken keep (set keep at true)
    now_marked v = (marked_before v, marked_then v)

pub returns-in_default : goal.returns-in_default
returns-in_default c =
    let none : (t : Tag) → ¬ HasTag (graph_in c.args.graph.now) t c.args.vertex.now = λ t tag. c.in_default.not-Part t tag.0 tag.1 in
    record {
      marks = refl;
      kept = nothing_marked c.args.graph.now c.args.vertex.now none c.args.taken.now.keys c.args.keep.now.items;
      taken = nothing_taken c.args.graph.now c.args.vertex.now none c.args.taken.now.keys c.args.keep.now.items;
    }

pub returns-in_default-number_of-clause-kept : goal.returns-in_default-number_of-clause-kept
returns-in_default-number_of-clause-kept c =
    nothing_marked c.args.graph.now c.args.vertex.now (λ t tag. c.in_default-number_of.ensures.stranger.0 refl tag.2) c.args.taken.now.keys c.args.keep.now.items

pub returns-in_default-number_of-clause-taken : goal.returns-in_default-number_of-clause-taken
returns-in_default-number_of-clause-taken c =
    nothing_taken c.args.graph.now c.args.vertex.now (λ t tag. c.in_default-number_of.ensures.stranger.0 refl tag.2) c.args.taken.now.keys c.args.keep.now.items

pub index_mut-requires : goal.index_mut-requires
index_mut-requires c =
    let within = slice_get_within c.args.graph.now.vertices c.in-Some.at c.args.vertex.now c.in-Some.ensures.found in
    omega (arith, c.args.keep.now.ok.0)

pub returns-then-branch-clause-marks : goal.returns-then-branch-clause-marks
returns-then-branch-clause-marks c = length-set c.args.keep.now.items c.in-Some.at true

pub returns-then-branch-clause-kept : goal.returns-then-branch-clause-kept
returns-then-branch-clause-kept c =
    now_marked c.args.graph.now c.args.vertex.now c.in-Part.tag c.in-Part.field-1 c.in-Part.is c.in-Some.at c.in-Some.ensures.found c.args.taken.now.keys c.args.keep.now.items
    (subst (λ n. c.in-Some.at < n) (sym c.requires.marks) (slice_get_within c.args.graph.now.vertices c.in-Some.at c.args.vertex.now c.in-Some.ensures.found))
    (c.in_ok-take.ensures.free.0 c.if-branch.true)

pub returns-then-branch-clause-taken : goal.returns-then-branch-clause-taken
returns-then-branch-clause-taken c =
    tag_taken c.args.graph.now c.args.vertex.now c.in-Part.tag c.in-Part.field-1 c.in-Part.is c.in-Some.at c.in-Some.ensures.found c.args.taken.now.keys c.take.new.taken.keys c.in_ok-take.ensures.taken

pub returns-else-branch-clause-kept : goal.returns-else-branch-clause-kept
returns-else-branch-clause-kept c =
    not_marked c.args.graph.now c.args.vertex.now c.in-Part.tag c.in-Part.field-1 c.in-Part.is c.in-Some.at c.in-Some.ensures.found c.args.taken.now.keys c.args.keep.now.items
    (was_taken (is_taken c.args.taken.now.keys c.in-Part.tag) c.in_ok-take.field-0 c.in_ok-take.ensures.free c.if-branch.false)

pub returns-else-branch-clause-taken : goal.returns-else-branch-clause-taken
returns-else-branch-clause-taken c =
    tag_taken c.args.graph.now c.args.vertex.now c.in-Part.tag c.in-Part.field-1 c.in-Part.is c.in-Some.at c.in-Some.ensures.found c.args.taken.now.keys c.take.new.taken.keys c.in_ok-take.ensures.taken
