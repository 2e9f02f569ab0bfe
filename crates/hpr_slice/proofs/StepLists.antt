-- The steps of a graph, one row of links at a time.
use Rattle.std.proofs.Common.{◌≡◌, ℕ, zero, suc, ◌<◌, ◌≤◌, ◌↔◌, ◌⊎◌, inl, inr, Bool, true, false, if◌then◌else◌, List, [], ◌∷◌, ◌++◌, length, get_or, set, replicate, Contains, sym, ap, ◌∙◌, subst, arith, get_or-set_same, get_or-set_other}
use Rattle.std.proofs.lemmas.Bool.{cases_eq}
use Rattle.std.proofs.lemmas.List.Elements.{Contains-append_left, Contains-append_right, Contains-append_cases}
use Rattle.std.proofs.lemmas.Option.{slice_get_within}
use Rattle.hpr_graph.specs.declared.link.Link.{Link}
use Rattle.hpr_graph.specs.Numbered.{Numbered, IsNumbered, row_of}
use Rattle.hpr_graph.proofs.Lists.{in_none, in_cons, in_here, in_later}
use Rattle.hpr_slice.specs.Neighbours.{follows, HasSource, sources_of}
use Rattle.hpr_slice.specs.Steps.{AreSteps, AreStepsInto, AreStepsWithin, steps_into}
use Rattle.hpr_search.specs.Marks.{IsMarked}
use Rattle.hpr_search.proofs.Marked.{no_marks}
use Rattle.hpr_slice.proofs.SourceRows.{sources_exact}

-- the steps into a vertex are the sources there with it
steps_here : (to : ℕ) (l : Link) (links : List Link) (step : ℕ × ℕ) (b : Bool) → (Contains (steps_into to links) step → Contains (sources_of links) step.0 × (step.1 ≡ to))
    → Contains (if b then (l.from, to) ∷ steps_into to links else steps_into to links) step → Contains (if b then l.from ∷ sources_of links else sources_of links) step.0 × (step.1 ≡ to)
steps_here to l links step true more h = elim (in_cons (l.from, to) step (steps_into to links) h) [
  | inl is ↦
      (let here : l.from ≡ step.0 = ap (λ (p : ℕ × ℕ). p.0) is in
      (subst (λ (n : ℕ). Contains (l.from ∷ sources_of links) n) here (in_here l.from (sources_of links)), sym (ap (λ (p : ℕ × ℕ). p.1) is)))
  | inr later ↦ (let (has, same) = more later in (in_later l.from step.0 (sources_of links) has, same))
]
steps_here to l links step false more h = more h

steps_sources : (to : ℕ) (links : List Link) (step : ℕ × ℕ) → Contains (steps_into to links) step → Contains (sources_of links) step.0 × (step.1 ≡ to)
steps_sources to [] step h = absurd (in_none step h)
steps_sources to (l ∷ links) step h = steps_here to l links step (follows l.kind) (steps_sources to links step) h

sources_here : (to : ℕ) (l : Link) (links : List Link) (from : ℕ) (b : Bool) → (Contains (sources_of links) from → Contains (steps_into to links) (from, to))
    → Contains (if b then l.from ∷ sources_of links else sources_of links) from → Contains (if b then (l.from, to) ∷ steps_into to links else steps_into to links) (from, to)
sources_here to l links from true more h = elim (in_cons l.from from (sources_of links) h) [
  | inl is ↦ subst (λ (n : ℕ). Contains ((l.from, to) ∷ steps_into to links) (n, to)) is (in_here (l.from, to) (steps_into to links))
  | inr later ↦ in_later (l.from, to) (from, to) (steps_into to links) (more later)
]
sources_here to l links from false more h = more h

sources_steps : (to : ℕ) (links : List Link) (from : ℕ) → Contains (sources_of links) from → Contains (steps_into to links) (from, to)
sources_steps to [] from h = absurd (in_none from h)
sources_steps to (l ∷ links) from h = sources_here to l links from (follows l.kind) (sources_steps to links from) h

source_within : (g : Numbered) → IsNumbered g → (to from : ℕ) → HasSource (row_of g to) from → (from < length g.vertices) × (to < length g.vertices)
source_within g k to from (l, has, follows, is) =
    let (e, at) = k.links to l has in
    let w = slice_get_within g.vertices l.from e.from at.1 in (omega (arith, w, is), slice_get_within g.vertices to e.to at.0)

-- the steps into the marked vertices
pub marks_more : (done done' : List Bool) (at : ℕ) → at < length done → done' ≡ set done at true → (n : ℕ) → IsMarked done' n ↔ (IsMarked done n ⊎ (n ≡ at))
marks_more done done' at within marks n = elim (cases_eq n at) [
  | inl e ↦ (
    λ h. inr e,
    λ h. ap (λ (k : ℕ). get_or done' k false) e ∙ ap (λ (ms : List Bool). get_or ms at false) marks ∙ get_or-set_same done at true false within,
  )
  | inr ne ↦
      (let same : get_or done' n false ≡ get_or done n false = ap (λ (ms : List Bool). get_or ms n false) marks ∙ get_or-set_other done at n true false ne in (
        λ h. inl (sym same ∙ h),
        λ h. elim h [ inl was ↦ same ∙ was | inr e ↦ absurd (ne e) ],
      ))
]

pub steps_more : (g : Numbered) (done done' : List Bool) (steps new : List (ℕ × ℕ)) (at : ℕ) (links : List Link) → at < length done → done' ≡ set done at true → links ≡ row_of g at → ¬ IsMarked done at → AreStepsInto g done steps
    → new ≡ steps ++ steps_into at links → AreStepsInto g done' new
steps_more g done done' steps new at links within marks row fresh before is from to = (
  λ h. elim (Contains-append_cases steps (steps_into at links) (from, to) (subst (λ (xs : List (ℕ × ℕ)). Contains xs (from, to)) is h)) [
    | inl was ↦ (let (m, has) = (before from to).0 was in ((more to).1 (inl m), has))
    | inr new_one ↦
        (let (has, same) = steps_sources at links (from, to) new_one in
        ((more to).1 (inr same), subst (λ (xs : List Link). HasSource xs from) (row ∙ ap (row_of g) (sym same)) ((sources_exact links from).0 has)))
  ],
  λ (m, has). subst (λ (xs : List (ℕ × ℕ)). Contains xs (from, to)) (sym is) (elim ((more to).0 m) [
    | inr e ↦
        (let here : Contains (sources_of links) from = (sources_exact links from).1 (subst (λ (xs : List Link). HasSource xs from) (ap (row_of g) e ∙ sym row) has) in
        Contains-append_right steps (steps_into at links) (from, to) (subst (λ (n : ℕ). Contains (steps_into at links) (from, n)) (sym e) (sources_steps at links from here)))
    | inl was ↦ Contains-append_left steps (steps_into at links) (from, to) ((before from to).1 (was, has))
  ]),
)
  where
    more : (n : ℕ) → IsMarked done' n ↔ (IsMarked done n ⊎ (n ≡ at))
    more n = marks_more done done' at within marks n

pub steps_whole : (g : Numbered) → IsNumbered g → (done : List Bool) (steps : List (ℕ × ℕ)) (n : ℕ) → length g.vertices ≤ n → ((k : ℕ) → k < n → IsMarked done k) → AreStepsInto g done steps → AreSteps g steps
steps_whole g k done steps n all marked before from to = (
  λ h. ((before from to).0 h).1,
  λ has. (before from to).1 (marked to (let w = (source_within g k to from has).1 in omega (arith, w, all)), has),
)

pub steps_within : (g : Numbered) → IsNumbered g → (steps : List (ℕ × ℕ)) → AreSteps g steps → AreStepsWithin (length g.vertices) steps
steps_within g k steps are step h = source_within g k step.1 step.0 ((are step.0 step.1).0 h)

-- a mark that is read and isn't set
pub not_marked : (done : List Bool) (at : ℕ) (mark : Bool) → at < length done → mark ≡ get_or done at mark → mark ≡ false → ¬ IsMarked done at
not_marked [] at mark l is none h = absurd (omega (arith, l))
not_marked (m ∷ done) zero mark l is none h = let both : true ≡ false = sym h ∙ sym is ∙ none in absurd cc
not_marked (m ∷ done) (suc at) mark l is none h = not_marked done at mark (omega (arith, l)) is none h
