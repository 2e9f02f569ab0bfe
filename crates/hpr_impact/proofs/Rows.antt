-- Rows of pairs, one pair more at a time, and links one after another.
use Rattle.std.proofs.Common.{◌≡◌, ℕ, ◌+◌, ◌<◌, ◌≤◌, ◌↔◌, inl, inr, List, ◌∷◌, length, take, get_or, Contains, sym, ap, ap₂, subst}
use Rattle.std.proofs.lemmas.List.{take_all}
use Rattle.std.proofs.lemmas.List.Elements.{Contains-get_or}
use Rattle.hpr_terms.proofs.Facts.{in_taken, in_none, in_cons}
use Rattle.hpr_search.specs.Rows.{numbers_at, IsPushed}
use Rattle.hpr_graph.specs.declared.link.Link.{Link}
use Rattle.hpr_graph.specs.Numbered.{Numbered}
use Rattle.hpr_slice.specs.Neighbours.{AreTargets, Follows, HasSource}
use Rattle.hpr_slice.specs.Steps.{AreSteps, AreStepsWithin}

-- the first of the pairs by rows
abbrev pub AreRowsOf : List (ℕ × ℕ) → List (List ℕ) → Type 0
AreRowsOf steps rows = (from to : ℕ) → Contains (numbers_at rows from) to ↔ Contains steps (from, to)

pub rows_none : (steps : List (ℕ × ℕ)) (rows : List (List ℕ)) → ((at n : ℕ) → ¬ Contains (numbers_at rows at) n) → AreRowsOf (take 0 steps) rows
rows_none steps rows none from to = (λ h. absurd (none from to h), λ h. absurd (in_none (from, to) h))

pair_is : (p : ℕ × ℕ) (a b : ℕ) → p.0 ≡ a → p.1 ≡ b → p ≡ (a, b)
pair_is p a b e f = ap₂ (λ (x y : ℕ). let q : ℕ × ℕ = (x, y) in q) e f

pub rows_more : (d : ℕ × ℕ) (steps : List (ℕ × ℕ)) (i : ℕ) (old new : List (List ℕ)) → i < length steps → AreRowsOf (take i steps) old → IsPushed old (get_or steps i d).0 (get_or steps i d).1 new
    → AreRowsOf (take (i + 1) steps) new
rows_more d steps i old new below before more from to =
    let taken = in_taken steps i d (from, to) below in
    let step : ℕ × ℕ = get_or steps i d in (
      λ h. elim ((more from to).0 h) [
        | inl was ↦ taken.1 (inl ((before from to).0 was))
        | inr (a, b) ↦ taken.1 (inr (pair_is step from to (sym a) (sym b)))
      ],
      λ h. elim (taken.0 h) [
        | inl was ↦ (more from to).1 (inl ((before from to).1 was))
        | inr e ↦ (more from to).1 (inr (sym (ap (λ (p : ℕ × ℕ). p.0) e), sym (ap (λ (p : ℕ × ℕ). p.1) e)))
      ],
    )

pub rows_all : (steps : List (ℕ × ℕ)) (i : ℕ) (rows : List (List ℕ)) → length steps ≤ i → AreRowsOf (take i steps) rows → AreRowsOf steps rows
rows_all steps i rows past h = subst (λ (xs : List (ℕ × ℕ)). AreRowsOf xs rows) (take_all i steps past) h

pub step_within : (d : ℕ × ℕ) (steps : List (ℕ × ℕ)) (i n : ℕ) → i < length steps → AreStepsWithin n steps → ((get_or steps i d).0 < n) × ((get_or steps i d).1 < n)
step_within d steps i n below within = within (get_or steps i d) (Contains-get_or steps i d below)

-- the rows of the steps of a graph are its targets
pub targets_by : (g : Numbered) (steps : List (ℕ × ℕ)) (rows : List (List ℕ)) → length rows ≡ length g.vertices → AreSteps g steps → AreRowsOf steps rows → AreTargets g rows
targets_by g steps rows count are by = record {
  count = count;
  exact = λ from to. (λ h. (are from to).0 ((by from to).0 h), λ h. (by from to).1 ((are from to).1 h));
}

-- a link that isn't the one that is looked for
pub source_later : (l : Link) (links : List Link) (from : ℕ) → ¬ ((l.from ≡ from) × Follows l.kind) → HasSource (l ∷ links) from → HasSource links from
source_later l links from other (m, has, follows, is) = elim (in_cons l m links has) [
  | inl e ↦ absurd (other (subst (λ (x : Link). (x.from ≡ from) × Follows x.kind) (sym e) (is, follows)))
  | inr later ↦ (m, later, follows, is)
]
