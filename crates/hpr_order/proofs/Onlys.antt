-- The one control edge among the links into a vertex.
use Rattle.std.proofs.Common.{◌≡◌, ℕ, ◌+◌, ◌<◌, ◌≤◌, inl, inr, Bool, Option, Some, None, IsNone, IsSome, IfSome, List, length, take, drop, get_or, Contains, refl, sym, ap, ◌∙◌, subst}
use Rattle.std.proofs.lemmas.List.{take_all, take-append-drop}
use Rattle.std.proofs.lemmas.List.Elements.{Contains-get_or, Contains-append_left}
use Rattle.hpr_terms.proofs.Facts.{taken_item}
use Rattle.hpr_graph.specs.declared.link.Link.{Link}
use Rattle.hpr_graph.specs.Graphs.{IsOnce}
use Rattle.hpr_order.specs.Regions.{control_link}
use Rattle.hpr_order.specs.Controls.{IsOnlyControl, label_of}
use Rattle.hpr_graph.proofs.Lists.{some_inj, not_before}
use Rattle.hpr_order.proofs.Rows.{control_of, label_is, get_or_same}

-- none, or the one control edge
abbrev pub IsOnlyIn : List Link → Option (ℕ × Bool) → Type 0
IsOnlyIn row None = (from : ℕ) (label : Bool) → ¬ Contains row (control_link from label)
IsOnlyIn row (Some (from, label)) = IsOnlyControl row from label

from_inj : (f f' : ℕ) (l l' : Bool) → control_link f l ≡ control_link f' l' → (f' ≡ f) × (l' ≡ l)
from_inj f f' l l' e = (sym (ap (λ (x : Link). x.from) e), sym (some_inj l l' (ap (λ (x : Link). label_of x.kind) e)))

module _ (d : Link) (row : List Link) (i : ℕ) (l : i < length row) where
  abbrev This : Link
  This = get_or row i d

  this_is : This ≡ get_or row i This
  this_is = get_or_same row i d l

  -- another link
  pub only_other : (found : Option (ℕ × Bool)) → label_of This.kind ≡ None → IsOnlyIn (take i row) found → IsOnlyIn (take (i + 1) row) found
  only_other None other none = λ from label h. elim ((taken_item row i This (control_link from label) l this_is).0 h) [
    | inl was ↦ none from label was
    | inr e ↦ (let never : None ≡ Some label = sym other ∙ ap (λ (x : Link). label_of x.kind) e in absurd cc)
  ]
  only_other (Some (from, label)) other (there, only) = (
    (taken_item row i This (control_link from label) l this_is).1 (inl there),
    λ f m h. elim ((taken_item row i This (control_link f m) l this_is).0 h) [
      | inl was ↦ only f m was
      | inr e ↦ (let never : None ≡ Some m = sym other ∙ ap (λ (x : Link). label_of x.kind) e in absurd cc)
    ],
  )

  -- the first control edge
  pub only_first : (label : Bool) → label_of This.kind ≡ Some label → IsOnlyIn (take i row) None → IsOnlyIn (take (i + 1) row) (Some (This.from, label))
  only_first label kind none =
      let is : This ≡ control_link This.from label = control_of This This.from label (label_is This.kind label kind) refl in (
        (taken_item row i This (control_link This.from label) l this_is).1 (inr is),
        λ f m h. elim ((taken_item row i This (control_link f m) l this_is).0 h) [
          | inl was ↦ absurd (none f m was)
          | inr e ↦ from_inj This.from f label m (sym is ∙ e)
        ],
      )

  -- a second
  pub only_second : (found : Option (ℕ × Bool)) (label : Bool) → IsOnce row → label_of This.kind ≡ Some label → IsSome found → IsOnlyIn (take i row) found → (from : ℕ) (mark : Bool) → ¬ IsOnlyControl row from mark
  only_second None label once kind some was = absurd cc
  only_second (Some (f, m)) label once kind some (there, only) = λ from mark (in_row, one). (
      let is : This ≡ control_link This.from label = control_of This This.from label (label_is This.kind label kind) refl in
      let first = one f m (from_taken row i (control_link f m) there) in
      let second = one This.from label (subst (λ (x : Link). Contains row x) is (Contains-get_or row i d l)) in
      let same : control_link f m ≡ This = ap (λ (n : ℕ). control_link n m) (first.0 ∙ sym second.0) ∙ ap (control_link This.from) (first.1 ∙ sym second.1) ∙ sym is in
      not_before row i This once l this_is (subst (λ (x : Link). Contains (take i row) x) same there))
    where
      from_taken : (xs : List Link) (n : ℕ) (x : Link) → Contains (take n xs) x → Contains xs x
      from_taken xs n x h = subst (λ (ys : List Link). Contains ys x) (take-append-drop n xs) (Contains-append_left (take n xs) (drop n xs) x h)

pub only_whole : (row : List Link) (i : ℕ) (found : Option (ℕ × Bool)) → length row ≤ i → IsOnlyIn (take i row) found → IsOnlyIn row found
only_whole row i found l = subst (λ (xs : List Link). IsOnlyIn xs found) (take_all i row l)

-- what that says of the answer
pub only_not : (row : List Link) (found : Option (ℕ × Bool)) → IsOnlyIn row found → IsNone found → (from : ℕ) (label : Bool) → ¬ IsOnlyControl row from label
only_not row None none is = λ from label (there, only). none from label there
only_not row (Some p) has is = absurd cc

pub only_is : (row : List Link) (found : Option (ℕ × Bool)) → IsOnlyIn row found → IfSome found (λ p. IsOnlyControl row p.0 p.1)
only_is row None none = tt
only_is row (Some p) has = has

pub only_where : (found : Option (ℕ × Bool)) (row : List Link) → IsNone found → IsOnlyIn row found → IsOnlyIn row None
only_where None row none h = h
only_where (Some p) row none h = absurd cc
