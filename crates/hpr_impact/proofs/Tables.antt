-- Visits by the numbers of their points, one visit more at a time.
use Rattle.std.proofs.Common.{◌≡◌, ℕ, zero, suc, ◌+◌, ◌<◌, ◌≤◌, ◌↔◌, ◌⊎◌, inl, inr, Option, Some, None, List, length, set, take, replicate, get_or, Contains, sym, ap, ◌∙◌, subst}
use Rattle.std.proofs.lemmas.Bool.{cases_eq}
use Rattle.std.proofs.lemmas.List.{get_or-set_same, get_or-set_other, take_all}
use Rattle.hpr_terms.proofs.Facts.{in_none, in_taken, some_inj}
use Rattle.hpr_impact.specs.declared.search.Visit.{Visit}
use Rattle.hpr_impact.specs.Private.Ways.{IsTableOf, visit_at}

none_at : (count n : ℕ) (v : Visit) → ¬ (visit_at (replicate count None) n ≡ Some v)
none_at zero zero v h = absurd cc
none_at zero (suc n) v h = absurd cc
none_at (suc count) zero v h = absurd cc
none_at (suc count) (suc n) v h = none_at count n v h

pub table_none : (visits : List Visit) (count : ℕ) → IsTableOf (take 0 visits) (replicate count None)
table_none visits count = record { only = λ n v h. absurd (none_at count n v h); all = λ v h. absurd (in_none v h) }

module _ (visits : List Visit) (i : ℕ) (v : Visit) (taken : (w : Visit) → Contains (take (i + 1) visits) w ↔ (Contains (take i visits) w ⊎ (v ≡ w))) (table : List (Option Visit)) (within : v.point < length table) where
  here : visit_at (set table v.point (Some v)) v.point ≡ Some v
  here = get_or-set_same table v.point (Some v) None within

  one_more : IsTableOf (take i visits) table → IsTableOf (take (i + 1) visits) (set table v.point (Some v))
  one_more before = record {
    only = λ n w h. elim (cases_eq n v.point) [
      | inl e ↦
          (let same : v ≡ w = some_inj v w (sym here ∙ ap (visit_at (set table v.point (Some v))) (sym e) ∙ h) in
          ((taken w).1 (inr same), ap (λ (x : Visit). x.point) (sym same) ∙ sym e))
      | inr ne ↦
          (let (has, is) = before.only n w (sym (get_or-set_other table v.point n (Some v) None ne) ∙ h) in
          ((taken w).1 (inl has), is))
    ];
    all = λ w h. elim (cases_eq w.point v.point) [
      | inl e ↦ (v, ap (visit_at (set table v.point (Some v))) e ∙ here)
      | inr ne ↦ elim ((taken w).0 h) [
        | inl was ↦ (let (x, at) = before.all w was in (x, get_or-set_other table v.point w.point (Some v) None ne ∙ at))
        | inr is ↦ absurd (ne (ap (λ (x : Visit). x.point) (sym is)))
      ]
    ];
  }

pub table_more : (d : Visit) (visits : List Visit) (i : ℕ) (table : List (Option Visit)) → i < length visits → (get_or visits i d).point < length table → IsTableOf (take i visits) table
    → IsTableOf (take (i + 1) visits) (set table (get_or visits i d).point (Some (get_or visits i d)))
table_more d visits i table below within before = one_more visits i (get_or visits i d) (λ w. in_taken visits i d w below) table within before

pub table_all : (visits : List Visit) (i : ℕ) (table : List (Option Visit)) → length visits ≤ i → IsTableOf (take i visits) table → IsTableOf visits table
table_all visits i table past h = subst (λ (vs : List Visit). IsTableOf vs table) (take_all i visits past) h
