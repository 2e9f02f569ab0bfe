-- Pairs of definitions, one more at a time.
use Rattle.std.proofs.Common.{◌≡◌, ℕ, ◌+◌, ◌<◌, ◌≤◌, Bool, true, Some, List, [], ◌∷◌, ◌++◌, length, get_or, slice_get, take, Contains, IsTrue, refl, ◌⊎◌, ◌↔◌, inl, inr, sym, ap, ◌∙◌, subst, arith}
use Rattle.std.specs.List.Sorted.{IsStrictlyIncreasing}
use Rattle.std.proofs.lemmas.Bool.{cases_lt}
use Rattle.std.proofs.lemmas.List.{get_or_default}
use Rattle.std.proofs.lemmas.Option.{slice_get_within, get_or_from_slice_get}
use Rattle.hpr_terms.proofs.Facts.{taken_item}
use Rattle.hpr_reach.proofs.Grown.{pushed}
use Rattle.hpr_graph.specs.Graphs.{IsOnce}
use Rattle.hpr_graph.proofs.Lists.{not_before}
use Rattle.hpr_build.specs.declared.orders.Ordered.{Ordered}
use Rattle.hpr_build.specs.declared.places.Span.{Span}
use Rattle.hpr_build.specs.Orders.{IsBefore}
use Rattle.hpr_build.specs.Places.{Place, others_at, IsAmong, IsParted}
use Rattle.hpr_build.proofs.Once.{once_after}
use Rattle.hpr_build.proofs.Rising.{rising, rising_le, taken_place, place_taken}
use Rattle.hpr_build.proofs.UserFlows.{either_same}

abbrev pub After : (ℕ → Type 0) → ℕ → List ℕ → Ordered → Type 0
After R left taken o = (o.left ≡ left) × Contains taken o.right × R o.right

pub after_more : (R : ℕ → Type 0) (left right : ℕ) (definitions : List ℕ) (k : ℕ) (first into into' : List Ordered) (test : Bool) → k < length definitions → right ≡ get_or definitions k right
    → ((o : Ordered) → Contains into o ↔ (Contains first o ⊎ After R left (take k definitions) o))
    → ((o : Ordered) → Contains into' o ↔ (Contains into o ⊎ (IsTrue test × (record { left = left; right = right } ≡ o))))
    → IsTrue test ↔ R right
    → (o : Ordered) → Contains into' o ↔ (Contains first o ⊎ After R left (take (k + 1) definitions) o)
after_more R left right definitions k first into into' test l is before new tests o =
    let more = taken_item definitions k right o.right l is in (
      (λ h. elim ((new o).0 h) [
        | inl was ↦ (elim ((before o).0 was) [ inl f ↦ inl f | inr a ↦ inr (a.0, more.1 (inl a.1), a.2) ])
        | inr t ↦ (let e : right ≡ o.right = ap (λ (x : Ordered). x.right) t.1 in inr (sym (ap (λ (x : Ordered). x.left) t.1), more.1 (inr e), subst R e (tests.0 t.0)))
      ]),
      (λ h. elim h [
        | inl f ↦ (new o).1 (inl ((before o).1 (inl f)))
        | inr a ↦ (elim (more.0 a.1) [
          | inl was ↦ (new o).1 (inl ((before o).1 (inr (a.0, was, a.2))))
          | inr e ↦ (new o).1 (inr (tests.1 (subst R (sym e) a.2), λ i. record { left = sym a.0 i; right = e i }))
        ])
      ]),
    )

module _ (R : ℕ → Type 0) (left : ℕ) (xs : List ℕ) where
  -- those that come by unpaired change nothing
  after_passed : (n m : ℕ) → n ≤ m → ((k : ℕ) → n ≤ k → k < m → k < length xs → ¬ R (get_or xs k 0)) → (o : Ordered)
      → After R left (take n xs) o ↔ After R left (take m xs) o
  after_passed n m l pass o = (
    (λ (is, t, r). (let (i, low, within, e) = taken_place xs n o.right t in (is, place_taken xs m o.right i (omega (arith, low, l)) within e, r))),
    (λ (is, t, r). (let (i, low, within, e) = taken_place xs m o.right t in
        elim (cases_lt i n) [
          | inl before ↦ (is, place_taken xs n o.right i before within e, r)
          | inr past ↦ absurd (pass i past low within (subst R (sym e) r))
        ])),
  )

  pub after_none : (m : ℕ) → ((k : ℕ) → k < m → k < length xs → ¬ R (get_or xs k 0)) → (into : List Ordered) (o : Ordered)
      → Contains into o ↔ (Contains into o ⊎ After R left (take m xs) o)
  after_none m pass into o = (
    (λ h. inl h),
    (λ h. elim h [
      | inl was ↦ was
      | inr (is, t, r) ↦ absurd (let (i, low, within, e) = taken_place xs m o.right t in pass i low within (subst R (sym e) r))
    ]),
  )

  abbrev pub pair_at : ℕ → Ordered
  pair_at n = record { left = left; right = get_or xs n 0 }

  -- one more pair, and then some that come by unpaired
  pub after_pushed : (n m : ℕ) → n < length xs → n + 1 ≤ m → R (get_or xs n 0) → ((k : ℕ) → n + 1 ≤ k → k < m → k < length xs → ¬ R (get_or xs k 0))
      → (first into into' : List Ordered) → into' ≡ into ++ pair_at n ∷ []
      → ((o : Ordered) → Contains into o ↔ (Contains first o ⊎ After R left (take n xs) o)) → (o : Ordered)
      → Contains into' o ↔ (Contains first o ⊎ After R left (take m xs) o)
  after_pushed n m low l r pass first into into' is before o =
      let new : (p : Ordered) → Contains into' p ↔ (Contains into p ⊎ (IsTrue true × (pair_at n ≡ p))) = λ p.
      let more = pushed into (pair_at n) p in
      subst (λ (ps : List Ordered). Contains ps p ↔ (Contains into p ⊎ (IsTrue true × (pair_at n ≡ p)))) (sym is) (
        (λ h. elim (more.0 h) [ inl was ↦ inl was | inr e ↦ inr (refl, e) ]),
        (λ h. elim h [ inl was ↦ more.1 (inl was) | inr (t, e) ↦ more.1 (inr e) ]),
      ) in
      either_same (after_more R left (get_or xs n 0) xs n first into into' true low (get_or_default xs n 0 (get_or xs n 0) low) before new
      ((λ t. r), (λ h. refl)) o) (after_passed (n + 1) m l pass o)

  -- and the pair is new
  pub after_once : (n : ℕ) → n < length xs → IsOnce xs → (first into into' : List Ordered) → into' ≡ into ++ pair_at n ∷ []
      → ((o : Ordered) → Contains into o ↔ (Contains first o ⊎ After R left (take n xs) o))
      → ((o : Ordered) → Contains first o → o.left ≡ left → ⊥) → IsOnce into → IsOnce into'
  after_once n low each first into into' is before fresh once =
      once_after into into' (pair_at n) once (λ h. elim ((before (pair_at n)).0 h) [
        | inl was ↦ fresh (pair_at n) was refl
        | inr a ↦ not_before xs n (get_or xs n 0) each low (get_or_default xs n 0 (get_or xs n 0) low) a.1
      ]) is

-- the definitions behind the left one that no conditional has in another branch
module _ (places : List Place) (left at : ℕ) (xs : List ℕ) (rises : IsStrictlyIncreasing xs) (get : slice_get xs at ≡ Some left) (spans : List Span)
    (same : spans ≡ others_at places left) where
  parted : (q : ℕ) → IsAmong spans q → IsParted places left q
  parted q h = subst (λ (ss : List Span). IsAmong ss q) same h

  at_left : get_or xs at 0 ≡ left
  at_left = get_or_from_slice_get xs at left 0 get

  pub passed_later : (start next : ℕ) → ((k : ℕ) → start ≤ k → k < next → IsAmong spans (get_or xs k 0)) → (k : ℕ) → start ≤ k → k < next → k < length xs
      → ¬ IsBefore places left (get_or xs k 0)
  passed_later start next passed k from low within (less, apart) = apart (parted (get_or xs k 0) (passed k from low))

  pub passed_first : (next : ℕ) → ((k : ℕ) → at + 1 ≤ k → k < next → IsAmong spans (get_or xs k 0)) → (k : ℕ) → k < next → k < length xs
      → ¬ IsBefore places left (get_or xs k 0)
  passed_first next passed k low within before = elim (cases_lt k (at + 1)) [
    | inl early ↦ (let up = rising_le xs rises k at (omega (arith, early)) (slice_get_within xs at left get) in omega (arith, up, at_left, before.0))
    | inr late ↦ passed_later (at + 1) next passed k late low within before
  ]

  pub right_after : (next : ℕ) → at < next → next < length xs → ¬ IsParted places left (get_or xs next 0) → IsBefore places left (get_or xs next 0)
  right_after next low within apart = (let less = rising xs rises at next low within in omega (arith, less, at_left), apart)

  pub outside : (next : ℕ) → (next < length xs → ¬ IsAmong spans (get_or xs next 0)) → next < length xs → ¬ IsParted places left (get_or xs next 0)
  outside next out l h = out l (subst (λ (ss : List Span). IsAmong ss (get_or xs next 0)) (sym same) h)

pub order_more : (R : ℕ → ℕ → Type 0) (definitions : List ℕ) (k left : ℕ) (pairs pairs' : List Ordered) → k < length definitions → left ≡ get_or definitions k left
    → ((o : Ordered) → Contains pairs o ↔ (Contains (take k definitions) o.left × Contains definitions o.right × R o.left o.right))
    → ((o : Ordered) → Contains pairs' o ↔ (Contains pairs o ⊎ After (R left) left definitions o))
    → (o : Ordered) → Contains pairs' o ↔ (Contains (take (k + 1) definitions) o.left × Contains definitions o.right × R o.left o.right)
order_more R definitions k left pairs pairs' l is before new o =
    let more = taken_item definitions k left o.left l is in (
      (λ h. elim ((new o).0 h) [
        | inl was ↦ (let b = (before o).0 was in (more.1 (inl b.0), b.1, b.2))
        | inr a ↦ (more.1 (inr (sym a.0)), a.1, subst (λ (n : ℕ). R n o.right) (sym a.0) a.2)
      ]),
      (λ (t, d, r). elim (more.0 t) [
        | inl was ↦ (new o).1 (inl ((before o).1 (was, d, r)))
        | inr e ↦ (new o).1 (inr (sym e, d, subst (λ (n : ℕ). R n o.right) (sym e) r))
      ]),
    )

-- a list of fewer than two things has no two
pub no_pair : {X : Type 0} (xs : List X) (x y : X) → length xs < 2 → Contains xs x → Contains xs y → x ≡ y
no_pair {X} xs x y few (i, li, ei) (j, lj, ej) =
    let same : i ≡ j = omega (arith, few, li, lj) in
    sym ei ∙ get_or_default xs i x y li ∙ ap (λ (k : ℕ). get_or xs k y) same ∙ ej
