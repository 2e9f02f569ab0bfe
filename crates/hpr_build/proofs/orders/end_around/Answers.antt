use Rattle.std.proofs.Common.{◌≡◌, ℕ, ◌+◌, ◌<◌, ◌≤◌, List, take, length, get_or, inl, inr, refl, sym, subst, arith}
use Rattle.std.proofs.lemmas.List.{take_all, get_or_default}
use Rattle.hpr_terms.proofs.Facts.{taken_item}
use Rattle.hpr_build.specs.declared.places.Span.{Span}
use Rattle.hpr_build.specs.Places.{IsAmong}
use Rattle.hpr_build.proofs.orders.end_around.Goals.{else-span-point-via-then-span-point+else-point-span, else-span-point-via-else-span-point}
use Rattle.hpr_build.proofs.orders.end_around.Goals as goal

not_here : (spans : List Span) (i q : ℕ) (s : Span) → i < length spans → s ≡ get_or spans i s → ¬ IsAmong (take i spans) q → (s.from ≤ q → q < s.to → ⊥) → ¬ IsAmong (take (i + 1) spans) q
not_here spans i q s l is before here (r, there, low, high) =
    elim ((taken_item spans i s r l is).0 there) [
      | inl was ↦ before (r, was, low, high)
      | inr e ↦ here (subst (λ (t : Span). t.from ≤ q) (sym e) low) (subst (λ (t : Span). q < t.to) (sym e) high)
    ]

pub returns-then-point-span-clause-some : goal.returns-then-point-span-clause-some
returns-then-point-span-clause-some c = (
  _,
  (c.loop-span.span-index, c.loop-span-test.true, get_or_default c.args.spans.now c.loop-span.span-index _ _ c.loop-span-test.true),
  c.if-span-point.true,
  c.if-point-span.true,
  refl,
)

pub loop-span-preserved : goal.loop-span-preserved
loop-span-preserved c =
    let at : Span = get_or c.args.spans.now c.loop-span.span-index (record { from = 0; to = 0 }) in
    not_here c.args.spans.now c.loop-span.span-index c.args.point at c.loop-span-test.true (get_or_default c.args.spans.now c.loop-span.span-index (record { from = 0; to = 0 }) at c.loop-span-test.true) c.loop-span.invariant
    (λ low high.
    elim c.else-span-point.branch [
      | else-span-point-via-then-span-point+else-point-span w ↦ omega (arith, high, w.if-point-span.false)
      | else-span-point-via-else-span-point w ↦ omega (arith, low, w.if-span-point.false)
    ])

pub returns-clause-none : goal.returns-clause-none
returns-clause-none c = λ among. c.loop-span.invariant (subst (λ (xs : List Span). IsAmong xs c.args.point)
    (sym (take_all c.loop-span.span-index c.args.spans.now c.loop-span-test.false)) among)
