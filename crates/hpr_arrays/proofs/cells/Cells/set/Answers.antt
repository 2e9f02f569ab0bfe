use Rattle.std.proofs.Common.{rules, ◌≡◌, of_z, w64, ap, sym, ◌∙◌, arith}
use Rattle.std.proofs.lemmas.Int.{to_z-of_z}
use Rattle.hpr_arrays.specs.Elements.{Elements, element, with_element}
use Rattle.hpr_arrays.specs.Pages.{rows_of, elements_of}
use Rattle.hpr_arrays.proofs.Rows.{few, recounted, unchanged}
use Rattle.hpr_arrays.proofs.Counts.{zero_of, same_of, extra_zero, extra_one}
use Rattle.hpr_arrays.proofs.cells.Cells.set.Goals as goal

pub returns-then-before-number-clause-ok : goal.returns-then-before-number-clause-ok
returns-then-before-number-clause-ok c =
    let was : c.get-before.result ≡ element (elements_of (rows_of c.self.inside.pages.items)) c.args.at = c.get-before.ensures ∙ ap (λ (m : Elements). element m c.args.at) (sym c.self.view_is) in
    let same = same_of c.get-before.result c.args.number (search rules) c.ranges.number c.if-before-number.true in
    sym c.self.view_is ∙ unchanged (rows_of c.self.inside.pages.items) c.args.at c.args.number (sym was ∙ same) ∙ ap (λ (m : Elements). with_element m c.args.at c.args.number) c.self.view_is

pub overflow_add-self : goal.overflow_add-self
overflow_add-self c = let l = few (rows_of c.self.inside.pages.items) c.self.invariant.0 in let e = c.self.invariant.1 in omega (arith, l, e)

pub invariant_of-self-then-before-eq0 : goal.invariant_of-self-then-before-eq0
invariant_of-self-then-before-eq0 c =
    let kept = c.self.invariant in
    let was : c.get-before.result ≡ element (elements_of (rows_of c.self.inside.pages.items)) c.args.at = c.get-before.ensures ∙ ap (λ (m : Elements). element m c.args.at) (sym c.self.view_is) in
    let sum = recounted (rows_of c.self.inside.pages.items) (rows_of c.put.new.pages.items) c.args.at c.args.number c.get-before.result (rw (to_z-of_z w64 c.args.number c.ranges.number) at c.in_ok-put.ensures.ok) was in
    let before = extra_zero c.get-before.result (zero_of c.get-before.result (search rules) c.if-before-eq0.true) in
    let after = extra_one c.args.number (λ e. c.if-before-number.false (c.if-before-eq0.true ∙ sym (ap (of_z w64) e))) in
    (c.put.ensures.laid_out, let e = kept.1 in omega (arith, sum, before, after, e))

pub overflow_sub-self : goal.overflow_sub-self
overflow_sub-self c =
    let kept = c.self.invariant in
    let was : c.get-before.result ≡ element (elements_of (rows_of c.self.inside.pages.items)) c.args.at = c.get-before.ensures ∙ ap (λ (m : Elements). element m c.args.at) (sym c.self.view_is) in
    let sum = recounted (rows_of c.self.inside.pages.items) (rows_of c.put.new.pages.items) c.args.at c.args.number c.get-before.result (rw (to_z-of_z w64 c.args.number c.ranges.number) at c.in_ok-put.ensures.ok) was in
    let before = extra_one c.get-before.result (λ e. c.if-before-eq0.false (ap (of_z w64) e)) in
    let after = extra_zero c.args.number (zero_of c.args.number c.ranges.number c.if-number-eq0.true) in
    let e = kept.1 in omega (arith, sum, before, after, e)

pub invariant_of-self-then-number-eq0 : goal.invariant_of-self-then-number-eq0
invariant_of-self-then-number-eq0 c =
    let kept = c.self.invariant in
    let was : c.get-before.result ≡ element (elements_of (rows_of c.self.inside.pages.items)) c.args.at = c.get-before.ensures ∙ ap (λ (m : Elements). element m c.args.at) (sym c.self.view_is) in
    let sum = recounted (rows_of c.self.inside.pages.items) (rows_of c.put.new.pages.items) c.args.at c.args.number c.get-before.result (rw (to_z-of_z w64 c.args.number c.ranges.number) at c.in_ok-put.ensures.ok) was in
    let before = extra_one c.get-before.result (λ e. c.if-before-eq0.false (ap (of_z w64) e)) in
    let after = extra_zero c.args.number (zero_of c.args.number c.ranges.number c.if-number-eq0.true) in
    (c.put.ensures.laid_out, let e = kept.1 in omega (arith, sum, before, after, e))

pub invariant_of-self-else-number-eq0 : goal.invariant_of-self-else-number-eq0
invariant_of-self-else-number-eq0 c =
    let kept = c.self.invariant in
    let was : c.get-before.result ≡ element (elements_of (rows_of c.self.inside.pages.items)) c.args.at = c.get-before.ensures ∙ ap (λ (m : Elements). element m c.args.at) (sym c.self.view_is) in
    let sum = recounted (rows_of c.self.inside.pages.items) (rows_of c.put.new.pages.items) c.args.at c.args.number c.get-before.result (rw (to_z-of_z w64 c.args.number c.ranges.number) at c.in_ok-put.ensures.ok) was in
    let before = extra_one c.get-before.result (λ e. c.if-before-eq0.false (ap (of_z w64) e)) in
    let after = extra_one c.args.number (λ e. c.if-number-eq0.false (ap (of_z w64) e)) in
    (c.put.ensures.laid_out, let e = kept.1 in omega (arith, sum, before, after, e))
