use Rattle.std.proofs.Common.{◌*◌, ◌++◌, length, take, ap, sym, subst, ◌∙◌, refl, arith, Vec, Global, List, ℕ, ℤ}
use Rattle.std.specs.FinMap.{entries}
use Rattle.hpr_arrays.specs.Elements.{Elements}
use Rattle.hpr_arrays.specs.Pages.{rows_of, numbers_of, listed, elements_of, IsLaidOut}
use Rattle.hpr_arrays.proofs.Rows.{listed_page, all_listed, page_within}
use Rattle.hpr_arrays.proofs.cells.Cells.entries.Goals as goal

pub push_listed-requires : goal.push_listed-requires
push_listed-requires c =
    let h = subst (λ (pages : List (Vec ℤ Global)). IsLaidOut (rows_of pages)) (sym c.deref-numbers-items.ensures.value) c.self.invariant.0 in
    let w = page_within c.deref-numbers-items.result.now c.loop-page.page c.numbers-item.result c.loop-page-test.true c.numbers-item.is h in
    let n = c.deref.ensures.len in let m = ap length c.deref.ensures.value in omega (arith, w, m)

pub loop-page-preserved : goal.loop-page-preserved
loop-page-preserved c =
    let h = subst (λ (pages : List (Vec ℤ Global)). IsLaidOut (rows_of pages)) (sym c.deref-numbers-items.ensures.value) c.self.invariant.0 in
    c.in_ok-push_listed.ensures
    ∙ ap (λ (es : List (ℕ × ℤ)). es ++ listed (c.loop-page.page * 256) c.deref.result.now) c.loop-page.invariant
    ∙ ap (λ (row : List ℤ). listed 0 (numbers_of (rows_of (take c.loop-page.page c.deref-numbers-items.result.now))) ++ listed (c.loop-page.page * 256) row) c.deref.ensures.value
    ∙ sym (listed_page c.deref-numbers-items.result.now c.loop-page.page (c.loop-page.page * 256) c.numbers-item.result c.loop-page-test.true c.numbers-item.is refl h)

pub returns : goal.returns
returns c =
    c.loop-page.invariant
    ∙ all_listed c.deref-numbers-items.result.now c.loop-page.page c.loop-page-test.false
    ∙ ap (λ (pages : List (Vec ℤ Global)). entries (elements_of (rows_of pages))) c.deref-numbers-items.ensures.value
    ∙ ap (λ (m : Elements). entries m) c.self.view_is
