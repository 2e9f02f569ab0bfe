use Rattle.std.proofs.Common.{◌≡◌, ℕ, Some, List, Contains, get_or, sym, ap, ◌∙◌, subst, arith}
use Rattle.std.proofs.lemmas.List.Elements.{Contains-get_or}
use Rattle.hpr_search.specs.Rows.{numbers_at, numbers_of}
use Rattle.hpr_search.proofs.RowLists.{read_slice}
use Rattle.hpr_region.specs.Flows.{variable_of}
use Rattle.hpr_region.specs.Private.Rivals.{first_in, first_of}
use Rattle.hpr_region.proofs.Definers.{defining_within}
use Rattle.hpr_region.proofs.rivals.group_by.Goals as goal

pub first_in-requires-clause-definers : goal.first_in-requires-clause-definers
first_in-requires-clause-definers c = λ k d lt.
    let t = c.args.flows.now in
    let u = c.in_ok-variable.variable in
    let defines : variable_of t c.args.item ≡ Some u = sym c.variable.ensures ∙ c.in_ok-variable.was in
    let row : c.deref.result.now ≡ numbers_at (numbers_of c.args.definers.now) u =
    read_slice c.args.definers.now u c.index-definers-variable.result c.deref.result.now (let n = t.named c.args.item u defines in omega (arith, n, c.requires.definers.count)) c.index-definers-variable.is c.deref.ensures.value in
    let x = get_or c.deref.result.now k d in
    defining_within t x u ((c.requires.definers.exact u x).0 (subst (λ (r : List ℕ). Contains r x) row (Contains-get_or c.deref.result.now k d lt)))

pub returns : goal.returns
returns c =
    let t = c.args.flows.now in
    let u = c.in_ok-variable.variable in
    let defines : variable_of t c.args.item ≡ Some u = sym c.variable.ensures ∙ c.in_ok-variable.was in
    let row : c.deref.result.now ≡ numbers_at (numbers_of c.args.definers.now) u =
    read_slice c.args.definers.now u c.index-definers-variable.result c.deref.result.now (let n = t.named c.args.item u defines in omega (arith, n, c.requires.definers.count)) c.index-definers-variable.is c.deref.ensures.value in
    c.first_in.ensures ∙ ap (λ (r : List ℕ). first_in t r c.args.item) row ∙ sym (ap (λ v. first_of t c.args.definers.now v c.args.item) defines)
