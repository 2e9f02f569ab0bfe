use Rattle.std.proofs.Common.{◌≡◌, ◌≤◌, ◌-◌, length, get_or, arith, sym, subst, ◌∙◌, true}
use Rattle.std.proofs.lemmas.Str.{IsCharBoundary-before_ascii}
use Rattle.hpr_terms.specs.Names.{is_array}
use Rattle.hpr_terms.proofs.Plain.{base_ends}
use Rattle.hpr_terms.proofs.name.Name.base.Goals as goal

pub overflow_sub-text : goal.overflow_sub-text
overflow_sub-text c =
    let is : c.args.self.now ≡ c.as_str-text.result.now = cc (c.self.view_is) in
    let ends = base_ends c.as_str-text.result.now (subst (λ w. is_array w ≡ true) is (sym c.is_array.ensures ∙ c.if-is_array.true)) in
    ends.0

pub range-requires-clause-end_boundary : goal.range-requires-clause-end_boundary
range-requires-clause-end_boundary c =
    let w = c.as_str-text.result.now in
    let is : c.args.self.now ≡ w = cc (c.self.view_is) in
    let ends = base_ends w (subst (λ w. is_array w ≡ true) is (sym c.is_array.ensures ∙ c.if-is_array.true)) in
    let low : 2 ≤ length w = ends.0 in
    let ascii : get_or w (length w - 2) 0 ≡ 91 = ends.1 in
    IsCharBoundary-before_ascii w (length w - 2) (omega (arith, low)) (omega (arith, ascii))
