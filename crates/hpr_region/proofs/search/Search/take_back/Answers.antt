use Rattle.std.proofs.Common.{◌≡◌, ◌<◌, length, vec_len, sym, ap, ◌∙◌, subst, arith, rules}
use Rattle.hpr_region.specs.declared.plan.Plan.{Plan}
use Rattle.hpr_region.specs.Plans.{State, number_at, size_of}
use Rattle.hpr_region.proofs.Searching.{number_is, placed_less}
use Rattle.hpr_region.proofs.search.Search.take_back.Goals as goal

pub index-requires : goal.index-requires
index-requires c =
    let lt : c.in_ok-item.item < size_of c.self.inside.plan = subst (λ (p : Plan). c.in_ok-item.item < size_of p) (sym c.in_ok-item.ensures.plan ∙ sym (ap (λ (z : State). z.plan) c.self.view_is)) c.in_ok-item.ensures.within in
    let l : length c.self.inside.plan.numbers.items ≡ vec_len c.self.inside.plan.numbers = search rules in
    omega (arith, lt, l)

pub returns-clause-some : goal.returns-clause-some
returns-clause-some c =
    let lt : c.in_ok-item.item < size_of c.self.inside.plan = subst (λ (p : Plan). c.in_ok-item.item < size_of p) (sym c.in_ok-item.ensures.plan ∙ sym (ap (λ (z : State). z.plan) c.self.view_is)) c.in_ok-item.ensures.within in
    placed_less c.args.self.now c.pop.new.self c.in_ok-item.item c.index.result.now c.in_ok-item.ensures.plan c.in_ok-item.ensures.some
    (subst (λ (z : State). c.index.result.now ≡ number_at z.plan c.in_ok-item.item) c.self.view_is (number_is c.self.inside.plan.numbers.items c.in_ok-item.item c.index.result.now lt c.index.ensures))
