use Rattle.std.proofs.Common.{◌↔◌, refl, ℕ, IsTrue, Contains, Result, subst}
use Rattle.std.specs.Result.{is_ok}
use Rattle.hpr_graph.proofs.Lists.{contains_at}
use Rattle.hpr_graph.proofs.LinkOrder.{search_found}
use Rattle.hpr_graph.proofs.links.has_sorted.Goals as goal

pub returns-in-Err : goal.returns-in-Err
returns-in-Err c =
    subst (λ (r : Result ℕ ℕ). IsTrue (is_ok r) ↔ Contains c.args.links.now c.args.link) c.in-Err.is
    (search_found c.args.links.now c.args.link c.binary_search.result c.requires c.binary_search.ensures.bound c.binary_search.ensures.position)

pub returns-in-Ok : goal.returns-in-Ok
returns-in-Ok c =
    subst (λ (r : Result ℕ ℕ). IsTrue (is_ok r) ↔ Contains c.args.links.now c.args.link) c.in-Ok.is
    (search_found c.args.links.now c.args.link c.binary_search.result c.requires c.binary_search.ensures.bound c.binary_search.ensures.position)

pub returns-then-is_at : goal.returns-then-is_at
returns-then-is_at c = (λ t. contains_at c.args.links.now c.args.next.now c.args.link (c.is_at.ensures.0 c.if-is_at.true), λ h. refl)
