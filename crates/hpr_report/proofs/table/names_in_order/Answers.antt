use Rattle.std.proofs.Common.{rules, ◌≡◌, ◌++◌, ◌↔◌, ℕ, List, Contains, subst}
use Rattle.std.proofs.lemmas.Result.{IfOk-weaker}
use Rattle.hpr_report.specs.TableText.{names_in}
use Rattle.hpr_report.proofs.table.names_in_order.Goals as goal

pub returns-clause-names : goal.returns-clause-names
returns-clause-names c =
    let all : c.push_all.new.names.items ≡ names_in c.args.base.now ++ names_in c.args.a.now ++ names_in c.args.b.now ++ names_in c.args.merged.now = search rules in
    IfOk-weaker c.in_order.result _ _ (λ v same. subst (λ (ys : List (List ℕ)). (x : List ℕ) → Contains v.items x ↔ Contains ys x) all same) c.in_order.ensures.same
