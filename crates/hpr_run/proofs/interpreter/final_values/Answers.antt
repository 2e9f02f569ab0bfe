use Rattle.std.proofs.Common.{◌≡◌, ℕ, ◌+◌, List, [], ◌∷◌, ◌++◌, take, take_all, take-suc, add-one, refl, ap, sym, ◌∙◌}
use Rattle.hpr_syntax.specs.Run.{final_values}
use Rattle.hpr_syntax.specs.Values.{Values, value_at}
use Rattle.hpr_run.proofs.interpreter.final_values.Goals as goal

one_more : (names : List (List ℕ)) (s : Values) (x : List ℕ) → final_values (names ++ x ∷ []) s ≡ final_values names s ++ (x, value_at s x) ∷ []
one_more [] s x = refl
one_more (n ∷ names) s x = ap (λ r. (n, value_at s n) ∷ r) (one_more names s x)

pub loop-name-init : goal.loop-name-init
loop-name-init c = c.new-list.ensures.items

pub loop-name-preserved : goal.loop-name-preserved
loop-name-preserved c =
    let names = c.args.names.now in
    let s = c.args.state.now in
    let i = c.loop-name.name-index in
    let name = c.in_ok-copy.ensures in
    let value = c.in_ok-value.ensures in
    let so_far = c.loop-name.invariant in
    let longer : take (i + 1) names ≡ take i names ++ c.name-item.result ∷ [] =
    ap (λ n. take n names) (add-one i) ∙ take-suc names i c.name-item.result c.loop-name-test.true ∙ ap (λ x. take i names ++ x ∷ []) (sym c.name-item.is) in
    c.in_ok-push.ensures.items ∙ (λ k. so_far k ++ (name k, value k) ∷ []) ∙ sym (one_more (take i names) s c.name-item.result) ∙ ap (λ l. final_values l s) (sym longer)

pub returns : goal.returns
returns c = c.loop-name.invariant ∙ ap (λ l. final_values l c.args.state.now) (take_all c.loop-name.name-index c.args.names.now c.loop-name-test.false)
