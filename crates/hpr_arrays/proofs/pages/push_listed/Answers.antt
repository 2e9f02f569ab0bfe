use Rattle.std.proofs.Common.{rules, FitsSigned, w64, ◌≡◌, ◌+◌, ◌++◌, [], ◌∷◌, List, ℕ, ℤ, pos, take, get_or, append_assoc, sym, ap, ◌∙◌}
use Rattle.std.proofs.lemmas.Int.{to_z-of_z}
use Rattle.hpr_arrays.specs.Pages.{listed}
use Rattle.hpr_arrays.proofs.Listed.{listed_more}
use Rattle.hpr_arrays.proofs.pages.push_listed.Goals as goal

pub loop-place-preserved : goal.loop-place-preserved
loop-place-preserved c =
    let one = listed (c.args.first + c.loop-place.place) (get_or c.args.row.now c.loop-place.place (pos 0) ∷ []) in
    let fits : FitsSigned w64 (get_or c.args.row.now c.loop-place.place (pos 0)) = search rules in
    let pushed : c.push_number.new.entries.items ≡ c.loop-place.entries.items ++ one = rw (to_z-of_z w64 (get_or c.args.row.now c.loop-place.place (pos 0)) fits) at c.in_ok-push_number.ensures in
    pushed ∙ ap (λ (xs : List (ℕ × ℤ)). xs ++ one) c.loop-place.invariant ∙ append_assoc c.args.entries.now.items (listed c.args.first (take c.loop-place.place c.args.row.now)) one
    ∙ ap (λ (xs : List (ℕ × ℤ)). c.args.entries.now.items ++ xs) (sym (listed_more c.args.first c.loop-place.place c.args.row.now c.loop-place-test.true))
