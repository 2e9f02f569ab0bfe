use Rattle.std.proofs.Common.{◌≡◌, ℕ, ◌+◌, ◌<◌, Some, None, List, length, get_or, take, slice_get, sym, ap, ◌∙◌, subst}
use Rattle.std.proofs.lemmas.Option.{slice_get-get_or}
use Rattle.hpr_merge.specs.Known.{AreUnknown}
use Rattle.hpr_merge.proofs.KnownNumbers.{unknown_skip, unknown_put}
use Rattle.hpr_merge.proofs.known.unknown_numbers.Goals as goal
use Rattle.hpr_merge.proofs.known.unknown_numbers.Goals.{then-not-is_known+in_ok-push, else-not-is_known}

pub loop-number-preserved : goal.loop-number-preserved
loop-number-preserved c =
    let ns = c.args.numbers.now in
    let os = c.args.firsts.now in
    let i = c.loop-number.number-index in
    let n : ℕ = get_or ns i 0 in
    let within : n < length os = c.requires.within i 0 c.loop-number-test.true in
    let at : slice_get os n ≡ Some (get_or os n None) = slice_get-get_or os n None within in
    let unknown = c.loop-number.unknown.items in
    elim c.if-not-is_known.branch [
      | then-not-is_known+in_ok-push w ↦
          subst (λ (xs : List ℕ). AreUnknown (take (i + 1) ns) os xs) (sym (ap (λ o. o.items) w.unknown-is ∙ w.in_ok-push.ensures.items))
          (unknown_put os ns i c.loop-number-test.true unknown c.loop-number.invariant (get_or os n None) at c.requires.numbers
          (λ known. (let t = c.is_known.ensures.1 known in let f = w.if-not-is_known.true in cc)))
      | else-not-is_known w ↦
          subst (λ (xs : List ℕ). AreUnknown (take (i + 1) ns) os xs) (sym (ap (λ o. o.items) w.unknown-is))
          (unknown_skip os ns i c.loop-number-test.true unknown c.loop-number.invariant (get_or os n None) at (c.is_known.ensures.0 w.if-not-is_known.false))
    ]
