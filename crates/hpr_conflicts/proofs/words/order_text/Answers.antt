use Rattle.std.proofs.Common.{◌++◌, ◌∙◌, codes, ap, ap₂, ℕ, List, string_bytes}
use Rattle.hpr_conflicts.specs.Sentences.{meaning_by, named, shown}
use Rattle.hpr_conflicts.proofs.Pieces.{five}
use Rattle.hpr_conflicts.proofs.words.order_text.Goals as goal

pub returns : goal.returns
unfolding meaning_by
returns c =
    let comes = codes " comes before " in
    let both = codes ", and both reach " in
    let left = shown c.args.from.now in
    let right = named c.args.to.now in
    c.in_ok-format.ensures.ok
    ∙ ap₂ (λ (a b : List ℕ). a ++ (comes ++ (b ++ (both ++ string_bytes c.in_ok-user.user)))) c.in_ok-left.ensures c.in_ok-right.ensures
    ∙ ap (λ (d : List ℕ). left ++ (comes ++ (right ++ (both ++ d)))) c.in_ok-user.ensures
    ∙ five left comes right both (shown c.args.used.now)
