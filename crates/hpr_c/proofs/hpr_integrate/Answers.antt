use Rattle.std.proofs.Common.{◌∙◌, ◌≤◌, ◌≡◌, ◌⊎◌, subst, sym}
use Rattle.hpr_c.proofs.IntegrateLemmas.{Says, empty, interferes, keeps, merged, no_program, refused, spent, status_is}
use Rattle.hpr_c.proofs.hpr_integrate.Goals as goal

pub returns : goal.returns
returns c =
    let base = c.args.base.now in
    let a = c.args.a.now in
    let b = c.args.b.now in
    let told = c.tell_three-told.result in
    let number = told.number in
    let out = told.out.items in
    let err = told.err.items in
    let says : Says base a b number out err = c.tell_three-told.ensures in
    let same = c.hand_out.ensures.number in
    let first = c.hand_out.ensures.out in
    let second = c.hand_out.ensures.err in
    record {
      does = (out, err, first, second, subst (λ n. Says base a b n out err) (sym same) says);
      status = subst (λ n. (n ≤ 4) ⊎ (n ≡ 8)) (sym same) (status_is base a b number out err says);
      keeps = λ e. (out, err, first, second, keeps base a b number out err says (sym same ∙ e));
      merged = λ e. (out, err, first, second, merged base a b number out err says (sym same ∙ e));
      interferes = λ e. (out, err, first, second, interferes base a b number out err says (sym same ∙ e));
      no_program = λ e. (out, err, first, second, no_program base a b number out err says (sym same ∙ e));
      spent = λ e. (out, err, first, second, spent base a b number out err says (sym same ∙ e));
      refused = λ e. (out, err, first, second, refused base a b number out err says (sym same ∙ e));
      empty = λ low. (out, err, first, second, empty base a b number out err says (subst (λ n. 4 ≤ n) same low));
    }
