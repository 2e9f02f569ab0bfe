-- Commands one after the other.
use Rattle.std.proofs.Common.{◌≡◌, ℕ, suc, ◌+◌, ◌<◌, ◌≤◌, List, ◌∷◌, length, get_or, drop, drop-cons, add-one, refl, sym, subst, ap, ◌∙◌}
use Rattle.std.proofs.lemmas.List.{drop_all}
use Rattle.hpr_syntax.specs.Tree.{Tree}
use Rattle.hpr_edit.specs.declared.command.Command.{Command}
use Rattle.hpr_edit.specs.declared.command.EditError.{EditError}
use Rattle.hpr_edit.specs.declared.command.Inverse.{Inverse}
use Rattle.hpr_edit.specs.Edited as one
use Rattle.hpr_edit.specs.Edited.{edited}
use Rattle.hpr_edit.specs.Applied.{applied, applied_from, becomes, refused, then_on}

module _ (p : Tree) (commands : List Command) (author : ℕ) where
  -- what is left to do behind so many commands, which made q
  abbrev pub Left : ℕ → Tree → Type 0
  Left at q = applied p commands author ≡ applied_from (at + 1) q (drop at commands) author

  pub begun : Left 0 p
  begun = refl

  module _ (at : ℕ) (q : Tree) (c : Command) (low : at < length commands) (is : c ≡ get_or commands at c) (left : Left at q) where
    next : drop at commands ≡ c ∷ drop (at + 1) commands
    next = rw add-one (drop-cons commands at c low ∙ ap (λ (x : Command). x ∷ drop (suc at) commands) (sym is))

    carried_out : applied p commands author ≡ then_on (at + 1) (λ r. applied_from (at + 1 + 1) r (drop (at + 1) commands) author) (edited q c author)
    carried_out = left ∙ ap (λ cs. applied_from (at + 1) q cs author) next

    -- by an editor of this author
    module _ (named : ℕ) (same : named ≡ author) where
      pub one_more : (r : Tree) (i : Inverse) → edited q c named ≡ one.becomes r i → Left (at + 1) r
      one_more r i e =
          let made : edited q c author ≡ one.becomes r i = subst (λ a. edited q c a ≡ one.becomes r i) same e in
          carried_out ∙ ap (then_on (at + 1) (λ r. applied_from (at + 1 + 1) r (drop (at + 1) commands) author)) made

      pub stopped : (why : EditError) → edited q c named ≡ one.refused why → applied p commands author ≡ refused (at + 1) why
      stopped why e =
          let not_made : edited q c author ≡ one.refused why = subst (λ a. edited q c a ≡ one.refused why) same e in
          carried_out ∙ ap (then_on (at + 1) (λ r. applied_from (at + 1 + 1) r (drop (at + 1) commands) author)) not_made

  pub ended : (at : ℕ) (q : Tree) → length commands ≤ at → Left at q → applied p commands author ≡ becomes q
  ended at q all left = left ∙ ap (λ cs. applied_from (at + 1) q cs author) (drop_all at commands all)
