-- The command that a word names, and what it makes of the words.
use Rattle.std.proofs.Common.{◌≡◌, ◌∙◌, Bool, true, false, cond, find, List, [], ◌∷◌, Option, Some, refl, sym, ap, unwrap_or, bytes_eq, option_and_then}
use Rattle.std.specs.List.{list_all}
use Rattle.clap.specs.Words.{is_simple_and_free}
use Rattle.hpr_words.specs.Commands.{Form, commands, form_app, form_named}
use Rattle.hpr_words.specs.Request.{Text}
use Rattle.hpr_words.specs.Taken.{taken, taken_by}
use Rattle.hpr_words.proofs.PieceLemmas.{none_some}
use Rattle.hpr_words.proofs.RowLemmas.{is_same}
use Rattle.hpr_words.proofs.UseLemmas.{found_passes}

-- what is found passes
pub found_has : {X : Type 0} (p : X → Bool) (xs : List X) (x : X) → find p xs ≡ Some x → p x ≡ true
found_has p [] x e = absurd (none_some x e)
found_has p (y ∷ ys) x e = go (p y) refl (λ f. found_has p ys x f) e
  where
    go : (b : Bool) → p y ≡ b → (find p ys ≡ Some x → p x ≡ true) → cond b (Some y) (find p ys) ≡ Some x → p x ≡ true
    go true passes later f = ap p (sym (ap (λ o. unwrap_or o x) f)) ∙ passes
    go false passes later f = later f

are_simple : list_all (λ (form : Form). is_simple_and_free (form_app form)) commands ≡ true
are_simple = refl

module _ (name : Text) (form : Form) (named : form_named name ≡ Some form) where
  pub named_is : name ≡ form.name
  named_is = is_same name form.name (found_has (λ (other : Form). bytes_eq name other.name) commands form named)

  pub is_simple : is_simple_and_free (form_app form) ≡ true
  is_simple = found_passes (λ (other : Form). bytes_eq name other.name) (λ (other : Form). is_simple_and_free (form_app other)) commands form named are_simple

pub taken_named : (name : Text) (o : Option Form) → form_named name ≡ o → (words : List Text) → taken (name ∷ words) ≡ option_and_then (λ form. taken_by form (name ∷ words)) o
taken_named name o named words = ap (option_and_then (λ form. taken_by form (name ∷ words))) named
