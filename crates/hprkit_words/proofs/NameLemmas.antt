-- The command that a word names.
use Rattle.std.proofs.Common.{◌≡◌, true, List, ◌∷◌, Option, Some, refl, ap, bytes_eq, option_and_then}
use Rattle.std.specs.List.{list_all}
use Rattle.clap.specs.Words.{is_simple_and_free}
use Rattle.hpr_words.specs.Request.{Text}
use Rattle.hpr_words.proofs.NameLemmas.{found_has}
use Rattle.hpr_words.proofs.RowLemmas.{is_same}
use Rattle.hpr_words.proofs.UseLemmas.{found_passes}
use Rattle.hprkit_words.specs.Commands.{Form, commands, form_app, form_named}
use Rattle.hprkit_words.specs.Taken.{commanded, taken_by}

are_simple : list_all (λ (form : Form). is_simple_and_free (form_app form)) commands ≡ true
are_simple = refl

module _ (name : Text) (form : Form) (named : form_named name ≡ Some form) where
  pub named_is : name ≡ form.name
  named_is = is_same name form.name (found_has (λ (other : Form). bytes_eq name other.name) commands form named)

  pub is_simple : is_simple_and_free (form_app form) ≡ true
  is_simple = found_passes (λ (other : Form). bytes_eq name other.name) (λ (other : Form). is_simple_and_free (form_app other)) commands form named are_simple

pub taken_named : (name : Text) (o : Option Form) → form_named name ≡ o → (words : List Text) → commanded (name ∷ words) ≡ option_and_then (λ form. taken_by form (name ∷ words)) o
taken_named name o named words = ap (option_and_then (λ form. taken_by form (name ∷ words))) named
