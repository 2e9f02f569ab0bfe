-- What the words ask for, by the command that the first of them names.
use Rattle.std.proofs.Common.{◌≡◌, ◌∙◌, false, List, [], ◌∷◌, Some, None, Result, Ok, Err, IfOk, cond, refl, slice_get, sym, ap, subst, unwrap_or}
use Rattle.std.specs.Result.{IsErrOf}
use Rattle.clap.specs.Walk.{is_empty}
use Rattle.clap.specs.Words.{App, Row, fault_of, matches_of}
use Rattle.hpr_words.specs.Request.{Text}
use Rattle.hpr_words.specs.declared.asked.WordsError.{WordsError}
use Rattle.hpr_words.specs.declared.asked.WordsError.TheVariants.{Refused}
use Rattle.hpr_words.proofs.PieceLemmas.{none_some}
use Rattle.hprkit_words.specs.Asked.{ask_of}
use Rattle.hprkit_words.specs.Commands.{Form, form_app, form_named}
use Rattle.hprkit_words.specs.Private.Commands.{Reads}
use Rattle.hprkit_words.specs.Taken.{asked_in, commanded, taken_by}
use Rattle.hprkit_words.specs.declared.asked.Asked.{Asked}
use Rattle.hprkit_words.proofs.NameLemmas.{taken_named}

-- the first word names no command
pub unnamed : (words : List Text) (name : Text) → slice_get words 0 ≡ Some name → form_named name ≡ None → commanded words ≡ None
unnamed [] name first none = absurd (none_some name first)
unnamed (word ∷ words) name first none = taken_named word None (ap form_named (ap (λ o. unwrap_or o word) first) ∙ none) words

-- there is no word
pub no_word : (words : List Text) → slice_get words 0 ≡ None → commanded words ≡ None
no_word [] none = refl
no_word (word ∷ words) none = absurd (none_some word (sym none))

-- the first word names a command
module _ (words : List Text) (name : Text) (form : Form) (first : slice_get words 0 ≡ Some name) (named : form_named name ≡ Some form) where
  by_command : commanded words ≡ taken_by form words
  by_command = go words first
    where
      go : (ws : List Text) → slice_get ws 0 ≡ Some name → commanded ws ≡ taken_by form ws
      go [] e = absurd (none_some name e)
      go (word ∷ ws) e = taken_named word (Some form) (ap form_named (ap (λ o. unwrap_or o word) e) ∙ named) ws

  pub taken_not : (app : App) → app ≡ form_app form → is_empty (fault_of app words) ≡ false → commanded words ≡ None
  taken_not app same faulty = by_command ∙ ap (λ b. cond b (asked_in form (matches_of (form_app form) words)) None) (ap (λ a. is_empty (fault_of a words)) (sym same) ∙ faulty)

  module _ (app : App) (same : app ≡ form_app form) (rows : List Row) (found : (fault_of app words ≡ []) × (rows ≡ matches_of app words)) (result : Result Asked WordsError)
      (reads : Reads (asked_in form rows) result) where
    taken_is : commanded words ≡ asked_in form rows
    taken_is =
        by_command ∙ (ap (λ a. cond (is_empty (fault_of a words)) (asked_in form (matches_of a words)) None) (sym same) ∙ (λ i. cond (is_empty (found.0 i)) (asked_in form (sym found.1 i)) None))

    pub reads_taken : IfOk result (λ asked. commanded words ≡ Some (ask_of asked))
    reads_taken = go result reads
      where
        go : (r : Result Asked WordsError) → Reads (asked_in form rows) r → IfOk r (λ asked. commanded words ≡ Some (ask_of asked))
        go (Ok asked) is = taken_is ∙ is
        go (Err error) is = tt

    pub reads_refused : IsErrOf result Refused → commanded words ≡ None
    reads_refused is = taken_is ∙ subst (Reads (asked_in form rows)) is reads refl
