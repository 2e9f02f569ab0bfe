-- What the words ask for, by the command that the first of them names.
use Rattle.std.proofs.Common.{◌≡◌, ◌∙◌, true, false, List, [], ◌∷◌, Some, None, Result, Ok, Err, IfOk, cond, inl, inr, refl, rules, slice_get, sym, ap, subst, unwrap_or}
use Rattle.std.specs.Result.{IsErrAnd, IsErrOf}
use Rattle.clap.proofs.WalkLemmas.{both}
use Rattle.clap.specs.Kinds.{HasKind, Kinds}
use Rattle.clap.specs.Walk.{is_empty}
use Rattle.clap.specs.Words.{App, HasMatchesOf, Row, fault_of, found_of, is_simple_and_free, kind_of, matches_of, rows_of}
use Rattle.clap.specs.declared.error.Error.{Error}
use Rattle.clap.specs.declared.error.kind.ErrorKind.TheVariants.{OutOfMemory}
use Rattle.clap.specs.declared.parser.matches.ArgMatches.{ArgMatches}
use Rattle.hpr_words.specs.Asked.{request}
use Rattle.hpr_words.specs.Commands.{Form, form_app, form_named}
use Rattle.hpr_words.specs.Private.Commands.{Reads}
use Rattle.hpr_words.specs.Request.{IsInRange, Text}
use Rattle.hpr_words.specs.Taken.{asked_in, taken, taken_by}
use Rattle.hpr_words.specs.declared.asked.Asked.{Asked}
use Rattle.hpr_words.specs.declared.asked.WordsError.{WordsError}
use Rattle.hpr_words.specs.declared.asked.WordsError.TheVariants.{Refused}
use Rattle.hpr_words.proofs.NameLemmas.{taken_named}
use Rattle.hpr_words.proofs.PieceLemmas.{none_some}
use Rattle.hpr_words.proofs.RangeLemmas.{IfOk-range, taken-range}

-- what a parse by the command gives is what the same command, known otherwise, gives
module _ (app known : App) (words : List Text) (same : app ≡ known) (simple : is_simple_and_free known ≡ true) where
  app_simple : is_simple_and_free app ≡ true
  app_simple = ap is_simple_and_free same ∙ simple

  pub found_by : (matches : ArgMatches) → (is_simple_and_free app ≡ true → fault_of app words ≡ []) → HasMatchesOf app words matches
      → (fault_of known words ≡ []) × (rows_of (found_of matches) ≡ matches_of known words)
  found_by matches passes has =
      subst (λ a. (fault_of a words ≡ []) × (rows_of (found_of matches) ≡ matches_of a words)) same (passes app_simple, (has (both _ _ app_simple).0).0)

  pub refused_by : {X : Type 0} (error : Error) (result : Result X WordsError) → (is_simple_and_free app ≡ true → HasKind (fault_of app words) error)
      → IsErrAnd result (λ e. e ≡ Refused → ¬ (kind_of error ≡ OutOfMemory)) → IsErrOf result Refused → is_empty (fault_of known words) ≡ false
  refused_by {X} error result has gives is = subst (λ a. is_empty (fault_of a words) ≡ false) same (go (fault_of app words) (has app_simple))
    where
      no_memory : ¬ (kind_of error ≡ OutOfMemory)
      no_memory = subst (λ r. IsErrAnd r (λ e. e ≡ Refused → ¬ (kind_of error ≡ OutOfMemory))) is gives refl

      go : (kinds : Kinds) → HasKind kinds error → is_empty kinds ≡ false
      go [] h = elim h [ inl memory ↦ absurd (no_memory memory) | inr among ↦ absurd among ]
      go (k ∷ kinds) h = search rules

-- the first word names no command
pub unnamed : (words : List Text) (name : Text) → slice_get words 0 ≡ Some name → form_named name ≡ None → taken words ≡ None
unnamed [] name first none = absurd (none_some name first)
unnamed (word ∷ words) name first none = taken_named word None (ap form_named (ap (λ o. unwrap_or o word) first) ∙ none) words

-- the first word names a command
module _ (words : List Text) (name : Text) (form : Form) (first : slice_get words 0 ≡ Some name) (named : form_named name ≡ Some form) where
  by_command : taken words ≡ taken_by form words
  by_command = go words first
    where
      go : (ws : List Text) → slice_get ws 0 ≡ Some name → taken ws ≡ taken_by form ws
      go [] e = absurd (none_some name e)
      go (word ∷ ws) e = taken_named word (Some form) (ap form_named (ap (λ o. unwrap_or o word) e) ∙ named) ws

  pub taken_not : (app : App) → app ≡ form_app form → is_empty (fault_of app words) ≡ false → taken words ≡ None
  taken_not app same faulty = by_command ∙ ap (λ b. cond b (asked_in form (matches_of (form_app form) words)) None) (ap (λ a. is_empty (fault_of a words)) (sym same) ∙ faulty)

  module _ (app : App) (same : app ≡ form_app form) (rows : List Row) (found : (fault_of app words ≡ []) × (rows ≡ matches_of app words)) (result : Result Asked WordsError)
      (reads : Reads (asked_in form rows) result) where
    taken_is : taken words ≡ asked_in form rows
    taken_is =
        by_command ∙ (ap (λ a. cond (is_empty (fault_of a words)) (asked_in form (matches_of a words)) None) (sym same) ∙ (λ i. cond (is_empty (found.0 i)) (asked_in form (sym found.1 i)) None))

    pub reads_taken : IfOk result (λ asked. taken words ≡ Some (request asked))
    reads_taken = go result reads
      where
        go : (r : Result Asked WordsError) → Reads (asked_in form rows) r → IfOk r (λ asked. taken words ≡ Some (request asked))
        go (Ok asked) is = taken_is ∙ is
        go (Err error) is = tt

    pub reads_in_range : IfOk result (λ asked. IsInRange (request asked))
    reads_in_range = IfOk-range request result (taken words) (λ r e. taken-range name form named words r (sym by_command ∙ e)) reads_taken

    pub reads_refused : IsErrOf result Refused → taken words ≡ None
    reads_refused is = taken_is ∙ subst (Reads (asked_in form rows)) is reads refl

-- an error that is passed on
pub same_error : {X : Type 0} (error : WordsError) (result : Result X WordsError) → IsErrAnd result (λ e. e ≡ error) → IsErrOf result Refused → error ≡ Refused
same_error error result passed is = sym (subst (λ r. IsErrAnd r (λ e. e ≡ error)) is passed)
