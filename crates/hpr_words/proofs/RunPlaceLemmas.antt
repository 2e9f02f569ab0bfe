-- The options of `run` may stand in each of their places.
use Rattle.std.proofs.Common.{◌≡◌, ◌∙◌, ℕ, suc, Bool, true, false, cond, List, [], ◌∷◌, ◌++◌, map, Option, Some, None, refl, ap, ap₂, codes}
use Rattle.std.specs.Prelude.{◌&&◌}
use Rattle.std.specs.List.{list_all}
use Rattle.hpr_terms.specs.declared.limits.TheConstants.{DEFAULT_STEPS, MAX_STEPS}
use Rattle.hpr_words.specs.Commands.{asked_with, run_form, steps}
use Rattle.hpr_words.specs.Plain.{Piece, fits_list, flag, flags_of, given, is_name, is_unbroken, is_used, name, names, number, options_of, plain, plain_number, plainly_asked, uses, values}
use Rattle.hpr_words.specs.Request.{Request, Text, run}
use Rattle.hpr_words.specs.Taken.{all_some}
use Rattle.hpr_words.proofs.PieceLemmas.{spelling}
use Rattle.hpr_words.proofs.PlaceLemmas.{IsBehind, alone, is_cut, is_cut-names, plain_listed, spelling-names, spelling-names_alone}

module _ (file : Text) (states : List Text) (p : is_name file ≡ true) (q : list_all is_name states ≡ true) where
  -- the states and the pieces behind them, where the pieces before them are `ps` with these, give such numbers and use the flag so often
  module _ (after : List Piece) (behind : IsBehind after) (numbers : List Text → List Text) (flagged : ℕ → ℕ) where
    abbrev rest : List Piece
    rest = map name states ++ after

    abbrev asked : Bool → List Text → (Text → List Text) → (Text → ℕ) → Option Request
    asked unbroken ns vs us =
        cond (unbroken && fits_list run_form.list ns) (asked_with run_form (Some (file ∷ [])) ns (all_some (plain_number steps (numbers (vs (codes "--steps"))) ∷ []))
        (all_some (is_used (flagged (us (codes "--trace"))) ∷ []))) None

    run-pieces : (ps : List Piece) (words : List Text) (n : ℕ) (traced : Bool) → spelling ps ≡ words → list_all (is_cut (options_of run_form) (flags_of run_form)) ps ≡ true
        → plainly_asked run_form ps ≡ asked (is_unbroken rest) (names rest) (λ option. values option rest) (λ f. uses f rest)
        → plain_number steps (numbers (values (codes "--steps") after)) ≡ Some n → is_used (flagged (uses (codes "--trace") after)) ≡ Some traced
        → plain (codes "run" ∷ words) ≡ Some (run file states n traced)
    run-pieces ps words n traced spelled cut parts number used =
        plain_listed run_form (codes "run") refl states after behind asked ps words spelled cut parts
        ∙ ap₂ (λ a b. asked_with run_form (Some (file ∷ [])) states (all_some (a ∷ [])) (all_some (b ∷ []))) number used

  alone_cut : list_all (is_cut (options_of run_form) (flags_of run_form)) (map name states ++ []) ≡ true
  alone_cut = is_cut-names (options_of run_form) (flags_of run_form) states [] q refl

  abbrev listed : List Piece
  listed = map name states ++ []

  pub run-alone : plain (codes "run" ∷ file ∷ states) ≡ Some (run file states DEFAULT_STEPS false)
  run-alone = run-pieces [] alone (λ vs. vs) (λ u. u) (name file ∷ listed) (file ∷ states) DEFAULT_STEPS false (ap (λ ws. file ∷ ws) (spelling-names_alone states)) (rw (p) alone_cut) refl refl refl

  pub run-traced_first : plain (codes "run" ∷ codes "--trace" ∷ file ∷ states) ≡ Some (run file states DEFAULT_STEPS true)
  run-traced_first = run-pieces [] alone (λ vs. vs) suc (flag (codes "--trace") ∷ name file ∷ listed) (codes "--trace" ∷ file ∷ states) DEFAULT_STEPS true
      (ap (λ ws. codes "--trace" ∷ file ∷ ws) (spelling-names_alone states)) (rw (p) alone_cut) refl refl refl

  pub run-traced_second : plain (codes "run" ∷ file ∷ codes "--trace" ∷ states) ≡ Some (run file states DEFAULT_STEPS true)
  run-traced_second = run-pieces [] alone (λ vs. vs) suc (name file ∷ flag (codes "--trace") ∷ listed) (file ∷ codes "--trace" ∷ states) DEFAULT_STEPS true
      (ap (λ ws. file ∷ codes "--trace" ∷ ws) (spelling-names_alone states)) (rw (p) alone_cut) refl refl refl

  -- options and flags behind the states
  module _ (after : List Piece) (behind : IsBehind after) (cut : list_all (is_cut (options_of run_form) (flags_of run_form)) after ≡ true) (n : ℕ) (traced : Bool)
      (number : plain_number steps (values (codes "--steps") after) ≡ Some n) (used : is_used (uses (codes "--trace") after) ≡ Some traced) where
    run-behind : plain (codes "run" ∷ file ∷ (states ++ spelling after)) ≡ Some (run file states n traced)
    run-behind = run-pieces after behind (λ vs. vs) (λ u. u) (name file ∷ (map name states ++ after)) (file ∷ (states ++ spelling after)) n traced
        (ap (λ ws. file ∷ ws) (spelling-names states after)) (rw (p) (is_cut-names (options_of run_form) (flags_of run_form) states after q cut)) refl number used

  pub run-traced_last : plain (codes "run" ∷ file ∷ (states ++ codes "--trace" ∷ [])) ≡ Some (run file states DEFAULT_STEPS true)
  run-traced_last = run-behind (flag (codes "--trace") ∷ []) (record { unbroken = refl; stops = refl; no_names = refl }) refl DEFAULT_STEPS true refl refl

  module _ (n : Text) (most : ℕ) (spelled : number MAX_STEPS n ≡ Some most) where
    abbrev option : Piece
    option = given (codes "--steps") n

    pub run-first : plain (codes "run" ∷ codes "--steps" ∷ n ∷ file ∷ states) ≡ Some (run file states most false)
    run-first = run-pieces [] alone (λ vs. n ∷ vs) (λ u. u) (option ∷ name file ∷ listed) (codes "--steps" ∷ n ∷ file ∷ states) most false
        (ap (λ ws. codes "--steps" ∷ n ∷ file ∷ ws) (spelling-names_alone states)) (rw (p) alone_cut) refl spelled refl

    pub run-second : plain (codes "run" ∷ file ∷ codes "--steps" ∷ n ∷ states) ≡ Some (run file states most false)
    run-second = run-pieces [] alone (λ vs. n ∷ vs) (λ u. u) (name file ∷ option ∷ listed) (file ∷ codes "--steps" ∷ n ∷ states) most false
        (ap (λ ws. file ∷ codes "--steps" ∷ n ∷ ws) (spelling-names_alone states)) (rw (p) alone_cut) refl spelled refl

    pub run-last : plain (codes "run" ∷ file ∷ (states ++ codes "--steps" ∷ n ∷ [])) ≡ Some (run file states most false)
    run-last = run-behind (option ∷ []) (record { unbroken = refl; stops = refl; no_names = refl }) refl most false spelled refl

    pub run-both : plain (codes "run" ∷ file ∷ (states ++ codes "--steps" ∷ n ∷ codes "--trace" ∷ [])) ≡ Some (run file states most true)
    run-both = run-behind (option ∷ flag (codes "--trace") ∷ []) (record { unbroken = refl; stops = refl; no_names = refl }) refl most true spelled refl

    pub run-both_apart : plain (codes "run" ∷ codes "--trace" ∷ file ∷ codes "--steps" ∷ n ∷ states) ≡ Some (run file states most true)
    run-both_apart = run-pieces [] alone (λ vs. n ∷ vs) suc (flag (codes "--trace") ∷ name file ∷ option ∷ listed) (codes "--trace" ∷ file ∷ codes "--steps" ∷ n ∷ states) most true
        (ap (λ ws. codes "--trace" ∷ file ∷ codes "--steps" ∷ n ∷ ws) (spelling-names_alone states)) (rw (p) alone_cut) refl spelled refl
