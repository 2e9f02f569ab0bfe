-- The option of `trial` may stand in each of its places.
use Rattle.std.proofs.Common.{◌≡◌, ◌∙◌, ℕ, Bool, true, cond, List, [], ◌∷◌, ◌++◌, map, Option, Some, None, refl, ap, codes}
use Rattle.std.specs.Prelude.{◌&&◌}
use Rattle.std.specs.List.{list_all}
use Rattle.hpr_terms.specs.declared.limits.TheConstants.{DEFAULT_STEPS, MAX_STEPS}
use Rattle.hpr_words.specs.Commands.{asked_with, steps, trial_form}
use Rattle.hpr_words.specs.Plain.{Piece, fits_list, given, is_name, is_unbroken, name, names, number, options_of, plain, plain_number, plainly_asked, uses, values}
use Rattle.hpr_words.specs.Request.{Request, Text, trial}
use Rattle.hpr_words.specs.Taken.{all_some}
use Rattle.hpr_words.proofs.PieceLemmas.{spelling}
use Rattle.hpr_words.proofs.PlaceLemmas.{IsBehind, alone, is_cut, is_cut-names, plain_listed, spelling-names, spelling-names_alone}

module _ (base a b : Text) (states : List Text) (p : is_name base ≡ true) (q : is_name a ≡ true) (r : is_name b ≡ true) (s : list_all is_name states ≡ true) where
  module _ (after : List Piece) (behind : IsBehind after) (numbers : List Text → List Text) where
    abbrev rest : List Piece
    rest = map name states ++ after

    abbrev asked : Bool → List Text → (Text → List Text) → (Text → ℕ) → Option Request
    asked unbroken ns vs us =
        cond (unbroken && fits_list trial_form.list ns) (asked_with trial_form (Some (base ∷ a ∷ b ∷ [])) ns (all_some (plain_number steps (numbers (vs (codes "--steps"))) ∷ [])) (Some [])) None

    trial-pieces : (ps : List Piece) (words : List Text) (n : ℕ) → spelling ps ≡ words → list_all (is_cut (options_of trial_form) []) ps ≡ true
        → plainly_asked trial_form ps ≡ asked (is_unbroken rest) (names rest) (λ option. values option rest) (λ f. uses f rest)
        → plain_number steps (numbers (values (codes "--steps") after)) ≡ Some n → plain (codes "trial" ∷ words) ≡ Some (trial base a b states n)
    trial-pieces ps words n spelled cut parts number =
        plain_listed trial_form (codes "trial") refl states after behind asked ps words spelled cut parts
        ∙ ap (λ o. asked_with trial_form (Some (base ∷ a ∷ b ∷ [])) states (all_some (o ∷ [])) (Some [])) number

  alone_cut : list_all (is_cut (options_of trial_form) []) (map name states ++ []) ≡ true
  alone_cut = is_cut-names (options_of trial_form) [] states [] s refl

  abbrev listed : List Piece
  listed = map name states ++ []

  pub trial-alone : plain (codes "trial" ∷ base ∷ a ∷ b ∷ states) ≡ Some (trial base a b states DEFAULT_STEPS)
  trial-alone = trial-pieces [] alone (λ vs. vs) (name base ∷ name a ∷ name b ∷ listed) (base ∷ a ∷ b ∷ states) DEFAULT_STEPS
      (ap (λ ws. base ∷ a ∷ b ∷ ws) (spelling-names_alone states)) (rw (p, q, r) alone_cut) refl refl

  module _ (n : Text) (most : ℕ) (spelled : number MAX_STEPS n ≡ Some most) where
    abbrev option : Piece
    option = given (codes "--steps") n

    pub trial-first : plain (codes "trial" ∷ codes "--steps" ∷ n ∷ base ∷ a ∷ b ∷ states) ≡ Some (trial base a b states most)
    trial-first = trial-pieces [] alone (λ vs. n ∷ vs) (option ∷ name base ∷ name a ∷ name b ∷ listed) (codes "--steps" ∷ n ∷ base ∷ a ∷ b ∷ states) most
        (ap (λ ws. codes "--steps" ∷ n ∷ base ∷ a ∷ b ∷ ws) (spelling-names_alone states)) (rw (p, q, r) alone_cut) refl spelled

    pub trial-second : plain (codes "trial" ∷ base ∷ codes "--steps" ∷ n ∷ a ∷ b ∷ states) ≡ Some (trial base a b states most)
    trial-second = trial-pieces [] alone (λ vs. n ∷ vs) (name base ∷ option ∷ name a ∷ name b ∷ listed) (base ∷ codes "--steps" ∷ n ∷ a ∷ b ∷ states) most
        (ap (λ ws. base ∷ codes "--steps" ∷ n ∷ a ∷ b ∷ ws) (spelling-names_alone states)) (rw (p, q, r) alone_cut) refl spelled

    pub trial-third : plain (codes "trial" ∷ base ∷ a ∷ codes "--steps" ∷ n ∷ b ∷ states) ≡ Some (trial base a b states most)
    trial-third = trial-pieces [] alone (λ vs. n ∷ vs) (name base ∷ name a ∷ option ∷ name b ∷ listed) (base ∷ a ∷ codes "--steps" ∷ n ∷ b ∷ states) most
        (ap (λ ws. base ∷ a ∷ codes "--steps" ∷ n ∷ b ∷ ws) (spelling-names_alone states)) (rw (p, q, r) alone_cut) refl spelled

    pub trial-fourth : plain (codes "trial" ∷ base ∷ a ∷ b ∷ codes "--steps" ∷ n ∷ states) ≡ Some (trial base a b states most)
    trial-fourth = trial-pieces [] alone (λ vs. n ∷ vs) (name base ∷ name a ∷ name b ∷ option ∷ listed) (base ∷ a ∷ b ∷ codes "--steps" ∷ n ∷ states) most
        (ap (λ ws. base ∷ a ∷ b ∷ codes "--steps" ∷ n ∷ ws) (spelling-names_alone states)) (rw (p, q, r) alone_cut) refl spelled

    pub trial-last : plain (codes "trial" ∷ base ∷ a ∷ b ∷ (states ++ codes "--steps" ∷ n ∷ [])) ≡ Some (trial base a b states most)
    trial-last = trial-pieces (option ∷ []) (record { unbroken = refl; stops = refl; no_names = refl }) (λ vs. vs) (name base ∷ name a ∷ name b ∷ (map name states ++ option ∷ []))
        (base ∷ a ∷ b ∷ (states ++ codes "--steps" ∷ n ∷ [])) most
        (ap (λ ws. base ∷ a ∷ b ∷ ws) (spelling-names states (option ∷ []))) (rw (p, q, r) (is_cut-names (options_of trial_form) [] states (option ∷ []) s refl)) refl spelled
