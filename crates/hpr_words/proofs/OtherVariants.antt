-- Other numbers of variants than two to sixteen are not taken.
use Rattle.std.proofs.Common.{◌≡◌, ◌∙◌, ◌<◌, ℕ, true, false, cond, List, [], ◌∷◌, ◌++◌, length, map, None, Some, refl, sym, ap, ap₂, true≢false, arith, codes}
use Rattle.std.specs.Prelude.{◌==◌, ◌&&◌}
use Rattle.std.specs.List.{list_all}
use Rattle.std.proofs.lemmas.Bool.{lt-leb}
use Rattle.hpr_terms.specs.declared.limits.TheConstants.{DEFAULT_TRIES, MAX_VARIANTS}
use Rattle.clap.proofs.OnLiterals.{clap_on_literals}
use Rattle.clap.proofs.SimpleLemmas.{is_false}
use Rattle.clap.proofs.WalkLemmas.{both}
use Rattle.hpr_words.specs.Commands.{integrate_form, tries}
use Rattle.hpr_words.specs.Plain.{Piece, fits_list, is_name, name, options_of, pieces, plain_number}
use Rattle.hpr_words.specs.Request.{Text, integrate_many}
use Rattle.hpr_words.specs.Taken.{all_some, taken}
use Rattle.hpr_words.proofs.FormTests.{is_sound, sound_is}
use Rattle.hpr_words.proofs.NameLemmas.{taken_named}
use Rattle.hpr_words.proofs.PieceLemmas.{pieces_cut}
use Rattle.hpr_words.proofs.PlaceLemmas.{alone, is_cut-names, names-list, pieces-spelling, spelling-names_alone, values-names}
use Rattle.hpr_words.proofs.PlainLemmas.{pieces_asked, sound}

module _ (base : Text) (variants : List Text) (p : is_name base ≡ true) (q : list_all is_name variants ≡ true) where
  abbrev ps : List Piece
  ps = name base ∷ (map name variants ++ [])

  abbrev words : List Text
  words = base ∷ variants

  cut : pieces (options_of integrate_form) [] words ≡ Some ps
  cut = ap (pieces (options_of integrate_form) []) (sym (ap (λ ws. base ∷ ws) (spelling-names_alone variants)))
      ∙ pieces-spelling (options_of integrate_form) [] ps (ap₂ (λ b c. b && c) p (is_cut-names (options_of integrate_form) [] variants [] q refl))

  -- what is asked for, where one variant or more stands behind the base
  asked : fits_list integrate_form.list variants ≡ true → taken (codes "integrate" ∷ words) ≡ integrate_form.asks (base ∷ []) variants (DEFAULT_TRIES ∷ []) []
  asked fits =
      taken_named (codes "integrate") (Some integrate_form) refl words
      ∙ (pieces_asked integrate_form (sound_is integrate_form (both (is_sound integrate_form) _ sound).0) (codes "integrate") words ps
      (pieces_cut (options_of integrate_form) [] words ps cut) (base ∷ []) (DEFAULT_TRIES ∷ []) [] refl
      (ap (fits_list integrate_form.list) (names-list variants [] alone) ∙ fits)
      (ap (λ vs. all_some (plain_number tries vs ∷ [])) (values-names (codes "--tries") variants [])) refl
      ∙ ap (λ ns. integrate_form.asks (base ∷ []) ns (DEFAULT_TRIES ∷ []) []) (names-list variants [] alone))

asks_no_more : (base : Text) (variants : List Text) (n : ℕ) → MAX_VARIANTS < length variants → integrate_form.asks (base ∷ []) variants (n ∷ []) [] ≡ None
asks_no_more base [] n many = refl
asks_no_more base (a ∷ []) n many = refl
asks_no_more base (a ∷ b ∷ []) n many = absurd (omega (arith, many))
asks_no_more base (a ∷ b ∷ c ∷ more) n many = ap (λ is. cond is (Some (integrate_many base (a ∷ b ∷ c ∷ more) n)) None) (lt-leb (length (a ∷ b ∷ c ∷ more)) MAX_VARIANTS many)

pub more_not_taken : (base : Text) (variants : List Text) → is_name base ≡ true → list_all is_name variants ≡ true → MAX_VARIANTS < length variants
    → taken (codes "integrate" ∷ base ∷ variants) ≡ None
more_not_taken base [] p q many = absurd (omega (arith, many))
more_not_taken base (a ∷ variants) p q many = asked base (a ∷ variants) p q refl ∙ asks_no_more base (a ∷ variants) DEFAULT_TRIES many

pub one_not_taken : (base a : Text) → is_name base ≡ true → is_name a ≡ true → taken (codes "integrate" ∷ base ∷ a ∷ []) ≡ None
one_not_taken base a p q = asked base (a ∷ []) p (ap (λ b. b && true) q) refl

pub none_not_taken : (base : Text) → is_name base ≡ true → taken (codes "integrate" ∷ base ∷ []) ≡ None
unfolding clap_on_literals
none_not_taken [] p = absurd (true≢false (sym p))
none_not_taken (b ∷ bs) p = let no : (b == 45) ≡ false = is_false _ p in rw (no, no) (refl {a = None})
