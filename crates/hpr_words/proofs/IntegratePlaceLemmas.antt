-- The option of `integrate` may stand before the base, behind it or at the end; and other numbers of variants are not taken.
use Rattle.std.proofs.Common.{◌≡◌, ◌∙◌, ◌≤◌, ℕ, Bool, true, cond, List, [], ◌∷◌, ◌++◌, length, map, Option, Some, None, refl, ap, arith, codes}
use Rattle.std.specs.Prelude.{◌&&◌}
use Rattle.std.specs.List.{list_all}
use Rattle.std.proofs.lemmas.Bool.{le-leb}
use Rattle.hpr_terms.specs.declared.limits.TheConstants.{DEFAULT_TRIES, MAX_TRIES, MAX_VARIANTS}
use Rattle.hpr_words.specs.Commands.{asked_with, integrate_form, tries}
use Rattle.hpr_words.specs.Plain.{Piece, fits_list, given, is_name, is_unbroken, name, names, number, options_of, plain, plain_number, plainly_asked, uses, values}
use Rattle.hpr_words.specs.Request.{Request, Text, integrate, integrate_many}
use Rattle.hpr_words.specs.Taken.{all_some}
use Rattle.hpr_words.proofs.PieceLemmas.{spelling}
use Rattle.hpr_words.proofs.PlaceLemmas.{IsBehind, alone, is_cut, is_cut-names, plain_listed, spelling-names, spelling-names_alone}

-- ---- two variants

module _ (base a b : Text) (p : is_name base ≡ true) (q : is_name a ≡ true) (r : is_name b ≡ true) where
  pub integrate-alone : plain (codes "integrate" ∷ base ∷ a ∷ b ∷ []) ≡ Some (integrate base a b DEFAULT_TRIES)
  integrate-alone = rw (p, q, r) refl

  module _ (n : Text) (most : ℕ) (spelled : number MAX_TRIES n ≡ Some most) where
    pub integrate-first : plain (codes "integrate" ∷ codes "--tries" ∷ n ∷ base ∷ a ∷ b ∷ []) ≡ Some (integrate base a b most)
    integrate-first = rw (p, q, r, spelled) refl

    pub integrate-second : plain (codes "integrate" ∷ base ∷ codes "--tries" ∷ n ∷ a ∷ b ∷ []) ≡ Some (integrate base a b most)
    integrate-second = rw (p, q, r, spelled) refl

    pub integrate-last : plain (codes "integrate" ∷ base ∷ a ∷ b ∷ codes "--tries" ∷ n ∷ []) ≡ Some (integrate base a b most)
    integrate-last = rw (p, q, r, spelled) refl

-- ---- three variants or more

many_asked : (base : Text) (variants : List Text) (n : ℕ) → 3 ≤ length variants → length variants ≤ MAX_VARIANTS
    → integrate_form.asks (base ∷ []) variants (n ∷ []) [] ≡ Some (integrate_many base variants n)
many_asked base [] n some few = absurd (omega (arith, some))
many_asked base (a ∷ []) n some few = absurd (omega (arith, some))
many_asked base (a ∷ b ∷ []) n some few = absurd (omega (arith, some))
many_asked base (a ∷ b ∷ c ∷ more) n some few = ap (λ is. cond is (Some (integrate_many base (a ∷ b ∷ c ∷ more) n)) None) (le-leb (length (a ∷ b ∷ c ∷ more)) MAX_VARIANTS few)

has_list : (variants : List Text) → 3 ≤ length variants → fits_list integrate_form.list variants ≡ true
has_list [] some = absurd (omega (arith, some))
has_list (a ∷ variants) some = refl

module _ (base : Text) (variants : List Text) (p : is_name base ≡ true) (q : list_all is_name variants ≡ true) (some : 3 ≤ length variants) (few : length variants ≤ MAX_VARIANTS) where
  module _ (after : List Piece) (behind : IsBehind after) (numbers : List Text → List Text) where
    abbrev rest : List Piece
    rest = map name variants ++ after

    abbrev asked : Bool → List Text → (Text → List Text) → (Text → ℕ) → Option Request
    asked unbroken ns vs us =
        cond (unbroken && fits_list integrate_form.list ns) (asked_with integrate_form (Some (base ∷ [])) ns (all_some (plain_number tries (numbers (vs (codes "--tries"))) ∷ [])) (Some [])) None

    integrate_many-pieces : (ps : List Piece) (words : List Text) (n : ℕ) → spelling ps ≡ words → list_all (is_cut (options_of integrate_form) []) ps ≡ true
        → plainly_asked integrate_form ps ≡ asked (is_unbroken rest) (names rest) (λ option. values option rest) (λ f. uses f rest)
        → plain_number tries (numbers (values (codes "--tries") after)) ≡ Some n → plain (codes "integrate" ∷ words) ≡ Some (integrate_many base variants n)
    integrate_many-pieces ps words n spelled cut parts number =
        plain_listed integrate_form (codes "integrate") refl variants after behind asked ps words spelled cut parts
        ∙ ((λ i. cond (has_list variants some i) (asked_with integrate_form (Some (base ∷ [])) variants (all_some (number i ∷ [])) (Some [])) None) ∙ many_asked base variants n some few)

  alone_cut : list_all (is_cut (options_of integrate_form) []) (map name variants ++ []) ≡ true
  alone_cut = is_cut-names (options_of integrate_form) [] variants [] q refl

  abbrev listed : List Piece
  listed = map name variants ++ []

  pub integrate_many-alone : plain (codes "integrate" ∷ base ∷ variants) ≡ Some (integrate_many base variants DEFAULT_TRIES)
  integrate_many-alone = integrate_many-pieces [] alone (λ vs. vs) (name base ∷ listed) (base ∷ variants) DEFAULT_TRIES
      (ap (λ ws. base ∷ ws) (spelling-names_alone variants)) (rw p alone_cut) refl refl

  module _ (n : Text) (most : ℕ) (spelled : number MAX_TRIES n ≡ Some most) where
    abbrev option : Piece
    option = given (codes "--tries") n

    pub integrate_many-first : plain (codes "integrate" ∷ codes "--tries" ∷ n ∷ base ∷ variants) ≡ Some (integrate_many base variants most)
    integrate_many-first = integrate_many-pieces [] alone (λ vs. n ∷ vs) (option ∷ name base ∷ listed) (codes "--tries" ∷ n ∷ base ∷ variants) most
        (ap (λ ws. codes "--tries" ∷ n ∷ base ∷ ws) (spelling-names_alone variants)) (rw p alone_cut) refl spelled

    pub integrate_many-second : plain (codes "integrate" ∷ base ∷ codes "--tries" ∷ n ∷ variants) ≡ Some (integrate_many base variants most)
    integrate_many-second = integrate_many-pieces [] alone (λ vs. n ∷ vs) (name base ∷ option ∷ listed) (base ∷ codes "--tries" ∷ n ∷ variants) most
        (ap (λ ws. base ∷ codes "--tries" ∷ n ∷ ws) (spelling-names_alone variants)) (rw p alone_cut) refl spelled

    pub integrate_many-last : plain (codes "integrate" ∷ base ∷ (variants ++ codes "--tries" ∷ n ∷ [])) ≡ Some (integrate_many base variants most)
    integrate_many-last = integrate_many-pieces (option ∷ []) (record { unbroken = refl; stops = refl; no_names = refl }) (λ vs. vs) (name base ∷ (map name variants ++ option ∷ []))
        (base ∷ (variants ++ codes "--tries" ∷ n ∷ [])) most
        (ap (λ ws. base ∷ ws) (spelling-names variants (option ∷ []))) (rw p (is_cut-names (options_of integrate_form) [] variants (option ∷ []) q refl)) refl spelled
