-- Options and flags may stand in each of their places.
use Rattle.std.proofs.Common.{◌≡◌, ◌∙◌, ℕ, suc, Bool, true, false, List, [], ◌∷◌, ◌++◌, map, Option, Some, None, cond, option_and_then, append-nil, refl, sym, ap, ap₂, codes}
use Rattle.std.specs.Prelude.{◌&&◌, not}
use Rattle.std.specs.List.{list_all}
use Rattle.clap.proofs.SimpleLemmas.{is_false}
use Rattle.clap.proofs.WalkLemmas.{both}
use Rattle.hpr_words.specs.Commands.{Form, asked_with, form_named, slice_form}
use Rattle.hpr_words.specs.Plain.{Piece, begun, fits_list, flag, flags_of, given, goes_on, is_among, is_name, is_unbroken, is_used, name, names, options_of, pieces, plain, plainly_asked, uses, values}
use Rattle.hpr_words.specs.Request.{Request, Text, slice}
use Rattle.hpr_words.specs.Taken.{all_some}
use Rattle.hpr_words.proofs.PieceLemmas.{spelling}

-- ---- the words that pieces spell are cut into them

-- the piece is one that its words are cut into
abbrev pub is_cut : (options flags : List Text) → Piece → Bool
is_cut options flags (name w) = is_name w
is_cut options flags (given x v) = not (is_name x) && (not (is_among x flags) && is_among x options)
is_cut options flags (flag x) = not (is_name x) && is_among x flags

module _ (options flags : List Text) where
  pieces-name : (w : Text) (ws : List Text) → is_name w ≡ true → pieces options flags (w ∷ ws) ≡ begun (name w) (pieces options flags ws)
  pieces-name w [] e = rw (e) refl
  pieces-name w (next ∷ ws) e = rw (e) refl

  pieces-flag : (x : Text) (ws : List Text) → is_name x ≡ false → is_among x flags ≡ true → pieces options flags (x ∷ ws) ≡ begun (flag x) (pieces options flags ws)
  pieces-flag x [] e f = rw (e, f) refl
  pieces-flag x (next ∷ ws) e f = rw (e, f) refl

  pub pieces-spelling : (ps : List Piece) → list_all (is_cut options flags) ps ≡ true → pieces options flags (spelling ps) ≡ Some ps
  pieces-spelling [] all = refl
  pieces-spelling (name w ∷ ps) all =
      let is = both (is_name w) _ all in
      pieces-name w (spelling ps) is.0 ∙ ap (begun (name w)) (pieces-spelling ps is.1)
  pieces-spelling (given x v ∷ ps) all =
      let parts = both (is_cut options flags (given x v)) _ all in
      let is = both (not (is_name x)) _ parts.0 in
      let rest = both (not (is_among x flags)) _ is.1 in
      let no_name : is_name x ≡ false = is_false _ is.0 in
      let no_flag : is_among x flags ≡ false = is_false _ rest.0 in
      rw (no_name, no_flag, rest.1) (ap (begun (given x v)) (pieces-spelling ps parts.1))
  pieces-spelling (flag x ∷ ps) all =
      let parts = both (is_cut options flags (flag x)) _ all in
      let is = both (not (is_name x)) _ parts.0 in
      pieces-flag x (spelling ps) (is_false _ is.0) is.1 ∙ ap (begun (flag x)) (pieces-spelling ps parts.1)

  pub is_cut-names : (ws : List Text) (ps : List Piece) → list_all is_name ws ≡ true → list_all (is_cut options flags) ps ≡ true → list_all (is_cut options flags) (map name ws ++ ps) ≡ true
  is_cut-names [] ps e cut = cut
  is_cut-names (w ∷ ws) ps e cut =
      let parts = both (is_name w) _ e in
      ap₂ (λ b c. b && c) parts.0 (is_cut-names ws ps parts.1 cut)

-- ---- names before other pieces

pub spelling-names : (ws : List Text) (ps : List Piece) → spelling (map name ws ++ ps) ≡ ws ++ spelling ps
spelling-names [] ps = refl
spelling-names (w ∷ ws) ps = ap (λ vs. w ∷ vs) (spelling-names ws ps)

pub spelling-names_alone : (ws : List Text) → spelling (map name ws ++ []) ≡ ws
spelling-names_alone ws = spelling-names ws [] ∙ append-nil ws

pub names-names : (ws : List Text) (ps : List Piece) → names (map name ws ++ ps) ≡ ws ++ names ps
names-names [] ps = refl
names-names (w ∷ ws) ps = ap (λ vs. w ∷ vs) (names-names ws ps)

pub values-names : (option : Text) (ws : List Text) (ps : List Piece) → values option (map name ws ++ ps) ≡ values option ps
values-names option [] ps = refl
values-names option (w ∷ ws) ps = values-names option ws ps

pub uses-names : (f : Text) (ws : List Text) (ps : List Piece) → uses f (map name ws ++ ps) ≡ uses f ps
uses-names f [] ps = refl
uses-names f (w ∷ ws) ps = uses-names f ws ps

goes_on-names : (ws : List Text) (ps : List Piece) → goes_on ps ≡ true → goes_on (map name ws ++ ps) ≡ true
goes_on-names [] ps e = e
goes_on-names (w ∷ ws) ps e = goes_on-names ws ps e

pub is_unbroken-names : (ws : List Text) (ps : List Piece) → is_unbroken ps ≡ true → goes_on ps ≡ true → is_unbroken (map name ws ++ ps) ≡ true
is_unbroken-names [] ps e f = e
is_unbroken-names (w ∷ ws) ps e f = goes_on-names ws ps f

-- pieces that may follow a list
pub record IsBehind (ps : List Piece) : Type 0 where
  pub unbroken : is_unbroken ps ≡ true
  pub stops : goes_on ps ≡ true
  pub no_names : names ps ≡ []

pub alone : IsBehind []
alone = record { unbroken = refl; stops = refl; no_names = refl }

pub names-list : (ws : List Text) (ps : List Piece) → IsBehind ps → names (map name ws ++ ps) ≡ ws
names-list ws ps behind = names-names ws ps ∙ (ap (λ ns. ws ++ ns) behind.no_names ∙ append-nil ws)

-- ---- what plain words ask for, by their pieces

pub plain_spelled : (form : Form) (command : Text) → form_named command ≡ Some form → (ps : List Piece) (words : List Text) → spelling ps ≡ words
    → list_all (is_cut (options_of form) (flags_of form)) ps ≡ true → plain (command ∷ words) ≡ plainly_asked form ps
plain_spelled form command named ps words spelled cut =
    ap (option_and_then (λ (other : Form). option_and_then (plainly_asked other) (pieces (options_of other) (flags_of other) words))) named
    ∙ (ap (λ ws. option_and_then (plainly_asked form) (pieces (options_of form) (flags_of form) ws)) (sym spelled)
    ∙ ap (option_and_then (plainly_asked form)) (pieces-spelling (options_of form) (flags_of form) ps cut))

-- a list with pieces behind it is as good as the list and what these pieces give
pub plain_listed : (form : Form) (command : Text) → form_named command ≡ Some form → (ws : List Text) (after : List Piece) → IsBehind after
    → (asked : Bool → List Text → (Text → List Text) → (Text → ℕ) → Option Request) (ps : List Piece) (words : List Text) → spelling ps ≡ words
    → list_all (is_cut (options_of form) (flags_of form)) ps ≡ true
    → plainly_asked form ps
    ≡ asked (is_unbroken (map name ws ++ after)) (names (map name ws ++ after)) (λ option. values option (map name ws ++ after)) (λ f. uses f (map name ws ++ after))
    → plain (command ∷ words) ≡ asked true ws (λ option. values option after) (λ f. uses f after)
plain_listed form command named ws after behind asked ps words spelled cut parts =
    plain_spelled form command named ps words spelled cut ∙ (parts
    ∙ (λ i. asked (is_unbroken-names ws after behind.unbroken behind.stops i) (names-list ws after behind i) (λ option. values-names option ws after i) (λ f. uses-names f ws after i)))

-- ---- `slice`

module _ (file point : Text) (points : List Text) (p : is_name file ≡ true) (q : list_all is_name (point ∷ points) ≡ true) where
  -- the points and the pieces behind them, where the pieces before them are `ps` with these, use the flag so often
  module _ (after : List Piece) (behind : IsBehind after) (flagged : ℕ → ℕ) where
    abbrev asked : Bool → List Text → (Text → List Text) → (Text → ℕ) → Option Request
    asked unbroken ns vs us =
        cond (unbroken && fits_list slice_form.list ns) (asked_with slice_form (Some (file ∷ [])) ns (Some []) (all_some (is_used (flagged (us (codes "--program"))) ∷ []))) None

    abbrev rest : List Piece
    rest = map name (point ∷ points) ++ after

    slice-pieces : (ps : List Piece) (words : List Text) (program : Bool) → spelling ps ≡ words → list_all (is_cut (options_of slice_form) (flags_of slice_form)) ps ≡ true
        → plainly_asked slice_form ps ≡ asked (is_unbroken rest) (names rest) (λ option. values option rest) (λ f. uses f rest)
        → is_used (flagged (uses (codes "--program") after)) ≡ Some program
        → plain (codes "slice" ∷ words) ≡ Some (slice file (point ∷ points) program)
    slice-pieces ps words program spelled cut parts used =
        plain_listed slice_form (codes "slice") refl (point ∷ points) after behind asked ps words spelled cut parts
        ∙ ap (λ a. asked_with slice_form (Some (file ∷ [])) (point ∷ points) (Some []) (all_some (a ∷ []))) used

  cut_names : (after : List Piece) → list_all (is_cut (options_of slice_form) (flags_of slice_form)) after ≡ true
      → list_all (is_cut (options_of slice_form) (flags_of slice_form)) (map name (point ∷ points) ++ after) ≡ true
  cut_names after cut = is_cut-names (options_of slice_form) (flags_of slice_form) (point ∷ points) after q cut

  abbrev listed : List Piece
  listed = map name (point ∷ points) ++ []

  pub slice-alone : plain (codes "slice" ∷ file ∷ point ∷ points) ≡ Some (slice file (point ∷ points) false)
  slice-alone = slice-pieces [] alone (λ u. u) (name file ∷ listed) (file ∷ point ∷ points) false (ap (λ ws. file ∷ ws) (spelling-names_alone (point ∷ points)))
      (ap₂ (λ b c. b && c) p (cut_names [] refl)) refl refl

  pub slice-first : plain (codes "slice" ∷ codes "--program" ∷ file ∷ point ∷ points) ≡ Some (slice file (point ∷ points) true)
  slice-first = slice-pieces [] alone suc (flag (codes "--program") ∷ name file ∷ listed) (codes "--program" ∷ file ∷ point ∷ points) true
      (ap (λ ws. codes "--program" ∷ file ∷ ws) (spelling-names_alone (point ∷ points))) (ap₂ (λ b c. b && c) p (cut_names [] refl)) refl refl

  pub slice-second : plain (codes "slice" ∷ file ∷ codes "--program" ∷ point ∷ points) ≡ Some (slice file (point ∷ points) true)
  slice-second = slice-pieces [] alone suc (name file ∷ flag (codes "--program") ∷ listed) (file ∷ codes "--program" ∷ point ∷ points) true
      (ap (λ ws. file ∷ codes "--program" ∷ ws) (spelling-names_alone (point ∷ points))) (ap₂ (λ b c. b && c) p (cut_names [] refl)) refl refl

  pub slice-last : plain (codes "slice" ∷ file ∷ point ∷ (points ++ codes "--program" ∷ [])) ≡ Some (slice file (point ∷ points) true)
  slice-last =
      let after = flag (codes "--program") ∷ [] in
      slice-pieces after (record { unbroken = refl; stops = refl; no_names = refl }) (λ u. u) (name file ∷ (map name (point ∷ points) ++ after))
      (file ∷ point ∷ (points ++ codes "--program" ∷ [])) true (ap (λ ws. file ∷ ws) (spelling-names (point ∷ points) after))
      (ap₂ (λ b c. b && c) p (cut_names after refl)) refl refl
