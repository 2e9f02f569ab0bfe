-- Plain words as items of a command.
use Rattle.std.proofs.Common.{◌≡◌, ◌∙◌, ℕ, zero, suc, Bool, true, false, cond, List, [], ◌∷◌, ◌++◌, Option, Some, None, is_some, refl, sym, ap, ap₂, subst, bytes_eq, true≢false, slice_get, unwrap_or, drop, codes}
use Rattle.std.specs.Prelude.{◌&&◌, ◌||◌}
use Rattle.std.specs.List.{list_all}
use Rattle.clap.proofs.WalkLemmas.{both}
use Rattle.clap.specs.Simple.{Shape}
use Rattle.clap.specs.Takes.{value_passes}
use Rattle.clap.specs.Walk.{Rule, Text, arg_by_index, arg_by_long, next_position}
use Rattle.clap.specs.Words.{new_rule}
use Rattle.hpr_words.specs.Plain.{Piece, begun, is_among, is_name, name, names, pieces, uses, values}
use Rattle.hpr_words.specs.Plain as plain
use Rattle.hpr_words.proofs.Items.{Item, flag, valued, word, words_of}
use Rattle.hpr_words.proofs.RowLemmas.{added, is_same, same_text}
use Rattle.hpr_words.proofs.StepLemmas.{IsFlag, IsOption, IsPositional}
use Rattle.hpr_words.proofs.UseLemmas.{ArePassing, IsOfNone, IsOfOne, IsPlainShape, IsRead, flag_passes, given, is_complete, is_once, items_read, valued_passes, word_passes}

-- ---- words among others

abbrev pub Each : {X : Type 0} → (X → Type 0) → List X → Type 0
Each P [] = Unit {0}
Each P (x ∷ xs) = P x × Each P xs

pub each_among : (P : Text → Type 0) (w : Text) (ws : List Text) → is_among w ws ≡ true → Each P ws → P w
each_among P w [] e each = absurd (true≢false (sym e))
each_among P w (x ∷ xs) e each = go (bytes_eq w x) refl (λ f. each_among P w xs f each.1) e
  where
    go : (b : Bool) → bytes_eq w x ≡ b → (is_among w xs ≡ true → P w) → (b || is_among w xs) ≡ true → P w
    go true same later f = subst P (sym (is_same w x same)) each.0
    go false same later f = later f

-- ---- the pieces of words

abbrev pub piece_words : Piece → List Text
piece_words (name w) = w ∷ []
piece_words (plain.given option value) = option ∷ value ∷ []
piece_words (plain.flag f) = f ∷ []

abbrev pub spelling : List Piece → List Text
spelling [] = []
spelling (p ∷ ps) = piece_words p ++ spelling ps

abbrev pub is_known : (options flags : List Text) → Piece → Bool
is_known options flags (name w) = is_name w
is_known options flags (plain.given option value) = is_among option options
is_known options flags (plain.flag f) = is_among f flags

pub record IsCut (options flags words : List Text) (ps : List Piece) : Type 0 where
  pub spelled : spelling ps ≡ words
  pub known : list_all (is_known options flags) ps ≡ true

pub none_some : {X : Type 0} (x : X) → None ≡ Some x → ⊥
none_some x e = true≢false (ap is_some (sym e))

module _ (options flags : List Text) where
  none_cut : (ps : List Piece) → Some [] ≡ Some ps → IsCut options flags [] ps
  none_cut ps e = subst (IsCut options flags []) (ap (λ o. unwrap_or o ps) e) (record { spelled = refl; known = refl })

  begun_cut : (p : Piece) (words : List Text) → is_known options flags p ≡ true → (rest : Option (List Piece)) → ((qs : List Piece) → rest ≡ Some qs → IsCut options flags words qs)
      → (ps : List Piece) → begun p rest ≡ Some ps → IsCut options flags (piece_words p ++ words) ps
  begun_cut p words known None later ps e = absurd (none_some ps e)
  begun_cut p words known (Some qs) later ps e =
      let cut = later qs refl in
      subst (IsCut options flags (piece_words p ++ words)) (ap (λ o. unwrap_or o ps) e)
      (record { spelled = ap (λ ws. piece_words p ++ ws) cut.spelled; known = ap₂ (λ b c. b && c) known cut.known })

  pub pieces_cut : (words : List Text) (ps : List Piece) → pieces options flags words ≡ Some ps → IsCut options flags words ps
  pieces_cut [] ps e = none_cut ps e
  pieces_cut (w ∷ []) ps e = go (is_name w) refl (is_among w flags) refl e
    where
      go : (b : Bool) → is_name w ≡ b → (c : Bool) → is_among w flags ≡ c → cond b (Some (name w ∷ [])) (cond c (Some (plain.flag w ∷ [])) None) ≡ Some ps → IsCut options flags (w ∷ []) ps
      go true named c flagged f = begun_cut (name w) [] named (Some []) none_cut ps f
      go false named true flagged f = begun_cut (plain.flag w) [] flagged (Some []) none_cut ps f
      go false named false flagged f = absurd (none_some ps f)
  pieces_cut (w ∷ next ∷ words) ps e =
      go (is_name w) refl (is_among w flags) refl (is_among w options) refl (λ qs f. pieces_cut (next ∷ words) qs f) (λ qs f. pieces_cut words qs f) e
    where
      go : (b : Bool) → is_name w ≡ b → (c : Bool) → is_among w flags ≡ c → (d : Bool) → is_among w options ≡ d
          → ((qs : List Piece) → pieces options flags (next ∷ words) ≡ Some qs → IsCut options flags (next ∷ words) qs)
          → ((qs : List Piece) → pieces options flags words ≡ Some qs → IsCut options flags words qs)
          → cond b (begun (name w) (pieces options flags (next ∷ words))) (cond c (begun (plain.flag w) (pieces options flags (next ∷ words))) (cond d (begun (plain.given w next) (pieces options flags words)) None)) ≡ Some ps
          → IsCut options flags (w ∷ next ∷ words) ps
      go true named c flagged d optional with_next with_rest f = begun_cut (name w) (next ∷ words) named (pieces options flags (next ∷ words)) with_next ps f
      go false named true flagged d optional with_next with_rest f = begun_cut (plain.flag w) (next ∷ words) flagged (pieces options flags (next ∷ words)) with_next ps f
      go false named false flagged true optional with_next with_rest f = begun_cut (plain.given w next) words optional (pieces options flags words) with_rest ps f
      go false named false flagged false optional with_next with_rest f = absurd (none_some ps f)

-- ---- the arguments of a command

-- the argument that takes the words at this place
abbrev pub rule_at : Shape → ℕ → Rule
rule_at s position = unwrap_or (arg_by_index s.rules position) (new_rule [])

-- the argument that the option's or flag's word names, behind its two dashes
abbrev pub rule_for : Shape → Text → Rule
rule_for s option = unwrap_or (arg_by_long s.rules (drop 2 option)) (new_rule [])

-- it takes the word
pub record TakesWord (s : Shape) (position : ℕ) (w : Text) : Type 0 where
  pub at : IsPositional s position (rule_at s position)
  pub one : IsOfOne (rule_at s position)
  pub passes : value_passes (rule_at s position) w ≡ true

pub record TakesOption (s : Shape) (option : Text) : Type 0 where
  pub is : IsOption s option (drop 2 option) (rule_for s option)
  pub one : IsOfOne (rule_for s option)

pub record TakesFlag (s : Shape) (f : Text) : Type 0 where
  pub is : IsFlag s f (drop 2 f) (rule_for s f)
  pub none : IsOfNone (rule_for s f)
  pub stands : (rule_for s f).missing ≡ codes "true" ∷ []

-- each name has its argument
abbrev pub HavePlaces : Shape → ℕ → List Text → Type 0
HavePlaces s position [] = Unit {0}
HavePlaces s position (w ∷ ws) = TakesWord s position w × HavePlaces s (next_position (rule_at s position) position) ws

-- what the names give the argument of an id
abbrev pub given_names : Shape → Text → ℕ → List Text → List Text
given_names s id position [] = []
given_names s id position (w ∷ ws) = added (rule_at s position).id id (w ∷ []) ++ given_names s id (next_position (rule_at s position) position) ws

-- the argument at this place takes all further words
module _ (s : Shape) (position : ℕ) (stays : next_position (rule_at s position) position ≡ position) where
  pub list_places : ((w : Text) → TakesWord s position w) → (ws : List Text) → HavePlaces s position ws
  list_places takes [] = tt
  list_places takes (w ∷ ws) = (takes w, subst (λ p. HavePlaces s p ws) (sym stays) (list_places takes ws))

  pub given-list : (ws : List Text) → given_names s (rule_at s position).id position ws ≡ ws
  given-list [] = refl
  given-list (w ∷ ws) =
      ap₂ (λ b p. cond b (w ∷ []) [] ++ given_names s (rule_at s position).id p ws) (same_text (rule_at s position).id) stays ∙ ap (λ vs. w ∷ vs) (given-list ws)

  pub given-no_list : (id : Text) → bytes_eq (rule_at s position).id id ≡ false → (ws : List Text) → given_names s id position ws ≡ []
  given-no_list id other [] = refl
  given-no_list id other (w ∷ ws) = ap₂ (λ b p. cond b (w ∷ []) [] ++ given_names s id p ws) other stays ∙ given-no_list id other ws

-- ---- the pieces as items

abbrev pub items_at : Shape → ℕ → List Piece → List Item
items_at s position [] = []
items_at s position (name w ∷ ps) = word (rule_at s position) w ∷ items_at s (next_position (rule_at s position) position) ps
items_at s position (plain.given option v ∷ ps) = valued (rule_for s option) option (drop 2 option) v ∷ items_at s position ps
items_at s position (plain.flag f ∷ ps) = flag (rule_for s f) f (drop 2 f) ∷ items_at s position ps

-- what the pieces give the argument of an id
abbrev pub given_at : Shape → List Piece → Text → List Text
given_at s ps id = given id (items_at s 1 ps)

words_of-items_at : (s : Shape) (position : ℕ) (ps : List Piece) → words_of (items_at s position ps) ≡ spelling ps
words_of-items_at s position [] = refl
words_of-items_at s position (name w ∷ ps) = ap (λ ws. w ∷ ws) (words_of-items_at s (next_position (rule_at s position) position) ps)
words_of-items_at s position (plain.given option v ∷ ps) = ap (λ ws. option ∷ v ∷ ws) (words_of-items_at s position ps)
words_of-items_at s position (plain.flag f ∷ ps) = ap (λ ws. f ∷ ws) (words_of-items_at s position ps)

-- what so many uses of a flag give it
abbrev pub trues : ℕ → List Text
trues zero = []
trues (suc n) = codes "true" ∷ trues n

-- the option's argument, or the flag's, has another id, or this one exactly where it is the named
abbrev pub IsApart : Shape → Text → Text → Type 0
IsApart s id x = bytes_eq (rule_for s x).id id ≡ false

abbrev pub IsOf : Shape → Text → Text → Text → Type 0
IsOf s id named x = bytes_eq (rule_for s x).id id ≡ bytes_eq x named

none_first : (b : Bool) (w : Text) (ns : List Text) → (cond b (w ∷ []) [] ++ ns) ≡ [] → (b ≡ false) × (ns ≡ [])
none_first true w ns e = absurd (true≢false (ap (λ vs. is_some (slice_get vs 0)) e))
none_first false w ns e = (refl, e)

one_more : (b : Bool) (v : Text) (vs : List Text) → (cond b (v ∷ []) [] ++ vs) ≡ cond b (v ∷ vs) vs
one_more true v vs = refl
one_more false v vs = refl

true_more : (b : Bool) (n : ℕ) → (cond b (codes "true" ∷ []) [] ++ trues n) ≡ trues (cond b (suc n) n)
true_more true n = refl
true_more false n = refl

module _ (s : Shape) (options flags : List Text) (id : Text) where
  abbrev AreKnown : List Piece → Type 0
  AreKnown ps = list_all (is_known options flags) ps ≡ true

  -- an option or flag of another id gives this one nothing
  apart_adds : (x : Text) (put : List Text) (xs : List Text) → is_among x xs ≡ true → Each (IsApart s id) xs → (vs : List Text) → (added (rule_for s x).id id put ++ vs) ≡ vs
  apart_adds x put xs among apart vs = ap (λ b. cond b put [] ++ vs) (each_among (IsApart s id) x xs among apart)

  pub given-name : Each (IsApart s id) options → Each (IsApart s id) flags → (position : ℕ) (ps : List Piece) → AreKnown ps → given id (items_at s position ps) ≡ given_names s id position (names ps)
  given-name o f position [] known = refl
  given-name o f position (name w ∷ ps) known =
      ap (λ vs. added (rule_at s position).id id (w ∷ []) ++ vs) (given-name o f (next_position (rule_at s position) position) ps (both (is_name w) _ known).1)
  given-name o f position (plain.given x v ∷ ps) known =
      let is = both (is_among x options) _ known in
      apart_adds x (v ∷ []) options is.0 o (given id (items_at s position ps)) ∙ given-name o f position ps is.1
  given-name o f position (plain.flag x ∷ ps) known =
      let is = both (is_among x flags) _ known in
      apart_adds x (rule_for s x).missing flags is.0 f (given id (items_at s position ps)) ∙ given-name o f position ps is.1

  pub given-option : (option : Text) → Each (IsOf s id option) options → Each (IsApart s id) flags → (position : ℕ) (ps : List Piece) → AreKnown ps
      → given_names s id position (names ps) ≡ [] → given id (items_at s position ps) ≡ values option ps
  given-option option o f position [] known none = refl
  given-option option o f position (name w ∷ ps) known none =
      let after = none_first (bytes_eq (rule_at s position).id id) w (given_names s id (next_position (rule_at s position) position) (names ps)) none in
      ap (λ b. cond b (w ∷ []) [] ++ given id (items_at s (next_position (rule_at s position) position) ps)) after.0
      ∙ given-option option o f (next_position (rule_at s position) position) ps (both (is_name w) _ known).1 after.1
  given-option option o f position (plain.given x v ∷ ps) known none =
      let is = both (is_among x options) _ known in
      ap₂ (λ b vs. cond b (v ∷ []) [] ++ vs) (each_among (IsOf s id option) x options is.0 o) (given-option option o f position ps is.1 none)
      ∙ one_more (bytes_eq x option) v (values option ps)
  given-option option o f position (plain.flag x ∷ ps) known none =
      let is = both (is_among x flags) _ known in
      apart_adds x (rule_for s x).missing flags is.0 f (given id (items_at s position ps)) ∙ given-option option o f position ps is.1 none

  pub given-flag : (named : Text) → Each (IsApart s id) options → Each (IsOf s id named) flags → Each (TakesFlag s) flags → (position : ℕ) (ps : List Piece) → AreKnown ps
      → given_names s id position (names ps) ≡ [] → given id (items_at s position ps) ≡ trues (uses named ps)
  given-flag named o f stand position [] known none = refl
  given-flag named o f stand position (name w ∷ ps) known none =
      let after = none_first (bytes_eq (rule_at s position).id id) w (given_names s id (next_position (rule_at s position) position) (names ps)) none in
      ap (λ b. cond b (w ∷ []) [] ++ given id (items_at s (next_position (rule_at s position) position) ps)) after.0
      ∙ given-flag named o f stand (next_position (rule_at s position) position) ps (both (is_name w) _ known).1 after.1
  given-flag named o f stand position (plain.given x v ∷ ps) known none =
      let is = both (is_among x options) _ known in
      apart_adds x (v ∷ []) options is.0 o (given id (items_at s position ps)) ∙ given-flag named o f stand position ps is.1 none
  given-flag named o f stand position (plain.flag x ∷ ps) known none =
      let is = both (is_among x flags) _ known in
      (λ i. cond (each_among (IsOf s id named) x flags is.0 f i) ((each_among (TakesFlag s) x flags is.0 stand).stands i) [] ++ given-flag named o f stand position ps is.1 none i)
      ∙ true_more (bytes_eq x named) (uses named ps)

-- the value is one of the option's
abbrev pub is_fair : Shape → Text → Text → Bool
is_fair s option v = is_name v && value_passes (rule_for s option) v

-- each value of the option is one of its
abbrev pub AreFair : Shape → List Piece → Text → Type 0
AreFair s ps option = list_all (is_fair s option) (values option ps) ≡ true

rest_fair : (test : Text → Bool) (b : Bool) (v : Text) (vs : List Text) → list_all test (cond b (v ∷ vs) vs) ≡ true → list_all test vs ≡ true
rest_fair test true v vs e = (both (test v) _ e).1
rest_fair test false v vs e = e

module _ (s : Shape) (options flags : List Text) (takes_options : Each (TakesOption s) options) (takes_flags : Each (TakesFlag s) flags) where
  items_pass : (position : ℕ) (ps : List Piece) → list_all (is_known options flags) ps ≡ true → HavePlaces s position (names ps)
      → ((option : Text) → is_among option options ≡ true → AreFair s ps option) → ArePassing s position (items_at s position ps)
  items_pass position [] known places fair = tt
  items_pass position (name w ∷ ps) known places fair =
      let is = both (is_name w) _ known in
      let takes = places.0 in (
        takes.at,
        is.0,
        word_passes s (rule_at s position) position w takes.at takes.one takes.passes,
        items_pass (next_position (rule_at s position) position) ps is.1 places.1 fair,
      )
  items_pass position (plain.given x v ∷ ps) known places fair =
      let is = both (is_among x options) _ known in
      let takes = each_among (TakesOption s) x options is.0 takes_options in
      let all : list_all (is_fair s x) (v ∷ values x ps) ≡ true = ap (λ b. list_all (is_fair s x) (cond b (v ∷ values x ps) (values x ps))) (sym (same_text x)) ∙ fair x is.0 in
      let value = both (is_name v) _ (both (is_fair s x v) _ all).0 in (
        takes.is,
        value.0,
        valued_passes s (rule_for s x) x (drop 2 x) v takes.is takes.one value.1,
        items_pass position ps is.1 places (λ option among. rest_fair (is_fair s option) (bytes_eq x option) v (values option ps) (fair option among)),
      )
  items_pass position (plain.flag x ∷ ps) known places fair =
      let is = both (is_among x flags) _ known in
      let takes = each_among (TakesFlag s) x flags is.0 takes_flags in (
        takes.is,
        refl,
        flag_passes s (rule_for s x) x (drop 2 x) (codes "true") takes.is takes.none takes.stands,
        items_pass position ps is.1 places fair,
      )

  pub pieces_read : IsPlainShape s → (words : List Text) (ps : List Piece) → IsCut options flags words ps → HavePlaces s 1 (names ps) → Each (AreFair s ps) options
      → is_once (given_at s ps) s.rules ≡ true → is_complete (given_at s ps) s.rules ≡ true → IsRead s words (given_at s ps)
  pieces_read shape words ps cut places fair once complete =
      subst (λ ws. IsRead s ws (given_at s ps)) (words_of-items_at s 1 ps ∙ cut.spelled)
      (items_read s shape (items_at s 1 ps) (items_pass 1 ps cut.known places (λ option among. each_among (AreFair s ps) option options among fair)) once complete)
