-- What a command without subcommands makes of plain words.
use Rattle.std.proofs.Common.{◌≡◌, ◌∙◌, ℕ, zero, suc, Bool, true, false, cond, List, [], ◌∷◌, Option, Some, None, length, slice_get, refl, sym, ap, subst, bytes_eq, codes}
use Rattle.std.specs.Option.{option_map_or}
use Rattle.std.specs.Prelude.{nat_le, option_and_then}
use Rattle.clap.specs.Faults.{built_fault}
use Rattle.clap.specs.Simple.{built}
use Rattle.clap.specs.Walk.{Row, Text, is_empty, nothing_held, rows_after}
use Rattle.clap.specs.Words.{App, fault_of, first_of, matches_of}
use Rattle.hpr_words.specs.Plain.{Piece, is_used, names, pieces, uses, values}
use Rattle.hpr_words.specs.Request.{Request}
use Rattle.hpr_words.specs.Taken.{flag_in, list_in}
use Rattle.hpr_words.proofs.PieceLemmas.{AreFair, Each, HavePlaces, IsApart, IsCut, IsOf, TakesFlag, TakesOption, given-flag, given-name, given-option, given_at, given_names, none_some, pieces_cut, pieces_read, trues}
use Rattle.hpr_words.proofs.RowLemmas.{all_of-entry, defaults_of, entry, entry-told, first_list, first_list-none, first_of-entry, kept, told}
use Rattle.hpr_words.proofs.UseLemmas.{IsPlainShape, IsRead, is_complete, is_once}

-- the command has these options and flags, and its words are those behind its name
pub record IsCommand (app : App) (options flags : List Text) : Type 0 where
  pub faults : (command : Text) (words : List Text) → fault_of app (command ∷ words) ≡ built_fault (record { top = (built app).top; subs = [] }) nothing_held words
  pub rows : (command : Text) (words : List Text) → matches_of app (command ∷ words) ≡ rows_after (built app).top.rules [] words
  pub shape : IsPlainShape (built app).top
  pub takes_options : Each (TakesOption (built app).top) options
  pub takes_flags : Each (TakesFlag (built app).top) flags

-- what the pieces of the words give an argument, by its id
module _ {app : App} {options flags : List Text} (is : IsCommand app options flags) {words : List Text} {ps : List Piece} (cut : IsCut options flags words ps) {ns : List Text} (named : names ps ≡ ns) where
  pub given_name : (id : Text) → Each (IsApart (built app).top id) options → Each (IsApart (built app).top id) flags → given_at (built app).top ps id ≡ given_names (built app).top id 1 ns
  given_name id o f = given-name (built app).top options flags id o f 1 ps cut.known ∙ ap (given_names (built app).top id 1) named

  pub given_option : (option id : Text) → Each (IsOf (built app).top id option) options → Each (IsApart (built app).top id) flags → given_names (built app).top id 1 ns ≡ []
      → given_at (built app).top ps id ≡ values option ps
  given_option option id o f none = given-option (built app).top options flags id option o f 1 ps cut.known (ap (given_names (built app).top id 1) named ∙ none)

  pub given_flag : (named_flag id : Text) → Each (IsApart (built app).top id) options → Each (IsOf (built app).top id named_flag) flags → given_names (built app).top id 1 ns ≡ []
      → given_at (built app).top ps id ≡ trues (uses named_flag ps)
  given_flag named_flag id o f none = given-flag (built app).top options flags id named_flag o f is.takes_flags 1 ps cut.known (ap (given_names (built app).top id 1) named ∙ none)

  pub is_read : HavePlaces (built app).top 1 ns → Each (AreFair (built app).top ps) options → is_once (given_at (built app).top ps) (built app).top.rules ≡ true
      → is_complete (given_at (built app).top ps) (built app).top.rules ≡ true → IsRead (built app).top words (given_at (built app).top ps)
  is_read places fair once complete =
      pieces_read (built app).top options flags is.takes_options is.takes_flags is.shape words ps cut (subst (HavePlaces (built app).top 1) (sym named) places) fair once complete

-- what a flag is where the words give it these values: by default it is `false`
abbrev pub is_flagged : List Text → Bool
is_flagged vs = option_map_or (λ text. bytes_eq text (codes "true")) (slice_get (first_list vs (codes "false" ∷ [])) 0) false

-- a flag that stands there n times
pub once_flagged : (n : ℕ) (is : Bool) → is_used n ≡ Some is → nat_le (length (trues n)) 1 ≡ true
once_flagged zero is e = refl
once_flagged (suc zero) is e = refl
once_flagged (suc (suc n)) is e = absurd (none_some is e)

pub is_flagged-trues : (n : ℕ) (is : Bool) → is_used n ≡ Some is → is_flagged (trues n) ≡ is
is_flagged-trues zero is e = ap (λ o. option_map_or (λ b. b) o false) e
is_flagged-trues (suc zero) is e = ap (λ o. option_map_or (λ b. b) o false) e
is_flagged-trues (suc (suc n)) is e = absurd (none_some is e)

-- what the command takes
module _ {app : App} {options flags : List Text} (is : IsCommand app options flags) (command : Text) {words : List Text} {g : Text → List Text} (read : IsRead (built app).top words g) where
  entry_is : (id : Text) → entry id (matches_of app (command ∷ words)) ≡ kept (told (g id)) (defaults_of id (built app).top.rules)
  entry_is id = ap (entry id) (is.rows command words) ∙ read.entries id

  pub first_is : (id : Text) (vs : List Text) → defaults_of id (built app).top.rules ≡ [] → g id ≡ vs → first_of id (matches_of app (command ∷ words)) ≡ slice_get vs 0
  first_is id vs none e =
      first_of-entry id (matches_of app (command ∷ words)) (g id) (defaults_of id (built app).top.rules) (entry_is id)
      ∙ (ap (λ ds. slice_get (first_list (g id) ds) 0) none ∙ (ap (λ ws. slice_get ws 0) (first_list-none (g id)) ∙ ap (λ ws. slice_get ws 0) e))

  pub list_is : (id : Text) (vs : List Text) → defaults_of id (built app).top.rules ≡ [] → g id ≡ vs → list_in id (matches_of app (command ∷ words)) ≡ vs
  list_is id vs none e =
      all_of-entry id (matches_of app (command ∷ words)) (g id) (entry-told id (matches_of app (command ∷ words)) (g id) (defaults_of id (built app).top.rules) none (entry_is id)) ∙ e

  pub flag_is : (id : Text) (vs : List Text) → defaults_of id (built app).top.rules ≡ codes "false" ∷ [] → g id ≡ vs → flag_in id (matches_of app (command ∷ words)) ≡ is_flagged vs
  flag_is id vs default e =
      ap (λ o. option_map_or (λ text. bytes_eq text (codes "true")) o false)
      (first_of-entry id (matches_of app (command ∷ words)) (g id) (defaults_of id (built app).top.rules) (entry_is id) ∙ (λ i. slice_get (first_list (e i) (default i)) 0))

  pub taken_is : (request_in : List Row → Option Request) → cond (is_empty (fault_of app (command ∷ words))) (request_in (matches_of app (command ∷ words))) None ≡ request_in (matches_of app (command ∷ words))
  taken_is request_in = ap (λ k. cond (is_empty k) (request_in (matches_of app (command ∷ words))) None) (is.faults command words ∙ read.quiet)

-- what is asked for under a condition is asked for, and the condition holds
pub if_so : {X : Type 0} (b : Bool) (o : Option X) (x : X) → cond b o None ≡ Some x → (b ≡ true) × (o ≡ Some x)
if_so true o x e = (refl, e)
if_so false o x e = absurd (none_some x e)

-- a request of plain words is one of their pieces
pub by_pieces : (options flags words : List Text) (asked : List Piece → Option Request) (answer : Option Request) (r : Request)
    → ((ps : List Piece) → IsCut options flags words ps → asked ps ≡ Some r → answer ≡ Some r) → option_and_then asked (pieces options flags words) ≡ Some r → answer ≡ Some r
by_pieces options flags words asked answer r each e = go (pieces options flags words) refl e
  where
    go : (o : Option (List Piece)) → pieces options flags words ≡ o → option_and_then asked o ≡ Some r → answer ≡ Some r
    go None cut f = absurd (none_some r f)
    go (Some ps) cut f = each ps (pieces_cut options flags words ps cut) f
