-- Plain items are taken, by induction over them.
use Rattle.std.proofs.Common.{◌≡◌, ◌∙◌, ℕ, Bool, true, false, List, [], ◌∷◌, is_some, refl, ap, ap₂}
use Rattle.std.specs.List.{fold}
use Rattle.clap.specs.Walk.{Held, Row, Text, Walk, nothing_held, rows_after, walk, walked, with_default, is_multiple, next_position, used}
use Rattle.clap.specs.Kinds.{or_else}
use Rattle.clap.specs.Faults.{built_fault, check_fault, defaults_fault, entered_fault, turn_fault, walk_fault, settle_fault, use_fault}
use Rattle.clap.specs.Simple.{Shape, entered}
use Rattle.hpr_words.proofs.Items.{Item, word, valued, flag, words_of, rows_from, item_rule, item_values, is_plain, place_after}
use Rattle.hpr_words.proofs.StepLemmas.{walk_fault-next, IsPositional, IsOption, at, rows_at, held_with, held_waiting, waiting_at, walked-positional, turn_fault-positional, rows-positional, settle_fault-positional, walked-option, walked-option_value, turn_fault-option, turn_fault-option_value, rows-option, settle_fault-option, IsFlag, held_flag, walked-flag, turn_fault-flag}

-- the item is one of the command's at this place
abbrev pub Fits : Shape → ℕ → Item → Type 0
Fits s position (word a text) = IsPositional s position a
Fits s position (valued a dashed name text) = IsOption s dashed name a
Fits s position (flag a dashed name) = IsFlag s dashed name a

-- each item is one of the command's, is plain, and passes after those before it
abbrev pub AreTaken : Shape → List Row → ℕ → List Item → Type 0
AreTaken s rows position [] = Unit {0}
AreTaken s rows position (item ∷ items) =
    Fits s position item × (is_plain item ≡ true) × (use_fault s.args_override_self (item_rule item) (item_values item) rows ≡ [])
    × AreTaken s (used (item_rule item) (item_values item) rows) (place_after item position) items

abbrev walk_on : Shape → Walk → List Text → Walk
walk_on s w words = fold (walked s.rules []) w words

-- where the walk ends: nothing failed, nothing is left to fail, and the rows are those of the items
pub record Ends (s : Shape) (rows : List Row) (w : Walk) (words : List Text) : Type 0 where
  pub held : Held
  pub many : Bool
  pub position : ℕ
  pub last : walk_on s w words ≡ at held many position
  pub passes : walk_fault s [] w words ≡ []
  pub quiet : settle_fault s.rules s.args_override_self held ≡ []
  pub rows_are : rows_at s held ≡ rows

step_on : (s : Shape) (rows : List Row) (w after : Walk) (text : Text) (rest : List Text) → turn_fault s [] w text ≡ [] → walked s.rules [] w text ≡ after
    → Ends s rows after rest → Ends s rows w (text ∷ rest)
step_on s rows w after text rest turn step e = record {
  held = e.held;
  many = e.many;
  position = e.position;
  last = ap (λ v. walk_on s v rest) step ∙ e.last;
  passes = walk_fault-next s w after text rest turn step e.passes;
  quiet = e.quiet;
  rows_are = e.rows_are;
}

pub items_end : (s : Shape) (h : Held) (many : Bool) (position : ℕ) (rows : List Row) (items : List Item)
    → rows_at s h ≡ rows → settle_fault s.rules s.args_override_self h ≡ [] → AreTaken s rows position items
    → Ends s (rows_from rows items) (at h many position) (words_of items)
unfolding walk_fault
items_end s h many position rows [] same quiet taken =
    record { held = h; many = many; position = position; last = refl; passes = refl; quiet = quiet; rows_are = same }
items_end s h many position rows (word a text ∷ items) same quiet taken =
    let fits = taken.0 in
    let passes : settle_fault s.rules s.args_override_self (held_with s a text h) ≡ [] =
    settle_fault-positional s h many position a text fits ∙ (ap (λ r. use_fault s.args_override_self a (text ∷ []) r) same ∙ taken.2) in
    step_on s _ (at h many position) (at (held_with s a text h) (is_multiple a) (next_position a position)) text (words_of items)
    (turn_fault-positional s h many position a text fits taken.1 quiet) (walked-positional s h many position a text fits taken.1)
    (items_end s (held_with s a text h) (is_multiple a) (next_position a position) (used a (text ∷ []) rows) items
    (rows-positional s h many position a text fits ∙ ap (used a (text ∷ [])) same) passes taken.3)
items_end s h many position rows (valued a dashed name text ∷ items) same quiet taken =
    let fits = taken.0 in
    let passes : settle_fault s.rules s.args_override_self (held_with s a text h) ≡ [] =
    settle_fault-option s h a text dashed name fits ∙ (ap (λ r. use_fault s.args_override_self a (text ∷ []) r) same ∙ taken.2) in
    step_on s _ (at h many position) (waiting_at a (held_waiting s a h) position) dashed (text ∷ words_of items)
    (turn_fault-option s h position many dashed name a fits quiet) (walked-option s h position many dashed name a fits)
    (step_on s _ (waiting_at a (held_waiting s a h) position) (at (held_with s a text h) false position) text (words_of items)
    (turn_fault-option_value s h position text a taken.1) (walked-option_value s h position dashed name text a fits taken.1)
    (items_end s (held_with s a text h) false position (used a (text ∷ []) rows) items
    (rows-option s h a text dashed name fits ∙ ap (used a (text ∷ [])) same) passes taken.3))
items_end s h many position rows (flag a dashed name ∷ items) same quiet taken =
    let fits = taken.0 in
    let passes : use_fault s.args_override_self a [] (rows_at s h) ≡ [] = ap (λ r. use_fault s.args_override_self a [] r) same ∙ taken.2 in
    step_on s _ (at h many position) (at (held_flag s a h) false position) dashed (words_of items)
    (turn_fault-flag s h position many dashed name a fits quiet passes) (walked-flag s h position many dashed name a fits)
    (items_end s (held_flag s a h) false position (used a [] rows) items (ap (used a []) same) refl taken.3)

-- so the whole command takes the words, where what stands after the walk passes
pub items_taken : (s : Shape) (items : List Item) → AreTaken s [] 1 items → defaults_fault (rows_from [] items) s.rules ≡ []
    → check_fault s (fold with_default (rows_from [] items) s.rules) false ≡ []
    → (built_fault (record { top = s; subs = [] }) nothing_held (words_of items) ≡ [])
    × (rows_after s.rules [] (words_of items) ≡ fold with_default (rows_from [] items) s.rules)
items_taken s items taken defaults check =
    let e = items_end s nothing_held false 1 [] items refl refl taken in
    let held_is : (walk s.rules [] nothing_held (words_of items)).held ≡ e.held = ap (λ (w : Walk). w.held) e.last in
    let rest = λ (w : Walk). or_else (entered_fault (record { top = s; subs = [] }) w.stopped) (or_else (settle_fault s.rules s.args_override_self w.held)
    (or_else (defaults_fault (rows_at s w.held) s.rules) (check_fault s (fold with_default (rows_at s w.held) s.rules) (is_some (entered (record { top = s; subs = [] }) w.stopped))))) in
    let rest_is : rest (at e.held e.many e.position) ≡ [] =
    ap₂ or_else e.quiet (ap₂ or_else (ap (λ r. defaults_fault r s.rules) e.rows_are ∙ defaults) (ap (λ r. check_fault s (fold with_default r s.rules) false) e.rows_are ∙ check)) in
    (ap₂ or_else e.passes (ap rest e.last ∙ rest_is), ap (λ (h : Held). fold with_default (rows_at s h) s.rules) held_is ∙ ap (λ r. fold with_default r s.rules) e.rows_are)
