-- Plain words as items: what each of them is to the command.
use Rattle.std.specs.Prelude.{ℕ, Bool, true, List, [], ◌∷◌}
use Rattle.clap.specs.Walk.{Row, Rule, Text, next_position, used, values_or_missing}
use Rattle.hpr_words.specs.Plain.{is_name}

pub data Item : Type 0 where
  -- a word for the positional whose turn it is
  word : Rule → Text → Item
  -- an option's word, its name, and its value
  valued : Rule → Text → Text → Text → Item
  -- a flag's word, and its name
  flag : Rule → Text → Text → Item

abbrev pub words_of : List Item → List Text
words_of [] = []
words_of (word a text ∷ items) = text ∷ words_of items
words_of (valued a dashed name text ∷ items) = dashed ∷ text ∷ words_of items
words_of (flag a dashed name ∷ items) = dashed ∷ words_of items

-- the values of the item's use
abbrev pub item_values : Item → List Text
item_values (word a text) = text ∷ []
item_values (valued a dashed name text) = text ∷ []
item_values (flag a dashed name) = []

abbrev pub item_rule : Item → Rule
item_rule (word a text) = a
item_rule (valued a dashed name text) = a
item_rule (flag a dashed name) = a

-- the values that the item's use leaves
abbrev pub item_put : Item → List Text
item_put item = values_or_missing (item_rule item) (item_values item)

-- the item's value is no option
abbrev pub is_plain : Item → Bool
is_plain (word a text) = is_name text
is_plain (valued a dashed name text) = is_name text
is_plain (flag a dashed name) = true

abbrev pub rows_from : List Row → List Item → List Row
rows_from rows [] = rows
rows_from rows (item ∷ items) = rows_from (used (item_rule item) (item_values item) rows) items

abbrev pub place_after : Item → ℕ → ℕ
place_after (word a text) position = next_position a position
place_after (valued a dashed name text) position = position
place_after (flag a dashed name) position = position
