-- What one plain item of the words does, for any command.
use Rattle.std.proofs.Common.{◌≡◌, ◌∙◌, ℕ, Bool, true, false, List, [], ◌∷◌, Some, None, refl, sym, ap, ap₂, true≢false}
use Rattle.std.specs.Prelude.{◌==◌, ◌&&◌, if◌then◌else◌}
use Rattle.std.specs.Str.{bytes_eq}
use Rattle.clap.proofs.OnLiterals.{clap_on_literals}
use Rattle.clap.proofs.SimpleLemmas.{is_false}
use Rattle.clap.specs.Lexer.{long_of}
use Rattle.clap.specs.Walk.{Held, Row, Rule, Text, Walk, walked, arg_by_id, arg_by_index, arg_by_long, idle, option, positional, settled, settled_rows, used, pushed, is_multiple, takes_several, takes_values, most_values, next_position, to_positional, value}
use Rattle.clap.specs.Kinds.{or_else}
use Rattle.clap.specs.Faults.{turn_fault, settle_fault, use_fault, step_fault, walk_fault}
use Rattle.clap.specs.Simple.{Shape}
use Rattle.hpr_words.specs.Plain.{is_name}
use Rattle.hpr_words.proofs.RowLemmas.{same_text}

-- between two items: no option waits, no `--` and no subcommand came
abbrev pub at : Held → Bool → ℕ → Walk
at h many position = record { held = h; waiting = if many then positional else idle; position = position; is_trailing = false; stopped = None }

-- the rows when what is pending is used
abbrev pub rows_at : Shape → Held → List Row
rows_at s h = settled_rows s.rules h.pending h.rows

-- the argument takes the words at this place, one a use
pub record IsPositional (s : Shape) (position : ℕ) (a : Rule) : Type 0 where
  pub found : arg_by_index s.rules position ≡ Some a
  pub by_id : arg_by_id s.rules a.id ≡ Some a
  pub single : takes_several a ≡ false
  pub no_trailing : a.trailing_var_arg ≡ false

-- the word, behind its two dashes, is the name of an argument
pub record IsNamed (s : Shape) (word name : Text) (a : Rule) : Type 0 where
  pub reads : long_of word ≡ Some (name, None)
  pub no_dashes : bytes_eq word (45 ∷ 45 ∷ []) ≡ false
  pub found : arg_by_long s.rules name ≡ Some a
  pub by_id : arg_by_id s.rules a.id ≡ Some a

-- the words name an option that takes one value
pub record IsOption (s : Shape) (word name : Text) (a : Rule) : Type 0 where
  pub named : IsNamed s word name a
  pub takes : takes_values a ≡ true
  pub one : most_values a ≡ 1

word_at : (c : List Rule) (h : Held) (many : Bool) (position : ℕ) (word : Text) → is_name word ≡ true
    → walked c [] (at h many position) word ≡ to_positional c (arg_by_index c position) word (at h many position) h
unfolding clap_on_literals
word_at c h many position [] e = absurd (true≢false (sym e))
word_at c h true position (x ∷ xs) e = let no : (x == 45) ≡ false = is_false _ e in rw (no, no) refl
word_at c h false position (x ∷ xs) e = let no : (x == 45) ≡ false = is_false _ e in rw (no, no) refl

fault_at : (s : Shape) (h : Held) (many : Bool) (position : ℕ) (word : Text) → is_name word ≡ true
    → turn_fault s [] (at h many position) word ≡ step_fault s position h value
unfolding clap_on_literals
fault_at s h many position [] e = absurd (true≢false (sym e))
fault_at s h true position (x ∷ xs) e = let no : (x == 45) ≡ false = is_false _ e in rw (no, no) refl
fault_at s h false position (x ∷ xs) e = let no : (x == 45) ≡ false = is_false _ e in rw (no, no) refl

and_false : (b : Bool) → (b && false) ≡ false
and_false true = refl
and_false false = refl

-- one more word for a positional
abbrev pub held_with : Shape → Rule → Text → Held → Held
held_with s a word h = pushed a.id word (settled s.rules h)

module _ (s : Shape) (h : Held) (many : Bool) (position : ℕ) where
  pub walked-positional : (a : Rule) (word : Text) → IsPositional s position a → is_name word ≡ true
      → walked s.rules [] (at h many position) word ≡ at (held_with s a word h) (is_multiple a) (next_position a position)
  walked-positional a word is e =
      word_at s.rules h many position word e
      ∙ ap (λ o. to_positional s.rules o word (at h many position) h) is.found
      ∙ rw (is.single, and_false, is.no_trailing) refl

  pub turn_fault-positional : (a : Rule) (word : Text) → IsPositional s position a → is_name word ≡ true
      → settle_fault s.rules s.args_override_self h ≡ [] → turn_fault s [] (at h many position) word ≡ []
  turn_fault-positional a word is e quiet =
      fault_at s h many position word e ∙ rw (is.found, is.single, and_false) quiet

  pub rows-positional : (a : Rule) (word : Text) → IsPositional s position a
      → rows_at s (held_with s a word h) ≡ used a (word ∷ []) (rows_at s h)
  rows-positional a word is = rw (is.by_id) refl

  pub settle_fault-positional : (a : Rule) (word : Text) → IsPositional s position a
      → settle_fault s.rules s.args_override_self (held_with s a word h) ≡ use_fault s.args_override_self a (word ∷ []) (rows_at s h)
  settle_fault-positional a word is = rw (is.by_id) refl

-- an option's value is one more pending value
abbrev pub held_waiting : Shape → Rule → Held → Held
held_waiting s a h = record (settled s.rules h) { pending = Some (a.id, []) }

abbrev pub waiting_at : Rule → Held → ℕ → Walk
waiting_at a h position = record { held = h; waiting = option a.id; position = position; is_trailing = false; stopped = None }

module _ (s : Shape) (h : Held) (position : ℕ) where
  pub walked-option : (many : Bool) (word name : Text) (a : Rule) → IsOption s word name a
      → walked s.rules [] (at h many position) word ≡ waiting_at a (held_waiting s a h) position
  unfolding clap_on_literals
  walked-option true word name a is = rw (is.named.no_dashes, is.named.reads, is.named.found, is.takes) refl
  walked-option false word name a is = rw (is.named.no_dashes, is.named.reads, is.named.found, is.takes) refl

  pub turn_fault-option : (many : Bool) (word name : Text) (a : Rule) → IsOption s word name a
      → settle_fault s.rules s.args_override_self h ≡ [] → turn_fault s [] (at h many position) word ≡ []
  unfolding clap_on_literals
  turn_fault-option true word name a is quiet = rw (is.named.no_dashes, is.named.reads, is.named.found, is.takes) (ap (λ k. or_else k []) quiet)
  turn_fault-option false word name a is quiet = rw (is.named.no_dashes, is.named.reads, is.named.found, is.takes) (ap (λ k. or_else k []) quiet)

  pub walked-option_value : (word name v : Text) (a : Rule) → IsOption s word name a → is_name v ≡ true
      → walked s.rules [] (waiting_at a (held_waiting s a h) position) v ≡ at (held_with s a v h) false position
  unfolding clap_on_literals
  walked-option_value word name [] a is e = absurd (true≢false (sym e))
  walked-option_value word name (x ∷ xs) a is e =
      let no : (x == 45) ≡ false = is_false _ e in rw (no, no, is.named.by_id, same_text a.id, is.one) refl

  pub turn_fault-option_value : (v : Text) (a : Rule) → is_name v ≡ true
      → turn_fault s [] (waiting_at a (held_waiting s a h) position) v ≡ []
  unfolding clap_on_literals
  turn_fault-option_value [] a e = absurd (true≢false (sym e))
  turn_fault-option_value (x ∷ xs) a e = let no : (x == 45) ≡ false = is_false _ e in rw (no, no) refl

module _ (s : Shape) (h : Held) (a : Rule) (v word name : Text) (is : IsOption s word name a) where
  pub rows-option : rows_at s (held_with s a v h) ≡ used a (v ∷ []) (rows_at s h)
  rows-option = rw (is.named.by_id) refl

  pub settle_fault-option : settle_fault s.rules s.args_override_self (held_with s a v h) ≡ use_fault s.args_override_self a (v ∷ []) (rows_at s h)
  settle_fault-option = rw (is.named.by_id) refl

-- the word names a flag
pub record IsFlag (s : Shape) (word name : Text) (a : Rule) : Type 0 where
  pub named : IsNamed s word name a
  pub takes : takes_values a ≡ false

-- a flag is used at once
abbrev pub held_flag : Shape → Rule → Held → Held
held_flag s a h = record h { rows = used a [] (rows_at s h); pending = None }

module _ (s : Shape) (h : Held) (position : ℕ) where
  pub walked-flag : (many : Bool) (word name : Text) (a : Rule) → IsFlag s word name a
      → walked s.rules [] (at h many position) word ≡ at (held_flag s a h) false position
  unfolding clap_on_literals
  walked-flag true word name a is = rw (is.named.no_dashes, is.named.reads, is.named.found, is.takes) refl
  walked-flag false word name a is = rw (is.named.no_dashes, is.named.reads, is.named.found, is.takes) refl

  pub turn_fault-flag : (many : Bool) (word name : Text) (a : Rule) → IsFlag s word name a
      → settle_fault s.rules s.args_override_self h ≡ [] → use_fault s.args_override_self a [] (rows_at s h) ≡ []
      → turn_fault s [] (at h many position) word ≡ []
  unfolding clap_on_literals
  turn_fault-flag true word name a is quiet passes = rw (is.named.no_dashes, is.named.reads, is.named.found, is.takes) (ap₂ (λ j k. or_else (or_else j k) []) quiet passes)
  turn_fault-flag false word name a is quiet passes = rw (is.named.no_dashes, is.named.reads, is.named.found, is.takes) (ap₂ (λ j k. or_else (or_else j k) []) quiet passes)

pub walk_fault-next : (s : Shape) (w after : Walk) (word : Text) (rest : List Text) → turn_fault s [] w word ≡ [] → walked s.rules [] w word ≡ after
    → walk_fault s [] after rest ≡ [] → walk_fault s [] w (word ∷ rest) ≡ []
unfolding walk_fault
walk_fault-next s w after word rest turn step later = ap₂ or_else turn (ap (λ v. walk_fault s [] v rest) step ∙ later)
