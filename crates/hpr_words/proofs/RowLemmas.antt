-- What the rows hold of an argument, by its id.
use Rattle.std.proofs.Common.{◌≡◌, ◌∙◌, Bool, true, false, cond, List, [], ◌∷◌, ◌++◌, Option, Some, None, is_some, option_map, find, slice_get, unwrap_or, refl, sym, ap, append-nil, bytes_eq, true≢false, fold}
use Rattle.std.specs.Prelude.{◌||◌, if◌then◌else◌, option_and_then}
use Rattle.std.specs.Option.{option_map_or}
use Rattle.std.proofs.lemmas.Slice.Eq.{bytes_eq-Decides}
use Rattle.clap.specs.Facts.{explicit_source}
use Rattle.clap.specs.Takes.{is_given}
use Rattle.clap.specs.Walk.{Row, Rule, Text, all_of, default_rows, first_of, has_row, reading_by, stronger, with_default, with_values}
use Rattle.clap.specs.declared.builder.value_parser.Reading.{Reading}
use Rattle.clap.specs.declared.parser.matches.ValueSource.{ValueSource}
use Rattle.clap.specs.declared.parser.matches.ValueSource.TheVariants.{CommandLine, DefaultValue}

pub same_text : (id : Text) → bytes_eq id id ≡ true
same_text id = (bytes_eq-Decides id id).1 refl

pub is_same : (x y : Text) → bytes_eq x y ≡ true → x ≡ y
is_same x y = (bytes_eq-Decides x y).0

-- the row of an id
abbrev pub found : Text → List Row → Option Row
found id rows = find (λ r. bytes_eq r.id id) rows

abbrev pub Entry : Type 0
Entry = List Text × Option ValueSource

abbrev pub entry_of : Row → Entry
entry_of r = (r.values, r.source)

-- its values and where they come from
abbrev pub entry : Text → List Row → Option Entry
entry id rows = option_map entry_of (found id rows)

-- of an argument that the words give these values
abbrev pub told : List Text → Option Entry
told [] = None
told (v ∷ vs) = Some (v ∷ vs, Some CommandLine)

abbrev pub values_before : Option Entry → List Text
values_before None = []
values_before (Some e) = e.0

stronger-CommandLine : (o : Option ValueSource) → stronger o CommandLine ≡ CommandLine
stronger-CommandLine None = refl
stronger-CommandLine (Some CommandLine) = refl
stronger-CommandLine (Some DefaultValue) = refl

module _ (id : Text) (how : Reading) (vs : List Text) where
  entry-same : (rows : List Row) → entry id (with_values id how CommandLine vs rows) ≡ Some (values_before (entry id rows) ++ vs, Some CommandLine)
  entry-same [] = rw (same_text id) refl
  entry-same (r ∷ rows) = go (entry-same rows) (bytes_eq r.id id) refl
    where
      go : entry id (with_values id how CommandLine vs rows) ≡ Some (values_before (entry id rows) ++ vs, Some CommandLine) → (b : Bool) → bytes_eq r.id id ≡ b
          → entry id (with_values id how CommandLine vs (r ∷ rows)) ≡ Some (values_before (entry id (r ∷ rows)) ++ vs, Some CommandLine)
      go later true e = rw (e, e, stronger-CommandLine r.source) refl
      go later false e = rw (e, e) later

  entry-other : (source : ValueSource) (other : Text) → bytes_eq id other ≡ false → (rows : List Row) → entry other (with_values id how source vs rows) ≡ entry other rows
  entry-other source other miss [] = rw (miss) refl
  entry-other source other miss (r ∷ rows) = go (entry-other source other miss rows) (bytes_eq r.id id) refl (bytes_eq r.id other) refl
    where
      go : entry other (with_values id how source vs rows) ≡ entry other rows → (b : Bool) → bytes_eq r.id id ≡ b → (d : Bool) → bytes_eq r.id other ≡ d
          → entry other (with_values id how source vs (r ∷ rows)) ≡ entry other (r ∷ rows)
      go later true e d f =
          let skips : bytes_eq r.id other ≡ false = ap (λ x. bytes_eq x other) (is_same r.id id e) ∙ miss in
          rw (e, skips) refl
      go later false e true f = rw (e, f) refl
      go later false e false f = rw (e, f) later

  entry-new : (source : ValueSource) (rows : List Row) → has_row id rows ≡ false → entry id (with_values id how source vs rows) ≡ Some (vs, Some source)
  entry-new source [] none = rw (same_text id) refl
  entry-new source (r ∷ rows) none = go (entry-new source rows) (bytes_eq r.id id) refl none
    where
      go : (has_row id rows ≡ false → entry id (with_values id how source vs rows) ≡ Some (vs, Some source)) → (b : Bool) → bytes_eq r.id id ≡ b → (b || has_row id rows) ≡ false
          → entry id (with_values id how source vs (r ∷ rows)) ≡ Some (vs, Some source)
      go later true e f = absurd (true≢false f)
      go later false e f = rw (e, e) (later f)

-- what a use of `a` adds for `id`
abbrev pub added : Text → Text → List Text → List Text
added a id vs = if bytes_eq a id then vs else []

pub entry-with_values : (a id : Text) (how : Reading) (v : Text) (vs xs : List Text) (rows : List Row) → entry id rows ≡ told xs
    → entry id (with_values a how CommandLine (v ∷ vs) rows) ≡ told (xs ++ added a id (v ∷ vs))
entry-with_values a id how v vs xs rows before = go (bytes_eq a id) refl
  where
    joined : (ys : List Text) → Some (values_before (told ys) ++ v ∷ vs, Some CommandLine) ≡ told (ys ++ v ∷ vs)
    joined [] = refl
    joined (y ∷ ys) = refl

    go : (b : Bool) → bytes_eq a id ≡ b → entry id (with_values a how CommandLine (v ∷ vs) rows) ≡ told (xs ++ cond b (v ∷ vs) [])
    go true e =
        ap (λ x. entry x (with_values a how CommandLine (v ∷ vs) rows)) (sym (is_same a id e))
        ∙ (entry-same a how (v ∷ vs) rows
        ∙ (ap (λ x. Some (values_before (entry x rows) ++ v ∷ vs, Some CommandLine)) (is_same a id e)
        ∙ (ap (λ o. Some (values_before o ++ v ∷ vs, Some CommandLine)) before ∙ joined xs)))
    go false e = entry-other a how (v ∷ vs) CommandLine id e rows ∙ (before ∙ ap told (sym (append-nil xs)))

-- the default values stand where nothing else does
abbrev pub kept : Option Entry → List Text → Option Entry
kept (Some e) defaults = Some e
kept None [] = None
kept None (d ∷ ds) = Some (d ∷ ds, Some DefaultValue)

pub kept-none : (o : Option Entry) → kept o [] ≡ o
kept-none None = refl
kept-none (Some e) = refl

pub entry-told : (id : Text) (rows : List Row) (vs ds : List Text) → ds ≡ [] → entry id rows ≡ kept (told vs) ds → entry id rows ≡ told vs
entry-told id rows vs ds none e = e ∙ (ap (kept (told vs)) none ∙ kept-none (told vs))

abbrev pub first_list : List Text → List Text → List Text
first_list [] ys = ys
first_list (x ∷ xs) ys = x ∷ xs

pub first_list-none : (xs : List Text) → first_list xs [] ≡ xs
first_list-none [] = refl
first_list-none (x ∷ xs) = refl

kept-kept : (o : Option Entry) (xs ys : List Text) → kept (kept o xs) ys ≡ kept o (first_list xs ys)
kept-kept (Some e) xs ys = refl
kept-kept None [] ys = refl
kept-kept None (x ∷ xs) ys = refl

has_row-found : (id : Text) (rows : List Row) → has_row id rows ≡ is_some (entry id rows)
has_row-found id [] = refl
has_row-found id (r ∷ rows) = go (bytes_eq r.id id) (has_row-found id rows)
  where
    go : (b : Bool) → has_row id rows ≡ is_some (entry id rows) → (b || has_row id rows) ≡ is_some (option_map entry_of (cond b (Some r) (found id rows)))
    go true e = refl
    go false e = e

-- an argument that miss word gave a value has miss row
pub has_row-none : (id : Text) (rows : List Row) → entry id rows ≡ None → has_row id rows ≡ false
has_row-none id rows e = has_row-found id rows ∙ ap is_some e

some_entry : (id : Text) (rows : List Row) → has_row id rows ≡ true → (ds : List Text) → entry id rows ≡ kept (entry id rows) ds
some_entry id rows has ds = go (entry id rows) (sym (has_row-found id rows) ∙ has)
  where
    go : (o : Option Entry) → is_some o ≡ true → o ≡ kept o ds
    go None e = absurd (true≢false (sym e))
    go (Some x) e = refl

no_entry : (id : Text) (rows : List Row) → has_row id rows ≡ false → entry id rows ≡ None
no_entry id rows none = go (entry id rows) (sym (has_row-found id rows) ∙ none)
  where
    go : (o : Option Entry) → is_some o ≡ false → o ≡ None
    go None e = refl
    go (Some x) e = absurd (true≢false e)

module _ (a id : Text) (how : Reading) (rows : List Row) where
  entry-defaults : (ds : List Text) (b : Bool) → has_row a rows ≡ b → (c : Bool) → bytes_eq a id ≡ c
      → entry id (cond b rows (default_rows a how ds rows)) ≡ kept (entry id rows) (cond c ds [])
  entry-defaults ds true has true same = some_entry id rows (ap (λ x. has_row x rows) (sym (is_same a id same)) ∙ has) ds
  entry-defaults ds true has false other = sym (kept-none (entry id rows))
  entry-defaults [] false none true same = sym (kept-none (entry id rows))
  entry-defaults [] false none false other = sym (kept-none (entry id rows))
  entry-defaults (d ∷ ds) false none true same =
      ap (λ x. entry x (with_values a how DefaultValue (d ∷ ds) rows)) (sym (is_same a id same))
      ∙ (entry-new a how (d ∷ ds) DefaultValue rows none
      ∙ ap (λ o. kept o (d ∷ ds)) (sym (no_entry id rows (ap (λ x. has_row x rows) (sym (is_same a id same)) ∙ none))))
  entry-defaults (d ∷ ds) false none false other = entry-other a how (d ∷ ds) DefaultValue id other rows ∙ sym (kept-none (entry id rows))

-- the default values of an id
abbrev pub defaults_of : Text → List Rule → List Text
defaults_of id [] = []
defaults_of id (a ∷ rules) = first_list (added a.id id a.defaults) (defaults_of id rules)

pub entry-with_default : (id : Text) (rules : List Rule) (rows : List Row) → entry id (fold with_default rows rules) ≡ kept (entry id rows) (defaults_of id rules)
entry-with_default id [] rows = sym (kept-none (entry id rows))
entry-with_default id (a ∷ rules) rows =
    entry-with_default id rules (with_default rows a)
    ∙ (ap (λ o. kept o (defaults_of id rules)) (entry-defaults a.id id (reading_by a) rows a.defaults (has_row a.id rows) refl (bytes_eq a.id id) refl)
    ∙ kept-kept (entry id rows) (added a.id id a.defaults) (defaults_of id rules))

-- what is asked of rows, by their entries
module _ (id : Text) (rows : List Row) (vs : List Text) where
  pub first_of-entry : (defaults : List Text) → entry id rows ≡ kept (told vs) defaults → first_of id rows ≡ slice_get (first_list vs defaults) 0
  first_of-entry defaults e = by_entry (found id rows) ∙ (ap (option_and_then (λ (x : Entry). slice_get x.0 0)) e ∙ of_told vs defaults)
    where
      by_entry : (o : Option Row) → option_and_then (λ (r : Row). slice_get r.values 0) o ≡ option_and_then (λ (x : Entry). slice_get x.0 0) (option_map entry_of o)
      by_entry None = refl
      by_entry (Some r) = refl

      of_told : (ws ds : List Text) → option_and_then (λ (x : Entry). slice_get x.0 0) (kept (told ws) ds) ≡ slice_get (first_list ws ds) 0
      of_told [] [] = refl
      of_told [] (d ∷ ds) = refl
      of_told (w ∷ ws) ds = refl

  pub all_of-entry : entry id rows ≡ told vs → unwrap_or (all_of id rows) [] ≡ vs
  all_of-entry e = by_entry (found id rows) ∙ (ap values_before e ∙ of_told vs)
    where
      by_entry : (o : Option Row) → unwrap_or (option_map (λ (r : Row). r.values) o) [] ≡ values_before (option_map entry_of o)
      by_entry None = refl
      by_entry (Some r) = refl

      of_told : (ws : List Text) → values_before (told ws) ≡ ws
      of_told [] = refl
      of_told (w ∷ ws) = refl

  pub is_given-entry : (defaults : List Text) → entry id rows ≡ kept (told vs) defaults → is_some (slice_get vs 0) ≡ true → is_given id rows ≡ true
  is_given-entry defaults e some = by_entry (found id rows) ∙ (ap (λ o. option_map_or (λ (x : Entry). explicit_source x.1) o false) e ∙ of_told vs some)
    where
      by_entry : (o : Option Row) → option_map_or (λ (r : Row). explicit_source r.source) o false ≡ option_map_or (λ (x : Entry). explicit_source x.1) (option_map entry_of o) false
      by_entry None = refl
      by_entry (Some r) = refl

      of_told : (ws : List Text) → is_some (slice_get ws 0) ≡ true → option_map_or (λ (x : Entry). explicit_source x.1) (kept (told ws) defaults) false ≡ true
      of_told [] no_value = absurd (true≢false (sym no_value))
      of_told (w ∷ ws) value = refl
