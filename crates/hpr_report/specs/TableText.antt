-- The table of the final values of a base, two variants and the merged program.
--
-- names_in values              == the names that stand in the list
-- IsSingleValued values        == no name has two values in the list
-- Row                          == a name, and its value in each of the four lists
-- IsValueIn values x cell      == the cell is the value of the name x in the list, and empty where the list
--                                 lacks the name
-- IsColumn names values cells  == there is a cell for each of the names, and it is the name's value in the
--                                 list
-- IsRow base a b merged row    == each cell of the row is the value of the row's name in the cell's list
-- AreRows base a b merged rows == there is a row for each name that stands in a list, and the names ascend
-- cell_text cell               == a value, or `-` where there is none
-- table_line row               == the name and the four cells
-- IsTableText base a b merged text == the text is that of these rows, a line for each
-- IsKeptIn row                 == the last cell has the value of each variant that changed it, and the one
--                                 that all three agree on
use Rattle.std.specs.Prelude.{◌≡◌, ℕ, ◌↔◌, List, ◌++◌, Option, Some, None, All, Contains, map, length, slice_get, codes}
use Rattle.hpr_syntax.specs.declared.value.Value.{Value}
use Rattle.hpr_syntax.specs.Run.{FinalValues}
use Rattle.hpr_graph.specs.Order.{name_cmp}
use Rattle.hpr_graph.specs.InOrder.{Ascends}
use Rattle.hpr_report.specs.GraphTexts.{on_lines}
use Rattle.hpr_report.specs.Texts.{value_text}

abbrev pub names_in : FinalValues → List (List ℕ)
names_in values = map (λ e. e.0) values

abbrev pub IsSingleValued : FinalValues → Type 0
IsSingleValued values = (x : List ℕ) (v w : Value) → Contains values (x, v) → Contains values (x, w) → v ≡ w

pub record Row : Type 0 where
  pub name : List ℕ
  pub base : Option Value
  pub a : Option Value
  pub b : Option Value
  pub merged : Option Value

abbrev pub IsValueIn : FinalValues → List ℕ → Option Value → Type 0
IsValueIn values x cell = (v : Value) → (cell ≡ Some v) ↔ Contains values (x, v)

pub record IsColumn (names : List (List ℕ)) (values : FinalValues) (cells : List (Option Value)) : Type 0 where
  pub beside : length cells ≡ length names
  pub cell : (at : ℕ) (x : List ℕ) (c : Option Value) → slice_get names at ≡ Some x → slice_get cells at ≡ Some c → IsValueIn values x c

pub record IsRow (base a b merged : FinalValues) (row : Row) : Type 0 where
  pub of_base : IsValueIn base row.name row.base
  pub of_a : IsValueIn a row.name row.a
  pub of_b : IsValueIn b row.name row.b
  pub of_merged : IsValueIn merged row.name row.merged

abbrev pub names_of : List Row → List (List ℕ)
names_of rows = map (λ row. row.name) rows

pub record AreRows (base a b merged : FinalValues) (rows : List Row) : Type 0 where
  pub names : (x : List ℕ) → Contains (names_of rows) x ↔ Contains (names_in base ++ names_in a ++ names_in b ++ names_in merged) x
  pub ascending : Ascends name_cmp (names_of rows)
  pub cells : All (IsRow base a b merged) rows

abbrev pub cell_text : Option Value → List ℕ
cell_text None = codes "-"
cell_text (Some v) = value_text v

abbrev pub table_line : Row → List ℕ
table_line row =
    row.name ++ codes ": " ++ cell_text row.base ++ codes " " ++ cell_text row.a ++ codes " " ++ cell_text row.b ++ codes " " ++ cell_text row.merged

abbrev pub IsTableText : FinalValues → FinalValues → FinalValues → FinalValues → List ℕ → Type 0
IsTableText base a b merged text = (rows : List Row) × AreRows base a b merged rows × (text ≡ on_lines (map table_line rows))

pub record IsKeptIn (row : Row) : Type 0 where
  pub changed_by_a : (v : Value) → row.a ≡ Some v → ¬ (row.base ≡ Some v) → row.merged ≡ Some v
  pub changed_by_b : (v : Value) → row.b ≡ Some v → ¬ (row.base ≡ Some v) → row.merged ≡ Some v
  pub agreed : (v : Value) → row.base ≡ Some v → row.a ≡ Some v → row.b ≡ Some v → row.merged ≡ Some v
