-- The rows of a table, and the value of a name in a list.
use Rattle.std.proofs.Common.{◌≡◌, ℕ, zero, suc, ◌+◌, ◌<◌, ◌↔◌, ◌⊎◌, inl, inr, Option, Some, None, IfSome, IfNone, List, [], ◌∷◌, ◌++◌, codes, length, map, set, take, drop, replicate, get_or, slice_get, All, Contains, refl, sym, ap, ap₂, ◌∙◌, subst, arith}
use Rattle.std.proofs.lemmas.Bool.{cases_eq}
use Rattle.std.proofs.lemmas.Option.{slice_get_within, slice_get-get_or, get_or_from_slice_get}
use Rattle.std.proofs.lemmas.List.{take_more, map-append, append-nil, length-set, length-map, length-replicate, get_or-replicate, take-append-drop}
use Rattle.std.proofs.lemmas.List.Elements.{All-nil, All-append, All-from_recursion, Contains-append_left}
use Rattle.std.proofs.lemmas.Grind.{flat_map-append}
use Rattle.hpr_syntax.specs.Run.{FinalValues}
use Rattle.hpr_graph.specs.Order.{name_cmp}
use Rattle.hpr_graph.specs.InOrder.{Ascends}
use Rattle.hpr_terms.proofs.Facts.{get_in_map}
use Rattle.hpr_graph.proofs.Lists.{some_inj, in_taken, contains_at, get_set_same, get_set_other}
use Rattle.hpr_graph.proofs.NameOrder.{never_both}
use Rattle.hpr_graph.proofs.PutInOrder.{once_ascending}
use Rattle.hpr_report.specs.GraphTexts.{on_lines}
use Rattle.hpr_report.specs.TableText.{names_in, IsSingleValued, IsColumn, Row, IsValueIn, IsRow, names_of, table_line, IsTableText}
use Rattle.hpr_syntax.specs.declared.value.Value.{Value}

-- what stands among the first stands in the list
in_whole : (n : ℕ) (values : FinalValues) (e : List ℕ × Value) → Contains (take n values) e → Contains values e
in_whole n values e h = subst (λ vs. Contains vs e) (take-append-drop n values) (Contains-append_left (take n values) (drop n values) e h)

-- cells beside names, for the first values of a list
module _ (names : List (List ℕ)) (up : Ascends name_cmp names) (values : FinalValues) (single : IsSingleValued values) where
  abbrev pub Beside : ℕ → List (Option Value) → Type 0
  Beside i cells = IsColumn names (take i values) cells

  module _ (i : ℕ) (p : List ℕ × Value) (within : i < length values) (here : p ≡ get_or values i p) where
    more : (e : List ℕ × Value) → Contains (take (i + 1) values) e ↔ (Contains (take i values) e ⊎ (p ≡ e))
    more e = subst (λ (q : List ℕ × Value). Contains (take (i + 1) values) e ↔ (Contains (take i values) e ⊎ (q ≡ e))) (sym here) (in_taken values i p e within)

    there : Contains values p
    there = (i, within, sym here)

    -- the name that the next value is of
    value_here : IsValueIn (take (i + 1) values) p.0 (Some p.1)
    value_here w = (
      λ e. (more (p.0, w)).1 (inr (ap (λ (u : Value). (p.0, u)) (some_inj p.1 w e))),
      λ h. ap (λ (u : Value). Some u) (single p.0 p.1 w there (in_whole (i + 1) values (p.0, w) h)),
    )

    -- another name
    value_before : (y : List ℕ) (c : Option Value) → ¬ (p.0 ≡ y) → IsValueIn (take i values) y c → IsValueIn (take (i + 1) values) y c
    value_before y c other before w = (
      λ e. (more (y, w)).1 (inl ((before w).0 e)),
      λ h. elim ((more (y, w)).0 h) [ inl earlier ↦ (before w).1 earlier | inr same ↦ absurd (other (ap (λ (q : List ℕ × Value). q.0) same)) ],
    )

    module _ (cells : List (Option Value)) (before : Beside i cells) where
      pub none_beside : ¬ Contains names p.0 → Beside (i + 1) cells
      none_beside stranger = record {
        beside = before.beside;
        cell = λ at y c named is. value_before y c (λ e. stranger (contains_at names at p.0 (named ∙ ap Some (sym e)))) (before.cell at y c named is);
      }

      pub one_beside : (at : ℕ) → slice_get names at ≡ Some p.0 → Beside (i + 1) (set cells at (Some p.1))
      one_beside at found = record {
        beside = length-set cells at (Some p.1) ∙ before.beside;
        cell = λ k y c named is. elim (cases_eq k at) [
          | inl e ↦ (
              let same : p.0 ≡ y = some_inj p.0 y (sym found ∙ ap (slice_get names) (sym e) ∙ named) in
              let told : Some p.1 ≡ c = some_inj (Some p.1) c (sym (get_set_same cells at (Some p.1) (subst (λ n. at < n) (sym before.beside) (slice_get_within names at p.0 found))) ∙ ap (slice_get (set cells at (Some p.1))) (sym e) ∙ is) in
              subst (λ z. IsValueIn (take (i + 1) values) z c) same (subst (IsValueIn (take (i + 1) values) p.0) told value_here))
          | inr ne ↦ value_before y c (λ e. ne (once k y named at (found ∙ ap Some e))) (before.cell k y c named (sym (get_set_other cells at k (Some p.1) ne) ∙ is))
        ];
      }
        where
          once : (k : ℕ) (y : List ℕ) → slice_get names k ≡ Some y → (j : ℕ) → slice_get names j ≡ Some y → k ≡ j
          once k y a j b = once_ascending name_cmp never_both names up k j y a b

-- the next value goes into the cell of its name, if that is one of the names
pub next_beside : (names : List (List ℕ)) → Ascends name_cmp names → (values : FinalValues) → IsSingleValued values → (i : ℕ) (p : List ℕ × Value) → i < length values → p ≡ get_or values i p
    → (place : Option ℕ) (old new : List (Option Value)) → IfSome place (λ at. slice_get names at ≡ Some p.0) → IfNone place (¬ Contains names p.0)
    → IfSome place (λ at. new ≡ set old at (Some p.1)) → IfNone place (new ≡ old) → IsColumn names (take i values) old → IsColumn names (take (i + 1) values) new
next_beside names up values single i p within here (Some at) old new found stranger filled same before =
    subst (IsColumn names (take (i + 1) values)) (sym filled) (one_beside names up values single i p within here old before at found)
next_beside names up values single i p within here None old new found stranger filled same before =
    subst (IsColumn names (take (i + 1) values)) (sym same) (none_beside names up values single i p within here old before stranger)

pub places_within : (names : List (List ℕ)) (x : List ℕ) (n : ℕ) (place : Option ℕ) → n ≡ length names → IfSome place (λ at. slice_get names at ≡ Some x) → IfSome place (λ at. at < n)
places_within names x n (Some at) e found = subst (λ k. at < k) (sym e) (slice_get_within names at x found)
places_within names x n None e found = tt

-- beside no value of a list stands any
beside_none : (names : List (List ℕ)) (cells : List (Option Value)) → cells ≡ replicate (length names) None → IsColumn names [] cells
beside_none names cells are = record {
  beside = ap (λ (cs : List (Option Value)). length cs) are ∙ length-replicate (length names) None;
  cell = λ at y c named is v. (
    (λ e. absurd (let none : None ≡ c = all_none at c is in let no : None ≡ Some v = none ∙ e in cc)),
    (λ (k, low, e). absurd (omega (arith, low))),
  );
}
  where
    all_none : (at : ℕ) (c : Option Value) → slice_get cells at ≡ Some c → None ≡ c
    all_none at c is =
        let low : at < length cells = slice_get_within cells at c is in
        let low' : at < length names = subst (λ n. at < n) (ap (λ (cs : List (Option Value)). length cs) are ∙ length-replicate (length names) None) low in
        sym (sym (get_or_from_slice_get cells at c c is) ∙ ap (λ (cs : List (Option Value)). get_or cs at c) are ∙ get_or-replicate (length names) at None c low')

map_replicate : {X Y : Type 0} (f : X → Y) (n : ℕ) (x : X) → map f (replicate n x) ≡ replicate n (f x)
map_replicate f zero x = refl
map_replicate f (suc n) x = ap (λ ys. f x ∷ ys) (map_replicate f n x)

-- empty cells, beside no value of a list
pub empty_cells : {X : Type 0} (f : X → Option Value) (names : List (List ℕ)) (cells : List X) (empty : X) → f empty ≡ None → cells ≡ replicate (length names) empty
    → IsColumn names [] (map f cells)
empty_cells f names cells empty none are =
    beside_none names (map f cells) (ap (map f) are ∙ map_replicate f (length names) empty ∙ ap (replicate (length names)) none)

-- the cell of a name, where the column was made beside these names
pub cell_at : {X : Type 0} (f : X → Option Value) (names others : List (List ℕ)) (values : FinalValues) (cells : List X) (at : ℕ) (x : List ℕ) (c : X)
    → IsColumn others values (map f cells) → others ≡ names → at < length names → x ≡ get_or names at x → c ≡ get_or cells at c → IsValueIn values x (f c)
cell_at {X} f names others values cells at x c beside same low named is =
    let column : IsColumn names values (map f cells) = subst (λ ns. IsColumn ns values (map f cells)) same beside in
    let low' : at < length cells = subst (λ n. at < n) (sym column.beside ∙ length-map cells f) low in
    column.cell at x (f c) (slice_get-get_or names at x low ∙ ap Some (sym named)) (get_in_map f cells at c (slice_get-get_or cells at c low' ∙ ap Some (sym is)))

module _ (base a b merged : FinalValues) where
  abbrev pub AreLinesOf : List (List ℕ) → List ℕ → Type 0
  AreLinesOf xs text = (rows : List Row) × (names_of rows ≡ xs) × All (IsRow base a b merged) rows × (text ≡ on_lines (map table_line rows))

  pub no_lines : AreLinesOf [] []
  no_lines = ([], refl, All-nil (IsRow base a b merged), refl)

  pub line_more : (xs : List (List ℕ)) (x : List ℕ) (out new line : List ℕ) → AreLinesOf xs out
      → ((row : Row) × (row.name ≡ x) × IsRow base a b merged row × (line ≡ table_line row)) → new ≡ out ++ (line ++ codes "\n") → AreLinesOf (xs ++ x ∷ []) new
  line_more xs x out new line (rows, are, cells, is) (row, named, cell, says) put = (
    rows ++ row ∷ [],
    map-append (λ (r : Row). r.name) rows (row ∷ []) ∙ ap₂ (λ (ys : List (List ℕ)) (y : List ℕ). ys ++ y ∷ []) are named,
    All-append (IsRow base a b merged) rows (row ∷ []) cells (All-from_recursion (IsRow base a b merged) (row ∷ []) (cell, tt)),
    put ∙ ap₂ (λ (t : List ℕ) (l : List ℕ). t ++ (l ++ codes "\n")) is says ∙ sym (last_line rows row),
  )
    where
      last_line : (rows : List Row) (row : Row) → on_lines (map table_line (rows ++ row ∷ [])) ≡ on_lines (map table_line rows) ++ (table_line row ++ codes "\n")
      last_line rows row = rw (map-append table_line rows (row ∷ [])) (flat_map-append _ (map table_line rows) (table_line row ∷ []) ∙ ap (λ (t : List ℕ). on_lines (map table_line rows) ++ t) (append-nil (table_line row ++ codes "\n")))

  pub next_line : (xs : List (List ℕ)) (i : ℕ) (x : List ℕ) (out new line : List ℕ) → i < length xs → x ≡ get_or xs i x → AreLinesOf (take i xs) out
      → ((row : Row) × (row.name ≡ x) × IsRow base a b merged row × (line ≡ table_line row)) → new ≡ out ++ (line ++ codes "\n") → AreLinesOf (take (i + 1) xs) new
  next_line xs i x out new line within at so_far row put =
      let one : take (i + 1) xs ≡ take i xs ++ x ∷ [] = take_more xs i x within ∙ ap (λ (y : List ℕ). take i xs ++ y ∷ []) (sym at) in
      subst (λ ys. AreLinesOf ys new) (sym one) (line_more (take i xs) x out new line so_far row put)

  pub table_is : (xs : List (List ℕ)) (text : List ℕ) → AreLinesOf xs text
      → ((x : List ℕ) → Contains xs x ↔ Contains (names_in base ++ names_in a ++ names_in b ++ names_in merged) x) → Ascends name_cmp xs → IsTableText base a b merged text
  table_is xs text (rows, are, cells, is) names up = (
    rows,
    record {
      names = subst (λ ys. (x : List ℕ) → Contains ys x ↔ Contains (names_in base ++ names_in a ++ names_in b ++ names_in merged) x) (sym are) names;
      ascending = subst (λ ys. Ascends name_cmp ys) (sym are) up;
      cells = cells;
    },
    is,
  )
