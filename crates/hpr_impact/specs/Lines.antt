-- The text of a file with marks at the front of its lines.
--
-- BeginsIn s P n   == a vertex that has P begins in the line n of the file s
-- line_mark marked == `> ` for a marked line, and else two blanks
-- IsMark P mark    == the mark of a line that is marked where P holds
-- IsOneLine line   == no byte of it is a newline
-- AreMarkedLines M n bytes text == the text is the bytes with its mark in front of each line, of which the
--                     first is the line n; those are marked that have M by their numbers
use Rattle.std.specs.Prelude.{◌≡◌, ◌≢◌, ℕ, ◌+◌, ◌⊎◌, Some, Bool, true, false, List, [], ◌∷◌, ◌++◌, Contains, codes}
use Rattle.hpr_graph.specs.declared.vertex.Vertex.{Vertex}
use Rattle.hpr_located.specs.declared.located.Located.{Located}
use Rattle.hpr_located.specs.Sources.{Standing}

abbrev pub BeginsIn : Standing → (Vertex → Type 0) → ℕ → Type 0
BeginsIn s P n = (v : Vertex) × (l : Located) × P v × (s.place v ≡ Some l) × (l.line ≡ n)

abbrev pub line_mark : Bool → List ℕ
line_mark true = codes "> "
line_mark false = codes "  "

abbrev pub IsMark : Type 0 → List ℕ → Type 0
IsMark P mark = (P × (mark ≡ line_mark true)) ⊎ ((¬ P) × (mark ≡ line_mark false))

-- 10 is a newline
abbrev pub IsOneLine : List ℕ → Type 0
IsOneLine line = ¬ Contains line 10

pub data AreMarkedLines (M : ℕ → Type 0) : ℕ → List ℕ → List ℕ → Type 0 where
  none : {n : ℕ} → AreMarkedLines M n [] []
  last : {n : ℕ} (mark line : List ℕ) → IsMark (M n) mark → IsOneLine line → line ≢ [] → AreMarkedLines M n line (mark ++ line)
  next : {n : ℕ} (mark line : List ℕ) {bytes text : List ℕ} → IsMark (M n) mark → IsOneLine line → AreMarkedLines M (n + 1) bytes text
      → AreMarkedLines M n (line ++ 10 ∷ bytes) (mark ++ (line ++ 10 ∷ text))
