-- How a place in a text is shown: its line and column, the line around it, and a caret under the byte.
--
-- place_of bytes n           == `LINE:COLUMN` of the byte n
-- shown b                    == the byte b as it is shown: a blank for a control byte, as a tab is, and `?`
--                               for DEL and for one that is not of ASCII
-- stays b                    == the byte b is no newline
-- left bytes n               == what stands before the byte n in its line, at most the last ROOM bytes of it
-- front bytes                == what stands before the first newline, at most the first ROOM bytes of it
-- head_text file line column == the line `FILE:LINE:COLUMN`
-- line_text before behind    == two lines: what stands before a place and the front of what stands from it
--                               on, as they are shown; and the caret
-- place_text file bytes n    == these three lines of the byte n
use Rattle.std.specs.Prelude.{ℕ, ◌-◌, min, Bool, not, ◌==◌, nat_lt, if◌then◌else◌, List, ◌++◌, length, map, drop, take, replicate, slice_range, codes}
use Rattle.std.specs.Fmt.{decimal}
use Rattle.std.specs.List.{prefix_len}
use Rattle.hpr_places.specs.Lines.{column_at, line_at}
use Rattle.hpr_kit.specs.declared.place.TheConstants.{ROOM}

abbrev pub place_of : List ℕ → ℕ → List ℕ
place_of bytes n = decimal (line_at bytes n) ++ codes ":" ++ decimal (column_at bytes n)

-- 32 is a blank, and 63 is `?`
abbrev pub shown : ℕ → ℕ
shown b = if nat_lt b 32 then 32 else (if nat_lt b 127 then b else 63)

-- 10 is a newline
abbrev pub stays : ℕ → Bool
stays b = not (b == 10)

abbrev pub left : List ℕ → ℕ → List ℕ
left bytes n = slice_range bytes (n - min ROOM (column_at bytes n - 1)) n

abbrev pub front : List ℕ → List ℕ
front bytes = take (min ROOM (prefix_len stays bytes)) bytes

unfoldable pub head_text : List ℕ → ℕ → ℕ → List ℕ
head_text file line column = file ++ codes ":" ++ decimal line ++ codes ":" ++ decimal column ++ codes "\n"

unfoldable pub line_text : List ℕ → List ℕ → List ℕ
line_text before behind =
    map shown before ++ map shown (front behind) ++ codes "\n" ++ replicate (length before) 32 ++ codes "^\n"

unfoldable pub place_text : List ℕ → List ℕ → ℕ → List ℕ
place_text file bytes n =
    head_text file (line_at bytes n) (column_at bytes n) ++ line_text (left bytes n) (drop n bytes)
